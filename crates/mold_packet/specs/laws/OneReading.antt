-- Bytes spell one packet, or have one fault.
use Rattle.std.proofs.Common.{◌≡◌, ℕ, ◌^◌, ◌<◌, Bool, false, List, [], ◌∷◌, ◌++◌, length, refl, sym, ap, subst, ◌∙◌, append_assoc, arith, length-append}
use Rattle.std.specs.Prelude.{◌==◌, if◌then◌else◌}
use Rattle.std.specs.List.{flat_map, AllByRecursion}
use Rattle.std.proofs.lemmas.Bool.{ne_eqb}
use Rattle.std.proofs.lemmas.List.{append_cancel_left}
use Rattle.mold_packet.specs.declared.packet.Kind.{Kind}
use Rattle.mold_packet.specs.declared.packet.Kind.TheVariants.{Messages, Heartbeat, End}
use Rattle.mold_packet.specs.declared.fault.PacketFault.{PacketFault}
use Rattle.mold_packet.specs.declared.fault.PacketFault.TheVariants.{ShortHeader, TruncatedBlock, ZeroSequence, SequenceOverflow, BufferTooSmall, BadRequestLength}
use Rattle.mold_packet.specs.Block.{block, IsMessage, IsCut, HasBlocks, CutShort, blocks_at}
use Rattle.mold_packet.specs.Content.{Content, KindFits, count_field, spelling, Spells}
use Rattle.mold_packet.specs.Faults.{blocks_wanted, IsWhole, HasFault}
use Rattle.mold_packet.specs.Header.{header, count_at}
use Rattle.mold_packet.specs.laws.Cutting.{blocks_at-flat_map, blocks_at-block, flat_map-first, not_cut}
use Rattle.mold_packet.specs.laws.HeaderFields.{Parts, parts, length-header}

kind_at : ℕ → Kind
kind_at count = if count == 0 then Heartbeat else (if count == 65535 then End else Messages)

count_small : (kind : Kind) (ms : List (List ℕ)) → KindFits kind ms → count_field kind ms < 2 ^ 16
count_small Messages ms h = omega (arith, h.1)
count_small Heartbeat ms h = omega arith
count_small End ms h = omega arith

-- the header and the body of a spelling
pub parts_of : (bytes : List ℕ) (p : Content) (rest : List ℕ) → Spells bytes p rest
    → Parts bytes p.session p.number (count_field p.kind p.messages)
    (flat_map block p.messages ++ rest)
parts_of bytes p rest s =
    parts bytes p.session p.number (count_field p.kind p.messages)
    (flat_map block p.messages ++ rest) s.content.session s.content.small
    (count_small p.kind p.messages s.content.fits)
    (s.spelled ∙ append_assoc (header p.session p.number (count_field p.kind p.messages))
    (flat_map block p.messages) rest)

kind_is : (kind : Kind) (ms : List (List ℕ)) → KindFits kind ms
    → kind ≡ kind_at (count_field kind ms)
unfolding kind_at
kind_is Messages ms h =
    let a : (length ms == 0) ≡ false = ne_eqb (length ms) 0 (λ e. omega (arith, h.0)) in
    let b : (length ms == 65535) ≡ false = ne_eqb (length ms) 65535 (λ e. omega (arith, h.1)) in
    sym (ap (λ (t : Bool). if t then Heartbeat else (if length ms == 65535 then End else Messages))
    a ∙ ap (λ (t : Bool). if t then End else Messages) b)
kind_is Heartbeat ms h = refl
kind_is End ms h = refl

messages_are : (kind : Kind) (ms : List (List ℕ)) (rest : List ℕ) → KindFits kind ms
    → AllByRecursion IsMessage ms
    → ms ≡ blocks_at (blocks_wanted (count_field kind ms)) (flat_map block ms ++ rest)
messages_are Messages ms rest h each =
    let b : (length ms == 65535) ≡ false = ne_eqb (length ms) 65535 (λ e. omega (arith, h.1)) in
    sym (ap (λ (t : Bool). blocks_at (if t then 0 else length ms) (flat_map block ms ++ rest)) b
    ∙ blocks_at-flat_map ms rest each)
messages_are Heartbeat ms rest h each = h
messages_are End ms rest h each = h

same_messages : (bytes : List ℕ) (p q : Content) (rest more : List ℕ) → Spells bytes p rest
    → Spells bytes q more → p.messages ≡ q.messages
same_messages bytes p q rest more s t =
    let a = parts_of bytes p rest s in
    let b = parts_of bytes q more t in
    messages_are p.kind p.messages rest s.content.fits s.content.each
    ∙ ap (λ (k : ℕ). blocks_at (blocks_wanted k) (flat_map block p.messages ++ rest))
    (sym a.count_is ∙ b.count_is)
    ∙ ap (λ (x : List ℕ). blocks_at (blocks_wanted (count_field q.kind q.messages)) x)
    (sym a.body_is ∙ b.body_is)
    ∙ sym (messages_are q.kind q.messages more t.content.fits t.content.each)

pub same_rest : (bytes : List ℕ) (p q : Content) (rest more : List ℕ) → Spells bytes p rest
    → Spells bytes q more → rest ≡ more
same_rest bytes p q rest more s t =
    let a = parts_of bytes p rest s in
    let b = parts_of bytes q more t in
    append_cancel_left (flat_map block p.messages) rest more
    (sym a.body_is ∙ b.body_is
    ∙ ap (λ (ms : List (List ℕ)). flat_map block ms ++ more)
    (sym (same_messages bytes p q rest more s t)))

pub same_packet : (bytes : List ℕ) (p q : Content) (rest more : List ℕ) → Spells bytes p rest
    → Spells bytes q more → p ≡ q
same_packet bytes p q rest more s t =
    let a = parts_of bytes p rest s in
    let b = parts_of bytes q more t in
    let kind : p.kind ≡ q.kind =
    kind_is p.kind p.messages s.content.fits ∙ ap kind_at (sym a.count_is ∙ b.count_is)
    ∙ sym (kind_is q.kind q.messages t.content.fits) in
    let messages : p.messages ≡ q.messages = same_messages bytes p q rest more s t in
    let ignored : p.ignored ≡ q.ignored =
    s.ignored ∙ ap (λ (x : List ℕ). length x) (same_rest bytes p q rest more s t)
    ∙ sym t.ignored in
    λ i. record {
      session =
          (sym a.session_is ∙ b.session_is) i;
      number = (sym a.number_is ∙ b.number_is) i;
      kind = kind i;
      messages = messages i;
      ignored = ignored i;
    }

wanted_is : (kind : Kind) (ms : List (List ℕ)) → KindFits kind ms
    → blocks_wanted (count_field kind ms) ≡ length ms
wanted_is Messages ms h =
    let b : (length ms == 65535) ≡ false =
    ne_eqb (length ms) 65535 (λ e. omega (arith, h.1)) in
    ap (λ (t : Bool). if t then 0 else length ms) b
wanted_is Heartbeat ms h = sym (ap (λ (x : List (List ℕ)). length x) h)
wanted_is End ms h = sym (ap (λ (x : List (List ℕ)). length x) h)

-- blocks that are whole are not cut among the first of them
never_short : (ws ms : List (List ℕ)) (part rest : List ℕ) → length ws < length ms
    → AllByRecursion IsMessage ws → AllByRecursion IsMessage ms
    → flat_map block ws ++ part ≡ flat_map block ms ++ rest → IsCut part → ⊥
never_short ws [] part rest fewer each all e cut = omega arith
never_short [] (m ∷ ms) part rest fewer each all e cut =
    not_cut m (flat_map block ms ++ rest) all.0
    (subst (λ (x : List ℕ). IsCut x) (e ∙ flat_map-first m ms rest) cut)
never_short (w ∷ ws) (m ∷ ms) part rest fewer each all e cut =
    let both : block w ++ (flat_map block ws ++ part) ≡ block m ++ (flat_map block ms ++ rest) =
    sym (flat_map-first w ws part) ∙ e ∙ flat_map-first m ms rest in
    let first : w ∷ [] ≡ m ∷ [] =
    sym (blocks_at-block 0 w (flat_map block ws ++ part) each.0) ∙ ap (blocks_at 1) both
    ∙ blocks_at-block 0 m (flat_map block ms ++ rest) all.0 in
    let same : w ≡ m = cc in
    never_short ws ms part rest (omega arith) each.1 all.1
    (append_cancel_left (block w) (flat_map block ws ++ part) (flat_map block ms ++ rest)
    (both ∙ ap (λ (x : List ℕ). block x ++ (flat_map block ms ++ rest)) (sym same))) cut

not_short : (n : ℕ) (bytes : List ℕ) (ms : List (List ℕ)) (rest : List ℕ)
    → HasBlocks n bytes ms rest → CutShort n bytes → ⊥
not_short n bytes ms rest all short =
    let few = short.fewer in
    never_short short.whole ms short.part rest (omega (arith, all.count)) short.each all.each
    (sym short.spelled ∙ all.spelled) short.cut

-- what is spelled is whole
whole_of : (bytes : List ℕ) (p : Content) (rest : List ℕ) → Spells bytes p rest → IsWhole bytes
whole_of bytes p rest s =
    let a = parts_of bytes p rest s in
    let k = ap (λ (x : List ℕ). length x) s.spelled in
    record {
      header =
          omega (
            arith,
            length-append (spelling p) rest,
            length-append
                (header p.session p.number (count_field p.kind p.messages))
                (flat_map block p.messages),
            length-header p.session p.number
                (count_field p.kind p.messages) s.content.session,
          );
      messages = p.messages;
      rest = rest;
      blocks = record {
        count = sym (ap blocks_wanted a.count_is ∙ wanted_is p.kind p.messages s.content.fits);
        each = s.content.each;
        spelled = a.body_is;
      };
    }

pub no_fault : (bytes : List ℕ) (p : Content) (rest : List ℕ) (fault : PacketFault)
    → Spells bytes p rest → HasFault bytes fault → ⊥
no_fault bytes p rest ShortHeader s h = let w = (whole_of bytes p rest s).header in omega arith
no_fault bytes p rest TruncatedBlock s h =
    let w = whole_of bytes p rest s in not_short _ _ w.messages w.rest w.blocks h.1
no_fault bytes p rest ZeroSequence s h =
    let a = (parts_of bytes p rest s).number_is in
    let k = s.content.from_one in
    let z = h.1 in
    omega arith
no_fault bytes p rest SequenceOverflow s h =
    let a = parts_of bytes p rest s in
    let n = a.number_is in
    let wanted : blocks_wanted (count_at bytes) ≡ length p.messages =
    ap blocks_wanted a.count_is ∙ wanted_is p.kind p.messages s.content.fits in
    let top = s.content.in_range in
    let over = h.3 in
    omega arith
no_fault bytes p rest BufferTooSmall s h = h
no_fault bytes p rest BadRequestLength s h = h

pub same_fault : (bytes : List ℕ) (f g : PacketFault) → HasFault bytes f → HasFault bytes g → f ≡ g
same_fault bytes ShortHeader ShortHeader h k = refl
same_fault bytes ShortHeader TruncatedBlock h k = let long = k.0 in absurd (omega arith)
same_fault bytes ShortHeader ZeroSequence h k = let long = k.0.header in absurd (omega arith)
same_fault bytes ShortHeader SequenceOverflow h k = let long = k.0.header in absurd (omega arith)
same_fault bytes TruncatedBlock ShortHeader h k = let long = h.0 in absurd (omega arith)
same_fault bytes TruncatedBlock TruncatedBlock h k = refl
same_fault bytes TruncatedBlock ZeroSequence h k =
    absurd (not_short _ _ k.0.messages k.0.rest k.0.blocks h.1)
same_fault bytes TruncatedBlock SequenceOverflow h k =
    absurd (not_short _ _ k.0.messages k.0.rest k.0.blocks h.1)
same_fault bytes ZeroSequence ShortHeader h k = let long = h.0.header in absurd (omega arith)
same_fault bytes ZeroSequence TruncatedBlock h k =
    absurd (not_short _ _ h.0.messages h.0.rest h.0.blocks k.1)
same_fault bytes ZeroSequence ZeroSequence h k = refl
same_fault bytes ZeroSequence SequenceOverflow h k =
    let zero_ = h.1 in let one = k.1 in absurd (omega arith)
same_fault bytes SequenceOverflow ShortHeader h k = let long = h.0.header in absurd (omega arith)
same_fault bytes SequenceOverflow TruncatedBlock h k =
    absurd (not_short _ _ h.0.messages h.0.rest h.0.blocks k.1)
same_fault bytes SequenceOverflow ZeroSequence h k =
    let one = h.1 in let zero_ = k.1 in absurd (omega arith)
same_fault bytes SequenceOverflow SequenceOverflow h k = refl
same_fault bytes BufferTooSmall g h k = absurd h
same_fault bytes BadRequestLength g h k = absurd h
same_fault bytes f BufferTooSmall h k = absurd k
same_fault bytes f BadRequestLength h k = absurd k
