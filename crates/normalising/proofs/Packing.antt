-- Packets that carry items, one after another.
use Rattle.std.proofs.Common.{◌≡◌, ◌⊎◌, ℕ, ◌+◌, ◌≤◌, List, [], ◌∷◌, ◌++◌, length, map, take, drop, refl, sym, ap, ap₂, subst, ◌∙◌, inl, inr, arith, Result, Ok, Err, IfErr, OnErr, append-nil, append_assoc}
use Rattle.std.specs.List.{AllByRecursion}
use Rattle.std.proofs.lemmas.List.{map-append}
use Rattle.std.proofs.lemmas.List.Concat.{flat_map-append}
use Rattle.feed_types.specs.declared.item.Item.{Item}
use Rattle.feed_types.specs.declared.item.Numbered.{Numbered}
use Rattle.feed_types.specs.Sessions.{numbered_from, end_item}
use Rattle.text_out.specs.Devices.{Writing, Wrote}
use Rattle.mold_packet.specs.declared.packet.Kind.TheVariants as kinds
use Rattle.mold_packet.specs.Body.{body_kind, body_messages, packet_of}
use Rattle.mold_packet.specs.declared.body.Body.{Body}
use Rattle.mold_packet.specs.Content.{Content, IsContent, Spells, spelling}
use Rattle.quote_payload.specs.Payload.{item_of}
use Rattle.normalising.specs.Carried.{AreWritten, BeatsAt, IsMessageItem, RunsFrom, end_of_kind, items_carried}
use Rattle.item_packets.specs.laws.Parts.{all_append, row_back, row_front}
use Rattle.item_packets.specs.laws.Adding.{carried_next}
use Rattle.item_packets.specs.Filled.{packet_of_items}
use Rattle.normalising.specs.Texts.{datagram_text}
use Rattle.normalising.specs.Writes.{PutsFront, PutsPackets, PutsText, text_of}
use Rattle.normalising.specs.declared.output_form.OutputForm.{OutputForm}
use Rattle.normalising.specs.declared.packet_origin.PacketOrigin.{PacketOrigin}
use Rattle.normalising.proofs.Taking.{takes_both, wrote_after}

-- ---- packets

pub puts_none : {W : Type 0} (writing : Writing W) → ((s : W) → writing.adds s [] s)
    → (form : OutputForm) (origin : PacketOrigin) (last : ℕ) (w : W) (old : List ℕ)
    → PutsPackets writing form origin last [] w w old old
puts_none writing none form origin last w old = record {
  datagrams = [];
  written = record {
    packets = [];
    carry = record { each = tt; session = tt; carried = refl };
    heartbeats = tt;
    spelled = refl;
  };
  text = record { shown = []; wrote = none w; all = append-nil old; kept = refl };
}

pub puts_one : {W : Type 0} (writing : Writing W) (form : OutputForm) (origin : PacketOrigin)
    (last : ℕ) (from to : W) (old new : List ℕ) (p : Content) (bytes : List ℕ)
    → Spells bytes p [] → p.session ≡ origin.session
    → (p.kind ≡ kinds.Heartbeat → p.number ≡ last + 1)
    → PutsText writing from to old (datagram_text form origin.venue origin.time bytes) new
    → PutsPackets writing form origin last (items_carried p) from to old new
puts_one writing form origin last from to old new p bytes s name beat t = record {
  datagrams = bytes ∷ [];
  written = record {
    packets = p ∷ [];
    carry = record {
      each = (s.content, tt);
      session = (name, tt);
      carried = append-nil (items_carried p);
    };
    heartbeats = (beat, tt);
    spelled = ap (λ (b : List ℕ). b ∷ []) (s.spelled ∙ append-nil (spelling p));
  };
  text = subst (λ (z : List ℕ). PutsText writing from to old z new)
      (sym (append-nil (datagram_text form origin.venue origin.time bytes))) t;
}

pub written_both : (name : List ℕ) (last : ℕ) (xs ys : List Numbered) (ds es : List (List ℕ))
    → AreWritten name last xs ds → AreWritten name last ys es
    → AreWritten name last (xs ++ ys) (ds ++ es)
written_both name last xs ys ds es a b = record {
  packets = a.packets ++ b.packets;
  carry = record {
    each = all_append IsContent a.packets b.packets a.carry.each b.carry.each;
    session = all_append (λ (p : Content). p.session ≡ name) a.packets b.packets
        a.carry.session b.carry.session;
    carried = flat_map-append items_carried a.packets b.packets
        ∙ ap₂ (λ (u v : List Numbered). u ++ v) a.carry.carried b.carry.carried;
  };
  heartbeats = all_append (BeatsAt last) a.packets b.packets a.heartbeats b.heartbeats;
  spelled = ap₂ (λ (u v : List (List ℕ)). u ++ v) a.spelled b.spelled
      ∙ sym (map-append spelling a.packets b.packets);
}

pub puts_both : {W : Type 0} (writing : Writing W) (form : OutputForm) (origin : PacketOrigin)
    (last : ℕ) (xs ys : List Numbered) (from mid to : W) (old between new : List ℕ)
    → ((s t u : W) (cs bs : List ℕ) → writing.adds s cs t → writing.adds t bs u
    → writing.adds s (cs ++ bs) u)
    → PutsPackets writing form origin last xs from mid old between
    → PutsPackets writing form origin last ys mid to between new
    → PutsPackets writing form origin last (xs ++ ys) from to old new
puts_both writing form origin last xs ys from mid to old between new adds_more a b = record {
  datagrams = a.datagrams ++ b.datagrams;
  written = written_both origin.session last xs ys a.datagrams b.datagrams a.written b.written;
  text = subst (λ (z : List ℕ). PutsText writing from to old z new)
      (sym (flat_map-append (datagram_text form origin.venue origin.time) a.datagrams
      b.datagrams))
      (takes_both writing from mid to old (text_of form origin a.datagrams) between
      (text_of form origin b.datagrams) new adds_more a.text b.text);
}

-- ---- messages in packets

-- one packet of a row's next items more
pub packet_more : {W : Type 0} (writing : Writing W)
    → ((s t u : W) (cs bs : List ℕ) → writing.adds s cs t → writing.adds t bs u
    → writing.adds s (cs ++ bs) u)
    → (form now : OutputForm) (origin : PacketOrigin) (last number from n : ℕ)
    (items rest : List Numbered) (its : List Item) (bytes : List ℕ) (w1 w2 w3 : W)
    (p1 p2 p3 : List ℕ) → now ≡ form
    → items ≡ numbered_from number its → AllByRecursion IsMessageItem its → rest ≡ drop from items
    → PutsPackets writing form origin last (take from items) w1 w2 p1 p2
    → Spells bytes (packet_of_items origin.session (number + from) n rest) []
    → ((more : List Item) → rest ≡ numbered_from (number + from) more
    → AllByRecursion IsMessageItem more
    → items_carried (packet_of_items origin.session (number + from) n rest) ≡ take n rest)
    → PutsText writing w2 w3 p2 (datagram_text now origin.venue origin.time bytes) p3
    → PutsPackets writing form origin last (take (from + n) items) w1 w3 p1 p3
packet_more writing adds_more form now origin last number from n items rest its bytes w1 w2 w3 p1 p2
    p3 same is each after before spelled carried taken =
    subst (λ (z : List Numbered). PutsPackets writing form origin last z w1 w3 p1 p3)
    (carried_next origin.session number from n items rest its is each after carried)
    (puts_both writing form origin last _ _ w1 w2 w3 p1 p2 p3 adds_more before
    (puts_one writing form origin last w2 w3 p2 p3 _ bytes spelled refl (λ e. absurd cc)
    (subst (λ (f : OutputForm).
    PutsText writing w2 w3 p2 (datagram_text f origin.venue origin.time bytes) p3) same taken)))

-- a packet without messages
pub empty_packet : {W : Type 0} (writing : Writing W) (form : OutputForm) (origin : PacketOrigin)
    (last number : ℕ) (body : Body) (bytes : List ℕ) (from to : W) (old new : List ℕ)
    → body_messages body ≡ []
    → Spells bytes (packet_of origin.session number body) []
    → PutsText writing from to old (datagram_text form origin.venue origin.time bytes) new
    → (body_kind body ≡ kinds.Heartbeat → number ≡ last + 1)
    → PutsPackets writing form origin last (end_of_kind (body_kind body) number) from to old new
empty_packet writing form origin last number body bytes from to old new none spelled taken beat =
    subst (λ (z : List Numbered). PutsPackets writing form origin last z from to old new)
    (ap (λ (ms : List (List ℕ)).
    numbered_from number (map item_of ms) ++ end_of_kind (body_kind body) number) none)
    (puts_one writing form origin last from to old new (packet_of origin.session number body) bytes
    spelled refl beat taken)

-- ---- items in a row

-- a row is its messages, and then its end
record IsParted (first count : ℕ) (items front rest : List Numbered)
    (its : List Item) : Type 0 where
  row : front ≡ numbered_from first its
  end : (rest ≡ []) ⊎ (rest ≡ end_item (first + length its) ∷ [])
  whole : front ++ rest ≡ items

parted : (first count : ℕ) (items front rest : List Numbered) (run : RunsFrom first items)
    → count ≡ length run.items → front ≡ take count items → rest ≡ drop count items
    → IsParted first count items front rest run.items
parted first count items front rest run len fronts rests =
    let row : front ≡ numbered_from first run.items =
    fronts ∙ ap₂ (λ (n : ℕ) (z : List Numbered). take n z) len run.is
    ∙ row_front first run.items run.ends in
    let tail : rest ≡ run.ends =
    rests ∙ ap₂ (λ (n : ℕ) (z : List Numbered). drop n z) len run.is
    ∙ row_back first run.items run.ends in
    record {
      row = row;
      end = by_end tail run.end;
      whole = ap₂ (λ (a b : List Numbered). a ++ b) row tail ∙ sym run.is;
    }
  where
    by_end : rest ≡ run.ends
        → (run.ends ≡ []) ⊎ (run.ends ≡ end_item (first + length run.items) ∷ [])
        → (rest ≡ []) ⊎ (rest ≡ end_item (first + length run.items) ∷ [])
    by_end tail (inl h) = inl (tail ∙ h)
    by_end tail (inr h) = inr (tail ∙ h)

-- the messages of a row, and then its end
pub items_put : {W : Type 0} (writing : Writing W)
    → ((s t u : W) (cs bs : List ℕ) → writing.adds s cs t → writing.adds t bs u
    → writing.adds s (cs ++ bs) u)
    → (form now : OutputForm) (origin : PacketOrigin) (last first count : ℕ)
    (items front rest : List Numbered) (w1 w2 w3 : W) (p1 p2 p3 : List ℕ)
    → now ≡ form → (run : RunsFrom first items) → 1 ≤ first → count ≡ length run.items
    → front ≡ take count items → rest ≡ drop count items
    → ((last first : ℕ) (its : List Item) → 1 ≤ first → front ≡ numbered_from first its
    → AllByRecursion IsMessageItem its
    → PutsPackets writing form origin last front w1 w2 p1 p2)
    → ((last number : ℕ) → 1 ≤ number → (rest ≡ []) ⊎ (rest ≡ end_item number ∷ [])
    → PutsPackets writing now origin last rest w2 w3 p2 p3)
    → PutsPackets writing form origin last items w1 w3 p1 p3
items_put writing adds_more form now origin last first count items front rest w1 w2 w3 p1 p2 p3
    same run one len fronts rests puts ends =
    let p = parted first count items front rest run len fronts rests in
    subst (λ (z : List Numbered). PutsPackets writing form origin last z w1 w3 p1 p3) p.whole
    (puts_both writing form origin last front rest w1 w2 w3 p1 p2 p3 adds_more
    (puts last first run.items one p.row run.each)
    (subst (λ (f : OutputForm). PutsPackets writing f origin last rest w2 w3 p2 p3) same
    (ends last (first + length run.items) (omega (arith, one)) p.end)))

-- ---- a writer that failed

pub front_none : {W : Type 0} (writing : Writing W) (form : OutputForm) (origin : PacketOrigin)
    (last : ℕ) (output : List Numbered) (from to : W) (old : List ℕ)
    → Wrote writing.adds from old to → writing.failures to ≡ writing.failures from + 1
    → PutsFront writing form origin last output from to old
front_none writing form origin last output from to old part failed = record {
  front = [];
  rest = output;
  is = refl;
  datagrams = [];
  written = record {
    packets = [];
    carry = record { each = tt; session = tt; carried = refl };
    heartbeats = tt;
    spelled = refl;
  };
  wrote = subst (λ (z : List ℕ). Wrote writing.adds from z to) (sym (append-nil old)) part;
  failed = failed;
}

-- after packets that were written
pub front_after : {W : Type 0} (writing : Writing W) (form : OutputForm) (origin : PacketOrigin)
    (last : ℕ) (xs ys : List Numbered) (from mid to : W) (old between : List ℕ)
    → ((s t u : W) (cs bs : List ℕ) → writing.adds s cs t → writing.adds t bs u
    → writing.adds s (cs ++ bs) u)
    → PutsPackets writing form origin last xs from mid old between
    → PutsFront writing form origin last ys mid to between
    → PutsFront writing form origin last (xs ++ ys) from to old
front_after writing form origin last xs ys from mid to old between adds_more a b = record {
  front = xs ++ b.front;
  rest = b.rest;
  is = ap (λ (z : List Numbered). xs ++ z) b.is ∙ sym (append_assoc xs b.front b.rest);
  datagrams = a.datagrams ++ b.datagrams;
  written = written_both origin.session last xs b.front a.datagrams b.datagrams a.written
      b.written;
  wrote = subst (λ (z : List ℕ). Wrote writing.adds from (old ++ z) to)
      (sym (flat_map-append (datagram_text form origin.venue origin.time) a.datagrams
      b.datagrams))
      (wrote_after writing.adds adds_more from mid to old (text_of form origin a.datagrams)
      between (text_of form origin b.datagrams) a.text.shown a.text.wrote a.text.all b.wrote);
  failed = b.failed ∙ ap (λ (n : ℕ). n + 1) a.text.kept;
}

-- a front of the first is one of both
pub front_longer : {W : Type 0} (writing : Writing W) (form : OutputForm) (origin : PacketOrigin)
    (last : ℕ) (xs ys : List Numbered) (from to : W) (old : List ℕ)
    → PutsFront writing form origin last xs from to old
    → PutsFront writing form origin last (xs ++ ys) from to old
front_longer writing form origin last xs ys from to old a = record {
  front = a.front;
  rest = a.rest ++ ys;
  is = ap (λ (z : List Numbered). z ++ ys) a.is ∙ append_assoc a.front a.rest ys;
  datagrams = a.datagrams;
  written = a.written;
  wrote = a.wrote;
  failed = a.failed;
}

pub front_on_err : {W A E : Type 0} (writing : Writing W) (form : OutputForm)
    (origin : PacketOrigin) (output : List Numbered) (from to : W) (old : List ℕ)
    (r : Result A E) → OnErr r (Wrote writing.adds from old to)
    → OnErr r (writing.failures to ≡ writing.failures from + 1)
    → OnErr r ((last : ℕ) → PutsFront writing form origin last output from to old)
front_on_err writing form origin output from to old (Ok x) part failed = tt
front_on_err writing form origin output from to old (Err e) part failed = λ last.
    front_none writing form origin last output from to old part failed

pub if_err_weaker : {A E : Type 0} {P Q : E → Type 0} (r : Result A E)
    → ((e : E) → P e → Q e) → IfErr r P → IfErr r Q
if_err_weaker (Ok x) f p = tt
if_err_weaker (Err e) f p = f e p

pub on_err_weaker_of : {A E P Q : Type 0} (r : Result A E) → (P → Q) → OnErr r P → OnErr r Q
on_err_weaker_of (Ok x) f p = tt
on_err_weaker_of (Err e) f p = f p

-- the writer failed in the messages of a row
pub run_stopped : {W : Type 0} (writing : Writing W) (form : OutputForm) (origin : PacketOrigin)
    (last first count : ℕ) (items front rest : List Numbered) (w1 w2 : W) (p1 : List ℕ)
    → (run : RunsFrom first items) → 1 ≤ first → count ≡ length run.items
    → front ≡ take count items → rest ≡ drop count items
    → ((last first : ℕ) (its : List Item) → 1 ≤ first → front ≡ numbered_from first its
    → AllByRecursion IsMessageItem its
    → PutsFront writing form origin last front w1 w2 p1)
    → PutsFront writing form origin last items w1 w2 p1
run_stopped writing form origin last first count items front rest w1 w2 p1 run one len fronts rests
    stopped =
    let p = parted first count items front rest run len fronts rests in
    subst (λ (z : List Numbered). PutsFront writing form origin last z w1 w2 p1) p.whole
    (front_longer writing form origin last front rest w1 w2 p1
    (stopped last first run.items one p.row run.each))

-- the writer failed at the end of a row
pub end_stopped : {W : Type 0} (writing : Writing W)
    → ((s t u : W) (cs bs : List ℕ) → writing.adds s cs t → writing.adds t bs u
    → writing.adds s (cs ++ bs) u)
    → (form now : OutputForm) (origin : PacketOrigin) (last first count : ℕ)
    (items front rest : List Numbered) (w1 w2 w3 : W) (p1 p2 : List ℕ)
    → now ≡ form → (run : RunsFrom first items) → 1 ≤ first → count ≡ length run.items
    → front ≡ take count items → rest ≡ drop count items
    → ((last first : ℕ) (its : List Item) → 1 ≤ first → front ≡ numbered_from first its
    → AllByRecursion IsMessageItem its
    → PutsPackets writing form origin last front w1 w2 p1 p2)
    → ((last number : ℕ) → 1 ≤ number → (rest ≡ []) ⊎ (rest ≡ end_item number ∷ [])
    → PutsFront writing now origin last rest w2 w3 p2)
    → PutsFront writing form origin last items w1 w3 p1
end_stopped writing adds_more form now origin last first count items front rest w1 w2 w3 p1 p2
    same run one len fronts rests puts ends =
    let p = parted first count items front rest run len fronts rests in
    subst (λ (z : List Numbered). PutsFront writing form origin last z w1 w3 p1) p.whole
    (front_after writing form origin last front rest w1 w2 w3 p1 p2 adds_more
    (puts last first run.items one p.row run.each)
    (subst (λ (f : OutputForm). PutsFront writing f origin last rest w2 w3 p2) same
    (ends last (first + length run.items) (omega (arith, one)) p.end)))
