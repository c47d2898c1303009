-- An end of session, whose number is one more.
use Rattle.std.proofs.Common.{Result, Ok, Err, ◌≡◌, ℕ, ◌+◌, ◌<◌, ◌≤◌, Bool, true, false, List, [], ◌++◌, length, take, refl, sym, ap, subst, ◌∙◌, arith, append-nil, take_all, length-take-le}
use Rattle.std.specs.Prelude.{IfOk, nat_lt, if◌then◌else◌, ◌&&◌}
use Rattle.std.proofs.lemmas.Bool.Decides.{nat_tests}
use Rattle.std.specs.Result.{is_err}
use Rattle.std.proofs.lemmas.Bool.{false≢true}
use Rattle.mold_packet.specs.declared.fault.PacketFault.{PacketFault}
use Rattle.mold_packet.specs.declared.packet.Kind.{Kind}
use Rattle.mold_packet.specs.declared.packet.Kind.TheVariants as kinds
use Rattle.mold_packet.specs.declared.body.Body.TheVariants as bodies
use Rattle.mold_packet.specs.Body.{packet_of}
use Rattle.mold_packet.specs.Content.{Content, IsContent, KindFits, Spells}
use Rattle.mold_packet.specs.Header.{header}
use Rattle.mold_packet.specs.Faults.{HasFault}
use Rattle.mold_packet.specs.Writing.{WritesFirst}
use Rattle.mold_packet.specs.laws.HeaderFields.{length-header}
use Rattle.mold_packet.specs.laws.OneReading.{no_fault, same_packet}
use Rattle.venue_normaliser.specs.declared.end_number.EndNumber.TheVariants.{Last}
use Rattle.venue_normaliser.specs.Ends.{is_end, read_as}

pub end_moved : (p : Content) (number : ℕ) → p.kind ≡ kinds.End → IsContent p
    → number ≡ p.number + 1 → number < 18446744073709551616
    → packet_of p.session number bodies.End ≡ read_as Last p
end_moved p number kind content is small =
    let none : p.messages ≡ [] = subst (λ (k : Kind). KindFits k p.messages) kind content.fits in
    let less : nat_lt p.number 18446744073709551615 ≡ true = grind (arith, nat_tests) in
    let test : (is_end p.kind && nat_lt p.number 18446744073709551615) ≡ true =
    ap (λ (k : Kind). is_end k && nat_lt p.number 18446744073709551615) kind ∙ less in
    ap (λ (k : Kind). the_content p.session number k []) (sym kind)
    ∙ ap (λ (ms : List (List ℕ)). the_content p.session number p.kind ms) (sym none)
    ∙ ap (λ (n : ℕ). the_content p.session n p.kind p.messages) is
    ∙ sym (ap (λ (b : Bool). if b then record p { number = p.number + 1; ignored = 0 } else p)
    test)
  where
    the_content : List ℕ → ℕ → Kind → List (List ℕ) → Content
    the_content session number kind messages = record {
      session = session;
      number = number;
      kind = kind;
      messages = messages;
      ignored = 0;
    }

pub end_greatest : (p : Content) → 18446744073709551615 ≤ p.number → read_as Last p ≡ p
end_greatest p most =
    ap (λ (b : Bool). if b then record p { number = p.number + 1; ignored = 0 } else p)
    (and_false (is_end p.kind) (nat_lt p.number 18446744073709551615)
    (let no : nat_lt p.number 18446744073709551615 ≡ false = grind (arith, nat_tests) in no))
  where
    and_false : (b c : Bool) → c ≡ false → (b && c) ≡ false
    and_false true c e = e
    and_false false c e = refl

-- an end has 20 bytes, which are all that was written
pub end_written : (n : ℕ) (bytes session : List ℕ) (number : ℕ) → length bytes ≡ 20 → n ≤ 20
    → Spells (take n bytes) (packet_of session number bodies.End) []
    → Spells bytes (packet_of session number bodies.End) []
end_written n bytes session number len most spelled =
    let twenty = length-header session number 65535 spelled.content.session in
    let size = ap length (spelled.spelled ∙ append-nil (header session number 65535 ++ [])
    ∙ append-nil (header session number 65535)) in
    let cut = length-take-le n bytes (omega arith) in
    subst (λ (b : List ℕ). Spells b (packet_of session number bodies.End) [])
    (take_all n bytes (omega arith)) spelled

-- what was written, where nothing was refused
pub end_whole : (session : List ℕ) (number : ℕ) (written : Result ℕ PacketFault)
    (old new : List ℕ) → length old ≡ 20 → length new ≡ 20 → is_err written ≡ false
    → IfOk written (λ n. Spells (take n new) (packet_of session number bodies.End) [])
    → IfOk written (λ n. WritesFirst n old new)
    → Spells new (packet_of session number bodies.End) []
end_whole session number (Ok n) old new before after ok spelled first =
    let room = first.room in
    end_written n new session number after (omega arith) spelled
end_whole session number (Err fault) old new before after ok spelled first =
    absurd (false≢true (sym ok))

pub end_read : (p : Content) (session : List ℕ) (number : ℕ) (new : List ℕ) (end : Content)
    (rest : List ℕ) → p.kind ≡ kinds.End → IsContent p → session ≡ p.session
    → number ≡ p.number + 1 → number < 18446744073709551616
    → Spells new (packet_of session number bodies.End) [] → Spells new end rest
    → end ≡ read_as Last p
end_read p session number new end rest kind content name is small whole read =
    same_packet new end (packet_of session number bodies.End) rest [] read whole
    ∙ ap (λ (s : List ℕ). packet_of s number bodies.End) name
    ∙ end_moved p number kind content is small

pub end_sound : (p : Content) (new : List ℕ) (fault : PacketFault) → Spells new p []
    → HasFault new fault → ⊥
end_sound p new fault whole bad = no_fault new p [] fault whole bad
