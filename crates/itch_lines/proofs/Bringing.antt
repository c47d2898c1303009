-- What a section brings of a venue.
use Rattle.std.proofs.Common.{◌≡◌, ℕ, ◌+◌, ◌<◌, ◌≤◌, List, [], ◌++◌, Bool, true, false, length, sym, ap, subst, ◌∙◌, arith, Ok, Err, Result, refl}
use Rattle.std.specs.Prelude.{Option}
use Rattle.feed_types.specs.declared.line.LineId.{LineId}
use Rattle.feed_types.specs.declared.item.Numbered.{Numbered}
use Rattle.line_arbiter.specs.Packets.{Input}
use Rattle.line_arbiter.specs.Renewals.{IsRenewal}
use Rattle.line_arbiter.specs.declared.outcome.Outcome.{Outcome}
use Rattle.line_arbiter.specs.declared.outcome.LineFault.{LineFault}
use Rattle.line_arbiter.specs.declared.faults.RenewFault.{RenewFault}
use Rattle.line_arbiter.specs.declared.faults.RenewFault.TheVariants.{NotEnded, SessionUsed, TooManySessions}
use Rattle.mold_packet.specs.Content.{Content}
use Rattle.venue_normaliser.specs.Outputs.{IsPutOut}
use Rattle.venue_normaliser.specs.States.{FitsPackets, NormaliserState, PutsOut}
use Rattle.item_packets.specs.Carried.{RunsFrom}
use Rattle.item_packets.specs.Packed.{ArePacked}
use Rattle.item_packets.specs.laws.Rows.{more_runs}
use Rattle.itch_lines.specs.Sections.{BeginsOrKeeps, BringsMore, MakesOfPacket, since_begun}

-- what was ready was packed
pub brings_ready : (name keys : List ℕ) (packets later : List Input)
    (put start ready : List Numbered) (made : List (List ℕ)) → start ≡ []
    → PutsOut keys packets later start ready → IsPutOut keys packets put
    → ((first : ℕ) → 1 ≤ first → RunsFrom first ready → ArePacked name ready made)
    → BringsMore name keys later put made
brings_ready name keys packets later put start ready made none puts out pack =
    let is : ready ≡ puts.more =
    puts.appended ∙ ap (λ (z : List Numbered). z ++ puts.more) none in
    let whole : IsPutOut keys later (put ++ ready) =
    subst (λ (z : List Numbered). IsPutOut keys later (put ++ z)) (sym is)
    (puts.whole put out) in
    record {
      more = ready;
      put_out = whole;
      packed = pack (1 + length put) (omega arith)
          (more_runs keys packets later put ready out whole);
    }

-- a renewal that is refused can't be made
pub refused_renewal : (names : List (List ℕ)) (end : Option ℕ) (sent : ℕ) (name : List ℕ)
    (fault : RenewFault) (ordinal : ℕ) → IsRenewal names end sent name (Err fault)
    → IsRenewal names end sent name (Ok ordinal) → ⊥
refused_renewal names end sent name NotEnded ordinal refused made = refused made.0
refused_renewal names end sent name SessionUsed ordinal refused made = made.1 refused.1
refused_renewal names end sent name TooManySessions ordinal refused made =
    let few = made.2 in let many = refused.2 in omega (arith, few, many)

-- nothing is put out of nothing
pub none_put_out : (keys : List ℕ) → IsPutOut keys [] []
none_put_out keys = record {
  one = omega arith;
  items = [];
  made = record {
    count = refl;
    each = λ k d lt. let none : k < 0 = lt in absurd (omega arith);
  };
  is = refl;
}

-- a packet is taken once the next session has begun, or none has
pub begun_and_made : (names : List (List ℕ)) (line : LineId) (p : Content) (renewed : Bool)
    (answer : Result Outcome LineFault) (before between after : NormaliserState)
    (packets : List Input) (put : List Numbered) (made : List (List ℕ))
    → BeginsOrKeeps names p renewed before between
    → ((given : List Input) (out : List Numbered) → FitsPackets between given
    → IsPutOut between.book.keys given out
    → MakesOfPacket line p answer between after given out made)
    → FitsPackets before packets → IsPutOut before.book.keys packets put
    → MakesOfPacket line p answer between after (since_begun renewed packets)
    (since_begun renewed put) made
begun_and_made names line p true answer before between after packets put made b takes fits out =
    takes [] [] b.fits (none_put_out between.book.keys)
begun_and_made names line p false answer before between after packets put made b takes fits out =
    takes packets put (subst (λ (n : NormaliserState). FitsPackets n packets) (sym b.1) fits)
    (subst (λ (n : NormaliserState). IsPutOut n.book.keys packets put) (sym b.1) out)
