-- The counts of what was brought, with one more refusal, and of what two brought.
use Rattle.std.proofs.Common.{◌≡◌, ℕ, ◌+◌, ◌%◌, Bool, true, false, List, [], ◌∷◌, ◌++◌, map, refl, sym, ap, ◌∙◌, arith}
use Rattle.std.specs.Prelude.{◌==◌, ◌^◌, slice_index, slice_set, sum_by, if◌then◌else◌}
use Rattle.std.proofs.lemmas.List.Sums.{sum_by-append, sum_by_push}
use Rattle.std.proofs.Math.Nat.{add-mod-mod, mod-add-mod}
use Rattle.mold_packet.specs.declared.fault.PacketFault.TheVariants as packet
use Rattle.line_arbiter.specs.Counts.{shown}
use Rattle.line_arbiter.specs.declared.outcome.LineFault.TheVariants as line
use Rattle.venue_lines.specs.Codes.{take_fault_code}
use Rattle.venue_lines.specs.declared.faults.TakeFault.{TakeFault}
use Rattle.venue_lines.specs.declared.faults.TakeFault.TheVariants.{Packet, Line}
use Rattle.venue_lines.specs.declared.line_counts.LineCounts.{LineCounts}
use Rattle.venue_lines.specs.Brought.{Brought, brought_together, count_of_code, counted_codes, counts_of, is_of_end, is_of_heartbeat, is_of_messages, is_past_window, new_in, repeats_in, with_refusal}
use Rattle.venue_lines.specs.declared.accepted_packet.AcceptedPacket.{AcceptedPacket}
use Rattle.line_arbiter.specs.declared.outcome.Outcome.{Outcome}

-- ---- one more refusal

-- the count at a fault's place goes on by one
one_more_at : (fault : TakeFault) (f : ℕ → ℕ)
    → slice_set (map f counted_codes) (take_fault_code fault)
    (shown (slice_index (map f counted_codes) (take_fault_code fault) + 1))
    ≡ map (λ k. if take_fault_code fault == k then shown (f k + 1) else f k) counted_codes
one_more_at (Packet packet.ShortHeader) f = refl
one_more_at (Packet packet.TruncatedBlock) f = refl
one_more_at (Packet packet.ZeroSequence) f = refl
one_more_at (Packet packet.SequenceOverflow) f = refl
one_more_at (Packet packet.BufferTooSmall) f = refl
one_more_at (Packet packet.BadRequestLength) f = refl
one_more_at (Line line.OtherSession) f = refl
one_more_at (Line line.PastEnd) f = refl
one_more_at (Line line.EndMoved) f = refl
one_more_at (Line line.EndTooEarly) f = refl
one_more_at (Line line.Conflict) f = refl

one_if : (b : Bool) (n : ℕ) → (if b then shown (shown n + 1) else shown n) ≡ shown
    (n + (if b then 1 else 0))
one_if true n = omega arith
one_if false n = omega arith

refusals_more : (faults : List TakeFault) (fault : TakeFault)
    → slice_set (map (λ k. shown (count_of_code k faults)) counted_codes) (take_fault_code fault)
    (shown (slice_index (map (λ k. shown (count_of_code k faults)) counted_codes)
    (take_fault_code fault) + 1))
    ≡ map (λ k. shown (count_of_code k (faults ++ fault ∷ []))) counted_codes
refusals_more faults fault =
    one_more_at fault (λ k. shown (count_of_code k faults))
    ∙ (λ i. map (λ k. (one_if (take_fault_code fault == k) (count_of_code k faults)
    ∙ ap shown (sym (sum_by_push (λ x. if take_fault_code x == k then 1 else 0) faults fault))) i)
    counted_codes)

pub refusal_counted : (old : LineCounts) (b : Brought) (fault : TakeFault) → old ≡ counts_of b
    → record old {
      refused = slice_set old.refused (take_fault_code fault)
          (shown (slice_index old.refused (take_fault_code fault) + 1));
    } ≡ counts_of (with_refusal fault b)
refusal_counted old b fault is =
    ap (λ (o : LineCounts). record o {
      refused = slice_set o.refused (take_fault_code fault)
          (shown (slice_index o.refused (take_fault_code fault) + 1));
    }) is
    ∙ (λ i. record (counts_of b) { refused = refusals_more b.refused fault i })

-- ---- what two brought

both_shown : {X : Type 0} (f : X → ℕ) (xs ys : List X)
    → shown (shown (sum_by f xs) + shown (sum_by f ys)) ≡ shown (sum_by f (xs ++ ys))
both_shown f xs ys = omega (arith, sum_by-append f xs ys)

both_wrapped : {X : Type 0} (f : X → ℕ) (xs ys : List X)
    → (sum_by f xs % 2 ^ 64 + sum_by f ys % 2 ^ 64) % 2 ^ 64 ≡ sum_by f (xs ++ ys) % 2 ^ 64
both_wrapped f xs ys =
    add-mod-mod (sum_by f xs % 2 ^ 64) (sum_by f ys) (2 ^ 64)
    ∙ mod-add-mod (sum_by f xs) (2 ^ 64) (sum_by f ys)
    ∙ ap (λ (n : ℕ). n % 2 ^ 64) (sym (sum_by-append f xs ys))

-- the counts of the one and the other, added up
abbrev pub together : LineCounts → LineCounts → LineCounts
together s t = record {
  wins = shown (s.wins + t.wins);
  taken = shown (s.taken + t.taken);
  repeated = shown (s.repeated + t.repeated);
  heartbeats = shown (s.heartbeats + t.heartbeats);
  ends = shown (s.ends + t.ends);
  ahead = shown (s.ahead + t.ahead);
  accepted = (slice_index s.accepted 0 + slice_index t.accepted 0) % 2 ^ 64
      ∷ (slice_index s.accepted 1 + slice_index t.accepted 1) % 2 ^ 64
      ∷ (slice_index s.accepted 2 + slice_index t.accepted 2) % 2 ^ 64
      ∷ (slice_index s.accepted 3 + slice_index t.accepted 3) % 2 ^ 64 ∷ [];
  refused = map (λ k. shown (slice_index s.refused k + slice_index t.refused k)) counted_codes;
}

abbrev one_of : (Outcome → Bool) → AcceptedPacket → ℕ
one_of kind x = if kind x.outcome then 1 else 0

abbrev number_of : (Outcome → Bool) → AcceptedPacket → ℕ
number_of kind x = if kind x.outcome then x.number else 0

pub both_counted : (s t : LineCounts) (b c : Brought) → s ≡ counts_of b → t ≡ counts_of c
    → together s t ≡ counts_of (brought_together b c)
both_counted s t b c is are =
    (λ i. together (is i) (are i))
    ∙ (λ i. record {
      wins = both_shown (λ x. new_in x.outcome) b.accepted c.accepted i;
      taken = both_shown (one_of is_of_messages) b.accepted c.accepted i;
      repeated = both_shown (λ x. repeats_in x.outcome) b.accepted c.accepted i;
      heartbeats = both_shown (one_of is_of_heartbeat) b.accepted c.accepted i;
      ends = both_shown (one_of is_of_end) b.accepted c.accepted i;
      ahead = both_shown (one_of is_past_window) b.accepted c.accepted i;
      accepted = both_wrapped (number_of is_of_messages) b.accepted c.accepted i
          ∷ both_wrapped (number_of is_of_heartbeat) b.accepted c.accepted i
          ∷ both_wrapped (number_of is_of_end) b.accepted c.accepted i
          ∷ both_wrapped (number_of is_past_window) b.accepted c.accepted i ∷ [];
      refused = map (λ k. both_shown (λ x. if take_fault_code x == k then 1 else 0) b.refused
          c.refused i)
          counted_codes;
    })
