-- The numbers of a line as periods count them are those by which its gaps are defined.
use Rattle.std.proofs.Common.{◌≡◌, ℕ, zero, suc, ◌+◌, ◌-◌, ◌<◌, ◌≤◌, Bool, true, false, not, List, [], ◌∷◌, Option, None, Some, Ok, Err, Result, arith, ap, max, min, refl, sym, ◌∙◌}
use Rattle.std.specs.Prelude.{◌||◌, is_some, nat_lt, if◌then◌else◌}
use Rattle.std.proofs.lemmas.Bool.Decides.{nat_tests}
use Rattle.feed_types.specs.declared.line.LineId.{LineId}
use Rattle.feed_types.specs.declared.line.LineId.TheVariants as on
use Rattle.feed_types.specs.FullCounts.{count_after}
use Rattle.event_sinks.specs.SinkEvents.{SinkEvent, TimedEvent, timed_event, told_before, told_best, told_declaration, told_gap, told_item, told_last, told_packet, told_refusal, told_renewal, told_skip}
use Rattle.line_arbiter.specs.Streams.{is_same_line}
use Rattle.line_arbiter.specs.declared.outcome.LineFault.{LineFault}
use Rattle.line_arbiter.specs.declared.outcome.Outcome.{Outcome}
use Rattle.line_arbiter.specs.declared.outcome.Outcome.TheVariants.{Ahead, Ended, Heartbeat, Taken}
use Rattle.line_gaps.specs.declared.gap_line.GapLine.{GapLine}
use Rattle.line_gaps.specs.declared.heard_packet.TimedPacket.{TimedPacket}
use Rattle.line_gaps.specs.Gaps.{any_has_come, beginning_stands, brings_messages, counts_on, far_on, far_that, far_with, goes_on, has_begun, highest_on, highest_skipped, highest_with, is_packet_of, latest, of_line, packet_heard}
use Rattle.line_gaps.specs.Ends.{open_gap_of}
use Rattle.line_gaps.specs.LineSteps.{highest_joined, joined_at}
use Rattle.line_gaps.specs.OpenGaps.{gap_passed, in_session}
use Rattle.period_rows.specs.declared.line_sequence.LineSequence.{LineSequence}
use Rattle.period_rows.specs.SequenceGaps.{MissesItsGaps, is_of_other, messages_of, sequence_told}
use Rattle.period_rows.specs.Sequences.{come_after, counts_now, far_after, passed_by, sequence_after, sequence_counted}

if_yes : {X : Type 0} (b : Bool) (x y : X) → b ≡ true → (if b then x else y) ≡ x
if_yes true x y e = refl
if_yes false x y e = cc e

if_not : {X : Type 0} (b : Bool) (x y : X) → b ≡ false → (if b then x else y) ≡ y
if_not false x y e = refl
if_not true x y e = cc e

is_so : (b : Bool) → not b ≡ false → b ≡ true
is_so true e = refl
is_so false e = cc e

is_not : (b : Bool) → not b ≡ true → b ≡ false
is_not true e = cc e
is_not false e = refl

-- ---- packets past the window, up to their time

abbrev untimed : Option TimedPacket → Option TimedPacket
untimed None = None
untimed (Some p) = Some (packet_heard p.line p.number p.count None)

same_some : (o : Option TimedPacket) → is_some (untimed o) ≡ is_some o
same_some None = refl
same_some (Some p) = refl

same_highest : (highest : ℕ) (o : Option TimedPacket)
    → highest_with highest (untimed o) ≡ highest_with highest o
same_highest highest None = refl
same_highest highest (Some p) = refl

same_passed : (highest : ℕ) (o : Option TimedPacket)
    → passed_by highest (untimed o) ≡ passed_by highest o
same_passed highest None = refl
same_passed highest (Some p) = refl

same_if : (b : Bool) (p : TimedPacket)
    → (if b then untimed (Some p) else None) ≡ untimed (if b then Some p else None)
same_if true p = refl
same_if false p = refl

same_far : (number : ℕ) (o : Option TimedPacket)
    → far_that number (untimed o) ≡ untimed (far_that number o)
same_far number None = refl
same_far number (Some p) = same_if (goes_on p number) p

same_line : (l m : LineId) → is_same_line l m ≡ true → l ≡ m
same_line on.A on.A e = refl
same_line on.A on.B e = cc e
same_line on.A on.Recovery e = cc e
same_line on.B on.A e = cc e
same_line on.B on.B e = refl
same_line on.B on.Recovery e = cc e
same_line on.Recovery on.A e = cc e
same_line on.Recovery on.B e = cc e
same_line on.Recovery on.Recovery e = refl

-- it is of the line
abbrev IsOn : LineId → Option TimedPacket → Type 0
IsOn line None = Unit
IsOn line (Some p) = p.line ≡ line

is_on_if : (line : LineId) (b : Bool) (p : TimedPacket) → (b ≡ true → p.line ≡ line)
    → IsOn line (if b then Some p else None)
is_on_if line true p e = e refl
is_on_if line false p e = tt

is_on_latest : (line : LineId) (o x : Option TimedPacket) → IsOn line o → IsOn line x
    → IsOn line (latest o x)
is_on_latest line None x a b = b
is_on_latest line (Some p) x a b = a

far_with_on : (line : LineId) (time : Option ℕ) (event : SinkEvent)
    → IsOn line (far_with line time event)
far_with_on line time (told_packet venue l number count bytes (Ok Ahead)) =
    is_on_if line (is_same_line l line) (packet_heard l number count time) (same_line l line)
far_with_on line time (told_packet venue l number count bytes (Ok (Taken new repeated))) = tt
far_with_on line time (told_packet venue l number count bytes (Ok Heartbeat)) = tt
far_with_on line time (told_packet venue l number count bytes (Ok Ended)) = tt
far_with_on line time (told_packet venue l number count bytes (Err fault)) = tt
far_with_on line time (told_refusal venue l fault) = tt
far_with_on line time (told_item venue numbered) = tt
far_with_on line time (told_best notice) = tt
far_with_on line time (told_gap venue request) = tt
far_with_on line time (told_renewal venue answer) = tt
far_with_on line time (told_skip venue number answer) = tt
far_with_on line time (told_declaration venue is position) = tt
far_with_on line time (told_last venue sent a b recovery) = tt
far_with_on line time (told_before event) = tt

far_is_on : (line : LineId) (events : List TimedEvent) → IsOn line (far_on line events)
far_is_on line [] = tt
far_is_on line (last ∷ earlier) =
    is_on_latest line (far_with line last.time last.event) (far_on line earlier)
    (far_with_on line last.time last.event) (far_is_on line earlier)

that_is_on : (line : LineId) (number : ℕ) (o : Option TimedPacket) → IsOn line o
    → IsOn line (far_that number o)
that_is_on line number None is = tt
that_is_on line number (Some p) is = is_on_if line (goes_on p number) p (λ e. is)

abbrev is_granted : SinkEvent → Bool
is_granted (told_skip venue number (Ok done)) = true
is_granted event = false

no_skip : (begun : Bool) (highest : ℕ) (event : SinkEvent) → is_granted event ≡ false
    → highest_skipped begun highest event ≡ highest
no_skip true highest event is = refl
no_skip false highest (told_skip venue number (Ok done)) is = cc is
no_skip false highest (told_skip venue number (Err fault)) is = refl
no_skip false highest (told_packet venue line number count bytes answer) is = refl
no_skip false highest (told_refusal venue line fault) is = refl
no_skip false highest (told_item venue numbered) is = refl
no_skip false highest (told_best notice) is = refl
no_skip false highest (told_gap venue request) is = refl
no_skip false highest (told_renewal venue answer) is = refl
no_skip false highest (told_declaration venue it position) is = refl
no_skip false highest (told_last venue sent a b recovery) is = refl
no_skip false highest (told_before event) is = refl

skip_begun : (begun come : Bool) (highest venue number : ℕ)
    → highest_joined begun highest (joined_at come number)
    ≡ highest_skipped (begun || come) highest (told_skip venue number (Ok tt))
skip_begun true come highest venue number = refl
skip_begun false true highest venue number = refl
skip_begun false false highest venue number = refl

count_is : (n : ℕ) → count_after 0 n ≡ min n 18446744073709551615
count_is zero = refl
count_is (suc n) = omega arith

-- the gap that a packet passes over has as many messages
gap_if : (high number : ℕ) (b : Bool) (time : Option ℕ) → nat_lt (high + 1) number ≡ b
    → count_after 0 (number - (high + 1)) ≡ messages_of (if b
    then open_gap_of (record { first = high + 1; last = number - 1 }) time ∷ [] else [])
gap_if high number true time is =
    let past : high + 1 < number = grind (arith, nat_tests, is) in
    count_is (number - (high + 1)) ∙ omega (arith, past)
gap_if high number false time is =
    let within : number ≤ high + 1 = grind (arith, nat_tests, is) in
    count_is (number - (high + 1)) ∙ omega (arith, within)

gap_messages : (high : ℕ) (o : Option TimedPacket)
    → count_after 0 (passed_by high o) ≡ messages_of (gap_passed high o)
gap_messages high None = refl
gap_messages high (Some p) =
    gap_if high p.number (nat_lt (high + 1) p.number) p.time refl

-- the line's numbers are those of the definition of gaps
record IsTied (line : LineId) (gap_line : GapLine) (own : List TimedEvent) (s : LineSequence)
    : Type 0 where
  begun : s.begun ≡ has_begun gap_line own
  highest : s.highest ≡ highest_on gap_line own
  far : s.far ≡ untimed (far_on line own)
  come : s.has_come ≡ any_has_come own

-- the same, but for messages: those that came with the last event are noted
record IsNoted (line : LineId) (gap_line : GapLine) (last : TimedEvent) (own : List TimedEvent)
    (s : LineSequence) : Type 0 where
  begun : s.begun ≡ has_begun gap_line own
  highest : s.highest ≡ highest_on gap_line own
  far : s.far ≡ untimed (far_on line own)
  come : s.has_come ≡ any_has_come (last ∷ own)

module _ (line : LineId) (gap_line : GapLine)
    (own_is : (p : TimedPacket) → is_packet_of gap_line p ≡ is_same_line p.line line) where
  abbrev Ties : List TimedEvent → LineSequence → Type 0
  Ties own s = IsTied line gap_line own s

  abbrev Noted : TimedEvent → List TimedEvent → LineSequence → Type 0
  Noted last own s = IsNoted line gap_line last own s

  noted : (time : Option ℕ) (event : SinkEvent) (own : List TimedEvent) (s : LineSequence)
      → Ties own s → Noted (timed_event time event) own (come_after s event)
  noted time event own s t = record {
    begun = t.begun;
    highest = t.highest;
    far = t.far;
    come = ap (λ (b : Bool). brings_messages event || b) t.come;
  }

  own_that : (b : Bool) (o : Option TimedPacket) (l : LineId) → IsOn l o → is_same_line l line ≡ b
      → of_line gap_line o ≡ (if b then o else None)
  own_that true None l is e = refl
  own_that false None l is e = refl
  own_that true (Some p) l is e =
      if_yes (is_packet_of gap_line p) (Some p) None
      (own_is p ∙ ap (λ (m : LineId). is_same_line m line) is ∙ e)
  own_that false (Some p) l is e =
      if_not (is_packet_of gap_line p) (Some p) None
      (own_is p ∙ ap (λ (m : LineId). is_same_line m line) is ∙ e)

  heard_own : (time : Option ℕ) (l : LineId) (number count : ℕ) → is_same_line l line ≡ true
      → untimed (Some (packet_heard l number count time))
      ≡ untimed (of_line gap_line (Some (packet_heard l number count time)))
  heard_own time l number count same =
      ap untimed (sym (own_that true (Some (packet_heard l number count time)) l refl same))

  -- the packet of the line that counts with its event
  counts_same : (time : Option ℕ) (event : SinkEvent) (own : List TimedEvent) (s : LineSequence)
      → s.far ≡ untimed (far_on line own) → is_of_other line event ≡ false
      → counts_now s.far event ≡ untimed (counts_on gap_line own (timed_event time event))
  counts_same time (told_packet venue l number count bytes (Ok Ahead)) own s t it =
      let same : is_same_line l line ≡ true = is_so (is_same_line l line) it in
      ap (far_that number) t ∙ same_far number (far_on line own)
      ∙ ap (λ (m : LineId). untimed (far_that number (far_on m own)))
      (sym (same_line l line same))
      ∙ ap untimed (sym (own_that true (far_that number (far_on l own)) l
      (that_is_on l number (far_on l own) (far_is_on l own)) same))
  counts_same time (told_packet venue l number count bytes (Ok (Taken new repeated))) own s t it =
      heard_own time l number count (is_so (is_same_line l line) it)
  counts_same time (told_packet venue l number count bytes (Ok Heartbeat)) own s t it =
      heard_own time l number count (is_so (is_same_line l line) it)
  counts_same time (told_packet venue l number count bytes (Ok Ended)) own s t it =
      heard_own time l number count (is_so (is_same_line l line) it)
  counts_same time (told_packet venue l number count bytes (Err fault)) own s t it = refl
  counts_same time (told_refusal venue l fault) own s t it = refl
  counts_same time (told_item venue numbered) own s t it = refl
  counts_same time (told_best notice) own s t it = refl
  counts_same time (told_gap venue request) own s t it = refl
  counts_same time (told_renewal venue answer) own s t it = refl
  counts_same time (told_skip venue number answer) own s t it = refl
  counts_same time (told_declaration venue is position) own s t it = refl
  counts_same time (told_last venue sent a b recovery) own s t it = refl
  counts_same time (told_before event) own s t it = refl

  -- no packet of another line counts
  counts_none : (time : Option ℕ) (event : SinkEvent) (own : List TimedEvent)
      → is_of_other line event ≡ true
      → counts_on gap_line own (timed_event time event) ≡ None
  counts_none time (told_packet venue l number count bytes (Ok Ahead)) own it =
      own_that false (far_that number (far_on l own)) l
      (that_is_on l number (far_on l own) (far_is_on l own)) (is_not (is_same_line l line) it)
  counts_none time (told_packet venue l number count bytes (Ok (Taken new repeated))) own it =
      own_that false (Some (packet_heard l number count time)) l refl
      (is_not (is_same_line l line) it)
  counts_none time (told_packet venue l number count bytes (Ok Heartbeat)) own it =
      own_that false (Some (packet_heard l number count time)) l refl
      (is_not (is_same_line l line) it)
  counts_none time (told_packet venue l number count bytes (Ok Ended)) own it =
      own_that false (Some (packet_heard l number count time)) l refl
      (is_not (is_same_line l line) it)
  counts_none time (told_packet venue l number count bytes (Err fault)) own it = refl
  counts_none time (told_refusal venue l fault) own it = cc it
  counts_none time (told_item venue numbered) own it = cc it
  counts_none time (told_best notice) own it = cc it
  counts_none time (told_gap venue request) own it = cc it
  counts_none time (told_renewal venue answer) own it = cc it
  counts_none time (told_skip venue number answer) own it = cc it
  counts_none time (told_declaration venue is position) own it = cc it
  counts_none time (told_last venue sent a b recovery) own it = cc it
  counts_none time (told_before event) own it = cc it

  -- nothing of the line counts
  idle : (last : TimedEvent) (own : List TimedEvent) (s : LineSequence)
      → counts_on gap_line own last ≡ None → far_with line last.time last.event ≡ None
      → highest_skipped (beginning_stands gap_line own) (highest_on gap_line own) last.event
      ≡ highest_on gap_line own
      → Noted last own s → Ties (last ∷ own) s
  idle last own s counts far skip t =
      let before = has_begun gap_line own in
      let high = highest_skipped (beginning_stands gap_line own) (highest_on gap_line own)
      last.event in
      record {
        begun = t.begun ∙ sym (ap (λ (o : Option TimedPacket). is_some o || before) counts);
        highest = t.highest ∙ sym skip
            ∙ sym (ap (λ (o : Option TimedPacket). highest_with high o) counts);
        far = t.far
            ∙ sym (ap (λ (o : Option TimedPacket). untimed (latest o (far_on line own))) far);
        come = t.come;
      }

  -- a packet of it counts
  counted : (last : TimedEvent) (own : List TimedEvent) (s : LineSequence)
      (now far : Option TimedPacket) → now ≡ untimed (counts_on gap_line own last)
      → far ≡ untimed (far_on line (last ∷ own))
      → highest_skipped (beginning_stands gap_line own) (highest_on gap_line own) last.event
      ≡ highest_on gap_line own
      → Noted last own s → Ties (last ∷ own) (sequence_counted s now far)
  counted last own s now far is far_is skip t =
      let o = counts_on gap_line own last in
      let before = has_begun gap_line own in
      record {
        begun = ap (λ (b : Bool). is_some now || b) t.begun
            ∙ ap (λ (p : Option TimedPacket). is_some p || before) is
            ∙ ap (λ (b : Bool). b || before) (same_some o);
        highest = ap (λ (h : ℕ). highest_with h now) t.highest
            ∙ ap (λ (p : Option TimedPacket). highest_with (highest_on gap_line own) p) is
            ∙ same_highest (highest_on gap_line own) o
            ∙ ap (λ (h : ℕ). highest_with h o) (sym skip);
        far = far_is;
        come = t.come;
      }

  -- a packet past the window is the line's latest one
  ahead_far : (time : Option ℕ) (venue : ℕ) (l : LineId) (number count bytes : ℕ)
      (own : List TimedEvent) → is_same_line l line ≡ true
      → Some (packet_heard l number count None) ≡ untimed (far_on line
      (timed_event time (told_packet venue l number count bytes (Ok Ahead)) ∷ own))
  ahead_far time venue l number count bytes own same =
      sym (ap (λ (o : Option TimedPacket). untimed (latest o (far_on line own)))
      (if_yes (is_same_line l line) (Some (packet_heard l number count time)) None same))

  other_far : (time : Option ℕ) (venue : ℕ) (l : LineId) (number count bytes : ℕ)
      (answer : Result Outcome LineFault) → is_same_line l line ≡ false
      → far_with line time (told_packet venue l number count bytes answer) ≡ None
  other_far time venue l number count bytes (Ok Ahead) other =
      if_not (is_same_line l line) (Some (packet_heard l number count time)) None other
  other_far time venue l number count bytes (Ok (Taken new repeated)) other = refl
  other_far time venue l number count bytes (Ok Heartbeat) other = refl
  other_far time venue l number count bytes (Ok Ended) other = refl
  other_far time venue l number count bytes (Err fault) other = refl

  own_far : (time : Option ℕ) (venue : ℕ) (l : LineId) (number count bytes : ℕ)
      (answer : Result Outcome LineFault) (own : List TimedEvent) (s : LineSequence)
      → is_same_line l line ≡ true → s.far ≡ untimed (far_on line own)
      → far_after s.far (told_packet venue l number count bytes answer)
      ≡ untimed (far_on line
      (timed_event time (told_packet venue l number count bytes answer) ∷ own))
  own_far time venue l number count bytes (Ok Ahead) own s same t =
      ahead_far time venue l number count bytes own same
  own_far time venue l number count bytes (Ok (Taken new repeated)) own s same t = t
  own_far time venue l number count bytes (Ok Heartbeat) own s same t = t
  own_far time venue l number count bytes (Ok Ended) own s same t = t
  own_far time venue l number count bytes (Err fault) own s same t = t

  -- a packet of the line, and one of another
  packet_tied : (time : Option ℕ) (venue : ℕ) (l : LineId) (number count bytes : ℕ)
      (answer : Result Outcome LineFault) (own : List TimedEvent) (s : LineSequence) (b : Bool)
      → is_same_line l line ≡ b
      → Noted (timed_event time (told_packet venue l number count bytes answer)) own s
      → Ties (timed_event time (told_packet venue l number count bytes answer) ∷ own)
      (if not b then s else sequence_after s (told_packet venue l number count bytes answer))
  packet_tied time venue l number count bytes answer own s true same t =
      counted (timed_event time (told_packet venue l number count bytes answer)) own s
      (counts_now s.far (told_packet venue l number count bytes answer))
      (far_after s.far (told_packet venue l number count bytes answer))
      (counts_same time (told_packet venue l number count bytes answer) own s t.far (ap not same))
      (own_far time venue l number count bytes answer own s same t.far)
      (no_skip (beginning_stands gap_line own) (highest_on gap_line own)
      (told_packet venue l number count bytes answer) refl) t
  packet_tied time venue l number count bytes answer own s false other t =
      idle (timed_event time (told_packet venue l number count bytes answer)) own s
      (counts_none time (told_packet venue l number count bytes answer) own (ap not other))
      (other_far time venue l number count bytes answer other)
      (no_skip (beginning_stands gap_line own) (highest_on gap_line own)
      (told_packet venue l number count bytes answer) refl) t

  -- a skip that was granted
  skip_tied : (time : Option ℕ) (venue number : ℕ) (own : List TimedEvent) (s : LineSequence)
      → Ties own s → Ties (timed_event time (told_skip venue number (Ok tt)) ∷ own)
      (sequence_after s (told_skip venue number (Ok tt)))
  skip_tied time venue number own s t =
      let high = highest_on gap_line own in
      let begun = has_begun gap_line own in
      record {
        begun = t.begun;
        highest = ap (λ (h : ℕ). highest_joined s.begun h (joined_at s.has_come number)) t.highest
            ∙ ap (λ (b : Bool). highest_joined b high (joined_at s.has_come number)) t.begun
            ∙ ap (λ (c : Bool). highest_joined begun high (joined_at c number)) t.come
            ∙ skip_begun begun (any_has_come own) high venue number;
        far = t.far;
        come = t.come;
      }

  step : (time : Option ℕ) (event : SinkEvent) (earlier : List TimedEvent)
      → Ties (in_session earlier) (sequence_told line earlier)
      → Ties (in_session (timed_event time event ∷ earlier))
      (sequence_told line (timed_event time event ∷ earlier))
  step time (told_packet venue l number count bytes answer) earlier t =
      let last = told_packet venue l number count bytes answer in
      packet_tied time venue l number count bytes answer (in_session earlier)
      (come_after (sequence_told line earlier) last) (is_same_line l line) refl
      (noted time last (in_session earlier) (sequence_told line earlier) t)
  step time (told_renewal venue (Ok ordinal)) earlier t =
      record { begun = refl; highest = refl; far = refl; come = refl }
  step time (told_skip venue number (Ok done)) earlier t =
      skip_tied time venue number (in_session earlier) (sequence_told line earlier) t
  step time (told_refusal venue l fault) earlier t =
      idle (timed_event time (told_refusal venue l fault)) (in_session earlier)
      (sequence_told line earlier) refl refl
      (no_skip (beginning_stands gap_line (in_session earlier))
      (highest_on gap_line (in_session earlier)) (told_refusal venue l fault) refl)
      (noted time (told_refusal venue l fault) (in_session earlier) (sequence_told line earlier) t)
  step time (told_item venue numbered) earlier t =
      idle (timed_event time (told_item venue numbered)) (in_session earlier)
      (sequence_told line earlier) refl refl
      (no_skip (beginning_stands gap_line (in_session earlier))
      (highest_on gap_line (in_session earlier)) (told_item venue numbered) refl)
      (noted time (told_item venue numbered) (in_session earlier) (sequence_told line earlier) t)
  step time (told_best notice) earlier t =
      idle (timed_event time (told_best notice)) (in_session earlier)
      (sequence_told line earlier) refl refl
      (no_skip (beginning_stands gap_line (in_session earlier))
      (highest_on gap_line (in_session earlier)) (told_best notice) refl)
      (noted time (told_best notice) (in_session earlier) (sequence_told line earlier) t)
  step time (told_gap venue request) earlier t =
      idle (timed_event time (told_gap venue request)) (in_session earlier)
      (sequence_told line earlier) refl refl
      (no_skip (beginning_stands gap_line (in_session earlier))
      (highest_on gap_line (in_session earlier)) (told_gap venue request) refl)
      (noted time (told_gap venue request) (in_session earlier) (sequence_told line earlier) t)
  step time (told_renewal venue (Err fault)) earlier t =
      idle (timed_event time (told_renewal venue (Err fault))) (in_session earlier)
      (sequence_told line earlier) refl refl
      (no_skip (beginning_stands gap_line (in_session earlier))
      (highest_on gap_line (in_session earlier)) (told_renewal venue (Err fault)) refl)
      (noted time (told_renewal venue (Err fault)) (in_session earlier)
      (sequence_told line earlier) t)
  step time (told_skip venue number (Err fault)) earlier t =
      idle (timed_event time (told_skip venue number (Err fault))) (in_session earlier)
      (sequence_told line earlier) refl refl
      (no_skip (beginning_stands gap_line (in_session earlier))
      (highest_on gap_line (in_session earlier)) (told_skip venue number (Err fault)) refl)
      (noted time (told_skip venue number (Err fault)) (in_session earlier)
      (sequence_told line earlier) t)
  step time (told_declaration venue is position) earlier t =
      idle (timed_event time (told_declaration venue is position)) (in_session earlier)
      (sequence_told line earlier) refl refl
      (no_skip (beginning_stands gap_line (in_session earlier))
      (highest_on gap_line (in_session earlier)) (told_declaration venue is position) refl)
      (noted time (told_declaration venue is position) (in_session earlier)
      (sequence_told line earlier) t)
  step time (told_last venue sent a b recovery) earlier t =
      idle (timed_event time (told_last venue sent a b recovery)) (in_session earlier)
      (sequence_told line earlier) refl refl
      (no_skip (beginning_stands gap_line (in_session earlier))
      (highest_on gap_line (in_session earlier)) (told_last venue sent a b recovery) refl)
      (noted time (told_last venue sent a b recovery) (in_session earlier)
      (sequence_told line earlier) t)
  step time (told_before event) earlier t =
      idle (timed_event time (told_before event)) (in_session earlier)
      (sequence_told line earlier) refl refl
      (no_skip (beginning_stands gap_line (in_session earlier))
      (highest_on gap_line (in_session earlier)) (told_before event) refl)
      (noted time (told_before event) (in_session earlier) (sequence_told line earlier) t)

  tied : (events : List TimedEvent) → Ties (in_session events) (sequence_told line events)
  tied [] = record { begun = refl; highest = refl; far = refl; come = refl }
  tied (last ∷ earlier) = step last.time last.event earlier (tied earlier)

  -- What the event adds to the messages that are missing are those of the gap that begins with it.
  pub misses_gaps : MissesItsGaps line gap_line
  misses_gaps earlier last own =
      let t = tied earlier in
      let s = sequence_told line earlier in
      let o = counts_on gap_line (in_session earlier) last in
      ap (λ (p : Option TimedPacket). count_after 0 (passed_by s.highest p))
      (counts_same last.time last.event (in_session earlier) s t.far own)
      ∙ ap (λ (n : ℕ). count_after 0 n) (same_passed s.highest o)
      ∙ ap (λ (h : ℕ). count_after 0 (passed_by h o)) t.highest
      ∙ gap_messages (highest_on gap_line (in_session earlier)) o
