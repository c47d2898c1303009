-- The gaps of a line, one step after the other.
use Rattle.std.proofs.Common.{◌≡◌, ℕ, ◌+◌, ◌-◌, ◌<◌, ◌≤◌, inl, inr, Bool, true, false, List, [], ◌∷◌, ◌++◌, length, map, not, arith, ap, refl, sym, subst, ◌∙◌, append-nil, append_assoc, min, Option, None, Some, Ok, Err}
use Rattle.std.specs.Prelude.{◌&&◌, ◌||◌, nat_lt, is_some, if◌then◌else◌}
use Rattle.std.specs.List.{filter, fold}
use Rattle.std.proofs.lemmas.Bool.{cases_Bool}
use Rattle.std.proofs.lemmas.Bool.Decides.{nat_tests}
use Rattle.event_sinks.specs.SinkEvents.{SinkEvent, TimedEvent, told_before, told_best, told_declaration, told_gap, told_item, told_last, told_packet, told_refusal, told_renewal, told_skip}
use Rattle.line_gaps.specs.declared.gap_line.GapLine.{GapLine}
use Rattle.line_gaps.specs.declared.heard_packet.TimedPacket.{TimedPacket}
use Rattle.line_gaps.specs.declared.line_gaps.GapPass.{GapPass}
use Rattle.line_gaps.specs.declared.line_gaps.LineGaps.{LineGaps}
use Rattle.line_gaps.specs.declared.lost_numbers.LostNumbers.{LostNumbers}
use Rattle.line_gaps.specs.declared.number_run.NumberRun.{NumberRun}
use Rattle.line_gaps.specs.declared.open_gap.EndedGap.{EndedGap}
use Rattle.line_gaps.specs.declared.open_gap.GapEnd.{GapEnd}
use Rattle.line_gaps.specs.declared.open_gap.GapEnd.TheVariants as ends
use Rattle.line_gaps.specs.declared.open_gap.OpenGap.{OpenGap}
use Rattle.line_gaps.specs.Ends.{KeepsLine, gap_over, is_open_gap, joined_gap, open_gap_of, opened, over_at_once, over_first, over_new}
use Rattle.line_gaps.specs.Gaps.{beginning_stands, counts_on, counts_with, highest_on, known_number, highest_skipped, highest_with, is_given_up, is_missing, is_packet_of, of_line}
use Rattle.line_gaps.specs.LineSteps.{PassesLine, Reaches, TakesLine, kept_open, over_if, gaps_over_with, pass_of, still_open}
use Rattle.line_gaps.specs.Missing.{FitsLost, KeptAll}
use Rattle.line_gaps.specs.OpenGaps.{add_gap, given_up_of, ended_gap, is_open_after, join_newest, over_before, gap_passed}
use Rattle.line_gaps.specs.Runs.{count_in_run, is_in_run, meets_runs, sum_in}
use Rattle.line_gaps.specs.Sums.{AreSumsOf}
use Rattle.line_gaps.specs.VenueFits.{AreStanding, IsStanding}
use Rattle.line_gaps.proofs.RunCounts.{count_agrees, count_of_agrees, meets_is_some, sum_is_count}

-- ---- a gap more

join_last : (gaps : List OpenGap) (newest gap : OpenGap)
    → join_newest (gaps ++ newest ∷ []) gap ≡ gaps ++ joined_gap newest gap ∷ []
join_last [] newest gap = refl
join_last (one ∷ []) newest gap = refl
join_last (one ∷ next ∷ more) newest gap =
    ap (λ (gs : List OpenGap). one ∷ gs) (join_last (next ∷ more) newest gap)

pub if_yes : {X : Type 0} (b : Bool) (x y : X) → b ≡ true → (if b then x else y) ≡ x
if_yes true x y e = refl
if_yes false x y e = cc e

pub if_not : {X : Type 0} (b : Bool) (x y : X) → b ≡ false → (if b then x else y) ≡ y
if_not false x y e = refl
if_not true x y e = cc e

pub add_room : (gaps : List OpenGap) (gap : OpenGap) → length gaps < 16
    → gaps ++ gap ∷ [] ≡ add_gap gaps gap
add_room gaps gap room =
    let is : nat_lt (length gaps) 16 ≡ true = grind (arith, nat_tests, room) in
    sym (if_yes (nat_lt (length gaps) 16) (gaps ++ gap ∷ []) (join_newest gaps gap) is)

pub add_full : (gaps init : List OpenGap) (newest gap : OpenGap) → 16 ≤ length gaps
    → gaps ≡ init ++ newest ∷ [] → init ++ joined_gap newest gap ∷ [] ≡ add_gap gaps gap
add_full gaps init newest gap full are =
    let is : nat_lt (length gaps) 16 ≡ false = grind (arith, nat_tests, full) in
    sym (if_not (nat_lt (length gaps) 16) (gaps ++ gap ∷ []) (join_newest gaps gap) is
    ∙ ap (λ (gs : List OpenGap). join_newest gs gap) are ∙ join_last init newest gap)

-- ---- the gap that a packet begins

pub passed_none : (highest : ℕ) (packet : TimedPacket) → packet.number ≤ highest + 1
    → gap_passed highest (Some packet) ≡ []
passed_none highest packet within =
    if_not (nat_lt (highest + 1) packet.number) _ [] (grind (arith, nat_tests, within))

pub passed_some : (highest : ℕ) (packet : TimedPacket) → highest + 1 < packet.number
    → gap_passed highest (Some packet)
    ≡ open_gap_of (record { first = highest + 1; last = packet.number - 1 }) packet.time ∷ []
passed_some highest packet past =
    if_yes (nat_lt (highest + 1) packet.number) _ [] (grind (arith, nat_tests, past))

over_one : (b : Bool) (f : OpenGap → EndedGap) (gap : OpenGap)
    → (if b then [] else f gap ∷ []) ≡ map f (if not b then gap ∷ [] else [])
over_one true f gap = refl
over_one false f gap = refl

pub over_begun : (line : GapLine) (lost : LostNumbers) (run : NumberRun) (time : Option ℕ)
    → over_at_once line lost run time ≡ over_new line lost (open_gap_of run time ∷ [])
over_begun line lost run time =
    over_one (is_open_gap lost (open_gap_of run time)) (over_first line lost) (open_gap_of run time)

pub open_none : (lost : LostNumbers) (gaps : List OpenGap) (highest : ℕ) (packet : TimedPacket)
    → packet.number ≤ highest + 1
    → gaps ≡ fold add_gap gaps (still_open lost (gap_passed highest (Some packet)))
open_none lost gaps highest packet within =
    ap (λ (gs : List OpenGap). fold add_gap gaps (still_open lost gs))
    (sym (passed_none highest packet within))

pub ended_none : (line : GapLine) (lost : LostNumbers) (highest : ℕ) (packet : TimedPacket)
    (before : List EndedGap) → packet.number ≤ highest + 1
    → before ≡ before ++ over_new line lost (gap_passed highest (Some packet))
ended_none line lost highest packet before within =
    sym (append-nil before)
    ∙ ap (λ (gs : List OpenGap). before ++ over_new line lost gs)
    (sym (passed_none highest packet within))

pub open_some : (lost : LostNumbers) (gaps : List OpenGap) (highest : ℕ) (packet : TimedPacket)
    → highest + 1 < packet.number
    → fold add_gap gaps (opened lost (record { first = highest + 1; last = packet.number - 1 })
    packet.time)
    ≡ fold add_gap gaps (still_open lost (gap_passed highest (Some packet)))
open_some lost gaps highest packet past =
    ap (λ (gs : List OpenGap). fold add_gap gaps (still_open lost gs))
    (sym (passed_some highest packet past))

pub ended_some : (line : GapLine) (lost : LostNumbers) (highest : ℕ) (packet : TimedPacket)
    (before : List EndedGap) → highest + 1 < packet.number
    → before ++ over_at_once line lost (record { first = highest + 1; last = packet.number - 1 })
    packet.time
    ≡ before ++ over_new line lost (gap_passed highest (Some packet))
ended_some line lost highest packet before past =
    ap (λ (l : List EndedGap). before ++ l) (over_begun line lost _ packet.time)
    ∙ ap (λ (gs : List OpenGap). before ++ over_new line lost gs)
    (sym (passed_some highest packet past))

-- ---- a packet, line by line

pub both_over : (a b c : List EndedGap) (x y : List EndedGap) → b ≡ a ++ x → c ≡ b ++ y
    → c ≡ a ++ (x ++ y)
both_over a b c x y first next =
    next ∙ ap (λ (l : List EndedGap). l ++ y) first ∙ append_assoc a x y

pub all_over : (a b c d : List EndedGap) (x y z : List EndedGap) → b ≡ a ++ x → c ≡ b ++ y
    → d ≡ c ++ z → d ≡ a ++ (x ++ (y ++ z))
all_over a b c d x y z first next last =
    both_over a b d x (y ++ z) first (both_over b c d y z next last)

-- ---- what is kept of the numbers has what the events say

pub record Agrees (events : List TimedEvent) (lost : LostNumbers) : Type 0 where
  pub opens : (gap : OpenGap) → is_open_gap lost gap ≡ is_open_after events gap
  pub given : (run : NumberRun) → sum_in lost.given_up.runs.items run
      ≡ min (count_in_run (is_given_up events) run) 18446744073709551615
  pub meets : (run : NumberRun) → meets_runs lost.given_up.runs.items run
      ≡ nat_lt 0 (count_in_run (is_given_up events) run)

pub agrees : (events : List TimedEvent) (lost : LostNumbers) → FitsLost events lost → KeptAll lost
    → Agrees events lost
agrees events lost fits whole = record {
  opens = λ gap.
      meets_is_some lost.missing.runs.items gap.run (fits.order whole.missing)
      ∙ ap (λ (n : ℕ). nat_lt 0 n)
      (count_of_agrees _ (is_missing events) gap.run (fits.missing whole.missing));
  given = λ run.
      sum_is_count lost.given_up.runs.items run (fits.given_order whole.missing whole.given_up)
      ∙ ap (λ (n : ℕ). min n 18446744073709551615)
      (count_of_agrees _ (is_given_up events) run (fits.given_up whole.missing whole.given_up));
  meets = λ run.
      meets_is_some lost.given_up.runs.items run (fits.given_order whole.missing whole.given_up)
      ∙ ap (λ (n : ℕ). nat_lt 0 n)
      (count_of_agrees _ (is_given_up events) run (fits.given_up whole.missing whole.given_up));
}

pub map_agrees : (f g : OpenGap → EndedGap) → ((x : OpenGap) → f x ≡ g x) → (gaps : List OpenGap)
    → map f gaps ≡ map g gaps
map_agrees f g same [] = refl
map_agrees f g same (x ∷ gaps) =
    ap (λ (y : EndedGap). y ∷ map f gaps) (same x)
    ∙ ap (λ (l : List EndedGap). g x ∷ l) (map_agrees f g same gaps)

abbrev the_gap : GapLine → OpenGap → ℕ → Option ℕ → GapEnd → EndedGap
the_gap line gap given ended by =
    record { line = line; gap = gap; given_up = given; ended = ended; by = by }

pub over_agrees : (line : GapLine) (events : List TimedEvent) (lost : LostNumbers) (pass : GapPass)
    (gap : OpenGap) → Agrees events lost
    → gap_over line lost pass gap ≡ ended_gap line events pass.by pass.time gap
over_agrees line events lost pass gap agree =
    ap (λ (n : ℕ). the_gap line gap n pass.time pass.by) (agree.given gap.run)

pub first_agrees : (line : GapLine) (events : List TimedEvent) (lost : LostNumbers) (gap : OpenGap)
    → Agrees events lost → over_first line lost gap ≡ over_before line events gap
first_agrees line events lost gap agree =
    ap (λ (n : ℕ). the_gap line gap n gap.began
    (if meets_runs lost.given_up.runs.items gap.run then ends.Skip else ends.Before))
    (agree.given gap.run)
    ∙ ap (λ (b : Bool). the_gap line gap (given_up_of events gap) gap.began
    (if b then ends.Skip else ends.Before)) (agree.meets gap.run)

-- ---- gaps that stand

-- no number up to those known becomes missing, or comes
abbrev pub Stays : List TimedEvent → TimedEvent → Type 0
Stays earlier last = (n : ℕ) → n ≤ known_number earlier
    → is_missing (last ∷ earlier) n ≡ is_missing earlier n

stays_open : (line : GapLine) (earlier : List TimedEvent) (last : TimedEvent) (gap : OpenGap)
    → Stays earlier last → IsStanding line earlier gap → is_open_after (last ∷ earlier) gap ≡ true
stays_open line earlier last gap stays stand =
    ap (λ (n : ℕ). nat_lt 0 n)
    (count_agrees _ _ (gap.run.last + 1) (λ m below.
    let known = stand.known in
    ap (λ (b : Bool). is_in_run m gap.run && b) (stays m (omega (arith, below, known)))))
    ∙ stand.is_open

keep_yes : (p : OpenGap → Bool) (gap : OpenGap) (gaps kept : List OpenGap) → p gap ≡ true
    → kept ≡ gaps → (if p gap then gap ∷ kept else kept) ≡ gap ∷ gaps
keep_yes p gap gaps kept is same =
    if_yes (p gap) (gap ∷ kept) kept is ∙ ap (λ (gs : List OpenGap). gap ∷ gs) same

pub all_stay : (line : GapLine) (earlier : List TimedEvent) (last : TimedEvent)
    (gaps : List OpenGap) → Stays earlier last → AreStanding line earlier gaps
    → filter (is_open_after (last ∷ earlier)) gaps ≡ gaps
all_stay line earlier last [] stays stand = refl
all_stay line earlier last (gap ∷ gaps) stays stand =
    keep_yes (is_open_after (last ∷ earlier)) gap gaps
    (filter (is_open_after (last ∷ earlier)) gaps)
    (stays_open line earlier last gap stays stand.0) (all_stay line earlier last gaps stays stand.1)

drop_yes : (p : OpenGap → Bool) (gap : OpenGap) (kept : List OpenGap) → p gap ≡ true → kept ≡ []
    → (if not (p gap) then gap ∷ kept else kept) ≡ []
drop_yes p gap kept is same = rw is same

pub none_over : (line : GapLine) (earlier : List TimedEvent) (last : TimedEvent)
    (gaps : List OpenGap) → Stays earlier last → AreStanding line earlier gaps
    → filter (λ g. not (is_open_after (last ∷ earlier) g)) gaps ≡ []
none_over line earlier last [] stays stand = refl
none_over line earlier last (gap ∷ gaps) stays stand =
    drop_yes (is_open_after (last ∷ earlier)) gap
    (filter (λ g. not (is_open_after (last ∷ earlier) g)) gaps)
    (stays_open line earlier last gap stays stand.0)
    (none_over line earlier last gaps stays stand.1)

-- ---- after one more event

-- An event tells no smaller numbers.
pub record Reached (line : GapLine) (earlier : List TimedEvent) (last : TimedEvent) : Type 0 where
  pub known : known_number earlier ≤ known_number (last ∷ earlier)
  pub highest : highest_on line earlier ≤ highest_on line (last ∷ earlier)

more_with : (highest : ℕ) (o : Option TimedPacket) → highest ≤ highest_with highest o
more_with highest None = omega arith
more_with highest (Some packet) = omega arith

more_skipped : (begun : Bool) (highest : ℕ) (event : SinkEvent)
    → highest ≤ highest_skipped begun highest event
more_skipped true highest event = omega arith
more_skipped false highest (told_skip venue number (Ok done)) = omega arith
more_skipped false highest (told_skip venue number (Err fault)) = omega arith
more_skipped false highest (told_packet venue line number count bytes answer) = omega arith
more_skipped false highest (told_refusal venue line fault) = omega arith
more_skipped false highest (told_item venue numbered) = omega arith
more_skipped false highest (told_best notice) = omega arith
more_skipped false highest (told_gap venue request) = omega arith
more_skipped false highest (told_renewal venue answer) = omega arith
more_skipped false highest (told_declaration venue on position) = omega arith
more_skipped false highest (told_last venue sent a b recovery) = omega arith
more_skipped false highest (told_before event) = omega arith

pub reached : (line : GapLine) (earlier : List TimedEvent) (last : TimedEvent)
    → Reached line earlier last
reached line earlier last =
    let stands = beginning_stands line earlier in
    let base = highest_skipped stands (highest_on line earlier) last.event in
    let skip = more_skipped stands (highest_on line earlier) last.event in
    let more = more_with base (counts_on line earlier last) in
    record {
      known = more_with (known_number earlier) (counts_with earlier last.time last.event);
      highest = omega (arith, skip, more);
    }

-- those that stand still
pub filter_stands : (line : GapLine) (earlier : List TimedEvent) (last : TimedEvent)
    (gaps : List OpenGap) → AreStanding line earlier gaps
    → AreStanding line (last ∷ earlier) (filter (is_open_after (last ∷ earlier)) gaps)
filter_stands line earlier last [] stand = tt
filter_stands line earlier last (gap ∷ gaps) stand =
    elim (cases_Bool (is_open_after (last ∷ earlier) gap)) [
      | inl is ↦
          let rest = filter_stands line earlier last gaps stand.1 in
          let more = reached line earlier last in
          let known = more.known in
          let highest = more.highest in
          let was_known = stand.0.known in
          let was_passed = stand.0.passed in
          subst (λ (gs : List OpenGap). AreStanding line (last ∷ earlier) gs)
          (sym (if_yes (is_open_after (last ∷ earlier) gap) _ _ is)) (
            record {
              is_open = is;
              known = omega (arith, known, was_known);
              passed = omega (arith, highest, was_passed);
            },
            rest,
          )
      | inr is ↦
          subst (λ (gs : List OpenGap). AreStanding line (last ∷ earlier) gs)
          (sym (if_not (is_open_after (last ∷ earlier) gap) _ _ is))
          (filter_stands line earlier last gaps stand.1)
    ]

pub own_yes : (line : GapLine) (packet : TimedPacket) → is_packet_of line packet ≡ true
    → of_line line (Some packet) ≡ Some packet
own_yes line packet is = if_yes (is_packet_of line packet) (Some packet) None is

pub own_not : (line : GapLine) (packet : TimedPacket) → is_packet_of line packet ≡ false
    → of_line line (Some packet) ≡ None
own_not line packet is = if_not (is_packet_of line packet) (Some packet) None is

-- a packet of another line
pub passes_none : (lost : LostNumbers) (gaps : LineGaps) → PassesLine None lost gaps gaps
passes_none lost gaps = record {
  line = refl;
  begun = refl;
  highest = refl;
  «open» = refl;
  reaches = tt;
}

-- gaps end, and then the packet passes
pub takes_line : (packet : TimedPacket) (filled : Bool) (lost : LostNumbers)
    (old mid new : LineGaps) → KeepsLine old mid
    → mid.«open».items ≡ kept_open filled lost old.«open».items
    → PassesLine (of_line mid.line (Some packet)) lost mid new
    → ((rows : List EndedGap) → AreSumsOf rows old.sums
    → AreSumsOf (rows ++ gaps_over_with packet filled lost old) new.sums)
    → TakesLine packet filled lost old new
takes_line packet filled lost old mid new kept gaps passes sums =
    let own : of_line mid.line (Some packet) ≡ of_line old.line (Some packet) =
    ap (λ (l : GapLine). of_line l (Some packet)) kept.line in
    record {
      line = passes.line ∙ kept.line;
      begun = passes.begun ∙ ap (λ (o : Option TimedPacket). is_some o || mid.begun) own
          ∙ ap (λ (b : Bool). is_some (of_line old.line (Some packet)) || b) kept.begun;
      highest = passes.highest ∙ ap (λ (o : Option TimedPacket). highest_with mid.highest o) own
          ∙ ap (λ (h : ℕ). highest_with h (of_line old.line (Some packet))) kept.highest;
      «open» = passes.«open»
          ∙ ap (λ (gs : List OpenGap). fold add_gap gs
          (still_open lost (gap_passed mid.highest (of_line mid.line (Some packet))))) gaps
          ∙ ap (λ (o : Option TimedPacket). fold add_gap (kept_open filled lost old.«open».items)
          (still_open lost (gap_passed mid.highest o))) own
          ∙ ap (λ (h : ℕ). fold add_gap (kept_open filled lost old.«open».items)
          (still_open lost (gap_passed h (of_line old.line (Some packet))))) kept.highest;
      reaches = subst Reaches own passes.reaches;
      sums = sums;
    }

pub over_both : (packet : TimedPacket) (filled : Bool) (lost : LostNumbers)
    (old mid : LineGaps) (before between after : List EndedGap) → KeepsLine old mid
    → between ≡ before ++ over_if filled old.line lost (pass_of packet) old.«open».items
    → after ≡ between
    ++ over_new mid.line lost (gap_passed mid.highest (of_line mid.line (Some packet)))
    → after ≡ before ++ gaps_over_with packet filled lost old
over_both packet filled lost old mid before between after kept first next =
    let own : of_line mid.line (Some packet) ≡ of_line old.line (Some packet) =
    ap (λ (l : GapLine). of_line l (Some packet)) kept.line in
    both_over before between after _ _ first
    (next
    ∙ ap (λ (l : GapLine). between
    ++ over_new l lost (gap_passed mid.highest (of_line mid.line (Some packet)))) kept.line
    ∙ ap (λ (o : Option TimedPacket). between
    ++ over_new old.line lost (gap_passed mid.highest o)) own
    ∙ ap (λ (h : ℕ). between
    ++ over_new old.line lost (gap_passed h (of_line old.line (Some packet)))) kept.highest)
