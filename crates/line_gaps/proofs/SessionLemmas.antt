-- The gaps of a line after one more event of its session.
use Rattle.std.proofs.Common.{◌≡◌, ℕ, ◌-◌, ◌≤◌, Bool, true, false, List, [], ◌∷◌, ◌++◌, map, not, arith, ap, refl, sym, subst, ◌∙◌, append-nil, max, Option, None, Some, Result, Ok}
use Rattle.std.specs.Prelude.{◌&&◌, ◌||◌, nat_le, is_some, if◌then◌else◌}
use Rattle.std.specs.List.{filter, fold}
use Rattle.std.proofs.lemmas.List.Elements.{filter_agree}
use Rattle.event_sinks.specs.SinkEvents.{TimedEvent, timed_event, told_packet, told_skip}
use Rattle.line_arbiter.specs.declared.outcome.LineFault.{LineFault}
use Rattle.line_arbiter.specs.declared.outcome.Outcome.{Outcome}
use Rattle.line_arbiter.specs.declared.outcome.Outcome.TheVariants.{Taken}
use Rattle.feed_types.specs.declared.line.LineId.{LineId}
use Rattle.line_gaps.specs.declared.number_run.NumberRun.{NumberRun}
use Rattle.line_gaps.specs.declared.gap_line.GapLine.{GapLine}
use Rattle.line_gaps.specs.declared.heard_packet.TimedPacket.{TimedPacket}
use Rattle.line_gaps.specs.declared.line_gaps.GapPass.{GapPass}
use Rattle.line_gaps.specs.declared.line_gaps.LineGaps.{LineGaps}
use Rattle.line_gaps.specs.declared.lost_numbers.LostNumbers.{LostNumbers}
use Rattle.line_gaps.specs.declared.open_gap.EndedGap.{EndedGap}
use Rattle.line_gaps.specs.declared.open_gap.GapEnd.{GapEnd}
use Rattle.line_gaps.specs.declared.open_gap.GapEnd.TheVariants as ends
use Rattle.line_gaps.specs.declared.open_gap.OpenGap.{OpenGap}
use Rattle.line_gaps.specs.Ends.{end_on, gap_over, is_open_gap, over_first, over_new, over_now}
use Rattle.line_gaps.specs.Gaps.{any_has_come, beginning_stands, brings_number, counts_on, counts_with, has_begun, highest_on, highest_skipped, highest_with, is_missing, is_missing_by, is_packet_of, known_number, last_number_told, number_has_come, of_line, passes, was_passed}
use Rattle.line_gaps.specs.LineSteps.{ClosesLine, Reaches, SkipsLine, TakesLine, highest_joined, joined_at, kept_open, over_closed, over_if, over_skipped, gaps_over_with, pass_of, still_open}
use Rattle.line_gaps.specs.Missing.{FitsLost, is_learnt}
use Rattle.line_gaps.specs.OpenGaps.{add_gap, closes_gaps, end_with, ended_gap, ended_on, is_open_after, open_on, over_before, gap_passed}
use Rattle.line_gaps.specs.Runs.{is_in_run, meets_runs}
use Rattle.line_gaps.specs.VenueFits.{AreStanding, FitsLine, IsHeard, SaysNothing, packet_event}
use Rattle.line_gaps.proofs.LineLemmas.{Agrees, Stays, all_stay, filter_stands, first_agrees, if_not, if_yes, map_agrees, none_over, over_agrees}
use Rattle.line_gaps.proofs.MissingLemmas.{missing_with, not_below}
use Rattle.line_gaps.proofs.RunLemmas.{apart_keeps, or_none}
use Rattle.line_gaps.proofs.StandLemmas.{IsOneOf, filter_below, passed_stands, stand_below}

-- ---- numbers that stay missing

learnt_none : (highest floor below n : ℕ) → n ≤ highest → is_learnt highest floor below n ≡ false
learnt_none highest floor below n within =
    ap (λ (b : Bool). b && (nat_le floor n && nat_le n below)) (not_below highest n within)

-- A packet that brings no number that was missing leaves all as they were.
pub stays_heard : (earlier : List TimedEvent) (last : TimedEvent) (packet : TimedPacket)
    (old : LostNumbers) (b : ℕ → Bool) → counts_with earlier last.time last.event ≡ Some packet
    → ((n : ℕ) → passes n last.event ≡ false) → ((n : ℕ) → brings_number n last.event ≡ b n)
    → FitsLost earlier old
    → ((n : ℕ) → is_missing earlier n ≡ (is_missing earlier n && not (b n)))
    → Stays earlier last
stays_heard earlier last packet old b counts passes_none brings_b fits kept n within =
    let end = last_number_told packet.number packet.count in
    let known = known_number earlier in
    let come = number_has_come earlier n in
    let passed = was_passed earlier n in
    let reach : known_number (last ∷ earlier) ≡ max known end =
    ap (λ (p : Option TimedPacket). highest_with known p) counts in
    ap (λ (k : ℕ). is_missing_by k (brings_number n last.event || come)
    (passes n last.event || passed) n) reach
    ∙ ap (λ (c : Bool). is_missing_by (max known end) (c || come) (passes n last.event || passed) n)
    (brings_b n)
    ∙ ap (λ (c : Bool). is_missing_by (max known end) (b n || come) (c || passed) n) (passes_none n)
    ∙ sym (missing_with n known end 0 old.floor (b n) come passed (fits.floor n) (fits.come n)
    (λ over. grind (arith, over, within)))
    ∙ ap (λ (c : Bool). (is_missing earlier n && not (b n)) || c)
    (learnt_none known old.floor 0 n within)
    ∙ or_none (is_missing earlier n && not (b n))
    ∙ sym (kept n)

-- ---- a packet that counts

-- what it fills is over by it
pub record EndsBy (last : TimedEvent) (packet : TimedPacket) : Type 0 where
  pub by : end_with last.event ≡ end_on packet.line
  pub time : last.time ≡ packet.time

own_counts : (line : GapLine) (earlier : List TimedEvent) (last : TimedEvent)
    (packet : TimedPacket) (old : LineGaps) → IsHeard earlier last packet → old.line ≡ line
    → of_line old.line (Some packet) ≡ counts_on line earlier last
own_counts line earlier last packet old heard is =
    ap (λ (l : GapLine). of_line l (Some packet)) is
    ∙ ap (λ (o : Option TimedPacket). of_line line o) (sym heard.counts)

one_of : (b : Bool) (packet : TimedPacket) → IsOneOf (if b then Some packet else None) packet
one_of true packet = refl
one_of false packet = tt

is_own_one : (line : GapLine) (packet : TimedPacket) → IsOneOf (of_line line (Some packet)) packet
is_own_one line packet = one_of (is_packet_of line packet) packet

kept_after : (line : GapLine) (earlier : List TimedEvent) (last : TimedEvent) (lost : LostNumbers)
    (filled : Bool) (gaps : List OpenGap) → Agrees (last ∷ earlier) lost
    → (filled ≡ false → Stays earlier last) → AreStanding line earlier gaps
    → kept_open filled lost gaps ≡ filter (is_open_after (last ∷ earlier)) gaps
kept_after line earlier last lost true gaps agree stays stand =
    filter_agree (is_open_gap lost) (is_open_after (last ∷ earlier)) agree.opens gaps
kept_after line earlier last lost false gaps agree stays stand =
    sym (all_stay line earlier last gaps (stays refl) stand)

pub line_after : (line : GapLine) (earlier : List TimedEvent) (last : TimedEvent)
    (packet : TimedPacket) (filled : Bool) (lost : LostNumbers) (old new : LineGaps)
    → IsHeard earlier last packet → Agrees (last ∷ earlier) lost
    → (filled ≡ false → Stays earlier last)
    → FitsLine line earlier old → TakesLine packet filled lost old new
    → FitsLine line (last ∷ earlier) new
line_after line earlier last packet filled lost old new heard agree stays fits takes =
    let own = own_counts line earlier last packet old heard fits.line_is in
    let p = is_open_after (last ∷ earlier) in
    let o = counts_on line earlier last in
    let kept = kept_after line earlier last lost filled old.«open».items agree stays fits.stand in
    let gaps : new.«open».items ≡ fold add_gap (filter p old.«open».items)
    (filter p (gap_passed (highest_on line earlier) o)) =
    takes.«open»
    ∙ ap (λ (gs : List OpenGap). fold add_gap gs
    (still_open lost (gap_passed old.highest (of_line old.line (Some packet))))) kept
    ∙ ap (λ (gs : List OpenGap). fold add_gap (filter p old.«open».items) gs)
    (filter_agree (is_open_gap lost) p agree.opens
    (gap_passed old.highest (of_line old.line (Some packet))))
    ∙ ap (λ (h : ℕ). fold add_gap (filter p old.«open».items)
    (filter p (gap_passed h (of_line old.line (Some packet))))) fits.highest
    ∙ ap (λ (q : Option TimedPacket). fold add_gap (filter p old.«open».items)
    (filter p (gap_passed (highest_on line earlier) q))) own in
    record {
      line_is = takes.line ∙ fits.line_is;
      begun = takes.begun
          ∙ ap (λ (q : Option TimedPacket). is_some q || old.begun) own
          ∙ ap (λ (b : Bool). is_some o || b) fits.begun;
      highest = takes.highest
          ∙ ap (λ (q : Option TimedPacket). highest_with old.highest q) own
          ∙ ap (λ (h : ℕ). highest_with h o) (fits.highest
          ∙ sym (heard.skips_none (beginning_stands line earlier)
          (highest_on line earlier)));
      «open» = gaps
          ∙ ap (λ (gs : List OpenGap). fold add_gap (filter p gs)
          (filter p (gap_passed (highest_on line earlier) o))) fits.«open»
          ∙ sym (if_not (closes_gaps last.event) [] _ heard.goes_on);
      stand = subst (λ (gs : List OpenGap). AreStanding line (last ∷ earlier) gs) (sym gaps)
          (passed_stands line earlier last packet o (filter p old.«open».items) heard.counts refl
          (subst (λ (q : Option TimedPacket). IsOneOf q packet) own
          (is_own_one old.line packet))
          (subst Reaches own takes.reaches)
          (filter_stands line earlier last old.«open».items fits.stand)
          (filter_below (highest_on line earlier) p old.«open».items
          (stand_below line earlier old.«open».items fits.stand)));
    }

not_agrees : (earlier : List TimedEvent) (lost : LostNumbers) → Agrees earlier lost
    → (gap : OpenGap) → not (is_open_gap lost gap) ≡ not (is_open_after earlier gap)
not_agrees earlier lost agree gap = ap not (agree.opens gap)

over_kept : (line : GapLine) (earlier : List TimedEvent) (last : TimedEvent)
    (packet : TimedPacket) (lost : LostNumbers) (filled : Bool) (gaps : List OpenGap)
    → Agrees (last ∷ earlier) lost → (filled ≡ false → Stays earlier last)
    → (filled ≡ true → EndsBy last packet) → AreStanding line earlier gaps
    → over_if filled line lost (pass_of packet) gaps
    ≡ map (ended_gap line (last ∷ earlier) (end_with last.event) last.time)
    (filter (λ g. not (is_open_after (last ∷ earlier) g)) gaps)
over_kept line earlier last packet lost true gaps agree stays ends_by stand =
    let by = ends_by refl in
    let over = filter (λ g. not (is_open_after (last ∷ earlier) g)) gaps in
    ap (λ (gs : List OpenGap). map (gap_over line lost (pass_of packet)) gs)
    (filter_agree _ (λ g. not (is_open_after (last ∷ earlier) g))
    (not_agrees (last ∷ earlier) lost agree) gaps)
    ∙ map_agrees (gap_over line lost (pass_of packet))
    (ended_gap line (last ∷ earlier) (end_on packet.line) packet.time)
    (λ g. over_agrees line (last ∷ earlier) lost (pass_of packet) g agree) over
    ∙ ap (λ (e : GapEnd). map (ended_gap line (last ∷ earlier) e packet.time) over) (sym by.by)
    ∙ ap (λ (t : Option ℕ). map (ended_gap line (last ∷ earlier) (end_with last.event) t) over)
    (sym by.time)
over_kept line earlier last packet lost false gaps agree stays ends_by stand =
    sym (ap (λ (gs : List OpenGap).
    map (ended_gap line (last ∷ earlier) (end_with last.event) last.time) gs)
    (none_over line earlier last gaps (stays refl) stand))

over_begins : (line : GapLine) (events : List TimedEvent) (lost : LostNumbers)
    (gaps : List OpenGap) → Agrees events lost
    → over_new line lost gaps
    ≡ map (over_before line events) (filter (λ g. not (is_open_after events g)) gaps)
over_begins line events lost gaps agree =
    ap (λ (gs : List OpenGap). map (over_first line lost) gs)
    (filter_agree _ (λ g. not (is_open_after events g)) (not_agrees events lost agree) gaps)
    ∙ map_agrees (over_first line lost) (over_before line events)
    (λ g. first_agrees line events lost g agree) _

pub over_after : (line : GapLine) (earlier : List TimedEvent) (last : TimedEvent)
    (packet : TimedPacket) (filled : Bool) (lost : LostNumbers) (old : LineGaps)
    → IsHeard earlier last packet → Agrees (last ∷ earlier) lost
    → (filled ≡ false → Stays earlier last) → (filled ≡ true → EndsBy last packet)
    → FitsLine line earlier old
    → gaps_over_with packet filled lost old ≡ ended_on line earlier last
over_after line earlier last packet filled lost old heard agree stays ends_by fits =
    let own = own_counts line earlier last packet old heard fits.line_is in
    let events = last ∷ earlier in
    let over = λ (gs : List OpenGap). map (ended_gap line events (end_with last.event) last.time)
    (filter (λ g. not (is_open_after events g)) gs) in
    let fresh = λ (gs : List OpenGap). map (over_before line events)
    (filter (λ g. not (is_open_after events g)) gs) in
    ap (λ (l : GapLine). over_if filled l lost (pass_of packet) old.«open».items
    ++ over_new l lost (gap_passed old.highest (of_line old.line (Some packet)))) fits.line_is
    ∙ ap (λ (l : List EndedGap). l ++ over_new line lost (gap_passed old.highest
    (of_line old.line (Some packet))))
    (over_kept line earlier last packet lost filled old.«open».items agree stays ends_by fits.stand)
    ∙ ap (λ (l : List EndedGap). over old.«open».items ++ l)
    (over_begins line events lost _ agree)
    ∙ ap (λ (h : ℕ). over old.«open».items
    ++ fresh (gap_passed h (of_line old.line (Some packet)))) fits.highest
    ∙ ap (λ (q : Option TimedPacket). over old.«open».items
    ++ fresh (gap_passed (highest_on line earlier) q)) own
    ∙ ap (λ (gs : List OpenGap). over gs
    ++ fresh (gap_passed (highest_on line earlier) (counts_on line earlier last))) fits.«open»
    ∙ sym (if_not (closes_gaps last.event)
    (map (ended_gap line earlier ends.Open None) (open_on line earlier)) _ heard.goes_on)

-- ---- a skip

skip_high : (begun come : Bool) (highest venue number : ℕ)
    → highest_joined begun highest (joined_at come number)
    ≡ highest_skipped (begun || come) highest (told_skip venue number (Ok tt))
skip_high true come highest venue number = refl
skip_high false true highest venue number = refl
skip_high false false highest venue number = refl

abbrev pub skipped_at : Option ℕ → ℕ → ℕ → TimedEvent
skipped_at time venue number = timed_event time (told_skip venue number (Ok tt))

pub line_skipped : (line : GapLine) (earlier : List TimedEvent) (time : Option ℕ)
    (venue number : ℕ) (joined : Option ℕ) (lost : LostNumbers) (old new : LineGaps)
    → Agrees (skipped_at time venue number ∷ earlier) lost
    → joined ≡ joined_at (any_has_come earlier) number
    → FitsLine line earlier old → SkipsLine joined time lost old new
    → FitsLine line (skipped_at time venue number ∷ earlier) new
line_skipped line earlier time venue number joined lost old new agree is fits skips =
    let begun = has_begun line earlier in
    let high = highest_on line earlier in
    let last = skipped_at time venue number in
    let p = is_open_after (last ∷ earlier) in
    let gaps : new.«open».items ≡ filter p old.«open».items =
    skips.«open» ∙ filter_agree (is_open_gap lost) p agree.opens old.«open».items in
    record {
      line_is = skips.line ∙ fits.line_is;
      begun = skips.begun ∙ fits.begun;
      highest = skips.highest
          ∙ ap (λ (b : Bool). highest_joined b old.highest joined) fits.begun
          ∙ ap (λ (h : ℕ). highest_joined begun h joined) fits.highest
          ∙ ap (λ (j : Option ℕ). highest_joined begun high j) is
          ∙ skip_high begun (any_has_come earlier) high venue number;
      «open» = gaps ∙ ap (λ (gs : List OpenGap). filter p gs) fits.«open»;
      stand = subst (λ (gs : List OpenGap). AreStanding line (last ∷ earlier) gs) (sym gaps)
          (filter_stands line earlier last old.«open».items fits.stand);
    }

pub skip_after : (line : GapLine) (earlier : List TimedEvent) (time : Option ℕ)
    (venue number : ℕ) (lost : LostNumbers) (old : LineGaps)
    → Agrees (skipped_at time venue number ∷ earlier) lost → FitsLine line earlier old
    → over_skipped time lost old ≡ ended_on line earlier (skipped_at time venue number)
skip_after line earlier time venue number lost old agree fits =
    let events = skipped_at time venue number ∷ earlier in
    let pass : GapPass = record { by = ends.Skip; time = time } in
    let over = filter (λ g. not (is_open_after events g)) in
    ap (λ (l : GapLine). over_now l lost pass old.«open».items) fits.line_is
    ∙ ap (λ (gs : List OpenGap). map (gap_over line lost pass) gs)
    (filter_agree _ (λ g. not (is_open_after events g)) (not_agrees events lost agree)
    old.«open».items)
    ∙ map_agrees (gap_over line lost pass) (ended_gap line events ends.Skip time)
    (λ g. over_agrees line events lost pass g agree) (over old.«open».items)
    ∙ ap (λ (gs : List OpenGap). map (ended_gap line events ends.Skip time) (over gs)) fits.«open»
    ∙ sym (append-nil _)

-- ---- the end of a session or of the capture

pub close_after : (line : GapLine) (earlier : List TimedEvent) (last : TimedEvent)
    (lost : LostNumbers) (old : LineGaps) → closes_gaps last.event ≡ true
    → Agrees earlier lost → FitsLine line earlier old
    → over_closed lost old ≡ ended_on line earlier last
close_after line earlier last lost old closes agree fits =
    let pass : GapPass = record { by = ends.Open; time = None } in
    ap (λ (l : GapLine). map (gap_over l lost pass) old.«open».items) fits.line_is
    ∙ map_agrees (gap_over line lost pass) (ended_gap line earlier ends.Open None)
    (λ g. over_agrees line earlier lost pass g agree) old.«open».items
    ∙ ap (λ (gs : List OpenGap). map (ended_gap line earlier ends.Open None) gs) fits.«open»
    ∙ sym (if_yes (closes_gaps last.event) _ _ closes)

-- ---- an event that says nothing of numbers

pub no_counts : (line : GapLine) (earlier : List TimedEvent) (last : TimedEvent)
    → SaysNothing earlier last → counts_on line earlier last ≡ None
no_counts line earlier last says =
    ap (λ (o : Option TimedPacket). of_line line o) says.counts

pub idle_missing : (earlier : List TimedEvent) (last : TimedEvent) (n : ℕ)
    → SaysNothing earlier last → is_missing (last ∷ earlier) n ≡ is_missing earlier n
idle_missing earlier last n says =
    let known = known_number earlier in
    let come = number_has_come earlier n in
    let passed = was_passed earlier n in
    ap (λ (o : Option TimedPacket). is_missing_by (highest_with known o)
    (brings_number n last.event || come) (passes n last.event || passed) n) says.counts
    ∙ ap (λ (c : Bool). is_missing_by known (c || come) (passes n last.event || passed) n)
    (says.brings_none n)
    ∙ ap (λ (c : Bool). is_missing_by known (false || come) (c || passed) n) (says.passes_none n)

idle_base : (line : GapLine) (earlier : List TimedEvent) (last : TimedEvent)
    (new : LineGaps) → SaysNothing earlier last → new.highest ≡ highest_on line earlier
    → new.highest ≡ highest_on line (last ∷ earlier)
idle_base line earlier last new says is =
    let stands = beginning_stands line earlier in
    let base = highest_skipped stands (highest_on line earlier) last.event in
    is ∙ sym (says.skips_none stands (highest_on line earlier))
    ∙ ap (λ (o : Option TimedPacket). highest_with base o)
    (sym (no_counts line earlier last says))

idle_begun : (line : GapLine) (earlier : List TimedEvent) (last : TimedEvent)
    (new : LineGaps) → SaysNothing earlier last → new.begun ≡ has_begun line earlier
    → new.begun ≡ has_begun line (last ∷ earlier)
idle_begun line earlier last new says is =
    is ∙ ap (λ (o : Option TimedPacket). is_some o || has_begun line earlier)
    (sym (no_counts line earlier last says))

idle_stays : (earlier : List TimedEvent) (last : TimedEvent) → SaysNothing earlier last
    → Stays earlier last
idle_stays earlier last says = λ n within. idle_missing earlier last n says

pub line_idle : (line : GapLine) (earlier : List TimedEvent) (last : TimedEvent)
    (gaps : LineGaps) → SaysNothing earlier last → closes_gaps last.event ≡ false
    → FitsLine line earlier gaps → FitsLine line (last ∷ earlier) gaps
line_idle line earlier last gaps says goes_on fits =
    let p = is_open_after (last ∷ earlier) in
    let stay = all_stay line earlier last gaps.«open».items (idle_stays earlier last says)
    fits.stand in
    record {
      line_is = fits.line_is;
      begun = idle_begun line earlier last gaps says fits.begun;
      highest = idle_base line earlier last gaps says fits.highest;
      «open» = sym stay ∙ ap (λ (gs : List OpenGap). filter p gs) fits.«open»
          ∙ ap (λ (o : Option TimedPacket). fold add_gap (filter p (open_on line earlier))
          (filter p (gap_passed (highest_on line earlier) o)))
          (sym (no_counts line earlier last says))
          ∙ sym (if_not (closes_gaps last.event) [] _ goes_on);
      stand = subst (λ (gs : List OpenGap). AreStanding line (last ∷ earlier) gs) stay
          (filter_stands line earlier last gaps.«open».items fits.stand);
    }

pub idle_after : (line : GapLine) (earlier : List TimedEvent) (last : TimedEvent)
    (gaps : LineGaps) → SaysNothing earlier last → closes_gaps last.event ≡ false
    → FitsLine line earlier gaps → [] ≡ ended_on line earlier last
idle_after line earlier last gaps says goes_on fits =
    let events = last ∷ earlier in
    let over = λ (gs : List OpenGap). map (ended_gap line events (end_with last.event) last.time)
    (filter (λ g. not (is_open_after events g)) gs) in
    let fresh = λ (o : Option TimedPacket). map (over_before line events)
    (filter (λ g. not (is_open_after events g)) (gap_passed (highest_on line earlier) o)) in
    ap (λ (gs : List OpenGap). map (ended_gap line events (end_with last.event) last.time) gs)
    (sym (none_over line earlier last gaps.«open».items (idle_stays earlier last says) fits.stand))
    ∙ ap over fits.«open»
    ∙ sym (append-nil (over (open_on line earlier)))
    ∙ ap (λ (o : Option TimedPacket). over (open_on line earlier) ++ fresh o)
    (sym (no_counts line earlier last says))
    ∙ sym (if_not (closes_gaps last.event) _ _ goes_on)

-- an event that closes what is open, and says nothing else
pub line_closed : (line : GapLine) (earlier : List TimedEvent) (last : TimedEvent)
    (lost : LostNumbers) (old new : LineGaps) → SaysNothing earlier last
    → closes_gaps last.event ≡ true → FitsLine line earlier old → ClosesLine lost old new
    → FitsLine line (last ∷ earlier) new
line_closed line earlier last lost old new says closes fits is = record {
  line_is = is.line ∙ fits.line_is;
  begun = idle_begun line earlier last new says (is.begun ∙ fits.begun);
  highest = idle_base line earlier last new says (is.highest ∙ fits.highest);
  «open» = is.«open» ∙ sym (if_yes (closes_gaps last.event) [] _ closes);
  stand = subst (λ (gs : List OpenGap). AreStanding line (last ∷ earlier) gs) (sym is.«open») tt;
}

-- ---- packets of each answer

pub packet_skips_none : (begun : Bool) (highest venue : ℕ) (line : LineId)
    (number count bytes : ℕ) (answer : Result Outcome LineFault)
    → highest_skipped begun highest (told_packet venue line number count bytes answer) ≡ highest
packet_skips_none true highest venue line number count bytes answer = refl
packet_skips_none false highest venue line number count bytes answer = refl

-- a packet whose messages came, none of which was missing
pub stays_taken : (earlier : List TimedEvent) (packet : TimedPacket) (venue bytes new repeated : ℕ)
    (old : LostNumbers) → FitsLost earlier old → old.missing.dropped ≡ 0
    → meets_runs old.missing.runs.items
    (record { first = packet.number; last = last_number_told packet.number packet.count }) ≡ false
    → Stays earlier (packet_event packet venue bytes (Ok (Taken new repeated)))
stays_taken earlier packet venue bytes new repeated old fits whole apart =
    let run : NumberRun = record {
      first = packet.number;
      last = last_number_told packet.number packet.count;
    } in
    stays_heard earlier (packet_event packet venue bytes (Ok (Taken new repeated))) packet old
    (λ n. is_in_run n run) refl (λ n. refl) (λ n. refl) fits
    (λ n.
    sym (fits.missing whole n) ∙ apart_keeps n old.missing.runs.items run apart
    ∙ ap (λ (b : Bool). b && not (is_in_run n run)) (fits.missing whole n))
