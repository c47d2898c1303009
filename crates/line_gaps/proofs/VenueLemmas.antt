-- The gaps of a venue after one more event of its session.
use Rattle.std.proofs.Common.{◌≡◌, ℕ, ◌-◌, Bool, true, false, List, [], ◌∷◌, ◌++◌, arith, ap, refl, sym, subst, ◌∙◌, append-nil, Option, None, Some, Ok, Err}
use Rattle.std.specs.Prelude.{◌||◌}
use Rattle.std.proofs.lemmas.List.{append_cancel_left}
use Rattle.feed_types.specs.declared.line.LineId.{LineId}
use Rattle.feed_types.specs.declared.line.LineId.TheVariants as on
use Rattle.feed_types.specs.FullCounts.{count_after}
use Rattle.feed_types.specs.PerLines.{on_all, on_line, with_line}
use Rattle.event_sinks.specs.SinkEvents.{SinkEvent, TimedEvent, timed_event, told_before, told_best, told_declaration, told_gap, told_item, told_last, told_packet, told_refusal, told_renewal, told_skip}
use Rattle.line_arbiter.specs.declared.outcome.Outcome.TheVariants.{Ahead}
use Rattle.feed_types.specs.declared.per_line.PerLine.{PerLine}
use Rattle.line_gaps.specs.declared.gap_line.GapLine.{GapLine}
use Rattle.line_gaps.specs.declared.gap_line.GapLine.TheVariants as lines
use Rattle.line_gaps.specs.declared.ended_gaps.EndedGaps.{EndedGaps}
use Rattle.line_gaps.specs.declared.gap_sums.GapSums.{GapSums}
use Rattle.line_gaps.specs.declared.heard_packet.TimedPacket.{TimedPacket}
use Rattle.line_gaps.specs.declared.line_gaps.LineGaps.{LineGaps}
use Rattle.line_gaps.specs.declared.lost_numbers.LostNumbers.{LostNumbers}
use Rattle.line_gaps.specs.declared.open_gap.EndedGap.{EndedGap}
use Rattle.line_gaps.specs.declared.open_gap.OpenGap.{OpenGap}
use Rattle.line_gaps.specs.declared.venue_gaps.VenueGaps.{VenueGaps}
use Rattle.line_gaps.specs.declared.venue_gaps.VenueSums.{VenueSums}
use Rattle.line_gaps.specs.Ends.{EndsGaps, KeepsLine}
use Rattle.line_gaps.specs.Gaps.{any_has_come, brings_messages, brings_number, counts_with, far_on, far_that, goes_on, highest_skipped, highest_with, is_given_up, known_number, number_has_come, packet_heard, passes, was_passed}
use Rattle.line_gaps.specs.LineSteps.{ClosesLine, SkipsLine, TakesLine, joined_at, over_closed, over_skipped, gaps_over_with}
use Rattle.line_gaps.specs.Missing.{FitsLost, KeptAll, KeepsDropped}
use Rattle.line_gaps.specs.OpenGaps.{starts_session, closes_gaps, in_session}
use Rattle.line_gaps.specs.Sums.{AreSumsOf}
use Rattle.line_gaps.specs.VenueFits.{AreStanding, EndsJust, FitsBut, FitsGaps, FitsLine, FitsSession, IsHeard, SaysNothing, StepsOn, TakesTimed, packet_event}
use Rattle.line_gaps.proofs.LineLemmas.{Stays, agrees, if_not, if_yes}
use Rattle.line_gaps.proofs.MissingLemmas.{either_false, none_given}
use Rattle.line_gaps.proofs.SessionLemmas.{EndsBy, close_after, idle_after, idle_missing, line_after, line_closed, line_idle, line_skipped, over_after, skip_after, skipped_at}

-- the sums of the gaps that ended, which are these
pub sums_of_ended : (most : ℕ) (old new : LineGaps) (before after : EndedGaps)
    (over rows : List EndedGap) → EndsGaps most old new before after
    → after.gaps.items ≡ before.gaps.items ++ over
    → AreSumsOf rows old.sums → AreSumsOf (rows ++ over) new.sums
sums_of_ended most old new before after over rows ends is are =
    subst (λ (l : List EndedGap). AreSumsOf (rows ++ l) new.sums)
    (append_cancel_left before.gaps.items ends.more over (sym ends.ended ∙ is))
    (ends.sums rows are)

pub was_whole : (old new : LostNumbers) → KeepsDropped old new → KeptAll new → KeptAll old
was_whole old new kept whole =
    let missing = kept.missing in
    let given_up = kept.given_up in
    let no_missing = whole.missing in
    let no_given = whole.given_up in
    record {
      missing = omega (arith, missing, no_missing);
      given_up = omega (arith, given_up, no_given);
    }

pub whole_back : (old mid new : LostNumbers) → mid ≡ old → KeepsDropped mid new → KeptAll new
    → KeptAll old
whole_back old mid new same kept whole = subst KeptAll same (was_whole mid new kept whole)

pub fits_but : (earlier : List TimedEvent) (last : TimedEvent) (gaps : VenueGaps)
    → FitsSession earlier gaps
    → ((line : LineId) → far_on line (last ∷ earlier) ≡ far_on line earlier)
    → FitsBut earlier last gaps
fits_but earlier last gaps fits far = record {
  lost = fits.lost;
  a = fits.a;
  b = fits.b;
  all = fits.all;
  far = λ line. fits.far line ∙ sym (far line);
  come = fits.come;
}

-- three lists after another, each equal to another
abbrev three : List EndedGap → List EndedGap → List EndedGap → List EndedGap
three x y z = x ++ (y ++ z)

three_are : (x y z a b c : List EndedGap) → x ≡ a → y ≡ b → z ≡ c → three x y z ≡ three a b c
three_are x y z a b c e f g =
    ap (λ (l : List EndedGap). three l y z) e ∙ ap (λ (l : List EndedGap). three a l z) f
    ∙ ap (λ (l : List EndedGap). three a b l) g

sums_are : (rows over ended : List EndedGap) (sums : GapSums) → over ≡ ended
    → AreSumsOf (rows ++ over) sums → AreSumsOf (rows ++ ended) sums
sums_are rows over ended sums is are =
    subst (λ (l : List EndedGap). AreSumsOf (rows ++ l) sums) is are

-- A packet that counts.
pub venue_heard : (earlier : List TimedEvent) (last : TimedEvent) (packet : TimedPacket)
    (filled : Bool) (lost : LostNumbers) (old new : VenueGaps) (before after : List EndedGap)
    → IsHeard earlier last packet → FitsBut earlier last old
    → FitsLost (last ∷ earlier) lost → KeepsDropped old.lost lost → new.lost ≡ lost
    → new.far ≡ old.far → new.has_come ≡ any_has_come (last ∷ earlier)
    → (KeptAll old.lost → filled ≡ false → Stays earlier last)
    → (filled ≡ true → EndsBy last packet)
    → TakesLine packet filled lost old.a new.a → TakesLine packet filled lost old.b new.b
    → TakesLine packet filled lost old.all new.all
    → after ≡ before ++ three (gaps_over_with packet filled lost old.a)
    (gaps_over_with packet filled lost old.b) (gaps_over_with packet filled lost old.all)
    → StepsOn earlier last old new before after
venue_heard earlier last packet filled lost old new before after heard fits lost_fits kept same far
    come stays ends_by a b all are =
    let whole_now = λ (w : KeptAll new.lost). subst KeptAll same w in
    let was = λ (w : KeptAll new.lost). was_whole old.lost lost kept (whole_now w) in
    let agree = λ (w : KeptAll new.lost). agrees (last ∷ earlier) lost lost_fits (whole_now w) in
    let over_a = λ (w : KeptAll new.lost). over_after lines.A earlier last packet filled lost old.a
    heard (agree w) (stays (was w)) ends_by (fits.a (was w)) in
    let over_b = λ (w : KeptAll new.lost). over_after lines.B earlier last packet filled lost old.b
    heard (agree w) (stays (was w)) ends_by (fits.b (was w)) in
    let over_all = λ (w : KeptAll new.lost). over_after lines.All earlier last packet filled lost
    old.all heard (agree w) (stays (was w)) ends_by (fits.all (was w)) in
    record {
      fits = record {
        lost = subst (λ (l : LostNumbers). FitsLost (last ∷ earlier) l) (sym same) lost_fits;
        a = λ w. line_after lines.A earlier last packet filled lost old.a new.a heard (agree w)
            (stays (was w)) (fits.a (was w)) a;
        b = λ w. line_after lines.B earlier last packet filled lost old.b new.b heard (agree w)
            (stays (was w)) (fits.b (was w)) b;
        all = λ w. line_after lines.All earlier last packet filled lost old.all new.all heard
            (agree w) (stays (was w)) (fits.all (was w)) all;
        far = λ line. rw far (fits.far line);
        come = come;
      };
      ends = λ w. record {
        are = are ∙ ap (λ (l : List EndedGap). before ++ l)
            (three_are _ _ _ _ _ _ (over_a w) (over_b w) (over_all w));
        sums_a = λ rows sums. sums_are rows _ _ new.a.sums (over_a w) (a.sums rows sums);
        sums_b = λ rows sums. sums_are rows _ _ new.b.sums (over_b w) (b.sums rows sums);
        sums_all = λ rows sums. sums_are rows _ _ new.all.sums (over_all w) (all.sums rows sums);
      };
    }

-- A skip.
pub venue_skipped : (earlier : List TimedEvent) (time : Option ℕ) (venue number : ℕ)
    (joined : Option ℕ) (lost : LostNumbers) (old new : VenueGaps) (before after : List EndedGap)
    → FitsSession earlier old → FitsLost (skipped_at time venue number ∷ earlier) lost
    → KeepsDropped old.lost lost → new.lost ≡ lost → new.far ≡ old.far
    → new.has_come ≡ old.has_come → joined ≡ joined_at old.has_come number
    → SkipsLine joined time lost old.a new.a → SkipsLine joined time lost old.b new.b
    → SkipsLine joined time lost old.all new.all
    → after ≡ before ++ three (over_skipped time lost old.a)
    (over_skipped time lost old.b) (over_skipped time lost old.all)
    → StepsOn earlier (skipped_at time venue number) old new before after
venue_skipped earlier time venue number joined lost old new before after fits lost_fits kept same
    far come join a b all are =
    let is : joined ≡ joined_at (any_has_come earlier) number =
    join ∙ ap (λ (c : Bool). joined_at c number) fits.come in
    let last = skipped_at time venue number in
    let whole_now = λ (w : KeptAll new.lost). subst KeptAll same w in
    let was = λ (w : KeptAll new.lost). was_whole old.lost lost kept (whole_now w) in
    let agree = λ (w : KeptAll new.lost). agrees (last ∷ earlier) lost lost_fits (whole_now w) in
    let over_a = λ (w : KeptAll new.lost). skip_after lines.A earlier time venue number lost old.a
    (agree w) (fits.a (was w)) in
    let over_b = λ (w : KeptAll new.lost). skip_after lines.B earlier time venue number lost old.b
    (agree w) (fits.b (was w)) in
    let over_all = λ (w : KeptAll new.lost). skip_after lines.All earlier time venue number lost
    old.all (agree w) (fits.all (was w)) in
    record {
      fits = record {
        lost = subst (λ (l : LostNumbers). FitsLost (last ∷ earlier) l) (sym same) lost_fits;
        a = λ w. line_skipped lines.A earlier time venue number joined lost old.a new.a
            (agree w) is (fits.a (was w)) a;
        b = λ w. line_skipped lines.B earlier time venue number joined lost old.b new.b
            (agree w) is (fits.b (was w)) b;
        all = λ w. line_skipped lines.All earlier time venue number joined lost old.all
            new.all (agree w) is (fits.all (was w)) all;
        far = λ line. rw far (fits.far line);
        come = come ∙ fits.come;
      };
      ends = λ w. record {
        are = are ∙ ap (λ (l : List EndedGap). before ++ l)
            (three_are _ _ _ _ _ _ (over_a w) (over_b w) (over_all w));
        sums_a = λ rows sums. sums_are rows _ _ new.a.sums (over_a w) (a.sums rows sums);
        sums_b = λ rows sums. sums_are rows _ _ new.b.sums (over_b w) (b.sums rows sums);
        sums_all = λ rows sums. sums_are rows _ _ new.all.sums (over_all w) (all.sums rows sums);
      };
    }

-- ---- an event that says nothing of numbers

idle_known : (earlier : List TimedEvent) (last : TimedEvent) → SaysNothing earlier last
    → known_number (last ∷ earlier) ≡ known_number earlier
idle_known earlier last says =
    ap (λ (o : Option TimedPacket). highest_with (known_number earlier) o) says.counts

fits_idle : (earlier : List TimedEvent) (last : TimedEvent) (lost : LostNumbers)
    → SaysNothing earlier last → FitsLost earlier lost → FitsLost (last ∷ earlier) lost
fits_idle earlier last lost says fits = record {
  missing = λ none n. fits.missing none n ∙ sym (idle_missing earlier last n says);
  given_up = λ none few n.
      fits.given_up none few n
      ∙ sym (none_given (is_given_up earlier n) (passes n last.event) _ (says.passes_none n));
  order = fits.order;
  given_order = fits.given_order;
  highest = fits.highest ∙ sym (idle_known earlier last says);
  floor = λ n.
      ap (λ (b : Bool). b || was_passed earlier n) (says.passes_none n) ∙ fits.floor n;
  come = λ n over.
      either_false (brings_number n last.event) (number_has_come earlier n) (says.brings_none n)
      (fits.come n (rw (sym (idle_known earlier last says)) over));
}

stay_sums : (rows over : List EndedGap) (old new : LineGaps) → new ≡ old → [] ≡ over
    → AreSumsOf rows old.sums → AreSumsOf (rows ++ over) new.sums
stay_sums rows over old new same none are =
    subst (λ (g : LineGaps). AreSumsOf (rows ++ over) g.sums) (sym same)
    (subst (λ (l : List EndedGap). AreSumsOf (rows ++ l) old.sums) none
    (subst (λ (l : List EndedGap). AreSumsOf l old.sums) (sym (append-nil rows)) are))

-- where no message comes
pub come_idle : (earlier : List TimedEvent) (last : TimedEvent)
    → brings_messages last.event ≡ false → (come : Bool) → come ≡ any_has_come earlier
    → come ≡ any_has_come (last ∷ earlier)
come_idle earlier last none come is =
    is ∙ sym (ap (λ (b : Bool). b || any_has_come earlier) none)

pub venue_idle : (earlier : List TimedEvent) (last : TimedEvent) (old new : VenueGaps)
    (before : List EndedGap) → SaysNothing earlier last → closes_gaps last.event ≡ false
    → FitsBut earlier last old → new.lost ≡ old.lost → new.far ≡ old.far
    → new.has_come ≡ old.has_come → new.a ≡ old.a
    → new.b ≡ old.b → new.all ≡ old.all → StepsOn earlier last old new before before
venue_idle earlier last old new before says goes_on fits lost far come a b all =
    let was = λ (w : KeptAll new.lost). subst KeptAll lost w in
    let over_a = λ (w : KeptAll new.lost). idle_after lines.A earlier last old.a says goes_on
    (fits.a (was w)) in
    let over_b = λ (w : KeptAll new.lost). idle_after lines.B earlier last old.b says goes_on
    (fits.b (was w)) in
    let over_all = λ (w : KeptAll new.lost). idle_after lines.All earlier last old.all says goes_on
    (fits.all (was w)) in
    record {
      fits = record {
        lost = subst (λ (l : LostNumbers). FitsLost (last ∷ earlier) l) (sym lost)
            (fits_idle earlier last old.lost says fits.lost);
        a = λ w. subst (λ (g : LineGaps). FitsLine lines.A (last ∷ earlier) g) (sym a)
            (line_idle lines.A earlier last old.a says goes_on (fits.a (was w)));
        b = λ w. subst (λ (g : LineGaps). FitsLine lines.B (last ∷ earlier) g) (sym b)
            (line_idle lines.B earlier last old.b says goes_on (fits.b (was w)));
        all = λ w. subst (λ (g : LineGaps). FitsLine lines.All (last ∷ earlier) g) (sym all)
            (line_idle lines.All earlier last old.all says goes_on (fits.all (was w)));
        far = λ line. rw far (fits.far line);
        come = come ∙ come_idle earlier last says.has_no_messages old.has_come fits.come;
      };
      ends = λ w. record {
        are = sym (append-nil before) ∙ ap (λ (l : List EndedGap). before ++ l)
            (three_are [] [] [] _ _ _ (over_a w) (over_b w) (over_all w));
        sums_a = λ rows sums. stay_sums rows _ old.a new.a a (over_a w) sums;
        sums_b = λ rows sums. stay_sums rows _ old.b new.b b (over_b w) sums;
        sums_all = λ rows sums. stay_sums rows _ old.all new.all all (over_all w) sums;
      };
    }

-- ---- the end of a session or of the capture

pub closes_line : (lost : LostNumbers) (old new : LineGaps) → KeepsLine old new
    → new.«open».items ≡ []
    → new.sums.tail ≡ count_after old.sums.tail (lost.highest - old.highest)
    → ((rows : List EndedGap) → AreSumsOf rows old.sums
    → AreSumsOf (rows ++ over_closed lost old) new.sums) → ClosesLine lost old new
closes_line lost old new kept none tail sums = record {
  line = kept.line;
  begun = kept.begun;
  highest = kept.highest;
  «open» = none;
  tail = tail;
  sums = sums;
}

pub closed_just : (earlier : List TimedEvent) (last : TimedEvent) (old mid new : VenueGaps)
    (before after : List EndedGap) → closes_gaps last.event ≡ true → FitsSession earlier old
    → KeptAll old.lost
    → ClosesLine old.lost old.a mid.a → ClosesLine old.lost old.b mid.b
    → ClosesLine old.lost old.all mid.all
    → new.a.sums ≡ mid.a.sums → new.b.sums ≡ mid.b.sums → new.all.sums ≡ mid.all.sums
    → after ≡ before ++ three (over_closed old.lost old.a) (over_closed old.lost old.b)
    (over_closed old.lost old.all)
    → EndsJust earlier last old new before after
closed_just earlier last old mid new before after closes fits whole a b all same_a same_b same_all
    are =
    let agree = agrees earlier old.lost fits.lost whole in
    let over_a = close_after lines.A earlier last old.lost old.a closes agree (fits.a whole) in
    let over_b = close_after lines.B earlier last old.lost old.b closes agree (fits.b whole) in
    let over_all = close_after lines.All earlier last old.lost old.all closes agree
    (fits.all whole) in
    record {
      are = are ∙ ap (λ (l : List EndedGap). before ++ l)
          (three_are _ _ _ _ _ _ over_a over_b over_all);
      sums_a = λ rows sums. rw same_a (sums_are rows _ _ mid.a.sums over_a (a.sums rows sums));
      sums_b = λ rows sums. rw same_b (sums_are rows _ _ mid.b.sums over_b (b.sums rows sums));
      sums_all = λ rows sums.
          rw same_all (sums_are rows _ _ mid.all.sums over_all (all.sums rows sums));
    }

-- The capture is over.
pub venue_closed : (earlier : List TimedEvent) (last : TimedEvent) (old new : VenueGaps)
    (before after : List EndedGap) → SaysNothing earlier last → closes_gaps last.event ≡ true
    → FitsBut earlier last old → FitsSession earlier old
    → new.lost ≡ old.lost → new.far ≡ old.far → new.has_come ≡ old.has_come
    → ClosesLine old.lost old.a new.a → ClosesLine old.lost old.b new.b
    → ClosesLine old.lost old.all new.all
    → after ≡ before ++ three (over_closed old.lost old.a) (over_closed old.lost old.b)
    (over_closed old.lost old.all)
    → StepsOn earlier last old new before after
venue_closed earlier last old new before after says closes but fits lost far come a b all are =
    let was = λ (w : KeptAll new.lost). subst KeptAll lost w in
    record {
      fits = record {
        lost = subst (λ (l : LostNumbers). FitsLost (last ∷ earlier) l) (sym lost)
            (fits_idle earlier last old.lost says fits.lost);
        a = λ w. line_closed lines.A earlier last old.lost old.a new.a says closes
            (fits.a (was w)) a;
        b = λ w. line_closed lines.B earlier last old.lost old.b new.b says closes
            (fits.b (was w)) b;
        all = λ w. line_closed lines.All earlier last old.lost old.all new.all says closes
            (fits.all (was w)) all;
        far = λ line. rw far (but.far line);
        come = come ∙ come_idle earlier last says.has_no_messages old.has_come fits.come;
      };
      ends = λ w. closed_just earlier last old new new before after closes fits (was w) a b all refl
          refl refl are;
    }

pub record IsFresh (gaps : LineGaps) : Type 0 where
  pub begun : gaps.begun ≡ false
  pub highest : gaps.highest ≡ 0
  pub «open» : gaps.«open».items ≡ []

fresh_line : (line : GapLine) (gaps : LineGaps) → gaps.line ≡ line → IsFresh gaps
    → FitsLine line [] gaps
fresh_line line gaps is fresh = record {
  line_is = is;
  begun = fresh.begun;
  highest = fresh.highest;
  «open» = fresh.«open»;
  stand = subst (λ (gs : List OpenGap). AreStanding line [] gs) (sym fresh.«open») tt;
}

-- The next session begins.
pub fits_none : (gaps : VenueGaps) → FitsLost [] gaps.lost
    → (KeptAll gaps.lost → gaps.a.line ≡ lines.A) → (KeptAll gaps.lost → gaps.b.line ≡ lines.B)
    → (KeptAll gaps.lost → gaps.all.line ≡ lines.All) → IsFresh gaps.a → IsFresh gaps.b
    → IsFresh gaps.all → ((line : LineId) → on_line line gaps.far ≡ None)
    → gaps.has_come ≡ false → FitsSession [] gaps
fits_none gaps lost line_a line_b line_all a b all far come = record {
  lost = lost;
  a = λ w. fresh_line lines.A gaps.a (line_a w) a;
  b = λ w. fresh_line lines.B gaps.b (line_b w) b;
  all = λ w. fresh_line lines.All gaps.all (line_all w) all;
  far = far;
  come = come;
}

pub far_none : (far : PerLine (Option TimedPacket)) → far ≡ on_all None → (line : LineId)
    → on_line line far ≡ None
far_none far is on.A = ap (on_line on.A) is
far_none far is on.B = ap (on_line on.B) is
far_none far is on.Recovery = ap (on_line on.Recovery) is

-- ---- packets past the window

-- what is kept of them after one more
pub far_set : (earlier : List TimedEvent) (time : Option ℕ) (venue : ℕ) (at : LineId)
    (number count bytes : ℕ) (far : PerLine (Option TimedPacket))
    → ((line : LineId) → on_line line far ≡ far_on line earlier) → (line : LineId)
    → on_line line (with_line at (Some (packet_heard at number count time)) far)
    ≡ far_on line (timed_event time (told_packet venue at number count bytes (Ok Ahead)) ∷ earlier)
far_set earlier time venue on.A number count bytes far was on.A = refl
far_set earlier time venue on.A number count bytes far was on.B = was on.B
far_set earlier time venue on.A number count bytes far was on.Recovery = was on.Recovery
far_set earlier time venue on.B number count bytes far was on.A = was on.A
far_set earlier time venue on.B number count bytes far was on.B = refl
far_set earlier time venue on.B number count bytes far was on.Recovery = was on.Recovery
far_set earlier time venue on.Recovery number count bytes far was on.A = was on.A
far_set earlier time venue on.Recovery number count bytes far was on.B = was on.B
far_set earlier time venue on.Recovery number count bytes far was on.Recovery = refl

-- with a packet past the window the one before counts, if it goes on from that
pub far_counts : (number : ℕ) (before : TimedPacket) (o : Option TimedPacket) → o ≡ Some before
    → goes_on before number ≡ true → far_that number o ≡ Some before
far_counts number before o is on =
    ap (far_that number) is ∙ if_yes (goes_on before number) (Some before) None on

pub far_alone : (number : ℕ) (before : TimedPacket) (o : Option TimedPacket) → o ≡ Some before
    → goes_on before number ≡ false → far_that number o ≡ None
far_alone number before o is on =
    ap (far_that number) is ∙ if_not (goes_on before number) (Some before) None on

pub far_first : (number : ℕ) (o : Option TimedPacket) → o ≡ None → far_that number o ≡ None
far_first number o is = ap (far_that number) is

-- ---- over all sessions

pub steps_timed : (earlier : List TimedEvent) (last : TimedEvent) (old new : VenueGaps)
    (before after : List EndedGap) → starts_session last.event ≡ false → before ≡ []
    → StepsOn (in_session earlier) last old new before after
    → TakesTimed earlier last old new after
steps_timed earlier last old new before after goes_on none steps = record {
  fits = subst (λ (events : List TimedEvent). FitsSession events new)
      (sym (if_not (starts_session last.event) [] (last ∷ in_session earlier) goes_on)) steps.fits;
  ends = λ w.
      subst (λ (l : List EndedGap). EndsJust (in_session earlier) last old new l after) none
      (steps.ends w);
}

-- the same with other sums
other_sums : (line : GapLine) (events : List TimedEvent) (gaps : LineGaps) (sums : GapSums)
    → FitsLine line events gaps → FitsLine line events (record gaps { sums = sums })
other_sums line events gaps sums fits = record {
  line_is = fits.line_is;
  begun = fits.begun;
  highest = fits.highest;
  «open» = fits.«open»;
  stand = fits.stand;
}

pub fits_restarted : (events : List TimedEvent) (gaps : VenueGaps) (a b all : GapSums)
    (sums : VenueSums) → FitsSession events gaps
    → FitsSession events (record gaps {
      a = record gaps.a { sums = a };
      b = record gaps.b { sums = b };
      all = record gaps.all { sums = all };
      sums = sums;
    })
fits_restarted events gaps a b all sums fits = record {
  lost = fits.lost;
  a = λ w. other_sums lines.A events gaps.a a (fits.a w);
  b = λ w. other_sums lines.B events gaps.b b (fits.b w);
  all = λ w. other_sums lines.All events gaps.all all (fits.all w);
  far = fits.far;
  come = fits.come;
}

-- the event before which all gaps ended
pub renewed_timed : (earlier : List TimedEvent) (time : Option ℕ) (venue ordinal : ℕ)
    (old new : VenueGaps) (before after : List EndedGap) → before ≡ [] → FitsSession [] new
    → (KeptAll new.lost → EndsJust (in_session earlier)
    (timed_event time (told_renewal venue (Ok ordinal))) old new before after)
    → TakesTimed earlier (timed_event time (told_renewal venue (Ok ordinal))) old new after
renewed_timed earlier time venue ordinal old new before after none fits ends = record {
  fits = fits;
  ends = λ w.
      subst (λ (l : List EndedGap). EndsJust (in_session earlier)
      (timed_event time (told_renewal venue (Ok ordinal))) old new l after) none (ends w);
}

-- which packets are past the window has no part in gaps that end
pub other_far : (earlier : List TimedEvent) (last : TimedEvent) (old new : VenueGaps)
    (far : PerLine (Option TimedPacket)) (before after : List EndedGap)
    → StepsOn earlier last (record old { far = far }) new before after
    → StepsOn earlier last old new before after
other_far earlier last old new far before after steps = record {
  fits = steps.fits;
  ends = λ w.
      let just = steps.ends w in
      record {
        are = just.are;
        sums_a = just.sums_a;
        sums_b = just.sums_b;
        sums_all = just.sums_all;
      };
}

pub far_but : (earlier : List TimedEvent) (packet : TimedPacket) (venue bytes : ℕ)
    (old : VenueGaps) (far : PerLine (Option TimedPacket)) → FitsSession earlier old
    → far ≡ with_line packet.line (Some packet) old.far
    → FitsBut earlier (packet_event packet venue bytes (Ok Ahead)) (record old { far = far })
far_but earlier packet venue bytes old far fits is = record {
  lost = fits.lost;
  a = fits.a;
  b = fits.b;
  all = fits.all;
  far = λ line.
      ap (λ (f : PerLine (Option TimedPacket)). on_line line f) is
      ∙ far_set earlier packet.time venue packet.line packet.number packet.count bytes old.far
      fits.far line;
  come = fits.come;
}

-- ---- events that say nothing of numbers

abbrev pub is_granted_skip : SinkEvent → Bool
is_granted_skip (told_skip venue number (Ok done)) = true
is_granted_skip event = false

pub no_skip : (begun : Bool) (highest : ℕ) (event : SinkEvent) → is_granted_skip event ≡ false
    → highest_skipped begun highest event ≡ highest
no_skip true highest event is = refl
no_skip false highest (told_skip venue number (Ok done)) is = cc is
no_skip false highest (told_skip venue number (Err fault)) is = refl
no_skip false highest (told_packet venue line number count bytes answer) is = refl
no_skip false highest (told_refusal venue line fault) is = refl
no_skip false highest (told_item venue numbered) is = refl
no_skip false highest (told_best notice) is = refl
no_skip false highest (told_gap venue request) is = refl
no_skip false highest (told_renewal venue answer) is = refl
no_skip false highest (told_declaration venue on position) is = refl
no_skip false highest (told_last venue sent a b recovery) is = refl
no_skip false highest (told_before event) is = refl

pub says_nothing : (earlier : List TimedEvent) (last : TimedEvent)
    → counts_with earlier last.time last.event ≡ None
    → ((n : ℕ) → brings_number n last.event ≡ false) → ((n : ℕ) → passes n last.event ≡ false)
    → is_granted_skip last.event ≡ false → brings_messages last.event ≡ false
    → SaysNothing earlier last
says_nothing earlier last counts brings passed skip messages = record {
  counts = counts;
  brings_none = brings;
  has_no_messages = messages;
  passes_none = passed;
  skips_none = λ begun highest. no_skip begun highest last.event skip;
}

-- an event that changes nothing
pub nothing_timed : (earlier : List TimedEvent) (last : TimedEvent) (gaps : VenueGaps)
    (before : List EndedGap) → SaysNothing (in_session earlier) last
    → closes_gaps last.event ≡ false → starts_session last.event ≡ false
    → ((line : LineId) → far_on line (last ∷ in_session earlier) ≡ far_on line (in_session earlier))
    → before ≡ [] → FitsGaps earlier gaps → TakesTimed earlier last gaps gaps before
nothing_timed earlier last gaps before says goes_on same far none fits =
    steps_timed earlier last gaps gaps before before same none
    (venue_idle (in_session earlier) last gaps gaps before says goes_on
    (fits_but (in_session earlier) last gaps fits far) refl refl refl refl refl refl)
