-- What is put in before one record, step by step.
use Rattle.std.proofs.Common.{◌≡◌, ℕ, zero, suc, ◌*◌, ◌<◌, ◌≤◌, Bool, true, false, List, [], ◌∷◌, length, Option, Some, None, refl, sym, ap, subst, ◌∙◌, arith, inl, inr}
use Rattle.std.specs.Prelude.{Result, Ok, Err, OnOk, MatchOption, slice_get}
use Rattle.std.proofs.lemmas.Option.{slice_get_within}
use Rattle.feed_types.specs.declared.line.LineId.TheVariants.{A}
use Rattle.mold_packet.specs.Content.{Spells}
use Rattle.line_arbiter.specs.Histories.{History}
use Rattle.line_arbiter.specs.LastSent.{last_gap}
use Rattle.run_settings.specs.declared.skip_rule.SkipRule.{SkipRule}
use Rattle.run_settings.specs.declared.skip_rule.SkipRule.TheVariants.{Never, Join, Gaps, After}
use Rattle.feed_text.specs.declared.overdue.GapClock.{GapClock}
use Rattle.feed_text.specs.declared.overdue.GapSkip.{GapSkip}
use Rattle.feed_text.specs.declared.put_in.Coming.{Coming}
use Rattle.feed_text.specs.declared.replay.ReplayConfig.{ReplayConfig}
use Rattle.feed_text.specs.declared.replay_sink.PublishStop.{PublishStop}
use Rattle.feed_text.specs.declared.standing_gap.StandingGap.{StandingGap}
use Rattle.feed_text.specs.declared.standing_gaps.StandingGaps.{StandingGaps}
use Rattle.capture_records.specs.Capture.{CaptureRecord, datagram_record, renewal_record, self_help_record, skip_record, record_venue}
use Rattle.feed_text.specs.Following.{VenueList, EmitsNext, FollowAll}
use Rattle.capture_records.specs.Formats.{TimedRecord, timed_record}
use Rattle.feed_text.specs.PuttingIn.{GivesUpNone, KeepsFor, PutsNoSkip, PutsOne, StandsFor, clock_of, left_in}
use Rattle.feed_text.specs.RenewingVenues.{BeginsAtVenue, RenewsOne, StaysAtVenue}
use Rattle.feed_text.specs.ReplayStates.{SinkTaking, ReplayState}
use Rattle.feed_text.specs.Rules.{GivesUpOverdue, HasStood, IsLowestOverdue, IsOverdue, IsOverdueAt, PutsBefore, PutsIn, RenewsBefore, ReplayPoint, gap_at, gap_of_some, point_after}
use Rattle.feed_text.specs.Skipping.{SkipsAtVenue}
use Rattle.feed_text.specs.Standings.{Awaits, Knows, kept_at}
use Rattle.feed_text.proofs.PutInSteps.{put_in_less}
use Rattle.feed_text.proofs.Taking.{standing_same}

-- ---- gaps

pub gap_past : (window : ℕ) (hs : List History) (place : ℕ) → length hs ≤ place
    → None ≡ gap_at window hs place
gap_past window [] place past = refl
gap_past window (h ∷ hs) zero past = absurd (omega arith)
gap_past window (h ∷ hs) (suc place) past = gap_past window hs place (omega arith)

pub gap_here : (window : ℕ) (hs : List History) (place : ℕ) (h : History)
    → slice_get hs place ≡ Some h → gap_at window hs place ≡ last_gap window h
gap_here window hs place h at = ap (gap_of_some window) at

pub not_stood : (span time number : ℕ) (o : Option StandingGap)
    → ((s : StandingGap) → o ≡ Some s → ⊥) → HasStood span time number o → ⊥
not_stood span time number None none x = x
not_stood span time number (Some s) none x = none s refl

pub kept_past : (gaps : List (Option StandingGap)) (place : ℕ) → length gaps ≤ place
    → kept_at gaps place ≡ None
kept_past [] place past = refl
kept_past (g ∷ gaps) zero past = absurd (omega arith)
kept_past (g ∷ gaps) (suc place) past = kept_past gaps place (omega arith)

-- the gap of a venue is that at its place
pub overdue_here : (window span time : ℕ) (at : ReplayPoint) (place : ℕ) (h : History)
    (standing : StandingGap) (o : Option ℕ) → slice_get at.histories place ≡ Some h
    → at.standing place ≡ Some standing
    → MatchOption o ((n : ℕ) → IsOverdue window span time h (Some standing) n → ⊥)
    (λ n. IsOverdue window span time h (Some standing) n)
    → MatchOption o ((n : ℕ) → IsOverdueAt window span time at place n → ⊥)
    (λ n. IsOverdueAt window span time at place n)
overdue_here window span time at place h standing None here stands none = λ n x.
    let some : Some x.history ≡ Some h = sym x.is ∙ here in
    let same : x.history ≡ h = cc in
    none n (subst (λ (k : History). IsOverdue window span time k (Some standing) n) same
    (subst (λ (s : Option StandingGap). IsOverdue window span time x.history s n) stands
    x.overdue))
overdue_here window span time at place h standing (Some n) here stands some = record {
  history = h;
  is = here;
  overdue = subst (λ (s : Option StandingGap). IsOverdue window span time h s n) (sym stands) some;
}

-- ---- the clock

pub clock_rule : (rule : SkipRule) (time : Option ℕ) (clock : GapClock)
    → clock_of rule time ≡ Some clock → (ms : ℕ) × (rule ≡ After ms)
clock_rule Never time clock e = absurd (cc)
clock_rule Join time clock e = absurd (cc)
clock_rule Gaps time clock e = absurd (cc)
clock_rule (After ms) time clock e = (ms, refl)

pub given_by : (rule : SkipRule) (window : ℕ) (time : Option ℕ) (at : ReplayPoint)
    (x : CaptureRecord) (clock : GapClock) → clock_of rule time ≡ Some clock
    → GivesUpOverdue rule window time at x → IsLowestOverdue window clock.span clock.time at x
given_by Never window time at x clock e y = absurd y
given_by Join window time at x clock e y = absurd y
given_by Gaps window time at x clock e y = absurd y
given_by (After ms) window None at x clock e y = absurd y
given_by (After ms) window (Some time) at x clock e y =
    let same : record { span = ms * 1000000; time = time } ≡ clock = cc in
    subst (λ (c : GapClock). IsLowestOverdue window c.span c.time at x) same y

pub gives_by : (rule : SkipRule) (window : ℕ) (time : Option ℕ) (at : ReplayPoint)
    (x : CaptureRecord) (clock : GapClock) → clock_of rule time ≡ Some clock
    → IsLowestOverdue window clock.span clock.time at x → GivesUpOverdue rule window time at x
gives_by Never window time at x clock e y = absurd (cc)
gives_by Join window time at x clock e y = absurd (cc)
gives_by Gaps window time at x clock e y = absurd (cc)
gives_by (After ms) window None at x clock e y = absurd (cc)
gives_by (After ms) window (Some time) at x clock e y =
    let same : clock ≡ record { span = ms * 1000000; time = time } = cc in
    subst (λ (c : GapClock). IsLowestOverdue window c.span c.time at x) same y

pub given_none : (rule : SkipRule) (window : ℕ) (time : Option ℕ) (at : ReplayPoint)
    (x : CaptureRecord) → clock_of rule time ≡ None → GivesUpOverdue rule window time at x → ⊥
given_none Never window time at x e y = y
given_none Join window time at x e y = y
given_none Gaps window time at x e y = y
given_none (After ms) window None at x e y = y
given_none (After ms) window (Some time) at x e y = absurd (cc)

-- the lowest overdue gap is what is given up
pub overdue_given : (config : ReplayConfig) (time : Option ℕ) (at : ReplayPoint) (clock : GapClock)
    (o : Option GapSkip) → clock_of config.skips time ≡ Some clock
    → MatchOption o ((place number : ℕ) → IsOverdueAt config.window clock.span clock.time at place
    number → ⊥) (λ s. IsLowestOverdue config.window clock.span clock.time at
    (skip_record s.venue s.number))
    → MatchOption o (GivesUpNone config time at)
    (λ s. GivesUpOverdue config.skips config.window time at (skip_record s.venue s.number))
overdue_given config time at clock None is none = λ x y.
    let l = given_by config.skips config.window time at x clock is y in
    none l.place l.number l.overdue
overdue_given config time at clock (Some s) is some =
    gives_by config.skips config.window time at (skip_record s.venue s.number) clock is some

-- ---- what is put in

-- a skip at the venue of the record that comes
pub skip_put : (config : ReplayConfig) (coming : Coming) (r : TimedRecord) (at : ReplayPoint)
    (number : ℕ) → StandsFor coming r → GivesUpNone config coming.time at
    → SkipsAtVenue config at.histories coming.venue coming.bytes.now number
    → PutsIn config at r (skip_record coming.venue number)
skip_put config coming r at number is none x = inr (
  λ other y. none other (subst (λ
      (t : Option ℕ). GivesUpOverdue config.skips config.window t at other)
      (sym is.time) y),
  record {
    before = x.before;
    at = ap (slice_get at.histories) (sym is.venue) ∙ x.at;
    packet = x.skips.0;
    rest = x.skips.1;
    spells = subst (λ (bs : List ℕ). Spells bs x.skips.0 x.skips.1) is.bytes x.skips.2;
    puts = (is.venue, x.skips.3);
  },
)

pub given_put : (config : ReplayConfig) (coming : Coming) (r : TimedRecord) (at : ReplayPoint)
    (x : CaptureRecord) → StandsFor coming r
    → GivesUpOverdue config.skips config.window coming.time at x → PutsIn config at r x
given_put config coming r at x is y =
    inl (subst (λ (t : Option ℕ). GivesUpOverdue config.skips config.window t at x) is.time y)

pub no_skip : (config : ReplayConfig) (coming : Coming) (r : TimedRecord) (at : ReplayPoint)
    → StandsFor coming r → GivesUpNone config coming.time at
    → ((number : ℕ) → SkipsAtVenue config at.histories coming.venue coming.bytes.now number → ⊥)
    → PutsNoSkip config r at
no_skip config coming r at is none other = record {
  none_due = λ x y. none x (subst (λ
      (t : Option ℕ). GivesUpOverdue config.skips config.window t at x)
      (sym is.time) y);
  none_missing = λ number x. other number
      (subst (λ (v : ℕ). SkipsAtVenue config at.histories v coming.bytes.now number) (sym is.venue)
      (subst (λ (bs : List ℕ). SkipsAtVenue config at.histories (record_venue r.what) bs number)
      (sym is.bytes) x));
}

-- what is put in is of one of the venues
pub put_within : (config : ReplayConfig) (at : ReplayPoint) (r : TimedRecord) (x : CaptureRecord)
    → PutsIn config at r x → record_venue x < length at.histories
put_within config at r x (inl y) = given_within config.skips config.window r.time at x y
  where
    given_within : (rule : SkipRule) (window : ℕ) (time : Option ℕ) (p : ReplayPoint)
        (x : CaptureRecord) → GivesUpOverdue rule window time p x
        → record_venue x < length p.histories
    given_within Never window time p x y = absurd y
    given_within Join window time p x y = absurd y
    given_within Gaps window time p x y = absurd y
    given_within (After ms) window None p x y = absurd y
    given_within (After ms) window (Some time) p x y =
        let within = slice_get_within p.histories y.place y.overdue.history y.overdue.is in
        let here = ap record_venue y.skip in
        omega (arith, within, here)
put_within config at r x (inr y) = before_within x y.1.puts
  where
    before_within : (x : CaptureRecord)
        → PutsBefore config (record_venue r.what) y.1.before y.1.packet x
        → record_venue x < length at.histories
    before_within (skip_record venue n) puts =
        let within = slice_get_within at.histories (record_venue r.what) y.1.before y.1.at in
        let here = puts.0 in omega (arith, within, here)
    before_within (renewal_record venue name) puts =
        let within = slice_get_within at.histories (record_venue r.what) y.1.before y.1.at in
        let here = puts.0 in omega (arith, within, here)
    before_within (datagram_record venue line bytes) puts = absurd puts
    before_within (self_help_record venue on) puts = absurd puts

-- the record that a look stands for, of a datagram
abbrev pub of_coming : Coming → TimedRecord
of_coming coming = timed_record (datagram_record coming.venue A coming.bytes.now) coming.time

pub stands_for : (coming : Coming) → StandsFor coming (of_coming coming)
stands_for coming = record { venue = refl; time = refl; bytes = refl }

-- the gaps that stand after a record of this venue that is waited for
pub waits_knows : (config : ReplayConfig) (kept : StandingGaps) (at : ReplayPoint)
    (x : TimedRecord) (venue : ℕ) (time : Option ℕ) (hs : List History) → KeepsFor config kept at
    → venue ≡ record_venue x.what → time ≡ x.time
    → Knows config (record kept { venue = venue; time = time }) (point_after config at x hs)
waits_knows config kept at x venue time hs keeps here now ms is place =
    standing_same config.window (record_venue x.what) x.time venue time hs at.standing
    (kept_at kept.gaps) (sym here) (sym now) (keeps ms is) place

pub waits_for : (config : ReplayConfig) (kept : StandingGaps) (at : ReplayPoint) (r : TimedRecord)
    (venue : ℕ) (time : Option ℕ) → KeepsFor config kept at → venue ≡ record_venue r.what
    → time ≡ r.time → Awaits config (record kept { venue = venue; time = time }) r at
waits_for config kept at r venue time keeps here now ms is =
    record { kept = keeps ms is; venue = here; time = now }

-- a renewal is put in, where no skip is
pub renewal_put : {K : Type 0} (taking : SinkTaking K) (config : ReplayConfig) (coming : Coming)
    (r : TimedRecord) (at : ReplayPoint) (from to : VenueList) (old new : ReplayState K)
    (done : Result (Unit {0}) PublishStop) → StandsFor coming r → PutsNoSkip config r at
    → (b : BeginsAtVenue taking config.window config.next_sessions.now coming.venue
    coming.bytes.now at.histories from to old new done)
    → PutsIn config at r (renewal_record coming.venue b.name)
renewal_put taking config coming r at from to old new done is none b = inr (
  none.none_due,
  record {
    before = b.before;
    at = ap (slice_get at.histories) (sym is.venue) ∙ b.at;
    packet = b.packet;
    rest = b.rest;
    spells = subst (λ (bs : List ℕ). Spells bs b.packet b.rest) is.bytes b.spells;
    puts = (
      is.venue,
      subst (λ (v : ℕ). RenewsBefore config.next_sessions.now v b.before b.packet b.name) is.venue
          b.renews,
    );
  },
)

-- nothing is put in, where no skip and no renewal is
pub nothing_put : {K : Type 0} (config : ReplayConfig) (coming : Coming) (r : TimedRecord)
    (at : ReplayPoint) (to : VenueList) (old new : ReplayState K) → StandsFor coming r
    → PutsNoSkip config r at
    → StaysAtVenue config.window config.next_sessions.now coming.venue coming.bytes.now
    at.histories to old new → (put_in : CaptureRecord) → PutsIn config at r put_in → ⊥
nothing_put config coming r at to old new is none stays put_in (inl x) = none.none_due put_in x
nothing_put config coming r at to old new is none stays put_in (inr x) = by_kind put_in x.1.puts
  where
    by_kind : (y : CaptureRecord)
        → PutsBefore config (record_venue r.what) x.1.before x.1.packet y → ⊥
    by_kind (skip_record venue n) puts = none.none_missing n (record {
      before = x.1.before;
      at = x.1.at;
      skips = (x.1.packet, x.1.rest, x.1.spells, puts.1);
    })
    by_kind (renewal_record venue name) puts =
        stays.none x.1.before (ap (slice_get at.histories) is.venue ∙ x.1.at) x.1.packet x.1.rest
        name (subst (λ (bs : List ℕ). Spells bs x.1.packet x.1.rest) (sym is.bytes) x.1.spells)
        (subst (λ (v : ℕ). RenewsBefore config.next_sessions.now v x.1.before x.1.packet name)
        (sym is.venue) puts.1)
    by_kind (datagram_record venue line bytes) puts = puts
    by_kind (self_help_record venue on) puts = puts

module _ {K : Type 0} (taking : SinkTaking K) (config : ReplayConfig) (coming : Coming)
    (r : TimedRecord) (at : ReplayPoint) (from to : VenueList) (old new : ReplayState K)
    (is : StandsFor coming r) (none : PutsNoSkip config r at) (gaps : from.gaps ≡ config.gaps)
    (f : FollowAll config.window from.items at.histories) where
  begins_emits : (done : Result (Unit {0}) PublishStop)
      → (b : BeginsAtVenue taking config.window config.next_sessions.now coming.venue
      coming.bytes.now at.histories from to old new done)
      → EmitsNext taking config.window config.gaps (renewal_record coming.venue b.name)
      at.histories old new to.items done
  begins_emits done b = subst (λ (g : Bool). EmitsNext taking config.window g
      (renewal_record coming.venue b.name) at.histories old new to.items done) gaps b.emits

  pub renew_journal : (answer : Result Bool PublishStop) → RenewsOne taking config.window
      config.next_sessions.now coming.venue coming.bytes.now at.histories from to old new answer
      → OnOk answer (new.venues ≡ old.venues)
  renew_journal (Ok true) b = b.emits.emits.venues
  renew_journal (Ok false) b = ap (λ (s : ReplayState K). s.venues) b.same
  renew_journal (Err stop) b = tt

  pub renew_less : (answer : Result Bool PublishStop) → RenewsOne taking config.window
      config.next_sessions.now coming.venue coming.bytes.now at.histories from to old new answer
      → answer ≡ Ok true → left_in to.items < left_in from.items
  renew_less (Ok true) b e = put_in_less taking config at r (renewal_record coming.venue b.name)
      from.items to.items old new
      (renewal_put taking config coming r at from to old new (Ok tt) is none b) f
      (begins_emits (Ok tt) b)
  renew_less (Ok false) b e = absurd (cc)
  renew_less (Err stop) b e = absurd (cc)

  pub renew_puts : (kept waits : StandingGaps) (answer : Result Bool PublishStop)
      → KeepsFor config kept at
      → waits ≡ record kept { venue = coming.venue; time = coming.time }
      → RenewsOne taking config.window config.next_sessions.now coming.venue coming.bytes.now
      at.histories from to old new answer
      → PutsOne taking config r at old new to.items waits answer
  renew_puts kept waits (Ok true) keeps same b =
      let e = begins_emits (Ok tt) b in
      let x : TimedRecord = timed_record (renewal_record coming.venue b.name) r.time in
      record {
        put_in = renewal_record coming.venue b.name;
        is = renewal_put taking config coming r at from to old new (Ok tt) is none b;
        emits = e;
        knows = subst (λ (k : StandingGaps). Knows config k (point_after config at x e.after))
            (sym same)
            (waits_knows config kept at x coming.venue coming.time e.after keeps refl is.time);
      }
  renew_puts kept waits (Ok false) keeps same b = record {
    none = nothing_put config coming r at to old new is none b;
    same = b.same;
    follow = b.follow;
    awaits = subst (λ (k : StandingGaps). Awaits config k r at) (sym same)
        (waits_for config kept at r coming.venue coming.time keeps is.venue is.time);
  }
  renew_puts kept waits (Err stop) keeps same b = record {
    put_in = renewal_record coming.venue b.name;
    is = renewal_put taking config coming r at from to old new (Err stop) is none b;
    emits = begins_emits (Err stop) b;
  }
