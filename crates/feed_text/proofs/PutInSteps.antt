-- What is put in is made, and less can be put in after it.
use Rattle.std.proofs.Common.{◌≡◌, ℕ, zero, suc, ◌+◌, ◌-◌, ◌*◌, ◌^◌, ◌<◌, ◌≤◌, Bool, List, [], ◌∷◌, ◌++◌, length, length-append, get_or, refl, sym, ap, ◌∙◌, subst, arith, inl, inr, Some, None, Option}
use Rattle.std.specs.Prelude.{Ok, slice_get, sum_by}
use Rattle.std.proofs.lemmas.List.{length-map}
use Rattle.std.proofs.lemmas.List.Sums.{sum_by-cons, sum_by-set}
use Rattle.std.proofs.lemmas.Option.{get_or_from_slice_get, slice_get_within}
use Rattle.line_arbiter.specs.Packets.{Input, Skip}
use Rattle.line_arbiter.specs.Streams.{front_of}
use Rattle.line_arbiter.specs.Histories.{Begun, History, after_input, after_renewal, history_after, names_of, skip_after}
use Rattle.line_arbiter.specs.LastSent.{last_sent}
use Rattle.line_arbiter.specs.Packets.{end_of}
use Rattle.line_arbiter.specs.Renewals.{IsRenewal}
use Rattle.line_arbiter.specs.Skips.{MaySkip}
use Rattle.line_arbiter.specs.laws.Bringing.{first_of-push}
use Rattle.line_arbiter.specs.laws.Fronts.{front_greatest, given_up}
use Rattle.line_arbiter.specs.laws.OneOutcome.{one_renewal}
use Rattle.run_settings.specs.declared.skip_rule.SkipRule.{SkipRule}
use Rattle.run_settings.specs.declared.skip_rule.SkipRule.TheVariants.{Never, Join, Gaps, After}
use Rattle.feed_text.specs.declared.replay.ReplayConfig.{ReplayConfig}
use Rattle.capture_records.specs.Capture.{CaptureRecord, datagram_record, renewal_record, skip_record, self_help_record, record_venue}
use Rattle.feed_text.specs.Emitted.{EmitsAt}
use Rattle.feed_text.specs.Following.{ReplayVenue, EmitsNext, FollowAll}
use Rattle.capture_records.specs.Formats.{TimedRecord}
use Rattle.feed_text.specs.PuttingIn.{left_in, left_to_take}
use Rattle.feed_text.specs.ReplayEvents.{ReplayEvent}
use Rattle.feed_text.specs.ReplayStates.{SinkTaking, ReplayState}
use Rattle.feed_text.specs.Rules.{GivesUpOverdue, IsLowestOverdue, IsMade, PutsAt, PutsBefore, PutsIn, ReplayPoint}
use Rattle.feed_text.proofs.RuleSteps.{may_give_up, may_skip_before, most_number, skip_answer}

-- what is put in may be: a skip, or a renewal of fewer than 64 sessions
abbrev pub MayBe : History → CaptureRecord → Type 0
MayBe h (skip_record venue n) = MaySkip h.present.packets n × (n < 2 ^ 64)
MayBe h (renewal_record venue name) =
    (ordinal : ℕ)
    × IsRenewal (names_of h) (end_of h.present.packets) (last_sent h) name (Ok ordinal)
MayBe h _ = ⊥

lowest_may : (window span time : ℕ) (at : ReplayPoint) (x : CaptureRecord) (h : History)
    → IsLowestOverdue window span time at x → slice_get at.histories (record_venue x) ≡ Some h
    → MayBe h x
lowest_may window span time at x h a there =
    let some : Some a.overdue.history ≡ Some h = sym a.overdue.is
    ∙ ap (λ (r : CaptureRecord). slice_get at.histories (record_venue r)) (sym a.skip) ∙ there in
    let same : a.overdue.history ≡ h = cc in
    let o = a.overdue.overdue in
    subst (MayBe h) (sym a.skip)
    (subst (λ (k : History). MayBe k (skip_record a.place a.number)) same (
      may_give_up window span time a.overdue.history (at.standing a.place) a.number o,
      most_number window span time a.overdue.history (at.standing a.place) a.number o,
    ))

given_up_may : (rule : SkipRule) (window : ℕ) (time : Option ℕ) (at : ReplayPoint)
    (x : CaptureRecord) (h : History) → GivesUpOverdue rule window time at x
    → slice_get at.histories (record_venue x) ≡ Some h → MayBe h x
given_up_may Never window time at x h a there = absurd a
given_up_may Join window time at x h a there = absurd a
given_up_may Gaps window time at x h a there = absurd a
given_up_may (After ms) window None at x h a there = absurd a
given_up_may (After ms) window (Some time) at x h a there =
    lowest_may window (ms * 1000000) time at x h a there

before_may : (config : ReplayConfig) (hs : List History) (r x : CaptureRecord) (h : History)
    → PutsAt config hs r x → slice_get hs (record_venue x) ≡ Some h → MayBe h x
before_may config hs r x h a there = by_kind x a.puts there
  where
    same : (venue : ℕ) → venue ≡ record_venue r → slice_get hs venue ≡ Some h → a.before ≡ h
    same venue is at =
        let some : Some a.before ≡ Some h = sym a.at ∙ ap (slice_get hs) (sym is) ∙ at in cc

    by_kind : (y : CaptureRecord) → PutsBefore config (record_venue r) a.before a.packet y
        → slice_get hs (record_venue y) ≡ Some h → MayBe h y
    by_kind (skip_record venue n) puts at =
        subst (λ (k : History). MayBe k (skip_record venue n)) (same venue puts.0 at)
        (may_skip_before config.skips config.window a.before a.packet n a.spells.content puts.1)
    by_kind (renewal_record venue name) puts at =
        subst (λ (k : History). MayBe k (renewal_record venue name)) (same venue puts.0 at)
        (puts.1.ordinal, puts.1.renews)
    by_kind (datagram_record venue line bytes) puts at = absurd puts
    by_kind (self_help_record venue on) puts at = absurd puts

pub put_in_may : (config : ReplayConfig) (at : ReplayPoint) (r : TimedRecord) (x : CaptureRecord)
    (h : History) → PutsIn config at r x → slice_get at.histories (record_venue x) ≡ Some h
    → MayBe h x
put_in_may config at r x h (inl a) there =
    given_up_may config.skips config.window r.time at x h a there
put_in_may config at r x h (inr a) there = before_may config at.histories r.what x h a.1 there

-- and so it is made
pub may_made : (window : ℕ) (gaps : Bool) (x : CaptureRecord) (h after : History)
    (emitted : List ReplayEvent) → MayBe h x → EmitsAt window gaps x h emitted after
    → IsMade x h after
may_made window gaps (skip_record venue n) h after emitted may e =
    e.skipped.is ∙ ap (skip_after h n) (skip_answer h n e.answer may.0 e.skipped.right)
may_made window gaps (renewal_record venue name) h after emitted may e =
    e.renewed.is ∙ ap (history_after h name) (one_renewal (names_of h) (end_of h.present.packets)
    (last_sent h) name e.answer (Ok may.0) e.renewed.right may.1)
may_made window gaps (datagram_record venue line bytes) h after emitted may e = absurd may
may_made window gaps (self_help_record venue on) h after emitted may e = absurd may

-- ---- less can be put in

-- how much can be of a venue with this history
left_by : History → ℕ
left_by h = (64 - length (names_of h)) * 2 ^ 65 + (2 ^ 64 - front_of h.present.packets)

-- the front goes on to what was given up
front_goes : (packets : List Input) (n : ℕ) → n ≤ front_of (packets ++ Skip n ∷ []) + 1
front_goes packets n =
    let all = packets ++ Skip n ∷ [] in
    let first = first_of-push packets (Skip n) in
    let most = front_greatest all (n - 1) (λ m one within. given_up all m one (omega arith)) in
    omega arith

pub names_len : (h : History) → length (names_of h) ≡ length h.earlier + 1
names_len h = length-map (h.earlier ++ h.present ∷ []) (λ (b : Begun). b.name)
    ∙ length-append h.earlier (h.present ∷ [])

skip_less : (h : History) (n : ℕ) → MaySkip h.present.packets n → n < 2 ^ 64
    → left_by (after_input h (Skip n)) < left_by h
unfolding left_by
skip_less h n may small =
    let goes = front_goes h.present.packets n in
    let past = may.past in
    let old = names_len h in
    let new = names_len (after_input h (Skip n)) in
    omega arith

renewal_less : (h : History) (name : List ℕ) → length (names_of h) < 64
    → left_by (after_renewal h name) < left_by h
unfolding left_by
renewal_less h name few =
    let old = names_len h in
    let new = names_len (after_renewal h name) in
    let all = length-append h.earlier (h.present ∷ []) in
    omega arith

made_less : (x : CaptureRecord) (h after : History) → MayBe h x → IsMade x h after
    → left_by after < left_by h
made_less (skip_record venue n) h after may made =
    subst (λ (k : History). left_by k < left_by h) (sym made) (skip_less h n may.0 may.1)
made_less (renewal_record venue name) h after may made =
    subst (λ (k : History). left_by k < left_by h) (sym made) (renewal_less h name may.1.2)
made_less (datagram_record venue line bytes) h after may made = absurd may
made_less (self_help_record venue on) h after may made = absurd may

-- sums of lists that are alike
sum_alike : {A B : Type 0} (f : A → ℕ) (g : B → ℕ) (xs : List A) (ys : List B)
    → length xs ≡ length ys
    → ((i : ℕ) (x : A) (y : B) → slice_get xs i ≡ Some x → slice_get ys i ≡ Some y → f x ≡ g y)
    → sum_by f xs ≡ sum_by g ys
sum_alike f g [] [] len same = refl
sum_alike f g [] (y ∷ ys) len same = absurd (omega arith)
sum_alike f g (x ∷ xs) [] len same = absurd (omega arith)
sum_alike f g (x ∷ xs) (y ∷ ys) len same =
    let first = same zero x y refl refl in
    let rest = sum_alike f g xs ys (omega arith) (λ i. same (suc i)) in
    let all = sum_by-cons f x xs in
    let others = sum_by-cons g y ys in
    omega arith

-- what is left of venues is that of their histories
left_follow : (window : ℕ) (vs : List ReplayVenue) (hs : List History) → FollowAll window vs hs
    → left_in vs ≡ sum_by left_by hs
unfolding left_by
left_follow window vs hs f = sum_alike left_to_take left_by vs hs f.count (λ i v h at here.
    let fits = (f.each i v h at here).history in
    rw (fits.names, fits.present.front) refl)

pub put_in_less : {K : Type 0} (taking : SinkTaking K) (config : ReplayConfig) (at : ReplayPoint)
    (r : TimedRecord) (x : CaptureRecord) (vs ws : List ReplayVenue) (old new : ReplayState K)
    → PutsIn config at r x → FollowAll config.window vs at.histories
    → EmitsNext taking config.window config.gaps x at.histories old new ws (Ok tt)
    → left_in ws < left_in vs
put_in_less taking config at r x vs ws old new puts f e =
    let t = e.record_tells in
    let may = put_in_may config at r x t.before puts t.at in
    let less = made_less x t.before t.after may
    (may_made config.window config.gaps x t.before t.after e.emitted may t.emits) in
    let within = slice_get_within at.histories (record_venue x) t.before t.at in
    let set = sum_by-set left_by at.histories (record_venue x) t.after t.before within in
    let was : left_by (get_or at.histories (record_venue x) t.before) ≡ left_by t.before =
    ap left_by (get_or_from_slice_get at.histories (record_venue x) t.before t.before t.at) in
    let before = left_follow config.window vs at.histories f in
    let after = left_follow config.window ws e.after e.follow
    ∙ ap (sum_by left_by) t.others in
    omega (arith, less, set, was, before, after)
