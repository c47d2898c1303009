-- Before a record one record is put in, or none.
use Rattle.std.proofs.Common.{◌≡◌, ◌*◌, ℕ, List, [], ◌∷◌, map, Option, Some, None, refl, sym, ap, subst, ◌∙◌, arith, inl, inr}
use Rattle.feed_text.proofs.RuleSteps.{first_unheld}
use Rattle.std.specs.Prelude.{Ok, Contains}
use Rattle.std.proofs.lemmas.Bool.{cases_lt}
use Rattle.std.proofs.lemmas.List.{map-append}
use Rattle.std.proofs.lemmas.List.Elements.{Contains-append_right}
use Rattle.mold_packet.specs.Content.{Content, Spells}
use Rattle.line_arbiter.specs.declared.outcome.Outcome.{Outcome}
use Rattle.line_arbiter.specs.Histories.{Begun, History, names_of}
use Rattle.line_arbiter.specs.LastSent.{last_gap, last_sent}
use Rattle.line_arbiter.specs.Outcomes.{IsOutcome}
use Rattle.run_settings.specs.declared.skip_rule.SkipRule.{SkipRule}
use Rattle.run_settings.specs.declared.skip_rule.SkipRule.TheVariants.{Never, Join, Gaps, After}
use Rattle.feed_text.specs.declared.replay.ReplayConfig.{ReplayConfig}
use Rattle.capture_records.specs.Capture.{CaptureRecord, datagram_record, renewal_record, skip_record, self_help_record, record_venue}
use Rattle.capture_records.specs.Formats.{TimedRecord}
use Rattle.feed_text.specs.Rules.{GivesUpOverdue, IsLowestOverdue, IsOverdueAt, PutsAt, PutsBefore, PutsIn, ReplayPoint, RenewsBefore, SkipsBefore, next_come}

-- packets are read in one way
abbrev pub OneReading : Type 0
OneReading = (bytes : List ℕ) (p q : Content) (rest more : List ℕ) → Spells bytes p rest
    → Spells bytes q more → p ≡ q

pub of_session : (session : List ℕ) (window sent : ℕ) (packets : List _) (p : Content)
    (outcome : Outcome) → IsOutcome session window sent packets p (Ok outcome)
    → p.session ≡ session
of_session session window sent packets p outcome (inl x) = let e = x.1 in absurd (cc)
of_session session window sent packets p outcome (inr x) = x.0

-- what is given up before a packet is of its session
skips_session : (rule : SkipRule) (window : ℕ) (h : History) (p : Content) (number : ℕ)
    → SkipsBefore rule window h p number → p.session ≡ h.present.name
skips_session Never window h p number x = absurd x
skips_session Join window h p number x = of_session h.present.name x.window (last_sent h)
    h.present.packets p x.outcome x.accepted
skips_session Gaps window h p number (inl x) = of_session h.present.name x.window (last_sent h)
    h.present.packets p x.outcome x.accepted
skips_session Gaps window h p number (inr x) = of_session h.present.name window (last_sent h)
    h.present.packets p _ x.ahead
skips_session (After ms) window h p number x = of_session h.present.name x.window (last_sent h)
    h.present.packets p x.outcome x.accepted

-- the present session's name is used
is_used : (h : History) → Contains (names_of h) h.present.name
is_used h = subst (λ (l : List (List ℕ)). Contains l h.present.name)
    (sym (map-append (λ (b : Begun). b.name) h.earlier (h.present ∷ [])))
    (Contains-append_right (map (λ (b : Begun). b.name) h.earlier) (h.present.name ∷ [])
    h.present.name (0, omega arith, refl))

-- a renewal before a packet is into its session, which isn't the present one
not_both : (config : ReplayConfig) (venue : ℕ) (h : History) (p : Content) (number : ℕ)
    (name : List ℕ) → SkipsBefore config.skips config.window h p number
    → RenewsBefore config.next_sessions.now venue h p name → ⊥
not_both config venue h p number name x y =
    let same : h.present.name ≡ name = sym (skips_session config.skips config.window h p number x)
    ∙ y.session in
    y.renews.1 (subst (Contains (names_of h)) same (is_used h))

one_number : (rule : SkipRule) (window : ℕ) (h : History) (p : Content) (m n : ℕ)
    → SkipsBefore rule window h p m → SkipsBefore rule window h p n → m ≡ n
one_number Never window h p m n x y = absurd x
one_number Join window h p m n x y = x.first ∙ sym y.first
one_number Gaps window h p m n (inl x) (inl y) = x.first ∙ sym y.first
one_number Gaps window h p m n (inl x) (inr y) =
    x.first ∙ sym (first_unheld window h p x.fresh.held) ∙ sym y.first
one_number Gaps window h p m n (inr x) (inl y) =
    x.first ∙ first_unheld window h p y.fresh.held ∙ sym y.first
one_number Gaps window h p m n (inr x) (inr y) = x.first ∙ sym y.first
one_number (After ms) window h p m n x y = x.first ∙ sym y.first

one_before : (config : ReplayConfig) (venue : ℕ) (h : History) (p : Content)
    (x y : CaptureRecord) → PutsBefore config venue h p x → PutsBefore config venue h p y → x ≡ y
one_before config venue h p (skip_record v m) (skip_record w n) x y =
    ap (λ (k : ℕ). skip_record k m) (x.0 ∙ sym y.0)
    ∙ ap (skip_record w) (one_number config.skips config.window h p m n x.1 y.1)
one_before config venue h p (renewal_record v m) (renewal_record w n) x y =
    ap (λ (k : ℕ). renewal_record k m) (x.0 ∙ sym y.0)
    ∙ ap (renewal_record w) (sym x.1.session ∙ y.1.session)
one_before config venue h p (skip_record v m) (renewal_record w n) x y =
    absurd (not_both config venue h p m n x.1 y.1)
one_before config venue h p (renewal_record v m) (skip_record w n) x y =
    absurd (not_both config venue h p n m y.1 x.1)
one_before config venue h p (datagram_record v line bytes) y a b = absurd a
one_before config venue h p (self_help_record v on) y a b = absurd a
one_before config venue h p (skip_record v m) (datagram_record w line bytes) a b = absurd b
one_before config venue h p (skip_record v m) (self_help_record w on) a b = absurd b
one_before config venue h p (renewal_record v m) (datagram_record w line bytes) a b = absurd b
one_before config venue h p (renewal_record v m) (self_help_record w on) a b = absurd b

one_at : (config : ReplayConfig) (hs : List History) (r x y : CaptureRecord) → OneReading
    → PutsAt config hs r x → PutsAt config hs r y → x ≡ y
one_at config hs r x y one a b =
    let some : Some a.before ≡ Some b.before = sym a.at ∙ b.at in
    let same : a.before ≡ b.before = cc in
    let read : a.packet ≡ b.packet = one _ a.packet b.packet a.rest b.rest a.spells b.spells in
    one_before config (record_venue r) b.before b.packet x y
    (subst (λ (h : History). PutsBefore config (record_venue r) h b.packet x) same
    (subst (λ (p : Content). PutsBefore config (record_venue r) a.before p x) read a.puts)) b.puts

-- of a venue's gap one number is the first past it
one_overdue : (window span time : ℕ) (at : ReplayPoint) (place m n : ℕ)
    → IsOverdueAt window span time at place m → IsOverdueAt window span time at place n → m ≡ n
one_overdue window span time at place m n x y =
    let some : Some x.history ≡ Some y.history = sym x.is ∙ y.is in
    let same : x.history ≡ y.history = cc in
    let gaps : Some x.overdue.gap ≡ Some y.overdue.gap = sym x.overdue.lacks
    ∙ ap (last_gap window) same ∙ y.overdue.lacks in
    let gap : x.overdue.gap ≡ y.overdue.gap = cc in
    x.overdue.first ∙ ap (λ (h : History). next_come h x.overdue.gap) same
    ∙ ap (next_come y.history) gap ∙ sym y.overdue.first

one_lowest : (window span time : ℕ) (at : ReplayPoint) (x y : CaptureRecord)
    → IsLowestOverdue window span time at x → IsLowestOverdue window span time at y → x ≡ y
one_lowest window span time at x y a b = elim (cases_lt a.place b.place) [
  | inl less ↦ absurd (b.lowest a.place a.number less a.overdue)
  | inr least ↦ elim (cases_lt b.place a.place) [
    | inl less ↦ absurd (a.lowest b.place b.number less b.overdue)
    | inr most ↦
        let same : a.place ≡ b.place = omega (arith, least, most) in
        let number = one_overdue window span time at b.place a.number b.number
        (subst (λ (k : ℕ). IsOverdueAt window span time at k a.number) same a.overdue) b.overdue in
        a.skip ∙ ap (λ (k : ℕ). skip_record k a.number) same ∙ ap (skip_record b.place) number
        ∙ sym b.skip
  ]
]

one_given_up : (rule : SkipRule) (window : ℕ) (time : Option ℕ) (at : ReplayPoint)
    (x y : CaptureRecord) → GivesUpOverdue rule window time at x
    → GivesUpOverdue rule window time at y → x ≡ y
one_given_up Never window time at x y a b = absurd a
one_given_up Join window time at x y a b = absurd a
one_given_up Gaps window time at x y a b = absurd a
one_given_up (After ms) window None at x y a b = absurd a
one_given_up (After ms) window (Some time) at x y a b =
    one_lowest window (ms * 1000000) time at x y a b

pub one_put : (config : ReplayConfig) (at : ReplayPoint) (r : TimedRecord) (x y : CaptureRecord)
    → OneReading → PutsIn config at r x → PutsIn config at r y → x ≡ y
one_put config at r x y one (inl a) (inl b) =
    one_given_up config.skips config.window r.time at x y a b
one_put config at r x y one (inl a) (inr b) = absurd (b.0 x a)
one_put config at r x y one (inr a) (inl b) = absurd (a.0 y b)
one_put config at r x y one (inr a) (inr b) = one_at config at.histories r.what x y one a.1 b.1
