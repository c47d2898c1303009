-- How far a line is ahead, by what is held of first arrivals, and a list of leads after one message
-- more.
use Rattle.std.proofs.Common.{◌≡◌, ℕ, zero, suc, ◌+◌, ◌-◌, ◌*◌, ◌/◌, ◌%◌, ◌<◌, ◌⊎◌, inl, inr, ◌≤◌, max, Bool, true, false, List, [], ◌∷◌, ◌++◌, Option, Some, None, length, refl, sym, ap, subst, ◌∙◌, arith}
use Rattle.std.specs.Prelude.{◌==◌, ◌&&◌, ◌||◌, not, is_some, nat_lt, slice_get, slice_set, if◌then◌else◌}
use Rattle.std.proofs.Math.ListN.{length-set}
use Rattle.std.proofs.Math.Nat.{add-mul-mod_self_left, mod-add-div, mod-eq_of_lt, mod-lt, mod_self}
use Rattle.std.proofs.lemmas.Bool.{and_left, and_right, and_from, cases_eq, cases_order, cond-true, cond-false, eq-eqb, ne_eqb, or_right}
use Rattle.feed_types.specs.declared.line.LineId.{LineId}
use Rattle.feed_types.specs.declared.line.LineId.TheVariants.{A, B, Recovery}
use Rattle.line_arbiter.specs.Streams.{is_same_line}
use Rattle.replay_reports.specs.declared.times.line_leads.FirstArrival.{FirstArrival}
use Rattle.replay_reports.specs.declared.times.line_leads.Lead.{Lead}
use Rattle.replay_reports.specs.declared.times.line_leads.LineLeads.{LineLeads}
use Rattle.replay_reports.specs.declared.times.durations.Durations.{Durations}
use Rattle.replay_reports.specs.times.Durations.{AreCounted}
use Rattle.replay_reports.specs.times.Leads.{AreLeadsOf, HoldsFirst, IsFirstOn, MessageOn, come_from, come_on, first_on, held_after, is_passed, lead_back, lead_between, lead_by, lead_from, lead_with, leads_of, message_on}
use Rattle.replay_reports.proofs.Leading.{holds_elsewhere, holds_here, same_line}

-- ---- leads

-- the leads are those of before, or one more
abbrev Led : ℕ → LineId → LineId → MessageOn → List MessageOn → Option ℕ → Type 0
Led window one two last came None = leads_of window one two (last ∷ came) ≡ leads_of window one two
    came
Led window one two last came (Some took) =
    leads_of window one two (last ∷ came) ≡ took ∷ leads_of window one two came

-- those of two lines, of which none is ahead with a message, or one
abbrev AreLedBetween : ℕ → LineId → LineId → MessageOn → List MessageOn → Option Lead → Type 0
AreLedBetween window one two last came None =
    Led window one two last came None × Led window two one last came None
AreLedBetween window one two last came (Some lead) =
    ((lead.line ≡ one) × Led window one two last came (Some lead.took)
    × Led window two one last came None)
    ⊎ ((lead.line ≡ two) × Led window two one last came (Some lead.took)
    × Led window one two last came None)

abbrev pub AreLed : ℕ → MessageOn → List MessageOn → Option Lead → Type 0
AreLed window last came lead = AreLedBetween window A B last came lead

led_other_way : (window : ℕ) (last : MessageOn) (came : List MessageOn) (lead : Option Lead)
    → AreLedBetween window B A last came lead → AreLed window last came lead
led_other_way window last came None is = (is.1, is.0)
led_other_way window last came (Some lead) (inl is) = inr is
led_other_way window last came (Some lead) (inr is) = inl is

-- ---- what a message adds to the leads of one line

-- nothing, where it was passed
led_passed : (window : ℕ) (one two line : LineId) (m t : ℕ) (came : List MessageOn)
    → is_passed window m came ≡ true
    → Led window one two (message_on line m t) came None
led_passed window one two line m t came passed =
    ap (λ (b : Bool). (if b then []
    else lead_with one two (message_on line m t) (first_on one m came) (first_on two m came))
    ++ leads_of window one two came) passed

-- else what it is by when the lines had brought it
added : (window : ℕ) (one two line : LineId) (m t : ℕ) (came : List MessageOn) (x y : Option ℕ)
    (more : List ℕ) → is_passed window m came ≡ false
    → first_on one m came ≡ x → first_on two m came ≡ y
    → lead_with one two (message_on line m t) x y ≡ more
    → leads_of window one two (message_on line m t ∷ came) ≡ more ++ leads_of window one two came
added window one two line m t came x y more unpassed on_one on_two is =
    let last = message_on line m t in
    let rest = leads_of window one two came in
    ap (λ (b : Bool). (if b then []
    else lead_with one two last (first_on one m came) (first_on two m came)) ++ rest) unpassed
    ∙ ap (λ (o : Option ℕ). lead_with one two last o (first_on two m came) ++ rest) on_one
    ∙ ap (λ (o : Option ℕ). lead_with one two last x o ++ rest) on_two
    ∙ ap (λ (l : List ℕ). l ++ rest) is

-- it comes on the second line
with_second : (one two line : LineId) (m t : ℕ) (x y : Option ℕ) → is_same_line line two ≡ true
    → lead_with one two (message_on line m t) x y ≡ lead_between x y t
with_second one two line m t x y same =
    ap (λ (b : Bool). if b then lead_between x y t
    else (if is_same_line line one then lead_back y x t else [])) same

-- it comes on the first line
with_first : (one two line : LineId) (m t : ℕ) (x y : Option ℕ) → is_same_line line two ≡ false
    → is_same_line line one ≡ true
    → lead_with one two (message_on line m t) x y ≡ lead_back y x t
with_first one two line m t x y apart same =
    ap (λ (b : Bool). if b then lead_between x y t
    else (if is_same_line line one then lead_back y x t else [])) apart
    ∙ ap (λ (b : Bool). if b then lead_back y x t else []) same

abbrev nothing : List ℕ
nothing = []

either_none : (b c : Bool)
    → (if b then nothing else (if c then nothing else nothing)) ≡ nothing
either_none true c = refl
either_none false true = refl
either_none false false = refl

none_after : (x : Option ℕ) (y t : ℕ) → lead_between x (Some y) t ≡ []
none_after None y t = refl
none_after (Some x) y t = refl

none_back : (y : Option ℕ) (x t : ℕ) → lead_back y (Some x) t ≡ []
none_back None x t = refl
none_back (Some y) x t = refl

-- ---- a message that isn't held

lead_differs : (held : FirstArrival) (line : LineId) (m t : ℕ) → (held.number ≡ m → ⊥)
    → lead_by held (message_on line m t) ≡ None
lead_differs held line m t apart =
    cond-false (held.number == m && not (held.is_met || is_same_line held.line line)) _ _
    (and_left (held.number == m) _ (ne_eqb held.number m apart))

-- one that is held comes on the other line, for the first time
pub lead_of_second : (held : FirstArrival) (line : LineId) (m t : ℕ) → held.number ≡ m
    → held.is_met ≡ false → is_same_line held.line line ≡ false
    → lead_by held (message_on line m t) ≡ Some (lead_from held (message_on line m t))
lead_of_second held line m t same unmet apart =
    cond-true (held.number == m && not (held.is_met || is_same_line held.line line)) _ _
    (and_from (held.number == m) _ (eq-eqb held.number m same)
    (ap (λ (b : Bool). not (b || is_same_line held.line line)) unmet ∙ ap not apart))

led_new : (window : ℕ) (one two line : LineId) (m t : ℕ) (came : List MessageOn)
    → is_passed window m came ≡ false
    → first_on one m came ≡ None → first_on two m came ≡ None
    → Led window one two (message_on line m t) came None
led_new window one two line m t came unpassed none none_other =
    added window one two line m t came None None [] unpassed none none_other
    (either_none (is_same_line line two) (is_same_line line one))

-- ---- the message that is held

module _ (window t : ℕ) (one two : LineId) (came : List MessageOn) (held : FirstArrival)
    (apart : is_same_line one two ≡ false) (apart_too : is_same_line two one ≡ false)
    (unpassed : is_passed window held.number came ≡ false) (is : IsFirstOn one two came held) where
  -- it comes on its own line again
  lead_again : lead_by held (message_on one held.number t) ≡ None
  lead_again =
      cond-false (held.number == held.number && not (held.is_met || is_same_line held.line one)) _ _
      (and_right (held.number == held.number) _
      (ap not (or_right held.is_met (is_same_line held.line one)
      (ap (λ (at : LineId). is_same_line at one) is.line_is ∙ same_line one))))

  led_again : AreLedBetween window one two (message_on one held.number t) came
      (lead_by held (message_on one held.number t))
  led_again =
      let last = message_on one held.number t in
      let other = first_on two held.number came in
      subst (λ (l : Option Lead). AreLedBetween window one two last came l) (sym lead_again) (
        added window one two one held.number t came (Some held.time) other [] unpassed is.first refl
            (with_first one two one held.number t (Some held.time) other apart (same_line one)
            ∙ none_back other held.time t),
        added window two one one held.number t came other (Some held.time) [] unpassed refl is.first
            (with_second two one one held.number t other (Some held.time) (same_line one)
            ∙ none_after other held.time t),
      )

  -- it comes on the other line, which hadn't brought it
  module _ (none : first_on two held.number came ≡ None) where
    abbrev Second : MessageOn
    Second = message_on two held.number t

    -- what it adds to the leads of the line that had, and of the other one
    led_ahead : (more : List ℕ) → lead_between (Some held.time) None t ≡ more
        → leads_of window one two (Second ∷ came) ≡ more ++ leads_of window one two came
    led_ahead more adds =
        added window one two two held.number t came (Some held.time) None more unpassed is.first
        none (with_second one two two held.number t (Some held.time) None (same_line two) ∙ adds)

    led_back : (more : List ℕ) → lead_back (Some held.time) None t ≡ more
        → leads_of window two one (Second ∷ came) ≡ more ++ leads_of window two one came
    led_back more adds =
        added window two one two held.number t came None (Some held.time) more unpassed none
        is.first (with_first two one two held.number t None (Some held.time) apart_too
        (same_line two) ∙ adds)

    led_by_time : (earlier : Bool) → nat_lt t held.time ≡ earlier
        → AreLedBetween window one two Second came (Some (lead_from held Second))
    led_by_time true before =
        subst (λ (b : Bool). AreLedBetween window one two Second came (Some (if b
        then record { line = two; took = held.time - t }
        else record { line = held.line; took = t - held.time }))) (sym before)
        (inr (
          refl,
          led_back ((held.time - t) ∷ [])
              (ap (λ (b : Bool). if b then (held.time - t) ∷ [] else []) before),
          led_ahead [] (ap (λ (b : Bool). if b then [] else (t - held.time) ∷ []) before),
        ))
    led_by_time false before =
        subst (λ (b : Bool). AreLedBetween window one two Second came (Some (if b
        then record { line = two; took = held.time - t }
        else record { line = held.line; took = t - held.time }))) (sym before)
        (inl (
          is.line_is,
          led_ahead ((t - held.time) ∷ [])
              (ap (λ (b : Bool). if b then [] else (t - held.time) ∷ []) before),
          led_back [] (ap (λ (b : Bool). if b then (held.time - t) ∷ [] else []) before),
        ))

    led_unmet : AreLedBetween window one two Second came (lead_by held Second)
    led_unmet =
        let unmet : held.is_met ≡ false = sym is.met ∙ ap is_some none in
        let lead : lead_by held Second ≡ Some (lead_from held Second) =
        lead_of_second held two held.number t refl unmet
        (ap (λ (at : LineId). is_same_line at two) is.line_is ∙ apart) in
        subst (λ (l : Option Lead). AreLedBetween window one two Second came l) (sym lead)
        (led_by_time (nat_lt t held.time) refl)

  -- and which had
  led_met : (second : ℕ) → first_on two held.number came ≡ Some second
      → AreLedBetween window one two (message_on two held.number t) came
      (lead_by held (message_on two held.number t))
  led_met second some =
      let last = message_on two held.number t in
      let met : held.is_met ≡ true = sym is.met ∙ ap is_some some in
      let lead : lead_by held last ≡ None =
      cond-false (held.number == held.number && not (held.is_met || is_same_line held.line two)) _ _
      (and_right (held.number == held.number) _
      (ap (λ (b : Bool). not (b || is_same_line held.line two)) met)) in
      subst (λ (l : Option Lead). AreLedBetween window one two last came l) (sym lead) (
        added window one two two held.number t came (Some held.time) (Some second) [] unpassed
            is.first some (with_second one two two held.number t (Some held.time) (Some second)
            (same_line two)),
        added window two one two held.number t came (Some second) (Some held.time) [] unpassed some
            is.first (with_first two one two held.number t (Some second) (Some held.time) apart_too
            (same_line two)),
      )

  led_on_other : (second : Option ℕ) → first_on two held.number came ≡ second
      → AreLedBetween window one two (message_on two held.number t) came
      (lead_by held (message_on two held.number t))
  led_on_other None none = led_unmet none
  led_on_other (Some second) some = led_met second some

led_held : (window : ℕ) (line : LineId) (t : ℕ) (came : List MessageOn) (held : FirstArrival)
    → (line ≡ A) ⊎ (line ≡ B)
    → is_passed window held.number came ≡ false → IsFirstOn A B came held ⊎ IsFirstOn B A came held
    → AreLed window (message_on line held.number t) came
    (lead_by held (message_on line held.number t))
led_held window A t came held two unpassed (inl is) =
    led_again window t A B came held refl refl unpassed is
led_held window A t came held two unpassed (inr is) =
    led_other_way window (message_on A held.number t) came _
    (led_on_other window t B A came held refl refl unpassed is _ refl)
led_held window B t came held two unpassed (inl is) =
    led_on_other window t A B came held refl refl unpassed is _ refl
led_held window B t came held two unpassed (inr is) =
    led_other_way window (message_on B held.number t) came _
    (led_again window t B A came held refl refl unpassed is)
led_held window Recovery t came held two unpassed is =
    elim two [ inl e ↦ absurd cc | inr e ↦ absurd cc ]

pub led : (window : ℕ) (line : LineId) (m t : ℕ) (came : List MessageOn) (held : FirstArrival)
    → (line ≡ A) ⊎ (line ≡ B)
    → HoldsFirst window came m held
    → AreLed window (message_on line m t) came (lead_by held (message_on line m t))
led window line m t came held two holds = elim (cases_order held.number m) [
  | inl same ↦
      let was = holds.at same in
      subst (λ (k : ℕ). AreLed window (message_on line k t) came
      (lead_by held (message_on line k t))) same
      (led_held window line t came held two
      (subst (λ (k : ℕ). is_passed window k came ≡ false) (sym same) was.1) was.0)
  | inr (inl less) ↦
      let was = holds.before less in
      subst (λ (l : Option Lead). AreLed window (message_on line m t) came l)
      (sym (lead_differs held line m t (λ same. absurd (omega (arith, less, same))))) (
        led_new window A B line m t came was.2 was.0 was.1,
        led_new window B A line m t came was.2 was.1 was.0,
      )
  | inr (inr more) ↦
      let was = holds.after more in
      subst (λ (l : Option Lead). AreLed window (message_on line m t) came l)
      (sym (lead_differs held line m t (λ same. absurd (omega (arith, more, same)))))
      (led_passed window A B line m t came was, led_passed window B A line m t came was)
]

-- ---- what is held at all places

pub got_same : {X : Type 0} (xs : List X) (i : ℕ) (x y : X)
    → slice_get (slice_set xs i x) i ≡ Some y → x ≡ y
got_same [] i x y is = absurd cc
got_same (z ∷ zs) zero x y is = cc
got_same (z ∷ zs) (suc i) x y is = got_same zs i x y is

pub got_other : {X : Type 0} (xs : List X) (i j : ℕ) (x : X) → (j ≡ i → ⊥)
    → slice_get (slice_set xs i x) j ≡ slice_get xs j
got_other [] i j x apart = refl
got_other (z ∷ zs) zero zero x apart = absurd (apart refl)
got_other (z ∷ zs) zero (suc j) x apart = refl
got_other (z ∷ zs) (suc i) zero x apart = refl
got_other (z ∷ zs) (suc i) (suc j) x apart = got_other zs i j x (λ same. apart (ap suc same))

pub noted : (window : ℕ) (line : LineId) (m t : ℕ) (came : List MessageOn)
    (before_a before_b : List ℕ)
    (old new : LineLeads) (held : FirstArrival)
    → (line ≡ A) ⊎ (line ≡ B) → 0 < m → AreLeadsOf window came before_a before_b old
    → slice_get old.arrivals.items (m % window) ≡ Some held
    → new.arrivals.items ≡ slice_set old.arrivals.items (m % window)
    (held_after held (message_on line m t))
    → AreCounted (leads_of window A B (message_on line m t ∷ came) ++ before_a) new.a
    → AreCounted (leads_of window B A (message_on line m t ∷ came) ++ before_b) new.b
    → AreLeadsOf window (message_on line m t ∷ came) before_a before_b new
noted window line m t came before_a before_b old new held two some leads there is a b =
    let here = leads.each m held some there in
    record {
      some = leads.some;
      size = ap length is ∙ length-set old.arrivals.items (m % window)
          (held_after held (message_on line m t)) ∙ leads.size;
      each = λ n now more got. elim (cases_eq (n % window) (m % window)) [
        | inl same ↦
            let at : slice_get (slice_set old.arrivals.items (m % window)
            (held_after held (message_on line m t))) (m % window)
            ≡ Some now =
            ap (λ (k : ℕ). slice_get (slice_set old.arrivals.items (m % window)
            (held_after held (message_on line m t))) k)
            (sym same) ∙ ap (λ (xs : List FirstArrival). slice_get xs (n % window)) (sym is) ∙ got
            in
            subst (λ (h : FirstArrival). HoldsFirst window (message_on line m t ∷ came) n h)
            (got_same old.arrivals.items (m % window) (held_after held (message_on line m t)) now
            at)
            (holds_here window line m t n came held two (sym same) here
            (leads.each n held more (ap (λ (k : ℕ). slice_get old.arrivals.items k) same ∙ there)))
        | inr apart ↦
            holds_elsewhere window line m t n came now (λ same. apart (sym same))
            (leads.each n now more
            (sym (got_other old.arrivals.items (m % window) (n % window)
            (held_after held (message_on line m t)) apart)
            ∙ ap (λ (xs : List FirstArrival). slice_get xs (n % window)) (sym is) ∙ got))
      ];
      a = a;
      b = b;
    }

-- the lists of leads of both lines after one message more
abbrev Counts : ℕ → List MessageOn → List ℕ → List ℕ → LineLeads → Type 0
Counts window came before_a before_b leads =
    AreCounted (leads_of window A B came ++ before_a) leads.a
    × AreCounted (leads_of window B A came ++ before_b) leads.b

counted_same : (window : ℕ) (last : MessageOn) (came : List MessageOn) (before_a before_b : List ℕ)
    (old new : LineLeads)
    → (leads_of window A B (last ∷ came) ≡ leads_of window A B came)
    × (leads_of window B A (last ∷ came) ≡ leads_of window B A came)
    → AreLeadsOf window came before_a before_b old → new.a ≡ old.a → new.b ≡ old.b
    → Counts window (last ∷ came) before_a before_b new
counted_same window last came before_a before_b old new same leads a b = (
  subst (λ (d : Durations). AreCounted (leads_of window A B (last ∷ came) ++ before_a) d) (sym a)
      (subst (λ (ds : List ℕ). AreCounted (ds ++ before_a) old.a) (sym same.0) leads.a),
  subst (λ (d : Durations). AreCounted (leads_of window B A (last ∷ came) ++ before_b) d) (sym b)
      (subst (λ (ds : List ℕ). AreCounted (ds ++ before_b) old.b) (sym same.1) leads.b),
)

module _ (window : ℕ) (line : LineId) (m t : ℕ) (came : List MessageOn) (before_a before_b : List ℕ)
    (old new : LineLeads) (held : FirstArrival) (place : ℕ) (two : (line ≡ A)
    ⊎ (line ≡ B)) (some : 0 < m)
    (leads : AreLeadsOf window came before_a before_b old)
    (at : place ≡ m % window) (got : slice_get old.arrivals.items place ≡ Some held)
    (is : new.arrivals.items ≡ slice_set old.arrivals.items place
    (held_after held (message_on line m t))) where
  abbrev Last : MessageOn
  Last = message_on line m t

  there : slice_get old.arrivals.items (m % window) ≡ Some held
  there = subst (λ (k : ℕ). slice_get old.arrivals.items k ≡ Some held) at got

  set_there : new.arrivals.items ≡ slice_set old.arrivals.items (m % window) (held_after held Last)
  set_there = subst (λ (k : ℕ). new.arrivals.items ≡ slice_set old.arrivals.items k
      (held_after held Last)) at is

  are_led : AreLed window Last came (lead_by held Last)
  are_led = led window line m t came held two (leads.each m held some there)

  pub noted_none : None ≡ lead_by held Last → new.a ≡ old.a → new.b ≡ old.b
      → AreLeadsOf window (Last ∷ came) before_a before_b new
  noted_none none a b =
      let same = subst (λ (l : Option Lead). AreLed window Last came l) (sym none) are_led in
      let counts = counted_same window Last came before_a before_b old new same leads a b in
      noted window line m t came before_a before_b old new held two some leads there
      set_there counts.0 counts.1

  pub noted_a : (lead : Lead) → Some lead ≡ lead_by held Last → (lead.line ≡ B → ⊥)
      → ((ds : List ℕ) → AreCounted ds old.a → AreCounted (lead.took ∷ ds) new.a) → new.b ≡ old.b
      → AreLeadsOf window (Last ∷ came) before_a before_b new
  noted_a lead is_lead other a b =
      elim (subst (λ (l : Option Lead). AreLed window Last came l) (sym is_lead) are_led) [
        | inl led_a ↦
            noted window line m t came before_a before_b old new held two some leads there set_there
            (subst (λ (ds : List ℕ). AreCounted (ds ++ before_a) new.a) (sym led_a.1)
            (a (leads_of window A B came ++ before_a) leads.a))
            (subst (λ (d : Durations). AreCounted (leads_of window B A (Last ∷ came) ++ before_b) d)
            (sym b)
            (subst (λ (ds : List ℕ). AreCounted (ds ++ before_b) old.b) (sym led_a.2) leads.b))
        | inr led_b ↦ absurd (other led_b.0)
      ]

  pub noted_b : (lead : Lead) → Some lead ≡ lead_by held Last → lead.line ≡ B
      → ((ds : List ℕ) → AreCounted ds old.b → AreCounted (lead.took ∷ ds) new.b) → new.a ≡ old.a
      → AreLeadsOf window (Last ∷ came) before_a before_b new
  noted_b lead is_lead on_b b a =
      elim (subst (λ (l : Option Lead). AreLed window Last came l) (sym is_lead) are_led) [
        | inl led_a ↦ let bad : A ≡ B = sym led_a.0 ∙ on_b in absurd cc
        | inr led_b ↦
            noted window line m t came before_a before_b old new held two some leads there set_there
            (subst (λ (d : Durations). AreCounted (leads_of window A B (Last ∷ came) ++ before_a) d)
            (sym a)
            (subst (λ (ds : List ℕ). AreCounted (ds ++ before_a) old.a) (sym led_b.2) leads.a))
            (subst (λ (ds : List ℕ). AreCounted (ds ++ before_b) new.b) (sym led_b.1)
            (b (leads_of window B A came ++ before_b) leads.b))
      ]

-- messages on one of the two lines
pub come_on_two : (line : LineId) (number count time : ℕ) (came : List MessageOn)
    → (line ≡ A) ⊎ (line ≡ B)
    → come_from line number count time came ≡ come_on line number count time came
come_on_two A number count time came two = refl
come_on_two B number count time came two = refl
come_on_two Recovery number count time came two = elim two [ inl e ↦ absurd cc | inr e ↦ absurd cc ]

-- ---- places

pub max_one : (n : ℕ) → 0 < n → max n 1 ≡ n
max_one n some = omega (arith, some)

-- the place of the next number
next_mod : (n size place : ℕ) → place ≡ n % size → (n + 1) % size ≡ (place + 1) % size
next_mod n size place at =
    let whole : n + 1 ≡ n % size + 1 + size * (n / size) = omega (arith, mod-add-div n size) in
    ap (λ (k : ℕ). k % size) whole ∙ add-mul-mod_self_left (n % size + 1) size (n / size)
    ∙ ap (λ (k : ℕ). (k + 1) % size) (sym at)

pub next_within : (n size place : ℕ) → place ≡ n % size → place + 1 < size
    → place + 1 ≡ (n + 1) % size
next_within n size place at within = sym (next_mod n size place at ∙ mod-eq_of_lt within)

pub next_first : (n size place : ℕ) → 0 < size → place ≡ n % size
    → size ≤ place + 1 → 0 ≡ (n + 1) % size
next_first n size place some at past =
    let whole : place + 1 ≡ size = omega (arith, at, past, mod-lt n some) in
    sym (next_mod n size place at ∙ ap (λ (k : ℕ). k % size) whole ∙ mod_self size)
