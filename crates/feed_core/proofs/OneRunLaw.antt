-- A list of events has one run.
use Rattle.std.proofs.Common.{◌≡◌, ℕ, ◌+◌, List, [], ◌∷◌, Option, Some, None, Result, refl, sym, ap, subst, ◌∙◌, inl, inr}
use Rattle.std.specs.Prelude.{MatchOption, slice_get, ◌⊎◌}
use Rattle.feed_types.specs.declared.line.LineId.{LineId}
use Rattle.mold_packet.specs.laws.OneReading.{same_packet, no_fault, same_fault}
use Rattle.mold_packet.specs.declared.fault.PacketFault.{PacketFault}
use Rattle.mold_packet.specs.Faults.{code_of}
use Rattle.mold_packet.specs.Content.{Content}
use Rattle.filter_terms.specs.declared.terms.Terms.{Terms}
use Rattle.line_arbiter.specs.declared.outcome.Outcome.{Outcome}
use Rattle.line_arbiter.specs.declared.outcome.LineFault.{LineFault}
use Rattle.line_arbiter.specs.Packets.{arrival_of, end_of}
use Rattle.line_arbiter.specs.Additions.{AddsRenewal, AddsSkip}
use Rattle.line_arbiter.specs.Outcomes.{IsOutcome}
use Rattle.line_arbiter.specs.Histories.{History, names_of, after_input, skip_after, history_after}
use Rattle.line_arbiter.specs.laws.OneOutcome.{one_answer, one_renewal}
use Rattle.line_arbiter.specs.laws.SkipAnswers.{one_skip}
use Rattle.feed_steps.specs.declared.event.Event.{Event}
use Rattle.feed_steps.specs.declared.event.Event.TheVariants.{Packet, Push, Consume, Declare, Renew, Skip, Subscribe, Offer, Dequeue}
use Rattle.feed_steps.specs.declared.event.Done.{Done}
use Rattle.feed_steps.specs.declared.event.Done.TheVariants as done
use Rattle.feed_core.specs.Worlds.{Venue, session_sent, World, Setting}
use Rattle.feed_steps.specs.Steps.{Transition, Refused, Changes, Stays, Applies, packet_done, renewal_done, skip_done}
use Rattle.feed_core.specs.Steps.{put_venue, RefusesBytes, Answers, AnswersPacket, AnswersSubscribe}
use Rattle.feed_core.specs.OneStep.{IsStep}
use Rattle.feed_core.specs.Runs.{IsRun}

pub record Same (a b : Done) (v w : World) : Type 0 where
  pub outcome : a ≡ b
  pub world : v ≡ w

-- two outcomes and two worlds, each equal to the other
same : {a b c d : Done} {v w x y : World} → c ≡ d → x ≡ y → a ≡ c → v ≡ x
    → b ≡ d → w ≡ y → Same a b v w
same e f p q r t = record { outcome = p ∙ e ∙ sym r; world = q ∙ f ∙ sym t }

came : {X : Type 0} {a b : Done} {v w : World} (put : X → World) (c : Transition X) (old : World)
    → Applies put c old a v → Applies put c old b w → Same a b v w
came put (Refused d) old p q = same refl refl p.0 p.1 q.0 q.1
came put (Changes d x) old p q = same refl refl p.0 p.1 q.0 q.1

known : {X : Type 0} {a b : Done} {v w : World} (o : Option X) (d : Done) (old : World) (P Q : X
    → Type 0) → ((x : X) → P x → Q x → Same a b v w) → MatchOption o (Stays d old a v) P
    → MatchOption o (Stays d old b w) Q → Same a b v w
known None d old P Q f p q = same refl refl p.0 p.1 q.0 q.1
known (Some x) d old P Q f p q = f x p q

module _ (place : ℕ) (x : Venue) (old : World) where
  abbrev with_history : History → World
  with_history h = put_venue old place (record x { history = h })

  answered : {R : Type 0} {Adds More : R → History → Type 0} {a b : Done} {v w : World}
      (done_of : R → Done) (f : Answers Adds done_of place x old a v)
      (g : Answers More done_of place x old b w) → f.answer ≡ g.answer → f.history ≡ g.history
      → Same a b v w
  answered done_of f g answer history =
      same (ap done_of answer) (ap with_history history) f.outcome_is f.new_is g.outcome_is
      g.new_is

  arrival_same : (line : LineId) (p q : Content) (r s : Result Outcome LineFault) → p ≡ q → r ≡ s
      → after_input x.history (arrival_of line p r) ≡ after_input x.history (arrival_of line q s)
  arrival_same line p q r s e f = rw (e, f) refl

  packets : (window : ℕ) (line : LineId) (bytes : List ℕ) (a b : Done) (v w : World)
      → RefusesBytes bytes old a v ⊎ AnswersPacket window place x line bytes old a v
      → RefusesBytes bytes old b w ⊎ AnswersPacket window place x line bytes old b w → Same a b v w
  packets window line bytes a b v w p q = elim p [
    | inl f ↦ elim q [
      | inl g ↦ same (ap (λ (e : PacketFault). done.Refused (code_of e)) (same_fault bytes f.fault
          g.fault f.has g.has)) refl f.is.0 f.is.1 g.is.0 g.is.1
      | inr g ↦ absurd (no_fault bytes g.packet g.rest f.fault g.spells f.has)
    ]
    | inr f ↦ elim q [
      | inl g ↦ absurd (no_fault bytes f.packet f.rest g.fault f.spells g.has)
      | inr g ↦
          let one = same_packet bytes f.packet g.packet f.rest g.rest f.spells g.spells in
          let right = subst (λ (p : Content). IsOutcome x.history.present.name window
          (session_sent x) x.history.present.packets p f.answers.answer) one f.answers.adds.right in
          let answer = one_answer x.history.present.name window (session_sent x)
          x.history.present.packets g.packet f.answers.answer g.answers.answer right
          g.answers.adds.right in
          let history = f.answers.adds.is
          ∙ arrival_same line f.packet g.packet f.answers.answer g.answers.answer one answer
          ∙ sym g.answers.adds.is in
          answered packet_done f.answers g.answers answer history
    ]
  ]

  renewals : (name : List ℕ) (a b : Done) (v w : World)
      → Answers (AddsRenewal (session_sent x) name x.history) renewal_done place x old a v
      → Answers (AddsRenewal (session_sent x) name x.history) renewal_done place x old b w
      → Same a b v w
  renewals name a b v w f g =
      let answer = one_renewal (names_of x.history) (end_of x.history.present.packets)
      (session_sent x) name f.answer g.answer f.adds.right g.adds.right in
      let history = f.adds.is ∙ ap (history_after x.history name) answer ∙ sym g.adds.is in
      answered renewal_done f g answer history

  skips : (number : ℕ) (a b : Done) (v w : World)
      → Answers (AddsSkip (session_sent x) number x.history) (skip_done number) place x old a v
      → Answers (AddsSkip (session_sent x) number x.history) (skip_done number) place x old b w
      → Same a b v w
  skips number a b v w f g =
      let answer = one_skip x.history.present.packets (session_sent x) number f.answer g.answer
      f.adds.right g.adds.right in
      let history = f.adds.is ∙ ap (skip_after x.history number) answer ∙ sym g.adds.is in
      answered (skip_done number) f g answer history

subscriptions : (o : Option Terms) (old : World) (a b : Done) (v w : World)
    → AnswersSubscribe o old a v → AnswersSubscribe o old b w → Same a b v w
subscriptions None old a b v w p q = same refl refl p.0 p.1 q.0 q.1
subscriptions (Some terms) old a b v w p q = came _ _ (record old { used = old.used + 1 }) p q

pub one_step : (s : Setting) (old : World) (e : Event) (a b : Done) (v w : World)
    → IsStep s old e a v → IsStep s old e b w → Same a b v w
one_step s old (Packet venue line bytes) a b v w p q = known (slice_get old.venues venue) _ old _ _
    (λ x f g. packets venue x old s.window line bytes.now a b v w f g) p q
one_step s old (Renew venue name) a b v w p q = known (slice_get old.venues venue) _ old _ _
    (λ x f g. renewals venue x old name a b v w f g) p q
one_step s old (Skip venue number) a b v w p q = known (slice_get old.venues venue) _ old _ _
    (λ x f g. skips venue x old number a b v w f g) p q
one_step s old (Push venue) a b v w p q = known (slice_get old.venues venue) _ old _ _
    (λ x f g. came _ _ old f g) p q
one_step s old (Consume venue) a b v w p q = known (slice_get old.venues venue) _ old _ _
    (λ x f g. came _ _ old f g) p q
one_step s old (Declare venue on) a b v w p q = known (slice_get old.venues venue) _ old _ _
    (λ x f g. came _ _ old f g) p q
one_step s old Subscribe a b v w p q = subscriptions (slice_get s.filters old.used) old a b v w p q
one_step s old (Offer id) a b v w p q = known (slice_get old.subscribers id) _ old _ _
    (λ x f g. came _ _ old f g) p q
one_step s old (Dequeue id) a b v w p q = known (slice_get old.subscribers id) _ old _ _
    (λ x f g. came _ _ old f g) p q

pub record SameRun (a b : List Done) (v w : World) : Type 0 where
  pub outcomes : a ≡ b
  pub world : v ≡ w

more : (a b : Done) (ds es : List Done) → a ≡ b → ds ≡ es → a ∷ ds ≡ b ∷ es
more a b ds es e f = rw (e, f) refl

pub run_once : (s : Setting) (old : World) (events : List Event) (a b : List Done) (v w : World)
    → IsRun s old events a v → IsRun s old events b w → SameRun a b v w
run_once s old [] [] [] v w p q = record { outcomes = refl; world = p ∙ sym q }
run_once s old [] [] (b ∷ bs) v w p q = absurd q
run_once s old [] (a ∷ cs) b v w p q = absurd p
run_once s old (e ∷ es) [] b v w p q = absurd p
run_once s old (e ∷ es) (a ∷ cs) [] v w p q = absurd q
run_once s old (e ∷ es) (a ∷ cs) (b ∷ bs) v w p q =
    let first = one_step s old e a b p.0 q.0 p.1 q.1 in
    let rest = run_once s q.0 es cs bs v w (subst (λ (m : World). IsRun s m es cs v)
    first.world p.2) q.2 in
    record { outcomes = more a b cs bs first.outcome rest.outcomes; world = rest.world }
