-- Sessions that are joined at their first packet.
use Rattle.std.proofs.Common.{◌≡◌, ℕ, ◌+◌, ◌<◌, ◌≤◌, List, length, refl, sym, ap, ◌∙◌, subst, arith, inl, inr, Some, None, Option}
use Rattle.std.specs.Prelude.{Ok, ◌==◌, ◌⊎◌}
use Rattle.std.proofs.lemmas.Bool.{cases_Bool, cases_lt}
use Rattle.mold_packet.specs.declared.packet.Kind.{Kind}
use Rattle.mold_packet.specs.declared.packet.Kind.TheVariants as kinds
use Rattle.mold_packet.specs.Content.{Content, IsContent, last_number}
use Rattle.line_arbiter.specs.declared.outcome.Outcome.{Outcome}
use Rattle.line_arbiter.specs.declared.outcome.Outcome.TheVariants.{Ahead, Ended, Heartbeat, Taken}
use Rattle.line_arbiter.specs.Packets.{Input, carried, end_of}
use Rattle.line_arbiter.specs.Streams.{end_at, front_of}
use Rattle.line_arbiter.specs.Histories.{History}
use Rattle.line_arbiter.specs.LastSent.{last_sent}
use Rattle.line_arbiter.specs.Outcomes.{IsBefore, IsOutcome, ToKind}
use Rattle.line_arbiter.specs.laws.Fronts.{not_none}
use Rattle.feed_text.specs.Joining.{IsNotPast}
use Rattle.feed_text.specs.Rules.{IsFresh, IsJoinedAt}
use Rattle.feed_text.proofs.OnePutIn.{of_session}
use Rattle.feed_text.proofs.RuleSteps.{has_messages}
use Rattle.line_arbiter.specs.laws.Held.{none_held}

-- at most one item is at an end
end_len : (end : Option ℕ) (n : ℕ) → length (end_at end n) ≤ 1
end_len None n = omega arith
end_len (Some e) n = elim (cases_Bool (e == n)) [
  | inl same ↦ rw same (omega arith)
  | inr other ↦ rw other (omega arith)
]

-- so the last item of a fresh session is at most its end
fresh_last : (h : History) → IsFresh h → last_sent h ≤ 1
fresh_last h fresh =
    let front = fresh.front in
    let most = end_len (end_of h.present.packets) (front_of h.present.packets + 1) in
    omega arith

-- ---- what isn't past the end is accepted

before_end : (end : Option ℕ) (number last : ℕ) → IsNotPast end kinds.Messages number last
    → IsBefore end last
before_end None number last x = λ at is. absurd (cc)
before_end (Some e) number last x = λ at is. let same : e ≡ at = cc in omega (arith, same, x)

within_end : (end : Option ℕ) (number last : ℕ) → IsNotPast end kinds.Heartbeat number last
    → (at : ℕ) → end ≡ Some at → number ≤ at
within_end None number last x at is = absurd (cc)
within_end (Some e) number last x at is = let same : e ≡ at = cc in omega (arith, same, x)

accepts_end : (h : History) (p : Content) (end : Option ℕ) → end ≡ end_of h.present.packets
    → IsFresh h → 1 < p.number → IsNotPast end kinds.End p.number (last_number p)
    → ToKind kinds.End 0 (last_sent h) h.present.packets p (Ok Ended)
accepts_end h p None is fresh past x = inr (
  sym is,
  λ m some. elim (cases_lt m p.number) [
    | inl less ↦ less
    | inr most ↦
        let last = fresh_last h fresh in
        absurd (not_none (carried h.present.packets m) some
        (none_held h.present.packets (last_sent h) m fresh.held (omega arith)))
  ],
)
accepts_end h p (Some e) is fresh past x = inl (sym is ∙ ap Some (sym x))

accepts : (h : History) (p : Content) (kind : Kind) → p.kind ≡ kind → IsContent p → IsFresh h
    → 1 < p.number → IsNotPast (end_of h.present.packets) kind p.number (last_number p)
    → (outcome : Outcome) × ToKind kind 0 (last_sent h) h.present.packets p (Ok outcome)
accepts h p kinds.Messages is c fresh past x =
    let last = fresh_last h fresh in
    let some = has_messages p c is in (
      Ahead,
      (before_end (end_of h.present.packets) p.number (last_number p) x, omega arith),
    )
accepts h p kinds.Heartbeat is c fresh past x =
    (Heartbeat, within_end (end_of h.present.packets) p.number (last_number p) x)
accepts h p kinds.End is c fresh past x =
    (Ended, accepts_end h p (end_of h.present.packets) refl fresh past x)

pub joins : (h : History) (p : Content) (end : Option ℕ) (kind : Kind) (number last : ℕ)
    → end ≡ end_of h.present.packets → kind ≡ p.kind → number ≡ p.number → last ≡ last_number p
    → IsContent p → p.session ≡ h.present.name → IsFresh h → 1 < number
    → IsNotPast end kind number last → IsJoinedAt h p number
joins h p end kind number last ends is first most c session fresh past x =
    let over : IsNotPast (end_of h.present.packets) p.kind p.number (last_number p) =
    subst (λ (e : Option ℕ). IsNotPast e p.kind p.number (last_number p)) ends
    (subst (λ (k : Kind). IsNotPast end k p.number (last_number p)) is
    (subst (λ (n : ℕ). IsNotPast end kind n (last_number p)) first
    (subst (IsNotPast end kind number) most x))) in
    let a = accepts h p p.kind refl c fresh (omega (arith, past, first)) over in
    record {
      fresh = fresh;
      window = 0;
      outcome = a.0;
      accepted = inr (session, a.1);
      first = first;
      missing = past;
    }

-- ---- and only that is

not_past_messages : (end : Option ℕ) (number last : ℕ) → IsBefore end last
    → IsNotPast end kinds.Messages number last
not_past_messages None number last x = tt
not_past_messages (Some e) number last x = x e refl

not_past_heartbeat : (end : Option ℕ) (number last : ℕ)
    → ((at : ℕ) → end ≡ Some at → number ≤ at) → IsNotPast end kinds.Heartbeat number last
not_past_heartbeat None number last x = tt
not_past_heartbeat (Some e) number last x = x e refl

not_past_end : (end : Option ℕ) (number last : ℕ) → (end ≡ Some number) ⊎ (end ≡ None)
    → IsNotPast end kinds.End number last
not_past_end None number last x = tt
not_past_end (Some e) number last (inl x) = let same : e ≡ number = cc in sym same
not_past_end (Some e) number last (inr x) = absurd (cc)

kind_not_past : (kind : Kind) (window sent : ℕ) (packets : List Input) (p : Content)
    (outcome : Outcome) → ToKind kind window sent packets p (Ok outcome)
    → IsNotPast (end_of packets) kind p.number (last_number p)
kind_not_past kinds.Messages window sent packets p Ahead x =
    not_past_messages (end_of packets) p.number (last_number p) x.0
kind_not_past kinds.Messages window sent packets p (Taken new repeated) x =
    not_past_messages (end_of packets) p.number (last_number p) x.0
kind_not_past kinds.Messages window sent packets p Heartbeat x = absurd x
kind_not_past kinds.Messages window sent packets p Ended x = absurd x
kind_not_past kinds.Heartbeat window sent packets p Heartbeat x =
    not_past_heartbeat (end_of packets) p.number (last_number p) x
kind_not_past kinds.Heartbeat window sent packets p Ahead x = absurd x
kind_not_past kinds.Heartbeat window sent packets p (Taken new repeated) x = absurd x
kind_not_past kinds.Heartbeat window sent packets p Ended x = absurd x
kind_not_past kinds.End window sent packets p Ended (inl x) =
    not_past_end (end_of packets) p.number (last_number p) (inl x)
kind_not_past kinds.End window sent packets p Ended (inr x) =
    not_past_end (end_of packets) p.number (last_number p) (inr x.0)
kind_not_past kinds.End window sent packets p Ahead x = absurd x
kind_not_past kinds.End window sent packets p (Taken new repeated) x = absurd x
kind_not_past kinds.End window sent packets p Heartbeat x = absurd x

outcome_not_past : (session : List ℕ) (window sent : ℕ) (packets : List Input) (p : Content)
    (outcome : Outcome) → IsOutcome session window sent packets p (Ok outcome)
    → IsNotPast (end_of packets) p.kind p.number (last_number p)
outcome_not_past session window sent packets p outcome (inl x) = let wrong = x.1 in absurd (cc)
outcome_not_past session window sent packets p outcome (inr x) =
    kind_not_past p.kind window sent packets p outcome x.1

pub joined_not_past : (h : History) (p : Content) (n : ℕ) (end : Option ℕ) (kind : Kind)
    (number last : ℕ) → end ≡ end_of h.present.packets → kind ≡ p.kind → number ≡ p.number
    → last ≡ last_number p → IsJoinedAt h p n → IsNotPast end kind number last
joined_not_past h p n end kind number last ends is first most x =
    subst (IsNotPast end kind number) (sym most)
    (subst (λ (m : ℕ). IsNotPast end kind m (last_number p)) (sym first)
    (subst (λ (k : Kind). IsNotPast end k p.number (last_number p)) (sym is)
    (subst (λ (e : Option ℕ). IsNotPast e p.kind p.number (last_number p)) (sym ends)
    (outcome_not_past h.present.name x.window (last_sent h) h.present.packets p x.outcome
    x.accepted))))

pub joined_session : (h : History) (p : Content) (n : ℕ) → IsJoinedAt h p n
    → p.session ≡ h.present.name
joined_session h p n x = of_session h.present.name x.window (last_sent h) h.present.packets p
    x.outcome x.accepted
