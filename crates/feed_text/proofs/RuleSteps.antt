-- What is given up: nothing that has come, so the skip is made.
use Rattle.std.proofs.Common.{◌≡◌, inl, inr, ℕ, zero, suc, ◌+◌, ◌-◌, ◌^◌, ◌<◌, ◌≤◌, Bool, true, false, List, length, get_or, refl, sym, ap, ◌∙◌, subst, arith, Some, None, Option}
use Rattle.std.specs.Prelude.{Result, Ok, ◌==◌, min, is_none}
use Rattle.std.specs.Option.{option_map_or}
use Rattle.std.specs.List.{range_with_len}
use Rattle.std.proofs.lemmas.Bool.{cases_Bool, false≢true}
use Rattle.std.proofs.lemmas.Bool.Decides.{nat_tests}
use Rattle.std.proofs.lemmas.List.Sums.{prefix_len-le-length, prefix_len_passes}
use Rattle.std.proofs.lemmas.List.FromFn.{length-range_with_len, get_or-range_with_len}
use Rattle.mold_packet.specs.declared.packet.Kind.{Kind}
use Rattle.mold_packet.specs.declared.packet.Kind.TheVariants as kinds
use Rattle.mold_packet.specs.Content.{Content, IsContent, KindFits, last_number}
use Rattle.line_arbiter.specs.declared.outcome.Outcome.{Outcome}
use Rattle.line_arbiter.specs.declared.outcome.Outcome.TheVariants.{Ahead, Ended, Heartbeat, Taken}
use Rattle.line_arbiter.specs.declared.faults.SkipFault.{SkipFault}
use Rattle.line_arbiter.specs.Packets.{Input, carried, end_of, known_of}
use Rattle.mold_packet.specs.declared.request.Request.{Request}
use Rattle.line_arbiter.specs.Streams.{front_of, gap_of, missing_count}
use Rattle.line_arbiter.specs.Histories.{History}
use Rattle.line_arbiter.specs.Outcomes.{IsBefore, IsOutcome, ToKind}
use Rattle.line_arbiter.specs.Skips.{IsSkip, MaySkip}
use Rattle.line_arbiter.specs.laws.Held.{no_end, none_held}
use Rattle.line_arbiter.specs.laws.SkipAnswers.{one_skip}
use Rattle.run_settings.specs.declared.skip_rule.SkipRule.{SkipRule}
use Rattle.run_settings.specs.declared.skip_rule.SkipRule.TheVariants.{Never, Join, Gaps, After}
use Rattle.feed_text.specs.declared.standing_gap.StandingGap.{StandingGap}
use Rattle.line_arbiter.specs.LastSent.{last_sent}
use Rattle.feed_text.specs.Rules.{IsAhead, IsJoinedAt, IsOverdue, IsPastGap, SkipsBefore, first_come, held_at_last}
use Rattle.line_arbiter.specs.laws.LastSent.{last_all}

ahead_kind : (kind : Kind) (window sent : ℕ) (packets : List Input) (p : Content)
    → ToKind kind window sent packets p (Ok Ahead)
    → (kind ≡ kinds.Messages) × IsBefore (end_of packets) (last_number p)
    × (sent + window < last_number p)
ahead_kind kinds.Messages window sent packets p x = (refl, x.0, x.1)
ahead_kind kinds.Heartbeat window sent packets p x = absurd x
ahead_kind kinds.End window sent packets p x = absurd x

-- a packet that would be answered Ahead has messages, and goes past the window, and not past an end
pub ahead_is : (window : ℕ) (h : History) (p : Content) → IsAhead window h p
    → (p.kind ≡ kinds.Messages) × IsBefore (end_of h.present.packets) (last_number p)
    × (last_sent h + window < last_number p)
ahead_is window h p (inl x) = absurd (cc)
ahead_is window h p (inr x) = ahead_kind p.kind window (last_sent h) h.present.packets p x.1

pub has_messages : (p : Content) → IsContent p → p.kind ≡ kinds.Messages → 1 ≤ length p.messages
has_messages p c is = (subst (λ (k : Kind). KindFits k p.messages) is c.fits).0

none_missing : {X : Type 0} (o : Option X) → is_none o ≡ true → o ≡ None
none_missing None e = refl
none_missing (Some x) e = absurd (false≢true e)

-- the numbers that are missing in a row have not come
none_in_row : (window sent : ℕ) (packets : List Input) (m : ℕ) → front_of packets < m
    → m < front_of packets + 1 + missing_count window sent packets → carried packets m ≡ None
none_in_row window sent packets m past within =
    let front = front_of packets in
    let count = min (known_of packets) (sent + window) - front in
    let numbers = range_with_len (front + 1) count in
    let test = λ (k : ℕ). is_none (carried packets k) in
    let most = prefix_len-le-length test numbers in
    let len = length-range_with_len (front + 1) count in
    let at : get_or numbers (m - 1 - front) 0 ≡ m =
    get_or-range_with_len (front + 1) count (m - 1 - front) 0 (omega arith) ∙ omega arith in
    none_missing (carried packets m)
    (subst (λ (k : ℕ). is_none (carried packets k) ≡ true) at (prefix_len_passes test numbers
    (m - 1 - front) 0 (omega arith)))

-- how many are missing in a row, by the gap
pub gap_some : (name : List ℕ) (window sent : ℕ) (packets : List Input) (r : Request)
    → Some r ≡ gap_of name window sent packets → r.count ≡ missing_count window sent packets
gap_some name window sent packets r e = elim (cases_Bool (missing_count window sent packets == 0)) [
  | inl none ↦ let is = rw none at e in absurd (cc)
  | inr some ↦ let is = rw some at e
      in ap (λ (o : Option Request). option_map_or (λ (q : Request). q.count) o 0) is
]

pub gap_none : (name : List ℕ) (window sent : ℕ) (packets : List Input)
    → None ≡ gap_of name window sent packets → missing_count window sent packets ≡ 0
gap_none name window sent packets e = elim (cases_Bool (missing_count window sent packets == 0)) [
  | inl none ↦ grind (arith, nat_tests)
  | inr some ↦ let is = rw some at e in absurd (cc)
]

-- the first number that has come, by what is held
pub first_unheld : (window : ℕ) (h : History) (p : Content) → held_at_last h ≡ 0
    → first_come window h p ≡ p.number
first_unheld window h p none = rw none refl

pub first_held : (window : ℕ) (h : History) (p : Content) → (held_at_last h ≡ 0 → ⊥)
    → first_come window h p ≡ min p.number (front_of h.present.packets + 1 + missing_count window
    (last_sent h) h.present.packets)
first_held window h p some =
    let other : (held_at_last h == 0) ≡ false = grind (arith, nat_tests) in
    rw other refl

-- no end is announced at the front, so the last item is the message there
last_is_front : (h : History) → ((e : ℕ) → end_of h.present.packets ≡ Some e
    → front_of h.present.packets + 1 < e) → last_sent h ≡ front_of h.present.packets
last_is_front h later =
    let none = no_end (end_of h.present.packets) (front_of h.present.packets + 1) later in
    omega arith

-- where no end is announced below a number, and none past the front and below it has come
may_skip_to : (h : History) (n : ℕ) → front_of h.present.packets + 1 < n
    → ((e : ℕ) → end_of h.present.packets ≡ Some e → n ≤ e)
    → ((last_sent h ≡ front_of h.present.packets) → (m : ℕ) → front_of h.present.packets < m → m < n
    → carried h.present.packets m ≡ None) → MaySkip h.present.packets n
may_skip_to h n past ends none = record {
  past = past;
  not_ended = ends;
  missing = none (last_is_front h (λ e is. let later = ends e is in omega arith));
}

-- ---- before a packet that would be answered Ahead

module _ (window : ℕ) (h : History) (p : Content) (n : ℕ) (c : IsContent p)
    (x : IsPastGap window h p n) where
  abbrev packets : List Input
  packets = h.present.packets

  pub first_by_own : n ≤ p.number
  first_by_own = elim (cases_Bool (held_at_last h == 0)) [
    | inl none ↦ let first = rw none at x.first in omega arith
    | inr some ↦ let first = rw some at x.first in omega arith
  ]

  before_end : (e : ℕ) → end_of packets ≡ Some e → n ≤ e
  before_end e is =
      let ahead = ahead_is window h p x.ahead in
      let later : last_number p < e = ahead.1 e is in
      let some = has_messages p c ahead.0 in
      let own = first_by_own in
      omega arith

  none_came : last_sent h ≡ front_of packets → (m : ℕ) → front_of packets < m → m < n
      → carried packets m ≡ None
  none_came last m past below = elim (cases_Bool (held_at_last h == 0)) [
    | inl none ↦
        let held : held_at_last h ≡ 0 = grind (arith, nat_tests) in
        none_held packets (last_sent h) m held (omega arith)
    | inr some ↦
        let first = rw some at x.first in
        none_in_row window (last_sent h) packets m past (omega arith)
  ]

  pub may_pass : MaySkip packets n
  may_pass = may_skip_to h n x.missing before_end none_came

-- ---- at a session's first packet

accepted_before : (kind : Kind) (window sent : ℕ) (packets : List Input) (p : Content)
    (outcome : Outcome) → ToKind kind window sent packets p (Ok outcome) → IsContent p
    → p.kind ≡ kind → (e : ℕ) → end_of packets ≡ Some e → p.number ≤ e
accepted_before kinds.Messages window sent packets p Ahead x c is e end =
    let later = x.0 e end in let some = has_messages p c is in omega arith
accepted_before kinds.Messages window sent packets p (Taken new repeated) x c is e end =
    let later = x.0 e end in let some = has_messages p c is in omega arith
accepted_before kinds.Messages window sent packets p Heartbeat x c is e end = absurd x
accepted_before kinds.Messages window sent packets p Ended x c is e end = absurd x
accepted_before kinds.Heartbeat window sent packets p Heartbeat x c is e end = x e end
accepted_before kinds.Heartbeat window sent packets p Ahead x c is e end = absurd x
accepted_before kinds.Heartbeat window sent packets p (Taken new repeated) x c is e end = absurd x
accepted_before kinds.Heartbeat window sent packets p Ended x c is e end = absurd x
accepted_before kinds.End window sent packets p Ended (inl x) c is e end =
    let same : Some e ≡ Some p.number = sym end ∙ x in
    let number : e ≡ p.number = cc in omega (arith, number)
accepted_before kinds.End window sent packets p Ended (inr x) c is e end =
    let same : Some e ≡ None = sym end ∙ x.0 in absurd (cc)
accepted_before kinds.End window sent packets p Ahead x c is e end = absurd x
accepted_before kinds.End window sent packets p (Taken new repeated) x c is e end = absurd x
accepted_before kinds.End window sent packets p Heartbeat x c is e end = absurd x

outcome_before : (session : List ℕ) (window sent : ℕ) (packets : List Input) (p : Content)
    (outcome : Outcome) → IsOutcome session window sent packets p (Ok outcome) → IsContent p
    → (e : ℕ) → end_of packets ≡ Some e → p.number ≤ e
outcome_before session window sent packets p outcome (inl x) c e end =
    let wrong = x.1 in absurd (cc)
outcome_before session window sent packets p outcome (inr x) c e end =
    accepted_before p.kind window sent packets p outcome x.1 c refl e end

pub may_join : (h : History) (p : Content) (n : ℕ) → IsContent p → IsJoinedAt h p n
    → MaySkip h.present.packets n
may_join h p n c x =
    let front = x.fresh.front in
    let first = x.first in
    let missing = x.missing in
    may_skip_to h n (omega arith)
    (λ e is. let before = outcome_before h.present.name x.window (last_sent h) h.present.packets p
    x.outcome x.accepted c e is in omega arith)
    (λ last m past below. none_held h.present.packets (last_sent h) m x.fresh.held (omega arith))

-- ---- where a gap has stood

-- a gap by its parts
pub gap_parts : (name : List ℕ) (window sent : ℕ) (packets : List Input) (r : Request)
    → gap_of name window sent packets ≡ Some r → (r.number ≡ front_of packets + 1)
    × (r.count ≡ missing_count window sent packets) × (1 ≤ missing_count window sent packets)
gap_parts name window sent packets r e =
    elim (cases_Bool (missing_count window sent packets == 0)) [
      | inl none ↦ let is = rw none at e in absurd (cc)
      | inr some ↦
          let is = rw some at e in
          let count = gap_some name window sent packets r (sym e) in
          let number : r.number ≡ front_of packets + 1 =
          ap (λ (o : Option Request). option_map_or (λ (q : Request). q.number) o 0) (sym is) in (
            number,
            count,
            grind (arith, nat_tests),
          )
    ]

-- what is missing in a row is known to exist
missing_known : (window sent : ℕ) (packets : List Input)
    → 1 ≤ missing_count window sent packets
    → front_of packets + missing_count window sent packets ≤ known_of packets
missing_known window sent packets some =
    let front = front_of packets in
    let count = min (known_of packets) (sent + window) - front in
    let most = prefix_len-le-length (λ (k : ℕ). is_none (carried packets k))
    (range_with_len (front + 1) count) in
    let len = length-range_with_len (front + 1) count in
    omega arith

-- what is known of goes to before an announced end
known_before : (packets : List Input) (e : ℕ) → end_of packets ≡ Some e → known_of packets ≡ e - 1
known_before packets e is = rw is refl

module _ (window span time : ℕ) (h : History) (standing : Option StandingGap) (n : ℕ)
    (x : IsOverdue window span time h standing n) where
  abbrev inputs : List Input
  inputs = h.present.packets

  parts : (x.gap.number ≡ front_of inputs + 1) × (x.gap.count ≡ missing_count window (last_sent h)
      inputs) × (1 ≤ missing_count window (last_sent h) inputs)
  parts = gap_parts h.present.name window (last_sent h) inputs x.gap x.lacks

  known : front_of inputs + missing_count window (last_sent h) inputs ≤ known_of inputs
  known = missing_known window (last_sent h) inputs parts.2

  most_known : n ≤ known_of inputs + 1
  most_known = elim (cases_Bool (held_at_last h == 0)) [
    | inl none ↦ let first = rw none at x.first in omega arith
    | inr some ↦
        let first = rw some at x.first in
        omega (arith, first, parts.0, parts.1, known)
  ]

  pub most_number : n < 2 ^ 64
  most_number = let first = x.first in omega arith

  overdue_ends : (e : ℕ) → end_of inputs ≡ Some e → n ≤ e
  overdue_ends e is =
      let before = known_before inputs e is in
      let missing = x.missing in
      omega (arith, before, missing, most_known, known, parts.0, parts.2)

  none_yet : last_sent h ≡ front_of inputs → (m : ℕ) → front_of inputs < m → m < n
      → carried inputs m ≡ None
  none_yet last m past below = elim (cases_Bool (held_at_last h == 0)) [
    | inl none ↦
        let held : held_at_last h ≡ 0 = grind (arith, nat_tests) in
        none_held inputs (last_sent h) m held (omega arith)
    | inr some ↦
        let first = rw some at x.first in
        none_in_row window (last_sent h) inputs m past
        (omega (arith, first, parts.0, parts.1, below))
  ]

  pub may_give_up : MaySkip inputs n
  may_give_up =
      let missing = x.missing in
      may_skip_to h n (omega (arith, missing, parts.0)) overdue_ends none_yet

-- ---- so it is made

-- the answer of a skip that may be made
pub skip_answer : (h : History) (n : ℕ) (answer : Result (Unit {0}) SkipFault)
    → MaySkip h.present.packets n → IsSkip h.present.packets (last_sent h) n answer
    → answer ≡ Ok tt
skip_answer h n answer may is =
    one_skip h.present.packets (last_sent h) n answer (Ok tt) is (last_all h, may)

-- what is given up before a packet may be, and is below 2^64
pub may_skip_before : (rule : SkipRule) (window : ℕ) (h : History) (p : Content) (n : ℕ)
    → IsContent p → SkipsBefore rule window h p n → MaySkip h.present.packets n × (n < 2 ^ 64)
may_skip_before Never window h p n c x = absurd x
may_skip_before Join window h p n c x =
    let first = x.first in let small = c.small in (may_join h p n c x, omega arith)
may_skip_before Gaps window h p n c (inl x) =
    let first = x.first in let small = c.small in (may_join h p n c x, omega arith)
may_skip_before Gaps window h p n c (inr x) =
    let most = first_by_own window h p n c x in
    let small = c.small in (may_pass window h p n c x, omega arith)
may_skip_before (After ms) window h p n c x =
    let first = x.first in let small = c.small in (may_join h p n c x, omega arith)
