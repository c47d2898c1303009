-- A session that may be joined: what the cursors of a cell show of it, that the skip is made, and
-- that the packet isn't answered as an end that is too early.
use Rattle.std.proofs.Common.{◌≡◌, inl, inr, ℕ, zero, suc, ◌+◌, ◌-◌, ◌<◌, ◌≤◌, Bool, true, false, Option, List, [], ◌∷◌, ◌++◌, length, Some, None, IfSome, Result, Ok, Err, refl, sym, ap, subst, ◌∙◌, arith}
use Rattle.std.specs.Prelude.{nat_lt, if◌then◌else◌}
use Rattle.std.specs.Option.{option_or}
use Rattle.std.proofs.lemmas.Bool.{cases_eq}
use Rattle.std.proofs.lemmas.Bool.Decides.{nat_tests}
use Rattle.feed_types.specs.declared.item.Item.{Item}
use Rattle.feed_types.specs.declared.item.Item.TheVariants as items
use Rattle.mold_packet.specs.declared.packet.Kind.{Kind}
use Rattle.mold_packet.specs.declared.packet.Kind.TheVariants as kinds
use Rattle.mold_packet.specs.Content.{Content, last_number}
use Rattle.line_arbiter.specs.declared.arbiter.ArbiterStatus.{ArbiterStatus}
use Rattle.feed_types.specs.declared.genuine.Genuine.{Ghosts as Genuine}
use Rattle.feed_types.specs.declared.line.LineId.{LineId}
use Rattle.feed_steps.specs.Lanes.{FeedLanes}
use Rattle.line_arbiter.specs.declared.outcome.Outcome.{Outcome}
use Rattle.line_arbiter.specs.declared.outcome.LineFault.{LineFault}
use Rattle.line_arbiter.specs.declared.outcome.LineFault.TheVariants.{EndTooEarly, OtherSession}
use Rattle.line_arbiter.specs.declared.faults.SkipFault.{SkipFault}
use Rattle.line_arbiter.specs.Outcomes.{IsOutcome, ToKind}
use Rattle.line_arbiter.specs.Packets.{Input, Skip, carried, end_of}
use Rattle.line_arbiter.specs.Streams.{end_at, front_of}
use Rattle.line_arbiter.specs.Fits.{Fits, cursors_of}
use Rattle.line_arbiter.specs.Histories.{History}
use Rattle.line_arbiter.specs.Skips.{AllSent, IsSkip, MaySkip}
use Rattle.line_arbiter.specs.States.{State}
use Rattle.line_arbiter.specs.laws.Bringing.{carried_skip}
use Rattle.line_arbiter.specs.laws.Fronts.{front_is, not_none, opens_most}
use Rattle.line_arbiter.specs.laws.Held.{no_end, none_held}
use Rattle.line_arbiter.specs.laws.Lengths.{length-stream}
use Rattle.line_arbiter.specs.laws.SkipAnswers.{one_skip}
use Rattle.venue_lines.specs.Cells.{CellState, CellFitsHistory, IsPossibleCall}
use Rattle.venue_lines.specs.Joins.{BeginsPast, IsAnsweredJoining, IsAnsweredNext, JoinsIf, RenewsAndTakes, StaysWithin}
use Rattle.venue_lines.specs.NextSessions.{AreOfFeed, NextNames}
use Rattle.venue_lines.specs.Seats.{SeatState}
use Rattle.venue_lines.specs.Sections.{HasSkippedPast, TakesPacket}

-- ---- the cursors

module _ (h : History) (sent : ℕ) (p : Content) (s : ArbiterStatus) (kind : Kind)
    (number last : ℕ) (shown : s ≡ cursors_of sent h.present.packets) (kinds : kind ≡ p.kind)
    (first : number ≡ p.number) (lasts : last ≡ last_number p) where
  -- it is joined at this packet
  pub begins : s.front ≡ 0 → s.held ≡ 0 → p.session ≡ h.present.name → 1 < number
      → StaysWithin s.end kind number last → BeginsPast h sent p
  begins front held session missing within = record {
    front = sym (ap (λ (x : ArbiterStatus). x.front) shown) ∙ front;
    held = sym (ap (λ (x : ArbiterStatus). x.held) shown) ∙ held;
    session = session;
    missing = subst (λ (n : ℕ). 1 < n) first missing;
    within = subst (λ (x : ArbiterStatus × Kind × ℕ × ℕ). StaysWithin x.0.end x.1 x.2 x.3)
        (λ i. (shown i, kinds i, first i, lasts i)) within;
  }

  -- what is so where it is
  pub joined_front : BeginsPast h sent p → s.front ≡ 0
  joined_front b = ap (λ (x : ArbiterStatus). x.front) shown ∙ b.front

  pub joined_held : BeginsPast h sent p → s.held ≡ 0
  joined_held b = ap (λ (x : ArbiterStatus). x.held) shown ∙ b.held

  pub joined_missing : BeginsPast h sent p → 1 < number
  joined_missing b = subst (λ (n : ℕ). 1 < n) (sym first) b.missing

  pub joined_within : BeginsPast h sent p → StaysWithin s.end kind number last
  joined_within b = subst (λ (x : ArbiterStatus × Kind × ℕ × ℕ). StaysWithin x.0.end x.1 x.2 x.3)
      (λ i. (sym shown i, sym kinds i, sym first i, sym lasts i)) b.within

-- ---- the skip

-- what stays within an end ends after its number's message
within_end : (end : Option ℕ) (kind : Kind) (number last : ℕ) → number ≤ last + 1
    → StaysWithin end kind number last → (e : ℕ) → end ≡ Some e → number ≤ e
within_end None kind number last most x e is = absurd cc
within_end (Some end) kinds.Messages number last most x e is =
    let same : end ≡ e = cc in omega (arith, same, x, most)
within_end (Some end) kinds.Heartbeat number last most x e is =
    let same : end ≡ e = cc in omega (arith, same, x)
within_end (Some end) kinds.End number last most x e is =
    let same : end ≡ e = cc in omega (arith, same, x)

module _ (s : State) (h : History) (p : Content) (fits : Fits s h.present.packets)
    (b : BeginsPast h s.sent p) where
  abbrev came : List Input
  came = h.present.packets

  before_end : (e : ℕ) → end_of came ≡ Some e → p.number ≤ e
  before_end = within_end (end_of came) p.kind p.number (last_number p) (omega arith) b.within

  none_ready : length (end_at (end_of came) (front_of came + 1)) ≡ 0
  none_ready = no_end (end_of came) (front_of came + 1) (λ e is.
      let below = before_end e is in let past = b.missing in let front = b.front in omega arith)

  last_is : (AllSent came s.sent) × (s.sent ≡ 0)
  last_is =
      let part = length-stream came (front_of came) in
      let most = opens_most came (front_of came) (front_is came) in
      let none = none_ready in
      let opened = fits.opened in
      let sent = fits.sent in
      let front = b.front in (omega arith, omega arith)

  -- no message has come
  pub none_came : (m : ℕ) → 0 < m → carried came m ≡ None
  none_came m some =
      let last = last_is.1 in none_held came s.sent m b.held (omega arith)

  may_join : MaySkip came p.number
  may_join = record {
    past = let front = b.front in let past = b.missing in omega arith;
    not_ended = before_end;
    missing = λ m past below. none_came m (omega arith);
  }

  -- so the skip isn't refused
  pub is_made : (answer : Result (Unit {0}) SkipFault) → IsSkip came s.sent p.number answer
      → answer ≡ Ok tt
  is_made answer right =
      one_skip came s.sent p.number answer (Ok tt) right (last_is.0, may_join)

-- ---- the packet

none_after : (packets : List Input) (n m : ℕ) → carried packets m ≡ None → n ≤ m
    → carried (packets ++ Skip n ∷ []) m ≡ None
none_after packets n m none late =
    let below : nat_lt m n ≡ false = grind (arith, nat_tests) in
    carried_skip packets n m
    ∙ ap (λ (o : Option Item). option_or o (if nat_lt m n then Some items.Skipped else None)) none
    ∙ ap (λ (b : Bool). option_or None (if b then Some items.Skipped else None)) below

early_kind : (kind : Kind) (window sent : ℕ) (packets : List Input) (p : Content)
    → ((m : ℕ) → p.number ≤ m → carried packets m ≡ None)
    → ToKind kind window sent packets p (Err EndTooEarly) → ⊥
early_kind kinds.Messages window sent packets p none x = x
early_kind kinds.Heartbeat window sent packets p none x = x
early_kind kinds.End window sent packets p none x =
    not_none (carried packets x.1) x.3 (none x.1 x.2)

-- a packet at which nothing has come from its number on is no end that is too early
never_early : (session : List ℕ) (window sent : ℕ) (packets : List Input) (p : Content)
    → ((m : ℕ) → p.number ≤ m → carried packets m ≡ None)
    → IsOutcome session window sent packets p (Err EndTooEarly) → ⊥
never_early session window sent packets p none (inl x) = let wrong = x.1 in absurd (cc)
never_early session window sent packets p none (inr x) =
    early_kind p.kind window sent packets p none x.1

-- An end that is too early after the session may have been joined at it was so before.
pub early_joining : {S : Type 0} (premise : Genuine S) (join joined : Bool) (line : LineId)
    (p : Content) (answer : Result Outcome LineFault) (old first new : CellState)
    → JoinsIf join p joined old first
    → ((h : History) → CellFitsHistory first h → TakesPacket line p answer h first new)
    → HasSkippedPast premise first p answer → HasSkippedPast premise old p answer
early_joining premise false joined line p answer old first new j takes early =
    subst (λ (c : CellState). HasSkippedPast premise c p answer) j.1 early
early_joining premise true false line p answer old first new j takes early =
    λ is all ordinal session h bring at of fits.
    subst (λ (c : CellState). HasSkippedPast premise c p answer) (j h fits).1 early is all ordinal
    session h bring at of fits
early_joining premise true true line p answer old first new j takes early =
    λ is all ordinal session h bring at of fits.
    let x = j h fits in
    let skip = x.1 in
    let right = (takes skip.after skip.fits).taken.right in
    let begun : (m : ℕ) → 0 < m → carried h.present.packets m ≡ None =
    none_came old.arbiter h p fits.history.present x.0 in
    let past = x.0.missing in
    let packets = h.present.packets ++ Skip p.number ∷ [] in
    absurd (never_early h.present.name first.arbiter.window first.arbiter.sent packets p
    (λ m late. none_after h.present.packets p.number m (begun m (omega arith)) late)
    (subst (λ (a : Result Outcome LineFault). IsOutcome h.present.name first.arbiter.window
    first.arbiter.sent packets p a) is
    (subst (λ (k : History). IsOutcome k.present.name first.arbiter.window first.arbiter.sent
    k.present.packets p answer) skip.skipped.is right)))

-- ---- the section

-- whether the next session began, and it was joined, is left open
pub some_joining : {S : Type 0} (premise : Genuine S) (lanes : FeedLanes)
    (next : Option NextNames) (join renewed joined : Bool) (seat : SeatState) (p : Content)
    (answer : Result Outcome LineFault)
    → IsPossibleCall premise lanes seat.venue
    (RenewsAndTakes next join seat.line p renewed joined answer)
    ((answer ≡ Err OtherSession) × (renewed ≡ false) × (joined ≡ false))
    → IsAnsweredNext premise lanes next join seat p answer
some_joining premise lanes next join renewed joined seat p answer (inl x) = inl (record {
  old = x.old;
  kept = x.kept;
  venue_is = x.venue_is;
  new = x.new;
  keeps = x.keeps;
  leads = (renewed, joined, x.leads);
})
some_joining premise lanes next join renewed joined seat p answer (inr x) = inr (x.0, x.1.0)

-- which sessions are named to follow, too
pub some_next : {S : Type 0} (premise : Genuine S) (lanes : FeedLanes) (next : Option NextNames)
    (join : Bool) (seat : SeatState) (p : Content) (answer : Result Outcome LineFault)
    → IfSome next (AreOfFeed lanes) → IsAnsweredNext premise lanes next join seat p answer
    → IsAnsweredJoining premise lanes join seat p answer
some_next premise lanes next join seat p answer named (inl x) = inl (record {
  old = x.old;
  kept = x.kept;
  venue_is = x.venue_is;
  new = x.new;
  keeps = x.keeps;
  leads = (next, named, x.leads.0, x.leads.1, x.leads.2);
})
some_next premise lanes next join seat p answer named (inr x) = inr x
