-- What was taken is below the announced end, whatever came: a law of the answers alone.
use Rattle.std.proofs.Common.{◌≡◌, ℕ, ◌+◌, ◌<◌, ◌≤◌, Bool, true, false, List, [], ◌∷◌, ◌++◌, length, Option, Some, None, Result, Ok, Err, refl, sym, ap, subst, ◌∙◌, arith, inl, inr, append_assoc, append-nil, length-append}
use Rattle.std.specs.Prelude.{IsSome, nat_lt, ◌⊎◌, if◌then◌else◌}
use Rattle.std.specs.Option.{option_or}
use Rattle.std.proofs.lemmas.Bool.{cases_lt, false≢true, ltb-true}
use Rattle.feed_types.specs.declared.item.Item.{Item}
use Rattle.feed_types.specs.declared.item.Item.TheVariants as items
use Rattle.feed_types.specs.declared.line.LineId.{LineId}
use Rattle.mold_packet.specs.declared.packet.Kind.{Kind}
use Rattle.mold_packet.specs.declared.packet.Kind.TheVariants as kinds
use Rattle.mold_packet.specs.Content.{Content, IsContent, last_number}
use Rattle.line_arbiter.specs.declared.outcome.Outcome.{Outcome}
use Rattle.line_arbiter.specs.declared.outcome.Outcome.TheVariants.{Taken, Heartbeat, Ended, Ahead}
use Rattle.line_arbiter.specs.declared.outcome.LineFault.{LineFault}
use Rattle.line_arbiter.specs.declared.outcome.LineFault.TheVariants.{OtherSession}
use Rattle.feed_types.specs.Prefix.{IsPrefix}
use Rattle.line_arbiter.specs.Packets.{Arrival, Input, Arrived, Skip, arrival_of, carried, end_of, has_number, is_taken, is_ended, item_at}
use Rattle.line_arbiter.specs.Streams.{closed_of, end_at, front_of, part_of, place_of, stream_of, IsComplete}
use Rattle.line_arbiter.specs.Outcomes.{IsOutcome, ToKind, IsBefore}
use Rattle.line_arbiter.specs.Answered.{IsAnswered, AreAnswered, AreAnsweredAfter}
use Rattle.line_arbiter.specs.Renewals.{HasEnded}
use Rattle.line_arbiter.specs.Skips.{MaySkip}
use Rattle.line_arbiter.specs.laws.Bringing.{carried_same, carried_more, carried_skip, end_same, end_of-push, end_of_skip, number_in}
use Rattle.line_arbiter.specs.laws.Fronts.{front_is, opens_most}
use Rattle.line_arbiter.specs.laws.Lengths.{length-stream, end_most, end_one}
use Rattle.line_arbiter.specs.laws.StreamGrowth.{EndsPast, stream_grows, stream_skips}

pub record IsBelow (packets : List Input) : Type 0 where
  pub least : (e : ℕ) → end_of packets ≡ Some e → 1 ≤ e
  pub above : (e m : ℕ) → end_of packets ≡ Some e → IsSome (carried packets m) → m < e

pub below_none : IsBelow []
below_none = record { least = λ e h. absurd cc; above = λ e m h s. absurd cc }

same : (packets : List Input) (a : Arrival) → is_taken a.answer ≡ false
    → is_ended a.answer ≡ false → IsBelow packets → IsBelow (packets ++ Arrived a ∷ [])
same packets a t f b = record {
  least = λ e h. b.least e (sym (end_same packets a f) ∙ h);
  above =
      λ e m h s. b.above e m (sym (end_same packets a f) ∙ h)
      (subst (λ (o : Option Item). IsSome o) (carried_same packets a m t) s);
}

some_or : (o : Option Item) (b : Bool) (x : Item)
    → IsSome (option_or o (if b then Some x else None)) → IsSome o ⊎ (b ≡ true)
some_or (Some y) b x h = inl refl
some_or None true x h = inr refl
some_or None false x h = absurd (false≢true h)

taken : (packets : List Input) (a : Arrival) → is_taken a.answer ≡ true
    → is_ended a.answer ≡ false → IsBefore (end_of packets) (last_number a.packet) → IsBelow packets
    → IsBelow (packets ++ Arrived a ∷ [])
taken packets a t f before b = record {
  least = λ e h. b.least e (sym (end_same packets a f) ∙ h);
  above = λ e m h s.
      let at : end_of packets ≡ Some e = sym (end_same packets a f) ∙ h in
      elim (some_or (carried packets m) (has_number a.packet m) (item_at a.packet m)
      (subst (λ (o : Option Item). IsSome o) (carried_more packets a m t) s)) [
        | inl old ↦ b.above e m at old
        | inr now ↦ let within = number_in a.packet m now in let l = before e at in omega arith
      ];
}

ended : (packets : List Input) (a : Arrival) (n : ℕ) → is_taken a.answer ≡ false
    → end_of (packets ++ Arrived a ∷ []) ≡ Some n → 1 ≤ n
    → ((m : ℕ) → IsSome (carried packets m) → m < n)
    → IsBelow (packets ++ Arrived a ∷ [])
ended packets a n t is least above = record {
  least = λ e h. let same : n ≡ e = one (sym is ∙ h) in omega arith;
  above =
      λ e m h s.
      let same : n ≡ e = one (sym is ∙ h) in
      let k = above m (subst (λ (o : Option Item). IsSome o) (carried_same packets a m t) s) in
      omega arith;
}
  where
    one : {x y : ℕ} → Some x ≡ Some y → x ≡ y
    one h = cc

module _ (window sent : ℕ) (packets : List Input) (line : LineId) (p : Content)
    (content : IsContent p) (b : IsBelow packets) where
  Goal : Result Outcome LineFault → Type 0
  Goal answer = IsBelow (packets ++ arrival_of line p answer ∷ [])

  by_kind : (kind : Kind) (answer : Result Outcome LineFault)
      → ToKind kind window sent packets p answer
      → IsBelow (packets ++ arrival_of line p answer ∷ [])
  by_kind kinds.Messages (Ok (Taken new repeated)) h = taken packets _ refl refl h.0 b
  by_kind kinds.Messages (Ok Ended) h = absurd h
  by_kind kinds.Messages (Ok Heartbeat) h = absurd h
  by_kind kinds.Messages (Ok Ahead) h = same packets _ refl refl b
  by_kind kinds.Messages (Err fault) h = same packets _ refl refl b
  by_kind kinds.Heartbeat (Ok (Taken new repeated)) h = absurd h
  by_kind kinds.Heartbeat (Ok Ended) h = absurd h
  by_kind kinds.Heartbeat (Ok Heartbeat) h = same packets _ refl refl b
  by_kind kinds.Heartbeat (Ok Ahead) h = absurd h
  by_kind kinds.Heartbeat (Err fault) h = same packets _ refl refl b
  by_kind kinds.End (Ok (Taken new repeated)) h = absurd h
  by_kind kinds.End (Ok Heartbeat) h = absurd h
  by_kind kinds.End (Ok Ahead) h = absurd h
  by_kind kinds.End (Err fault) h = same packets _ refl refl b
  by_kind kinds.End (Ok Ended) h = elim h [
    | inl again ↦ ended packets _ p.number refl
        (end_of-push packets _ ∙ ap (λ (o : Option ℕ). option_or o (Some p.number)) again)
        content.from_one (λ m s. b.above p.number m again s)
    | inr once ↦ ended packets _ p.number refl
        (end_of-push packets _ ∙ ap (λ (o : Option ℕ). option_or o (Some p.number)) once.0)
        content.from_one once.1
  ]

  pub below_grows : (session : List ℕ) (answer : Result Outcome LineFault)
      → IsOutcome session window sent packets p answer
      → IsBelow (packets ++ arrival_of line p answer ∷ [])
  below_grows session answer h = elim h [
    | inl other ↦ subst
        (λ (r : Result Outcome LineFault). IsBelow (packets ++ arrival_of line p r ∷ []))
        (sym other.1) (same packets (record {
          line =
              line;
          packet = p;
          answer = Err OtherSession;
        }) refl refl b)
    | inr mine ↦ by_kind p.kind answer mine.1
  ]

pub below_skip : (packets : List Input) (n : ℕ) → IsBelow packets → MaySkip packets n
    → IsBelow (packets ++ Skip n ∷ [])
below_skip packets n b may = record {
  least = λ e h. b.least e (sym (end_of_skip packets n) ∙ h);
  above = λ e m h s.
      let at : end_of packets ≡ Some e = sym (end_of_skip packets n) ∙ h in
      elim (some_or (carried packets m) (nat_lt m n) items.Skipped
      (subst (λ (o : Option Item). IsSome o) (carried_skip packets n m) s)) [
        | inl old ↦ b.above e m at old
        | inr now ↦ let lt = ltb-true m n now in let l = may.not_ended e at in omega arith
      ];
}

pub below_past : (packets : List Input) → IsBelow packets → EndsPast packets
below_past packets b e is = elim (cases_lt 0 (front_of packets)) [
  | inl some ↦ b.above e (front_of packets) is
      ((front_is packets).all (front_of packets) (omega arith) (omega arith))
  | inr none ↦ let least = b.least e is in omega arith
]

-- one more packet that was answered as it should be, or a skip that may be made
pub answered_more : (session : List ℕ) (window : ℕ) (packets : List Input) (x : Input)
    → AreAnswered session window packets → IsAnswered session window packets x
    → AreAnswered session window (packets ++ x ∷ [])
answered_more session window packets x all one = after [] packets all one
  where
    after : (before rest : List Input) → AreAnsweredAfter session window before rest
        → IsAnswered session window (before ++ rest) x
        → AreAnsweredAfter session window before (rest ++ x ∷ [])
    after before [] all one =
        (subst (λ (xs : List Input). IsAnswered session window xs x) (append-nil before) one, tt)
    after before (y ∷ rest) all one = (
      all.0,
      after (before ++ y ∷ []) rest all.1
          (subst (λ (xs : List Input). IsAnswered session window xs x)
          (sym (append_assoc before (y ∷ []) rest)) one),
    )

below_input : (session : List ℕ) (window : ℕ) (packets : List Input) (x : Input) → IsBelow packets
    → IsAnswered session window packets x → IsBelow (packets ++ x ∷ [])
below_input session window packets (Arrived a) below one =
    below_grows window one.sent packets a.line a.packet one.content below session a.answer
    one.outcome
below_input session window packets (Skip n) below one = below_skip packets n below one

-- what was taken of packets that were answered as they should be lies below the announced end
pub below_of : (session : List ℕ) (window : ℕ) (packets : List Input)
    → AreAnswered session window packets → IsBelow packets
below_of session window packets all = after [] packets below_none all
  where
    after : (before rest : List Input) → IsBelow before
        → AreAnsweredAfter session window before rest → IsBelow (before ++ rest)
    after before [] below all =
        subst (λ (xs : List Input). IsBelow xs) (sym (append-nil before)) below
    after before (x ∷ rest) below all =
        subst (λ (xs : List Input). IsBelow xs) (append_assoc before (x ∷ []) rest)
        (after (before ++ x ∷ []) rest (below_input session window before x below all.0) all.1)

pub answered_grows : (session : List ℕ) (window : ℕ) (packets : List Input) (x : Input)
    → AreAnswered session window packets → IsAnswered session window packets x
    → IsPrefix (stream_of packets) (stream_of (packets ++ x ∷ []))
answered_grows session window packets (Skip n) all one = stream_skips packets n
answered_grows session window packets (Arrived a) all one =
    stream_grows packets a
    (below_past (packets ++ Arrived a ∷ [])
    (below_of session window (packets ++ Arrived a ∷ [])
    (answered_more session window packets (Arrived a) all one)))

-- where the last item sent is End, the session is over and all of its stream was sent
pub all_sent : (session : List ℕ) (window sent : ℕ) (packets : List Input)
    → AreAnswered session window packets → place_of packets sent ≤ length (stream_of packets)
    → HasEnded (end_of packets) sent
    → IsComplete packets × (place_of packets sent ≡ length (stream_of packets))
all_sent session window sent packets all within ended =
    let past = below_past packets (below_of session window packets all) sent ended in
    let whole = length-append (closed_of packets) (part_of packets) in
    let len = length-stream packets (front_of packets) in
    let opens = opens_most packets (front_of packets) (front_is packets) in
    let most = end_most (end_of packets) (front_of packets + 1) in
    let last : sent ≡ front_of packets + 1 = omega arith in
    let at : end_of packets ≡ Some (front_of packets + 1) = ended ∙ ap (λ (n : ℕ). Some n) last in
    let one : length (end_at (end_of packets) (front_of packets + 1)) ≡ 1 =
    end_one (end_of packets) (front_of packets + 1) at in
    (at, omega arith)
