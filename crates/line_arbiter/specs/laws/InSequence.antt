-- The streams of genuine packets obey the rule of a venue's items, part by part.
use Rattle.std.proofs.Common.{◌≡◌, ℕ, zero, suc, ◌+◌, ◌-◌, ◌<◌, ◌≤◌, Bool, true, false, List, [], ◌∷◌, ◌++◌, append_assoc, append-nil, map, Option, Some, None, refl, sym, ap, subst, ◌∙◌, arith, inl, inr}
use Rattle.std.specs.Prelude.{◌⊎◌, IsSome, nat_lt, ◌==◌, if◌then◌else◌}
use Rattle.std.specs.List.{AllByRecursion, range_with_len}
use Rattle.std.specs.Option.{unwrap_or}
use Rattle.std.proofs.lemmas.Bool.{cases_lt, eq-eqb, eqb-true, le-ltb, lt-ltb, ne_eqb}
use Rattle.feed_types.specs.declared.item.Item.{Item}
use Rattle.feed_types.specs.declared.item.Item.TheVariants as items
use Rattle.feed_types.specs.declared.item.Numbered.{Numbered}
use Rattle.feed_types.specs.Sequence.{Place, place_past, place_after, place_after_all, HasPlace, MayCarry, Continues, IsInSequence}
use Rattle.line_arbiter.specs.Packets.{Input, Arrived, Skip, carried, end_of, first_of}
use Rattle.line_arbiter.specs.Streams.{closed_after, closed_of, front_of, item_in, item_numbered, end_at, opens_of, part_of, stream_of, IsComplete}
use Rattle.line_arbiter.specs.Skips.{AreSkips, MaySkip, SkipsFrom}
use Rattle.line_arbiter.specs.Histories.{Begun, History, all_begun, items_of, streams_of}
use Rattle.line_arbiter.specs.Genuine.{AreGenuine, AreGenuineFrom, IsGenuineInput}
use Rattle.line_arbiter.specs.SessionOrder.{AreInSequenceFrom}
use Rattle.feed_types.specs.SequenceLaws.{continues_append}
use Rattle.line_arbiter.specs.laws.Bringing.{first_of-push, opens_same}
use Rattle.line_arbiter.specs.laws.Fronts.{first_most, front_is, opens_most}
use Rattle.line_arbiter.specs.laws.Genuine.{some_is, allowed_item, carried_may, carried_never_end, end_may}

abbrev place_at : ℕ → ℕ → Place
place_at ordinal n = record { ordinal = ordinal; number = n }

place_past_message : (ordinal n : ℕ) (item : Item) → (item ≡ items.End → ⊥)
    → place_past ordinal n item ≡ place_at ordinal (n + 1)
place_past_message ordinal n items.End never = absurd (never refl)
place_past_message ordinal n items.Other never = refl
place_past_message ordinal n items.Skipped never = refl
place_past_message ordinal n (items.Quote quote) never = refl
place_past_message ordinal n (items.Halt symbol halted) never = refl

is_end : (item : Item) → (item ≡ items.End) ⊎ (item ≡ items.End → ⊥)
is_end items.End = inl refl
is_end items.Other = inr (λ e. absurd cc)
is_end items.Skipped = inr (λ e. absurd cc)
is_end (items.Quote quote) = inr (λ e. absurd cc)
is_end (items.Halt symbol halted) = inr (λ e. absurd cc)

own_place : (n : ℕ) (item : Item) → HasPlace n n item
own_place n items.End = refl
own_place n items.Other = refl
own_place n items.Skipped = omega arith
own_place n (items.Quote quote) = refl
own_place n (items.Halt symbol halted) = refl

place_after_append : (place : Place) (xs ys : List Numbered)
    → place_after_all place (xs ++ ys) ≡ place_after_all (place_after_all place xs) ys
place_after_append place [] ys = refl
place_after_append place (x ∷ xs) ys = place_after_append (place_after place x) xs ys

place_through : (from mid to : Place) (xs ys : List Numbered) → place_after_all from xs ≡ mid
    → place_after_all mid ys ≡ to → place_after_all from (xs ++ ys) ≡ to
place_through from mid to xs ys e f =
    place_after_append from xs ys ∙ ap (λ (place : Place). place_after_all place ys) e ∙ f

-- no item leads back to an earlier session
not_back : (ordinal n : ℕ) (item : Item) → ordinal ≤ (place_past ordinal n item).ordinal
not_back ordinal n items.End = omega arith
not_back ordinal n items.Other = omega arith
not_back ordinal n items.Skipped = omega arith
not_back ordinal n (items.Quote quote) = omega arith
not_back ordinal n (items.Halt symbol halted) = omega arith

never_back : (place : Place) (xs : List Numbered)
    → place.ordinal ≤ (place_after_all place xs).ordinal
never_back place [] = omega arith
never_back place (x ∷ xs) =
    let one : place.ordinal ≤ (place_after place x).ordinal =
    not_back place.ordinal x.number x.item in
    let rest = never_back (place_after place x) xs in
    omega arith

-- where the end follows, it is the last item
end_last : (end : Option ℕ) (m : ℕ) → AreInSequenceFrom m (end_at end m)
end_last None m = tt
end_last (Some e) m = by_test (e == m)
  where
    by_test : (b : Bool)
        → AreInSequenceFrom m (if b then record { number = m; item = items.End } ∷ [] else [])
    by_test true = (refl, λ end. refl, tt)
    by_test false = tt

all_front : {X : Type 0} (Q : X → Type 0) (xs ys : List X) → AllByRecursion Q (xs ++ ys)
    → AllByRecursion Q xs
all_front Q [] ys all = tt
all_front Q (x ∷ xs) ys all = (all.0, all_front Q xs ys all.1)

-- where the next number may be when a part begins: at the number at which it opens, or, where it
-- opens with Skipped, before it
record CanOpen (packets : List Input) (k : ℕ) : Type 0 where
  low : k ≤ opens_of packets
  exact : first_of packets ≤ 1 → k ≡ opens_of packets

module _ (carries : ℕ → ℕ → ℕ → Item → Type 0) (ends : ℕ → ℕ → ℕ → Type 0) (venue : ℕ) where
  module _ (ordinal : ℕ) (packets : List Input)
      (genuine : AreGenuine carries ends venue ordinal packets) where
    never_taken_end : (m : ℕ) → IsSome (carried packets m)
        → unwrap_or (carried packets m) items.Other ≡ items.End → ⊥
    never_taken_end m h =
        carried_never_end packets m (unwrap_or (carried packets m) items.Other)
        (some_is (carried packets m) h)

    never_end : (m : ℕ) → IsSome (carried packets m) → item_in packets m ≡ items.End → ⊥
    never_end m h e = elim (cases_lt m (first_of packets)) [
      | inl lt ↦
          let is : items.Skipped ≡ items.End =
          sym (ap (λ (b : Bool). if b then items.Skipped else
          unwrap_or (carried packets m) items.Other) (lt-ltb m (first_of packets) lt)) ∙ e in
          absurd cc
      | inr le ↦ never_taken_end m h
          (sym (ap (λ (b : Bool). if b then items.Skipped else
          unwrap_or (carried packets m) items.Other) (le-ltb m (first_of packets) le)) ∙ e)
    ]

    -- what stands at a number may be carried there, and the next number follows
    allowed : (m : ℕ) → IsSome (carried packets m)
        → MayCarry carries ends venue (place_at ordinal m) (item_in packets m)
    allowed m h = elim (cases_lt m (first_of packets)) [
      | inl lt ↦ subst (λ (b : Bool). MayCarry carries ends venue (place_at ordinal m)
          (if b then items.Skipped else unwrap_or (carried packets m) items.Other))
          (sym (lt-ltb m (first_of packets) lt)) tt
      | inr le ↦ subst (λ (b : Bool). MayCarry carries ends venue (place_at ordinal m)
          (if b then items.Skipped else unwrap_or (carried packets m) items.Other))
          (sym (le-ltb m (first_of packets) le))
          (allowed_item carries ends venue ordinal m (unwrap_or (carried packets m) items.Other)
          (λ message. carried_may carries ends venue ordinal packets m
          (unwrap_or (carried packets m) items.Other) genuine
          (some_is (carried packets m) h) message)
          (never_taken_end m h))
    ]

    next_place : (m : ℕ) → IsSome (carried packets m)
        → place_past ordinal m (item_in packets m) ≡ place_at ordinal (m + 1)
    next_place m h = place_past_message ordinal m (item_in packets m) (never_end m h)

    abbrev run_of : ℕ → ℕ → List Numbered
    run_of a n = map (item_numbered packets) (range_with_len a n)

    -- items in a row, from a number on
    messages_continue : (a n : ℕ) → ((m : ℕ) → a ≤ m → m < a + n → IsSome (carried packets m))
        → Continues carries ends venue (place_at ordinal a) (run_of a n)
    messages_continue a zero h = tt
    messages_continue a (suc n) h =
        let here = h a (omega arith) (omega arith) in (
          own_place a (item_in packets a),
          allowed a here,
          subst (λ (place : Place). Continues carries ends venue place (run_of (a + 1) n))
              (sym (next_place a here))
              (messages_continue (a + 1) n (λ m low high. h m (omega arith) (omega arith))),
        )

    place_after_messages : (a n : ℕ) → ((m : ℕ) → a ≤ m → m < a + n → IsSome (carried packets m))
        → place_after_all (place_at ordinal a) (run_of a n) ≡ place_at ordinal (a + n)
    place_after_messages a zero h = ap (place_at ordinal) (omega arith)
    place_after_messages a (suc n) h =
        ap (λ (place : Place). place_after_all place (run_of (a + 1) n))
        (next_place a (h a (omega arith) (omega arith)))
        ∙ place_after_messages (a + 1) n (λ m low high. h m (omega arith) (omega arith))
        ∙ ap (place_at ordinal) (omega arith)

    in_part : (m : ℕ) → opens_of packets ≤ m
        → m < opens_of packets + (front_of packets + 1 - opens_of packets)
        → IsSome (carried packets m)
    in_part m low high =
        let most = opens_most packets (front_of packets) (front_is packets) in
        (front_is packets).all m (omega arith) (omega arith)

    abbrev messages : List Numbered
    messages = run_of (opens_of packets) (front_of packets + 1 - opens_of packets)

    -- the part's items, from where it may begin
    run_continues : (k : ℕ) → CanOpen packets k
        → Continues carries ends venue (place_at ordinal k) messages
        × (place_after_all (place_at ordinal k) messages ≡ place_at ordinal (front_of packets + 1))
    run_continues k can = elim (cases_lt 1 (first_of packets)) [
      | inl skip ↦
          let low = can.low in
          let most = first_most packets (front_of packets) (front_is packets) in
          let o = opens_of packets in
          let n = front_of packets - opens_of packets in
          let len : front_of packets + 1 - opens_of packets ≡ suc n = omega arith in
          let here : IsSome (carried packets o) = in_part o (omega arith) (omega arith) in
          let below : nat_lt o (first_of packets) ≡ true =
          lt-ltb o (first_of packets) (omega arith) in
          let first : HasPlace k o (item_in packets o) =
          subst (λ (b : Bool). HasPlace k o
          (if b then items.Skipped else unwrap_or (carried packets o) items.Other))
          (sym below) low in
          let may : MayCarry carries ends venue (place_at ordinal k) (item_in packets o) =
          subst (λ (b : Bool). MayCarry carries ends venue (place_at ordinal k)
          (if b then items.Skipped else unwrap_or (carried packets o) items.Other))
          (sym below) tt in
          let rest : (m : ℕ) → o + 1 ≤ m → m < o + 1 + n → IsSome (carried packets m) =
          λ m from to. in_part m (omega arith) (omega arith) in
          let end : o + 1 + n ≡ front_of packets + 1 = omega arith in
          subst (λ (j : ℕ). Continues carries ends venue (place_at ordinal k) (run_of o j)
          × (place_after_all (place_at ordinal k) (run_of o j)
          ≡ place_at ordinal (front_of packets + 1))) (sym len) (
            (
              first,
              may,
              subst (λ (place : Place). Continues carries ends venue place (run_of (o + 1) n))
                  (sym (next_place o here)) (messages_continue (o + 1) n rest),
            ),
            ap (λ (place : Place). place_after_all place (run_of (o + 1) n)) (next_place o here)
                ∙ place_after_messages (o + 1) n rest ∙ ap (place_at ordinal) end,
          )
      | inr none ↦
          let o = opens_of packets in
          let most = opens_most packets (front_of packets) (front_is packets) in
          let same : k ≡ o = can.exact none in
          let end : o + (front_of packets + 1 - o) ≡ front_of packets + 1 = omega arith in
          subst (λ (j : ℕ). Continues carries ends venue (place_at ordinal j) messages
          × (place_after_all (place_at ordinal j) messages
          ≡ place_at ordinal (front_of packets + 1))) (sym same) (
            messages_continue o (front_of packets + 1 - o) in_part,
            place_after_messages o (front_of packets + 1 - o) in_part ∙ ap (place_at ordinal) end,
          )
    ]

    end_continues : (end : Option ℕ) (m : ℕ) → ((e : ℕ) → end ≡ Some e → ends venue ordinal e)
        → Continues carries ends venue (place_at ordinal m) (end_at end m)
    end_continues None m may = tt
    end_continues (Some e) m may = by_test (e == m) refl
      where
        by_test : (b : Bool) → (e == m) ≡ b
            → Continues carries ends venue (place_at ordinal m)
            (if b then record { number = m; item = items.End } ∷ [] else [])
        by_test true h =
            (refl, subst (λ (x : ℕ). ends venue ordinal x) (eqb-true e m h) (may e refl), tt)
        by_test false h = tt

    part_continues : (k : ℕ) → CanOpen packets k
        → Continues carries ends venue (place_at ordinal k) (part_of packets)
    part_continues k can =
        let run = run_continues k can in
        continues_append carries ends venue (place_at ordinal k) messages
        (end_at (end_of packets) (front_of packets + 1)) run.0
        (subst (λ (place : Place). Continues carries ends venue place
        (end_at (end_of packets) (front_of packets + 1))) (sym run.1)
        (end_continues (end_of packets) (front_of packets + 1)
        (λ e is. end_may carries ends venue ordinal packets e genuine is)))

    place_after_part : (k : ℕ) → CanOpen packets k
        → place_after_all (place_at ordinal k) (part_of packets)
        ≡ place_after_all (place_at ordinal (front_of packets + 1))
        (end_at (end_of packets) (front_of packets + 1))
    place_after_part k can =
        place_after_append (place_at ordinal k) messages
        (end_at (end_of packets) (front_of packets + 1))
        ∙ ap (λ (place : Place). place_after_all place
        (end_at (end_of packets) (front_of packets + 1))) (run_continues k can).1

  -- items after which the place is in the same session are in sequence, with no End among them
  stays : (ordinal n m : ℕ) (xs ys : List Numbered)
      → Continues carries ends venue (place_at ordinal n) xs
      → place_after_all (place_at ordinal n) xs ≡ place_at ordinal m → AreInSequenceFrom m ys
      → AreInSequenceFrom n (xs ++ ys)
  stays ordinal n m [] ys all is next =
      subst (λ (k : ℕ). AreInSequenceFrom k ys) (sym (ap (λ (p : Place). p.number) is)) next
  stays ordinal n m (x ∷ xs) ys all is next = elim (is_end x.item) [
    | inl end ↦
        let here : place_after (place_at ordinal n) x ≡ place_at (ordinal + 1) 1 =
        ap (λ (item : Item). place_past ordinal x.number item) end in
        let later = never_back (place_at (ordinal + 1) 1) xs in
        let same : place_after_all (place_at (ordinal + 1) 1) xs ≡ place_at ordinal m =
        subst (λ (p : Place). place_after_all p xs ≡ place_at ordinal m) here is in
        let back : (place_after_all (place_at (ordinal + 1) 1) xs).ordinal ≡ ordinal =
        ap (λ (p : Place). p.ordinal) same in
        absurd (omega arith)
    | inr other ↦
        let here : place_after (place_at ordinal n) x ≡ place_at ordinal (x.number + 1) =
        place_past_message ordinal x.number x.item other in (
          all.0,
          λ end. absurd (other end),
          stays ordinal (x.number + 1) m xs ys
              (subst (λ (p : Place). Continues carries ends venue p xs) here all.2)
              (subst (λ (p : Place). place_after_all p xs ≡ place_at ordinal m) here is) next,
        )
  ]

  none_at : (end : Option ℕ) (m : ℕ) → ((e : ℕ) → end ≡ Some e → m < e) → end_at end m ≡ []
  none_at None m past = refl
  none_at (Some e) m past =
      let lt = past e refl in
      ap (λ (b : Bool). if b then record { number = m; item = items.End } ∷ [] else [])
      (ne_eqb e m (λ same. omega arith))

  -- what was closed goes on, and the present part may begin after it
  record GoesOn (ordinal k : ℕ) (closed : List Numbered) (packets : List Input) : Type 0 where
    next : ℕ
    goes : Continues carries ends venue (place_at ordinal k) closed
    place : place_after_all (place_at ordinal k) closed ≡ place_at ordinal next
    can : CanOpen packets next

  closed_continues : (ordinal k : ℕ) (before rest : List Input) → CanOpen before k
      → SkipsFrom before rest → AreGenuine carries ends venue ordinal (before ++ rest)
      → GoesOn ordinal k (closed_after before rest) (before ++ rest)
  closed_continues ordinal k before [] can skips genuine =
      record {
        next = k;
        goes = tt;
        place = refl;
        can = subst (λ (xs : List Input). CanOpen xs k) (sym (append-nil before)) can;
      }
  closed_continues ordinal k before (Arrived a ∷ rest) can skips genuine =
      let low = can.low in
      let same : first_of (before ++ Arrived a ∷ []) ≡ first_of before =
      first_of-push before (Arrived a) in
      let opens = opens_same before a in
      let open_ : CanOpen (before ++ Arrived a ∷ []) k = record {
        low = omega arith;
        exact = λ none. can.exact (omega arith) ∙ sym opens;
      } in
      subst (λ (xs : List Input). GoesOn ordinal k
      (closed_after (before ++ Arrived a ∷ []) rest) xs)
      (append_assoc before (Arrived a ∷ []) rest)
      (closed_continues ordinal k (before ++ Arrived a ∷ []) rest open_ skips
      (subst (λ (xs : List Input). AreGenuine carries ends venue ordinal xs)
      (sym (append_assoc before (Arrived a ∷ []) rest)) genuine))
  closed_continues ordinal k before (Skip n ∷ rest) can skips genuine =
      let may : MaySkip before n = skips.0 in
      let past = may.past in
      let most = first_most before (front_of before) (front_is before) in
      let first : first_of (before ++ Skip n ∷ []) ≡ n =
      omega (arith, first_of-push before (Skip n)) in
      let open_ : CanOpen (before ++ Skip n ∷ []) (front_of before + 1) = record {
        low = omega arith;
        exact = λ none. absurd (omega arith);
      } in
      let mine : AreGenuine carries ends venue ordinal before =
      all_front (IsGenuineInput carries ends venue ordinal) before (Skip n ∷ rest) genuine in
      let later =
      closed_continues ordinal (front_of before + 1) (before ++ Skip n ∷ []) rest open_ skips.1
      (subst (λ (xs : List Input). AreGenuine carries ends venue ordinal xs)
      (sym (append_assoc before (Skip n ∷ []) rest)) genuine) in
      let ended : end_at (end_of before) (front_of before + 1) ≡ [] =
      none_at (end_of before) (front_of before + 1)
      (λ e is. let l = may.not_ended e is in omega arith) in
      let after : place_after_all (place_at ordinal k) (part_of before)
      ≡ place_at ordinal (front_of before + 1) =
      place_after_part ordinal before mine k can
      ∙ ap (λ (xs : List Numbered). place_after_all (place_at ordinal (front_of before + 1)) xs)
      ended in
      let closed = closed_after (before ++ Skip n ∷ []) rest in
      record {
        next = later.next;
        goes =
            continues_append carries ends venue (place_at ordinal k) (part_of before) closed
            (part_continues ordinal before mine k can)
            (subst (λ (place : Place). Continues carries ends venue place closed) (sym after)
            later.goes);
        place =
            place_through (place_at ordinal k) (place_at ordinal (front_of before + 1))
            (place_at ordinal later.next) (part_of before) closed after later.place;
        can = subst (λ (xs : List Input). CanOpen xs later.next)
            (append_assoc before (Skip n ∷ []) rest) later.can;
      }

  module _ (ordinal : ℕ) (packets : List Input)
      (genuine : AreGenuine carries ends venue ordinal packets) (skips : AreSkips packets) where
    closed : GoesOn ordinal 1 (closed_of packets) packets
    closed =
        closed_continues ordinal 1 [] packets (record { low = omega arith; exact = λ none. refl })
        skips genuine

    pub stream_continues : Continues carries ends venue (place_at ordinal 1) (stream_of packets)
    stream_continues =
        continues_append carries ends venue (place_at ordinal 1) (closed_of packets)
        (part_of packets)
        closed.goes
        (subst (λ (place : Place). Continues carries ends venue place (part_of packets))
        (sym closed.place) (part_continues ordinal packets genuine closed.next closed.can))

    -- the session's items are in sequence, whatever the lines may carry
    pub stream_in_sequence : AreInSequenceFrom 1 (stream_of packets)
    stream_in_sequence =
        let run = run_continues ordinal packets genuine closed.next closed.can in
        stays ordinal 1 closed.next (closed_of packets) (part_of packets) closed.goes closed.place
        (stays ordinal closed.next (front_of packets + 1) (messages ordinal packets genuine)
        (end_at (end_of packets) (front_of packets + 1)) run.0 run.1
        (end_last (end_of packets) (front_of packets + 1)))

    -- after a session that is over comes the first place of the next
    place_after_stream : IsComplete packets
        → place_after_all (place_at ordinal 1) (stream_of packets) ≡ place_at (ordinal + 1) 1
    place_after_stream over =
        place_after_append (place_at ordinal 1) (closed_of packets) (part_of packets)
        ∙ ap (λ (place : Place). place_after_all place (part_of packets)) closed.place
        ∙ place_after_part ordinal packets genuine closed.next closed.can
        ∙ ap (λ (end : Option ℕ). place_after_all (place_at ordinal (front_of packets + 1))
        (end_at end (front_of packets + 1))) over
        ∙ ap (λ (b : Bool). place_after_all (place_at ordinal (front_of packets + 1))
        (if b then record {
          number = front_of packets + 1;
          item = items.End;
        } ∷ [] else [])) (eq-eqb (front_of packets + 1) (front_of packets + 1) refl)

  streams_continue : (ordinal : ℕ) (sessions : List Begun)
      → AreGenuineFrom carries ends venue ordinal sessions
      → Continues carries ends venue (place_at ordinal 1) (items_of sessions)
  streams_continue ordinal [] all = tt
  streams_continue ordinal (b ∷ []) all =
      continues_append carries ends venue (place_at ordinal 1) (stream_of b.packets) []
      (stream_continues ordinal b.packets all.0 all.1) tt
  streams_continue ordinal (b ∷ next ∷ rest) all =
      continues_append carries ends venue (place_at ordinal 1) (stream_of b.packets)
      (items_of (next ∷ rest)) (stream_continues ordinal b.packets all.0 all.1)
      (subst (λ (place : Place). Continues carries ends venue place (items_of (next ∷ rest)))
      (sym (place_after_stream ordinal b.packets all.0 all.1 all.2))
      (streams_continue (ordinal + 1) (next ∷ rest) all.3))

  pub streams_in_sequence : (h : History) → AreGenuineFrom carries ends venue 1 (all_begun h)
      → IsInSequence carries ends venue (streams_of h)
  streams_in_sequence h all = streams_continue 1 (all_begun h) all
