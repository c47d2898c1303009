-- What was taken of genuine packets is the session's, and so is the stream.
use Rattle.std.proofs.Common.{◌≡◌, ℕ, zero, suc, ◌+◌, ◌-◌, ◌<◌, ◌≤◌, Bool, true, false, cond, List, [], ◌∷◌, ◌++◌, drop, length, map, take, Option, Some, None, refl, sym, ap, subst, ◌∙◌, arith, inl, inr}
use Rattle.std.specs.Prelude.{IsSome, is_some, find, fold, max, nat_le, nat_lt, slice_get, ◌==◌, ◌&&◌, if◌then◌else◌}
use Rattle.std.specs.List.{AllByRecursion, range_with_len}
use Rattle.std.specs.Option.{option_map, unwrap_or}
use Rattle.std.proofs.lemmas.Bool.{cases_lt, le-leb, le-ltb, lt-leb, lt-ltb, ltb-true}
use Rattle.std.proofs.lemmas.Bool.Decides.{nat_tests}
use Rattle.std.proofs.lemmas.Option.{slice_get_within}
use Rattle.circular_buffer.proofs.Places.{slice_get-drop}
use Rattle.feed_types.specs.declared.item.Item.{Item}
use Rattle.feed_types.specs.declared.item.Item.TheVariants as items
use Rattle.feed_types.specs.declared.item.Numbered.{Numbered}
use Rattle.feed_types.specs.Sessions.{Session, IsSessionAt, IsItemAt, Names, numbered_from}
use Rattle.line_arbiter.specs.Packets.{Input, Arrived, Skip, brings, carried, end_of}
use Rattle.line_arbiter.specs.Packets.{first_by, first_of, item_at, item_brought}
use Rattle.line_arbiter.specs.Streams.{front_of, end_at, item_in, item_numbered, opens_of, part_of}
use Rattle.line_arbiter.specs.Genuine.{AreGenuine}
use Rattle.line_arbiter.specs.OfSession.{SkipsWithin, opening, session_stream}
use Rattle.quote_payload.specs.ItemLaws.{item_of-never_skipped}
use Rattle.line_arbiter.specs.laws.Deciding.{cases_item}
use Rattle.line_arbiter.specs.laws.Fronts.{first_most, front_is}
use Rattle.line_arbiter.specs.laws.Genuine.{some_is, carried_may, end_may}

-- items by number are items in a row
numbered_take : (item : ℕ → Item) (all : List Item) (a n : ℕ)
    → ((i : ℕ) → i < n → slice_get all i ≡ Some (item (a + i)))
    → map (λ m. record { number = m; item = item m }) (range_with_len a n)
    ≡ numbered_from a (take n all)
numbered_take item all a zero h = refl
numbered_take item [] a (suc n) h = absurd (none_some (item (a + 0)) (h 0 (omega arith)))
  where
    none_some : (x : Item) → None ≡ Some x → ⊥
    none_some x h = cc
numbered_take item (x ∷ all) a (suc n) h =
    push a (item a) x _ _ (sym (ap item (omega arith)) ∙ same (item (a + 0)) x (h 0 (omega arith)))
    (numbered_take item all (a + 1) n
    (λ i lt. h (suc i) (omega arith) ∙ ap (λ (m : ℕ). Some (item m)) (omega arith)))
  where
    same : (x y : Item) → Some y ≡ Some x → x ≡ y
    same x y h = cc

    push : (m : ℕ) (x y : Item) (xs ys : List Numbered) → x ≡ y → xs ≡ ys
        → record { number = m; item = x } ∷ xs ≡ record { number = m; item = y } ∷ ys
    push m x y xs ys h k = cc

-- End stands where the whole session is in front of it
end_is_last : (end : Option ℕ) (front len : ℕ) → ((e : ℕ) → end ≡ Some e → e ≡ len + 1)
    → end_at end (front + 1)
    ≡ (if is_some end && (front == len) then
    record { number = front + 1; item = items.End } ∷ [] else [])
end_is_last None front len h = refl
end_is_last (Some e) front len h =
    let last = h e refl in
    let same : (e == front + 1) ≡ (front == len) = tests e front len last in
    ap (λ (b : Bool). if b then record { number = front + 1; item = items.End } ∷ [] else []) same
  where
    tests : (e front len : ℕ) → e ≡ len + 1 → (e == front + 1) ≡ (front == len)
    tests e front len h = grind (arith, nat_tests)

-- what was taken is the session's: each message has its number, and the end the one after the last
pub record IsTakenOf (s : Session) (packets : List Input) : Type 0 where
  pub item : (m : ℕ) (item : Item) → carried packets m ≡ Some item → (item ≡ items.Skipped → ⊥)
      → IsItemAt s m item
  pub end : (e : ℕ) → end_of packets ≡ Some e → e ≡ length s.items + 1

-- the same, and the skips go on within the session
pub record IsPartOf (s : Session) (packets : List Input) : Type 0 where
  pub taken : IsTakenOf s packets
  pub within : AllByRecursion (SkipsWithin s) packets

pub taken_of_session : (sessions : ℕ → ℕ → List ℕ → Type 0)
    (carries : ℕ → ℕ → ℕ → Item → Type 0) (ends : ℕ → ℕ → ℕ → Type 0) (venue ordinal : ℕ)
    (all : List Session) (s : Session) (packets : List Input)
    → Names sessions carries ends venue all → IsSessionAt all ordinal s
    → AreGenuine carries ends venue ordinal packets → IsTakenOf s packets
taken_of_session sessions carries ends venue ordinal all s packets names at genuine = record {
  item = λ m item is message.
      let found =
      (names.carried ordinal m item).0
      (carried_may carries ends venue ordinal packets m item genuine is message) in
      subst (λ (t : Session). IsItemAt t m item) (same_session found.0 found.1) found.2;
  end = λ e is.
      let found =
      (names.ended ordinal e).0 (end_may carries ends venue ordinal packets e genuine is) in
      subst (λ (t : Session). e ≡ length t.items + 1) (same_session found.0 found.1) found.2;
} where
  same_session : (t : Session) → IsSessionAt all ordinal t → t ≡ s
  same_session t h = let mine : Some t ≡ Some s = sym h.1 ∙ at.1 in cc

pub part_of_session : (sessions : ℕ → ℕ → List ℕ → Type 0) (carries : ℕ → ℕ → ℕ → Item → Type 0)
    (ends : ℕ → ℕ → ℕ → Type 0) (venue ordinal : ℕ) (all : List Session) (s : Session)
    (packets : List Input)
    → Names sessions carries ends venue all → IsSessionAt all ordinal s
    → AreGenuine carries ends venue ordinal packets → AllByRecursion (SkipsWithin s) packets
    → IsPartOf s packets
part_of_session sessions carries ends venue ordinal all s packets names at genuine within = record {
  taken = taken_of_session sessions carries ends venue ordinal all s packets names at genuine;
  within = within;
}

first_grows : (packets : List Input) (n : ℕ) → n ≤ fold (λ n x. first_by n x) n packets
first_grows [] n = omega arith
first_grows (Arrived a ∷ packets) n = first_grows packets n
first_grows (Skip k ∷ packets) n = let rest = first_grows packets (max n k) in omega arith

pub first_least : (packets : List Input) → 1 ≤ first_of packets
first_least packets = first_grows packets 1

-- where the skips go on within the session, so does the present part
first_stays : (s : Session) (packets : List Input) (n : ℕ) → n ≤ length s.items + 1
    → AllByRecursion (SkipsWithin s) packets
    → fold (λ n x. first_by n x) n packets ≤ length s.items + 1
first_stays s [] n le within = le
first_stays s (Arrived a ∷ packets) n le within = first_stays s packets n le within.1
first_stays s (Skip k ∷ packets) n le within =
    let most = within.0 in first_stays s packets (max n k) (omega arith) within.1

pub first_within : (s : Session) (packets : List Input) → AllByRecursion (SkipsWithin s) packets
    → first_of packets ≤ length s.items + 1
first_within s packets within = first_stays s packets 1 (omega arith) within

-- a number at which Skipped was carried is below the part's first
skipped_before : (packets : List Input) (n m : ℕ) → carried packets m ≡ Some items.Skipped
    → m < fold (λ n x. first_by n x) n packets
skipped_before [] n m is = absurd cc
skipped_before (Arrived a ∷ packets) n m is =
    by_test (λ h. skipped_before packets n m h) (brings m (Arrived a)) is
  where
    by_test : (carried packets m ≡ Some items.Skipped → m < fold (λ n x. first_by n x) n packets)
        → (b : Bool)
        → option_map (λ (y : Input). item_brought y m)
        (cond b (Some (Arrived a)) (find (brings m) packets)) ≡ Some items.Skipped
        → m < fold (λ n x. first_by n x) n packets
    by_test later true is =
        absurd (item_of-never_skipped _ (let e : item_at a.packet m ≡ items.Skipped = cc in e))
    by_test later false is = later is
skipped_before (Skip k ∷ packets) n m is =
    by_test (λ h. skipped_before packets (max n k) m h) (nat_lt m k) refl is
  where
    by_test : (carried packets m ≡ Some items.Skipped
        → m < fold (λ n x. first_by n x) (max n k) packets) → (b : Bool) → nat_lt m k ≡ b
        → option_map (λ (y : Input). item_brought y m)
        (cond b (Some (Skip k)) (find (brings m) packets)) ≡ Some items.Skipped
        → m < fold (λ n x. first_by n x) (max n k) packets
    by_test later true e is =
        let lt = ltb-true m k e in let grows = first_grows packets (max n k) in omega arith
    by_test later false e is = later is

pub skipped_below : (packets : List Input) (m : ℕ) → carried packets m ≡ Some items.Skipped
    → m < first_of packets
skipped_below packets m is = skipped_before packets 1 m is

-- what was taken past the session's end was given up: the present part goes on from past it
pub taken_past : (s : Session) (packets : List Input) → IsTakenOf s packets → (m : ℕ)
    → IsSome (carried packets m) → length s.items < m → m < first_of packets
taken_past s packets taken m h past =
    elim (cases_item (unwrap_or (carried packets m) items.Other) items.Skipped) [
      | inl skipped ↦ skipped_below packets m
          (some_is (carried packets m) h ∙ ap (λ (x : Item). Some x) skipped)
      | inr message ↦
          let at = taken.item m (unwrap_or (carried packets m) items.Other)
          (some_is (carried packets m) h) message in
          let lt =
          slice_get_within s.items (m - 1) (unwrap_or (carried packets m) items.Other) at.1 in
          let one = at.0 in
          absurd (omega arith)
    ]

module _ (s : Session) (packets : List Input) (part : IsPartOf s packets) where
  taken_within : (m : ℕ) → IsSome (carried packets m) → m ≤ length s.items
  taken_within m h = elim (cases_lt (length s.items) m) [
    | inl past ↦
        let below = taken_past s packets part.taken m h past in
        let within = first_within s packets part.within in
        absurd (omega arith)
    | inr le ↦ le
  ]

  pub front_within : front_of packets ≤ length s.items
  front_within = elim (cases_lt 0 (front_of packets)) [
    | inl lt ↦ taken_within (front_of packets)
        ((front_is packets).all (front_of packets) (omega arith) (omega arith))
    | inr le ↦ omega arith
  ]

  message_in : (m : ℕ) → 1 ≤ m → m ≤ front_of packets → first_of packets ≤ m
      → slice_get s.items (m - 1) ≡ Some (unwrap_or (carried packets m) items.Other)
  message_in m one most from =
      let some = some_is (carried packets m) ((front_is packets).all m one most) in
      (part.taken.item m (unwrap_or (carried packets m) items.Other) some
      (λ e. let below = skipped_below packets m (some ∙ ap (λ (x : Item). Some x) e) in
      absurd (omega arith))).1

  -- the messages from the part's first on
  messages_are : map (item_numbered packets)
      (range_with_len (first_of packets) (front_of packets + 1 - first_of packets))
      ≡ numbered_from (first_of packets)
      (take (front_of packets + 1 - first_of packets) (drop (first_of packets - 1) s.items))
  messages_are =
      let one = first_least packets in
      numbered_take (item_in packets) (drop (first_of packets - 1) s.items) (first_of packets)
      (front_of packets + 1 - first_of packets)
      (λ i lt.
      let m = first_of packets + i in
      let no : nat_lt m (first_of packets) ≡ false = le-ltb m (first_of packets) (omega arith) in
      slice_get-drop (first_of packets - 1) s.items i (m - 1) (omega arith)
      ∙ message_in m (omega arith) (omega arith) (omega arith)
      ∙ sym (ap (λ (b : Bool). Some (if b then items.Skipped else
      unwrap_or (carried packets m) items.Other)) no))

  -- and what opens the part
  opened_is : map (item_numbered packets)
      (range_with_len (opens_of packets) (front_of packets + 1 - opens_of packets))
      ≡ opening (first_of packets)
      ++ map (item_numbered packets)
      (range_with_len (first_of packets) (front_of packets + 1 - first_of packets))
  opened_is = elim (cases_lt 1 (first_of packets)) [
    | inl lt ↦
        let most = first_most packets (front_of packets) (front_is packets) in
        let opens : opens_of packets ≡ first_of packets - 1 = omega arith in
        let len : front_of packets + 1 - opens_of packets
        ≡ suc (front_of packets + 1 - first_of packets) = omega arith in
        let next : first_of packets - 1 + 1 ≡ first_of packets = omega arith in
        let no : nat_le (first_of packets) 1 ≡ false = lt-leb (first_of packets) 1 lt in
        let below : nat_lt (first_of packets - 1) (first_of packets) ≡ true =
        lt-ltb (first_of packets - 1) (first_of packets) (omega arith) in
        ap (λ (n : ℕ). map (item_numbered packets) (range_with_len (opens_of packets) n)) len
        ∙ ap (λ (o : ℕ). map (item_numbered packets)
        (range_with_len o (suc (front_of packets + 1 - first_of packets)))) opens
        ∙ ap (λ (b : Bool). record {
          number = first_of packets - 1;
          item = if b then items.Skipped else
              unwrap_or (carried packets (first_of packets - 1)) items.Other;
        } ∷ map (item_numbered packets) (range_with_len (first_of packets - 1 + 1)
        (front_of packets + 1 - first_of packets))) below
        ∙ ap (λ (n : ℕ). record { number = first_of packets - 1; item = items.Skipped }
        ∷ map (item_numbered packets)
        (range_with_len n (front_of packets + 1 - first_of packets))) next
        ∙ sym (ap (λ (b : Bool). (if b then [] else record {
          number = first_of packets - 1;
          item = items.Skipped;
        } ∷ []) ++ map (item_numbered packets)
        (range_with_len (first_of packets) (front_of packets + 1 - first_of packets))) no)
    | inr le ↦
        let one = first_least packets in
        let opens : opens_of packets ≡ first_of packets = omega arith in
        let yes : nat_le (first_of packets) 1 ≡ true = le-leb (first_of packets) 1 le in
        ap (λ (o : ℕ). map (item_numbered packets) (range_with_len o (front_of packets + 1 - o)))
        opens
        ∙ sym (ap (λ (b : Bool). (if b then [] else record {
          number = first_of packets - 1;
          item = items.Skipped;
        } ∷ []) ++ map (item_numbered packets)
        (range_with_len (first_of packets) (front_of packets + 1 - first_of packets))) yes)
  ]

  pub part_is : part_of packets
      ≡ session_stream s (first_of packets) (front_of packets) (end_of packets)
  part_is =
      let tail : List Numbered = end_at (end_of packets) (front_of packets + 1) in
      ap (λ (xs : List Numbered). xs ++ tail) opened_is
      ∙ ap (λ (xs : List Numbered). (opening (first_of packets) ++ xs) ++ tail) messages_are
      ∙ ap (λ (xs : List Numbered). (opening (first_of packets)
      ++ numbered_from (first_of packets)
      (take (front_of packets + 1 - first_of packets) (drop (first_of packets - 1) s.items))) ++ xs)
      (end_is_last (end_of packets) (front_of packets) (length s.items) part.taken.end)
