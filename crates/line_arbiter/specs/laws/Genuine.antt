-- What was taken of genuine packets may be carried, and the end that they announced may be the end.
use Rattle.std.proofs.Common.{◌≡◌, ℕ, Bool, true, false, cond, List, [], ◌∷◌, Option, Some, None, refl, subst, sym}
use Rattle.std.specs.Prelude.{IsSome}
use Rattle.std.specs.List.{find}
use Rattle.std.specs.Option.{option_map, unwrap_or}
use Rattle.std.proofs.lemmas.Bool.{and_parts, false≢true}
use Rattle.feed_types.specs.declared.item.Item.{Item}
use Rattle.feed_types.specs.declared.item.Item.TheVariants as items
use Rattle.feed_types.specs.Sequence.{MayCarry}
use Rattle.line_arbiter.specs.Packets.{Input, Arrived, Skip, brings, carried, end_of}
use Rattle.line_arbiter.specs.Packets.{has_number, is_ended, is_ending, is_taken}
use Rattle.line_arbiter.specs.Packets.{item_at, item_brought, number_by}
use Rattle.line_arbiter.specs.Genuine.{AreGenuine}
use Rattle.quote_payload.specs.ItemLaws.{item_of-never_end}

pub some_is : (o : Option Item) → IsSome o → o ≡ Some (unwrap_or o items.Other)
some_is None h = absurd (false≢true h)
some_is (Some item) h = refl

module _ (carries : ℕ → ℕ → ℕ → Item → Type 0) (ends : ℕ → ℕ → ℕ → Type 0) (venue ordinal : ℕ) where
  pub carried_may : (packets : List Input) (m : ℕ) (item : Item)
      → AreGenuine carries ends venue ordinal packets → carried packets m ≡ Some item
      → (item ≡ items.Skipped → ⊥) → carries venue ordinal m item
  carried_may [] m item all is message = absurd cc
  carried_may (Skip n ∷ packets) m item all is message =
      by_test (λ h. carried_may packets m item all.1 h message) (brings m (Skip n)) is
    where
      by_test : (carried packets m ≡ Some item → carries venue ordinal m item) → (b : Bool)
          → option_map (λ (x : Input). item_brought x m)
          (cond b (Some (Skip n)) (find (brings m) packets)) ≡ Some item
          → carries venue ordinal m item
      by_test later true h =
          let same : items.Skipped ≡ item = cc in absurd (message (sym same))
      by_test later false h = later h
  carried_may (Arrived a ∷ packets) m item all is message =
      by_test (λ h. carried_may packets m item all.1 h message) (brings m (Arrived a)) refl is
    where
      by_test : (carried packets m ≡ Some item → carries venue ordinal m item) → (b : Bool)
          → brings m (Arrived a) ≡ b
          → option_map (λ (x : Input). item_brought x m)
          (cond b (Some (Arrived a)) (find (brings m) packets)) ≡ Some item
          → carries venue ordinal m item
      by_test later true e h =
          let both = and_parts (is_taken a.answer) (has_number a.packet m) e in
          let same : item_at a.packet m ≡ item = cc in
          subst (λ (x : Item). carries venue ordinal m x) same (all.0.taken both.0 m both.1)
      by_test later false e h = later h

  pub end_may : (packets : List Input) (e : ℕ) → AreGenuine carries ends venue ordinal packets
      → end_of packets ≡ Some e → ends venue ordinal e
  end_may [] e all is = absurd cc
  end_may (Skip n ∷ packets) e all is = end_may packets e all.1 is
  end_may (Arrived a ∷ packets) e all is =
      by_test (λ h. end_may packets e all.1 h) (is_ended a.answer) refl is
    where
      by_test : (end_of packets ≡ Some e → ends venue ordinal e) → (b : Bool)
          → is_ended a.answer ≡ b
          → option_map (λ (x : Input). number_by x)
          (cond b (Some (Arrived a)) (find (λ (x : Input). is_ending x) packets)) ≡ Some e
          → ends venue ordinal e
      by_test later true ended h =
          let same : a.packet.number ≡ e = cc in
          subst (λ (x : ℕ). ends venue ordinal x) same (all.0.ended ended)
      by_test later false ended h = later h

-- neither a message nor Skipped reads as End
by_never_end : (x : Input) (m : ℕ) → item_brought x m ≡ items.End → ⊥
by_never_end (Arrived a) m h = item_of-never_end _ h
by_never_end (Skip n) m h = absurd cc

pub carried_never_end : (packets : List Input) (m : ℕ) (item : Item)
    → carried packets m ≡ Some item → item ≡ items.End → ⊥
carried_never_end [] m item is h = absurd cc
carried_never_end (x ∷ packets) m item is h =
    by_test (λ k. carried_never_end packets m item k h) (brings m x) is
  where
    by_test : (carried packets m ≡ Some item → ⊥) → (b : Bool)
        → option_map (λ (y : Input). item_brought y m)
        (cond b (Some x) (find (brings m) packets)) ≡ Some item
        → ⊥
    by_test later true is =
        by_never_end x m (let same : item_brought x m ≡ items.End = cc in same)
    by_test later false is = later is

-- an item that may be carried, where it is a message's, is allowed at its place
pub allowed_item : (carries : ℕ → ℕ → ℕ → Item → Type 0) (ends : ℕ → ℕ → ℕ → Type 0)
    (venue ordinal m : ℕ) (item : Item)
    → ((item ≡ items.Skipped → ⊥) → carries venue ordinal m item) → (item ≡ items.End → ⊥)
    → MayCarry carries ends venue (record { ordinal = ordinal; number = m }) item
allowed_item carries ends venue ordinal m (items.Quote quote) may never = may (λ e. absurd cc)
allowed_item carries ends venue ordinal m (items.Halt symbol halted) may never =
    may (λ e. absurd cc)
allowed_item carries ends venue ordinal m items.Other may never = may (λ e. absurd cc)
allowed_item carries ends venue ordinal m items.Skipped may never = tt
allowed_item carries ends venue ordinal m items.End may never = absurd (never refl)
