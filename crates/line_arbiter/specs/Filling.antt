-- What a window keeps, and what a packet's messages change in it. Cited by private clauses alone.
use Rattle.std.specs.Prelude.{◌≡◌, ◌≢◌, ℕ, ◌+◌, ◌-◌, ◌^◌, ◌<◌, ◌≤◌, nat_eq, nat_le, nat_lt, ◌&&◌, ◌⊎◌, List, [], ◌∷◌, ◌++◌, Option, Some, None, IsSome, count_by, is_none, is_some, length, replicate, slice_set, if◌then◌else◌}
use Rattle.std.specs.List.{range_with_len}
use Rattle.feed_types.specs.declared.item.Item.{Item}
use Rattle.feed_types.specs.declared.item.Item.TheVariants as items
use Rattle.mold_packet.specs.Content.{Content}
use Rattle.line_arbiter.specs.Packets.{item_at, message_item}
use Rattle.line_arbiter.specs.Holding.{Held, held_at}

-- how many items are held
abbrev pub count_held : Held → ℕ
count_held held = count_by is_some held.places

-- the last number that has a place; where there is none, the base
abbrev pub last_place : Held → ℕ
last_place held = held.base + length held.places

-- What a window keeps: as many items as it counts, no more places than it is wide, at least one,
-- and an item in the last of them.
pub record IsHeld (count : ℕ) (held : Held) : Type 0 where
  pub small : last_place held < 2 ^ 64
  pub within : length held.places ≤ held.width
  pub some : 1 ≤ held.width
  pub most : held.width ≤ 65535
  pub counted : count ≡ count_held held
  pub last : held.base < last_place held → IsSome (held_at held (last_place held))

-- the lowest number past the front at which an item is held
pub record IsLowest (held : Held) (front next : ℕ) : Type 0 where
  pub past : front < next
  pub here : IsSome (held_at held next)
  pub none : (m : ℕ) → front < m → m < next → held_at held m ≡ None

-- that number, or None where nothing is held past the front
abbrev pub IsNextHeld : Held → ℕ → Option ℕ → Type 0
IsNextHeld held front None = (m : ℕ) → front < m → held_at held m ≡ None
IsNextHeld held front (Some next) = IsLowest held front next

-- What is held past the front once a packet was put in and the front has moved over it: from the
-- lowest number that was held before on, and from the packet's first on, where that is past the
-- front.
pub record IsHeldFrom (held : Held) (front number : ℕ) (before : Option ℕ) : Type 0 where
  pub base : held.base ≤ front
  pub here : front < number → IsSome (held_at held number)
  pub there : (n : ℕ) → before ≡ Some n → IsSome (held_at held n)
  pub others : (m : ℕ) → front < m → IsSome (held_at held m)
      → ((front < number) × (number ≤ m)) ⊎ ((n : ℕ) × (before ≡ Some n) × (n ≤ m))

-- the places once an item was put in at k, with empty ones before it where there were none
abbrev pub put_at : List (Option Item) → ℕ → Item → List (Option Item)
put_at places k item =
    if nat_lt k (length places) then slice_set places k (Some item)
    else places ++ replicate (k - length places) None ++ Some item ∷ []

-- what is held at a number once an item was put in at k, where it is past the base and nothing is
-- held there
abbrev pub put_one : ℕ → ℕ → Item → Option Item → ℕ → Option Item
put_one base k item (Some found) m = Some found
put_one base k item None m = if nat_lt base k && nat_eq m k then Some item else None

-- what is held at a number once the packet's first n messages were put in
abbrev pub put_to : ℕ → ℕ → Content → Option Item → ℕ → Option Item
put_to n base p (Some found) m = Some found
put_to n base p None m =
    if nat_lt base m && (nat_le p.number m && nat_lt m (p.number + n))
    then Some (item_at p m)
    else None

abbrev pub put_all : ℕ → Content → Option Item → ℕ → Option Item
put_all base p found m = put_to (length p.messages) base p found m

-- how many of the packet's first n numbers are past the base and not held
abbrev pub fresh_to : ℕ → ℕ → Held → Content → ℕ
fresh_to n base held p =
    count_by (λ m. nat_lt base m && is_none (held_at held m)) (range_with_len p.number n)

-- another message's item is held at the number
abbrev pub HoldsOther : Held → ℕ → Item → Type 0
HoldsOther held m item =
    (found : Item) × (held_at held m ≡ Some found) × (found ≢ items.Skipped) × (found ≢ item)

abbrev pub HoldsNoOther : Held → ℕ → Item → Type 0
HoldsNoOther held m item =
    (found : Item) → held_at held m ≡ Some found → found ≢ items.Skipped → found ≡ item

-- a message of the packet reads otherwise than what is held at its number
abbrev pub HeldDisagrees : Held → Content → Type 0
HeldDisagrees held p =
    (k : ℕ) × (k < length p.messages) × HoldsOther held (p.number + k) (message_item p k)

abbrev pub HeldAgrees : Held → Content → Type 0
HeldAgrees held p =
    (k : ℕ) → k < length p.messages → HoldsNoOther held (p.number + k) (message_item p k)
