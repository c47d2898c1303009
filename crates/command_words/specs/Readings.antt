-- Readings: relations of words to what they give, which is a value or the refusal that they get.
use Rattle.std.specs.Prelude.{◌≡◌, ◌⊎◌, Option, Some, None, Result, Ok, Err}
use Rattle.std.specs.Option.{ok_or}
use Rattle.clap.specs.Walk.{Text}
use Rattle.command_words.specs.declared.refusal.Refusal.{Refusal}
use Rattle.command_words.specs.declared.refusal.Refusal.TheVariants.{NoMemory}

-- ---- results

-- the value by a function, or the refusal as it is
abbrev pub mapped : {X Y : Type 0} → (X → Y) → Result X Refusal → Result Y Refusal
mapped f (Ok x) = Ok (f x)
mapped f (Err refusal) = Err refusal

-- the next result of the value, or the refusal as it is
abbrev pub and_then : {X Y : Type 0} → Result X Refusal → (X → Result Y Refusal)
    → Result Y Refusal
and_then (Ok x) next = next x
and_then (Err refusal) next = Err refusal

-- the value of the name that is given, `usual` where none is, or the refusal of a name that isn't
-- known
abbrev pub named_or : {X : Type 0} → (Text → Option X) → (usual : X) → Refusal → Option Text
    → Result X Refusal
named_or of_name usual refusal None = Ok usual
named_or of_name usual refusal (Some name) = ok_or (of_name name) refusal

-- ---- relations

-- it is this result
abbrev pub Gives : {X : Type 0} → Result X Refusal → Result X Refusal → Type 0
Gives value result = result ≡ value

-- it is a value of which this holds
abbrev pub Yields : {X : Type 0} → (X → Type 0) → Result X Refusal → Type 0
Yields P (Ok x) = P x
Yields P (Err refusal) = ⊥

-- it is a value of which this holds, or this refusal where it holds of none
abbrev pub Finds : {X : Type 0} → (X → Type 0) → Refusal → Result X Refusal → Type 0
Finds P refusal (Ok x) = P x
Finds {X} P refusal (Err other) = (other ≡ refusal) × ((x : X) → P x → ⊥)

-- it is this value where that holds, else this refusal
abbrev pub Only : {X : Type 0} → Type 0 → Refusal → X → Result X Refusal → Type 0
Only P refusal x (Ok y) = P × (y ≡ x)
Only P refusal x (Err other) = (other ≡ refusal) × (P → ⊥)

-- it is read so, or memory was refused, which may be at any time
abbrev pub OrNoMemory : {X : Type 0} → (Result X Refusal → Type 0) → Result X Refusal → Type 0
OrNoMemory Read (Ok x) = Read (Ok x)
OrNoMemory Read (Err refusal) = (refusal ≡ NoMemory) ⊎ Read (Err refusal)

-- a text that is given is read so, and without one there is no value
abbrev pub IfGiven : {X : Type 0} → (Text → Result X Refusal → Type 0) → Option Text
    → Result (Option X) Refusal → Type 0
IfGiven Read None result = result ≡ Ok None
IfGiven Read (Some text) (Ok None) = ⊥
IfGiven Read (Some text) (Ok (Some x)) = Read text (Ok x)
IfGiven Read (Some text) (Err refusal) = Read text (Err refusal)

-- The first reading gives a value, and the next one of that value gives this; or one of them
-- refuses, the first before the next.
abbrev pub Then : {X Y : Type 0} → (Result X Refusal → Type 0)
    → (X → Result Y Refusal → Type 0) → Result Y Refusal → Type 0
Then {X} {Y} First Next (Ok y) = (x : X) × First (Ok x) × Next x (Ok y)
Then {X} {Y} First Next (Err refusal) =
    First (Err refusal) ⊎ ((x : X) × First (Ok x) × Next x (Err refusal))
