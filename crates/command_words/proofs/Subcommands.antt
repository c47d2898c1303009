-- The values of the options of a subcommand, and the task that they ask for.
use Rattle.std.proofs.Common.{◌≡◌, sym, subst, ap, List, Option, Some, None, Bool, true, false, Ok, Err, inr, refl}
use Rattle.std.specs.Prelude.{◌↔◌, IfSome, IsSome, Result, if◌then◌else◌, option_map}
use Rattle.std.specs.Bool.{Decides}
use Rattle.std.specs.Str.{bytes_eq}
use Rattle.std.proofs.lemmas.Option.{same_Some}
use Rattle.std.proofs.lemmas.Slice.Eq.{bytes_eq-Decides}
use Rattle.clap.specs.Simple.{subcommand_of}
use Rattle.clap.specs.Walk.{Row, Text}
use Rattle.command_words.specs.CommandLine.{IsAccepted, ReadsFound}
use Rattle.command_words.specs.Commands.{nbbo_app}
use Rattle.command_words.specs.OptionValues.{rows_of_command}
use Rattle.command_words.specs.Readings.{Then}
use Rattle.command_words.specs.declared.refusal.Refusal.{Refusal}

-- The subcommand that was looked up by its name is the one that was found, of this name and with
-- these values.
module _ {X B : Type 0} (label : X → Text) (rows : X → List Row) (at : B → List Row)
    (command : Text) where
  pub rows_found : (sub : Option X) (found : Option B)
      → (IsSome found ↔ (option_map label sub ≡ Some command))
      → IfSome found (λ b. option_map (λ (p : Text × List Row). p.1)
      (option_map (λ x. (label x, rows x)) sub)
      ≡ Some (at b))
      → option_map at found ≡ rows_of_command command (option_map (λ x. (label x, rows x)) sub)
  rows_found None None named is = refl
  rows_found None (Some b) named is =
      let bad : None ≡ Some command = named.0 refl in absurd (cc)
  rows_found (Some x) None named is =
      go (bytes_eq (label x) command) (bytes_eq-Decides (label x) command)
    where
      go : (b : Bool) → Decides b (label x ≡ command)
          → None ≡ (if b then Some (rows x) else None)
      go true same =
          let bad : false ≡ true = named.1 (ap (λ (t : Text). Some t) (same.0 refl)) in absurd (cc)
      go false other = refl
  rows_found (Some x) (Some b) named is =
      let same = same_Some (label x) command (named.0 refl) in
      go (bytes_eq (label x) command) (bytes_eq-Decides (label x) command) same
    where
      go : (test : Bool) → Decides test (label x ≡ command) → label x ≡ command
          → Some (at b) ≡ (if test then Some (rows x) else None)
      go true decided same = sym is
      go false other same = let bad : false ≡ true = other.1 same in absurd (cc)

-- what is read of the subcommand that clap found is what is read of the words
pub words_read : {X : Type 0} (Read : Option (Text × List Row) → Result X Refusal → Type 0)
    (words : List Text) (found : Option (Text × List Row)) (result : Result X Refusal)
    → IsAccepted words → found ≡ subcommand_of nbbo_app words → Read found result
    → ReadsFound Read words result
words_read Read words found (Ok x) taken is read =
    (taken, subst (λ (f : Option (Text × List Row)). Read f (Ok x)) is read)
words_read Read words found (Err refusal) taken is read =
    inr (taken, subst (λ (f : Option (Text × List Row)). Read f (Err refusal)) is read)

-- where the first reading gives a value, what the next one of it gives is given
pub onward : {X Y : Type 0} (First : Result X Refusal → Type 0)
    (Next : X → Result Y Refusal → Type 0) (x : X) (result : Result Y Refusal) → First (Ok x)
    → Next x result → Then First Next result
onward First Next x (Ok y) first next = (x, first, next)
onward First Next x (Err refusal) first next = inr (x, first, next)
