-- The copy of two terms of which both are to be met.
use Rattle.std.proofs.Common.{◌≡◌, subst, sym}
use Rattle.std.specs.Prelude.{◌&&◌}
use Rattle.filter_terms.specs.declared.terms.Terms.{Terms, Both'}
use Rattle.filter_terms.specs.Copies.{IsCopy}

-- a copy of what is here, put there
pub copied_at : {here lent there made : Terms} → lent ≡ here → there ≡ made
    → IsCopy lent made → IsCopy here there
copied_at from to copy = let Copies : Terms × Terms → Type 0 = λ x. IsCopy x.0 x.1
    in subst Copies (λ i. (from i, sym to i)) copy

pub both_copied : {p q p' q' : _} (first second first' second' : Terms)
    → IsCopy first first' → IsCopy second second'
    → IsCopy (Both' p first q second) (Both' p' first' q' second')
both_copied first second first' second' one other = record {
  says = (one.says, other.says);
  meets_same = λ i notice. one.meets_same i notice && other.meets_same i notice;
}
