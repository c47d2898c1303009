-- A key's place among distinct keys.
use Rattle.std.proofs.Common.{◌≡◌, ℕ, ◌<◌, cond, List, length, get_or, ap, sym, ◌∙◌, arith}
use Rattle.std.specs.Prelude.{nat_eq, nat_lt, position, Some, None}
use Rattle.std.specs.List.{IsDistinct, position_or_len}
use Rattle.std.proofs.lemmas.Bool.{cond_below, eq-eqb, eqb-false, ne_eqb}
use Rattle.std.proofs.lemmas.List.Sums.{position_or_len_is}
use Rattle.std.proofs.lemmas.Map.Keys.{apart_from_distinct}

-- a place that has the key is the first one
pub place_of_key : (keys : List ℕ) (place key : ℕ) → IsDistinct nat_eq keys
    → place < length keys → get_or keys place 0 ≡ key
    → position (nat_eq key) keys ≡ Some place
place_of_key keys place key distinct within at =
    let first : position_or_len (nat_eq key) keys ≡ place =
    position_or_len_is (nat_eq key) keys place 0 (omega (arith, within))
    (λ k less. ne_eqb key (get_or keys k 0) (λ same.
    eqb-false (get_or keys k 0) (get_or keys place 0)
    (apart_from_distinct nat_eq keys k place 0 distinct less within) (sym same ∙ sym at)))
    (λ inside. eq-eqb key (get_or keys place 0) (sym at)) in
    ap (λ (n : ℕ). cond (nat_lt n (length keys)) (Some n) None) first
    ∙ sym (cond_below place (length keys) (Some place) None within)
