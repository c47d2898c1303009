use Rattle.std.proofs.Common.{rules, ◌≡◌, ℕ, ◌+◌, ◌%◌, ◌^◌, ◌<◌, get_or, length, ap, ◌∙◌, arith}
use Rattle.std.specs.Prelude.{nat_le}
use Rattle.std.proofs.lemmas.List.{length-map}
use Rattle.feed_types.proofs.Lanes.{small_at, read}
use Rattle.feed_types.proofs.FieldWords.{tested_word}
use Rattle.feed_types.proofs.symbol.is_field.Goals as goal

pub returns : goal.returns
returns c =
    let field = c.args.field.now in
    let long : length field ≡ 8 = omega arith in
    let bytes : (i : ℕ) → get_or field i 0 < 256 = search rules in
    tested_word field long (small_at field bytes) _
    (ap (λ (w : ℕ). (w + 0xdfdf_dfdf_dfdf_dfe0) % 2 ^ 64) (c.from_le_bytes-above.ensures
    ∙ read field long)) c.past_tilde.result c.misplaced.result
    c.past_tilde.ensures
    (λ bytes are e. c.misplaced.ensures _ (length-map bytes (nat_le 1) ∙ are.eight)
    (c.no_spaces.ensures bytes are e))
