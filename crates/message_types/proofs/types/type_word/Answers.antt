use Rattle.std.proofs.Common.{◌≤◌, ◌∙◌, ℕ, List, [], ap, length, subst, sym}
use Rattle.std.specs.Prelude.{slice_index_or}
use Rattle.std.specs.Borrow.{Bor}
use Rattle.std.proofs.Math.ListN.{get_or-map}
use Rattle.message_types.proofs.TypeWords.{words_short}
use Rattle.message_types.proofs.types.type_word.Goals as goal

pub returns-clause-word : goal.returns-clause-word
returns-clause-word c =
    sym (get_or-map (λ (text : Bor (List ℕ)). text.now) c.type_words.result c.args.place
    (record { ref_ptr = (0, 0); now = [] }))
    ∙ ap (λ (words : List (List ℕ)). slice_index_or words c.args.place []) c.type_words.ensures

pub returns-clause-short : goal.returns-clause-short
returns-clause-short c =
    subst (λ (word : List ℕ). length word ≤ 40)
    (sym (sym (get_or-map (λ (text : Bor (List ℕ)). text.now) c.type_words.result c.args.place
    (record { ref_ptr = (0, 0); now = [] }))
    ∙ ap (λ (words : List (List ℕ)). slice_index_or words c.args.place []) c.type_words.ensures))
    (words_short c.args.place)
