-- A command with one option more of a table.
use Rattle.std.proofs.Common.{◌≡◌, ◌∙◌, ◌<◌, ℕ, ◌+◌, List, ap, length, map, sym, take}
use Rattle.std.specs.List.{slice_index_or}
use Rattle.std.proofs.lemmas.List.Folds.{fold-map}
use Rattle.std.proofs.lemmas.List.Sums.{fold_more}
use Rattle.clap.specs.Simple.{App, with_rule}
use Rattle.clap.specs.Walk.{Rule, Text}
use Rattle.command_words.specs.OptionForms.{rule_by, with_option_rules}
use Rattle.command_words.specs.declared.option_table.CommandOption.{CommandOption}
use Rattle.command_words.specs.declared.option_table.OptionForm.{OptionForm}

abbrev entry_of : CommandOption → Text × OptionForm
entry_of o = (o.name.now, o.form)

abbrev with_entry : App → (Text × OptionForm) → App
with_entry app o = with_rule app (rule_by o.1 o.0)

pub one_more : (start app next : App) (options : List CommandOption) (i : ℕ) (d : CommandOption)
    (rule : Rule) → i < length options
    → app ≡ with_option_rules start (map (λ o. (o.name.now, o.form)) (take i options))
    → rule ≡ rule_by (slice_index_or options i d).form (slice_index_or options i d).name.now
    → next ≡ with_rule app rule
    → next ≡ with_option_rules start (map (λ o. (o.name.now, o.form)) (take (i + 1) options))
one_more start app next options i d rule less before of_option added =
    added ∙ ap (λ (r : Rule). with_rule app r) of_option
    ∙ ap (λ (a : App). with_rule a
    (rule_by (slice_index_or options i d).form (slice_index_or options i d).name.now))
    (before ∙ fold-map with_entry entry_of start (take i options))
    ∙ sym (fold-map with_entry entry_of start (take (i + 1) options)
    ∙ fold_more (λ a o. with_entry a (entry_of o)) start options i d less)
