-- The forms of options, as the crate clap sees them.
use Rattle.std.specs.Prelude.{◌∷◌, [], ℕ, List, Some, codes, pos, true, fold}
use Rattle.clap.specs.Lexer.{usize_max}
use Rattle.clap.specs.Walk.{Rule, Text}
use Rattle.clap.specs.Simple.{App, new_rule, with_rule}
use Rattle.clap.specs.declared.builder.action.ArgAction.TheVariants.{Append, SetTrue}
use Rattle.clap.specs.declared.builder.value_parser.ValueParser.TheVariants.{Signed}
use Rattle.command_words.specs.declared.option_table.OptionForm.{OptionForm}
use Rattle.command_words.specs.declared.option_table.OptionForm.TheVariants as forms

-- --NAME VALUE
abbrev pub valued_rule : Text → Rule
valued_rule name = record (new_rule name) { long = Some name; value_names = 1 }

-- --NAME VALUE, without which the command is refused
abbrev pub required_rule : Text → Rule
required_rule name = record (valued_rule name) { required = true }

-- --NAME VALUE, which may stand there several times
abbrev pub several_rule : Text → Rule
several_rule name = record (valued_rule name) { action = Some Append }

-- the value is a number in this range
abbrev pub number_rule : Rule → (least most : ℕ) → Rule
number_rule rule least most = record rule { parser = Some (Signed (pos least) (pos most)) }

-- --NAME
abbrev pub flag_rule : Text → Rule
flag_rule name = record (new_rule name) { long = Some name; action = Some SetTrue }

-- NAME.., any number of words that belong to no option
abbrev pub words_rule : Text → Rule
words_rule name = record (new_rule name) {
  range = Some (record { start_inclusive = 0; end_inclusive = usize_max });
  value_names = 1;
}

-- the option of this form and name
abbrev pub rule_by : OptionForm → Text → Rule
rule_by forms.Flag name = flag_rule name
rule_by forms.Text name = valued_rule name
rule_by forms.Required name = required_rule name
rule_by forms.Several name = several_rule name
rule_by forms.Window name =
    record (number_rule (valued_rule name) 1 65535) { defaults = codes "4096" ∷ [] }
rule_by forms.FromZero name = number_rule (valued_rule name) 0 4294967295
rule_by forms.FromOne name = number_rule (valued_rule name) 1 4294967295
rule_by forms.Buffer name = number_rule (valued_rule name) 1 1073741823
rule_by forms.Words name = words_rule name

-- the command with these options, one after the other
abbrev pub with_option_rules : App → List (Text × OptionForm) → App
with_option_rules app options = fold (λ a o. with_rule a (rule_by o.1 o.0)) app options
