use Rattle.std.proofs.Common.{◌≡◌, false, map, take}
use Rattle.clap.specs.Simple.{app_of}
use Rattle.clap.specs.declared.builder.command.Command.TheViews.{out-Command}
use Rattle.command_words.specs.OptionForms.{with_option_rules}
use Rattle.command_words.proofs.option_table.with_options.Given as goal

abbrev pub invariant-loop-option : goal.invariant-loop-option
invariant-loop-option l = record {
  app : app_of l.command
      ≡ with_option_rules (app_of l.fn.command)
      (map (λ o. (o.name.now, o.form)) (take l.option-index l.options));
  local : (out-Command l.command).has_globals ≡ false;
}
