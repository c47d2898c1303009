use Rattle.std.proofs.Common.{rules}
use Rattle.clap.specs.Simple.{app_of}
use Rattle.clap.specs.Walk.{rule_of}
use Rattle.command_words.proofs.OptionTables.{one_more}
use Rattle.command_words.proofs.option_table.with_options.Goals as goal

pub loop-option-preserved : goal.loop-option-preserved
loop-option-preserved c = record {
  app = one_more (app_of c.args.command) (app_of c.loop-option.command)
      (app_of c.in_ok-command.command) c.args.options.now c.loop-option.option-index _
      (rule_of c.argument_of.result) c.loop-option-test.true c.loop-option.invariant.app
      c.argument_of.ensures.rule (c.in_ok-command.ensures.shape c.argument_of.ensures.local);
  local = search rules;
}
