use Rattle.std.proofs.Common.{rules}
use Rattle.nbbo_runs.proofs.printing.gaps_before.Goals as goal

pub returns-in-Ok-page_before-clause-rows : goal.returns-in-Ok-page_before-clause-rows
returns-in-Ok-page_before-clause-rows g c =
    record {
      is = search rules;
      format_is = search rules;
      are_new = search rules;
    }
