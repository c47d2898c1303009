use Rattle.text_out.specs.Members.{writing_of}
use Rattle.std.proofs.Common.{refl}
use Rattle.std.proofs.lemmas.Result.{on_ok_weaker}
use Rattle.item_packets.specs.laws.Parts.{taken_rest}
use Rattle.normalising.proofs.Packing.{end_stopped, items_put, on_err_weaker_of, run_stopped}
use Rattle.normalising.proofs.Taking.{on_err_any}
use Rattle.normalising.proofs.output_packets.OutputPackets.put_items.Goals as goal

pub returns-clause-put : goal.returns-clause-put
returns-clause-put g c = on_ok_weaker c.put_end.result
    (λ ends last first one run. items_put
    (writing_of g.W.TextOut)
    g.met.W.TextOut.adds_more _ _ c.args.origin.now last first c.messages_before_end-count.result
    c.args.items.now _ _ _ _ _ _ _ _ c.in_ok-put_run.ensures.form run one
    (c.messages_before_end-count.ensures.count first run) refl
    (taken_rest c.args.items.now c.messages_before_end-count.result)
    c.in_ok-put_run.ensures.put ends) c.put_end.ensures.put

pub returns-in_err-put_run-clause-front : goal.returns-in_err-put_run-clause-front
returns-in_err-put_run-clause-front g c = on_err_any c.from_residual.result
    (λ last first one run. run_stopped
    (writing_of g.W.TextOut)
    c.args.self.now.page.form c.args.origin.now last first c.messages_before_end-count.result
    c.args.items.now _ _ _ _ _ run one
    (c.messages_before_end-count.ensures.count first run) refl
    (taken_rest c.args.items.now c.messages_before_end-count.result)
    c.in_err-put_run.ensures.front)

pub returns-clause-front : goal.returns-clause-front
returns-clause-front g c = on_err_weaker_of c.put_end.result
    (λ ends last first one run. end_stopped
    (writing_of g.W.TextOut)
    g.met.W.TextOut.adds_more _ _ c.args.origin.now last first c.messages_before_end-count.result
    c.args.items.now _ _ _ _ _ _ _ c.in_ok-put_run.ensures.form run one
    (c.messages_before_end-count.ensures.count first run) refl
    (taken_rest c.args.items.now c.messages_before_end-count.result)
    c.in_ok-put_run.ensures.put ends) c.put_end.ensures.front
