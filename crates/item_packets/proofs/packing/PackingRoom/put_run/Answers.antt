use Rattle.std.proofs.Common.{◌∙◌, ap, sym}
use Rattle.std.proofs.lemmas.Result.{on_ok_weaker}
use Rattle.feed_types.specs.Sessions.{numbered_from}
use Rattle.item_packets.proofs.packing.PackingRoom.put_run.Goals as goal

pub returns : goal.returns
returns c = record {
  put = on_ok_weaker c.put_messages.result
      (λ put first its one is each. put its (is
      ∙ ap (λ n. numbered_from n its) (sym (c.in-Some.ensures.first first its is))) each)
      c.put_messages.ensures.put;
}
