use Rattle.std.proofs.Common.{codes}
use Rattle.line_discovery.proofs.Putting.{put_last, put_two}
use Rattle.line_discovery.proofs.text.put_rest.Goals as goal

pub returns : goal.returns
returns c =
    put_two c.extend_from_slice.result c.args.text.now.items c.put_labelled.new.text.items
    c.extend_from_slice.new.self.items _ (codes "\n") c.in_ok-put_labelled.ensures.ok
    (put_last c.extend_from_slice.result c.put_labelled.new.text.items
    c.extend_from_slice.new.self.items (codes "\n") c.extend_from_slice.ensures.items)
