use Rattle.line_captures.proofs.EachFrame.{each_counted}
use Rattle.line_captures.proofs.laws.each_frame_is_counted.Goals as goal

pub returns : goal.returns
returns c = each_counted
