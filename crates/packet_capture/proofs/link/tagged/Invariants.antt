use Rattle.std.proofs.Common.{◌+◌, ◌-◌, length}
use Rattle.packet_capture.proofs.Tags.{TagsLeft}
use Rattle.packet_capture.proofs.link.tagged.Given as goal

abbrev pub invariant-tags : goal.invariant-tags
invariant-tags l = TagsLeft l.fn.bare l.frame l.header

abbrev pub decreases-tags : goal.decreases-tags
decreases-tags l = length l.frame + 4 - l.header.len
