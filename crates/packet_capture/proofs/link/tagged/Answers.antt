use Rattle.packet_capture.proofs.Tags.{tags_left, tags_cut}
use Rattle.packet_capture.proofs.link.tagged.Goals as goal

pub tags-init : goal.tags-init
tags-init c = tags_left c.args.bare c.args.frame.now c.requires.some c.requires.within

pub returns-then-frame-header-clause-cut : goal.returns-then-frame-header-clause-cut
returns-then-frame-header-clause-cut c = tags_cut c.args.bare c.args.frame.now c.tags.header
    c.tags.invariant c.if-frame-header.true
