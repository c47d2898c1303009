use Rattle.std.proofs.Common.{[], ◌∷◌, ◌∙◌, ap, subst, ℕ, List}
use Rattle.venue_lines.specs.Datagrams.{bytes_of}
use Rattle.venue_lines.specs.declared.source.SourceFault.TheVariants.{NoMemory}
use Rattle.item_packets.specs.Packed.{bytes_of_each}
use Rattle.itch_lines.specs.Lines.{IsPossibleTaking, ItchLineState}
use Rattle.itch_lines.specs.declared.source_end.SourceEnd.TheVariants.{Failing}
use Rattle.itch_lines.proofs.Passing.{failed_over, taken_over}
use Rattle.itch_lines.proofs.itch_line.ItchLine.take.Goals as goal

pub returns-in-Ok-clause-brings : goal.returns-in-Ok-clause-brings
returns-in-Ok-clause-brings g c = λ before came.
    let made = bytes_of_each c.take-taken.new.made.items in
    let later = c.recycle.new.self in
    taken_over g.S.LineSource.brings g.met.S.LineSource.brings_more c.args.self.now
    c.note.new.self _ made before later (bytes_of c.args.datagram)
    (c.note.ensures
    ∙ ap (λ (s : ItchLineState g.row.S.Denot). record s { waiting = made }) c.self.view_is)
    (ap (λ (s : ItchLineState g.row.S.Denot). record s { source = later }) c.self-in-Ok.view_is)
    (subst (λ (s : ItchLineState g.row.S.Denot). g.S.LineSource.brings s.source [] later)
    c.self-in-Ok.view_is c.recycle.ensures.brings)
    came c.requires.none
    (subst (λ (s : ItchLineState g.row.S.Denot). IsPossibleTaking s.venue s.line
    (bytes_of c.args.datagram) made) c.self.view_is
    (subst (λ (b : List ℕ). IsPossibleTaking c.self.inside.venue c.self.inside.line b made)
    c.bytes.ensures c.in-Ok.ensures.took))

pub returns-in-Err-clause-brings : goal.returns-in-Err-clause-brings
returns-in-Err-clause-brings g c = λ before came.
    let made = bytes_of_each c.take-taken.new.made.items in
    let later = c.recycle-in-Err.new.self in
    failed_over g.S.LineSource.brings g.met.S.LineSource.brings_more c.args.self.now
    c.fail.new.self _ made NoMemory before later (bytes_of c.args.datagram ∷ [])
    (c.fail.ensures
    ∙ ap (λ (s : ItchLineState g.row.S.Denot). record s { waiting = made; end = Failing NoMemory })
    c.self.view_is)
    (ap (λ (s : ItchLineState g.row.S.Denot). record s { source = later }) c.self-in-Err.view_is)
    (subst (λ (s : ItchLineState g.row.S.Denot). g.S.LineSource.brings s.source [] later)
    c.self-in-Err.view_is c.recycle-in-Err.ensures.brings)
    came c.requires.none c.in-Err.ensures.end
