use Rattle.std.proofs.Common.{◌∷◌, ◌/◌, ◌%◌, length, rules}
use Rattle.line_recordings.specs.Recordings.{kind_letter, renewal_bytes}
use Rattle.line_recordings.proofs.Putting.{page_more, puts_left, puts_next, puts_then}
use Rattle.line_recordings.proofs.venue_records.VenueRecords.put_ready.Goals.{in-LeftOut, in-Next}
use Rattle.line_recordings.proofs.venue_records.VenueRecords.put_ready.Goals as goal

pub loop-preserved : goal.loop-preserved
loop-preserved c =
    elim c.match-take_next.branch [
      | in-LeftOut w ↦
          puts_left c.args.self.now c.loop.self c.take_next.new.self c.match-take_next.self
          c.args.page.now c.loop.page c.match-take_next.page c.loop.invariant
          w.in-LeftOut.ensures (search (rules, w.self-is)) (search (rules, w.page-is))
      | in-Next w ↦
          let venue = c.take_next.new.self.venue in
          let placed = w.in-Next.placed in
          let bytes = placed.bytes.items in
          puts_next c.args.self.now c.loop.self c.take_next.new.self w.give_back.new.self
          c.match-take_next.self c.args.page.now c.loop.page c.match-take_next.page
          (record { kind = w.in-Next.kind; placed = placed }) c.loop.invariant
          w.in-Next.ensures w.give_back.ensures (search (rules, w.self-is))
          (page_more c.loop.page w.put_renewal.new.page c.match-take_next.page
          (renewal_bytes venue placed.begun)
          (venue ∷ kind_letter w.in-Next.kind ∷ length bytes / 256 ∷ length bytes % 256 ∷ bytes)
          w.put_renewal.ensures.puts
          (search (rules, w.page-is, w.put_record.ensures, w.as_slice.ensures)))
    ]

pub returns-in-Nothing : goal.returns-in-Nothing
returns-in-Nothing c =
    puts_then c.args.self.now c.loop.self c.take_next.new.self c.args.page.now c.loop.page
    c.loop.invariant c.in-Nothing.ensures
