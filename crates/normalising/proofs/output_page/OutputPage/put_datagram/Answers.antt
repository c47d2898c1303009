use Rattle.std.proofs.Common.{◌∙◌, ◌++◌, List, ℕ, ap, sym, append_assoc}
use Rattle.capture_writing.specs.declared.destination.Destination.{Destination}
use Rattle.capture_writing.specs.Frames.{datagram_record_bytes}
use Rattle.normalising.specs.declared.output_form.OutputForm.{OutputForm}
use Rattle.normalising.specs.Texts.{datagram_text}
use Rattle.normalising.proofs.Taking.{takes_more}
use Rattle.normalising.proofs.output_page.OutputPage.put_datagram.Goals as goal

pub returns-in-Capture-clause-taken : goal.returns-in-Capture-clause-taken
returns-in-Capture-clause-taken g c =
    takes_more _ _ _ _ _ c.make_room.new.self.page _ c.in_ok-make_room.ensures.taken
    (c.push-in-Capture.ensures
    ∙ ap (λ (z : List ℕ). z ++ c.args.bytes.now) c.push.ensures
    ∙ append_assoc c.make_room.new.self.page c.frame_head-head.result c.args.bytes.now
    ∙ ap (λ (z : List ℕ). c.make_room.new.self.page ++ z)
    (c.frame_head-head.ensures
    ∙ ap (λ (t : Destination). datagram_record_bytes
    (record { to = t; time = c.args.origin.now.time; bytes = c.args.bytes.now }))
    c.destination_of-to.ensures
    ∙ sym (ap (λ (f : OutputForm). datagram_text f c.args.origin.now.venue c.args.origin.now.time
    c.args.bytes.now)
    (sym c.in_ok-make_room.ensures.form ∙ c.in-Capture.is))))
