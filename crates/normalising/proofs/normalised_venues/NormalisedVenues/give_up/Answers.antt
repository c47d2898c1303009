use Rattle.text_out.specs.Members.{writing_of}
use Rattle.std.proofs.Common.{[], ◌∷◌, ◌++◌, ◌∙◌, refl, sym, ap, append-nil, length, None, Some, Ok}
use Rattle.std.specs.Prelude.{slice_set}
use Rattle.std.proofs.lemmas.Option.{slice_get_read}
use Rattle.std.proofs.lemmas.Result.{err_from_is_err_and}
use Rattle.capture_records.specs.Capture.{skip_record}
use Rattle.itch_book.specs.declared.fault.BookFault.TheVariants.{NoMemory}
use Rattle.normalising.proofs.Venues.{gives_next, gives_none, gives_stop, skip_gaps}
use Rattle.normalising.proofs.normalised_venues.NormalisedVenues.give_up.Goals as goal

pub returns-in-Err-clause-takes : goal.returns-in-Err-clause-takes
returns-in-Err-clause-takes g c = gives_none (Unit {0}) (writing_of g.W.TextOut)
    g.met.W.TextOut.adds_none (skip_record c.args.venue c.args.number) c.args.self.now
    c.args.self.now c.args.writer.now NoMemory refl

pub returns-in_err-given_up-clause-takes : goal.returns-in_err-given_up-clause-takes
returns-in_err-given_up-clause-takes g c =
    let p = err_from_is_err_and c.from_residual.result c.from_residual.ensures.1 in
    rw (p.1, p.2) (gives_stop
    (writing_of g.W.TextOut)
    g.met.W.TextOut.adds_none (skip_record c.args.venue c.args.number) c.args.self.now
    c.index_mut-it.result.now c.args.writer.now c.give_up.new.writer
    c.give_up.new.output.page.page c.in_err-given_up.field-0.0
    (slice_get_read c.args.self.now.venues.items (length c.args.self.now.venues.items)
    c.args.venue _ refl c.requires
    (rw (← c.index.ensures.value) c.index_mut-it.ensures.value))
    (λ feed h f is. c.in_err-given_up.ensures.skips feed c.args.venue h f is))

pub returns-in-Some-clause-takes : goal.returns-in-Some-clause-takes
returns-in-Some-clause-takes g c = gives_next
    (writing_of g.W.TextOut)
    g.met.W.TextOut.adds_none (skip_record c.args.venue c.args.number) c.args.self.now _
    c.index_mut-it.result.now c.give_up.new.self c.args.writer.now c.give_up.new.writer
    (Ok (tt {0}))
    (slice_get_read c.args.self.now.venues.items (length c.args.self.now.venues.items)
    c.args.venue _ refl c.requires
    (rw (← c.index.ensures.value) c.index_mut-it.ensures.value))
    (ap (λ i. slice_set c.args.self.now.venues.items i c.give_up.new.self) c.index.ensures.value)
    refl refl c.in_ok-given_up.ensures.form
    (λ feed h f is. c.in_ok-given_up.ensures.skips feed c.args.venue h f is)
    (skip_gaps c.args.self.now.given_up.items c.push_reserved.new.self.items
    c.index_mut-it.result.now c.give_up.new.self c.args.venue c.args.number (Some c.in-Some.gap)
    (c.push_reserved.ensures.items
    ∙ ap (λ l. l ++ c.in-Some.gap ∷ []) c.reserve.ensures.items)
    (rw c.in-Some.is at c.in_ok-given_up.ensures.gap))

pub returns-in_default-clause-takes : goal.returns-in_default-clause-takes
returns-in_default-clause-takes g c = gives_next
    (writing_of g.W.TextOut)
    g.met.W.TextOut.adds_none (skip_record c.args.venue c.args.number) c.args.self.now _
    c.index_mut-it.result.now c.give_up.new.self c.args.writer.now c.give_up.new.writer
    (Ok (tt {0}))
    (slice_get_read c.args.self.now.venues.items (length c.args.self.now.venues.items)
    c.args.venue _ refl c.requires
    (rw (← c.index.ensures.value) c.index_mut-it.ensures.value))
    (ap (λ i. slice_set c.args.self.now.venues.items i c.give_up.new.self) c.index.ensures.value)
    refl refl c.in_ok-given_up.ensures.form
    (λ feed h f is. c.in_ok-given_up.ensures.skips feed c.args.venue h f is)
    (skip_gaps c.args.self.now.given_up.items c.reserve.new.self.items c.index_mut-it.result.now
    c.give_up.new.self c.args.venue c.args.number None
    (c.reserve.ensures.items ∙ sym (append-nil c.args.self.now.given_up.items))
    (rw c.in_default.is at c.in_ok-given_up.ensures.gap))
