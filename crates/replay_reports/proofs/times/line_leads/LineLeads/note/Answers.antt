use Rattle.std.proofs.Common.{◌≡◌, ℕ, ◌%◌, length, refl, sym, ap, ◌∙◌}
use Rattle.std.specs.Prelude.{max, slice_set}
use Rattle.std.specs.Vec.{with_item}
use Rattle.std.proofs.lemmas.Bool.{ltb-true}
use Rattle.std.proofs.lemmas.Option.{slice_get_read}
use Rattle.replay_reports.specs.declared.times.line_leads.FirstArrival.{FirstArrival}
use Rattle.replay_reports.specs.declared.times.line_leads.LineLeads.{LineLeads}
use Rattle.replay_reports.proofs.Noting.{max_one, noted_a, noted_b, noted_none}
use Rattle.replay_reports.proofs.times.line_leads.LineLeads.note.Goals as goal

pub returns-in_default-take-clause-leads : goal.returns-in_default-take-clause-leads
returns-in_default-take-clause-leads c = λ window came before_a before_b leads.
    let old = c.args.self.now in
    let items = old.arrivals.items in
    let place = c.args.place in
    let held = c.in-Some.first.now in
    let size : max (length items) 1 ≡ window = ap (λ (n : ℕ). max n 1) leads.size
    ∙ max_one window leads.some in
    let new : LineLeads = record {
      arrivals = with_item old.arrivals place c.take.new.self;
      a = old.a;
      b = old.b;
    } in
    noted_none window c.args.line c.args.number c.args.time came before_a before_b old new held
    place c.requires.line c.requires.number leads
    (c.requires.place ∙ ap (λ (k : ℕ). c.args.number % k) size)
    (slice_get_read items (length items) place held refl (ltb-true place (length items)
    (sym c.in-Some.ensures.item.0))
    c.in-Some.ensures.item.1)
    (ap (λ (h : FirstArrival). slice_set items place h) c.take.ensures.held)
    (sym c.in_default-take.is ∙ c.take.ensures.lead) refl refl

pub returns-in-B-clause-leads : goal.returns-in-B-clause-leads
returns-in-B-clause-leads c = λ window came before_a before_b leads.
    let old = c.args.self.now in
    let items = old.arrivals.items in
    let place = c.args.place in
    let held = c.in-Some.first.now in
    let size : max (length items) 1 ≡ window = ap (λ (n : ℕ). max n 1) leads.size
    ∙ max_one window leads.some in
    let new : LineLeads = record {
      arrivals = with_item old.arrivals place c.take.new.self;
      a =
          old.a;
      b = c.add.new.self;
    } in
    noted_b window c.args.line c.args.number c.args.time came before_a before_b old new held place
    c.requires.line c.requires.number leads
    (c.requires.place ∙ ap (λ (k : ℕ). c.args.number % k) size)
    (slice_get_read items (length items) place held refl (ltb-true place (length items)
    (sym c.in-Some.ensures.item.0))
    c.in-Some.ensures.item.1)
    (ap (λ (h : FirstArrival). slice_set items place h) c.take.ensures.held) c.in-Some-take.lead
    (sym c.in-Some-take.is ∙ c.take.ensures.lead) c.in-B.is c.add.ensures refl

pub returns-in_default-line-clause-leads : goal.returns-in_default-line-clause-leads
returns-in_default-line-clause-leads c = λ window came before_a before_b leads.
    let old = c.args.self.now in
    let items = old.arrivals.items in
    let place = c.args.place in
    let held = c.in-Some.first.now in
    let size : max (length items) 1 ≡ window = ap (λ (n : ℕ). max n 1) leads.size
    ∙ max_one window leads.some in
    let after = c.add-in_default-line.new.self in
    let new : LineLeads = record {
      arrivals = with_item old.arrivals place c.take.new.self;
      a = after;
      b = old.b;
    } in
    noted_a window c.args.line c.args.number c.args.time came before_a before_b old new held place
    c.requires.line c.requires.number leads
    (c.requires.place ∙ ap (λ (k : ℕ). c.args.number % k) size)
    (slice_get_read items (length items) place held refl (ltb-true place (length items)
    (sym c.in-Some.ensures.item.0))
    c.in-Some.ensures.item.1)
    (ap (λ (h : FirstArrival). slice_set items place h) c.take.ensures.held) c.in-Some-take.lead
    (sym c.in-Some-take.is ∙ c.take.ensures.lead) c.in_default-line.not-B
    c.add-in_default-line.ensures refl
