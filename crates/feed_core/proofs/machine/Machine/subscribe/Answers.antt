use Rattle.std.proofs.Common.{◌<◌, ◌≤◌, ◌≡◌, ◌+◌, ◌++◌, ◌∷◌, [], List, length, subst, sym, rules, ap, ◌∙◌}
use Rattle.feed_types.specs.declared.journal.Notice.{Notice}
use Rattle.filter_terms.specs.Filters.{terms_of}
use Rattle.filter_terms.specs.Terms.{meets}
use Rattle.feed_steps.specs.declared.event.Event.TheVariants as events
use Rattle.feed_steps.specs.declared.event.Done.TheVariants as done
use Rattle.feed_core.specs.Worlds.{Lane, empty_lane}
use Rattle.feed_core.specs.Fitting.{MachineView, FitsWorld, HasStepped}
use Rattle.feed_core.proofs.MachineMoves.{terms_read, subscribe_full, subscribe_one}
use Rattle.feed_core.proofs.machine.Machine.subscribe.Goals as goal

pub returns-then-not-has_subscriber_room-clause-step :
    goal.returns-then-not-has_subscriber_room-clause-step
returns-then-not-has_subscriber_room-clause-step g c = λ s w filters f.
    let lt : c.self.inside.filters_used < length c.args.filters.now = search rules in
    let full : 32 ≤ length c.self.inside.lanes.items = search rules in
    subscribe_full s _ w (terms_of c.index-filters-self.result)
    (subst (λ (m : MachineView). FitsWorld s m w) (sym c.self.view_is) f)
    (terms_read (λ x. terms_of x) c.args.filters.now s.filters c.self.inside.filters_used
    c.index-filters-self.result filters lt c.index-filters-self.is) full

pub returns-clause-step : goal.returns-clause-step
returns-clause-step g c = λ s w filters f.
    let lt : c.self.inside.filters_used < length c.args.filters.now = search rules in
    let room : length c.self.inside.lanes.items < 32 = search rules in
    let grown : c.push_reserved.new.self.items ≡ c.self.inside.lanes.items
    ++ empty_lane ∷ [] = search rules in
    subst (λ (lanes : List (Lane Notice)). HasStepped s w events.Subscribe
    (done.Subscribed c.in-Ok.id) (record {
      venues = c.self.inside.venue_states.items;
      journal = c.subscribe.new.self;
      lanes = lanes;
      capacity = c.self.inside.lane_capacity;
      used = c.self.inside.filters_used + 1;
    })) (sym grown)
    (subscribe_one s _ w (terms_of c.index-filters-self.result)
    (subst (λ (m : MachineView). FitsWorld s m w) (sym c.self.view_is) f)
    (terms_read (λ x. terms_of x) c.args.filters.now s.filters c.self.inside.filters_used
    c.index-filters-self.result filters lt c.index-filters-self.is)
    c.in-Ok.id c.in_ok-terms.terms c.subscribe.new.self room (c.in-Ok.ensures.0.0
    ∙ sym c.self.invariant.1) (c.in_ok-terms.ensures.cases.meets_same
    ∙ ap (λ t. meets t) c.terms.ensures) c.in-Ok.ensures.0.2)
