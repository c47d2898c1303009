use Rattle.std.proofs.Common.{rules, ◌∙◌, sym, ap, inr, List, Ok}
use Rattle.run_settings.specs.declared.venue_names.VenueNames.TheVariants.{Named}
use Rattle.run_settings.specs.declared.venue_names.VenueName.{VenueName}
use Rattle.command_words.specs.VenueLists.{sixteen_names}
use Rattle.command_words.proofs.VenueNaming.{miscounted, misnamed, named_twice, named_well}
use Rattle.command_words.proofs.venue_list.venue_names_of.Goals as goal

pub returns-then-names-venues : goal.returns-then-names-venues
returns-then-names-venues c =
    inr (sym (miscounted c.args.venues c.args.names.now (search rules)))

pub returns-then-not-are_venue_names : goal.returns-then-not-are_venue_names
returns-then-not-are_venue_names c =
    inr (sym (misnamed c.args.venues c.args.names.now (search rules) (search rules)))

pub returns-then-not-are_named_once : goal.returns-then-not-are_named_once
returns-then-not-are_named_once c =
    inr (sym (named_twice c.args.venues c.args.names.now (search rules) (search rules)
    (search rules)))

pub returns : goal.returns
returns c =
    ap (λ (names : List VenueName). Ok (Named names))
    (c.sixteen_names.ensures ∙ ap sixteen_names c.as_slice.ensures.value)
    ∙ sym (named_well c.args.venues c.args.names.now c.in_ok-kept.kept.items (search rules)
    (search rules) (search rules) c.in_ok-kept.ensures)
