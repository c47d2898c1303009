use Rattle.std.proofs.Common.{rules, ◌≡◌, ◌∙◌, ◌++◌, ap, drop, length, List}
use Rattle.std.specs.Prelude.{replicate}
use Rattle.std.proofs.lemmas.List.{drop-replicate}
use Rattle.run_settings.specs.VenueNames.{no_venue_name}
use Rattle.run_settings.specs.declared.venue_names.VenueName.{VenueName}
use Rattle.command_words.proofs.venue_list.sixteen_names.Goals as goal

pub returns : goal.returns
returns c =
    let names = c.args.names.now in
    let front : c.copy_from_slice.new.self ≡ names = search rules in
    ap (λ (first : List VenueName). first ++ drop (length names) (replicate 16 no_venue_name)) front
    ∙ ap (λ (rest : List VenueName). names ++ rest) (drop-replicate (length names) 16 no_venue_name)
