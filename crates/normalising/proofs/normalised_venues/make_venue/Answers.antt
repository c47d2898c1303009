use Rattle.std.proofs.Common.{◌∙◌, ap, sym, subst}
use Rattle.std.specs.Prelude.{option_map}
use Rattle.venue_normaliser.specs.States.{IsNewNormaliser}
use Rattle.normalising.specs.Keeping.{FollowsNew}
use Rattle.normalising.specs.Normalised.{quoted_keys}
use Rattle.normalising.proofs.Venue.{new_follows}
use Rattle.normalising.proofs.normalised_venues.make_venue.Goals.{in-Some+in_default-resume, in_default}
use Rattle.normalising.proofs.normalised_venues.make_venue.Goals as goal

pub returns-clause-made : goal.returns-clause-made
returns-clause-made c = λ named.
    let feed = c.args.settings.now in
    let made = subst (λ place. IsNewNormaliser c.in_ok-made.made.normaliser place c.args.session
    (quoted_keys feed) feed.normaliser.window feed.normaliser.end_number) c.at-venue.ensures
    c.in_ok-made.ensures.made in
    elim c.match-snapshot_of.branch [
      | in-Some+in_default-resume w ↦ subst (λ v. FollowsNew feed c.args.place v) (sym w.made-is)
          (w.in_default-resume.ensures.opened feed c.args.place c.args.session named
          (sym c.snapshot_of.ensures ∙ ap (option_map (λ s. s.now)) w.in-Some.is)
          c.in_ok-made.ensures.fits made)
      | in_default w ↦ subst (λ v. FollowsNew feed c.args.place v) (sym w.made-is)
          (new_follows feed c.args.place c.args.session c.in_ok-made.made named
          (sym c.snapshot_of.ensures ∙ ap (option_map (λ s. s.now)) w.in_default.is)
          c.in_ok-made.ensures.fits made c.in_ok-made.ensures.none)
    ]
