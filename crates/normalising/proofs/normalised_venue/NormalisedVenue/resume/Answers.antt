use Rattle.std.proofs.lemmas.Result.{on_ok_weaker}
use Rattle.normalising.proofs.Venue.{resumed_follows}
use Rattle.normalising.proofs.normalised_venue.NormalisedVenue.resume.Goals as goal

pub returns-clause-opened : goal.returns-clause-opened
returns-clause-opened c = on_ok_weaker c.resume.result
    (λ resumes feed place name named has fits made.
    resumed_follows feed place name c.args.self.now _ c.args.snapshot.now named has c.requires made
    (resumes fits) c.resume.ensures.kept.0 c.resume.ensures.kept.1
    c.what_a_snapshot_shows_is_put_out.ensures) c.resume.ensures.resumed
