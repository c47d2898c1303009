use Rattle.itch_book.proofs.Rising.{has_shares}
use Rattle.itch_book.proofs.levels.place_with.Goals as goal

pub returns : goal.returns
returns c =
    has_shares c.args.levels.now _ c.args.rank c.args.shares c.requires.rising c.place_of.ensures
    c.requires.some c.requires.enough
