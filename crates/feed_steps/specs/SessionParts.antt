-- The parts of a venue's sessions, which the items are where messages were given up.
use Rattle.std.specs.Prelude.{List, [], ◌∷◌, ◌++◌}
use Rattle.feed_types.specs.declared.item.Numbered.{Numbered}
use Rattle.feed_types.specs.Sessions.{Session}
use Rattle.line_arbiter.specs.OfSession.{session_parts}
use Rattle.line_arbiter.specs.Histories.{Begun}

-- the parts of these sessions, as the venue's, session by session
abbrev pub parts_of_sessions : List Session → List Begun → List Numbered
parts_of_sessions (s ∷ ss) (b ∷ bs) = session_parts s b.packets ++ parts_of_sessions ss bs
parts_of_sessions _ _ = []
