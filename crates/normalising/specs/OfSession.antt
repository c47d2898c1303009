-- The packets that are written of a session of messages.
use Rattle.std.specs.Prelude.{◌≡◌, ℕ, ◌+◌, ◌-◌, ◌≤◌, List, ◌++◌, drop, length, replicate, take}
use Rattle.std.specs.List.{flat_map, AllByRecursion}
use Rattle.feed_types.specs.declared.item.Item.{Item}
use Rattle.feed_types.specs.declared.item.Item.TheVariants as items
use Rattle.feed_types.specs.Sessions.{Session, numbered_from}
use Rattle.line_arbiter.specs.Packets.{Input}
use Rattle.line_arbiter.specs.OfSession.{IsOfSession}
use Rattle.mold_packet.specs.Content.{Content}
use Rattle.venue_normaliser.specs.Outputs.{AreMadeAfter, Opening, end_put_out_from, put_first}
use Rattle.normalising.specs.Carried.{items_carried, last_put}

-- the items of a session that began so, of which these follow: at the numbers just before, what its
-- snapshot shows, and Other at those before that, which nothing carries
abbrev pub session_items : Opening → List Item → List Item
session_items opening later =
    replicate (opening.number - length opening.shown - 1) items.Other ++ (opening.shown ++ later)

-- the session of this name that began so, and has these items from the opening's number on
abbrev pub normalised_session : List ℕ → Opening → List Item → Session
normalised_session name opening items = record { name = name; items = session_items opening items }

-- The items that a venue's session of these messages makes, which began so, and of which these
-- packets and skips came: from the opening's number on item n is the one that message n makes after
-- those before it, up to the first gap.
pub record AreMadeToGap (keys : List ℕ) (opening : Opening) (messages : List (List ℕ))
    (packets : List Input) (items : List Item) : Type 0 where
  pub within : last_put opening packets ≤ length messages
  pub made : AreMadeAfter keys opening.messages
      (take (last_put opening packets + 1 - opening.number)
      (drop (opening.number - 1) messages)) items

-- What is written of such a session: packets of the session that has these items; together they
-- carry what the snapshot shows, each of these items once, in order, and then the end.
pub record GivesPackets (keys : List ℕ) (opening : Opening) (name : List ℕ)
    (messages : List (List ℕ)) (packets : List Input) (written : List Content) : Type 0 where
  pub items : List Item
  pub are : AreMadeToGap keys opening messages packets items
  pub each : AllByRecursion (IsOfSession (normalised_session name opening items)) written
  pub carried : flat_map items_carried written ≡ put_first opening
      ++ (numbered_from opening.number items ++ end_put_out_from opening.number packets)
