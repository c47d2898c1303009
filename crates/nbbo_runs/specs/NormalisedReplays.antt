-- What a run of normalise sends, as a replay reads it.
use Rattle.std.specs.Prelude.{ℕ, List, map}
use Rattle.feed_types.specs.declared.item.Item.{Item}
use Rattle.feed_types.specs.declared.line.LineId.TheVariants as lines
use Rattle.line_arbiter.specs.Histories.{Begun}
use Rattle.mold_packet.specs.Content.{spelling}
use Rattle.capture_records.specs.Capture.{CaptureRecord, datagram_record}
use Rattle.venue_normaliser.specs.Outputs.{Opening}
use Rattle.normalising.specs.OfSession.{AreMadeToGap, normalised_session}
use Rattle.normalising.specs.Sendings.{Sending, packet_sent, record_sent}
use Rattle.replay_run.specs.ToldHeadline.{HoldOnly}

-- the record that something sent is, in the project's own format
abbrev pub record_sent_of : Sending → CaptureRecord
record_sent_of (packet_sent venue time p) = datagram_record venue lines.A (spelling p)
record_sent_of (record_sent r) = r

-- What is sent of a venue's session of these messages meets the headline's premise: each packet of
-- the session's name is of the session that has the items which the messages make up to the first
-- gap.
pub record CanBeReplayed (keys : List ℕ) (place : ℕ) (sendings : List Sending)
    (opening : Opening) (b : Begun) (messages : List (List ℕ)) : Type 0 where
  pub items : List Item
  pub are : AreMadeToGap keys opening messages b.packets items
  pub hold : HoldOnly place (map record_sent_of sendings)
      (normalised_session b.name opening items)
