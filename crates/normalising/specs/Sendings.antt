-- The packets that a run writes of each session of a venue.
use Rattle.std.specs.Prelude.{◌≡◌, ◌⊎◌, ℕ, ◌==◌, ◌&&◌, List, [], ◌∷◌, flat_map, Some, slice_get, if◌then◌else◌}
use Rattle.std.specs.List.{AllByRecursion}
use Rattle.std.specs.Str.{bytes_eq}
use Rattle.feed_types.specs.declared.item.Numbered.{Numbered}
use Rattle.line_arbiter.specs.Answered.{AreAnswered}
use Rattle.line_arbiter.specs.Histories.{Begun, all_begun}
use Rattle.mold_packet.specs.Content.{Content, IsContent, spelling}
use Rattle.capture_records.specs.Capture.{CaptureRecord, datagram_record}
use Rattle.item_packets.specs.Openings.{BeginsAt, IsOpening}
use Rattle.venue_normaliser.specs.Outputs.{IsPutOutFrom, Opening, from_start, opened_at}
use Rattle.normalising.specs.Carried.{BeatsWithin, Carry, last_put}
use Rattle.normalising.specs.Normalised.{BeginsWith, NormalisedHistory, NormalisedPoint, quoted_keys, snapshot_at}
use Rattle.normalising.specs.Texts.{datagram_text, record_text}
use Rattle.normalising.specs.declared.normalised_feed.NormalisedFeed.{NormalisedFeed}
use Rattle.normalising.specs.declared.output_form.OutputForm.{OutputForm}

-- one thing that is written: a packet of a venue, with its time, or another record
pub data Sending : Type 0 where
  packet_sent : (venue time : ℕ) (packet : Content) → Sending
  record_sent : CaptureRecord → Sending

abbrev pub sending_text : OutputForm → Sending → List ℕ
sending_text form (packet_sent venue time p) = datagram_text form venue time (spelling p)
sending_text form (record_sent r) = record_text form r

-- a record that holds no packet
abbrev pub HoldsNoPacket : CaptureRecord → Type 0
HoldsNoPacket (datagram_record venue line bytes) = ⊥
HoldsNoPacket r = Unit {0}

-- what is sent is a packet, or a record that holds none
abbrev pub IsSending : Sending → Type 0
IsSending (packet_sent venue time p) = IsContent p
IsSending (record_sent r) = HoldsNoPacket r

-- the packet, if it is of the session of this name of the venue
abbrev pub packet_of_session : (place : ℕ) (name : List ℕ) → Sending → List Content
packet_of_session place name (packet_sent venue time p) =
    if (venue == place) && bytes_eq p.session name then p ∷ [] else []
packet_of_session place name (record_sent r) = []

-- the packets of a session of a venue, in the order in which they are written
abbrev pub packets_of_session : (place : ℕ) (name : List ℕ) → List Sending → List Content
packets_of_session place name sendings = flat_map (packet_of_session place name) sendings

-- Nothing came of a session that began so, and nothing is sent.
pub record SendsNothing (opening : Opening) (b : Begun) (packets : List Content) : Type 0 where
  pub none : b.packets ≡ opened_at opening.number
  pub unsent : packets ≡ []

-- The packets carry together just what is put out of a session that began so: each item once, in
-- order, with its number, and then the end. No heartbeat goes past the first gap.
pub record SendsPutOut (keys : List ℕ) (opening : Opening) (b : Begun) (packets : List Content)
    : Type 0 where
  pub output : List Numbered
  pub put_out : IsPutOutFrom keys opening b.packets output
  pub carry : Carry b.name output packets
  pub heartbeats : AllByRecursion (BeatsWithin (last_put opening b.packets)) packets

-- Of a session of a venue, which began so, and of which these packets and skips came, each answered
-- as it is to be, what is put out is sent, if anything came.
pub record SendsSession (feed : NormalisedFeed) (place : ℕ) (sendings : List Sending)
    (opening : Opening) (b : Begun) : Type 0 where
  pub opens : IsOpening opening
  pub begins : BeginsAt opening.number b.packets
  pub answered : AreAnswered b.name feed.normaliser.window b.packets
  pub sends : SendsNothing opening b (packets_of_session place b.name sendings)
      ⊎ SendsPutOut (quoted_keys feed) opening b (packets_of_session place b.name sendings)

-- the first of these sessions begins so, and each later one with its first message
abbrev pub AllBegun : (Opening → Begun → Type 0) → Opening → List Begun → Type 0
AllBegun P first [] = Unit {0}
AllBegun P first (b ∷ bs) = P first b × AllByRecursion (P from_start) bs

-- each session of a venue is sent, of which the first begins with the venue's snapshot, if it has
-- one
pub record SendsVenue (feed : NormalisedFeed) (place : ℕ) (sendings : List Sending)
    (h : NormalisedHistory) : Type 0 where
  pub first : Opening
  pub begins : BeginsWith (quoted_keys feed) (snapshot_at feed.snapshots.now place) first
  pub each : AllBegun (SendsSession feed place sendings) first (all_begun h.history)

-- The text is that of packets and records, and each session of each venue is sent by them.
pub record SendsSessions (feed : NormalisedFeed) (at : NormalisedPoint) (text : List ℕ)
    : Type 0 where
  pub sendings : List Sending
  pub text_is : text ≡ flat_map (sending_text feed.form) sendings
  pub sound : AllByRecursion IsSending sendings
  pub each : (place : ℕ) (h : NormalisedHistory) → slice_get at.venues place ≡ Some h
      → SendsVenue feed place sendings h
