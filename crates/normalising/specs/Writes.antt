-- What is written, and what waits to be.
use Rattle.std.specs.Prelude.{◌≡◌, ℕ, ◌+◌, List, ◌++◌}
use Rattle.std.specs.List.{flat_map}
use Rattle.feed_types.specs.declared.item.Numbered.{Numbered}
use Rattle.text_out.specs.Devices.{Writing, Wrote}
use Rattle.venue_normaliser.specs.States.{NormaliserState}
use Rattle.normalising.specs.Carried.{AreWritten}
use Rattle.normalising.specs.Texts.{datagram_text}
use Rattle.normalising.specs.declared.output_form.OutputForm.{OutputForm}
use Rattle.normalising.specs.declared.packet_origin.PacketOrigin.{PacketOrigin}
use Rattle.normalising.specs.declared.venue_stop.VenueStop.{VenueStop}
use Rattle.normalising.specs.declared.venue_stop.VenueStop.TheVariants.{Book, Sink}

-- What the writer took, and then what waits, is what waited, and then this text.
pub record PutsText {W : Type 0} (writing : Writing W) (from to : W) (old text new : List ℕ)
    : Type 0 where
  pub shown : List ℕ
  pub wrote : writing.adds from shown to
  pub all : old ++ text ≡ shown ++ new
  pub kept : writing.failures to ≡ writing.failures from

-- the bytes that are written of datagrams
abbrev pub text_of : OutputForm → PacketOrigin → List (List ℕ) → List ℕ
text_of form origin datagrams = flat_map (datagram_text form origin.venue origin.time) datagrams

-- Packets that carry just these items are written, or wait to be, after what waited.
pub record PutsPackets {W : Type 0} (writing : Writing W) (form : OutputForm)
    (origin : PacketOrigin) (last : ℕ) (output : List Numbered) (from to : W)
    (old new : List ℕ) : Type 0 where
  pub datagrams : List (List ℕ)
  pub written : AreWritten origin.session last output datagrams
  pub text : PutsText writing from to old (text_of form origin datagrams) new

-- The writer failed within what waited and, after that, packets that carry a front of these items.
pub record PutsFront {W : Type 0} (writing : Writing W) (form : OutputForm)
    (origin : PacketOrigin) (last : ℕ) (output : List Numbered) (from to : W)
    (old : List ℕ) : Type 0 where
  pub front : List Numbered
  pub rest : List Numbered
  pub is : output ≡ front ++ rest
  pub datagrams : List (List ℕ)
  pub written : AreWritten origin.session last front datagrams
  pub wrote : Wrote writing.adds from (old ++ text_of form origin datagrams) to
  pub failed : writing.failures to ≡ writing.failures from + 1

-- why packets that carry these items aren't all written: the writer failed, or nothing was done
abbrev pub StopsPut : {W : Type 0} (writing : Writing W) (form : OutputForm)
    (origin : PacketOrigin) (last : ℕ) (output : List Numbered) (from to : W)
    (old new : List ℕ) → VenueStop → Type 0
StopsPut writing form origin last output from to old new (Sink stop) =
    PutsFront writing form origin last output from to old
StopsPut writing form origin last output from to old new (Book fault) = (to ≡ from) × (new ≡ old)

-- the origin of what a venue's normaliser makes ready at a time
abbrev pub origin_of : NormaliserState → ℕ → PacketOrigin
origin_of venue time =
    record { venue = venue.lines.venue; session = venue.lines.session; time = time }
