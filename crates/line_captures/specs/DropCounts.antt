-- How many frames were dropped, as a capture says itself.
use Rattle.std.specs.Prelude.{ℕ, ◌-◌, ◌&&◌, List, [], ◌∷◌, nat_lt, replicate, slice_index, slice_set, if◌then◌else◌}
use Rattle.packet_capture.specs.declared.drop_report.DropReport.{DropReport}
use Rattle.packet_capture.specs.declared.drop_report.DropReport.TheVariants.{Silent, NewSection, Before, Since}
use Rattle.packet_capture.specs.Captures.{PieceContent}
use Rattle.line_captures.specs.declared.drop_counts.DropCounts.{DropCounts}
use Rattle.line_captures.specs.declared.drop_counts.DroppedFrames.{DroppedFrames}
use Rattle.line_captures.specs.declared.drop_counts.SaidCounts.{SaidCounts}
use Rattle.feed_types.specs.FullCounts.{count_after}

-- before the interfaces say anything
abbrev pub none_said : SaidCounts
none_said = record { sum = 0; most = replicate 256 0 }

abbrev pub in_new_section : SaidCounts → SaidCounts
in_new_section s = record { sum = s.sum; most = replicate 256 0 }

-- An interface's count is from the start of the capture on: by how much it is above the most that
-- the interface of this place said before is new. A place past the last that a section may have
-- says nothing.
abbrev pub said_after : SaidCounts → ℕ → ℕ → SaidCounts
said_after s place count =
    if nat_lt place 256 && nat_lt (slice_index s.most place) count
    then record {
      sum = count_after s.sum (count - slice_index s.most place);
      most = slice_set s.most place count;
    }
    else s

-- before the first piece
abbrev pub no_drops : DropCounts
no_drops = record { before_packets = 0; by_interface = none_said; by_system = none_said }

-- after what one piece says
abbrev pub drops_after : DropCounts → DropReport → DropCounts
drops_after d Silent = d
drops_after d NewSection = record {
  before_packets = d.before_packets;
  by_interface = in_new_section d.by_interface;
  by_system = in_new_section d.by_system;
}
drops_after d (Before frames) = record {
  before_packets = count_after d.before_packets frames;
  by_interface = d.by_interface;
  by_system = d.by_system;
}
drops_after d (Since place by_interface by_system) = record {
  before_packets = d.before_packets;
  by_interface = said_after d.by_interface place by_interface;
  by_system = said_after d.by_system place by_system;
}

-- and after what some pieces say, one after the other
abbrev pub drops_of : DropCounts → List PieceContent → DropCounts
drops_of d [] = d
drops_of d (piece ∷ pieces) = drops_of (drops_after d piece.dropped) pieces

-- what is told of them
abbrev pub dropped_of : DropCounts → DroppedFrames
dropped_of d = record {
  before_packets = d.before_packets;
  by_interfaces = d.by_interface.sum;
  by_system = d.by_system.sum;
}
