-- The number of an end of session, as a venue sends it.
use Rattle.std.specs.Prelude.{◌+◌, ◌&&◌, nat_lt, Bool, true, false, if◌then◌else◌}
use Rattle.mold_packet.specs.declared.packet.Kind.{Kind}
use Rattle.mold_packet.specs.declared.packet.Kind.TheVariants.{Messages, Heartbeat, End}
use Rattle.mold_packet.specs.Content.{Content}
use Rattle.venue_normaliser.specs.declared.end_number.EndNumber.{EndNumber}
use Rattle.venue_normaliser.specs.declared.end_number.EndNumber.TheVariants.{Next, Last}

abbrev pub is_end : Kind → Bool
is_end Messages = false
is_end Heartbeat = false
is_end End = true

-- The packet as the standard has it: where an end has the last message's number, one more.
abbrev pub read_as : EndNumber → Content → Content
read_as Next p = p
read_as Last p =
    if is_end p.kind && nat_lt p.number 18446744073709551615
    then record p { number = p.number + 1; ignored = 0 } else p
