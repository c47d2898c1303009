-- What is counted of an event.
use Rattle.std.specs.Prelude.{ℕ, ◌==◌, Bool, true, false, Option, Some, None, Ok}
use Rattle.feed_types.specs.declared.national.Best.{Best}
use Rattle.feed_types.specs.declared.national.NationalState.{NationalState}
use Rattle.feed_types.specs.declared.national.NationalState.TheVariants.{Normal, Locked, Crossed}
use Rattle.line_arbiter.specs.declared.outcome.Outcome.TheVariants.{Taken}
use Rattle.event_sinks.specs.SinkEvents.{SinkEvent, told_packet}

-- ---- a packet

-- how many messages came first with it
abbrev pub first_in : SinkEvent → ℕ
first_in (told_packet venue on number count bytes (Ok (Taken new repeated))) = new
first_in _ = 0

-- how many of its messages had come before
abbrev pub repeated_in : SinkEvent → ℕ
repeated_in (told_packet venue on number count bytes (Ok (Taken new repeated))) = repeated
repeated_in _ = 0

-- how many bytes its datagram has, where it is a packet
abbrev pub bytes_in : SinkEvent → ℕ
bytes_in (told_packet venue on number count bytes answer) = bytes
bytes_in _ = 0

-- ---- a national best

abbrev pub is_normal : NationalState → Bool
is_normal Normal = true
is_normal _ = false

abbrev pub is_locked : NationalState → Bool
is_locked Locked = true
is_locked _ = false

abbrev pub is_crossed : NationalState → Bool
is_crossed Crossed = true
is_crossed _ = false

-- the best of a side is this venue's
abbrev pub is_best_of : ℕ → Option Best → Bool
is_best_of venue None = false
is_best_of venue (Some best) = best.venue == venue
