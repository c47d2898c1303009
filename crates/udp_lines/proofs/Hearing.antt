-- What one call of a socket, or one after calls that brought none, has brought a line.
use Rattle.std.proofs.Common.{◌≡◌, ◌≤◌, ℕ, List, Option, false, length, take, rules}
use Rattle.std.specs.declared.net.socket_addr.SocketAddr.{SocketAddr}
use Rattle.run_settings.specs.declared.sender.AllowedSender.{AllowedSender}
use Rattle.run_settings.specs.declared.sender.Senders.{Senders}
use Rattle.run_settings.specs.declared.sender.Senders.TheVariants.{Any, These}
use Rattle.run_settings.specs.Senders.{IsTakenFrom, are_named, senders_of}
use Rattle.udp_lines.specs.Sockets.{BringsFromSome, HearsOf, IsHandedOver}
use Rattle.udp_lines.specs.declared.line_socket.Received.{Received}
use Rattle.udp_lines.specs.declared.line_socket.Received.TheVariants.{Taken, Foreign, Failed, NoneYet}

-- any address is one of a sender where none are named
pub taken_from_any : (senders : Senders) (sender : SocketAddr) → are_named senders ≡ false
    → IsTakenFrom (senders_of senders) sender
taken_from_any Any sender e = tt
taken_from_any (These named) sender e = absurd (search (rules, e))

module _ {S : Type 0} (brings : S → SocketAddr → List ℕ → S → Type 0)
    (waits : S → S → Type 0) where
  -- a call brought a datagram of an address of which this is so
  pub heard_of : (waits_not : (s : S) → waits s s) (IsSender : SocketAddr → Type 0) (s t : S)
      (sender : SocketAddr) (bytes : List ℕ) → IsSender sender → brings s sender bytes t
      → HearsOf brings waits IsSender s bytes t
  heard_of waits_not IsSender s t sender bytes is brought = record {
    sender = sender;
    is = is;
    heard = record { mid = s; waited = waits_not s; brought = brought };
  }

  -- where no senders are named, one of any address is handed over
  pub from_any : (waits_not : (s : S) → waits s s) (senders : Senders) (s t : S) (count : ℕ)
      (buffer : List ℕ) → are_named senders ≡ false → count ≤ length buffer
      → BringsFromSome brings s (take count buffer) t
      → IsHandedOver brings waits (senders_of senders) s (Taken count) buffer t
  from_any waits_not senders s t count buffer any le some = (
    le,
    heard_of waits_not (IsTakenFrom (senders_of senders)) s t some.sender (take count buffer)
        (taken_from_any senders some.sender any) some.brought,
  )

  -- what is handed over after calls that brought none
  pub handed_over_later : (waits_more : (s t u : S) → waits s t → waits t u → waits s u)
      (senders : Option (List AllowedSender)) (s t u : S) (received : Received) (buffer : List ℕ)
      → waits s t → IsHandedOver brings waits senders t received buffer u
      → IsHandedOver brings waits senders s received buffer u
  handed_over_later more senders s t u (Taken count) buffer w (le, h) = (
    le,
    record {
      sender = h.sender;
      is = h.is;
      heard = record {
        mid = h.heard.mid;
        waited = more s t h.heard.mid w h.heard.waited;
        brought = h.heard.brought;
      };
    },
  )
  handed_over_later more senders s t u Foreign buffer w (bytes, h) = (
    bytes,
    record {
      sender = h.sender;
      is = h.is;
      heard = record {
        mid = h.heard.mid;
        waited = more s t h.heard.mid w h.heard.waited;
        brought = h.heard.brought;
      };
    },
  )
  handed_over_later more senders s t u (Failed fault) buffer w h = more s t u w h
  handed_over_later more senders s t u NoneYet buffer w h = more s t u w h
