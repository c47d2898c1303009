-- A packet whose blocks are a session's messages at their numbers is of the session of their items.
use Rattle.std.proofs.Common.{ℕ, ◌+◌, ◌-◌, List, [], ◌∷◌, Option, ap, ◌∙◌, arith}
use Rattle.std.specs.List.{AllByRecursion}
use Rattle.std.specs.Option.{option_map}
use Rattle.std.proofs.lemmas.Option.{slice_get-map}
use Rattle.std.proofs.lemmas.List.{length-map}
use Rattle.mold_packet.specs.Content.{Content}
use Rattle.quote_payload.specs.Payload.{item_of}
use Rattle.line_arbiter.specs.Packets.{Input, Arrived, Skip}
use Rattle.line_arbiter.specs.OfSession.{AreOfSession, IsInputOf, IsInputOfMessages, IsOfMessages, IsOfSession, session_of_messages}

pub of_messages : (name : List ℕ) (messages : List (List ℕ)) (p : Content)
    → IsOfMessages name messages p → IsOfSession (session_of_messages name messages) p
of_messages name messages p of = record {
  name = of.name;
  messages = λ k lt.
      slice_get-map item_of messages (p.number + k - 1)
      ∙ ap (λ (o : Option (List ℕ)). option_map item_of o) (of.messages k lt);
  heartbeat = λ is. let h = of.heartbeat is in let l = length-map messages item_of in omega arith;
  end = λ is. let h = of.end is in let l = length-map messages item_of in omega arith;
}

input_of : (name : List ℕ) (messages : List (List ℕ)) (x : Input)
    → IsInputOfMessages name messages x → IsInputOf (session_of_messages name messages) x
input_of name messages (Arrived a) of = λ is. of_messages name messages a.packet (of is)
input_of name messages (Skip n) of = let l = length-map messages item_of in omega arith

pub all_of_messages : (name : List ℕ) (messages : List (List ℕ)) (packets : List Input)
    → AllByRecursion (IsInputOfMessages name messages) packets
    → AreOfSession (session_of_messages name messages) packets
all_of_messages name messages [] all = tt
all_of_messages name messages (x ∷ packets) all = (
  input_of name messages x all.0,
  all_of_messages name messages packets all.1,
)
