use Rattle.std.proofs.Common.{◌≡◌, ◌++◌, ℕ, List, [], ◌∷◌}
use Rattle.message_types.specs.LineMessageLaws.{line_messages}
use Rattle.message_types.specs.TypeCounts.{AddsCounts}
use Rattle.message_types.proofs.counts.TypeCounts.count_packet.Given as goal

abbrev pub invariant-loop-message : goal.invariant-loop-message
invariant-loop-message l =
    (taken : List (List ℕ)) × (taken ++ l.message-iterator ≡ l.packet.messages)
    × AddsCounts l.fn.self (line_messages l.venue l.line taken ∷ []) l.self
