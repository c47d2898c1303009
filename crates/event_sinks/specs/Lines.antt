-- The printed lines, this project's own format: fields separated by one space, numbers in decimal,
-- and a line feed at the end.
use Rattle.std.specs.Prelude.{ℕ, Bool, List, [], ◌∷◌, ◌++◌, codes, Option, Some, None, Result, Ok, Err, true, false}
use Rattle.feed_types.specs.declared.item.Item.{Item}
use Rattle.feed_types.specs.declared.item.Item.TheVariants as items
use Rattle.feed_types.specs.declared.item.Numbered.{Numbered}
use Rattle.feed_types.specs.declared.line.LineId.{LineId}
use Rattle.feed_types.specs.declared.line.LineId.TheVariants.{A, B, Recovery}
use Rattle.feed_types.specs.declared.journal.Notice.{Notice}
use Rattle.feed_types.specs.declared.national.Best.{Best}
use Rattle.feed_types.specs.declared.national.NationalState.{NationalState}
use Rattle.feed_types.specs.Nationals.{state_of}
use Rattle.feed_types.specs.Symbols.{name_of}
use Rattle.feed_types.specs.Text.{line_letter, side_text, state_text}
use Rattle.mold_packet.specs.declared.request.Request.{Request}
use Rattle.line_arbiter.specs.declared.outcome.Outcome.{Outcome}
use Rattle.line_arbiter.specs.declared.outcome.Outcome.TheVariants.{Taken, Heartbeat, Ended, Ahead}
use Rattle.line_arbiter.specs.declared.outcome.LineFault.{LineFault}
use Rattle.line_arbiter.specs.declared.faults.RenewFault.{RenewFault}
use Rattle.line_arbiter.specs.declared.faults.SkipFault.{SkipFault}
use Rattle.line_arbiter.specs.Codes.{line_fault_code, renew_fault_code, skip_fault_code}
use Rattle.text_out.specs.Fields.{field}

abbrev pub line_end : List ℕ
line_end = codes "\n"

-- packet V L ..: the venue's number and the line's letter, before the outcome of the datagram
abbrev pub packet_head : ℕ → LineId → List ℕ
packet_head venue line = codes "packet" ++ field venue ++ codes " " ++ line_letter line ∷ []

abbrev pub refused_tail : ℕ → List ℕ
refused_tail code = codes " refused" ++ field code ++ line_end

abbrev pub outcome_tail : Result Outcome LineFault → List ℕ
outcome_tail (Ok (Taken new repeated)) = codes " taken" ++ field new ++ field repeated ++ line_end
outcome_tail (Ok Heartbeat) = codes " heartbeat" ++ line_end
outcome_tail (Ok Ended) = codes " ended" ++ line_end
outcome_tail (Ok Ahead) = codes " ahead" ++ line_end
outcome_tail (Err fault) = refused_tail (line_fault_code fault)

-- packet V L ..: the line of a datagram whose packet was answered, or that is no packet
abbrev pub packet_line : ℕ → LineId → Result Outcome LineFault → List ℕ
packet_line venue line answer = packet_head venue line ++ outcome_tail answer

abbrev pub fault_line : ℕ → LineId → ℕ → List ℕ
fault_line venue line code = packet_head venue line ++ refused_tail code

abbrev pub item_word : Item → List ℕ
item_word (items.Quote quote) = codes " quote"
item_word (items.Halt symbol true) = codes " halt"
item_word (items.Halt symbol false) = codes " trading"
item_word items.Other = codes " other"
item_word items.Skipped = codes " skipped"
item_word items.End = codes " end"

-- item V NUMBER ..: an item that was ready
abbrev pub item_line : ℕ → Numbered → List ℕ
item_line venue n = codes "item" ++ field venue ++ field n.number ++ item_word n.item ++ line_end

-- a side of a national best after a space
abbrev pub side_field : Option Best → List ℕ
side_field side = codes " " ++ side_text side

abbrev pub state_tail : NationalState → List ℕ
state_tail state = codes " " ++ state_text state ++ line_end

-- best NOTICE POSITION SYMBOL BID OFFER STATE: a change of the national best of a symbol
abbrev pub best_line : Notice → List ℕ
best_line n =
    codes "best" ++ field n.number ++ field n.position ++ codes " " ++ name_of n.symbol
    ++ side_field n.national.bid ++ side_field n.national.offer ++ state_tail (state_of n.national)

-- gap V NUMBER COUNT: the run of messages to ask for
abbrev pub gap_line : ℕ → Request → List ℕ
gap_line venue request =
    codes "gap" ++ field venue ++ field request.number ++ field request.count ++ line_end

abbrev pub on_word : Bool → List ℕ
on_word true = codes " on"
on_word false = codes " off"

abbrev pub position_tail : Option ℕ → List ℕ
position_tail (Some position) = field position ++ line_end
position_tail None = codes " already" ++ line_end

-- declare V on POSITION, or declare V on already; off likewise
abbrev pub declare_line : ℕ → Bool → Option ℕ → List ℕ
declare_line venue on position =
    codes "declare" ++ field venue ++ on_word on ++ position_tail position

-- renew V ORDINAL, or renew V refused N
abbrev pub renew_line : ℕ → Result ℕ RenewFault → List ℕ
renew_line venue (Ok ordinal) = codes "renew" ++ field venue ++ field ordinal ++ line_end
renew_line venue (Err fault) = codes "renew" ++ field venue ++ refused_tail (renew_fault_code fault)

-- skip V NUMBER, or skip V refused N: what is missing below the number is given up
abbrev pub skip_line : ℕ → ℕ → Result (Unit {0}) SkipFault → List ℕ
skip_line venue number (Ok done) = codes "skip" ++ field venue ++ field number ++ line_end
skip_line venue number (Err fault) =
    codes "skip" ++ field venue ++ refused_tail (skip_fault_code fault)

-- venue V sent SENT wins A B R: how many items were sent, and how many numbers each line brought
-- first
abbrev pub venue_line : ℕ → ℕ → (LineId → ℕ) → List ℕ
venue_line venue sent wins =
    codes "venue" ++ field venue ++ codes " sent" ++ field sent
    ++ codes " wins" ++ field (wins A) ++ field (wins B) ++ field (wins Recovery) ++ line_end

-- the counts, each by its line
abbrev pub wins_by : ℕ → ℕ → ℕ → LineId → ℕ
wins_by a b recovery A = a
wins_by a b recovery B = b
wins_by a b recovery Recovery = recovery
