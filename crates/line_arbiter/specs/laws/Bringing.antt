-- What a list of packets and skips brought and announced, when one more has come.
use Rattle.std.proofs.Common.{◌≡◌, ℕ, ◌+◌, ◌<◌, ◌≤◌, Bool, true, false, List, length, [], ◌∷◌, ◌++◌, Some, None, ap, ◌∙◌, ◌-◌}
use Rattle.std.specs.Prelude.{◌&&◌, nat_le, nat_lt, max, find, if◌then◌else◌}
use Rattle.std.specs.Option.{option_map, option_or}
use Rattle.std.proofs.lemmas.Bool.{and_parts, leb-true, ltb-true}
use Rattle.std.proofs.lemmas.List.Folds.{find-append}
use Rattle.std.proofs.lemmas.List.Sums.{fold_push}
use Rattle.line_arbiter.specs.Packets.{Arrival, Input, Arrived, Skip, bringer, brings, carried, first_by, first_of, has_number, is_taken, is_ending, item_at, item_brought, number_by, top_by, top_of, end_of, is_ended}
use Rattle.line_arbiter.specs.Streams.{opens_of}
use Rattle.feed_types.specs.declared.item.Item.TheVariants as items
use Rattle.mold_packet.specs.Content.{Content}
use Rattle.line_arbiter.specs.laws.Options.{or_none, map_or, picked}

-- a packet's numbers are one after the other
pub number_in : (p : Content) (m : ℕ) → has_number p m ≡ true
    → (p.number ≤ m) × (m < p.number + length p.messages)
number_in p m h =
    let both =
    and_parts (nat_le p.number m) (nat_lt m (p.number + length p.messages)) h in
    (leb-true _ _ both.0, ltb-true _ _ both.1)

pub top_of-push : (packets : List Input) (x : Input)
    → top_of (packets ++ x ∷ []) ≡ top_by (top_of packets) x
top_of-push packets x = fold_push (λ n y. top_by n y) 0 packets x

pub first_of-push : (packets : List Input) (x : Input)
    → first_of (packets ++ x ∷ []) ≡ first_by (first_of packets) x
first_of-push packets x = fold_push (λ n y. first_by n y) 1 packets x

-- a packet goes on with the present part
pub opens_same : (packets : List Input) (a : Arrival)
    → opens_of (packets ++ Arrived a ∷ []) ≡ opens_of packets
opens_same packets a = ap (λ (n : ℕ). max 1 (n - 1)) (first_of-push packets (Arrived a))

pub bringer-push : (packets : List Input) (x : Input) (m : ℕ)
    → bringer (packets ++ x ∷ []) m
    ≡ option_or (bringer packets m) (if brings m x then Some x else None)
bringer-push packets x m = find-append (brings m) packets (x ∷ [])

find_one : {A B : Type 0} (f : A → B) (q : A → Bool) (a : A)
    → option_map f (find q (a ∷ [])) ≡ (if q a then Some (f a) else None)
find_one f q a = picked f (q a) a

pub carried-push : (packets : List Input) (x : Input) (m : ℕ)
    → carried (packets ++ x ∷ []) m
    ≡ option_or (carried packets m) (if brings m x then Some (item_brought x m) else None)
carried-push packets x m =
    ap (option_map (λ (y : Input). item_brought y m)) (find-append (brings m) packets (x ∷ []))
    ∙ map_or (λ (y : Input). item_brought y m) (find (brings m) packets) (find (brings m) (x ∷ []))
    ∙ ap (option_or (carried packets m)) (find_one (λ (y : Input). item_brought y m) (brings m) x)

-- a packet that was not taken carries nothing
pub carried_same : (packets : List Input) (a : Arrival) (m : ℕ) → is_taken a.answer ≡ false
    → carried (packets ++ Arrived a ∷ []) m ≡ carried packets m
carried_same packets a m untaken =
    carried-push packets (Arrived a) m
    ∙ ap (λ (b : Bool). option_or (carried packets m)
    (if b && has_number a.packet m then Some (item_at a.packet m) else None)) untaken
    ∙ or_none (carried packets m)

pub carried_more : (packets : List Input) (a : Arrival) (m : ℕ) → is_taken a.answer ≡ true
    → carried (packets ++ Arrived a ∷ []) m
    ≡ option_or (carried packets m)
    (if has_number a.packet m then Some (item_at a.packet m) else None)
carried_more packets a m was_taken =
    carried-push packets (Arrived a) m
    ∙ ap (λ (b : Bool). option_or (carried packets m)
    (if b && has_number a.packet m then Some (item_at a.packet m) else None)) was_taken

-- a skip gives up what wasn't taken below its number
pub carried_skip : (packets : List Input) (n m : ℕ)
    → carried (packets ++ Skip n ∷ []) m
    ≡ option_or (carried packets m) (if nat_lt m n then Some items.Skipped else None)
carried_skip packets n m = carried-push packets (Skip n) m

pub end_of_input : (packets : List Input) (x : Input)
    → end_of (packets ++ x ∷ [])
    ≡ option_or (end_of packets) (if is_ending x then Some (number_by x) else None)
end_of_input packets x =
    ap (option_map (λ (y : Input). number_by y))
    (find-append (λ (y : Input). is_ending y) packets (x ∷ []))
    ∙ map_or (λ (y : Input). number_by y) (find (λ (y : Input). is_ending y) packets)
    (find (λ (y : Input). is_ending y) (x ∷ []))
    ∙ ap (option_or (end_of packets))
    (find_one (λ (y : Input). number_by y) (λ (y : Input). is_ending y) x)

pub end_of-push : (packets : List Input) (a : Arrival)
    → end_of (packets ++ Arrived a ∷ [])
    ≡ option_or (end_of packets) (if is_ended a.answer then Some a.packet.number else None)
end_of-push packets a = end_of_input packets (Arrived a)

pub end_of_skip : (packets : List Input) (n : ℕ) → end_of (packets ++ Skip n ∷ []) ≡ end_of packets
end_of_skip packets n = end_of_input packets (Skip n) ∙ or_none (end_of packets)

pub end_same : (packets : List Input) (a : Arrival) → is_ended a.answer ≡ false
    → end_of (packets ++ Arrived a ∷ []) ≡ end_of packets
end_same packets a unended =
    end_of-push packets a
    ∙ ap (λ (b : Bool). option_or (end_of packets) (if b then Some a.packet.number else None))
    unended ∙ or_none (end_of packets)
