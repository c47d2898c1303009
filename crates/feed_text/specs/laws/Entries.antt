-- The entries of events after events, and that a journal only grows.
use Rattle.std.proofs.Common.{◌≡◌, Bool, true, false, ◌≤◌, List, [], ◌∷◌, ◌++◌, length, refl, arith, length-append}
use Rattle.std.specs.Prelude.{if◌then◌else◌}
use Rattle.feed_types.specs.declared.journal.Entry.{Entry}
use Rattle.feed_types.specs.declared.journal.Entry.TheVariants.{Consumed, SelfHelp}
use Rattle.nbbo_book.specs.Eligible.{is_so}
use Rattle.feed_text.specs.ReplayEvents.{ReplayEvent, packet_answered, packet_refused, item_taken, gap_left, renewal_answered, skip_answered, self_help_declared, entries_after, entries_of}

pub entries_more : (old : List Entry) (xs ys : List ReplayEvent)
    → entries_of old (xs ++ ys) ≡ entries_of (entries_of old xs) ys
entries_more old [] ys = refl
entries_more old (x ∷ xs) ys = entries_more (entries_after old x) xs ys

if_grows : (b : Bool) (old : List Entry) (e : Entry)
    → length old ≤ length (if b then old else old ++ e ∷ [])
if_grows true old e = omega arith
if_grows false old e = let n = length-append old (e ∷ []) in omega arith

after_grows : (old : List Entry) (h : ReplayEvent) → length old ≤ length (entries_after old h)
after_grows old (packet_answered venue line number count bytes answer) = omega arith
after_grows old (packet_refused venue line fault) = omega arith
after_grows old (item_taken venue numbered) =
    let n = length-append old (Consumed venue numbered ∷ []) in omega arith
after_grows old (gap_left venue request) = omega arith
after_grows old (renewal_answered venue answer) = omega arith
after_grows old (skip_answered venue number answer) = omega arith
after_grows old (self_help_declared venue on) =
    if_grows (is_so old venue on) old (SelfHelp venue on)

-- the journal only grows
pub entries_grow : (old : List Entry) (hs : List ReplayEvent)
    → length old ≤ length (entries_of old hs)
entries_grow old [] = omega arith
entries_grow old (h ∷ hs) =
    let a = after_grows old h in let b = entries_grow (entries_after old h) hs in omega arith
