-- What the item of a message never is, as a term: for proofs of the crates above.
use Rattle.std.specs.Prelude.{◌≡◌, ℕ, Bool, true, false, List, if◌then◌else◌, ◌==◌}
use Rattle.feed_types.specs.declared.item.Quote.{Quote}
use Rattle.feed_types.specs.declared.item.Item.TheVariants as item
use Rattle.quote_payload.specs.Payload.{symbol_at, is_version1, version1_of, is_version2, version2_of, is_halt, state_at, item_of}

not_end : (a b c : Bool) (q r : Quote) (s : List ℕ) (h : Bool) →
    (if a then item.Quote q else
    (if b then item.Quote r else (if c then item.Halt s h else item.Other))) ≡ item.End → ⊥
not_end true b c q r s h e = cc
not_end false true c q r s h e = cc
not_end false false true q r s h e = cc
not_end false false false q r s h e = cc

-- no message is the end of a session
pub item_of-never_end : (message : List ℕ) → item_of message ≡ item.End → ⊥
unfolding item_of
item_of-never_end message e =
    not_end (is_version1 message) (is_version2 message) (is_halt message)
    (version1_of message) (version2_of message) (symbol_at message) (state_at message == 1) e

not_skipped : (a b c : Bool) (q r : Quote) (s : List ℕ) (h : Bool) →
    (if a then item.Quote q else
    (if b then item.Quote r else (if c then item.Halt s h else item.Other))) ≡ item.Skipped → ⊥
not_skipped true b c q r s h e = cc
not_skipped false true c q r s h e = cc
not_skipped false false true q r s h e = cc
not_skipped false false false q r s h e = cc

-- no message says that others were given up
pub item_of-never_skipped : (message : List ℕ) → item_of message ≡ item.Skipped → ⊥
unfolding item_of
item_of-never_skipped message e =
    not_skipped (is_version1 message) (is_version2 message) (is_halt message)
    (version1_of message) (version2_of message) (symbol_at message) (state_at message == 1) e
