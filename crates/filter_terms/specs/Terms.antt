-- The notices that meet given terms (this project's subscriptions).
use Rattle.std.specs.Prelude.{ℕ, Bool, true, false, Option, Some, None, nat_le, ◌&&◌}
use Rattle.std.specs.List.{list_any}
use Rattle.std.specs.Str.{bytes_eq}
use Rattle.feed_types.specs.declared.national.Best.{Best}
use Rattle.feed_types.specs.declared.national.NationalState.{NationalState}
use Rattle.feed_types.specs.declared.national.NationalState.TheVariants.{Empty, OneSided, Locked, Crossed, Normal}
use Rattle.feed_types.specs.declared.journal.Notice.{Notice}
use Rattle.feed_types.specs.Nationals.{state_of}
use Rattle.filter_terms.specs.declared.terms.Terms.{Terms, All, Symbol, AnyOf, MinSize, StateIs, Both'}

-- the side is there, and its size is at least this
abbrev pub has_size : ℕ → Option Best → Bool
has_size size None = false
has_size size (Some best) = nat_le size best.size

-- the two states are one
abbrev pub is_same_state : NationalState → NationalState → Bool
is_same_state Empty Empty = true
is_same_state OneSided OneSided = true
is_same_state Normal Normal = true
is_same_state Locked Locked = true
is_same_state Crossed Crossed = true
is_same_state x y = false

-- the notice meets the terms (the p and q of Both are where its parts lie)
abbrev pub meets : Terms → Notice → Bool
meets All notice = true
meets (Symbol symbol) notice = bytes_eq symbol notice.symbol
meets (AnyOf symbols) notice = list_any (λ symbol. bytes_eq symbol notice.symbol) symbols.items
meets (MinSize size) notice =
    has_size size notice.national.bid && has_size size notice.national.offer
meets (StateIs state) notice = is_same_state state (state_of notice.national)
meets (Both' p first q second) notice = meets first notice && meets second notice
