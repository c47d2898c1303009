use Rattle.std.proofs.Common.{rules, ◌≡◌, ◌<◌, ℕ, List, length, Option, Some, None, refl, sym, subst, ◌∙◌}
use Rattle.std.specs.Prelude.{MatchOption, slice_get}
use Rattle.std.proofs.lemmas.Option.{slice_get_read}
use Rattle.line_arbiter.specs.Histories.{History}
use Rattle.feed_text.specs.declared.replay.ReplayConfig.{ReplayConfig}
use Rattle.feed_text.specs.Following.{ReplayVenue, VenueList, FollowAll}
use Rattle.feed_text.specs.Skipping.{SkipsAtVenue, SkipsBytes}
use Rattle.feed_text.proofs.Telling.{history_at}
use Rattle.feed_text.proofs.venues.ReplayVenues.skip_before.Goals as goal

-- what is given up before bytes is given up at their venue
at_venue : (config : ReplayConfig) (hs : List History) (venue : ℕ) (bytes : List ℕ) (h : History)
    (o : Option ℕ) → slice_get hs venue ≡ Some h
    → MatchOption o ((number : ℕ) → SkipsBytes config.skips config.window h bytes number → ⊥)
    (λ number. SkipsBytes config.skips config.window h bytes number)
    → MatchOption o ((number : ℕ) → SkipsAtVenue config hs venue bytes number → ⊥)
    (λ number. SkipsAtVenue config hs venue bytes number)
at_venue config hs venue bytes h None at none = λ number x.
    let some : Some x.before ≡ Some h = sym x.at ∙ at in
    let same : x.before ≡ h = cc in
    none number (subst (λ (k : History). SkipsBytes config.skips config.window k bytes number) same
    x.skips)
at_venue config hs venue bytes h (Some n) at some = record { before = h; at = at; skips = some }

pub returns : goal.returns
returns c = λ hs f.
    let venue : ℕ = c.args.venue in
    let items : List ReplayVenue = c.self.inside.venues.items in
    let g : FollowAll c.args.config.now.window items hs =
    subst (λ (s : VenueList). FollowAll c.args.config.now.window s.items hs)
    (sym c.self.view_is) f in
    let there : venue < length items = rw (← c.index.ensures.value) (search rules) in
    let at = slice_get_read items (length items) venue _ refl there
    (rw (← c.index.ensures.value) c.index-replay.ensures) in
    let h = history_at c.args.config.now.window items hs venue c.index-replay.result.now g at in
    at_venue c.args.config.now hs venue c.args.bytes.now h.0 c.skip_before_datagram.result h.1
    (c.skip_before_datagram.ensures venue h.0 h.2)
