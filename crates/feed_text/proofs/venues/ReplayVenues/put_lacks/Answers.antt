use Rattle.std.proofs.Common.{◌≡◌, ◌≤◌, ℕ, Some, List, length, refl, ap, subst, ◌∙◌, arith}
use Rattle.std.specs.Prelude.{slice_get}
use Rattle.std.proofs.lemmas.Option.{slice_get_read}
use Rattle.feed_text.specs.Following.{ReplayVenue, VenueList}
use Rattle.feed_text.proofs.Telling.{history_at, lacks_more, lacks_done}
use Rattle.feed_text.proofs.venues.ReplayVenues.put_lacks.Goals as goal

pub loop-venue-init : goal.loop-venue-init
loop-venue-init c = record { lacks = λ window hs f. refl; most = omega arith; capacity = refl }

pub put_lack-requires : goal.put_lack-requires
put_lack-requires c =
    let all : length c.deref-venue-items.result.now ≡ length c.args.self.now.items =
    ap length c.deref-venue-items.ensures.value
    ∙ ap (λ (s : VenueList). length s.items) c.self.view_is in
    rw c.loop-venue.invariant.capacity (omega (
      arith,
      all,
      c.requires,
      c.loop-venue.invariant.most,
      c.loop-venue-test.true,
    ))

pub loop-venue-preserved : goal.loop-venue-preserved
loop-venue-preserved c = record {
  lacks = λ window hs f.
      let i : ℕ = c.loop-venue.venue-index in
      let all : c.deref-venue-items.result.now ≡ c.args.self.now.items =
      c.deref-venue-items.ensures.value ∙ ap (λ (s : VenueList). s.items) c.self.view_is in
      let here : slice_get c.args.self.now.items i ≡ Some c.venue-item.result =
      subst (λ (xs : List ReplayVenue). slice_get xs i ≡ Some c.venue-item.result) all
      (slice_get_read c.deref-venue-items.result.now (length c.deref-venue-items.result.now) i
      c.venue-item.result refl c.loop-venue-test.true c.venue-item.is) in
      let h = history_at window c.args.self.now.items hs i c.venue-item.result f here in
      lacks_more window hs i h.0 c.loop-venue.lacks.items c.put_lack.new.lacks.items _ h.1
      (c.put_lack.ensures.lack window i h.0 h.2) (c.loop-venue.invariant.lacks window hs f);
  most = omega (arith, c.loop-venue.invariant.most, c.put_lack.ensures.most);
  capacity = c.put_lack.ensures.capacity ∙ c.loop-venue.invariant.capacity;
}

pub returns : goal.returns
returns c = λ window hs f.
    let i : ℕ = c.loop-venue.venue-index in
    let all : c.deref-venue-items.result.now ≡ c.args.self.now.items =
    c.deref-venue-items.ensures.value ∙ ap (λ (s : VenueList). s.items) c.self.view_is in
    let past : length hs ≤ i = rw (← f.count, ← all) c.loop-venue-test.false in
    lacks_done window hs i c.loop-venue.lacks.items _ past
    (c.loop-venue.invariant.lacks window hs f)
