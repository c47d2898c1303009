use Rattle.std.proofs.Common.{◌≡◌, ◌≤◌, ◌+◌, ◌∷◌, [], ℕ, Some, None, List, length, drop, refl, sym, ap, subst, ◌∙◌}
use Rattle.std.specs.Prelude.{slice_get}
use Rattle.std.proofs.lemmas.Option.{slice_get_read}
use Rattle.std.proofs.lemmas.Result.{err_from_is_err_and}
use Rattle.event_sinks.specs.SinkEvents.{SinkEvent, at_time, timed_event}
use Rattle.feed_text.specs.Tellings.{last_told, lasts_told}
use Rattle.feed_text.specs.Following.{ReplayVenue, VenueList}
use Rattle.feed_text.proofs.Telling.{history_at, lasts_rest, lasts_done}
use Rattle.feed_text.proofs.venues.ReplayVenues.tell_last.Goals as goal

pub loop-venue-init : goal.loop-venue-init
loop-venue-init g c = record { took = λ window hs f end t. t; failed = λ window hs f end t. t }

pub loop-venue-preserved : goal.loop-venue-preserved
loop-venue-preserved g c =
    let i : ℕ = c.loop-venue.venue-index in
    let all : c.deref-venue-items.result.now ≡ c.args.self.now.items =
    c.deref-venue-items.ensures.value ∙ ap (λ (s : VenueList). s.items) c.self.view_is in
    let here : slice_get c.args.self.now.items i ≡ Some c.venue-item.result =
    subst (λ (xs : List ReplayVenue). slice_get xs i ≡ Some c.venue-item.result) all
    (slice_get_read c.deref-venue-items.result.now (length c.deref-venue-items.result.now) i
    c.venue-item.result refl c.loop-venue-test.true c.venue-item.is) in
    record {
      took = λ window hs f end t.
          let h = history_at window c.args.self.now.items hs i c.venue-item.result f here in
          c.loop-venue.invariant.took window hs f end
          (subst (λ (l : List SinkEvent). g.K.EventSink.takes c.loop-venue.sink (at_time None l)
          end) (sym (lasts_rest hs i h.0 h.1))
          (g.met.K.EventSink.takes_more _ _ _ (timed_event None (last_told i h.0) ∷ [])
          (at_time None (lasts_told (i + 1) (drop (i + 1) hs)))
          (c.in_ok-tell_last.ensures.took window i h.0 h.2) t));
      failed = λ window hs f end t.
          let h = history_at window c.args.self.now.items hs i c.venue-item.result f here in
          c.loop-venue.invariant.failed window hs f end
          (subst (λ (l : List SinkEvent). g.K.EventSink.fails c.loop-venue.sink (at_time None l)
          end) (sym (lasts_rest hs i h.0 h.1))
          (g.met.K.EventSink.fails_after _ _ _ (timed_event None (last_told i h.0) ∷ [])
          (at_time None (lasts_told (i + 1) (drop (i + 1) hs)))
          (c.in_ok-tell_last.ensures.took window i h.0 h.2) t));
    }

pub returns-clause-took : goal.returns-clause-took
returns-clause-took g c = λ window hs f.
    let i : ℕ = c.loop-venue.venue-index in
    let all : c.deref-venue-items.result.now ≡ c.args.self.now.items =
    c.deref-venue-items.ensures.value ∙ ap (λ (s : VenueList). s.items) c.self.view_is in
    let past : length hs ≤ i = rw (← f.count, ← all) c.loop-venue-test.false in
    c.loop-venue.invariant.took window hs f c.loop-venue.sink
    (subst (λ (l : List SinkEvent). g.K.EventSink.takes c.loop-venue.sink (at_time None l)
    c.loop-venue.sink) (sym (lasts_done hs i past))
    (g.met.K.EventSink.takes_none c.loop-venue.sink))

pub returns-in_err-tell_last-clause-failed : goal.returns-in_err-tell_last-clause-failed
returns-in_err-tell_last-clause-failed g c =
    let p = err_from_is_err_and c.from_residual.result c.from_residual.ensures.1 in
    let i : ℕ = c.loop-venue.venue-index in
    let all : c.deref-venue-items.result.now ≡ c.args.self.now.items =
    c.deref-venue-items.ensures.value ∙ ap (λ (s : VenueList). s.items) c.self.view_is in
    let here : slice_get c.args.self.now.items i ≡ Some c.venue-item.result =
    subst (λ (xs : List ReplayVenue). slice_get xs i ≡ Some c.venue-item.result) all
    (slice_get_read c.deref-venue-items.result.now (length c.deref-venue-items.result.now) i
    c.venue-item.result refl c.loop-venue-test.true c.venue-item.is) in
    rw p.1 (λ window hs f.
    let h = history_at window c.args.self.now.items hs i c.venue-item.result f here in
    c.loop-venue.invariant.failed window hs f c.tell_last.new.sink
    (subst (λ (l : List SinkEvent). g.K.EventSink.fails c.loop-venue.sink (at_time None l)
    c.tell_last.new.sink) (sym (lasts_rest hs i h.0 h.1))
    (g.met.K.EventSink.fails_longer _ _ (timed_event None (last_told i h.0) ∷ [])
    (at_time None (lasts_told (i + 1) (drop (i + 1) hs)))
    (c.in_err-tell_last.ensures.failed window i h.0 h.2))))
