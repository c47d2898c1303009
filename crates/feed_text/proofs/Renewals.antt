-- Renewals before a packet, of one of the venues.
use Rattle.std.proofs.Common.{◌≡◌, ℕ, Bool, true, false, List, length, Option, Some, None, sym, ap, subst, ◌∙◌}
use Rattle.std.specs.Prelude.{Result, Ok, Err, MatchOption, slice_get, slice_set}
use Rattle.std.proofs.Math.ListN.{length-set}
use Rattle.std.proofs.lemmas.Option.{none-some}
use Rattle.mold_packet.specs.Content.{Content, Spells}
use Rattle.line_arbiter.specs.Histories.{History}
use Rattle.run_settings.specs.declared.next_session.NextSession.{NextSession}
use Rattle.feed_text.specs.declared.replay_sink.PublishStop.{PublishStop}
use Rattle.capture_records.specs.Capture.{renewal_record}
use Rattle.feed_text.specs.Following.{ReplayVenue, VenueList, EmitsNext, FollowAll, Follows}
use Rattle.feed_text.specs.Renewing.{BeginsNextSession, BeginsNone, IsNextName, IsPresentOver, RenewsOrStays}
use Rattle.feed_text.specs.RenewingVenues.{BeginsAtVenue, RenewsAtVenue, RenewsOne}
use Rattle.feed_text.specs.ReplayStates.{SinkTaking, ReplayState}
use Rattle.run_settings.specs.NextSessions.{names_after}
use Rattle.feed_types.specs.ListLaws.{same_set}
use Rattle.feed_text.proofs.Telling.{emits_next, follow_set, history_at}

-- the name that is found is the next one
pub name_by : (next : List NextSession) (venue : ℕ) (h : History) (o : Option (List ℕ))
    → IsPresentOver h
    → o ≡ slice_get (names_after venue next) (length h.earlier)
    → MatchOption o ((name : List ℕ) → IsNextName next venue h name → ⊥)
    (λ name. IsNextName next venue h name)
name_by next venue h None over is = λ name x. none-some name (is ∙ x.1)
name_by next venue h (Some name) over is = (over, sym is)

-- where a packet isn't of the next session, none begins
pub other_session : (next : List NextSession) (venue : ℕ) (bytes : List ℕ) (h : History)
    (packet : Content) (rest name : List ℕ)
    → ((x y : Content) (more less : List ℕ) → Spells bytes x more → Spells bytes y less → x ≡ y)
    → Spells bytes packet rest → IsNextName next venue h name → (packet.session ≡ name → ⊥)
    → BeginsNone next venue bytes h
other_session next venue bytes h packet rest name one spells is other = λ p more wanted sp x.
    let same : p ≡ packet = one p packet more rest sp spells in
    let some : Some wanted ≡ Some name = sym x.follows ∙ is.1 in
    let names : wanted ≡ name = cc in
    other (ap (λ (q : Content). q.session) (sym same) ∙ x.session ∙ names)

module _ {K : Type 0} (taking : SinkTaking K) (next : List NextSession) (venue : ℕ)
    (bytes : List ℕ) (window : ℕ) (hs : List History) (from to : VenueList)
    (old new : ReplayState K) (w : ReplayVenue) (h : History)
    (set : to.items ≡ slice_set from.items venue w) (f : FollowAll window from.items hs)
    (at : slice_get hs venue ≡ Some h) where
  begins_at : (done : Result (Unit {0}) PublishStop)
      → BeginsNextSession taking window from.gaps next venue bytes h old new w done
      → BeginsAtVenue taking window next venue bytes hs from to old new done
  begins_at done b = record {
    before = h;
    at = at;
    name = b.name;
    packet = b.packet;
    rest = b.rest;
    spells = b.spells;
    renews = b.renews;
    emits = subst (λ (ws : List ReplayVenue). EmitsNext taking window from.gaps
        (renewal_record venue b.name) hs old new ws done) (sym set)
        (emits_next window from.gaps from.items hs (renewal_record venue b.name) w h old new done f
        at b.emits);
  }

  pub renews_one : (answer : Result Bool PublishStop)
      → RenewsOrStays taking window from.gaps next venue bytes h old new w answer
      → RenewsOne taking window next venue bytes hs from to old new answer
  renews_one (Ok true) b = begins_at (Ok tt) b
  renews_one (Err stop) b = begins_at (Err stop) b
  renews_one (Ok false) b = record {
    none = λ k there.
        let some : Some h ≡ Some k = sym at ∙ there in
        let same : h ≡ k = cc in subst (BeginsNone next venue bytes) same b.none;
    same = b.same;
    follow = subst (λ (ws : List ReplayVenue). FollowAll window ws hs) (sym set)
        (subst (FollowAll window (slice_set from.items venue w)) (same_set hs venue h at)
        (follow_set window venue from.items hs w h f b.follows));
  }

pub renews_at : {K : Type 0} {taking : SinkTaking K} → (next : List NextSession) (venue : ℕ)
    (bytes : List ℕ) (from to : VenueList) (old new : ReplayState K)
    (answer : Result Bool PublishStop) (v w : ReplayVenue) → slice_get from.items venue ≡ Some v
    → to.items ≡ slice_set from.items venue w → to.gaps ≡ from.gaps
    → ((width : ℕ) (h : History) → Follows width venue v h
    → RenewsOrStays taking width from.gaps next venue bytes h old new w answer)
    → RenewsAtVenue taking next venue bytes from to old new answer
renews_at {taking = taking} next venue bytes from to old new answer v w at set gaps step = record {
  gaps = gaps;
  count = ap length set ∙ length-set from.items venue w;
  renews = λ window hs f.
      let h = history_at window from.items hs venue v f at in
      renews_one taking next venue bytes window hs from to old new w h.0 set f h.1 answer
      (step window h.0 h.2);
}
