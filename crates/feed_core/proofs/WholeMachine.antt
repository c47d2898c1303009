-- A machine as it is made, and as it is shown in the end.
use Rattle.std.proofs.Common.{take, get_or, ◌≡◌, ℕ, suc, ◌+◌, ◌<◌, ◌≤◌, List, [], ◌∷◌, ◌++◌, length, map, Some, refl, sym, ap, subst, ◌∙◌, arith, length-append, inl, inr}
use Rattle.std.specs.Prelude.{slice_get, slice_set}
use Rattle.std.proofs.Math.ListN.{length-set}
use Rattle.std.proofs.lemmas.Option.{slice_get_within, slice_get_read}
use Rattle.std.proofs.lemmas.Bool.{cases_lt}
use Rattle.std.proofs.lemmas.List.{length-map, map-append, take_more}
use Rattle.std.proofs.lemmas.Grind.{common_steps}
use Rattle.feed_types.specs.declared.item.Numbered.{Numbered}
use Rattle.feed_types.specs.declared.journal.Notice.{Notice}
use Rattle.feed_types.specs.declared.config.FeedConfig.{FeedConfig}
use Rattle.filter_terms.specs.declared.terms.Terms.{Terms}
use Rattle.journal_book.specs.Changes.{changes_of}
use Rattle.feed_types.specs.ListLaws.{get_within}
use Rattle.journal_book.specs.Journals.{JournalState, Subscription, subscriptions_of}
use Rattle.journal_book.specs.Configs.{journal_of_config}
use Rattle.feed_steps.specs.declared.event.Event.{Event}
use Rattle.feed_steps.specs.declared.event.Done.{Done}
use Rattle.feed_core.specs.Worlds.{Lane, Venue, Subscriber, Setting, setting_of, new_venue, new_world}
use Rattle.feed_core.specs.Headline.{ShownVenue, shown_venue, shown_subscriber, IsRunOf}
use Rattle.feed_core.specs.Fitting.{VenueView, FitsVenue, ShowsLane, MachineView, FitVenues, FitSubscribers, FitsWorld, HasReached, venue_shown, subscriber_shown, shown_by, ShownTo, ShowVenues}
use Rattle.feed_steps.specs.laws.Lists.{get_at_set, get_off_set, get_push}

-- ---- as it is made

fit_push : (window : ℕ) (cs : List VenueView) (vs : List Venue) (c : VenueView) (v : Venue)
    → FitVenues window cs vs → FitsVenue window (length vs) c v
    → FitVenues window (cs ++ c ∷ []) (vs ++ v ∷ [])
fit_push window cs vs c v f now = record {
  count = length-append cs (c ∷ []) ∙ ap (λ (n : ℕ). n + 1) f.count
      ∙ sym (length-append vs (v ∷ []));
  each = λ j d u e g. elim (get_push cs j c d e) [
    | inl last ↦ elim (get_push vs j v u g) [
      | inl both ↦ rw (both.0, last.1, both.1) now
      | inr before ↦ let n = f.count in let a = last.0 in let b = before.0 in absurd (omega arith)
    ]
    | inr early ↦ elim (get_push vs j v u g) [
      | inl end ↦ let n = f.count in let a = early.0 in let b = end.0 in absurd (omega arith)
      | inr both ↦ f.each j d u early.1 both.1
    ]
  ];
}

pub fit_next : (window : ℕ) (cs : List VenueView) (sessions : List (List ℕ)) (i : ℕ) (c : VenueView)
    → FitVenues window cs (map new_venue (take i sessions)) → i < length sessions
    → FitsVenue window i c (new_venue (get_or sessions i []))
    → FitVenues window (cs ++ c ∷ []) (map new_venue (take (i + 1) sessions))
fit_next window cs sessions i c f h now =
    let vs : List Venue = map new_venue (take i sessions) in
    let len : length vs ≡ i = length-map (take i sessions) new_venue ∙ length-take_le i sessions h
    in
    let more : map new_venue (take (i + 1) sessions) ≡ vs ++ new_venue (get_or sessions i [])
    ∷ [] = rw (take_more sessions i [] h) (map-append new_venue (take i sessions)
    (get_or sessions i [] ∷ [])) in
    rw more (fit_push window cs vs c (new_venue (get_or sessions i [])) f (rw len now))
  where
    length-take_le : (n : ℕ) (xs : List (List ℕ)) → n < length xs → length (take n xs) ≡ n
    length-take_le n xs h = grind (arith, common_steps)

pub new_fits : (config : FeedConfig) (filters : List Terms) (cs : List VenueView)
    (journal : JournalState) → FitVenues config.window cs (map new_venue config.sessions.now)
    → journal ≡ journal_of_config config
    → FitsWorld (setting_of config filters) (record {
      venues = cs;
      journal = journal;
      lanes = [];
      capacity = config.lane;
      used = 0;
    }) (new_world (setting_of config filters))
new_fits config filters cs journal f empty = record {
  venues = f;
  entries = ap (λ (j : JournalState). j.entries) empty;
  symbols = ap (λ (j : JournalState). j.symbols) empty;
  journal = ap (λ (j : JournalState). j.journal) empty;
  counted = ap (λ (j : JournalState). j.venues) empty
      ∙ sym (length-map config.sessions.now new_venue);
  placed = length-map config.sessions.now new_venue;
  capacity = refl;
  subscribers = record {
    count = refl;
    known = ap (λ (j : JournalState). length (subscriptions_of j)) empty;
    each = λ i b c x p q r. absurd cc;
    terms = λ i x a. absurd cc;
  };
  used = refl;
  in_turn = λ h. refl;
}

-- ---- as it is shown

pub shown_none : (window : ℕ) (cs : List VenueView) (vs : List Venue) → FitVenues window cs vs
    → ShownTo window 0 cs vs
shown_none window cs vs f = record {
  count = f.count;
  early = λ i c v h. absurd (omega arith);
  late = λ i c v h. f.each i c v;
}

pub shown_next : (window n : ℕ) (cs : List VenueView) (vs : List Venue) (c new : VenueView)
    → n < length cs → c ≡ get_or cs n c → ((w p : ℕ) (v : Venue) → FitsVenue w p c v
    → ShowsLane new.lane v) → ShownTo window n cs vs → ShownTo window (n + 1)
    (slice_set cs n new) vs
shown_next window n cs vs c new lt value shows s = record {
  count = length-set cs n new ∙ s.count;
  early = λ i d v h e g. elim (cases_lt i n) [
    | inl early ↦ s.early i d v early (get_off_set cs n i new d e (λ at. omega arith)) g
    | inr late ↦
        let at : i ≡ n = omega arith in
        let same : d ≡ new = get_at_set cs n i new d e at in
        rw same (shows window n v (s.late n c v (omega arith) (slice_get_read cs (length cs) n c
        refl lt value) (subst (λ (k : ℕ). slice_get vs k ≡ Some v) at g)))
  ];
  late = λ i d v h e g. s.late i d v (omega arith) (get_off_set cs n i new d e (λ at. omega arith))
      g;
}

pub shown_all : (window n : ℕ) (cs : List VenueView) (vs : List Venue) → length cs ≤ n
    → ShownTo window n cs vs → ShowVenues cs vs
shown_all window n cs vs h s = record {
  count = s.count;
  each = λ i c v e g. let lt =
      slice_get_within cs i c e in s.early i c v (omega arith) e g;
}

-- two maps agree where they agree place by place
same_map : {X Y Z : Type 0} (f : X → Z) (g : Y → Z) (xs : List X) (ys : List Y)
    → length xs ≡ length ys → ((i : ℕ) (x : X) (y : Y) → slice_get xs i ≡ Some x
    → slice_get ys i ≡ Some y → f x ≡ g y) → map f xs ≡ map g ys
same_map f g [] [] n h = refl
same_map f g [] (y ∷ ys) n h = absurd (omega arith)
same_map f g (x ∷ xs) [] n h = absurd (omega arith)
same_map f g (x ∷ xs) (y ∷ ys) n h = ap (λ (z : _). z ∷ map f xs) (h 0 x y refl refl)
    ∙ ap (λ (l : List _). g y ∷ l) (same_map f g xs ys (omega arith)
    (λ i a b p q. h (suc i) a b p q))

venues_shown : (cs : List VenueView) (vs : List Venue) → ShowVenues cs vs
    → map venue_shown cs ≡ map shown_venue vs
venues_shown cs vs s = same_map venue_shown shown_venue cs vs s.count
    (λ i c v a b. both (s.each i c v a b).consumed (s.each i c v a b).waiting)
  where
    both : {p q r t : List Numbered} → p ≡ q → r ≡ t
        → (let x : ShownVenue = record { consumed = p; waiting = r } in let y : ShownVenue =
        record { consumed = q; waiting = t } in x ≡ y)
    both e f = λ i. record { consumed = e i; waiting = f i }

subscribers_shown : (s : Setting) (subscriptions : List Subscription) (lanes : List (Lane Notice))
    (xs : List Subscriber) → FitSubscribers s subscriptions lanes xs
    → map subscriber_shown lanes ≡ map shown_subscriber xs
subscribers_shown s subscriptions lanes xs f = same_map subscriber_shown shown_subscriber lanes
    xs f.count (λ i c x a b.
    let within = slice_get_within lanes i c a in
    let n = f.count in
    let k = f.known in
    let there = get_within subscriptions i (omega arith) in
    ap subscriber_shown (f.each i there.0 c x there.1 a b).lane)

pub finished : (s : Setting) (es : List Event) (ds : List Done) (m : MachineView)
    (cs : List VenueView) → HasReached s es ds m
    → ((window : ℕ) (vs : List Venue) → FitVenues window m.venues vs → ShowVenues cs vs)
    → IsRunOf s es (shown_by ds cs m.journal m.lanes)
finished s es ds m cs r shows =
    let f = r.fits in
    let venues = venues_shown cs r.world.venues (shows s.window r.world.venues f.venues) in
    let subscribers = subscribers_shown s (subscriptions_of m.journal) m.lanes
    r.world.subscribers f.subscribers in
    let changes = ap (λ (l : List (List ℕ)). changes_of l m.journal.entries) f.symbols
    ∙ ap (changes_of s.symbols) f.entries in
    record {
      world = r.world;
      run = r.run;
      shows = λ i. record {
        outcomes = ds;
        venues = venues i;
        entries = f.entries i;
        changes =
            changes i;
        subscribers = subscribers i;
      };
      placed = length-map cs venue_shown ∙ (shows s.window r.world.venues f.venues).count
          ∙ f.placed;
    }
