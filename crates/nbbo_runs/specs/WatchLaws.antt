-- The laws of a format that is watched.
use Rattle.std.proofs.Common.{◌≡◌, ℕ, List, [], ◌∷◌, ◌++◌, refl, sym, ap, ◌∙◌, append-nil, append_assoc, flat_map}
use Rattle.std.proofs.lemmas.Grind.{flat_map-append}
use Rattle.capture_records.specs.Formats.{TimedRecord}
use Rattle.nbbo_runs.specs.declared.session_row.SessionSighting.{SessionSighting}
use Rattle.nbbo_runs.specs.declared.venue_watch.VenueWatch.{VenueWatch}
use Rattle.nbbo_runs.specs.declared.watched_format.WatchedFormat.{WatchedFormat}
use Rattle.nbbo_runs.specs.Sessions.{sightings_in, sightings_of}
use Rattle.nbbo_runs.specs.VenueLookLaws.{sees_more, sees_none}
use Rattle.nbbo_runs.specs.Watches.{WatchedReads, watched_after, watched_with}

after_more : (ws : List VenueWatch) (rs qs : List TimedRecord)
    → watched_after (watched_after ws rs) qs ≡ watched_after ws (rs ++ qs)
after_more ws [] qs = refl
after_more ws (r ∷ rs) qs = after_more (watched_with ws r.what) rs qs

seen_more : (sessions : List (List ℕ)) (a b c : List SessionSighting) (rs qs : List TimedRecord)
    → b ≡ a ++ sightings_of sessions rs → c ≡ b ++ sightings_of sessions qs
    → c ≡ a ++ sightings_of sessions (rs ++ qs)
seen_more sessions a b c rs qs e d =
    let one = λ (r : TimedRecord). sightings_in sessions r.what in
    d ∙ ap (λ (l : List SessionSighting). l ++ flat_map one qs) e
    ∙ append_assoc a (flat_map one rs) (flat_map one qs)
    ∙ ap (λ (l : List SessionSighting). a ++ l) (sym (flat_map-append one rs qs))

module _ {S : Type 0} (reads : S → List ℕ → List TimedRecord → S → List ℕ → Type 0) where
  pub watched_none : ((s : S) (xs : List ℕ) → reads s xs [] s xs)
      → (s : WatchedFormat S) (xs : List ℕ) → WatchedReads reads s xs [] s xs
  watched_none none s xs =
      (none s.format xs, refl, sees_none s.looks, sym (append-nil s.seen), refl, refl, refl)

  pub watched_more : ((s t u : S) (xs ys zs : List ℕ) (rs qs : List TimedRecord)
      → reads s xs rs t ys → reads t ys qs u zs → reads s xs (rs ++ qs) u zs)
      → (s t u : WatchedFormat S) (xs ys zs : List ℕ) (rs qs : List TimedRecord)
      → WatchedReads reads s xs rs t ys → WatchedReads reads t ys qs u zs
      → WatchedReads reads s xs (rs ++ qs) u zs
  watched_more more s t u xs ys zs rs qs a b = (
    more s.format t.format u.format xs ys zs rs qs a.0 b.0,
    b.1 ∙ ap (λ (ws : List VenueWatch). watched_after ws qs) a.1 ∙ after_more s.venues rs qs,
    sees_more s.looks t.looks u.looks rs qs a.2 b.2,
    seen_more s.sessions.now s.seen t.seen u.seen rs qs a.3
        (b.3 ∙ ap (λ (names : _). t.seen ++ sightings_of names.now qs) a.4),
    b.4 ∙ a.4,
    b.5 ∙ a.5,
    b.6 ∙ a.6,
  )

  pub watched_longer : ((s t : S) (xs ys more : List ℕ) (rs : List TimedRecord)
      → reads s xs rs t ys → reads s (xs ++ more) rs t (ys ++ more))
      → (s t : WatchedFormat S) (xs ys more : List ℕ) (rs : List TimedRecord)
      → WatchedReads reads s xs rs t ys → WatchedReads reads s (xs ++ more) rs t (ys ++ more)
  watched_longer longer s t xs ys more rs a =
      (longer s.format t.format xs ys more rs a.0, a.1, a.2, a.3, a.4, a.5, a.6)
