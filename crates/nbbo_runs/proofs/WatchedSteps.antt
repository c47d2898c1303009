-- A step of a format is one of the format that is watched.
use Rattle.std.proofs.Common.{◌≡◌, ℕ, List, [], ◌∷◌, ◌++◌, append-nil, refl, sym, ap, ◌∙◌}
use Rattle.capture_records.specs.declared.record_format.Step.{Step}
use Rattle.capture_records.specs.declared.record_format.Step.TheVariants.{Came, Passed, Wants, Bad}
use Rattle.capture_records.specs.Capture.{record_of}
use Rattle.capture_records.specs.Formats.{StepsTo, TimedRecord}
use Rattle.nbbo_runs.specs.declared.session_row.SessionSighting.{SessionSighting}
use Rattle.nbbo_runs.specs.declared.watched_format.WatchedFormat.{WatchedFormat}
use Rattle.nbbo_runs.specs.Sessions.{sighted_by, sightings_in}
use Rattle.nbbo_runs.specs.VenueLookLaws.{sees_no_record, sees_record}
use Rattle.nbbo_runs.specs.VenueLooks.{LooksBy, step_datagram}
use Rattle.nbbo_runs.specs.Watches.{WatchedReads, watched_by}

-- where all parts are the same, the whole is
all_same : {S : Type 0} (old new : WatchedFormat S) → new.format ≡ old.format
    → new.venues ≡ old.venues → new.looks ≡ old.looks → new.seen ≡ old.seen
    → new.sessions ≡ old.sessions → new.next ≡ old.next
    → new.input ≡ old.input → new ≡ old
all_same old new format venues looks seen sessions next input = λ k. record {
  format = format k;
  venues = venues k;
  looks = looks k;
  seen = seen k;
  sessions = sessions k;
  next = next k;
  input = input k;
}

module _ {S F : Type 0} (reads : S → List ℕ → List TimedRecord → S → List ℕ → Type 0)
    (wants : S → List ℕ → Type 0) (is_bad : S → List ℕ → F → Type 0) where
  pub watched_step : (old new : WatchedFormat S) (bytes : List ℕ) (step : Step F)
      → StepsTo reads wants is_bad old.format bytes step new.format
      → new.venues ≡ watched_by old.venues step
      → LooksBy old.looks (step_datagram step) new.looks
      → new.seen ≡ sighted_by old.sessions.now old.seen step
      → new.sessions ≡ old.sessions → new.next ≡ old.next → new.input ≡ old.input
      → StepsTo (WatchedReads reads) (λ s. wants s.format) (λ s. is_bad s.format) old bytes step new
  watched_step old new bytes (Came len time r) h venues looks seen sessions next input = record {
    some = h.some;
    within = h.within;
    read = (
      h.read,
      venues,
      sees_record (record_of r) time old.looks new.looks looks,
      seen ∙ ap (λ (l : List SessionSighting). old.seen ++ l)
          (sym (append-nil (sightings_in old.sessions.now (record_of r)))),
      sessions,
      next,
      input,
    );
  }
  watched_step old new bytes (Passed len) h venues looks seen sessions next input = record {
    some = h.some;
    within = h.within;
    read = (
      h.read,
      venues,
      sees_no_record old.looks new.looks looks,
      seen ∙ sym (append-nil old.seen),
      sessions,
      next,
      input,
    );
  }
  watched_step old new bytes Wants h venues looks seen sessions next input =
      (h.0, h.1, all_same old new h.2 venues looks seen sessions next input)
  watched_step old new bytes (Bad fault) h venues looks seen sessions next input =
      (h.0, all_same old new h.1 venues looks seen sessions next input)
