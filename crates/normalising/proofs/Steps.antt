-- What a run takes of records, step after step.
use Rattle.std.proofs.Common.{ℕ, ◌+◌, List, [], ◌∷◌, ◌++◌, refl, sym, ap, subst, ◌∙◌, inl, inr, append-nil, append_assoc, Result, Ok, Err}
use Rattle.std.specs.Prelude.{⊤}
use Rattle.capture_records.specs.Formats.{TimedRecord}
use Rattle.text_out.specs.Devices.{Writing, Wrote}
use Rattle.normalising.specs.Keeping.{FailedWithin, RunsOn, TookOf}
use Rattle.normalising.specs.Normalised.{IsNormalisedNext, NormalisedPoint, NormalisesAll, NormalisesRecord}
use Rattle.normalising.specs.declared.normalised_feed.NormalisedFeed.{NormalisedFeed}
use Rattle.normalising.specs.declared.venue_stop.VenueStop.{VenueStop}
use Rattle.normalising.specs.declared.venue_stop.VenueStop.TheVariants.{Book, Sink}
use Rattle.normalising.proofs.Taking.{takes_both, wrote_after}

-- ---- records

pub all_then : (feed : NormalisedFeed) (records : List TimedRecord) (old : NormalisedPoint)
    (ts us : List TimedRecord) (text more : List ℕ) (between left : List TimedRecord)
    (mid new : NormalisedPoint)
    → NormalisesAll feed records old ts text between mid
    → NormalisesAll feed between mid us more left new
    → NormalisesAll feed records old (ts ++ us) (text ++ more) left new
all_then feed records old [] us text more between left mid new (same, none, stays) b =
    rw none (subst (λ (rs : List TimedRecord). NormalisesAll feed rs old us more left new) same
    (subst (λ (p : NormalisedPoint). NormalisesAll feed between p us more left new) stays b))
all_then feed records old (t ∷ ts) us text more between left mid new
    (others, next, first, later, taken, record_is, rest, is) b = (
      others,
      next,
      first,
      later ++ more,
      taken,
      record_is,
      all_then feed others next ts us later more between left mid new rest b,
      ap (λ (z : List ℕ). z ++ more) is ∙ append_assoc first later more,
    )

pub next_longer : (feed : NormalisedFeed) (records : List TimedRecord) (t : TimedRecord)
    (others more : List TimedRecord) → IsNormalisedNext feed records t others
    → IsNormalisedNext feed (records ++ more) t (others ++ more)
next_longer feed [] t others more x = absurd x
next_longer feed (r ∷ rs) t others more (inl (put_in, left)) =
    inl (put_in, ap (λ (z : List TimedRecord). z ++ more) left)
next_longer feed (r ∷ rs) t others more (inr (is, left)) =
    inr (is, ap (λ (z : List TimedRecord). z ++ more) left)

-- more records follow
pub all_longer : (feed : NormalisedFeed) (records : List TimedRecord) (old : NormalisedPoint)
    (ts : List TimedRecord) (text : List ℕ) (left : List TimedRecord) (new : NormalisedPoint)
    (more : List TimedRecord) → NormalisesAll feed records old ts text left new
    → NormalisesAll feed (records ++ more) old ts text (left ++ more) new
all_longer feed records old [] text left new more (same, none, stays) =
    (ap (λ (z : List TimedRecord). z ++ more) same, none, stays)
all_longer feed records old (t ∷ ts) text left new more
    (others, next, first, later, taken, record_is, rest, is) = (
      others ++ more,
      next,
      first,
      later,
      next_longer feed records t others more taken,
      record_is,
      all_longer feed others next ts later left new more rest,
      is,
    )

pub all_none : (feed : NormalisedFeed) (records : List TimedRecord) (at : NormalisedPoint)
    → NormalisesAll feed records at [] [] records at
all_none feed records at = (refl, refl, refl)

pub all_one : (feed : NormalisedFeed) (records : List TimedRecord) (old : NormalisedPoint)
    (t : TimedRecord) (text : List ℕ) (left : List TimedRecord) (new : NormalisedPoint)
    → IsNormalisedNext feed records t left → NormalisesRecord feed t old [] text new
    → NormalisesAll feed records old (t ∷ []) text left new
all_one feed records old t text left new next is =
    (left, new, text, [], next, is, (refl, refl, refl), sym (append-nil text))

-- ---- one call after another

module _ {W : Type 0} (writing : Writing W)
    (adds_more : (s t u : W) (xs ys : List ℕ) → writing.adds s xs t → writing.adds t ys u
    → writing.adds s (xs ++ ys) u)
    (feed : NormalisedFeed) where
  some_then : (records : List TimedRecord) (at : NormalisedPoint)
      (IsBetween IsLeft : List TimedRecord → Type 0) (IsMid IsAfter : NormalisedPoint → Type 0)
      (from mid to : W) (waited between waits : List ℕ)
      → (a : TookOf writing feed records at IsBetween IsMid from mid waited between)
      → TookOf writing feed a.left a.after IsLeft IsAfter mid to between waits
      → TookOf writing feed records at IsLeft IsAfter from to waited waits
  some_then records at IsBetween IsLeft IsMid IsAfter from mid to waited between waits a b =
      record {
        taken = a.taken ++ b.taken;
        text = a.text ++ b.text;
        left = b.left;
        after = b.after;
        normalises = all_then feed records at a.taken b.taken a.text b.text a.left b.left a.after
            b.after a.normalises b.normalises;
        is_left = b.is_left;
        is_after = b.is_after;
        puts = takes_both writing from mid to waited a.text between b.text waits adds_more a.puts
            b.puts;
      }

  failed_then : (records : List TimedRecord) (at : NormalisedPoint)
      (IsBetween : List TimedRecord → Type 0) (IsMid : NormalisedPoint → Type 0)
      (from mid to : W) (waited between : List ℕ)
      → (a : TookOf writing feed records at IsBetween IsMid from mid waited between)
      → FailedWithin writing feed a.left a.after mid to between
      → FailedWithin writing feed records at from to waited
  failed_then records at IsBetween IsMid from mid to waited between a b = record {
    taken = a.taken ++ b.taken;
    text = a.text ++ b.text;
    left = b.left;
    after = b.after;
    normalises = all_then feed records at a.taken b.taken a.text b.text a.left b.left a.after
        b.after a.normalises b.normalises;
    more = b.more;
    within = b.within;
    wrote = subst (λ (z : List ℕ). Wrote writing.adds from (waited ++ z) to)
        (sym (append_assoc a.text b.text b.more))
        (wrote_after writing.adds adds_more from mid to waited a.text between (b.text ++ b.more)
        a.puts.shown a.puts.wrote a.puts.all b.wrote);
    failed = b.failed ∙ ap (λ (n : ℕ). n + 1) a.puts.kept;
  }

  -- a call after one that took some
  pub runs_then : {A : Type 0} (records : List TimedRecord) (at : NormalisedPoint)
      (IsBetween IsLeft : List TimedRecord → Type 0) (IsMid IsAfter : NormalisedPoint → Type 0)
      (from mid to : W) (waited between waits : List ℕ) (result : Result A VenueStop)
      → (a : TookOf writing feed records at IsBetween IsMid from mid waited between)
      → RunsOn writing feed a.left a.after IsLeft IsAfter mid to between waits result
      → RunsOn writing feed records at IsLeft IsAfter from to waited waits result
  runs_then records at IsBetween IsLeft IsMid IsAfter from mid to waited between waits
      (Ok done) a b =
      some_then records at IsBetween IsLeft IsMid IsAfter from mid to waited between waits a b
  runs_then records at IsBetween IsLeft IsMid IsAfter from mid to waited between waits
      (Err (Sink stop)) a b =
      failed_then records at IsBetween IsMid from mid to waited between a b
  runs_then records at IsBetween IsLeft IsMid IsAfter from mid to waited between waits
      (Err (Book fault)) a b =
      some_then records at IsBetween (λ left. ⊤) IsMid (λ after. ⊤) from mid to waited between
      waits a b
