-- What a recording writes, part after part.
use Rattle.std.proofs.Common.{◌≡◌, ◌∙◌, ◌++◌, ℕ, Bool, List, [], ◌∷◌, true, false, ap, append_assoc, inl, inr, length, refl, subst, sym}
use Rattle.std.proofs.lemmas.Grind.{flat_map-append}
use Rattle.std.proofs.lemmas.List.{append-nil, take-append-drop}
use Rattle.std.proofs.Math.Seq.{take-length}
use Rattle.text_out.specs.Devices.{Wrote}
use Rattle.std.specs.Prelude.{Some, flat_map, slice_get, slice_set, take, drop}
use Rattle.line_recordings.specs.Recordings.{PutsRecords, recorded_text}
use Rattle.line_recordings.specs.Written.{HasWritten, HaveCome, HavePut, ClosesRecording, Part, cut, part_text}
use Rattle.line_recordings.specs.declared.recording.Recording.{Recording}
use Rattle.line_recordings.specs.declared.venue_records.VenueRecords.{VenueRecords}

come_more : (u v w : List VenueRecords) (ps qs : List Part) → HaveCome u ps v → HaveCome v qs w
    → HaveCome u (ps ++ qs) w
come_more u v w [] qs a b = subst (λ (x : List VenueRecords). HaveCome x qs w) a b
come_more u v w (p ∷ ps) qs a b =
    (a.0, a.1, a.2, come_more (slice_set u p.place a.1) v w ps qs a.3 b)

-- nothing more
pub wrote_none : {W : Type 0} (adds : W → List ℕ → W → Type 0) (r : Recording W)
    → adds r.writer [] r.writer → HasWritten adds r r
wrote_none adds r none = record {
  parts = [];
  come = refl;
  written = [];
  rest = r.page;
  all = append-nil r.page;
  wrote = none;
  waits = λ _. refl;
}

text_more : (page ps qs written mid more rest : List ℕ) → page ++ ps ≡ written ++ mid
    → mid ++ qs ≡ more ++ rest → page ++ (ps ++ qs) ≡ (written ++ more) ++ rest
text_more page ps qs written mid more rest a b =
    sym (append_assoc page ps qs)
    ∙ ap (λ (x : List ℕ). x ++ qs) a
    ∙ append_assoc written mid qs
    ∙ ap (λ (x : List ℕ). written ++ x) b
    ∙ sym (append_assoc written more rest)

-- more, after what didn't fail
pub wrote_more : {W : Type 0} (adds : W → List ℕ → W → Type 0)
    → ((s t u : W) (xs ys : List ℕ) → adds s xs t → adds t ys u → adds s (xs ++ ys) u)
    → (a b c : Recording W) → HasWritten adds a b → b.has_failed ≡ false → HasWritten adds b c
    → HasWritten adds a c
wrote_more adds adds_more a b c x sound y = record {
  parts = x.parts ++ y.parts;
  come = come_more a.venues.items b.venues.items c.venues.items x.parts y.parts x.come y.come;
  written = x.written ++ y.written;
  rest = y.rest;
  all =
      ap (λ (t : List ℕ). a.page ++ t) (flat_map-append part_text x.parts y.parts)
      ∙ text_more a.page (flat_map part_text x.parts) (flat_map part_text y.parts) x.written
      b.page y.written y.rest
      (x.all ∙ ap (λ (t : List ℕ). x.written ++ t) (x.waits sound)) y.all;
  wrote = adds_more a.writer b.writer c.writer x.written y.written x.wrote y.wrote;
  waits = y.waits;
}

onward_if : {W : Type 0} (adds : W → List ℕ → W → Type 0)
    → ((s t u : W) (xs ys : List ℕ) → adds s xs t → adds t ys u → adds s (xs ++ ys) u)
    → (a b c : Recording W) (failed : Bool) → b.has_failed ≡ failed → HasWritten adds a b
    → HasWritten adds b c → (b.has_failed ≡ true → c ≡ b) → HasWritten adds a c
onward_if adds adds_more a b c false is x y kept = wrote_more adds adds_more a b c x is y
onward_if {W} adds adds_more a b c true is x y kept =
    subst (λ (r : Recording W). HasWritten adds a r) (sym (kept is)) x

-- more, where nothing comes after what failed
pub onward : {W : Type 0} (adds : W → List ℕ → W → Type 0)
    → ((s t u : W) (xs ys : List ℕ) → adds s xs t → adds t ys u → adds s (xs ++ ys) u)
    → (a b c : Recording W) → HasWritten adds a b → HasWritten adds b c
    → (b.has_failed ≡ true → c ≡ b) → HasWritten adds a c
onward adds adds_more a b c x y kept =
    onward_if adds adds_more a b c b.has_failed refl x y kept

-- what was put on the page waits there
pub wrote_put : {W : Type 0} (adds : W → List ℕ → W → Type 0) (a b : Recording W)
    → HavePut a.venues.items a.page b.venues.items b.page → b.writer ≡ a.writer
    → adds a.writer [] a.writer → HasWritten adds a b
wrote_put {W} adds a b put same none = record {
  parts = put.parts;
  come = put.come;
  written = [];
  rest = b.page;
  all = sym put.text;
  wrote = subst (λ (w : W). adds a.writer [] w) (sym same) none;
  waits = λ _. refl;
}

-- the same, as it is called otherwise
pub wrote_as : {W : Type 0} (adds : W → List ℕ → W → Type 0) (a b c : Recording W) → c ≡ b
    → HasWritten adds a b → HasWritten adds a c
wrote_as {W} adds a b c e x = subst (λ (r : Recording W). HasWritten adds a r) (sym e) x

-- a front of a page, by one that is empty or written
pub front_none : {W : Type 0} (adds : W → List ℕ → W → Type 0) (s : W) (page : List ℕ)
    → adds s [] s → Wrote adds s page s
front_none adds s page none = record { count = 0; taken = none }

pub front_whole : {W : Type 0} (adds : W → List ℕ → W → Type 0) (s t : W) (page : List ℕ)
    → adds s page t → Wrote adds s page t
front_whole adds s t page wrote = record {
  count = length page;
  taken = subst (λ (x : List ℕ). adds s x t) (sym (take-length page)) wrote;
}

-- a recording is closed: with no more text, or with the bytes at its end
pub closed_not : {W : Type 0} (adds : W → List ℕ → W → Type 0) (a b : Recording W) → b ≡ a
    → ClosesRecording adds a b
closed_not {W} adds a b e = inl (ap (λ (r : Recording W). r.writer) e)

pub closed_by : {W : Type 0} (adds : W → List ℕ → W → Type 0) (a b c : Recording W)
    (page : List ℕ) → page ≡ a.page ++ cut → Wrote adds a.writer page b.writer → c ≡ b
    → ClosesRecording adds a c
closed_by {W} adds a b c page cuts front e =
    inr (subst (λ (r : Recording W). Wrote adds a.writer (a.page ++ cut) r.writer) (sym e)
    (subst (λ (x : List ℕ). Wrote adds a.writer x b.writer) cuts front))

-- a write has failed, after a front of the page
pub wrote_front : {W : Type 0} (adds : W → List ℕ → W → Type 0) (a b : Recording W) (count : ℕ)
    → b.venues.items ≡ a.venues.items → adds a.writer (take count a.page) b.writer
    → b.has_failed ≡ true → HasWritten adds a b
wrote_front adds a b count venues wrote failed = record {
  parts = [];
  come = venues;
  written = take count a.page;
  rest = drop count a.page;
  all = append-nil a.page ∙ sym (take-append-drop count a.page);
  wrote = wrote;
  waits = λ sound. let bad : false ≡ true = sym sound ∙ failed in absurd (cc);
}

-- what is next of a venue is put on the page
pub put_part : (venues after : List VenueRecords) (place : ℕ) (old new : VenueRecords)
    (page text : List ℕ) → slice_get venues place ≡ Some old → PutsRecords old new page text
    → after ≡ slice_set venues place new → HavePut venues page after text
put_part venues after place old new page text there puts set = record {
  parts = record { place = place; venue = old.venue; fates = puts.fates } ∷ [];
  come = (
    old,
    new,
    record { there = there; venue_is = refl; recorded = puts.recorded },
    set,
  );
  text = puts.text ∙ ap (λ (t : List ℕ). page ++ t)
      (sym (append-nil (recorded_text old.venue puts.fates)));
}

-- the page is written
pub wrote_page : {W : Type 0} (adds : W → List ℕ → W → Type 0) (a b : Recording W)
    → b.venues.items ≡ a.venues.items → adds a.writer a.page b.writer → b.page ≡ []
    → HasWritten adds a b
wrote_page adds a b venues wrote page = record {
  parts = [];
  come = venues;
  written = a.page;
  rest = [];
  all = refl;
  wrote = wrote;
  waits = λ _. sym page;
}

-- what has failed once stays as it was, by one step after another
pub kept_on : {W : Type 0} (f l n : Recording W) → (f.has_failed ≡ true → l ≡ f)
    → (l.has_failed ≡ true → n ≡ l) → f.has_failed ≡ true → n ≡ f
kept_on {W} f l n a b failed =
    b (subst (λ (r : Recording W). r.has_failed ≡ true) (sym (a failed)) failed) ∙ a failed

-- it hasn't failed before where it hasn't now
pub kept_never : {W : Type 0} (f l n : Recording W) → (f.has_failed ≡ true → l ≡ f)
    → l.has_failed ≡ false → f.has_failed ≡ true → n ≡ f
kept_never {W} f l n a sound failed =
    let bad : false ≡ true =
    sym sound ∙ subst (λ (r : Recording W). r.has_failed ≡ true) (sym (a failed)) failed in
    absurd (cc)
