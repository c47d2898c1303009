-- What a line has brought, call by call.
use Rattle.std.proofs.Common.{◌≡◌, ◌∙◌, ℕ, List, [], ◌∷◌, ◌++◌, refl, sym, ap, subst, append-nil}
use Rattle.std.specs.Prelude.{IfSome, None, Option, Some}
use Rattle.itch_lines.specs.Lines.{EndsInFault, HandsOnMade, IsPossibleSkip, IsPossibleTaking, ItchLineState, Section, FailedIn, GaveUp, Took, made_in}
use Rattle.itch_lines.specs.Sections.{BringsEnd}
use Rattle.itch_lines.specs.declared.source_end.SourceEnd.TheVariants.{Failing}
use Rattle.itch_lines.specs.laws.Normalised.{normalised_more}
use Rattle.venue_lines.specs.declared.source.SourceFault.{SourceFault}

module _ {S : Type 0} (brings : S → List (List ℕ) → S → Type 0) (old new : ItchLineState S)
    (venue : new.venue ≡ old.venue) (line : new.line ≡ old.line)
    (ended : EndsInFault old.end → EndsInFault new.end) where
  -- the source alone has gone on
  pub gone_on : brings old.source [] new.source → new.waiting ≡ old.waiting
      → HandsOnMade brings old [] new
  gone_on came same = record {
    venue = venue;
    line = line;
    sections = [];
    each = tt;
    sound = λ whole. tt;
    ended = ended;
    came = came;
    all = append-nil old.waiting ∙ sym same;
  }

  -- the first datagram that waited is brought
  pub one_brought : (bytes : List ℕ) → brings old.source [] new.source
      → old.waiting ≡ bytes ∷ new.waiting → HandsOnMade brings old (bytes ∷ []) new
  one_brought bytes came first = record {
    venue = venue;
    line = line;
    sections = [];
    each = tt;
    sound = λ whole. tt;
    ended = ended;
    came = came;
    all = append-nil old.waiting ∙ first;
  }

  -- a section has made what waits, where nothing waited
  made_all : (section : Section) → old.waiting ≡ [] → new.waiting ≡ made_in section
      → old.waiting ++ (made_in section ++ []) ≡ [] ++ new.waiting
  made_all section none is = ap (λ (z : List (List ℕ)). z ++ (made_in section ++ [])) none
      ∙ append-nil (made_in section) ∙ sym is

  pub has_taken : (bytes : List ℕ) → brings old.source (bytes ∷ []) new.source
      → old.waiting ≡ [] → IsPossibleTaking old.venue old.line bytes new.waiting
      → HandsOnMade brings old [] new
  has_taken bytes came none taken = record {
    venue = venue;
    line = line;
    sections = Took bytes new.waiting ∷ [];
    each = (taken, tt);
    sound = λ whole. (tt, tt);
    ended = ended;
    came = came;
    all = made_all (Took bytes new.waiting) none refl;
  }

  pub has_given_up : brings old.source [] new.source → old.waiting ≡ []
      → IsPossibleSkip old.venue new.waiting → HandsOnMade brings old [] new
  has_given_up came none skips = record {
    venue = venue;
    line = line;
    sections = GaveUp new.waiting ∷ [];
    each = (skips, tt);
    sound = λ whole. (tt, tt);
    ended = ended;
    came = came;
    all = made_all (GaveUp new.waiting) none refl;
  }

  pub has_failed : (received : List (List ℕ)) → brings old.source (received ++ []) new.source
      → old.waiting ≡ [] → BringsEnd new.waiting → EndsInFault new.end
      → HandsOnMade brings old [] new
  has_failed received came none end failed = record {
    venue = venue;
    line = line;
    sections = FailedIn received new.waiting ∷ [];
    each = (end, tt);
    sound = λ whole. absurd (whole failed);
    ended = ended;
    came = came;
    all = made_all (FailedIn received new.waiting) none refl;
  }

-- a gap was given up, or none was, where nothing waited
pub given_up_or_not : {S A : Type 0} (brings : S → List (List ℕ) → S → Type 0)
    (none : (s : S) → brings s [] s) (old : ItchLineState S) (made : List (List ℕ))
    (given : Option A) → old.waiting ≡ [] → (given ≡ None → made ≡ [])
    → IfSome given (λ _. IsPossibleSkip old.venue made)
    → HandsOnMade brings old [] (record old { waiting = made })
given_up_or_not brings none old made None empty nothing gave =
    gone_on brings old (record old { waiting = made }) refl refl (λ e. e) (none old.source)
    (nothing refl ∙ sym empty)
given_up_or_not brings none old made (Some done) empty nothing gave =
    has_given_up brings old (record old { waiting = made }) refl refl (λ e. e) (none old.source)
    empty gave

module _ {S : Type 0} (brings : S → List (List ℕ) → S → Type 0)
    (more : (s t u : S) (xs ys : List (List ℕ)) → brings s xs t → brings t ys u
    → brings s (xs ++ ys) u) where
  -- the source has gone on, and then the rest came
  pub source_first : (old now : ItchLineState S) (later : S) → brings old.source [] later
      → HandsOnMade brings (record old { source = later }) [] now → HandsOnMade brings old [] now
  source_first old now later came rest =
      let after : ItchLineState S = record old { source = later } in
      normalised_more brings more old after now [] []
      (gone_on brings old after refl refl (λ e. e) came refl) rest

  -- the source brought a datagram, the venue took it, and the source has it back
  pub taken_over : (old seen new : ItchLineState S) (made : List (List ℕ)) (before later : S)
      (bytes : List ℕ) → seen ≡ record old { waiting = made }
      → new ≡ record seen { source = later } → brings seen.source [] later
      → brings before (bytes ∷ []) old.source → old.waiting ≡ []
      → IsPossibleTaking old.venue old.line bytes made
      → HandsOnMade brings (record old { source = before }) [] new
  taken_over old seen new made before later bytes is over back came none taken =
      let first : ItchLineState S = record old { source = before } in
      let last : ItchLineState S = record old { waiting = made; source = later } in
      let here : new ≡ last =
      over ∙ ap (λ (s : ItchLineState S). record s { source = later }) is in
      subst (λ (n : ItchLineState S). HandsOnMade brings first [] n) (sym here)
      (has_taken brings first last refl refl (λ e. e) bytes
      (more before old.source later (bytes ∷ []) [] came
      (subst (λ (s : ItchLineState S). brings s.source [] later) is back)) none taken)

  -- the same where the venue's normaliser has failed
  pub failed_over : (old seen new : ItchLineState S) (made : List (List ℕ)) (fault : SourceFault)
      (before later : S) (received : List (List ℕ))
      → seen ≡ record old { waiting = made; end = Failing fault }
      → new ≡ record seen { source = later } → brings seen.source [] later
      → brings before received old.source → old.waiting ≡ [] → BringsEnd made
      → HandsOnMade brings (record old { source = before }) [] new
  failed_over old seen new made fault before later received is over back came none end =
      let first : ItchLineState S = record old { source = before } in
      let last : ItchLineState S =
      record old { waiting = made; end = Failing fault; source = later } in
      let here : new ≡ last =
      over ∙ ap (λ (s : ItchLineState S). record s { source = later }) is in
      subst (λ (n : ItchLineState S). HandsOnMade brings first [] n) (sym here)
      (has_failed brings first last refl refl (λ e. tt) received
      (more before old.source later received [] came
      (subst (λ (s : ItchLineState S). brings s.source [] later) is back)) none end tt)
