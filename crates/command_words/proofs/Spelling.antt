-- The lines of a list, by the texts that it is cut into.
use Rattle.std.proofs.Common.{Err, Option, inl, inr, ◌≡◌, ◌<◌, ℕ, ◌+◌, ◌*◌, ◌∙◌, sym, ap, subst, List, [], ◌∷◌, ◌++◌, length, map, take, zero, suc, refl, arith}
use Rattle.std.specs.Prelude.{◌≢◌}
use Rattle.std.specs.Borrow.{Bor}
use Rattle.std.specs.List.{slice_index_or}
use Rattle.std.specs.declared.net.socket_addr.SocketAddr.{SocketAddr}
use Rattle.std.proofs.lemmas.List.{length-map, map-append, take_more}
use Rattle.command_words.specs.Addresses.{AreSpelled, NameLines, SpellsLine}
use Rattle.command_words.specs.Readings.{Finds, OrNoMemory}
use Rattle.command_words.specs.Sessions.{names_in}
use Rattle.command_words.specs.declared.refusal.Refusal.{Refusal}
use Rattle.command_words.specs.declared.refusal.Refusal.TheVariants.{BadLines}
use Rattle.command_words.proofs.Naming.{AreNamesOf}

-- the texts of these references
abbrev texts_at : List (Bor (List ℕ)) → List (List ℕ)
texts_at texts = map (λ text. text.now) texts

module _ {X : Type 0} (Spells : List ℕ → X → Type 0) where
  one_more : (texts : List (List ℕ)) (xs : List X) (text : List ℕ) (x : X)
      → AreSpelled Spells texts xs → Spells text x
      → AreSpelled Spells (texts ++ text ∷ []) (xs ++ x ∷ [])
  one_more [] [] text x all is = (is, tt)
  one_more [] (y ∷ ys) text x all is = absurd all
  one_more (t ∷ ts) [] text x all is = absurd all
  one_more (t ∷ ts) (y ∷ ys) text x all is = (all.0, one_more ts ys text x all.1 is)

  pub AreSpelled-more : (texts : List (Bor (List ℕ))) (i : ℕ) (d : Bor (List ℕ))
      (xs : List X) (x : X) → i < length texts
      → AreSpelled Spells (texts_at (take i texts)) xs → Spells (slice_index_or texts i d).now x
      → AreSpelled Spells (texts_at (take (i + 1) texts)) (xs ++ x ∷ [])
  AreSpelled-more texts i d xs x lt all is =
      let more : texts_at (take (i + 1) texts) ≡ texts_at (take i texts)
      ++ (slice_index_or texts i d).now
      ∷ [] = rw (take_more texts i d lt) (map-append (λ text. text.now) (take i texts)
      (slice_index_or texts i d ∷ [])) in
      subst (λ (ts : List (List ℕ)). AreSpelled Spells ts (xs ++ x ∷ [])) (sym more)
      (one_more _ xs _ x all is)

  -- each text of such a list spells something
  pub AreSpelled-at : (texts : List (Bor (List ℕ))) (i : ℕ) (d : Bor (List ℕ))
      (xs : List X) → i < length texts → AreSpelled Spells (texts_at texts) xs
      → (x : X) × Spells (slice_index_or texts i d).now x
  AreSpelled-at [] i d xs lt all = absurd (omega (arith, lt))
  AreSpelled-at (t ∷ ts) i d [] lt all = absurd all
  AreSpelled-at (t ∷ ts) zero d (x ∷ xs) lt all = (x, all.0)
  AreSpelled-at (t ∷ ts) (suc i) d (x ∷ xs) lt all =
      AreSpelled-at ts i d xs (omega (arith, lt)) all.1

  AreSpelled-length : (texts : List (List ℕ)) (xs : List X) → AreSpelled Spells texts xs
      → length xs ≡ length texts
  AreSpelled-length [] [] all = refl
  AreSpelled-length [] (x ∷ xs) all = absurd all
  AreSpelled-length (t ∷ ts) [] all = absurd all
  AreSpelled-length (t ∷ ts) (x ∷ xs) all = ap suc (AreSpelled-length ts xs all.1)

-- a list of another length names no lines
pub other_length : (texts : List (Bor (List ℕ))) (list : List ℕ) (venues : ℕ)
    → AreNamesOf texts list → length texts ≢ 2 * venues
    → OrNoMemory (Finds (NameLines list venues) BadLines) (Err BadLines)
other_length texts list venues cut other = inr (
  refl,
  λ lines named.
      let all = AreSpelled-length SpellsLine (names_in list) lines named.spelled in
      let n : length (names_in list) ≡ length texts = ap length (sym cut)
      ∙ length-map texts (λ text. text.now) in
      other (sym n ∙ sym all ∙ named.two_each),
)

pub NameLines-all : (texts : List (Bor (List ℕ))) (list : List ℕ) (venues : ℕ)
    (lines : List (Option SocketAddr)) → AreNamesOf texts list → length texts ≡ 2 * venues
    → AreSpelled SpellsLine (texts_at texts) lines → NameLines list venues lines
NameLines-all texts list venues lines cut count all = record {
  spelled = subst (λ (ts : List (List ℕ)). AreSpelled SpellsLine ts lines) cut all;
  two_each = AreSpelled-length SpellsLine (texts_at texts) lines all
      ∙ length-map texts (λ text. text.now) ∙ count;
}

-- the refusal of the texts is that of the list that is cut into them
pub none_spelled : (texts : List (Bor (List ℕ))) (list : List ℕ) (venues : ℕ) (refusal : Refusal)
    → AreNamesOf texts list
    → OrNoMemory (Finds (AreSpelled SpellsLine (texts_at texts)) BadLines) (Err refusal)
    → OrNoMemory (Finds (NameLines list venues) BadLines) (Err refusal)
none_spelled texts list venues refusal cut (inl memory) = inl memory
none_spelled texts list venues refusal cut (inr (is, none)) = inr (
  is,
  λ lines named.
      none lines (subst (λ (ts : List (List ℕ)). AreSpelled SpellsLine ts lines) (sym cut)
      named.spelled),
)
