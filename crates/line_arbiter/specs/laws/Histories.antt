-- A venue's history with one more packet, and with one more session.
use Rattle.std.proofs.Common.{◌≡◌, ℕ, ◌+◌, List, [], ◌∷◌, ◌++◌, length, map, refl, ap, ◌∙◌, arith, append-nil}
use Rattle.std.proofs.lemmas.List.{map-append}
use Rattle.std.proofs.lemmas.Grind.{flat_map-append}
use Rattle.std.proofs.lemmas.List.Sums.{sum_by_push}
use Rattle.feed_types.specs.declared.item.Numbered.{Numbered}
use Rattle.feed_types.specs.declared.line.LineId.{LineId}
use Rattle.line_arbiter.specs.Packets.{Input}
use Rattle.line_arbiter.specs.Streams.{stream_of, wins_of}
use Rattle.line_arbiter.specs.Histories.{Begun, History, all_begun, after_input, after_renewal, items_of, names_of, new_session, wins_in}

-- the names of sessions, whatever came of the last one
names_push : (bs : List Begun) (b c : Begun) → b.name ≡ c.name
    → map (λ (x : Begun). x.name) (bs ++ b ∷ []) ≡ map (λ (x : Begun). x.name) (bs ++ c ∷ [])
names_push [] b c e = ap (λ (n : List ℕ). n ∷ []) e
names_push (a ∷ bs) b c e = ap (λ (l : List (List ℕ)). a.name ∷ l) (names_push bs b c e)

pub names_same : (h : History) (a : Input) → names_of h ≡ names_of (after_input h a)
names_same h a = names_push h.earlier h.present (after_input h a).present refl

pub names_next : (h : History) (name : List ℕ)
    → names_of (after_renewal h name) ≡ names_of h ++ name ∷ []
names_next h name = map-append (λ (x : Begun). x.name) (all_begun h) (new_session name ∷ [])

pub names_length : (h : History) → length (names_of h) ≡ 1 + length h.earlier
names_length h = count h.earlier
  where
    count : (bs : List Begun)
        → length (map (λ (x : Begun). x.name) (bs ++ h.present ∷ [])) ≡ 1 + length bs
    count [] = refl
    count (b ∷ bs) = let e = count bs in omega (arith, e)

-- the streams of sessions, and of one more
pub items_push : (bs : List Begun) (b : Begun)
    → items_of (bs ++ b ∷ []) ≡ items_of bs ++ stream_of b.packets
items_push bs b =
    flat_map-append (λ (x : Begun). stream_of x.packets) bs (b ∷ [])
    ∙ ap (λ (xs : List Numbered). items_of bs ++ xs) (append-nil (stream_of b.packets))

-- what the line brought first in sessions, and in one more
pub wins_push : (bs : List Begun) (b : Begun) (line : LineId)
    → wins_in (bs ++ b ∷ []) line ≡ wins_in bs line + wins_of b.packets line
wins_push bs b line = sum_by_push (λ (x : Begun). wins_of x.packets line) bs b
