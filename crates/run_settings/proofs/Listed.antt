-- The lines of a list of addresses, one address more.
use Rattle.std.proofs.Common.{◌≡◌, ℕ, ◌+◌, ◌*◌, ◌<◌, ◌≤◌, List, [], ◌∷◌, ◌++◌, Option, length, take, slice_index_or, sym, ap, subst, ◌∙◌, arith, length-take-le, append-nil, append_assoc}
use Rattle.std.proofs.lemmas.List.{take_all, take_more}
use Rattle.std.specs.declared.net.socket_addr.SocketAddr.{SocketAddr}
use Rattle.run_settings.specs.declared.captured_line.CapturedLine.{CapturedLine}
use Rattle.run_settings.specs.ListLaws.{lines_of_venues}
use Rattle.run_settings.specs.Lists.{AreOfVenues, line_of_place, lines_from}

lines_then : (from n : ℕ) (xs : List (Option SocketAddr)) (x : Option SocketAddr)
    → n ≡ from + length xs
    → lines_from from (xs ++ x ∷ []) ≡ lines_from from xs ++ line_of_place n x
lines_then from n [] x e =
    let at : from ≡ n = omega (arith, e) in
    append-nil (line_of_place from x) ∙ ap (λ k. line_of_place k x) at
lines_then from n (y ∷ ys) x e =
    let later : n ≡ from + 1 + length ys = omega (arith, e) in
    ap (λ (rest : List CapturedLine). line_of_place from y ++ rest)
    (lines_then (from + 1) n ys x later)
    ∙ sym (append_assoc (line_of_place from y) (lines_from (from + 1) ys) (line_of_place n x))

lines_more : (xs : List (Option SocketAddr)) (n : ℕ) (d : Option SocketAddr) → n < length xs
    → lines_from 0 (take (n + 1) xs)
    ≡ lines_from 0 (take n xs) ++ line_of_place n (slice_index_or xs n d)
lines_more xs n d few =
    let all = length-take-le n xs (omega (arith, few)) in
    let taken : n ≡ 0 + length (take n xs) = omega (arith, all) in
    ap (lines_from 0) (take_more xs n d few)
    ∙ lines_then 0 n (take n xs) (slice_index_or xs n d) taken

pub listed_more : (xs : List (Option SocketAddr)) (place n : ℕ) (d : Option SocketAddr)
    (old new : List CapturedLine) → place ≡ n → n < length xs → old ≡ lines_from 0 (take n xs)
    → new ≡ old ++ line_of_place place (slice_index_or xs n d)
    → new ≡ lines_from 0 (take (n + 1) xs)
listed_more xs place n d old new same few front more =
    more ∙ ap (λ (ls : List CapturedLine). ls ++ line_of_place place (slice_index_or xs n d)) front
    ∙ ap (λ k. lines_from 0 (take n xs) ++ line_of_place k (slice_index_or xs n d)) same
    ∙ sym (lines_more xs n d few)

pub listed_venues : (xs : List (Option SocketAddr)) (n : ℕ) (items : List CapturedLine)
    → length xs ≤ n → items ≡ lines_from 0 (take n xs) → (venues : ℕ) → length xs ≤ 2 * venues
    → AreOfVenues venues items
listed_venues xs n items most is venues few =
    let all : items ≡ lines_from 0 xs = is ∙ ap (lines_from 0) (take_all n xs most) in
    let P : List CapturedLine → Type 0 = λ ls. AreOfVenues venues ls in
    let within : 0 + length xs ≤ 2 * venues = omega arith in
    subst P (sym all) (lines_of_venues 0 xs venues within)
