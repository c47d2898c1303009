-- What a line of either kind brings in calls after calls is what it brings in all of them.
use Rattle.std.proofs.Common.{ℕ, List, [], ◌++◌}
use Rattle.itch_lines.specs.FeedLines.{Brings, FeedLineState, Own, Itch}
use Rattle.itch_lines.specs.laws.Normalised.{normalised_more, normalised_nothing}

pub line_brings_nothing : {S : Type 0} (brings : S → List (List ℕ) → S → Type 0)
    (none : (s : S) → brings s [] s) (l : FeedLineState S) → Brings brings l [] l
line_brings_nothing brings none (Own source) = none source
line_brings_nothing brings none (Itch line) = normalised_nothing brings none line

pub line_brings_more : {S : Type 0} (brings : S → List (List ℕ) → S → Type 0)
    (more : (s t u : S) (xs ys : List (List ℕ)) → brings s xs t → brings t ys u
    → brings s (xs ++ ys) u)
    (s t u : FeedLineState S) (xs ys : List (List ℕ)) → Brings brings s xs t
    → Brings brings t ys u → Brings brings s (xs ++ ys) u
line_brings_more brings more (Own s) (Own t) (Own u) xs ys a b = more s t u xs ys a b
line_brings_more brings more (Own s) (Own t) (Itch u) xs ys a b = b
line_brings_more brings more (Own s) (Itch t) u xs ys a b = absurd a
line_brings_more brings more (Itch s) (Own t) u xs ys a b = absurd a
line_brings_more brings more (Itch s) (Itch t) (Own u) xs ys a b = b
line_brings_more brings more (Itch s) (Itch t) (Itch u) xs ys a b =
    normalised_more brings more s t u xs ys a b
