-- Texts of counts, one after the other.
use Rattle.std.proofs.Common.{List, [], ◌∷◌, ◌++◌, ℕ, refl}
use Rattle.text_out.specs.Devices.{Writing}
use Rattle.text_out.specs.StandardError.{Says}
use Rattle.text_out.specs.laws.SaidTexts.{says_each}
use Rattle.run_watches.specs.RunNews.{SaysCounts}

pub one_count : {E : Type 0} (w : Writing E) (text : List ℕ) (s t : E) → Says w text s t
    → SaysCounts w s t
one_count w text s t said = record { texts = text ∷ []; says = (t, said, refl) }

pub more_counts : {E : Type 0} (w : Writing E) (s t u : E)
    → SaysCounts w s t → SaysCounts w t u → SaysCounts w s u
more_counts w s t u a b = record {
  texts = a.texts ++ b.texts;
  says = says_each w a.texts b.texts s t u a.says b.says;
}
