-- What standard error has of standard output and of itself while a run goes on. The texts are this
-- project's own.
use Rattle.std.specs.Prelude.{ℕ, ◌==◌, List, [], ◌∷◌, ◌++◌, if◌then◌else◌, codes, decimal}
use Rattle.run_watches.specs.declared.output_news.OutputChange.{OutputChange}
use Rattle.run_watches.specs.declared.output_news.OutputChange.TheVariants as outputs
use Rattle.run_watches.specs.declared.output_news.OutputNews.{OutputNews}

-- what is before the row: where the row before breaks off, its end
abbrev pub row_start_text : OutputChange → List ℕ
row_start_text (outputs.Unread waiting) = codes "nbbo: second "
row_start_text outputs.Read = codes "nbbo: second "
row_start_text (outputs.Untaken texts) =
    if texts.is_cut then codes "\nnbbo: second " else codes "nbbo: second "

-- in which second of the run
abbrev pub output_time_texts : OutputNews → List (List ℕ)
output_time_texts news = row_start_text news.change ∷ decimal news.second ∷ []

abbrev pub waiting_end_text : ℕ → List ℕ
waiting_end_text count = if count == 1 then codes " change waits\n" else codes " changes wait\n"

abbrev pub untaken_end_text : ℕ → List ℕ
untaken_end_text count =
    if count == 1 then codes " text is missing\n" else codes " texts are missing\n"

abbrev pub output_change_texts : OutputChange → List (List ℕ)
output_change_texts (outputs.Unread waiting) =
    codes " output isn't read, " ∷ decimal waiting ∷ waiting_end_text waiting ∷ []
output_change_texts outputs.Read = codes " output is read again\n" ∷ []
output_change_texts (outputs.Untaken texts) =
    codes " standard error wasn't read, " ∷ decimal texts.count ∷ untaken_end_text texts.count
    ∷ []

-- what has happened to what is printed, and when
abbrev pub output_news_texts : OutputNews → List (List ℕ)
output_news_texts news = output_time_texts news ++ output_change_texts news.change
