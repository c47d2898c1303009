-- Laws of what standard error has of a run: of nothing, and of one thing after the other.
use Rattle.std.proofs.Common.{List, [], ◌∷◌, ◌++◌, ◌≡◌, ℕ, flat_map, map, refl, sym, subst, ap, arith}
use Rattle.std.specs.Prelude.{Bool, true, false, None}
use Rattle.std.proofs.lemmas.Grind.{flat_map-append}
use Rattle.std.proofs.lemmas.List.Elements.{All-append}
use Rattle.feed_types.specs.declared.line.LineId.{LineId}
use Rattle.text_out.specs.Devices.{Writing}
use Rattle.text_out.specs.StandardError.{SaysEach}
use Rattle.text_out.specs.laws.SaidTexts.{says_each}
use Rattle.run_settings.specs.declared.venue_names.VenueNames.{VenueNames}
use Rattle.run_watches.specs.News.{LineTally, SaysTotals, tally_texts}
use Rattle.run_watches.specs.RunLines.{WatchedRun}
use Rattle.run_watches.specs.RunNews.{IsNewsOf, RunNews, SaysCounts, SaysNews, SaysOfRun, SaysRunNews, SaysTable, run_news_texts}

-- the texts of things after those of others
pub each_of_more : {E X : Type 0} (w : Writing E) (f : X → List (List ℕ))
    (xs ys : List X) (s t u : E)
    → SaysEach w (flat_map f xs) s t → SaysEach w (flat_map f ys) t u
    → SaysEach w (flat_map f (xs ++ ys)) s u
each_of_more w f xs ys s t u a b =
    subst (λ (texts : List (List ℕ)). SaysEach w texts s u) (sym (flat_map-append f xs ys))
    (says_each w (flat_map f xs) (flat_map f ys) s t u a b)

-- no news, and news after news
pub no_news : {E : Type 0} (w : Writing E) (names : VenueNames) (P : RunNews → Type 0) (s : E)
    → SaysNews w names P s s
no_news w names P s =
    record { news = []; named = λ k d inside. absurd (omega (arith, inside)); says = refl }

pub more_news : {E : Type 0} (w : Writing E) (names : VenueNames) (P : RunNews → Type 0) (s t u : E)
    → SaysNews w names P s t → SaysNews w names P t u → SaysNews w names P s u
more_news w names P s t u a b = record {
  news = a.news ++ b.news;
  named = All-append P a.news b.news a.named b.named;
  says = each_of_more w (run_news_texts names) a.news b.news s t u a.says b.says;
}

-- counts of 0 for each line
abbrev uncounted : List (ℕ × LineId) → List LineTally
uncounted lines =
    map (λ line. record {
      line = line;
      unsent = 0;
      passed = 0;
      foreign = 0;
      withheld = 0;
      held_back = 0;
      dropped = 0;
      stranger = None;
      unheard = false;
    }) lines

each_uncounted : (lines : List (ℕ × LineId)) → map (λ c. c.line) (uncounted lines) ≡ lines
each_uncounted [] = refl
each_uncounted (line ∷ lines) = ap (λ more. line ∷ more) (each_uncounted lines)

none_counted : (names : VenueNames) (tells_more : Bool) (lines : List (ℕ × LineId))
    → flat_map (tally_texts names tells_more) (uncounted lines) ≡ []
none_counted names tells_more [] = refl
none_counted names true (line ∷ lines) = none_counted names true lines
none_counted names false (line ∷ lines) = none_counted names false lines

pub no_totals : {E : Type 0} (w : Writing E) (names : VenueNames) (tells_more : Bool)
    (lines : List (ℕ × LineId)) (s : E)
    → SaysTotals w names tells_more lines s s
no_totals w names tells_more lines s = record {
  counts = uncounted lines;
  one_each = each_uncounted lines;
  says = subst (λ (texts : List (List ℕ)). SaysEach w texts s s)
      (sym (none_counted names tells_more lines)) refl;
}

-- no text of counts
pub no_counts : {E : Type 0} (w : Writing E) (s : E) → SaysCounts w s s
no_counts w s = record { texts = []; says = refl }

-- the same of a run
pub no_run_news : {E : Type 0} (w : Writing E) (run : WatchedRun) (s : E) → SaysRunNews w run s s
no_run_news w run s = no_news w run.names (IsNewsOf run) s

pub more_run_news : {E : Type 0} (w : Writing E) (run : WatchedRun) (s t u : E)
    → SaysRunNews w run s t → SaysRunNews w run t u → SaysRunNews w run s u
more_run_news w run s t u a b = more_news w run.names (IsNewsOf run) s t u a b

no_table : {E : Type 0} (w : Writing E) (counted : Bool) (s : E) → SaysTable w counted s s
no_table w true s = no_counts w s
no_table w false s = refl

-- nothing was said of a run
pub nothing_of_run : {E : Type 0} (w : Writing E) (run : WatchedRun) (s : E) → SaysOfRun w run s s
nothing_of_run w run s = record {
  last = s;
  news = no_run_news w run s;
  ended = record {
    mid = s;
    totals = no_totals w run.names run.lines.tells_more run.lines.lines s;
    table = no_table w run.counted s;
  };
}
