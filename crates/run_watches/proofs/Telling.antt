-- What is said of lines, one thing after the other.
use Rattle.std.proofs.Common.{List, [], ◌∷◌, ◌++◌, ◌≡◌, ◌≢◌, ◌∙◌, ◌<◌, ℕ, zero, suc, Contains, ap, flat_map, get_or, length, map, refl, sym, subst, arith}
use Rattle.std.specs.Prelude.{Bool, true, false, IfSome, Option, Some, ◌==◌, if◌then◌else◌}
use Rattle.std.proofs.lemmas.Bool.Decides.{nat_tests}
use Rattle.std.proofs.lemmas.List.{append-nil, get_or-map, length-map, map-append}
use Rattle.feed_types.specs.declared.line.LineId.{LineId}
use Rattle.text_out.specs.Devices.{Writing}
use Rattle.run_settings.specs.declared.venue_names.VenueNames.{VenueNames}
use Rattle.text_out.specs.StandardError.{SaysEach}
use Rattle.text_out.specs.laws.SaidTexts.{says_each}
use Rattle.run_watches.specs.News.{LineTally, SaysNotes, SaysTotals, line_end_texts, notes_of, stranger_note, tally_texts, told_if, total_if, total_texts, totals_of, unheard_note}
use Rattle.run_watches.specs.RunLines.{WatchedGaps, WatchedLines, WatchedRun}
use Rattle.run_watches.specs.RunNews.{IsNewsOf, IsNewsOfGap, IsNewsOfGaps, IsNewsOfLine, IsNewsOfLines, IsNewsOfOutput, RunNews, SaysNews, of_counts, of_gap, of_line, of_output, of_session, run_news_texts}
use Rattle.run_watches.specs.RunNewsLaws.{each_of_more}
use Rattle.run_watches.specs.declared.line_news.LineCounted.{LineCounted}
use Rattle.run_watches.specs.declared.line_news.LineCounted.TheVariants.{Dropped, Foreign, HeldBack, Passed, Unsent, Withheld}
use Rattle.run_watches.specs.declared.line_news.LineTotal.{LineTotal}

-- the texts of one thing
pub each_of_one : {E X : Type 0} (w : Writing E) (f : X → List (List ℕ)) (x : X) (s t : E)
    → SaysEach w (f x) s t → SaysEach w (flat_map f (x ∷ [])) s t
each_of_one w f x s t said =
    subst (λ (texts : List (List ℕ)). SaysEach w texts s t) (sym (append-nil (f x))) said

-- what is so of one thing is so at each place of a list of one
pub at_one : {X : Type 0} (P : X → Type 0) (x : X) → P x → (k : ℕ) (d : X) → k < 1
    → P (get_or (x ∷ []) k d)
at_one P x holds zero d inside = holds
at_one P x holds (suc k) d inside = absurd (omega (arith, inside))

-- what is so of what there is, if there is any
pub of_some : {X : Type 0} (P : X → Type 0) (o : Option X) (x : X)
    → o ≡ Some x → IfSome o P → P x
of_some {X} P o x e p = subst (λ (q : Option X). IfSome q P) e p

-- ---- news

pub one_news : {E : Type 0} (w : Writing E) (names : VenueNames) (P : RunNews → Type 0)
    (news : RunNews) (s t : E)
    → P news → SaysEach w (run_news_texts names news) s t → SaysNews w names P s t
one_news w names P news s t is said = record {
  news = news ∷ [];
  named = at_one P news is;
  says = each_of_one w (run_news_texts names) news s t said;
}

-- news of one kind are news of another one, where each such news is of that
pub news_within : {E : Type 0} (w : Writing E) (names : VenueNames) (P Q : RunNews → Type 0)
    (s t : E)
    → ((n : RunNews) → P n → Q n) → SaysNews w names P s t → SaysNews w names Q s t
news_within w names P Q s t so a = record {
  news = a.news;
  named = λ k d inside. so (get_or a.news k d) (a.named k d inside);
  says = a.says;
}

-- news of a line is news of the lines among which it is
pub line_within : (w : WatchedLines) (line : ℕ × LineId) → Contains w.lines line
    → (n : RunNews) → IsNewsOfLine w.tells_more line n → IsNewsOfLines w n
line_within w line there (of_line news) is =
    (subst (λ l. Contains w.lines l) (sym is.0) there, is.1)
line_within w line there (of_gap news) is = absurd is
line_within w line there (of_session news) is = absurd is
line_within w line there (of_output news) is = absurd is
line_within w line there (of_counts text) is = absurd is

-- and so of a gap
pub gap_within : (gaps : WatchedGaps) (venue : ℕ) → Contains gaps.venues venue
    → (n : RunNews) → IsNewsOfGap gaps.rule venue n → IsNewsOfGaps gaps n
gap_within gaps venue there (of_line news) is = absurd is
gap_within gaps venue there (of_gap news) is =
    (subst (λ v. Contains gaps.venues v) (sym is.0) there, is.1)
gap_within gaps venue there (of_session news) is =
    subst (λ v. Contains gaps.venues v) (sym is) there
gap_within gaps venue there (of_output news) is = absurd is
gap_within gaps venue there (of_counts text) is = absurd is

-- news of the run's lines are news of the run
pub lines_within : (run : WatchedRun) (n : RunNews) → IsNewsOfLines run.lines n → IsNewsOf run n
lines_within run (of_line news) is = is
lines_within run (of_gap news) is = absurd is
lines_within run (of_session news) is = absurd is
lines_within run (of_output news) is = absurd is
lines_within run (of_counts text) is = absurd is

-- and so are those of its gaps
pub gaps_within : (run : WatchedRun) (n : RunNews) → IsNewsOfGaps run.gaps n → IsNewsOf run n
gaps_within run (of_line news) is = absurd is
gaps_within run (of_gap news) is = is
gaps_within run (of_session news) is = is
gaps_within run (of_output news) is = absurd is
gaps_within run (of_counts text) is = absurd is

-- and those of what is printed of it
pub output_within : (run : WatchedRun) (n : RunNews) → IsNewsOfOutput run.follows n → IsNewsOf run n
output_within run (of_line news) is = absurd is
output_within run (of_gap news) is = absurd is
output_within run (of_session news) is = absurd is
output_within run (of_output news) is = is
output_within run (of_counts text) is = absurd is

-- what is made of a list's thing is in the list of what is made of them all
pub made_within : {X Y : Type 0} (f : X → Y) (xs : List X) (k : ℕ) (d : X)
    → k < length xs → Contains (map f xs) (f (get_or xs k d))
made_within f xs k d inside = (
  k,
  subst (λ n. k < n) (sym (length-map xs f)) inside,
  get_or-map f xs k d (f (get_or xs k d)) inside,
)

-- the total of a count that isn't 0
pub one_total : {E : Type 0} (w : Writing E) (names : VenueNames) (line : ℕ × LineId)
    (counted : LineCounted) (count : ℕ)
    (s t : E)
    → count ≢ 0
    → SaysEach w (total_texts names (record {
      venue = line.0;
      line = line.1;
      counted =
          counted;
      count = count;
    })) s t
    → SaysEach w (flat_map (total_texts names) (total_if line counted count)) s t
one_total w names line counted count s t some said =
    let positive : (count == 0) ≡ false = grind (arith, nat_tests, some) in
    let total : LineTotal = record {
      venue = line.0;
      line = line.1;
      counted =
          counted;
      count = count;
    } in
    subst (λ (none : Bool). SaysEach w
    (flat_map (total_texts names) (if none then [] else total ∷ [])) s t)
    (sym positive)
    (each_of_one w (total_texts names) total s t said)

-- what the system dropped, by cases on whether that is told
pub dropped_total : {E : Type 0} (w : Writing E) (names : VenueNames) (line : ℕ × LineId)
    (tells_more : Bool)
    (count : ℕ) (s t : E)
    → SaysEach w (flat_map (total_texts names) (total_if line Dropped count)) s t
    → (tells_more ≡ false → count ≡ 0)
    → SaysEach w (flat_map (total_texts names) (total_if line Dropped (told_if tells_more count)))
    s t
dropped_total w names line true count s t said none = said
dropped_total w names line false count s t said none =
    subst (λ n. SaysEach w (flat_map (total_texts names) (total_if line Dropped n)) s t) (none refl)
    said

-- the session, and then that nothing came
pub both_notes : {E : Type 0} (w : Writing E) (names : VenueNames) (line : ℕ × LineId)
    (stranger : Option (List ℕ)) (unheard : Bool) (s t u : E)
    → SaysEach w (flat_map (line_end_texts names line) (stranger_note stranger)) s t
    → SaysEach w (flat_map (line_end_texts names line) (unheard_note unheard)) t u
    → SaysNotes w names true line s u
both_notes w names line stranger unheard s t u a b = record {
  stranger = stranger;
  unheard = unheard;
  says =
      each_of_more w (line_end_texts names line) (stranger_note stranger) (unheard_note unheard)
      s t u a b;
}

-- what is counted of a line, in the order in which it is written
pub record CountedOfLine {E : Type 0} (w : Writing E) (names : VenueNames) (line : ℕ × LineId)
    (tells_more : Bool)
    (s t : E) : Type 0 where
  pub unsent : ℕ
  pub passed : ℕ
  pub foreign : ℕ
  pub withheld : ℕ
  pub held_back : ℕ
  pub dropped : ℕ
  pub a : E
  pub b : E
  pub c : E
  pub d : E
  pub e : E
  pub says_unsent : SaysEach w (flat_map (total_texts names) (total_if line Unsent unsent)) s a
  pub says_passed : SaysEach w (flat_map (total_texts names) (total_if line Passed passed)) a b
  pub says_foreign : SaysEach w (flat_map (total_texts names) (total_if line Foreign foreign)) b c
  pub says_withheld :
      SaysEach w
      (flat_map (total_texts names) (total_if line Withheld (told_if tells_more withheld))) c d
  pub says_held_back :
      SaysEach w
      (flat_map (total_texts names) (total_if line HeldBack (told_if tells_more held_back))) d e
  pub says_dropped :
      SaysEach w
      (flat_map (total_texts names) (total_if line Dropped (told_if tells_more dropped))) e t

-- all totals of a line, and its notes
pub totals_of_line : {E : Type 0} (w : Writing E) (names : VenueNames) (line : ℕ × LineId)
    (tells_more : Bool)
    (s t u : E)
    → CountedOfLine w names line tells_more s t → SaysNotes w names tells_more line t u
    → SaysTotals w names tells_more (line ∷ []) s u
totals_of_line w names line tells_more s t u c notes =
    let tally : LineTally = record {
      line = line;
      unsent = c.unsent;
      passed = c.passed;
      foreign = c.foreign;
      withheld = c.withheld;
      held_back = c.held_back;
      dropped = c.dropped;
      stranger = notes.stranger;
      unheard = notes.unheard;
    } in
    let lost = total_if line Dropped (told_if tells_more c.dropped) in
    let held = total_if line HeldBack (told_if tells_more c.held_back) in
    let kept = total_if line Withheld (told_if tells_more c.withheld) in
    let foreign = total_if line Foreign c.foreign in
    let passed = total_if line Passed c.passed in
    let totals =
    each_of_more w (total_texts names) (total_if line Unsent c.unsent)
    (passed ++ (foreign ++ (kept ++ (held ++ lost)))) s c.a t c.says_unsent
    (each_of_more w (total_texts names) passed (foreign ++ (kept ++ (held ++ lost))) c.a c.b t
    c.says_passed
    (each_of_more w (total_texts names) foreign (kept ++ (held ++ lost)) c.b c.c t c.says_foreign
    (each_of_more w (total_texts names) kept (held ++ lost) c.c c.d t c.says_withheld
    (each_of_more w (total_texts names) held lost c.d c.e t c.says_held_back
    c.says_dropped)))) in record {
      counts = tally ∷ [];
      one_each = refl;
      says =
          each_of_one w (tally_texts names tells_more) tally s u
          (says_each w (flat_map (total_texts names) (totals_of tells_more tally))
          (flat_map (line_end_texts names line) (notes_of tells_more notes.stranger notes.unheard))
          s t u totals notes.says);
    }

pub more_totals : {E : Type 0} (w : Writing E) (names : VenueNames) (tells_more : Bool)
    (lines more : List (ℕ × LineId)) (s t u : E)
    → SaysTotals w names tells_more lines s t → SaysTotals w names tells_more more t u
    → SaysTotals w names tells_more (lines ++ more) s u
more_totals w names tells_more lines more s t u a b = record {
  counts = a.counts ++ b.counts;
  one_each =
      map-append (λ c. c.line) a.counts b.counts
      ∙ ap (λ first. first ++ map (λ c. c.line) b.counts) a.one_each
      ∙ ap (λ rest. lines ++ rest) b.one_each;
  says = each_of_more w (tally_texts names tells_more) a.counts b.counts s t u a.says b.says;
}
