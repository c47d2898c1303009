-- What is said of gaps and of a run, one thing after the other.
use Rattle.std.proofs.Common.{List, [], ◌∷◌, ◌++◌, ◌≡◌, ◌∙◌, ◌<◌, ◌+◌, inl, inr, ℕ, zero, suc, Option, Some, None, All, Contains, ap, flat_map, get_or, length, map, refl, sym, subst, arith}
use Rattle.std.specs.Prelude.{◌/◌, Bool, true, false, ◌&&◌, ◌||◌, MatchOption, is_some, nat_lt, ◌-◌, slice_get, if◌then◌else◌}
use Rattle.std.specs.List.{range_with_len}
use Rattle.std.proofs.lemmas.Bool.{cases_Bool}
use Rattle.std.proofs.lemmas.List.{get_or-map, length-map, map-append}
use Rattle.std.proofs.lemmas.Option.{get_or_from_slice_get, slice_get_read, slice_get_within}
use Rattle.text_out.specs.Devices.{Writing}
use Rattle.run_settings.specs.declared.venue_names.VenueNames.{VenueNames}
use Rattle.text_out.specs.StandardError.{SaysEach}
use Rattle.line_arbiter.specs.declared.arbiter.ArbiterStatus.{ArbiterStatus}
use Rattle.mold_packet.specs.declared.request.Request.{Request}
use Rattle.run_watches.specs.GapNews.{gap_texts_if}
use Rattle.run_watches.specs.Gaps.{LooksAt, SaysBegunIf, SaysOfGap, SaysOfVenue, TellsIfDone, TellsStanding, after_joins, begun_news, closed_range, due_count, due_of, gives_up, has_stood, watch_begun, joined_range, lacking_of, news_of, next_after, stands, stood_of, told_still, unanswered_of}
use Rattle.run_watches.specs.GivenUps.{giving_up_at, noted_texts}
use Rattle.run_watches.specs.RunLines.{WatchedRun, watched_gaps, watched_venue}
use Rattle.run_watches.specs.RunNews.{IsNewsOf, IsNewsOfGap, IsNewsOfGaps, MayHappen, RunNews, SaysCounts, SaysNews, SaysRunNews, of_counts, of_gap, of_session, run_news_texts}
use Rattle.run_watches.specs.declared.gap_news.GapChange.{GapChange}
use Rattle.run_watches.specs.declared.gap_news.GapChange.TheVariants.{Closed, GivenUp, Lacking, Unanswered}
use Rattle.feed_types.specs.declared.missing_range.MissingRange.{MissingRange}
use Rattle.run_watches.specs.declared.gap_rule.GapRule.{GapRule}
use Rattle.run_watches.specs.declared.gap_watch.GapWatch.{GapWatch}
use Rattle.run_watches.specs.declared.gap_watches.GapWatches.{GapWatches}
use Rattle.venue_lines.specs.declared.status.VenueStatus.{VenueStatus}
use Rattle.run_watches.specs.RunNewsLaws.{more_news, no_news}
use Rattle.run_watches.proofs.Telling.{made_within, one_news}

-- ---- a gap

-- nothing was said
unsaid : {E : Type 0} (w : Writing E) (names : VenueNames) (P : RunNews → Type 0) (s t : E)
    → t ≡ s → SaysNews w names P s t
unsaid w names P s t same =
    subst (λ last. SaysNews w names P s last) (sym same) (no_news w names P s)

-- what was said of messages, if there were any
pub said_if_any : {E : Type 0} (w : Writing E) (names : VenueNames) (rule : GapRule)
    (second venue : ℕ) (change : GapChange) (missing : Option MissingRange) (s t : E)
    → MayHappen rule change → SaysEach w (gap_texts_if names second venue change missing) s t
    → SaysNews w names (IsNewsOfGap rule venue) s t
said_if_any w names rule second venue change None s t may said =
    unsaid w names (IsNewsOfGap rule venue) s t said
said_if_any w names rule second venue change (Some missing) s t may said =
    one_news w names (IsNewsOfGap rule venue)
    (of_gap (record { second = second; venue = venue; change = change; missing = missing })) s t
    (refl, may) said

-- the same where it may only happen if there are any
said_of_any : {E : Type 0} (w : Writing E) (names : VenueNames) (rule : GapRule)
    (second venue : ℕ) (change : GapChange) (missing : Option MissingRange) (s t : E)
    → ((r : MissingRange) → missing ≡ Some r → MayHappen rule change)
    → SaysEach w (gap_texts_if names second venue change missing) s t
    → SaysNews w names (IsNewsOfGap rule venue) s t
said_of_any w names rule second venue change None s t may said =
    unsaid w names (IsNewsOfGap rule venue) s t said
said_of_any w names rule second venue change (Some missing) s t may said =
    said_if_any w names rule second venue change (Some missing) s t (may missing refl) said

-- what was said where it was answered that the messages are given up
said_if_done : {E : Type 0} (w : Writing E) (names : VenueNames) (rule : GapRule)
    (second venue : ℕ) (due : MissingRange)
    (done : Bool) (s t : E)
    → gives_up rule ≡ true
    → SaysEach w (if done then run_news_texts names (of_gap (news_of second venue due)) else []) s t
    → SaysNews w names (IsNewsOfGap rule venue) s t
said_if_done w names rule second venue due false s t may said =
    unsaid w names (IsNewsOfGap rule venue) s t said
said_if_done w names rule second venue due true s t may said =
    one_news w names (IsNewsOfGap rule venue) (of_gap (news_of second venue due)) s t (refl, may)
    said

-- what is chosen is chosen by a test
test_of_some : {X : Type 0} (b : Bool) (x y : X)
    → (if b then Some x else None) ≡ Some y → b ≡ true
test_of_some true x y e = refl
test_of_some false x y e = absurd cc

-- where a gap is due some are given up
rule_of_due : (join : Bool) (after : Option ℕ) (stood : ℕ) → has_stood after stood ≡ true
    → (join || is_some after) ≡ true
rule_of_due true after stood e = refl
rule_of_due false None stood e = absurd cc
rule_of_due false (Some ms) stood e = refl

some_given_up : (rule : GapRule) (stood : ℕ) (cursors : ArbiterStatus) (gap : Option Request)
    (due : MissingRange) → due_of rule stood cursors gap ≡ Some due → gives_up rule ≡ true
some_given_up rule stood cursors None due e = absurd cc
some_given_up rule stood cursors (Some gap) due e =
    rule_of_due rule.join rule.after_ms stood
    (test_of_some (has_stood rule.after_ms stood)
    (record { first = gap.number; count = due_count cursors gap }) due e)

-- where sessions are joined, too
rule_of_join : (join more : Bool) (after : Option ℕ) → (join && more) ≡ true
    → (join || is_some after) ≡ true
rule_of_join true more after e = refl
rule_of_join false more after e = absurd cc

joined_given_up : (rule : GapRule) (watch : GapWatch) (status : VenueStatus)
    (missing : MissingRange) → joined_range rule watch status ≡ Some missing → gives_up rule ≡ true
joined_given_up rule watch status missing e =
    rule_of_join rule.join (nat_lt watch.before_join status.before_join) rule.after_ms
    (test_of_some (rule.join && nat_lt watch.before_join status.before_join)
    (record { first = 1; count = status.before_join - watch.before_join }) missing e)

given_up_if_due : {E : Type 0} (w : Writing E) (names : VenueNames)
    (answers : ℕ → Bool → Type 0) (rule : GapRule) (second venue : ℕ) (due : Option MissingRange)
    (s t : E)
    → ((d : MissingRange) → due ≡ Some d → gives_up rule ≡ true)
    → MatchOption due (t ≡ s)
    (λ d. TellsIfDone w names (answers (next_after d)) (news_of second venue d) s t)
    → SaysNews w names (IsNewsOfGap rule venue) s t
given_up_if_due w names answers rule second venue None s t may told =
    unsaid w names (IsNewsOfGap rule venue) s t told
given_up_if_due w names answers rule second venue (Some due) s t may told =
    said_if_done w names rule second venue due told.done s t (may due refl) told.tells

module _ {E : Type 0} (w : Writing E) (names : VenueNames) (answers : ℕ → Bool → Type 0)
    (rule : GapRule) (watch : GapWatch) (now : ℕ) where
  of_standing : (status : VenueStatus) (s t : E) → TellsStanding w names watch now status s t
      → SaysNews w names (IsNewsOfGap rule watch.venue) s t
  of_standing status s t told =
      let P = IsNewsOfGap rule watch.venue in
      more_news w names P s told.closed t
      (said_if_any w names rule (now / 1000) watch.venue Closed
      (closed_range watch.told status.cursors.front) s told.closed tt told.says_closed)
      (more_news w names P told.closed told.lacking t
      (said_if_any w names rule (now / 1000) watch.venue Lacking
      (lacking_of (told_still watch.told status.cursors.front) (stood_of watch.standing now)
      status.gap) told.closed told.lacking tt told.says_lacking)
      (said_if_any w names rule (now / 1000) watch.venue Unanswered
      (unanswered_of watch.has_told_unanswered watch.standing now status.requests status.gap)
      told.lacking t tt told.says_unanswered))

of_gap_seen : {E : Type 0} (w : Writing E) (names : VenueNames)
    (answers : ℕ → Bool → Type 0) (rule : GapRule) (watch : GapWatch) (now : ℕ)
    (status : VenueStatus) (s t : E)
    → SaysOfGap w names answers rule watch now status s t
    → SaysNews w names (IsNewsOfGap rule watch.venue) s t
of_gap_seen w names answers rule watch now status s t seen =
    let P = IsNewsOfGap rule watch.venue in
    let after = after_joins rule watch status in
    more_news w names P s seen.joined t
    (said_of_any w names rule (now / 1000) watch.venue GivenUp (joined_range rule watch status) s
    seen.joined (joined_given_up rule watch status) seen.tells_joins)
    (more_news w names P seen.joined seen.told t
    (of_standing w names answers rule after now status seen.joined seen.told seen.tells)
    (given_up_if_due w names answers rule (now / 1000) watch.venue
    (due_of rule (stood_of after.standing now) status.cursors status.gap)
    seen.told t
    (some_given_up rule (stood_of after.standing now) status.cursors status.gap)
    seen.gives_up))

-- what was said of a session, if one has begun
of_session_if : {E : Type 0} (w : Writing E) (names : VenueNames) (rule : GapRule)
    (watch : GapWatch) (now : ℕ) (status : VenueStatus) (b : Bool) (s t : E)
    → SaysBegunIf b w names watch now status s t
    → SaysNews w names (IsNewsOfGap rule watch.venue) s t
of_session_if w names rule watch now status true s t said =
    let P = IsNewsOfGap rule watch.venue in
    more_news w names P s said.closed t
    (said_if_any w names rule (now / 1000) watch.venue Closed watch.told s said.closed tt
    said.says_closed)
    (one_news w names P (of_session (begun_news (now / 1000) watch status)) said.closed t refl
    said.says_begun)
of_session_if w names rule watch now status false s t said =
    unsaid w names (IsNewsOfGap rule watch.venue) s t said

-- the watch stays its venue's
pub begun_venue : (watch : GapWatch) (status : VenueStatus)
    → (watch_begun watch status).venue ≡ watch.venue
begun_venue watch status = elim (cases_Bool (nat_lt watch.ordinal status.ordinal)) [
  | inl later ↦ rw later refl
  | inr same ↦ rw same refl
]

of_venue_seen : {E : Type 0} (w : Writing E) (names : VenueNames)
    (answers : ℕ → Bool → Type 0) (rule : GapRule) (watch : GapWatch) (now : ℕ)
    (status : VenueStatus) (s t : E)
    → SaysOfVenue w names answers rule watch now status s t
    → SaysNews w names (IsNewsOfGap rule watch.venue) s t
of_venue_seen w names answers rule watch now status s t seen =
    more_news w names (IsNewsOfGap rule watch.venue) s seen.begun t
    (of_session_if w names rule watch now status (nat_lt watch.ordinal status.ordinal) s seen.begun
    seen.tells_session)
    (subst (λ (v : ℕ). SaysNews w names (IsNewsOfGap rule v) seen.begun t)
    (begun_venue watch status)
    (of_gap_seen w names answers rule (stands (watch_begun watch status) now status) now status
    seen.begun t seen.gap))

of_shown : {E : Type 0} (w : Writing E) (names : VenueNames) (answers : ℕ → Bool → Type 0)
    (rule : GapRule) (watch : GapWatch) (now : ℕ) (status : Option VenueStatus) (s t : E)
    → MatchOption status (t ≡ s)
    (λ seen. SaysOfVenue w names answers rule watch now seen s t)
    → SaysNews w names (IsNewsOfGap rule watch.venue) s t
of_shown w names answers rule watch now None s t said =
    unsaid w names (IsNewsOfGap rule watch.venue) s t said
of_shown w names answers rule watch now (Some status) s t said =
    of_venue_seen w names answers rule watch now status s t said

-- what is said of a gap at a look is news of it
pub news_of_look : {E : Type 0} (w : Writing E) (names : VenueNames)
    (shows : Option VenueStatus → Type 0) (answers : ℕ → Bool → Type 0) (rule : GapRule)
    (watch : GapWatch) (now : ℕ) (s t : E)
    → LooksAt w names shows answers rule watch now s t
    → SaysNews w names (IsNewsOfGap rule watch.venue) s t
news_of_look w names shows answers rule watch now s t looked =
    of_shown w names answers rule watch now looked.status s t looked.says

-- ---- what a venue has given up by itself

-- what is so of what is there, by cases on whether anything is
pub some_there : {X : Type 0} (P : Type 0) (Q : X → Type 0) (o : Option X) (x : X)
    → o ≡ Some x → Q x → MatchOption o P Q
some_there {X} P Q o x there holds =
    subst (λ (p : Option X). MatchOption p P Q) (sym there) holds

-- the watch at a place that is there, where gaps are given up
pub watch_there : (watches : GapWatches) (at place : ℕ) (watch : GapWatch) → at ≡ place
    → gives_up watches.rule ≡ true → at < length watches.gaps.items
    → watch ≡ get_or watches.gaps.items at watch → giving_up_at watches place ≡ Some watch
watch_there watches at place watch same may inside is =
    let items = watches.gaps.items in
    sym (ap (λ (i : ℕ). giving_up_at watches i) same)
    ∙ ap (λ (b : Bool). if b then slice_get items at else None) may
    ∙ slice_get_read items (length items) at watch refl inside is

-- what is said of it is news of the gaps that are watched, by cases on whether it is there
noted_if : {E : Type 0} (w : Writing E) (names : VenueNames) (watches : GapWatches)
    (place second : ℕ) (missing : MissingRange) (b : Bool) (o : Option GapWatch) (s t : E)
    → gives_up watches.rule ≡ b → slice_get watches.gaps.items place ≡ o
    → SaysEach w (noted_texts names second (if b then o else None) missing) s t
    → SaysNews w names (IsNewsOfGaps (watched_gaps watches)) s t
noted_if w names watches place second missing false o s t may there said =
    unsaid w names (IsNewsOfGaps (watched_gaps watches)) s t said
noted_if w names watches place second missing true None s t may there said =
    unsaid w names (IsNewsOfGaps (watched_gaps watches)) s t said
noted_if w names watches place second missing true (Some watch) s t may there said =
    let items = watches.gaps.items in
    let within = made_within watched_venue items place watch
    (slice_get_within items place watch there) in
    one_news w names (IsNewsOfGaps (watched_gaps watches))
    (of_gap (news_of second watch.venue missing)) s t (
      subst (λ (x : GapWatch). Contains (map watched_venue items) (watched_venue x))
          (get_or_from_slice_get items place watch watch there) within,
      may,
    ) said

pub news_of_noted : {E : Type 0} (w : Writing E) (names : VenueNames) (watches : GapWatches)
    (place second : ℕ) (missing : MissingRange) (s t : E)
    → SaysEach w (noted_texts names second (giving_up_at watches place) missing) s t
    → SaysNews w names (IsNewsOfGaps (watched_gaps watches)) s t
news_of_noted w names watches place second missing s t said =
    noted_if w names watches place second missing (gives_up watches.rule)
    (slice_get watches.gaps.items place) s t refl refl said

-- ---- counts

-- the same texts, of things that are made of others
texts_of_made : {X Y : Type 0} (f : Y → List (List ℕ)) (make : X → Y) (xs : List X)
    → flat_map f (map make xs) ≡ flat_map (λ x. f (make x)) xs
texts_of_made f make [] = refl
texts_of_made f make (x ∷ xs) = ap (λ texts. f (make x) ++ texts) (texts_of_made f make xs)

-- what is so of each thing is so of what is made of each
all_made : {X Y : Type 0} (P : Y → Type 0) (make : X → Y) (xs : List X)
    → All (λ x. P (make x)) xs → All P (map make xs)
all_made P make [] each k d inside = absurd (omega (arith, inside))
all_made P make (x ∷ xs) each k d inside =
    let few : k < length (x ∷ xs) = subst (λ n. k < n) (length-map (x ∷ xs) make) inside in
    subst (λ y. P y) (sym (get_or-map make (x ∷ xs) k x d few)) (each k x few)

each_itself : (texts : List (List ℕ)) → flat_map (λ text. text ∷ []) texts ≡ texts
each_itself [] = refl
each_itself (text ∷ texts) = ap (λ more. text ∷ more) (each_itself texts)

-- counts are news of a run whose counts are written
pub run_news_of_counts : {E : Type 0} (w : Writing E) (run : WatchedRun) (s t : E)
    → run.counted ≡ true → SaysCounts w s t → SaysRunNews w run s t
run_news_of_counts w run s t counted a = record {
  news = map of_counts a.texts;
  named = all_made (λ n. IsNewsOf run n) of_counts a.texts (λ k d inside. counted);
  says =
      subst (λ texts. SaysEach w texts s t)
      (sym (texts_of_made (run_news_texts run.names) of_counts a.texts ∙ each_itself a.texts))
      a.says;
}

-- ---- the venues that are watched, by their numbers

one_more : (a n j : ℕ) → a + n ≡ j → range_with_len a (suc n) ≡ range_with_len a n ++ j ∷ []
one_more a zero j at = let same : a ≡ j = omega arith in ap (λ k. k ∷ []) same
one_more a (suc n) j at = ap (λ rest. a ∷ rest) (one_more (a + 1) n j (omega arith))

-- one venue more is watched
pub more_venues : (watches pushed : List GapWatch) (watch : GapWatch) (n : ℕ)
    → pushed ≡ watches ++ watch ∷ [] → map watched_venue watches ≡ range_with_len 0 n
    → watched_venue watch ≡ n → map watched_venue pushed ≡ range_with_len 0 (n + 1)
more_venues watches pushed watch n push before one =
    let more : suc n ≡ n + 1 = omega arith in
    let at : 0 + n ≡ n = omega arith in
    ap (λ w. map watched_venue w) push ∙ map-append watched_venue watches (watch ∷ [])
    ∙ ap (λ first. first ++ watched_venue watch ∷ []) before
    ∙ ap (λ last. range_with_len 0 n ++ last ∷ []) one
    ∙ sym (one_more 0 n n at)
    ∙ ap (λ k. range_with_len 0 k) more
