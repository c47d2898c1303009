-- The journal among what is told: its entries, and the changes of the national best.
use Rattle.std.proofs.Common.{◌≡◌, ℕ, ◌+◌, Bool, true, false, List, [], ◌∷◌, ◌++◌, flat_map, length, map, Option, Some, None, refl, sym, ap, subst, ◌∙◌, append_assoc, append-nil}
use Rattle.std.specs.Prelude.{if◌then◌else◌}
use Rattle.std.proofs.lemmas.Grind.{flat_map-append}
use Rattle.feed_types.specs.declared.journal.Entry.{Entry}
use Rattle.feed_types.specs.declared.journal.Entry.TheVariants as entry
use Rattle.feed_types.specs.declared.journal.Notice.{Notice}
use Rattle.feed_types.specs.Prefix.{IsPrefix}
use Rattle.nbbo_book.specs.Eligible.{is_so}
use Rattle.journal_book.specs.Changes.{changes_of}
use Rattle.journal_book.specs.Growth.{changes_begin}
use Rattle.line_arbiter.specs.Histories.{History}
use Rattle.feed_steps.specs.laws.Lists.{begins_drop}
use Rattle.feed_text.specs.declared.replay.ReplayConfig.{ReplayConfig}
use Rattle.feed_text.specs.Emitted.{Emits}
use Rattle.capture_records.specs.Formats.{TimedRecord, what_of}
use Rattle.feed_text.specs.ReplayEvents.{ReplayEvent, packet_answered, packet_refused, item_taken, gap_left, renewal_answered, skip_answered, self_help_declared, entries_after, entries_of}
use Rattle.event_sinks.specs.SinkEvents.{SinkEvent, TimedEvent, at_time, told_best, told_declaration}
use Rattle.feed_text.specs.Tellings.{last_told, lasts_told, own_told, told_of, told_since}
use Rattle.feed_text.specs.Texts.{event_notices}
use Rattle.feed_text.specs.Told.{told_by_records}
use Rattle.feed_text.specs.ToldJournal.{entry_told, notice_told}
use Rattle.feed_text.specs.laws.Entries.{entries_more}

-- ---- what a list has of each event, at whatever time

abbrev pub picked : {X : Type 0} → (SinkEvent → List X) → List TimedEvent → List X
picked pick told = flat_map (λ e. pick e.event) told

pub picked_more : {X : Type 0} (pick : SinkEvent → List X) (t u : List TimedEvent)
    → picked pick (t ++ u) ≡ picked pick t ++ picked pick u
picked_more pick t u = flat_map-append (λ (e : TimedEvent). pick e.event) t u

picked_at : {X : Type 0} (pick : SinkEvent → List X) (time : Option ℕ) (events : List SinkEvent)
    → picked pick (at_time time events) ≡ flat_map pick events
picked_at pick time [] = refl
picked_at pick time (e ∷ es) = ap (λ (xs : List _). pick e ++ xs) (picked_at pick time es)

-- a venue's last event has none
abbrev pub PicksNoLast : {X : Type 0} → (SinkEvent → List X) → Type 0
PicksNoLast pick = (venue : ℕ) (h : History) → pick (last_told venue h) ≡ []

pub picked_last : {X : Type 0} (pick : SinkEvent → List X) → PicksNoLast pick
    → (venue : ℕ) (hs : List History) → picked pick (at_time None (lasts_told venue hs)) ≡ []
picked_last pick none venue [] = refl
picked_last pick none venue (h ∷ hs) =
    ap (λ (xs : List _). xs ++ picked pick (at_time None (lasts_told (venue + 1) hs)))
    (none venue h) ∙ picked_last pick none (venue + 1) hs

-- Each event, with the bests after it, has what the entries after it have past those before it.
module _ {X : Type 0} (symbols : List (List ℕ)) (got : List Entry → List X)
    (pick : SinkEvent → List X)
    (one : (E : List Entry) (h : ReplayEvent)
    → got E ++ flat_map pick (told_since symbols E h) ≡ got (entries_after E h)) where
  events_add : (E : List Entry) (hs : List ReplayEvent)
      → got E ++ flat_map pick (told_of symbols E hs) ≡ got (entries_of E hs)
  events_add E [] = append-nil (got E)
  events_add E (h ∷ hs) =
      let first : List X = flat_map pick (told_since symbols E h) in
      let rest : List X = flat_map pick (told_of symbols (entries_after E h) hs) in
      ap (λ (xs : List X). got E ++ xs)
      (flat_map-append pick (told_since symbols E h) (told_of symbols (entries_after E h) hs))
      ∙ sym (append_assoc (got E) first rest)
      ∙ ap (λ (xs : List X). xs ++ rest) (one E h)
      ∙ events_add (entries_after E h) hs

  pub timed_add : (time : Option ℕ) (E : List Entry) (hs : List ReplayEvent)
      → got E ++ picked pick (at_time time (told_of symbols E hs)) ≡ got (entries_of E hs)
  timed_add time E hs =
      ap (λ (xs : List X). got E ++ xs) (picked_at pick time (told_of symbols E hs))
      ∙ events_add E hs

-- So has what is told of records.
module _ {X : Type 0} (config : ReplayConfig) (got : List Entry → List X)
    (pick : SinkEvent → List X)
    (one : (E : List Entry) (h : ReplayEvent)
    → got E ++ flat_map pick (told_since config.symbols.now E h) ≡ got (entries_after E h)) where
  pub records_add : (rs : List TimedRecord) (old : List History) (E : List Entry)
      (emitted : List ReplayEvent) (new : List History)
      (emits : Emits config.window config.gaps (map what_of rs) old emitted new)
      → got E ++ picked pick (told_by_records config rs old E emitted new emits)
      ≡ got (entries_of E emitted)
  records_add [] old E emitted new emits =
      append-nil (got E) ∙ ap (λ (hs : List ReplayEvent). got (entries_of E hs)) (sym emits.0)
  records_add (r ∷ rs) old E emitted new (mid, first, others, is, more, whole) =
      let symbols : List (List ℕ) = config.symbols.now in
      let T : List TimedEvent = at_time r.time (told_of symbols E first) in
      let F : List Entry = entries_of E first in
      let U : List TimedEvent = told_by_records config rs mid F others new more in
      ap (λ (xs : List X). got E ++ xs) (picked_more pick T U)
      ∙ sym (append_assoc (got E) (picked pick T) (picked pick U))
      ∙ ap (λ (xs : List X). xs ++ picked pick U)
      (timed_add symbols got pick one r.time E first)
      ∙ records_add rs mid F others new more
      ∙ ap got (sym (ap (entries_of E) whole ∙ entries_more E first others))

-- ---- the entries

no_entries : (notices : List Notice) → flat_map entry_told (map told_best notices) ≡ []
no_entries [] = refl
no_entries (n ∷ ns) = no_entries ns

own_entry : (E : List Entry) (h : ReplayEvent)
    → E ++ entry_told (own_told E h) ≡ entries_after E h
own_entry E (packet_answered venue line number count bytes answer) = append-nil E
own_entry E (packet_refused venue line fault) = append-nil E
own_entry E (item_taken venue numbered) = refl
own_entry E (gap_left venue request) = append-nil E
own_entry E (renewal_answered venue answer) = append-nil E
own_entry E (skip_answered venue number answer) = append-nil E
own_entry E (self_help_declared venue on) = by (is_so E venue on)
  where
    by : (so : Bool)
        → E ++ entry_told (told_declaration venue on (if so then None else Some (length E + 1)))
        ≡ (if so then E else E ++ entry.SelfHelp venue on ∷ [])
    by true = append-nil E
    by false = refl

pub entry_more : (symbols : List (List ℕ)) (E : List Entry) (h : ReplayEvent)
    → E ++ flat_map entry_told (told_since symbols E h) ≡ entries_after E h
entry_more symbols E h =
    let own : List Entry = entry_told (own_told E h) in
    ap (λ (xs : List Entry). E ++ (own ++ xs)) (no_entries (event_notices symbols E h))
    ∙ ap (λ (xs : List Entry). E ++ xs) (append-nil own)
    ∙ own_entry E h

-- ---- the changes of the national best

entries_begin : (E : List Entry) (x : ReplayEvent) → (more : List Entry)
    × (entries_after E x ≡ E ++ more)
entries_begin E x = (entry_told (own_told E x), sym (own_entry E x))

all_notices : (notices : List Notice) → flat_map notice_told (map told_best notices) ≡ notices
all_notices [] = refl
all_notices (n ∷ ns) = ap (λ (xs : List Notice). n ∷ xs) (all_notices ns)

own_notice : (E : List Entry) (h : ReplayEvent) → notice_told (own_told E h) ≡ []
own_notice E (packet_answered venue line number count bytes answer) = refl
own_notice E (packet_refused venue line fault) = refl
own_notice E (item_taken venue numbered) = refl
own_notice E (gap_left venue request) = refl
own_notice E (renewal_answered venue answer) = refl
own_notice E (skip_answered venue number answer) = refl
own_notice E (self_help_declared venue on) = refl

pub notices_more : (symbols : List (List ℕ)) (E : List Entry) (h : ReplayEvent)
    → changes_of symbols E ++ flat_map notice_told (told_since symbols E h)
    ≡ changes_of symbols (entries_after E h)
notices_more symbols E h =
    let more = entries_begin E h in
    let news : List Notice = event_notices symbols E h in
    let begins : IsPrefix (changes_of symbols E) (changes_of symbols (entries_after E h)) =
    subst (λ (F : List Entry). IsPrefix (changes_of symbols E) (changes_of symbols F)) (sym more.1)
    (changes_begin symbols E more.0) in
    ap (λ (xs : List Notice). changes_of symbols E ++ xs)
    (ap (λ (xs : List Notice). xs ++ flat_map notice_told (map told_best news)) (own_notice E h)
    ∙ all_notices news)
    ∙ begins_drop begins
