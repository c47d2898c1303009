-- What is known while a run goes on.
use Rattle.std.proofs.Common.{◌≡◌, ℕ, ◌+◌, List, [], ◌∷◌, ◌++◌, drop, map, append_assoc, append-nil, refl, sym, ap, subst, ◌∙◌, inl, Result, Ok, Err}
use Rattle.std.specs.Prelude.{⊤, All}
use Rattle.std.proofs.lemmas.List.{map-append}
use Rattle.std.proofs.lemmas.List.Elements.{All-nil, All-cons, All-append}
use Rattle.capture_records.specs.Capture.{IsRecord}
use Rattle.capture_records.specs.Formats.{TimedRecord, Parsing, TakesPiece, HasReadRecords, what_of}
use Rattle.text_out.specs.Devices.{Reading, Writing, HasGiven, Wrote}
use Rattle.normalising.specs.Keeping.{EndsRun, FailedWithin, RunsOn, TookOf}
use Rattle.normalising.specs.Normalisations.{AnswersNormalising, HasNormalised, IsNoneLeft, TookPart, TookText, venues_normalised}
use Rattle.normalising.specs.Normalised.{IsNewPoint, NormalisedPoint, NormalisesAll}
use Rattle.normalising.specs.Texts.{begun_text}
use Rattle.event_sinks.specs.declared.replay_stop.ReplayStop.TheVariants.{Bad, JournalFull, NoMemory, ReadFailed, Short, SinkFailed, TooManyTurns}
use Rattle.normalising.specs.declared.normalise_stop.NormaliseStop.{NormaliseStop}
use Rattle.normalising.specs.declared.normalise_stop.NormaliseStop.TheVariants as ends
use Rattle.normalising.specs.declared.normalise_stop.NormaliseStop.TheVariants.{Fault, Replay}
use Rattle.normalising.specs.declared.venue_stop.VenueStop.{VenueStop}
use Rattle.normalising.specs.declared.venue_stop.VenueStop.TheVariants.{Book, Sink}
use Rattle.normalising.specs.declared.normalised_feed.NormalisedFeed.{NormalisedFeed}
use Rattle.normalising.proofs.Steps.{all_longer, all_none, all_then}
use Rattle.normalising.proofs.Taking.{wrote_after}

-- the laws of a reader, a format and a writer
pub record Laws {R S F W : Type 0} (reading : Reading R) (parsing : Parsing S F)
    (writing : Writing W) : Type 0 where
  pub gives_none : (s : R) → reading.gives s 0 [] s
  pub gives_more : (s t u : R) (m n : ℕ) (xs ys : List ℕ) → reading.gives s m xs t
      → reading.gives t n ys u → reading.gives s (m + n) (xs ++ ys) u
  pub reads_none : (s : S) (xs : List ℕ) → parsing.reads s xs [] s xs
  pub reads_more : (s t u : S) (xs ys zs : List ℕ) (rs qs : List TimedRecord)
      → parsing.reads s xs rs t ys → parsing.reads t ys qs u zs → parsing.reads s xs (rs ++ qs) u zs
  pub reads_longer : (s t : S) (xs ys more : List ℕ) (rs : List TimedRecord)
      → parsing.reads s xs rs t ys → parsing.reads s (xs ++ more) rs t (ys ++ more)
  pub adds_none : (s : W) → writing.adds s [] s
  pub adds_more : (s t u : W) (xs ys : List ℕ) → writing.adds s xs t → writing.adds t ys u
      → writing.adds s (xs ++ ys) u

-- What was read, and what it makes, of which the writer has a front, and the rest waits.
pub record Kept {R S F W : Type 0} (reading : Reading R) (parsing : Parsing S F)
    (writing : Writing W) (feed : NormalisedFeed) (from : R) (calls : ℕ) (to : R)
    (start finish : S) (rest : List ℕ) (before after : W) (waits : List ℕ)
    (IsAt : NormalisedPoint → Type 0) : Type 0 where
  pub records : List TimedRecord
  pub read : HasReadRecords reading parsing (venues_normalised feed) from calls to start records
      finish rest
  pub taken : List TimedRecord
  pub text : List ℕ
  pub left : List TimedRecord
  pub first : NormalisedPoint
  pub is_first : IsNewPoint feed first
  pub at : NormalisedPoint
  pub normalises : NormalisesAll feed records first taken text left at
  pub none_left : left ≡ []
  pub shown : List ℕ
  pub took : writing.adds before shown after
  pub all : begun_text feed.form ++ text ≡ shown ++ waits
  pub is_at : IsAt at

module _ {R S F W : Type 0} {reading : Reading R} {parsing : Parsing S F} {writing : Writing W}
    (laws : Laws reading parsing writing) {from : R} {start : S} where
  -- pieces with these records were read
  read_more : {venues : ℕ} {to : R} {calls : ℕ} {finish next : S} {rest left seen : List ℕ}
      (rs qs : List TimedRecord) (len : ℕ) → seen ≡ rest → left ≡ drop len rest
      → TakesPiece parsing.reads finish seen qs len next
      → All (IsRecord venues) (map what_of qs)
      → HasReadRecords reading parsing venues from calls to start rs finish rest
      → HasReadRecords reading parsing venues from calls to start (rs ++ qs) next
      left
  read_more {venues = venues} {finish = finish} {next = next} {rest = rest} rs qs len
      same gone piece are x =
      let read : parsing.reads finish rest qs next (drop len rest) =
      subst (λ (bs : List ℕ). parsing.reads finish bs qs next (drop len bs)) same piece.read in
      record {
        each = subst (All (IsRecord venues)) (sym (map-append what_of rs qs))
            (All-append (IsRecord venues) (map what_of rs) (map what_of qs) x.each
            are);
        bytes = x.bytes;
        given = x.given;
        read = rw gone (laws.reads_more start finish next x.bytes rest
            (drop len rest) rs qs x.read read);
      }

module _ {R S F W : Type 0} {reading : Reading R} {parsing : Parsing S F} {writing : Writing W}
    {feed : NormalisedFeed} (laws : Laws reading parsing writing) {from : R} {start : S} where
  module _ {before : W} where
    pub kept_none : (calls : ℕ) (rest waits : List ℕ) (IsAt : NormalisedPoint → Type 0)
        → calls ≡ 0 → rest ≡ [] → waits ≡ begun_text feed.form
        → (first : NormalisedPoint) → IsNewPoint feed first → IsAt first
        → Kept reading parsing writing feed from calls from start start rest before before waits
        IsAt
    kept_none calls rest waits IsAt none empty begun first is at = record {
      records = [];
      read = record {
        each = All-nil (IsRecord (venues_normalised feed));
        bytes = [];
        given = rw none (laws.gives_none from);
        read = rw empty (laws.reads_none start []);
      };
      taken = [];
      text = [];
      left = [];
      first = first;
      is_first = is;
      at = first;
      normalises = all_none feed [] first;
      none_left = refl;
      shown = [];
      took = laws.adds_none before;
      all = append-nil (begun_text feed.form) ∙ sym begun;
      is_at = at;
    }

    -- all of the old records was taken, and then these of a new one
    joined : {to : R} {calls : ℕ} {finish : S} {rest waits : List ℕ} {after : W}
        {IsAt : NormalisedPoint → Type 0} (r : TimedRecord)
        (x : Kept reading parsing writing feed from calls to start finish rest before after waits
        IsAt) (ts : List TimedRecord) (text : List ℕ) (left : List TimedRecord)
        (new : NormalisedPoint) → NormalisesAll feed (r ∷ []) x.at ts text left new
        → NormalisesAll feed (x.records ++ r ∷ []) x.first (x.taken ++ ts)
        (x.text ++ text) left new
    joined r x ts text left new n =
        all_then feed (x.records ++ r ∷ []) x.first x.taken ts x.text text
        (r ∷ []) left x.at new
        (subst (λ (l : List TimedRecord). NormalisesAll feed (x.records ++ r ∷ [])
        x.first x.taken x.text (l ++ r ∷ []) x.at) x.none_left
        (all_longer feed x.records x.first x.taken x.text x.left x.at (r ∷ [])
        x.normalises)) n

    -- a record came, and was taken
    pub kept_record : {to : R} {calls : ℕ} {finish next : S} {rest left seen waits longer : List ℕ}
        {after last : W} {IsAt : NormalisedPoint → Type 0} (IsNext : NormalisedPoint → Type 0)
        (r : TimedRecord) (len : ℕ) → seen ≡ rest → left ≡ drop len rest
        → TakesPiece parsing.reads finish seen (r ∷ []) len next
        → IsRecord (venues_normalised feed) r.what
        → (x : Kept reading parsing writing feed from calls to start finish rest before after waits
        IsAt)
        → TookOf writing feed (r ∷ []) x.at (λ l. l ≡ []) IsNext after last waits longer
        → Kept reading parsing writing feed from calls to start next left before last longer IsNext
    kept_record {waits = waits} {longer = longer} {after = after} {last = last} IsNext r len same
        gone piece is x t = record {
          records = x.records ++ r ∷ [];
          read = read_more laws x.records (r ∷ []) len same gone piece
              (All-cons (IsRecord (venues_normalised feed)) r.what [] is
              (All-nil (IsRecord (venues_normalised feed)))) x.read;
          first = x.first;
          is_first = x.is_first;
          taken = x.taken ++ t.taken;
          text = x.text ++ t.text;
          left = t.left;
          at = t.after;
          normalises = joined r x t.taken t.text t.left t.after t.normalises;
          none_left = t.is_left;
          shown = x.shown ++ t.puts.shown;
          took = laws.adds_more before after last x.shown t.puts.shown x.took t.puts.wrote;
          all = sym (append_assoc (begun_text feed.form) x.text t.text)
              ∙ ap (λ (l : List ℕ). l ++ t.text) x.all ∙ append_assoc x.shown waits t.text
              ∙ ap (λ (l : List ℕ). x.shown ++ l) t.puts.all
              ∙ sym (append_assoc x.shown t.puts.shown longer);
          is_at = t.is_after;
        }

    -- the same records were read, and otherwise nothing changed
    kept_as : {mid to : R} {calls all : ℕ} {finish next : S} {rest left waits : List ℕ} {after : W}
        {IsAt : NormalisedPoint → Type 0}
        → (x : Kept reading parsing writing feed from calls mid start finish rest before after waits
        IsAt)
        → HasReadRecords reading parsing (venues_normalised feed) from all to start x.records next
        left
        → Kept reading parsing writing feed from all to start next left before after waits IsAt
    kept_as x read = record {
      records = x.records;
      first = x.first;
      is_first = x.is_first;
      taken = x.taken;
      text = x.text;
      left = x.left;
      at = x.at;
      normalises = x.normalises;
      none_left = x.none_left;
      shown = x.shown;
      took = x.took;
      all = x.all;
      is_at = x.is_at;
      read = read;
    }

    -- a piece without a record was passed
    pub kept_passed : {to : R} {calls : ℕ} {finish next : S} {rest left seen waits : List ℕ}
        {after : W} {IsAt : NormalisedPoint → Type 0} (len : ℕ) → seen ≡ rest
        → left ≡ drop len rest → TakesPiece parsing.reads finish seen [] len next
        → Kept reading parsing writing feed from calls to start finish rest before after waits IsAt
        → Kept reading parsing writing feed from calls to start next left before after waits IsAt
    kept_passed {to = to} {calls = calls} {next = next} {left = left} len same gone piece x =
        kept_as x (subst (λ (rs : List TimedRecord). HasReadRecords reading parsing
        (venues_normalised feed) from calls to start rs next left) (append-nil x.records)
        (read_more laws x.records [] len same gone piece
        (All-nil (IsRecord (venues_normalised feed))) x.read))

    -- more bytes came
    pub kept_read : {mid to : R} {calls : ℕ} {finish : S} {rest longer waits : List ℕ} {after : W}
        {IsAt : NormalisedPoint → Type 0} (all : ℕ) → calls + 1 ≡ all
        → HasGiven reading.gives mid to rest longer 1
        → Kept reading parsing writing feed from calls mid start finish rest before after waits IsAt
        → Kept reading parsing writing feed from all to start finish longer before after waits IsAt
    kept_read {mid = mid} {to = to} {calls = calls} {finish = finish} {rest = rest}
        all count m x = kept_as x (record {
          each = x.read.each;
          bytes = x.read.bytes ++ m.bytes;
          given = rw (← count) (laws.gives_more from mid to calls 1 x.read.bytes
              m.bytes x.read.given m.given);
          read = rw m.behind (laws.reads_longer start finish x.read.bytes rest m.bytes
              x.records x.read.read);
        })

    -- what waited was written
    pub kept_written : {to : R} {calls : ℕ} {finish : S} {rest waits left : List ℕ}
        {after last : W} {IsAt : NormalisedPoint → Type 0} (IsNext : NormalisedPoint → Type 0)
        → writing.adds after waits last → left ≡ []
        → ((p : NormalisedPoint) → IsAt p → IsNext p)
        → Kept reading parsing writing feed from calls to start finish rest before after waits IsAt
        → Kept reading parsing writing feed from calls to start finish rest before last left IsNext
    kept_written {waits = waits} {left = left} {after = after} {last = last} IsNext wrote none lead
        x = record {
          records = x.records;
          read = x.read;
          first = x.first;
          is_first = x.is_first;
          taken = x.taken;
          text = x.text;
          left = x.left;
          at = x.at;
          normalises = x.normalises;
          none_left = x.none_left;
          shown = x.shown ++ waits;
          took = laws.adds_more before after last x.shown waits x.took wrote;
          all = x.all ∙ sym (append-nil (x.shown ++ waits))
              ∙ ap (λ (l : List ℕ). (x.shown ++ waits) ++ l) (sym none);
          is_at = lead x.at x.is_at;
        }

    -- the format that is left as it was
    pub kept_same : {to : R} {calls : ℕ} {finish next : S} {rest waits : List ℕ} {after : W}
        {IsAt : NormalisedPoint → Type 0} → next ≡ finish
        → Kept reading parsing writing feed from calls to start finish rest before after waits IsAt
        → Kept reading parsing writing feed from calls to start next rest before after waits IsAt
    kept_same {to = to} {calls = calls} {rest = rest} {waits = waits} {after = after} {IsAt = IsAt}
        e x =
        subst (λ (s : S). Kept reading parsing writing feed from calls to start s rest before after
        waits IsAt) (sym e) x

    -- all that was read was taken and written
    pub has_all : {mid : R} {calls : ℕ} {finish : S} {rest waits : List ℕ} {after : W}
        {IsAt : NormalisedPoint → Type 0} (IsRest : List ℕ → Type 0) (CameTo : ℕ → R → Type 0)
        → waits ≡ [] → IsRest rest → CameTo calls mid
        → Kept reading parsing writing feed from calls mid start finish rest before after waits IsAt
        → HasNormalised reading parsing feed from start finish IsRest CameTo IsNoneLeft IsAt
        (TookText writing before after)
    has_all {mid = mid} {calls = calls} {rest = rest} {after = after} IsRest CameTo none is came x =
        record {
          records = x.records;
          calls = calls;
          mid = mid;
          rest = rest;
          read = x.read;
          is_rest = is;
          came_to = came;
          first = x.first;
          is_first = x.is_first;
          taken = x.taken;
          text = x.text;
          left = x.left;
          after = x.at;
          normalises = x.normalises;
          is_left = x.none_left;
          is_after = x.is_at;
          written = subst (λ (l : List ℕ). writing.adds before l after)
              (sym (x.all ∙ ap (λ (l : List ℕ). x.shown ++ l) none ∙ append-nil x.shown)) x.took;
        }

    -- of what waited a part was written
    pub has_part : {to : R} {calls : ℕ} {finish : S} {rest waits : List ℕ} {after last : W}
        {IsAt : NormalisedPoint → Type 0} → Wrote writing.adds after waits last
        → Kept reading parsing writing feed from calls to start finish rest before after waits IsAt
        → HasNormalised reading parsing feed from start finish (λ rest. ⊤) (λ calls mid. mid ≡ to)
        (λ left. ⊤) (λ at. ⊤) (TookPart writing feed before last)
    has_part {to = to} {calls = calls} {rest = rest} {waits = waits} {after = after} {last = last}
        part x = record {
          records = x.records;
          calls = calls;
          mid = to;
          rest = rest;
          read = x.read;
          is_rest = tt;
          came_to = refl;
          first = x.first;
          is_first = x.is_first;
          taken = x.taken;
          text = x.text;
          left = x.left;
          after = x.at;
          normalises = x.normalises;
          is_left = tt;
          is_after = tt;
          written = (
            [],
            inl refl,
            subst (λ (l : List ℕ). Wrote writing.adds before l last)
                (sym (append_assoc (begun_text feed.form) x.text []))
                (wrote_after writing.adds laws.adds_more before after last (begun_text feed.form)
                x.text waits [] x.shown x.took x.all
                (subst (λ (l : List ℕ). Wrote writing.adds after l last) (sym (append-nil waits))
                part)),
          );
        }

    -- a record was read, of which these were taken, and so much is written
    within_record : {to : R} {calls : ℕ} {finish next : S} {rest seen waits : List ℕ} {after : W}
        {IsAt : NormalisedPoint → Type 0} (r : TimedRecord) (len : ℕ)
        → seen ≡ rest → TakesPiece parsing.reads finish seen (r ∷ []) len next
        → IsRecord (venues_normalised feed) r.what
        → (x : Kept reading parsing writing feed from calls to start finish rest before after waits
        IsAt)
        (taken : List TimedRecord) (text : List ℕ) (left : List TimedRecord) (new : NormalisedPoint)
        → NormalisesAll feed (r ∷ []) x.at taken text left new
        → (IsWritten : NormalisedPoint → List TimedRecord → List ℕ → Type 0)
        → IsWritten new left (begun_text feed.form ++ (x.text ++ text))
        → HasNormalised reading parsing feed from start next (λ rest. ⊤) (λ calls mid. mid ≡ to)
        (λ left. ⊤) (λ at. ⊤) IsWritten
    within_record {to = to} {calls = calls} {rest = rest} r len same piece is x taken text left new
        normalises IsWritten written = record {
          records = x.records ++ r ∷ [];
          calls = calls;
          mid = to;
          rest = drop len rest;
          read = read_more laws x.records (r ∷ []) len same refl piece
              (All-cons (IsRecord (venues_normalised feed)) r.what [] is
              (All-nil (IsRecord (venues_normalised feed)))) x.read;
          is_rest = tt;
          came_to = refl;
          first = x.first;
          is_first = x.is_first;
          taken = x.taken ++ taken;
          text = x.text ++ text;
          left = left;
          after = new;
          normalises = joined r x taken text left new normalises;
          is_left = tt;
          is_after = tt;
          written = written;
        }

    -- the writer failed within a record
    pub failed_record : {to : R} {calls : ℕ} {finish next : S} {rest seen waits : List ℕ}
        {after last : W} {IsAt : NormalisedPoint → Type 0} (r : TimedRecord) (len : ℕ)
        → seen ≡ rest → TakesPiece parsing.reads finish seen (r ∷ []) len next
        → IsRecord (venues_normalised feed) r.what
        → (x : Kept reading parsing writing feed from calls to start finish rest before after waits
        IsAt)
        → FailedWithin writing feed (r ∷ []) x.at after last waits
        → HasNormalised reading parsing feed from start next (λ rest. ⊤) (λ calls mid. mid ≡ to)
        (λ left. ⊤) (λ at. ⊤) (TookPart writing feed before last)
    failed_record {waits = waits} {after = after} {last = last} r len same piece is x t =
        within_record r len same piece is x t.taken t.text t.left t.after t.normalises
        (TookPart writing feed before last) (
          t.more,
          t.within,
          subst (λ (l : List ℕ). Wrote writing.adds before l last)
              (sym (append_assoc (begun_text feed.form) (x.text ++ t.text) t.more
              ∙ ap (λ (l : List ℕ). begun_text feed.form ++ l)
              (append_assoc x.text t.text t.more)))
              (wrote_after writing.adds laws.adds_more before after last (begun_text feed.form)
              x.text waits (t.text ++ t.more) x.shown x.took x.all t.wrote),
        )

    -- a book took no more within a record, and what waited was written, or a part of it
    module _ {to : R} {calls : ℕ} {finish next : S} {rest seen waits longer : List ℕ}
        {after mid : W} {IsAt : NormalisedPoint → Type 0} (r : TimedRecord) (len : ℕ)
        (same : seen ≡ rest) (piece : TakesPiece parsing.reads finish seen (r ∷ []) len next)
        (is : IsRecord (venues_normalised feed) r.what)
        (x : Kept reading parsing writing feed from calls to start finish rest before after waits
        IsAt)
        (t : TookOf writing feed (r ∷ []) x.at (λ left. ⊤) (λ p. ⊤) after mid waits longer) where
      text_all : begun_text feed.form ++ (x.text ++ t.text) ≡ (x.shown ++ t.puts.shown) ++ longer
      text_all =
          sym (append_assoc (begun_text feed.form) x.text t.text)
          ∙ ap (λ (l : List ℕ). l ++ t.text) x.all ∙ append_assoc x.shown waits t.text
          ∙ ap (λ (l : List ℕ). x.shown ++ l) t.puts.all
          ∙ sym (append_assoc x.shown t.puts.shown longer)

      took_both : writing.adds before (x.shown ++ t.puts.shown) mid
      took_both = laws.adds_more before after mid x.shown t.puts.shown x.took t.puts.wrote

      pub stopped_record : {last : W} → writing.adds mid longer last
          → HasNormalised reading parsing feed from start next (λ rest. ⊤) (λ calls mid. mid ≡ to)
          (λ left. ⊤) (λ at. ⊤) (TookText writing before last)
      stopped_record {last = last} wrote =
          within_record r len same piece is x t.taken t.text t.left t.after t.normalises
          (TookText writing before last)
          (subst (λ (l : List ℕ). writing.adds before l last) (sym text_all)
          (laws.adds_more before mid last (x.shown ++ t.puts.shown) longer took_both wrote))

      pub stopped_part : {last : W} → Wrote writing.adds mid longer last
          → HasNormalised reading parsing feed from start next (λ rest. ⊤) (λ calls mid. mid ≡ to)
          (λ left. ⊤) (λ at. ⊤) (TookPart writing feed before last)
      stopped_part {last = last} part =
          within_record r len same piece is x t.taken t.text t.left t.after t.normalises
          (TookPart writing feed before last) (
            [],
            inl refl,
            subst (λ (l : List ℕ). Wrote writing.adds before l last)
                (sym (append_assoc (begun_text feed.form) (x.text ++ t.text) []))
                (wrote_after writing.adds laws.adds_more before mid last (begun_text feed.form)
                (x.text ++ t.text) longer [] (x.shown ++ t.puts.shown) took_both text_all
                (subst (λ (l : List ℕ). Wrote writing.adds mid l last) (sym (append-nil longer))
                part)),
          )

    -- why a run ends at a record
    pub stop_answers : {to : R} {calls : ℕ} {finish next : S}
        {rest seen waits : List ℕ} {after : W} {IsAt : NormalisedPoint → Type 0}
        (turns : ℕ) (longer : List ℕ) (mid last : W)
        (IsLeft : List TimedRecord → Type 0) (IsAfter IsPoint : NormalisedPoint → Type 0)
        (r : TimedRecord) (len : ℕ) (stop : VenueStop) (ends : NormaliseStop F)
        (same : seen ≡ rest) (piece : TakesPiece parsing.reads finish seen (r ∷ []) len next)
        (is : IsRecord (venues_normalised feed) r.what)
        (writes : writing.failures after ≡ writing.failures before)
        (x : Kept reading parsing writing feed from calls to start finish rest before after waits
        IsAt)
        → RunsOn {A = Unit {0}} writing feed (r ∷ []) x.at IsLeft IsAfter after mid waits longer
        (Err stop)
        → EndsRun writing longer mid last stop ends
        → AnswersNormalising reading parsing writing feed turns from to start next before last
        IsPoint (Err ends)
    stop_answers {to = to} {next = next} turns longer mid last IsLeft IsAfter IsPoint r len
        (Sink stop) ends same piece is writes x t e =
        subst (λ (s : NormaliseStop F).
        AnswersNormalising reading parsing writing feed turns from to start next before last IsPoint
        (Err s))
        (sym e.0)
        (subst (λ (w : W). AnswersNormalising reading parsing writing feed turns from to
        start next before w IsPoint (Err (Replay SinkFailed))) (sym e.1) (
          failed_record r len same piece is x t,
          t.failed ∙ ap (λ (n : ℕ). n + 1) writes,
        ))
    stop_answers turns longer mid last IsLeft IsAfter IsPoint r len (Book fault)
        (ends.Book venue why) same piece is writes x t e =
        stopped_record r len same piece is x t e.0
    stop_answers {to = to} {next = next} turns longer mid last IsLeft IsAfter IsPoint r len
        (Book fault) (Replay why) same piece is writes x t e =
        subst (λ (s : NormaliseStop F).
        AnswersNormalising reading parsing writing feed turns from to start next before last IsPoint
        (Err s))
        (sym e.0) (
          stopped_part r len same piece is x t e.1,
          e.2 ∙ ap (λ (n : ℕ). n + 1) (t.puts.kept ∙ writes),
        )
    stop_answers {to = to} {next = next} turns longer mid last IsLeft IsAfter IsPoint r len
        (Book fault) (Fault why) same piece is writes x t e =
        subst (λ (s : NormaliseStop F).
        AnswersNormalising reading parsing writing feed turns from to start next before last IsPoint
        (Err s))
        (sym e.0) (
          stopped_part r len same piece is x t e.1,
          e.2 ∙ ap (λ (n : ℕ). n + 1) (t.puts.kept ∙ writes),
        )
    stop_answers {to = to} {next = next} turns longer mid last IsLeft IsAfter IsPoint r len
        (Book fault) (ends.Snapshot venue why) same piece is writes x t e =
        subst (λ (s : NormaliseStop F).
        AnswersNormalising reading parsing writing feed turns from to start next before last IsPoint
        (Err s))
        (sym e.0) (
          stopped_part r len same piece is x t e.1,
          e.2 ∙ ap (λ (n : ℕ). n + 1) (t.puts.kept ∙ writes),
        )

-- the point is of a weaker kind, too
has_weaker : {R S F : Type 0} (reading : Reading R) (parsing : Parsing S F)
    (feed : NormalisedFeed) (from : R) (start finish : S) (IsRest : List ℕ → Type 0)
    (CameTo : ℕ → R → Type 0) (IsLeft : List TimedRecord → Type 0)
    (IsMid IsAfter : NormalisedPoint → Type 0)
    (IsWritten : NormalisedPoint → List TimedRecord → List ℕ → Type 0)
    → ((p : NormalisedPoint) → IsMid p → IsAfter p)
    → HasNormalised reading parsing feed from start finish IsRest CameTo IsLeft IsMid IsWritten
    → HasNormalised reading parsing feed from start finish IsRest CameTo IsLeft IsAfter IsWritten
has_weaker reading parsing feed from start finish IsRest CameTo IsLeft IsMid IsAfter IsWritten lead
    x = record {
      records = x.records;
      calls = x.calls;
      mid = x.mid;
      rest = x.rest;
      read = x.read;
      is_rest = x.is_rest;
      came_to = x.came_to;
      first = x.first;
      is_first = x.is_first;
      taken = x.taken;
      text = x.text;
      left = x.left;
      after = x.after;
      normalises = x.normalises;
      is_left = x.is_left;
      is_after = lead x.after x.is_after;
      written = x.written;
    }

pub answers_weaker : {R S F W : Type 0} (reading : Reading R) (parsing : Parsing S F)
    (writing : Writing W) (feed : NormalisedFeed) (turns : ℕ) (from to : R) (start finish : S)
    (before after : W) (IsMid IsAfter : NormalisedPoint → Type 0)
    → ((p : NormalisedPoint) → IsMid p → IsAfter p)
    → (result : Result (Unit {0}) (NormaliseStop F))
    → AnswersNormalising reading parsing writing feed turns from to start finish before after IsMid
    result
    → AnswersNormalising reading parsing writing feed turns from to start finish before after
    IsAfter result
answers_weaker reading parsing writing feed turns from to start finish before after IsMid IsAfter
    lead (Ok done) x =
    has_weaker reading parsing feed from start finish _ _ _ IsMid IsAfter _ lead x
answers_weaker reading parsing writing feed turns from to start finish before after IsMid IsAfter
    lead (Err (Replay (Bad fault))) x =
    has_weaker reading parsing feed from start finish _ _ _ IsMid IsAfter _ lead x
answers_weaker reading parsing writing feed turns from to start finish before after IsMid IsAfter
    lead (Err (Replay Short)) x =
    has_weaker reading parsing feed from start finish _ _ _ IsMid IsAfter _ lead x
answers_weaker reading parsing writing feed turns from to start finish before after IsMid IsAfter
    lead (Err (Replay ReadFailed)) x =
    (has_weaker reading parsing feed from start finish _ _ _ IsMid IsAfter _ lead x.0, x.1)
answers_weaker reading parsing writing feed turns from to start finish before after IsMid IsAfter
    lead (Err (Replay TooManyTurns)) x =
    has_weaker reading parsing feed from start finish _ _ _ IsMid IsAfter _ lead x
answers_weaker reading parsing writing feed turns from to start finish before after IsMid IsAfter
    lead (Err (Replay SinkFailed)) x =
    x
answers_weaker reading parsing writing feed turns from to start finish before after IsMid IsAfter
    lead (Err (Replay NoMemory)) x =
    x
answers_weaker reading parsing writing feed turns from to start finish before after IsMid IsAfter
    lead (Err (Replay JournalFull)) x =
    x
answers_weaker reading parsing writing feed turns from to start finish before after IsMid IsAfter
    lead (Err (Fault fault)) x =
    x
answers_weaker reading parsing writing feed turns from to start finish before after IsMid IsAfter
    lead (Err (ends.Snapshot venue fault)) x =
    x
answers_weaker reading parsing writing feed turns from to start finish before after IsMid IsAfter
    lead (Err (ends.Book venue fault)) x =
    x
