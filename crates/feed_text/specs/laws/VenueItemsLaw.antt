-- The items that are emitted of a venue are its streams.
use Rattle.std.proofs.Common.{◌≡◌, ◌≢◌, ◌≤◌, ℕ, zero, suc, Bool, true, false, List, [], ◌∷◌, ◌++◌, length, map, drop, Some, None, Option, Result, Ok, Err, refl, sym, ap, subst, ◌∙◌, arith, append_assoc, append-nil, inl, inr}
use Rattle.std.specs.Prelude.{◌==◌, slice_get, slice_set, if◌then◌else◌}
use Rattle.std.proofs.Math.ListN.{drop_of_length-le}
use Rattle.std.proofs.Math.Seq.{drop-append_seam}
use Rattle.std.proofs.lemmas.Bool.Decides.{nat_tests}
use Rattle.std.proofs.lemmas.Grind.{flat_map-append}
use Rattle.feed_types.specs.declared.item.Numbered.{Numbered}
use Rattle.feed_types.specs.declared.line.LineId.{LineId}
use Rattle.feed_types.specs.Prefix.{IsPrefix}
use Rattle.mold_packet.specs.declared.request.Request.{Request}
use Rattle.line_arbiter.specs.declared.outcome.Outcome.{Outcome}
use Rattle.line_arbiter.specs.declared.outcome.LineFault.{LineFault}
use Rattle.line_arbiter.specs.declared.faults.RenewFault.{RenewFault}
use Rattle.line_arbiter.specs.declared.faults.SkipFault.{SkipFault}
use Rattle.line_arbiter.specs.Packets.{Input, Skip, arrival_of, end_of}
use Rattle.line_arbiter.specs.Renewals.{IsRenewal}
use Rattle.line_arbiter.specs.Skips.{IsSkip}
use Rattle.line_arbiter.specs.Streams.{place_of, stream_of, gap_of}
use Rattle.line_arbiter.specs.Answered.{IsAnswered}
use Rattle.line_arbiter.specs.Histories.{Begun, History, new_history, new_session, all_begun, names_of, streams_of, after_input, history_after, skip_after}
use Rattle.line_arbiter.specs.Histories as histories
use Rattle.line_arbiter.specs.laws.Histories.{items_push}
use Rattle.line_arbiter.specs.laws.Below.{answered_grows}
use Rattle.line_arbiter.specs.laws.AnsweredHistories.{IsAnsweredThroughout, new_answered, answered_arrival, answered_renewal}
use Rattle.feed_text.specs.declared.replay.ReplayConfig.{ReplayConfig}
use Rattle.capture_records.specs.Capture.{CaptureRecord, datagram_record, renewal_record, skip_record, self_help_record, record_venue}
use Rattle.feed_text.specs.ReplayEvents.{ReplayEvent, item_taken, packet_answered, renewal_answered}
use Rattle.line_arbiter.specs.LastSent.{last_sent, stream_length}
use Rattle.feed_text.specs.Emitted.{gap_event, gap_emitted, EmitsPacket, EmitsSkip, EmitsAt, EmitsRecord, Emits}
use Rattle.feed_text.specs.Texts.{EmitsAll}
use Rattle.feed_text.specs.VenueItems.{taken_by, items_taken}
use Rattle.line_arbiter.specs.laws.LastSent.{place_last}
use Rattle.feed_types.specs.ListLaws.{get_set_same, get_set_other, same_or_not}

-- ---- what came to a venue

-- The effect of a record on a venue: the items that it emits follow the venue's streams.
pub record AddsEmittedItems (window place : ℕ) (old : History) (emitted : List ReplayEvent)
    (new : History) : Type 0 where
  pub items : streams_of new ≡ streams_of old ++ items_taken place emitted
  pub kept : IsAnsweredThroughout window new

-- ---- the items among what was emitted

same : (n : ℕ) → (n == n) ≡ true
same n = grind (arith, nat_tests)

other : (m n : ℕ) → m ≢ n → (m == n) ≡ false
other m n h = grind (arith, nat_tests, h)

pub items_same : (place : ℕ) (xs : List Numbered)
    → items_taken place (map (item_taken place) xs) ≡ xs
items_same place [] = refl
items_same place (x ∷ xs) =
    ap (λ (b : Bool). (if b then x ∷ [] else []) ++ items_taken place (map (item_taken place) xs))
    (same place) ∙ ap (λ (ys : List Numbered). x ∷ ys) (items_same place xs)

pub items_other : (place venue : ℕ) (xs : List Numbered) → venue ≢ place
    → items_taken place (map (item_taken venue) xs) ≡ []
items_other place venue [] h = refl
items_other place venue (x ∷ xs) h =
    ap (λ (b : Bool). (if b then x ∷ [] else []) ++ items_taken place (map (item_taken venue) xs))
    (other venue place h) ∙ items_other place venue xs h

no_gap_items : (place window : ℕ) (gaps : Bool) (venue : ℕ) (h : History)
    → items_taken place (gap_emitted window gaps venue h) ≡ []
no_gap_items place window false venue h = refl
no_gap_items place window true venue h =
    at (gap_of h.present.name window (last_sent h) h.present.packets)
  where
    at : (o : Option Request) → items_taken place (gap_event venue o) ≡ []
    at None = refl
    at (Some request) = refl

-- of a packet's events
packet_items : (place window : ℕ) (gaps : Bool) (venue : ℕ) (line : LineId)
    (number count bytes : ℕ) (answer : Result Outcome LineFault) (xs : List Numbered) (h : History)
    → items_taken place (packet_answered venue line number count bytes answer
    ∷ map (item_taken venue) xs ++ gap_emitted window gaps venue h)
    ≡ items_taken place (map (item_taken venue) xs)
packet_items place window gaps venue line number count bytes answer xs h =
    flat_map-append (taken_by place) (map (item_taken venue) xs) (gap_emitted window gaps venue h)
    ∙ ap (λ (ys : List Numbered). items_taken place (map (item_taken venue) xs) ++ ys)
    (no_gap_items place window gaps venue h)
    ∙ append-nil (items_taken place (map (item_taken venue) xs))

-- ---- a record of the venue

stays : (window place : ℕ) (old new : History) (emitted : List ReplayEvent)
    → IsAnsweredThroughout window old → new ≡ old → items_taken place emitted ≡ []
    → AddsEmittedItems window place old emitted new
stays window place old new emitted k e none =
    subst (AddsEmittedItems window place old emitted) (sym e) (record {
      items =
          sym (append-nil (streams_of old))
          ∙ ap (λ (xs : List Numbered). streams_of old ++ xs) (sym none);
      kept = k;
    })

seam : {xs ys : List Numbered} → IsPrefix xs ys → ys ≡ xs ++ drop (length xs) ys
seam {xs = xs} a =
    a.is ∙ ap (λ (l : List Numbered). xs ++ l) (sym (drop-append_seam xs a.rest))
    ∙ ap (λ (l : List Numbered). xs ++ drop (length xs) l) (sym a.is)

module _ (window : ℕ) (gaps : Bool) (venue : ℕ) where
  -- the items of a packet are those that it made ready
  pub ready_items : (line : LineId) (bytes : List ℕ) (old new : History)
      (emitted : List ReplayEvent) → EmitsPacket window gaps venue line bytes old emitted new
      → items_taken venue emitted ≡ drop (stream_length old) (stream_of new.present.packets)
  ready_items line bytes old new emitted t =
      let ready : List Numbered = drop (stream_length old) (stream_of new.present.packets) in
      ap (items_taken venue) t.emitted_is
      ∙ packet_items venue window gaps venue line t.packet.number
      (length t.packet.messages) (length bytes) t.answer ready new ∙ items_same venue ready

  -- the items that a skip made ready
  pub skip_items : (number : ℕ) (old new : History) (emitted : List ReplayEvent)
      → EmitsSkip venue number old emitted new
      → items_taken venue emitted ≡ drop (stream_length old) (stream_of new.present.packets)
  skip_items number old new emitted t =
      ap (items_taken venue) t.emitted_is
      ∙ items_same venue (drop (stream_length old) (stream_of new.present.packets))

  -- one more packet came, or a skip
  input_goes : (x : Input) (old new : History) (emitted : List ReplayEvent)
      → IsAnsweredThroughout window old → IsAnswered old.present.name window old.present.packets x
      → new ≡ after_input old x
      → items_taken venue emitted ≡ drop (stream_length old) (stream_of new.present.packets)
      → AddsEmittedItems window venue old emitted new
  input_goes x old new emitted k one grown ready_is =
      let b : Begun = old.present in
      let next : Begun = record b { packets = b.packets ++ x ∷ [] } in
      let ready : List Numbered = drop (stream_length old) (stream_of next.packets) in
      let items : items_taken venue emitted ≡ ready =
      ready_is ∙ ap (λ (h : History). drop (stream_length old) (stream_of h.present.packets)) grown
      in
      subst (AddsEmittedItems window venue old emitted) (sym grown) (record {
        items = items_push old.earlier next
            ∙ ap (λ (xs : List Numbered). histories.items_of old.earlier ++ xs)
            (seam (answered_grows b.name window b.packets x k.answered one))
            ∙ sym (append_assoc (histories.items_of old.earlier) (stream_of b.packets) ready)
            ∙ ap (λ (xs : List Numbered). xs ++ ready) (sym (items_push old.earlier b))
            ∙ ap (λ (xs : List Numbered). streams_of old ++ xs) (sym items);
        kept = answered_arrival window old k x one;
      })

  packet_goes : (line : LineId) (bytes : List ℕ) (old new : History) (emitted : List ReplayEvent)
      → IsAnsweredThroughout window old → EmitsPacket window gaps venue line bytes old emitted new
      → AddsEmittedItems window venue old emitted new
  packet_goes line bytes old new emitted k t =
      input_goes (arrival_of line t.packet t.answer) old new emitted k
      (record { content = t.spells.content; sent = last_sent old; outcome = t.taken.right })
      t.taken.is
      (ready_items line bytes old new emitted t)

  skip_goes : (number : ℕ) (old new : History) (emitted : List ReplayEvent)
      (answer : Result (Unit {0}) SkipFault) → IsAnsweredThroughout window old
      → IsSkip old.present.packets (last_sent old) number answer
      → new ≡ skip_after old number answer
      → items_taken venue emitted ≡ drop (stream_length old) (stream_of new.present.packets)
      → AddsEmittedItems window venue old emitted new
  skip_goes number old new emitted (Ok done) k is after items =
      input_goes (Skip number) old new emitted k is.1 after items
  skip_goes number old new emitted (Err fault) k is after items =
      stays window venue old new emitted k after
      (items ∙ ap (λ (h : History). drop (stream_length old) (stream_of h.present.packets)) after
      ∙ drop_of_length-le (stream_of old.present.packets) (omega arith))

  renewal_goes : (name : List ℕ) (old new : History) (emitted : List ReplayEvent)
      (answer : Result ℕ RenewFault) → IsAnsweredThroughout window old
      → IsRenewal (names_of old) (end_of old.present.packets) (last_sent old) name answer
      → new ≡ history_after old name answer → emitted ≡ renewal_answered venue answer ∷ []
      → AddsEmittedItems window venue old emitted new
  renewal_goes name old new emitted (Err fault) k is after emitted_is =
      stays window venue old new emitted k after (ap (items_taken venue) emitted_is)
  renewal_goes name old new emitted (Ok ordinal) k is after emitted_is =
      let place = place_last old in
      let all_taken : place_of old.present.packets (last_sent old) ≤ stream_length old =
      omega arith in
      subst (AddsEmittedItems window venue old emitted) (sym after) (record {
        items =
            items_push (all_begun old) (new_session name)
            ∙ ap (λ (xs : List Numbered). streams_of old ++ xs)
            (sym (ap (items_taken venue) emitted_is));
        kept = answered_renewal window old k (last_sent old) name all_taken is.0;
      })

pub here : (window : ℕ) (gaps : Bool) (r : CaptureRecord) (old new : History)
    (emitted : List ReplayEvent) → IsAnsweredThroughout window old
    → EmitsAt window gaps r old emitted new
    → AddsEmittedItems window (record_venue r) old emitted new
here window gaps (datagram_record venue line bytes) old new emitted k t = elim t [
  | inl f ↦ stays window venue old new emitted k f.same
      (ap (items_taken venue) f.emitted_is ∙ no_gap_items venue window gaps venue new)
  | inr p ↦ packet_goes window gaps venue line bytes old new emitted k p
]
here window gaps (renewal_record venue name) old new emitted k t =
    renewal_goes window gaps venue name old new emitted t.answer k t.renewed.right
    t.renewed.is t.emitted_is
here window gaps (skip_record venue number) old new emitted k t =
    skip_goes window gaps venue number old new emitted t.answer k t.skipped.right t.skipped.is
    (skip_items window gaps venue number old new emitted t)
here window gaps (self_help_record venue on) old new emitted k t =
    stays window venue old new emitted k t.same (ap (items_taken venue) t.emitted_is)

-- ---- a record of another venue

no_items : (window : ℕ) (gaps : Bool) (place : ℕ) (r : CaptureRecord) (old new : History)
    (emitted : List ReplayEvent) → record_venue r ≢ place → EmitsAt window gaps r old emitted new
    → items_taken place emitted ≡ []
no_items window gaps place (datagram_record venue line bytes) old new emitted away t = elim t [
  | inl f ↦ ap (items_taken place) f.emitted_is ∙ no_gap_items place window gaps venue new
  | inr p ↦ ap (items_taken place) p.emitted_is
      ∙ packet_items place window gaps venue line p.packet.number
      (length p.packet.messages) (length bytes) p.answer
      (drop (stream_length old) (stream_of new.present.packets)) new
      ∙ items_other place venue (drop (stream_length old) (stream_of new.present.packets)) away
]
no_items window gaps place (renewal_record venue name) old new emitted away t =
    ap (items_taken place) t.emitted_is
no_items window gaps place (skip_record venue number) old new emitted away t =
    ap (items_taken place) t.emitted_is
    ∙ items_other place venue (drop (stream_length old) (stream_of new.present.packets)) away
no_items window gaps place (self_help_record venue on) old new emitted away t =
    ap (items_taken place) t.emitted_is

-- ---- records

abbrev pub Each : ℕ → List History → Type 0
Each window hs =
    (place : ℕ) (h : History) → slice_get hs place ≡ Some h → IsAnsweredThroughout window h

-- the effect of records on the venue at a place
record Came (window place : ℕ) (old : List History) (emitted : List ReplayEvent)
    (new : History) : Type 0 where
  before : History
  at : slice_get old place ≡ Some before
  items : streams_of new ≡ streams_of before ++ items_taken place emitted
  kept : IsAnsweredThroughout window new

pub one_came : (window : ℕ) (gaps : Bool) (r : CaptureRecord) (old mid : List History)
    (emitted : List ReplayEvent) → Each window old → EmitsRecord window gaps r old emitted mid
    → (place : ℕ) (h : History) → slice_get mid place ≡ Some h → (before : History)
    × (slice_get old place ≡ Some before) × AddsEmittedItems window place before emitted h
one_came window gaps r old mid emitted each t place h at =
    let set : slice_get (slice_set old (record_venue r) t.after) place ≡ Some h =
    subst (λ (hs : List History). slice_get hs place ≡ Some h) t.others at in
    elim (same_or_not place (record_venue r)) [
      | inl now ↦
          let is : h ≡ t.after =
          get_set_same old (record_venue r) t.after h
          (subst (λ (n : ℕ). slice_get (slice_set old (record_venue r) t.after) n ≡ Some h) now
          set) in
          rw (now, is) (
            t.before,
            t.at,
            here window gaps r t.before t.after emitted
                (each (record_venue r) t.before t.at) t.emits,
          )
      | inr away ↦
          let old_at : slice_get old place ≡ Some h =
          sym (get_set_other old (record_venue r) place t.after away) ∙ set in
          let far : record_venue r ≢ place = λ e. away (sym e) in (
            h,
            old_at,
            stays window place h h emitted (each place h old_at) refl
                (no_items window gaps place r t.before t.after emitted far t.emits),
          )
    ]

all_came : (window : ℕ) (gaps : Bool) (rs : List CaptureRecord) (old new : List History)
    (emitted : List ReplayEvent) → Each window old → Emits window gaps rs old emitted new
    → (place : ℕ) (h : History) → slice_get new place ≡ Some h → Came window place old emitted h
all_came window gaps [] old new emitted each t place h at =
    let was : slice_get old place ≡ Some h =
    subst (λ (hs : List History). slice_get hs place ≡ Some h) t.1 at in
    record {
      before = h;
      at = was;
      items =
          sym (append-nil (streams_of h))
          ∙ ap (λ (xs : List Numbered). streams_of h ++ xs) (sym (ap (items_taken place) t.0));
      kept = each place h was;
    }
all_came window gaps (r ∷ rs) old new emitted each t place h at =
    let step = one_came window gaps r old t.0 t.1 each t.3 in
    let c = all_came window gaps rs t.0 new t.2 (λ i k e. (step i k e).2.kept) t.4 place h at in
    let one = step place c.before c.at in
    record {
      before = one.0;
      at = one.1;
      items = c.items
          ∙ ap (λ (xs : List Numbered). xs ++ items_taken place t.2) one.2.items
          ∙ append_assoc (streams_of one.0) (items_taken place t.1) (items_taken place t.2)
          ∙ ap (λ (xs : List Numbered). streams_of one.0 ++ xs)
          (sym (ap (items_taken place) t.5 ∙ flat_map-append (taken_by place) t.1 t.2));
      kept = c.kept;
    }

-- ---- from the first record on

new_at : (Q : History → Type 0) (sessions : List (List ℕ))
    → ((name : List ℕ) → Q (new_history name)) → (i : ℕ) (h : History)
    → slice_get (map new_history sessions) i ≡ Some h → Q h
new_at Q [] f i h e = absurd cc
new_at Q (name ∷ names) f zero h e = subst Q (let same : new_history name ≡ h = cc in same) (f name)
new_at Q (name ∷ names) f (suc i) h e = new_at Q names f i h e

pub new_each : (config : ReplayConfig) → Each config.window (map new_history config.sessions.now)
new_each config =
    λ i k e. new_at (IsAnsweredThroughout config.window) config.sessions.now
    (new_answered config.window) i k e

came : (config : ReplayConfig) (records : List CaptureRecord) (emitted : List ReplayEvent)
    (histories : List History) → EmitsAll config records emitted histories
    → (place : ℕ) (h : History) → slice_get histories place ≡ Some h
    → Came config.window place (map new_history config.sessions.now) emitted h
came config records emitted histories t place h at =
    all_came config.window config.gaps records (map new_history config.sessions.now) histories
    emitted (new_each config) t place h at

pub taken_are_streams : (config : ReplayConfig) (records : List CaptureRecord)
    (emitted : List ReplayEvent) (histories : List History)
    → EmitsAll config records emitted histories
    → (place : ℕ) (h : History) → slice_get histories place ≡ Some h
    → items_taken place emitted ≡ streams_of h
taken_are_streams config records emitted hs t place h at =
    let c = came config records emitted hs t place h at in
    let first =
    new_at (λ k. streams_of k ≡ []) config.sessions.now (λ name. refl) place c.before c.at in
    sym (c.items ∙ ap (λ (xs : List Numbered). xs ++ items_taken place emitted) first)

-- each packet that came was answered by the definitions
pub all_kept : (config : ReplayConfig) (records : List CaptureRecord) (emitted : List ReplayEvent)
    (histories : List History) → EmitsAll config records emitted histories
    → Each config.window histories
all_kept config records emitted hs t place h at = (came config records emitted hs t place h at).kept
