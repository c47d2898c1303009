-- Each list of records emits events.
use Rattle.std.proofs.Common.{◌≡◌, ℕ, ◌<◌, Bool, List, [], ◌∷◌, ◌++◌, length, refl, sym, subst, ◌∙◌, arith, inl, inr}
use Rattle.std.specs.Prelude.{All, map, slice_set}
use Rattle.std.specs.List.{AllByRecursion}
use Rattle.std.proofs.lemmas.List.{length-map}
use Rattle.std.proofs.lemmas.List.Elements.{recursion_from_All}
use Rattle.std.proofs.Math.ListN.{length-set}
use Rattle.mold_packet.specs.laws.EveryReading.{read_or_fault}
use Rattle.line_arbiter.specs.Packets.{arrival_of, end_of}
use Rattle.line_arbiter.specs.Histories.{History, new_history, names_of, after_input, history_after, skip_after}
use Rattle.line_arbiter.specs.laws.EveryAnswer.{every_answer, every_renewal}
use Rattle.line_arbiter.specs.laws.SkipAnswers.{every_skip}
use Rattle.feed_text.specs.declared.replay.ReplayConfig.{ReplayConfig}
use Rattle.capture_records.specs.Capture.{CaptureRecord, datagram_record, renewal_record, skip_record, self_help_record, record_venue, IsRecord, HoldsBytes}
use Rattle.feed_text.specs.ReplayEvents.{ReplayEvent, packet_answered, packet_refused, renewal_answered, skip_answered, self_help_declared}
use Rattle.line_arbiter.specs.LastSent.{last_sent}
use Rattle.feed_text.specs.Emitted.{gap_emitted, items_emitted, EmitsAt, EmitsRecord, Emits}
use Rattle.feed_text.specs.Texts.{EmitsAll}
use Rattle.feed_text.specs.EventReplays.{venues_in}
use Rattle.feed_types.specs.ListLaws.{get_within}

-- the events that a record emits of its venue, which has this history
tells_at : (window : ℕ) (gaps : Bool) (r : CaptureRecord) (old : History) → HoldsBytes r
    → (emitted : List ReplayEvent) × (new : History) × EmitsAt window gaps r old emitted new
tells_at window gaps (datagram_record venue line bytes) old are = elim (read_or_fault bytes are) [
  | inr fault ↦ (
    packet_refused venue line fault.0 ∷ gap_emitted window gaps venue old,
    old,
    inl (record { fault = fault.0; has = fault.1; same = refl; emitted_is = refl }),
  )
  | inl read ↦
      let given = every_answer old.present.name window (last_sent old) old.present.packets read.0 in
      let new : History = after_input old (arrival_of line read.0 given.0) in (
        packet_answered venue line read.0.number (length read.0.messages) (length bytes) given.0
            ∷ items_emitted venue old new.present.packets ++ gap_emitted window gaps venue new,
        new,
        inr (record {
          packet = read.0;
          rest = read.1;
          answer = given.0;
          spells = read.2;
          taken =
              record { right = given.1; is = refl };
          emitted_is = refl;
        }),
      )
]
tells_at window gaps (renewal_record venue name) old are =
    let given = every_renewal (names_of old) (end_of old.present.packets) (last_sent old) name in (
      renewal_answered venue given.0 ∷ [],
      history_after old name given.0,
      record {
        answer = given.0;
        renewed = record { right = given.1; is = refl };
        emitted_is = refl;
      },
    )
tells_at window gaps (skip_record venue number) old are =
    let given = every_skip old.present.packets (last_sent old) number in
    let new : History = skip_after old number given.0 in (
      skip_answered venue number given.0 ∷ items_emitted venue old new.present.packets,
      new,
      record {
        answer = given.0;
        skipped = record { right = given.1; is = refl };
        emitted_is =
            refl;
      },
    )
tells_at window gaps (self_help_record venue on) old are = (
  self_help_declared venue on
      ∷ [],
  old,
  record { same = refl; emitted_is = refl },
)

tells_record : (window : ℕ) (gaps : Bool) (r : CaptureRecord) (old : List History)
    → record_venue r < length old → HoldsBytes r → (emitted : List ReplayEvent)
    × (new : List History) × EmitsRecord window gaps r old emitted new
tells_record window gaps r old within are =
    let h = get_within old (record_venue r) within in
    let one = tells_at window gaps r h.0 are in (
      one.0,
      slice_set old (record_venue r) one.1,
      record {
        before = h.0;
        after = one.1;
        at = h.1;
        emits = one.2;
        others = refl;
      },
    )

emits : (window : ℕ) (gaps : Bool) (venues : ℕ) (rs : List CaptureRecord) (old : List History)
    → length old ≡ venues → AllByRecursion (IsRecord venues) rs → AllByRecursion HoldsBytes rs
    → (emitted : List ReplayEvent) × (new : List History) × Emits window gaps rs old emitted new
emits window gaps venues [] old count all are = ([], old, (refl, refl))
emits window gaps venues (r ∷ rs) old count all are =
    let within = all.0.venue in
    let first = tells_record window gaps r old (omega arith) are.0 in
    let others = emits window gaps venues rs first.1
    (subst (λ (hs : List History). length hs ≡ venues) (sym first.2.others)
    (length-set old (record_venue r) first.2.after ∙ count)) all.1 are.1 in
    (first.0 ++ others.0, others.1, (first.1, first.0, others.0, first.2, others.2, refl))

pub every_telling : (config : ReplayConfig) (records : List CaptureRecord)
    → All (IsRecord (venues_in config)) records → All HoldsBytes records
    → (emitted : List ReplayEvent) × (histories : List History)
    × EmitsAll config records emitted histories
every_telling config records all are =
    emits config.window config.gaps (venues_in config) records (map new_history config.sessions.now)
    (length-map config.sessions.now new_history)
    (recursion_from_All (IsRecord (venues_in config)) records all)
    (recursion_from_All HoldsBytes records are)
