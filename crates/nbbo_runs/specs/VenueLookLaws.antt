-- The laws of what the messages of each venue look like.
use Rattle.std.proofs.Common.{◌≡◌, ℕ, ◌<◌, ◌≤◌, Bool, true, false, cond, List, [], ◌∷◌, ◌++◌, append-nil, length, set, refl, sym, ap, subst, ◌∙◌, arith}
use Rattle.std.specs.Prelude.{◌==◌, Option}
use Rattle.std.proofs.lemmas.Bool.{eqb-false, eqb-true}
use Rattle.std.proofs.lemmas.List.{get_or-set_other, get_or-set_same, length-set}
use Rattle.capture_records.specs.Capture.{CaptureRecord, datagram_record, renewal_record, self_help_record, skip_record}
use Rattle.capture_records.specs.Formats.{TimedRecord, timed_record}
use Rattle.feed_types.specs.declared.line.LineId.TheVariants.{A}
use Rattle.mold_packet.specs.Bytes.{AreBytes}
use Rattle.message_forms.specs.declared.payload.Payload.{Payload}
use Rattle.message_forms.specs.declared.payload.Payload.TheVariants.{Neither}
use Rattle.message_forms.specs.Datagrams.{HasMessages}
use Rattle.message_forms.specs.PayloadLaws.{look_more, look_none, messages_are, own_stays}
use Rattle.message_forms.specs.Payloads.{is_look_own, look_with}
use Rattle.message_types.specs.LineMessages.{RecordBrings, came_at, messages_where}
use Rattle.message_types.specs.LineMessageLaws.{brings_more, datagram_brings, line_messages, messages_more, no_messages, none_where}
use Rattle.nbbo_runs.specs.VenueLooks.{LooksBy, LooksWith, SeesLooks, look_at, only_at, record_datagram}

-- no record
pub sees_none : (looks : List Payload) → SeesLooks looks [] looks
sees_none looks = record {
  shown = [];
  shows = tt;
  are = record { count = refl; each = λ venue less. sym (look_none (look_at looks venue)) };
}

-- some records, and then others
pub sees_more : (a b c : List Payload) (rs qs : List TimedRecord) → SeesLooks a rs b
    → SeesLooks b qs c → SeesLooks a (rs ++ qs) c
sees_more a b c rs qs x y = record {
  shown = x.shown ++ y.shown;
  shows = brings_more rs qs x.shown y.shown x.shows y.shows;
  are = record {
    count = y.are.count ∙ x.are.count;
    each = λ venue less.
        let first = messages_where (came_at venue) x.shown in
        let next = messages_where (came_at venue) y.shown in
        y.are.each venue (subst (λ (n : ℕ). venue < n) (sym x.are.count) less)
        ∙ ap (λ (p : Payload). look_with p next) (x.are.each venue less)
        ∙ look_more (look_at a venue) first next
        ∙ ap (look_with (look_at a venue)) (sym (messages_more (came_at venue) x.shown y.shown));
  };
}

-- ---- a datagram more

module _ (looks : List Payload) (here : ℕ) (messages : List (List ℕ)) where
  -- they look so
  changed : (look : Payload) (venue : ℕ) (b : Bool) → (here == venue) ≡ b → here < length looks
      → look ≡ look_with (look_at looks here) messages
      → look_at (set looks here look) venue
      ≡ look_with (look_at looks venue) (cond b messages [])
  changed look venue true e less is =
      let same = eqb-true here venue e in
      ap (look_at (set looks here look)) (sym same)
      ∙ get_or-set_same looks here look Neither less
      ∙ is ∙ ap (λ (v : ℕ). look_with (look_at looks v) messages) same
  changed look venue false e less is =
      get_or-set_other looks here venue look Neither
      (λ same. eqb-false here venue e (sym same))
      ∙ sym (look_none (look_at looks venue))

  -- they change nothing
  unchanged : (venue : ℕ) (b : Bool) → (here == venue) ≡ b
      → look_with (look_at looks here) messages ≡ look_at looks here
      → look_at looks venue ≡ look_with (look_at looks venue) (cond b messages [])
  unchanged venue true e stays =
      let same = eqb-true here venue e in
      sym (ap (λ (v : ℕ). look_with (look_at looks v) messages) (sym same)
      ∙ stays ∙ ap (look_at looks) same)
  unchanged venue false e stays = sym (look_none (look_at looks venue))

  -- there is no such venue
  outside : (venue : ℕ) (b : Bool) → (here == venue) ≡ b → venue < length looks
      → length looks ≤ here → look_at looks venue ≡ look_with (look_at looks venue)
      (cond b messages [])
  outside venue true e within out =
      let same = eqb-true here venue e in absurd (omega (arith, same, within, out))
  outside venue false e within out = sym (look_none (look_at looks venue))

-- one of this project's own was among the venue's messages
pub looks_kept : (looks : List Payload) (here : ℕ) (bytes : List ℕ) → AreBytes bytes
    → is_look_own (look_at looks here) ≡ true → LooksWith looks here bytes looks
looks_kept looks here bytes are own =
    let m = messages_are bytes are in (
      m.0,
      m.1,
      record {
        count = refl;
        each = λ venue within. unchanged looks here m.0 venue (here == venue) refl
            (own_stays (look_at looks here) m.0 own);
      },
    )

pub looks_past : (looks : List Payload) (here : ℕ) (bytes : List ℕ) → AreBytes bytes
    → length looks ≤ here → LooksWith looks here bytes looks
looks_past looks here bytes are out =
    let m = messages_are bytes are in (
      m.0,
      m.1,
      record {
        count = refl;
        each = λ venue within. outside looks here m.0 venue (here == venue) refl within out;
      },
    )

pub looks_noted : (looks : List Payload) (here : ℕ) (bytes : List ℕ) (look : Payload)
    → here < length looks
    → ((messages : List (List ℕ)) × HasMessages bytes messages
    × (look ≡ look_with (look_at looks here) messages))
    → LooksWith looks here bytes (set looks here look)
looks_noted looks here bytes look less m = (
  m.0,
  m.1,
  record {
    count = length-set looks here look;
    each = λ venue within. changed looks here m.0 look venue (here == venue) refl less m.2;
  },
)

-- ---- a record more

same_after : (r : TimedRecord) (before after : List Payload)
    → RecordBrings r.what no_messages → after ≡ before → SeesLooks before (r ∷ []) after
same_after r before after brings same =
    subst (λ (l : List Payload). SeesLooks before (r ∷ []) l) (sym same) (record {
      shown = no_messages ∷ [];
      shows = (brings, tt);
      are = record {
        count = refl;
        each = λ venue less.
            sym (look_none (look_at before venue))
            ∙ ap (look_with (look_at before venue)) (sym (none_where (came_at venue) 0 A));
      };
    })

pub sees_record : (what : CaptureRecord) (time : Option ℕ) (before after : List Payload)
    → LooksBy before (record_datagram what) after
    → SeesLooks before (timed_record what time ∷ []) after
sees_record (datagram_record here line bytes) time before after h = record {
  shown = line_messages here line h.0 ∷ [];
  shows = datagram_brings here line bytes time h.0 h.1;
  are = record {
    count = h.2.count;
    each = λ venue less.
        h.2.each venue less
        ∙ ap (look_with (look_at before venue)) (sym (append-nil (only_at here h.0 venue)));
  };
}
sees_record (renewal_record venue session) time before after h =
    same_after (timed_record (renewal_record venue session) time) before after refl h
sees_record (skip_record venue number) time before after h =
    same_after (timed_record (skip_record venue number) time) before after refl h
sees_record (self_help_record venue on) time before after h =
    same_after (timed_record (self_help_record venue on) time) before after refl h

pub sees_no_record : (before after : List Payload) → after ≡ before → SeesLooks before [] after
sees_no_record before after same =
    subst (λ (l : List Payload). SeesLooks before [] l) (sym same) (sees_none before)
