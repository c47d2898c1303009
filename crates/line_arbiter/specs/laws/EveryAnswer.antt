-- Each packet has an answer, and each renewal.
use Rattle.std.proofs.Common.{◌≡◌, ℕ, ◌+◌, ◌-◌, ◌<◌, ◌≤◌, List, length, Option, Some, None, Result, Ok, Err, refl, sym, ap, ◌∙◌, arith, inl, inr}
use Rattle.std.specs.Prelude.{◌≢◌, ◌⊎◌, IsSome, is_some, is_none, Contains, slice_index_or}
use Rattle.std.specs.List.{range_with_len}
use Rattle.std.proofs.lemmas.Bool.{cases_Bool, cases_lt, cases_eq, false≢true}
use Rattle.std.proofs.lemmas.List.FromFn.{length-range_with_len}
use Rattle.std.proofs.lemmas.List.Sums.{count_by-le-length}
use Rattle.feed_types.specs.declared.item.Item.{Item}
use Rattle.feed_types.specs.declared.item.Item.TheVariants as items
use Rattle.mold_packet.specs.declared.packet.Kind.{Kind}
use Rattle.mold_packet.specs.declared.packet.Kind.TheVariants as kinds
use Rattle.mold_packet.specs.Content.{Content, last_number}
use Rattle.line_arbiter.specs.declared.outcome.Outcome.{Outcome}
use Rattle.line_arbiter.specs.declared.outcome.Outcome.TheVariants.{Taken, Heartbeat, Ended, Ahead}
use Rattle.line_arbiter.specs.declared.outcome.LineFault.{LineFault}
use Rattle.line_arbiter.specs.declared.outcome.LineFault.TheVariants.{OtherSession, PastEnd, EndMoved, EndTooEarly, Conflict}
use Rattle.line_arbiter.specs.declared.faults.RenewFault.{RenewFault}
use Rattle.line_arbiter.specs.declared.faults.RenewFault.TheVariants.{NotEnded, SessionUsed, TooManySessions}
use Rattle.line_arbiter.specs.Renewals.{HasEnded, IsRenewal}
use Rattle.line_arbiter.specs.Packets.{Input, carried, end_of, message_item, top_of}
use Rattle.line_arbiter.specs.Outcomes.{IsPast, IsBefore, Disagrees, Agrees, new_count, ToMessages, ToHeartbeat, ToEnd, ToKind, IsOutcome}
use Rattle.line_arbiter.specs.laws.Deciding.{cases_bytes, cases_item, none_or_one, one_below}
use Rattle.line_arbiter.specs.laws.Fronts.{carried_above, not_none}
use Rattle.line_arbiter.specs.laws.OneOutcome.{same_some, none_or_some}

-- ---- messages

past_or_before : (end : Option ℕ) (n : ℕ) → IsPast end n ⊎ IsBefore end n
past_or_before end n = elim (none_or_one end) [
  | inl none ↦ inr (λ at is. absurd (none_or_some end at none is))
  | inr one ↦ elim (cases_lt n one.0) [
    | inl before ↦ inr (λ at is. let same = same_some one.0 at end one.1 is in omega arith)
    | inr past ↦ inl (record { at = one.0; announced = one.1; past = past })
  ]
]

module _ (packets : List Input) (sent : ℕ) (p : Content) where
  -- what was taken at the number of a message reads as another item
  abbrev Other : ℕ → Type 0
  Other k =
      (sent < p.number + k) × (item : Item) × (carried packets (p.number + k) ≡ Some item)
      × (item ≢ message_item p k) × (item ≢ items.Skipped)

  other_or_not : (k : ℕ) → Other k ⊎ (Other k → ⊥)
  other_or_not k = elim (cases_lt sent (p.number + k)) [
    | inr gone ↦ inr (λ h. let past = h.0 in omega arith)
    | inl past ↦ elim (none_or_one (carried packets (p.number + k))) [
      | inl none ↦ inr (λ h. let e : None ≡ Some h.1 = sym none ∙ h.2 in absurd cc)
      | inr one ↦ elim (cases_item one.0 (message_item p k)) [
        | inl same ↦ inr (λ h.
            let e : Some one.0 ≡ Some h.1 = sym one.1 ∙ h.2 in
            let is : one.0 ≡ h.1 = cc in
            h.3 (sym is ∙ same))
        | inr other ↦ elim (cases_item one.0 items.Skipped) [
          | inl skipped ↦ inr (λ h.
              let e : Some one.0 ≡ Some h.1 = sym one.1 ∙ h.2 in
              let is : one.0 ≡ h.1 = cc in
              h.4 (sym is ∙ skipped))
          | inr message ↦ inl (past, one.0, one.1, other, message)
        ]
      ]
    ]
  ]

  disagrees_or_agrees : Disagrees packets sent p ⊎ Agrees packets sent p
  disagrees_or_agrees = elim (one_below Other other_or_not (length p.messages)) [
    | inl found ↦ inl (record {
      place =
          found.0;
      in_packet = found.1;
      unsent = found.2.0;
      item = found.2.1;
      taken = found.2.2;
      differs = found.2.3;
      message = found.2.4;
    })
    | inr none ↦ inr
        (λ k item within past taken message. elim (cases_item item (message_item p k)) [
          | inl same ↦ same
          | inr other ↦ absurd (none k within (past, item, taken, other, message))
        ])
  ]

  messages_have : (window : ℕ)
      → (answer : Result Outcome LineFault) × ToMessages window sent packets p answer
  messages_have window = elim (past_or_before (end_of packets) (last_number p)) [
    | inl past ↦ (Err PastEnd, past)
    | inr before ↦ elim (cases_lt (sent + window) (last_number p)) [
      | inl ahead ↦ (Ok Ahead, (before, ahead))
      | inr within ↦ elim disagrees_or_agrees [
        | inl other ↦ (Err Conflict, (before, within, other))
        | inr same ↦
            let most =
            count_by-le-length (λ m. is_none (carried packets m))
            (range_with_len p.number (length p.messages)) in
            let len = length-range_with_len p.number (length p.messages) in (
              Ok (Taken (new_count packets p) (length p.messages - new_count packets p)),
              (before, within, same, refl, omega arith),
            )
      ]
    ]
  ]

-- ---- a heartbeat, and an end of session

heartbeat_has : (packets : List Input) (n : ℕ)
    → (answer : Result Outcome LineFault) × ToHeartbeat packets n answer
heartbeat_has packets n = elim (none_or_one (end_of packets)) [
  | inl none ↦ (Ok Heartbeat, λ e is. absurd (none_or_some (end_of packets) e none is))
  | inr one ↦ elim (cases_lt one.0 n) [
    | inl past ↦ (Err PastEnd, (one.0, one.1, past))
    | inr within ↦ (
      Ok Heartbeat,
      λ e is. let same = same_some one.0 e (end_of packets) one.1 is in
          omega arith,
    )
  ]
]

-- a message of this number or a greater one was taken
abbrev TakenFrom : List Input → ℕ → ℕ → Type 0
TakenFrom packets n m = (n ≤ m) × IsSome (carried packets m)

taken_or_not : (packets : List Input) (n m : ℕ)
    → TakenFrom packets n m ⊎ (TakenFrom packets n m → ⊥)
taken_or_not packets n m = elim (cases_lt m n) [
  | inl below ↦ inr (λ h. let above = h.0 in omega arith)
  | inr above ↦ elim (cases_Bool (is_some (carried packets m))) [
    | inl some ↦ inl (above, some)
    | inr none ↦ inr (λ h. false≢true (sym none ∙ h.1))
  ]
]

-- nothing is taken above the greatest number that was taken
all_below : (packets : List Input) (n : ℕ)
    → ((m : ℕ) → m < top_of packets + 1 → TakenFrom packets n m → ⊥) → (m : ℕ)
    → IsSome (carried packets m) → m < n
all_below packets n none m some = elim (cases_lt m n) [
  | inl below ↦ below
  | inr above ↦ elim (cases_lt (top_of packets) m) [
    | inl past ↦ absurd (not_none (carried packets m) some (carried_above packets m past))
    | inr within ↦ absurd (none m (omega arith) (above, some))
  ]
]

end_has : (packets : List Input) (n : ℕ)
    → (answer : Result Outcome LineFault) × ToEnd packets n answer
end_has packets n = elim (none_or_one (end_of packets)) [
  | inl none ↦ elim
      (one_below (TakenFrom packets n) (taken_or_not packets n) (top_of packets + 1)) [
        | inl found ↦ (Err EndTooEarly, (none, found.0, found.2.0, found.2.1))
        | inr nothing ↦ (Ok Ended, inr (none, all_below packets n nothing))
      ]
  | inr one ↦ elim (cases_eq one.0 n) [
    | inl same ↦ (Ok Ended, inl (one.1 ∙ ap Some same))
    | inr moved ↦ (Err EndMoved, (one.0, one.1, moved))
  ]
]

-- ---- any packet, and a renewal

kind_has : (kind : Kind) (window sent : ℕ) (packets : List Input) (p : Content)
    → (answer : Result Outcome LineFault) × ToKind kind window sent packets p answer
kind_has kinds.Messages window sent packets p = messages_have packets sent p window
kind_has kinds.Heartbeat window sent packets p = heartbeat_has packets p.number
kind_has kinds.End window sent packets p = end_has packets p.number

pub every_answer : (session : List ℕ) (window sent : ℕ) (packets : List Input) (p : Content)
    → (answer : Result Outcome LineFault) × IsOutcome session window sent packets p answer
every_answer session window sent packets p = elim (cases_bytes p.session session) [
  | inl same ↦ let given = kind_has p.kind window sent packets p in (given.0, inr (same, given.1))
  | inr other ↦ (Err OtherSession, inl (other, refl))
]

ended_or_not : (end : Option ℕ) (sent : ℕ) → HasEnded end sent ⊎ (HasEnded end sent → ⊥)
ended_or_not end sent = elim (none_or_one end) [
  | inl none ↦ inr (λ is. none_or_some end sent none is)
  | inr one ↦ elim (cases_eq one.0 sent) [
    | inl same ↦ inl (one.1 ∙ ap Some same)
    | inr other ↦ inr (λ is. other (same_some one.0 sent end one.1 is))
  ]
]

used_or_not : (names : List (List ℕ)) (name : List ℕ) → Contains names name
    ⊎ (Contains names name → ⊥)
used_or_not names name =
    elim (one_below (λ k. slice_index_or names k name ≡ name)
    (λ k. cases_bytes (slice_index_or names k name) name) (length names)) [
      | inl used ↦ inl used
      | inr free ↦ inr (λ used. free used.0 used.1 used.2)
    ]

pub every_renewal : (names : List (List ℕ)) (end : Option ℕ) (sent : ℕ) (name : List ℕ)
    → (answer : Result ℕ RenewFault) × IsRenewal names end sent name answer
every_renewal names end sent name = elim (ended_or_not end sent) [
  | inr open_ ↦ (Err NotEnded, open_)
  | inl ended ↦ elim (used_or_not names name) [
    | inl used ↦ (Err SessionUsed, (ended, used))
    | inr free ↦ elim (cases_lt (length names) 64) [
      | inl few ↦ (Ok (length names + 1), (ended, free, few, refl))
      | inr many ↦ (Err TooManySessions, (ended, free, many))
    ]
  ]
]
