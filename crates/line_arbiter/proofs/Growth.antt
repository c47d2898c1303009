-- An arbiter fits its packets after one more: one that is heard of, refused, or taken in.
use Rattle.std.proofs.Common.{◌≡◌, ℕ, ◌+◌, ◌<◌, ◌≤◌, Bool, true, false, List, [], ◌∷◌, ◌++◌, Option, Some, None, Err, refl, sym, ap, subst, ◌∙◌, arith, inl, inr}
use Rattle.std.specs.Prelude.{nat_le, nat_lt, ◌&&◌, IsSome, if◌then◌else◌}
use Rattle.std.specs.Option.{option_or}
use Rattle.std.proofs.lemmas.Bool.{cases_lt, lt-leb, le-leb, lt-ltb, le-ltb}
use Rattle.feed_types.specs.declared.item.Item.{Item}
use Rattle.feed_types.specs.declared.line.LineId.{LineId}
use Rattle.mold_packet.specs.Content.{Content, last_number}
use Rattle.line_arbiter.specs.declared.outcome.LineFault.{LineFault}
use Rattle.line_arbiter.specs.Packets.{Arrival, Input, Arrived, arrival_of, carried, end_of, has_number, heard, is_ended, is_taken, item_at, known_of}
use Rattle.line_arbiter.specs.Streams.{wins_of}
use Rattle.line_arbiter.specs.Outcomes.{new_count, IsBefore}
use Rattle.line_arbiter.specs.Holding.{held_at}
use Rattle.line_arbiter.specs.Filling.{put_all}
use Rattle.feed_types.specs.declared.per_line.PerLine.{PerLine}
use Rattle.feed_types.specs.PerLines.{on_line}
use Rattle.line_arbiter.specs.Counts.{shown}
use Rattle.line_arbiter.specs.States.{State, held_of}
use Rattle.line_arbiter.specs.Steps.{TakesIn, raised}
use Rattle.line_arbiter.proofs.Standing.{Stands}
use Rattle.line_arbiter.proofs.LineCounts.{wins_of-untaken, wins_counted}
use Rattle.line_arbiter.specs.laws.Options.{IsSome-or, IsSome-unless}
use Rattle.line_arbiter.specs.laws.Bringing.{carried_same, carried_more, end_same, opens_same}
use Rattle.line_arbiter.proofs.Known.{known-push}
use Rattle.line_arbiter.specs.laws.Lengths.{length-stream}
use Rattle.line_arbiter.proofs.Cursors.{cursor, stream_len}
use Rattle.line_arbiter.specs.laws.Fronts.{not_in, opens_most}
use Rattle.line_arbiter.specs.laws.StreamGrowth.{skipped_grows}

-- a packet that is not taken and ends nothing is at most heard of
pub fits_heard : (s : State) (packets : List Input) (a : Arrival) → is_taken a.answer ≡ false
    → is_ended a.answer ≡ false → Stands s packets
    → Stands (record s { known = raised s.known s.end (heard (Arrived a)) })
    (packets ++ Arrived a ∷ [])
fits_heard s packets a untaken unended fits = record {
  front = record {
    all = λ m h k. rw (carried_same packets a m untaken) (fits.front.all m h k);
    next = carried_same packets a (s.front + 1) untaken ∙ fits.front.next;
  };
  known = ap (λ (k : ℕ). raised k s.end (heard (Arrived a))) fits.known
      ∙ ap (λ (o : Option ℕ). raised (known_of packets) o (heard (Arrived a))) fits.end
      ∙ sym (known-push packets a unended);
  end = fits.end ∙ sym (end_same packets a unended);
  opened = rw (opens_same packets a) fits.opened;
  skipped = skipped_grows packets a (s.sent + 1) fits.skipped;
  sent = let o = opens_same packets a in let l = stream_len packets (packets ++ Arrived a ∷ [])
      s.front o (end_same packets a unended) in let k = fits.sent in omega arith;
  held = λ m. fits.held m ∙ ap (λ (o : Option Item). if nat_le m s.sent then None else o)
      (sym (carried_same packets a m untaken));
  wins = λ line. fits.wins line ∙ ap (λ (n : ℕ). shown (on_line line s.earlier + n))
      (sym (wins_of-untaken packets a line untaken));
}

unheard : (k : ℕ) (o : Option ℕ) → raised k o 0 ≡ k
unheard k None = omega arith
unheard k (Some e) = refl

-- a refused packet leaves the state, and is added to the list
pub fits_refused : (s new : State) (packets : List Input) (line : LineId) (p : Content)
    (e : LineFault) → new ≡ s → Stands s packets
    → Stands new (packets ++ arrival_of line p (Err e) ∷ [])
fits_refused s new packets line p e same fits =
    let F : State → Type 0 = λ x. Stands x (packets ++ arrival_of line p (Err e) ∷ []) in
    subst F (sym same) (subst (λ (k : ℕ). Stands (record s { known = k }) (packets
    ++ arrival_of line p (Err e) ∷ [])) (unheard s.known s.end)
    (fits_heard s packets (record { line = line; packet = p; answer = Err e }) refl refl fits))

-- the map after a packet was taken in holds what is carried past `sent`
taken_held : (sent m : ℕ) (p : Content) (o : Option Item)
    → put_all sent p (if nat_le m sent then None else o) m ≡ (if nat_le m sent then None else
    option_or o (if has_number p m then Some (item_at p m) else None))
taken_held sent m p o =
    elim (cases_lt sent m) [
      | inl lt ↦
          let out : nat_le m sent ≡ false = lt-leb m sent lt in
          ap (λ (b : Bool). put_all sent p (if b then None else o) m) out
          ∙ past sent m p o lt
          ∙ ap (λ (b : Bool). if b then None else option_or o (if has_number p m then Some
          (item_at p m) else None)) (sym out)
      | inr le ↦
          let within : nat_le m sent ≡ true = le-leb m sent le in
          ap (λ (b : Bool). put_all sent p (if b then None else o) m) within
          ∙ before sent m p le
          ∙ ap (λ (b : Bool). if b then None else option_or o (if has_number p m then Some
          (item_at p m) else None)) (sym within)
    ]
  where
    past : (sent m : ℕ) (p : Content) (o : Option Item) → sent < m
        → put_all sent p o m ≡ option_or o (if has_number p m then Some (item_at p m) else None)
    past sent m p None lt = let t : nat_lt sent m ≡ true = lt-ltb sent m lt
        in ap (λ (b : Bool). if b && has_number p m then Some (item_at p m) else None) t
    past sent m p (Some x) lt = refl

    before : (sent m : ℕ) (p : Content) → m ≤ sent → put_all sent p None m ≡ None
    before sent m p le = let t : nat_lt sent m ≡ false = le-ltb sent m le
        in ap (λ (b : Bool). if b && has_number p m then Some (item_at p m) else None) t

pub fits_taken : (fresh : ℕ) (old new : State) (packets : List Input) (a : Arrival)
    → 1 ≤ a.packet.number → fresh ≡ new_count packets a.packet → is_taken a.answer ≡ true
    → is_ended a.answer ≡ false → heard (Arrived a) ≡ last_number a.packet
    → IsBefore old.end (last_number a.packet) → TakesIn a.line fresh old new a.packet
    → Stands old packets → Stands new (packets ++ Arrived a ∷ [])
fits_taken fresh old new packets a first is_fresh was_taken unended last before by fits =
    let sent : new.sent ≡ old.sent = ap (λ (s : State). s.sent) by.others in
    let end : new.end ≡ old.end = ap (λ (s : State). s.end) by.others in
    let held : (m : ℕ) → held_at (held_of new) m ≡ (if nat_le m old.sent then None else carried
    (packets ++ Arrived a ∷ []) m) = λ m.
    by.held m ∙ ap (λ (o : Option Item). put_all old.sent a.packet o m) (fits.held m)
    ∙ taken_held old.sent m a.packet (carried packets m)
    ∙ ap (λ (o : Option Item). if nat_le m old.sent then None else o)
    (sym (carried_more packets a m was_taken)) in
    record {
      front = record {
        all = λ m one most. elim (cases_lt old.front m) [
          | inl new_one ↦ IsSome-unless (nat_le m old.sent) (carried (packets ++ Arrived a ∷ []) m)
              (subst (λ o. IsSome o) (held m) (by.run m new_one most))
          | inr old_one ↦ rw (carried_more packets a m was_taken) (IsSome-or (carried packets m) _
              (fits.front.all m one old_one))
        ];
        next = elim (cases_lt old.sent (new.front + 1)) [
          | inl lt ↦
              let out : nat_le (new.front + 1) old.sent ≡ false = lt-leb (new.front + 1) old.sent lt
              in
              sym (ap (λ (b : Bool). if b then None else carried (packets ++ Arrived a ∷ [])
              (new.front + 1)) out) ∙ sym (held (new.front + 1)) ∙ by.stop
          | inr le ↦ elim (cursor old packets fits) [
            | inl within ↦ let k = by.from in absurd (omega arith)
            | inr ended ↦
                let k = by.from in
                let same : new.front + 1 ≡ old.front + 1 = let e = ended.0 in omega arith in
                let above : last_number a.packet < new.front + 1 = let e = before (old.front + 1)
                (fits.end ∙ ended.1) in omega arith in
                carried_more packets a (new.front + 1) was_taken
                ∙ ap (λ (o : Option Item). option_or o (if has_number a.packet (new.front + 1) then
                Some (item_at a.packet (new.front + 1)) else None))
                (ap (carried packets) same ∙ fits.front.next)
                ∙ ap (λ (b : Bool). if b then Some (item_at a.packet (new.front + 1)) else None)
                (not_in a.packet (new.front + 1) above)
          ]
        ];
      };
      known = by.known ∙ ap (λ (k : ℕ). raised k old.end (last_number a.packet)) fits.known
          ∙ ap (λ (o : Option ℕ). raised (known_of packets) o (last_number a.packet)) fits.end
          ∙ ap (λ (n : ℕ). raised (known_of packets) (end_of packets) n) (sym last)
          ∙ sym (known-push packets a unended);
      end = end ∙ fits.end ∙ sym (end_same packets a unended);
      opened = rw (opens_same packets a, sent) fits.opened;
      skipped = rw sent (skipped_grows packets a (old.sent + 1) fits.skipped);
      sent = rw sent (elim (cases_lt old.front new.front) [
        | inl moved ↦
            let l = length-stream (packets ++ Arrived a ∷ []) new.front in
            let o = opens_most packets old.front fits.front in
            let same = opens_same packets a in
            elim (cursor old packets fits) [
              | inl within ↦ omega arith
              | inr ended ↦ let e =
                  ended.0 in omega arith
            ]
        | inr stayed ↦
            let same : new.front ≡ old.front = let k = by.from in omega arith in
            rw same (let o = opens_same packets a in let l = stream_len packets (packets
            ++ Arrived a ∷ []) old.front o (end_same packets a unended) in let k =
            fits.sent in omega arith)
      ]);
      held = λ m. held m
          ∙ ap (λ (k : ℕ). if nat_le m k then None else carried (packets ++ Arrived a ∷ []) m)
          (sym sent);
      wins = λ line.
          ap (λ (counts : PerLine ℕ). on_line line counts) by.wins
          ∙ wins_counted packets a fresh old.wins old.earlier was_taken first
          is_fresh fits.wins line
          ∙ ap (λ (s : State). shown (on_line line s.earlier + wins_of (packets ++ Arrived a ∷ [])
          line)) (sym by.others);
    }
