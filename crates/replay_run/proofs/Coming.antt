-- A session whose packets come, a message in each, is consumed to its end.
use Rattle.std.proofs.Common.{◌≡◌, ℕ, zero, suc, ◌+◌, ◌-◌, ◌<◌, ◌≤◌, Bool, true, false, List, [], ◌∷◌, ◌++◌, length, map, drop, Some, None, Option, Ok, refl, sym, ap, subst, ◌∙◌, arith, append-nil, length-append, inl, inr}
use Rattle.std.specs.Prelude.{slice_get, slice_set, IsSome, ◌^◌, if◌then◌else◌}
use Rattle.std.specs.List.{AllByRecursion}
use Rattle.std.specs.Option.{option_or}
use Rattle.std.proofs.lemmas.Bool.{cases_lt}
use Rattle.std.proofs.lemmas.Bool.Decides.{nat_tests}
use Rattle.std.proofs.lemmas.List.{length-map, length-drop}
use Rattle.feed_types.specs.declared.item.Item.{Item}
use Rattle.feed_types.specs.declared.item.Numbered.{Numbered}
use Rattle.feed_types.specs.declared.journal.Entry.{Entry}
use Rattle.feed_types.specs.declared.line.LineId.TheVariants.{A}
use Rattle.feed_types.specs.Sessions.{Session, numbered_from, end_item, whole_session}
use Rattle.mold_packet.specs.declared.packet.Kind.TheVariants as kinds
use Rattle.mold_packet.specs.Block.{IsMessage}
use Rattle.mold_packet.specs.Content.{Content, IsContent, Spells, spelling}
use Rattle.mold_packet.specs.laws.OneReading.{same_packet}
use Rattle.quote_payload.specs.Payload.{item_of}
use Rattle.line_arbiter.specs.declared.outcome.Outcome.TheVariants.{Taken, Ended}
use Rattle.line_arbiter.specs.Packets.{Arrival, Arrived, Input, arrival_of, carried, end_of, has_number, item_at, message_item}
use Rattle.line_arbiter.specs.Streams.{front_of, stream_of, end_at}
use Rattle.line_arbiter.specs.Outcomes.{new_count, IsOutcome}
use Rattle.line_arbiter.specs.Answered.{AreAnswered}
use Rattle.line_arbiter.specs.Histories.{History, new_history}
use Rattle.line_arbiter.specs.OfSession.{IsOfSession, IsInputOf, AreOfSession, GivesSession, session_of_messages}
use Rattle.line_arbiter.specs.Skips.{IsArrival}
use Rattle.line_arbiter.specs.laws.Bringing.{carried_same, carried_more, end_of-push, end_same}
use Rattle.line_arbiter.specs.laws.Below.{answered_more}
use Rattle.line_arbiter.specs.laws.Fronts.{not_in, front_is, not_none, front_unique}
use Rattle.line_arbiter.specs.laws.Giving.{gives_session}
use Rattle.line_arbiter.specs.laws.Lengths.{length-stream}
use Rattle.line_arbiter.specs.laws.Options.{IsSome-or}
use Rattle.line_arbiter.specs.laws.Parts.{first_one, one_part}
use Rattle.feed_core.specs.Worlds.{Setting}
use Rattle.feed_core.specs.laws.WholeSessionsLaw.{whole}
use Rattle.feed_text.specs.declared.replay.ReplayConfig.{ReplayConfig}
use Rattle.run_settings.specs.declared.skip_rule.SkipRule.TheVariants.{Never}
use Rattle.capture_records.specs.Capture.{CaptureRecord, datagram_record}
use Rattle.feed_text.specs.ReplayEvents.{ReplayEvent, packet_answered, item_taken, entries_of}
use Rattle.line_arbiter.specs.LastSent.{last_sent}
use Rattle.feed_text.specs.Emitted.{items_emitted, EmitsRecord, Emits}
use Rattle.feed_text.specs.laws.Entries.{entries_more}
use Rattle.replay_run.specs.Events.{consumed_all, world_of, outcomes_of, IsReplayRun}
use Rattle.replay_run.specs.ToldHeadline.{HoldsOnly, HoldOnly}
use Rattle.replay_run.specs.Moving.{ComesThrough}
use Rattle.replay_run.proofs.ListPlaces.{get_map, get_set_here}
use Rattle.replay_run.proofs.RecordRuns.{items_len}
use Rattle.replay_run.proofs.RunSessions.{events_only}
use Rattle.replay_run.proofs.Runs.{replay_run}

-- ---- the packets

abbrev one_message : List ℕ → ℕ → List ℕ → Content
one_message name number m =
    record {
      session = name;
      number = number;
      kind = kinds.Messages;
      messages = m ∷ [];
      ignored = 0;
    }

abbrev end_packet : List ℕ → ℕ → Content
end_packet name number = record {
  session = name;
  number = number;
  kind = kinds.End;
  messages = [];
  ignored = 0;
}

spells : (p : Content) → IsContent p → p.ignored ≡ 0 → Spells (spelling p) p []
spells p content none = record {
  content = content;
  ignored = none;
  spelled =
      sym (append-nil (spelling p));
}

message_content : (name : List ℕ) (k : ℕ) (m : List ℕ) → length name ≡ 10
    → IsMessage m → k + 2 < 2 ^ 64
    → IsContent (one_message name (k + 1) m)
message_content name k m ten fits small = record {
  session = ten;
  from_one = omega arith;
  small = omega arith;
  in_range = omega arith;
  fits = (omega arith, omega arith);
  each = (fits, tt);
}

end_content : (name : List ℕ) (k : ℕ) → length name ≡ 10 → k + 1 < 2 ^ 64
    → IsContent (end_packet name (k + 1))
end_content name k ten small = record {
  session = ten;
  from_one = omega arith;
  small = omega arith;
  in_range = omega arith;
  fits = refl;
  each = tt;
}

abbrev message_arrival : List ℕ → ℕ → List ℕ → Arrival
message_arrival name k m = record {
  line = A;
  packet = one_message name (k + 1) m;
  answer = Ok (Taken 1 0);
}

abbrev end_arrival : List ℕ → ℕ → Arrival
end_arrival name k = record { line = A; packet = end_packet name (k + 1); answer = Ok Ended }

-- ---- the first k messages came

record IsUpTo (s : Session) (window k : ℕ) (P : List Input) : Type 0 where
  answered : AreAnswered s.name window P
  only : AreOfSession s P
  all : (m : ℕ) → 1 ≤ m → m ≤ k → IsSome (carried P m)
  above : (m : ℕ) → k < m → carried P m ≡ None
  no_end : end_of P ≡ None
  no_skip : AllByRecursion IsArrival P

none_came : (s : Session) (window : ℕ) → IsUpTo s window 0 []
none_came s window = record {
  answered = tt;
  only = tt;
  all = λ m one most. absurd (omega arith);
  above = λ m h. refl;
  no_end = refl;
  no_skip = tt;
}

all_push : {X : Type 0} (Q : X → Type 0) (xs : List X) (x : X) → AllByRecursion Q xs → Q x
    → AllByRecursion Q (xs ++ x ∷ [])
all_push Q [] x all one = (one, tt)
all_push Q (y ∷ xs) x all one = (all.0, all_push Q xs x all.1 one)

front_at : (s : Session) (window k : ℕ) (P : List Input) → IsUpTo s window k P → front_of P ≡ k
front_at s window k P u =
    front_unique P (front_of P) k (front_is P)
    (record { all = u.all; next = u.above (k + 1) (omega arith) })

-- nothing comes after the last message
no_end_at : (s : Session) (window k : ℕ) (P : List Input) → IsUpTo s window k P
    → length (end_at (end_of P) (front_of P + 1)) ≡ 0
no_end_at s window k P u = ap (λ (o : Option ℕ). length (end_at o (front_of P + 1))) u.no_end

-- the stream has `k` items
stream_len : (s : Session) (window k : ℕ) (P : List Input) → IsUpTo s window k P
    → length (stream_of P) ≡ k
stream_len s window k P u =
    let front = front_at s window k P u in
    let none = no_end_at s window k P u in
    let first = first_one P u.no_skip in
    let part = length-stream P (front_of P) in
    ap (λ (xs : List Numbered). length xs) (one_part P u.no_skip) ∙ omega arith

-- a message more
module _ (s : Session) (window k : ℕ) (P : List Input) (u : IsUpTo s window k P)
    (wide : 1 ≤ window) (m : List ℕ)
    (content : IsContent (one_message s.name (k + 1) m))
    (at : slice_get s.items k ≡ Some (item_of m)) where
  message_of : IsOfSession s (one_message s.name (k + 1) m)
  message_of = record {
    name = refl;
    messages = messages;
    heartbeat =
        λ e. absurd cc;
    end = λ e. absurd cc;
  }
    where
      messages : (j : ℕ) → j < 1
          → slice_get s.items (k + 1 + j - 1) ≡ Some (message_item (one_message s.name (k + 1) m) j)
      messages zero h =
          subst (λ (n : ℕ). slice_get s.items n ≡ Some (item_of m))
          (let e : k ≡ k + 1 + 0 - 1 = omega arith in e) at
      messages (suc j) h = absurd (omega arith)

  is_new : 1 ≡ new_count P (one_message s.name (k + 1) m)
  is_new = rw (u.above (k + 1) (omega arith)) refl

  answer : (sent : ℕ) → sent ≡ k
      → IsOutcome s.name window sent P (one_message s.name (k + 1) m) (Ok (Taken 1 0))
  answer sent e = inr (
    refl,
    (
      λ end is. absurd (let n : None ≡ Some end = sym u.no_end ∙ is in cc),
      omega arith,
      λ j item h past is message. absurd (let n : None ≡ Some item =
          sym (u.above (k + 1 + j) (omega arith)) ∙ is in cc),
      is_new,
      refl,
    ),
  )

  came_more : IsUpTo s window (k + 1) (P
      ++ arrival_of A (one_message s.name (k + 1) m) (Ok (Taken 1 0)) ∷ [])
  came_more = record {
    answered =
        answered_more s.name window P (Arrived (message_arrival s.name k m)) u.answered
        (record { content = content; sent = k; outcome = answer k refl });
    only = all_push (IsInputOf s) P (Arrived (message_arrival s.name k m)) u.only (λ e. message_of);
    all = λ n one most. elim (cases_lt k n) [
      | inl lt ↦
          (let is : k + 1 ≡ n = omega arith in
          let has : has_number (one_message s.name (k + 1) m) n ≡ true =
          subst (λ (x : ℕ). has_number (one_message s.name (k + 1) m) x ≡ true) is
          (grind (arith, nat_tests)) in
          let before : carried P n ≡ None = u.above n lt in
          subst (λ (o : Option Item). IsSome o)
          (sym (carried_more P (message_arrival s.name k m) n refl
          ∙ ap (λ (o : Option Item). option_or o
          (if has_number (one_message s.name (k + 1) m) n then Some
          (item_at (one_message s.name (k + 1) m) n) else None)) before
          ∙ ap (λ (b : Bool). option_or None
          (if b then Some (item_at (one_message s.name (k + 1) m) n) else None))
          has)) refl)
      | inr le ↦ subst (λ (o : Option Item). IsSome o)
          (sym (carried_more P (message_arrival s.name k m) n refl))
          (IsSome-or (carried P n)
          (if has_number (one_message s.name (k + 1) m) n then Some
          (item_at (one_message s.name (k + 1) m) n) else None) (u.all n one le))
    ];
    above = λ n h. carried_more P (message_arrival s.name k m) n refl
        ∙ ap (λ (o : Option Item). option_or o
        (if has_number (one_message s.name (k + 1) m) n then Some
        (item_at (one_message s.name (k + 1) m) n) else None)) (u.above n (omega arith))
        ∙ ap (λ (b : Bool). option_or None
        (if b then Some (item_at (one_message s.name (k + 1) m) n) else None))
        (not_in (one_message s.name (k + 1) m) n (omega arith));
    no_end = end_same P (message_arrival s.name k m) refl ∙ u.no_end;
    no_skip = all_push IsArrival P (Arrived (message_arrival s.name k m)) u.no_skip tt;
  }

-- and the end
module _ (s : Session) (window k : ℕ) (P : List Input) (u : IsUpTo s window k P)
    (all : k ≡ length s.items)
    (content : IsContent (end_packet s.name (k + 1))) where
  end_of_session : IsOfSession s (end_packet s.name (k + 1))
  end_of_session = record {
    name = refl;
    messages = λ j h. absurd (omega arith);
    heartbeat = λ is. absurd cc;
    end = λ is. ap (λ (n : ℕ). n + 1) all;
  }

  end_answer : (sent : ℕ) → IsOutcome s.name window sent P (end_packet s.name (k + 1)) (Ok Ended)
  end_answer sent = inr (
    refl,
    inr (
      u.no_end,
      λ m some. elim (cases_lt m (k + 1)) [
        | inl lt ↦ lt
        | inr le ↦ absurd (not_none (carried P m) some (u.above m (omega arith)))
      ],
    ),
  )

  to_end : stream_of (P ++ arrival_of A (end_packet s.name (k + 1)) (Ok Ended)
      ∷ []) ≡ whole_session s
  to_end =
      let Q : List Input = P ++ Arrived (end_arrival s.name k) ∷ [] in
      let answered : AreAnswered s.name window Q =
      answered_more s.name window P (Arrived (end_arrival s.name k)) u.answered
      (record { content = content; sent = 0; outcome = end_answer 0 }) in
      let only : AreOfSession s Q =
      all_push (IsInputOf s) P (Arrived (end_arrival s.name k)) u.only (λ is. end_of_session) in
      let g : GivesSession s Q = gives_session s window Q answered only in
      let front : front_of Q ≡ k = front_unique Q (front_of Q) k (front_is Q) (record {
        all = λ m one most. subst (λ (o : Option Item). IsSome o)
            (sym (carried_same P (end_arrival s.name k) m refl))
            (u.all m one most);
        next = carried_same P (end_arrival s.name k) (k + 1) refl ∙ u.above (k + 1) (omega arith);
      }) in
      let ends : end_of Q ≡ Some (k + 1) = end_of-push P (end_arrival s.name k)
      ∙ ap (λ (o : Option ℕ). option_or o (Some (k + 1))) u.no_end in
      whole s Q (all_push IsArrival P (Arrived (end_arrival s.name k)) u.no_skip tt) g
      (ends ∙ ap (λ (n : ℕ). Some (n + 1)) (sym front))

-- ---- the records

abbrev end_record : ℕ → List ℕ → ℕ → CaptureRecord
end_record place name k = datagram_record place A (spelling (end_packet name (k + 1)))

abbrev message_record : ℕ → List ℕ → ℕ → List ℕ → CaptureRecord
message_record place name k m = datagram_record place A (spelling (one_message name (k + 1) m))

abbrev records_from : ℕ → List ℕ → ℕ → List (List ℕ) → List CaptureRecord
records_from place name k [] = end_record place name k ∷ []
records_from place name k (m ∷ ms) = message_record place name k m
    ∷ records_from place name (k + 1) ms

-- the session's items from this place on
record AreFrom (s : Session) (k : ℕ) (ms : List (List ℕ)) : Type 0 where
  at : (j : ℕ) (m : List ℕ) → slice_get ms j ≡ Some m → slice_get s.items (k + j) ≡ Some (item_of m)
  all : k + length ms ≡ length s.items
  each : AllByRecursion IsMessage ms
  small : k + length ms + 1 < 2 ^ 64

from_next : (s : Session) (k : ℕ) (m : List ℕ) (ms : List (List ℕ))
    → AreFrom s k (m ∷ ms) → AreFrom s (k + 1) ms
from_next s k m ms f = record {
  at = λ j x is. subst (λ (n : ℕ). slice_get s.items n ≡ Some (item_of x))
      (let e : k + suc j ≡ k + 1 + j = omega arith in e) (f.at (suc j) x is);
  all = let a = f.all in omega arith;
  each = f.each.1;
  small = let a = f.small in omega arith;
}

first_at : (s : Session) (k : ℕ) (m : List ℕ) (ms : List (List ℕ)) → AreFrom s k (m ∷ ms)
    → slice_get s.items k ≡ Some (item_of m)
first_at s k m ms f =
    subst (λ (n : ℕ). slice_get s.items n ≡ Some (item_of m)) (let e : k + 0 ≡ k = omega arith in e)
    (f.at 0 m refl)

-- the history of a venue to which these packets came, all of its first session
abbrev came : Session → List Input → History
came s P = record { earlier = []; present = record { name = s.name; packets = P } }

-- the last item has the number of the last message
last_at : (s : Session) (window k : ℕ) (P : List Input) → IsUpTo s window k P
    → last_sent (came s P) ≡ k
last_at s window k P u =
    let front = front_at s window k P u in let none = no_end_at s window k P u in omega arith

-- what these records lead to
record Reaches (s : Session) (window place k : ℕ) (ms : List (List ℕ))
    (hs : List History) : Type 0 where
  emitted : List ReplayEvent
  new : List History
  emits : Emits window false (records_from place s.name k ms) hs emitted new
  count : (E : List Entry) → length (entries_of E emitted) ≡ length E + length ms + 1
  packets : List Input
  there : slice_get new place ≡ Some (came s packets)
  whole : stream_of packets ≡ whole_session s

-- a packet that is answered, and makes items ready
abbrev told_of : ℕ → Session → List Input → Arrival → List ReplayEvent
told_of place s P a =
    packet_answered place A a.packet.number (length a.packet.messages)
    (length (spelling a.packet)) a.answer
    ∷ items_emitted place (came s P) (P ++ Arrived a ∷ []) ++ []

tells_one : (s : Session) (window place : ℕ) (P : List Input) (p : Content)
    (hs : List History) (a : Arrival)
    → Arrived a ≡ arrival_of A p a.answer → slice_get hs place ≡ Some (came s P)
    → IsContent p → p.ignored ≡ 0
    → IsOutcome s.name window (last_sent (came s P)) P p a.answer
    → EmitsRecord window false (datagram_record place A (spelling p)) hs (told_of place s P a)
    (slice_set hs place (came s (P ++ Arrived a ∷ [])))
tells_one s window place P p hs a is there content none answer =
    let arrived : a ≡ record { line = A; packet = p; answer = a.answer } = cc in
    let same : a.packet ≡ p = ap (λ (x : Arrival). x.packet) arrived in
    record {
      before = came s P;
      after = came s (P ++ Arrived a ∷ []);
      at = there;
      emits = inr (record {
        packet = p;
        rest = [];
        answer = a.answer;
        spells = spells p content none;
        taken = record { right = answer; is = ap (λ (x : Input). came s (P ++ x ∷ [])) is };
        emitted_is = ap (λ (q : Content). packet_answered place A q.number
            (length q.messages) (length (spelling q)) a.answer
            ∷ items_emitted place (came s P) (P ++ Arrived a ∷ []) ++ []) same;
      });
      others = refl;
    }

one_entry : (place : ℕ) (s : Session) (P : List Input) (a : Arrival)
    → length (stream_of (P ++ Arrived a ∷ [])) ≡ length (stream_of P) + 1
    → (E : List Entry) → length (entries_of E (told_of place s P a)) ≡ length E + 1
one_entry place s P a grows E =
    let items : List Numbered = drop (length (stream_of P)) (stream_of (P ++ Arrived a ∷ [])) in
    let n : length items ≡ length (stream_of (P ++ Arrived a ∷ [])) - length (stream_of P) =
    length-drop (length (stream_of P)) (stream_of (P ++ Arrived a ∷ [])) in
    let one : length items ≡ 1 = omega arith in
    ap (λ (hs : List ReplayEvent). length (entries_of E hs))
    (append-nil (map (item_taken place) items))
    ∙ items_len place items E ∙ ap (λ (x : ℕ). length E + x) one

numbered_len : (n : ℕ) (xs : List Item) → length (numbered_from n xs) ≡ length xs
numbered_len n [] = refl
numbered_len n (x ∷ xs) = ap suc (numbered_len (n + 1) xs)

whole_len : (s : Session) → length (whole_session s) ≡ length s.items + 1
whole_len s = length-append (numbered_from 1 s.items) (end_item (length s.items + 1) ∷ [])
    ∙ ap (λ (n : ℕ). n + 1) (numbered_len 1 s.items)

reaches : (s : Session) (window place k : ℕ) (ms : List (List ℕ))
    (P : List Input) (hs : List History)
    → length s.name ≡ 10 → 1 ≤ window
    → AreFrom s k ms → IsUpTo s window k P → slice_get hs place ≡ Some (came s P)
    → Reaches s window place k ms hs
reaches s window place k [] P hs ten wide f u there =
    let all : k ≡ length s.items = (let a = f.all in omega arith) in
    let small : k + 1 < 2 ^ 64 = (let a = f.small in omega arith) in
    let p : Content = end_packet s.name (k + 1) in
    let content : IsContent p = end_content s.name k ten small in
    let a : Arrival = end_arrival s.name k in
    let ends : stream_of (P ++ Arrived a ∷ []) ≡ whole_session s = to_end s window k P u all content
    in
    let len : length (stream_of P) ≡ k = stream_len s window k P u in
    let more : length (stream_of (P ++ Arrived a ∷ [])) ≡ length (stream_of P) + 1 = ap length ends
    ∙ whole_len s
    ∙ (let b = len in omega arith) in
    record {
      emitted = told_of place s P a ++ [];
      new = slice_set hs place (came s (P ++ Arrived a ∷ []));
      emits = (
        slice_set hs place (came s (P ++ Arrived a ∷ [])),
        told_of place s P a,
        [],
        tells_one s window place P p hs a
            refl there content refl (end_answer s window k P u all content (last_sent (came s P))),
        (refl, refl),
        refl,
      );
      count = λ E. ap (λ (l : List ReplayEvent). length (entries_of E l))
          (append-nil (told_of place s P a))
          ∙ one_entry place s P a more E
          ∙ (let e : length E + 1 ≡ length E + 0 + 1 = omega arith in e);
      packets = P ++ Arrived a ∷ [];
      there = get_set_here hs place (came s P) (came s (P ++ Arrived a ∷ [])) there;
      whole = ends;
    }
reaches s window place k (m ∷ ms) P hs ten wide f u there =
    let small : k + 2 < 2 ^ 64 = (let a = f.small in omega arith) in
    let p : Content = one_message s.name (k + 1) m in
    let content : IsContent p = message_content s.name k m ten f.each.0 small in
    let a : Arrival = message_arrival s.name k m in
    let at : slice_get s.items k ≡ Some (item_of m) = first_at s k m ms f in
    let up : IsUpTo s window (k + 1) (P ++ Arrived a ∷ []) = came_more s window k
    P u wide m content at in
    let len : length (stream_of P) ≡ k = stream_len s window k P u in
    let len_more : length (stream_of (P ++ Arrived a ∷ [])) ≡ k + 1 = stream_len s window (k + 1) (P
    ++ Arrived a ∷ []) up in
    let more : length (stream_of (P ++ Arrived a ∷ [])) ≡ length (stream_of P) + 1 = omega arith in
    let mid : List History = slice_set hs place (came s (P ++ Arrived a ∷ [])) in
    let r : Reaches s window place (k + 1) ms mid =
    reaches s window place (k + 1) ms (P ++ Arrived a ∷ []) mid ten wide (from_next s k m ms f) up
    (get_set_here hs place (came s P) (came s (P ++ Arrived a ∷ [])) there) in
    record {
      emitted = told_of place s P a ++ r.emitted;
      new = r.new;
      emits = (
        mid,
        told_of place s P a,
        r.emitted,
        tells_one s window place P p hs a refl there content refl
            (answer s window k P u wide m content at (last_sent (came s P))
            (last_at s window k P u)),
        r.emits,
        refl,
      );
      count = λ E.
          ap length (entries_more E (told_of place s P a) r.emitted)
          ∙ r.count (entries_of E (told_of place s P a))
          ∙ (let first =
          one_entry place s P a more E in let e : length
          (entries_of E (told_of place s P a)) + length ms + 1 ≡ length E + suc (length ms) + 1 =
          omega arith in e);
      packets = r.packets;
      there = r.there;
      whole = r.whole;
    }

-- the records hold packets of the session alone
held : (s : Session) (place : ℕ) (p : Content) → IsContent p → p.ignored ≡ 0 → IsOfSession s p
    → HoldsOnly place s (datagram_record place A (spelling p))
held s place p content none of at q rest reads name =
    subst (IsOfSession s) (same_packet (spelling p) p q [] rest (spells p content none) reads) of

hold : (s : Session) (window place k : ℕ) (ms : List (List ℕ)) → length s.name ≡ 10 → AreFrom s k ms
    → HoldOnly place (records_from place s.name k ms) s
hold s window place k [] ten f =
    let all : k ≡ length s.items = (let a = f.all in omega arith) in
    let small : k + 1 < 2 ^ 64 = (let a = f.small in omega arith) in (
      held s place (end_packet s.name (k + 1)) (end_content s.name k ten small) refl (record {
        name = refl;
        messages = λ j h. absurd (omega arith);
        heartbeat = λ is. absurd cc;
        end = λ is. ap (λ (n : ℕ). n + 1) all;
      }),
      tt,
    )
hold s window place k (m ∷ ms) ten f =
    let small : k + 2 < 2 ^ 64 = (let a = f.small in omega arith) in (
      held s place (one_message s.name (k + 1) m) (message_content s.name k m ten f.each.0 small)
          refl (record {
            name = refl;
            messages = λ j h. one_item j h;
            heartbeat = λ is. absurd cc;
            end = λ is. absurd cc;
          }),
      hold s window place (k + 1) ms ten (from_next s k m ms f),
    )
  where
    one_item : (j : ℕ) → j < 1
        → slice_get s.items (k + 1 + j - 1) ≡ Some (message_item (one_message s.name (k + 1) m) j)
    one_item zero h =
        subst (λ (n : ℕ). slice_get s.items n ≡ Some (item_of m))
        (let e : k ≡ k + 1 + 0 - 1 = omega arith in e)
        (first_at s k m ms f)
    one_item (suc j) h = absurd (omega arith)

-- ---- the run

abbrev config_of : Setting → ReplayConfig
config_of s = record {
  sessions = record { ref_ptr = (0, 0); now = s.sessions };
  symbols = record { ref_ptr = (0, 0); now = s.symbols };
  window = s.window;
  journal = s.journal;
  gaps = false;
  skips = Never;
  next_sessions = record { ref_ptr = (0, 0); now = [] };
  turns = 0;
}

items_at : (ms : List (List ℕ)) (j : ℕ) (m : List ℕ) → slice_get ms j ≡ Some m
    → slice_get (map item_of ms) j ≡ Some (item_of m)
items_at ms j m is = get_map item_of ms j m is

pub comes_through : (s : Setting) (place : ℕ) (name : List ℕ) (messages : List (List ℕ))
    → 1 ≤ s.window → 1 ≤ s.lane
    → length messages < s.journal
    → slice_get s.sessions place ≡ Some name → length name ≡ 10 → AllByRecursion IsMessage messages
    → length messages + 1 < 2 ^ 64
    → ComesThrough s place (session_of_messages name messages)
comes_through s place name messages wide lane room at ten each small =
    let t : Session = session_of_messages name messages in
    let config : ReplayConfig = config_of s in
    let from : AreFrom t 0 messages = record {
      at = λ j m is. subst (λ (n : ℕ). slice_get (map item_of messages) n ≡ Some (item_of m))
          (let e : j ≡ 0 + j = omega arith in e) (items_at messages j m is);
      all = (let n = length-map messages item_of in omega arith);
      each = each;
      small = omega arith;
    } in
    let hs : List History = map new_history s.sessions in
    let r : Reaches t s.window place 0 messages hs =
    reaches t s.window place 0 messages [] hs ten wide from (none_came t s.window)
    (get_map new_history s.sessions place name at) in
    let count : length (entries_of [] r.emitted) ≡ 0 + length messages + 1 = r.count [] in
    let fits : length (entries_of [] r.emitted) ≤ s.journal = omega arith in
    let run : IsReplayRun s (records_from place name 0 messages) r.emitted r.new =
    replay_run config s.lane s.filters (records_from place name 0 messages) r.emitted
    r.new lane r.emits fits in
    record {
      events = run.events;
      outcomes = outcomes_of [] r.emitted;
      world = world_of r.new (entries_of [] r.emitted);
      only = events_only place t (records_from place name 0 messages) run.events run.are
          (hold t s.window place 0 messages ten from);
      run = run.run;
      venue = consumed_all (came t r.packets);
      there = get_map consumed_all r.new place (came t r.packets) r.there;
      consumed = append-nil (stream_of r.packets) ∙ r.whole;
    }
