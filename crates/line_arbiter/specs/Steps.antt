-- The effect of one packet on an arbiter, in terms of its state alone. Cited by private clauses
-- alone.
use Rattle.std.specs.Prelude.{◌≡◌, ◌≢◌, ℕ, ◌+◌, ◌-◌, ◌^◌, ◌<◌, nat_eq, ◌⊎◌, Option, Some, None, IsSome, length, max, Result, Ok, Err, ◌≤◌, if◌then◌else◌}
use Rattle.feed_types.specs.declared.item.Item.TheVariants as items
use Rattle.feed_types.specs.declared.line.LineId.{LineId}
use Rattle.mold_packet.specs.declared.packet.Kind.{Kind}
use Rattle.mold_packet.specs.declared.packet.Kind.TheVariants as kinds
use Rattle.mold_packet.specs.Content.{Content, last_number}
use Rattle.line_arbiter.specs.declared.outcome.Outcome.{Outcome}
use Rattle.line_arbiter.specs.declared.outcome.Outcome.TheVariants.{Taken, Heartbeat, Ended, Ahead}
use Rattle.line_arbiter.specs.declared.outcome.LineFault.{LineFault}
use Rattle.line_arbiter.specs.declared.outcome.LineFault.TheVariants.{OtherSession, PastEnd, EndMoved, EndTooEarly, Conflict}
use Rattle.line_arbiter.specs.Outcomes.{IsBefore, IsPast}
use Rattle.feed_types.specs.declared.per_line.PerLine.{PerLine}
use Rattle.feed_types.specs.PerLines.{on_line, with_line}
use Rattle.line_arbiter.specs.Counts.{shown}
use Rattle.line_arbiter.specs.Holding.{IsEmpty, held_at}
use Rattle.line_arbiter.specs.Filling.{put_all, fresh_to, HeldAgrees, HeldDisagrees}
use Rattle.line_arbiter.specs.States.{State, held_of}

-- What every arbiter keeps: the front, and what is held, are known of, which is to before the
-- announced end; all from the last item sent up to the front is held, and nothing right after it;
-- the last item sent is not past the front, or is End; there are at most 64 sessions; and the wins
-- are shown.
pub record IsSound (s : State) : Type 0 where
  pub end_small : (e : ℕ) → s.end ≡ Some e → e < 2 ^ 64
  pub known_at_end : (e : ℕ) → s.end ≡ Some e → s.known + 1 ≡ e
  pub front_known : s.front ≤ s.known
  pub held_known : (m : ℕ) → IsSome (held_at (held_of s) m) → m ≤ s.known
  pub ready : (m : ℕ) → s.sent < m → m ≤ s.front → IsSome (held_at (held_of s) m)
  pub stop : held_at (held_of s) (s.front + 1) ≡ None
  pub sent_or_end : (s.sent ≤ s.front) ⊎ ((s.sent ≡ s.front + 1) × (s.end ≡ Some s.sent))
  pub few : length s.sessions ≤ 64
  pub wins_shown : (line : LineId) → shown (on_line line s.wins) ≡ on_line line s.wins

-- the number up to which there are messages, after one more is heard of: nothing changes once the
-- end is announced
abbrev pub raised : ℕ → Option ℕ → ℕ → ℕ
raised known None to = max known to
raised known (Some e) to = known

-- n more on the line
abbrev pub counted : LineId → ℕ → PerLine ℕ → PerLine ℕ
counted line n counts = with_line line (shown (on_line line counts + n)) counts

-- the state after the next item was sent on: the cursor is one further, and that item is held no
-- longer
pub record DropsNext (old new : State) : Type 0 where
  pub sent : new.sent ≡ old.sent + 1
  pub held : (m : ℕ)
      → held_at (held_of new) m
      ≡ (if nat_eq m (old.sent + 1) then None else held_at (held_of old) m)
  pub others : new ≡ record old { sent = new.sent; places = new.places }

-- the state after all messages below a number were given up, of which none was held: Skipped is
-- held at the number before it, and the front has moved over what is there
pub record SkipsTo (old new : State) (n : ℕ) : Type 0 where
  pub sent : new.sent + 2 ≡ n
  pub held : (m : ℕ)
      → held_at (held_of new) m
      ≡ (if nat_eq m (n - 1) then Some items.Skipped else held_at (held_of old) m)
  pub from : n ≤ new.front + 1
  pub run : (m : ℕ) → n ≤ m → m ≤ new.front → IsSome (held_at (held_of new) m)
  pub stop : held_at (held_of new) (new.front + 1) ≡ None
  pub known : new.known ≡ raised old.known old.end (n - 1)
  pub others : new ≡ record old {
    sent = new.sent;
    front = new.front;
    known = new.known;
    places = new.places;
  }

-- the packet's messages past `sent` are held, and the front has moved over what is there
pub record TakesIn (line : LineId) (fresh : ℕ) (old new : State) (p : Content) : Type 0 where
  pub held : (m : ℕ) → held_at (held_of new) m ≡ put_all old.sent p (held_at (held_of old) m) m
  pub from : old.front ≤ new.front
  pub run : (m : ℕ) → old.front < m → m ≤ new.front → IsSome (held_at (held_of new) m)
  pub stop : held_at (held_of new) (new.front + 1) ≡ None
  pub known : new.known ≡ raised old.known old.end (last_number p)
  pub wins : new.wins ≡ counted line fresh old.wins
  pub others : new ≡ record old {
    front = new.front;
    known = new.known;
    places = new.places;
    wins = new.wins;
  }

-- a packet of messages: the answer, and the state that it leaves
abbrev pub MessagesStep : LineId → State → State → Content → Result Outcome LineFault → Type 0
MessagesStep line old new p (Err PastEnd) = (new ≡ old) × IsPast old.end (last_number p)
MessagesStep line old new p (Ok Ahead) =
    (new ≡ record old { known = raised old.known old.end (last_number p) })
    × IsBefore old.end (last_number p) × (old.sent + old.window < last_number p)
MessagesStep line old new p (Err Conflict) =
    (new ≡ old) × IsBefore old.end (last_number p) × (last_number p ≤ old.sent + old.window)
    × HeldDisagrees (held_of old) p
MessagesStep line old new p (Ok (Taken fresh repeated)) =
    TakesIn line fresh old new p
    × IsBefore old.end (last_number p) × (last_number p ≤ old.sent + old.window)
    × HeldAgrees (held_of old) p
    × (fresh ≡ fresh_to (length p.messages) old.sent (held_of old) p)
    × (fresh + repeated ≡ length p.messages)
MessagesStep line old new p _ = ⊥

abbrev pub HeartbeatStep : State → State → ℕ → Result Outcome LineFault → Type 0
HeartbeatStep old new n (Err PastEnd) = (new ≡ old) × (e : ℕ) × (old.end ≡ Some e) × (e < n)
HeartbeatStep old new n (Ok Heartbeat) =
    (new ≡ record old { known = raised old.known old.end (n - 1) })
    × ((e : ℕ) → old.end ≡ Some e → n ≤ e)
HeartbeatStep old new n _ = ⊥

abbrev pub EndStep : State → State → ℕ → Result Outcome LineFault → Type 0
EndStep old new n (Err EndMoved) = (new ≡ old) × (e : ℕ) × (old.end ≡ Some e) × (e ≢ n)
EndStep old new n (Err EndTooEarly) =
    (new ≡ old) × (old.end ≡ None)
    × ((n ≤ old.front) ⊎ ((m : ℕ) × (n ≤ m) × IsSome (held_at (held_of old) m)))
EndStep old new n (Ok Ended) =
    ((new ≡ old) × (old.end ≡ Some n))
    ⊎ ((new ≡ record old { end = Some n; known = n - 1 }) × (old.end ≡ None) × (old.front < n)
    × ((m : ℕ) → IsSome (held_at (held_of old) m) → m < n))
EndStep old new n _ = ⊥

abbrev pub KindStep : Kind → LineId → State → State → Content → Result Outcome LineFault → Type 0
KindStep kinds.Messages line old new p answer = MessagesStep line old new p answer
KindStep kinds.Heartbeat line old new p answer = HeartbeatStep old new p.number answer
KindStep kinds.End line old new p answer = EndStep old new p.number answer

abbrev pub PacketStep : LineId → State → State → Content → Result Outcome LineFault → Type 0
PacketStep line old new p answer =
    ((p.session ≢ old.session) × (answer ≡ Err OtherSession) × (new ≡ old))
    ⊎ ((p.session ≡ old.session) × KindStep p.kind line old new p answer)

-- the cursors have gone past the packet, and still nothing is held
pub record GoesPast (line : LineId) (old new : State) (p : Content) : Type 0 where
  pub empty : IsEmpty (held_of new)
  pub sent : new.sent ≡ last_number p
  pub after : new ≡ record old {
    sent = new.sent;
    front = last_number p;
    known = raised old.known old.end (last_number p);
    places = new.places;
    wins = counted line (length p.messages) old.wins;
  }
