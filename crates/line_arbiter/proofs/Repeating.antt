-- A packet whose messages were all sent or are held: nothing of it is new, and the front stays.
use Rattle.std.proofs.Common.{◌≡◌, ℕ, ◌+◌, ◌-◌, ◌<◌, ◌≤◌, length, Option, Some, None, Ok, refl, sym, subst, arith, false, inl, inr}
use Rattle.std.specs.Prelude.{IsSome, nat_lt, ◌&&◌, is_none}
use Rattle.std.proofs.lemmas.Bool.{cases_lt}
use Rattle.std.proofs.lemmas.Bool.Decides.{nat_tests}
use Rattle.feed_types.specs.declared.item.Item.{Item}
use Rattle.feed_types.specs.declared.line.LineId.{LineId}
use Rattle.mold_packet.specs.declared.packet.Kind.{Kind}
use Rattle.mold_packet.specs.Content.{Content, last_number}
use Rattle.line_arbiter.specs.declared.outcome.Outcome.{Outcome}
use Rattle.line_arbiter.specs.declared.outcome.Outcome.TheVariants.{Taken}
use Rattle.line_arbiter.specs.Outcomes.{IsBefore}
use Rattle.line_arbiter.specs.Holding.{Held, held_at}
use Rattle.line_arbiter.specs.Filling.{fresh_to, put_all, HeldAgrees}
use Rattle.line_arbiter.specs.Comparing.{AreThere, IsThere}
use Rattle.line_arbiter.specs.States.{State, held_of}
use Rattle.line_arbiter.specs.InOrder.{IsSent}
use Rattle.line_arbiter.specs.Steps.{IsSound, KindStep, MessagesStep, PacketStep, raised}
use Rattle.line_arbiter.proofs.Counting.{count_none}
use Rattle.line_arbiter.proofs.LineCounts.{counted_none}
use Rattle.line_arbiter.proofs.Soundness.{sent_known}

-- at the packet's numbers past the base something is held
held_past : (held : Held) (p : Content) (m : ℕ) → AreThere held p → held.base < m → p.number ≤ m
    → m < p.number + length p.messages → IsSome (held_at held m)
held_past held p m there past low high =
    let at : p.number + (m - p.number) ≡ m = omega arith in
    elim (subst (λ (k : ℕ). IsThere held k) at (there (m - p.number) (omega arith))) [
      | inl sent ↦ absurd (omega arith)
      | inr some ↦ some
    ]

put_as : (held : Held) (p : Content) (m : ℕ) (found : Option Item) → AreThere held p
    → held_at held m ≡ found → put_all held.base p found m ≡ found
put_as held p m (Some x) there is = refl
put_as held p m None there is =
    elim (cases_lt held.base m) [
      | inr sent ↦ grind (arith, nat_tests)
      | inl past ↦ elim (cases_lt m p.number) [
        | inl below ↦ grind (arith, nat_tests)
        | inr low ↦ elim (cases_lt m (p.number + length p.messages)) [
          | inl high ↦ let some = held_past held p m there past low high in absurd cc
          | inr above ↦ grind (arith, nat_tests)
        ]
      ]
    ]

none_put : (held : Held) (p : Content) (m : ℕ) → AreThere held p
    → put_all held.base p (held_at held m) m ≡ held_at held m
none_put held p m there = put_as held p m (held_at held m) there refl

is_some_then : (o : Option Item) → IsSome o → is_none o ≡ false
is_some_then None some = absurd cc
is_some_then (Some x) some = refl

not_new : (held : Held) (m : ℕ) → (held.base < m → IsSome (held_at held m))
    → (nat_lt held.base m && is_none (held_at held m)) ≡ false
not_new held m some =
    elim (cases_lt held.base m) [
      | inl past ↦ let none = is_some_then (held_at held m) (some past) in grind (arith, nat_tests)
      | inr sent ↦ grind (arith, nat_tests)
    ]

pub none_fresh : (held : Held) (p : Content) → AreThere held p
    → 0 ≡ fresh_to (length p.messages) held.base held p
none_fresh held p there =
    sym (count_none (λ m. nat_lt held.base m && is_none (held_at held m))
    p.number (length p.messages)
    (λ m low high. not_new held m (λ past. held_past held p m there past low high)))

-- its last message was sent, or is held: so it is known of
known_still : (s : State) (p : Content) → IsSound s → 1 ≤ length p.messages → AreThere (held_of s) p
    → s.known ≡ raised s.known s.end (last_number p)
known_still s p sound some there = by_end s.end refl
  where
    by_end : (end : Option ℕ) → s.end ≡ end → s.known ≡ raised s.known end (last_number p)
    by_end None unended =
        let at : p.number + (length p.messages - 1) ≡ last_number p = omega arith in
        let sent = sent_known s sound unended in
        elim (subst (λ (m : ℕ). IsThere (held_of s) m) at
        (there (length p.messages - 1) (omega arith))) [
          | inl gone ↦ omega arith
          | inr here ↦ let known = sound.held_known (last_number p) here in omega arith
        ]
    by_end (Some e) is = refl

-- such a packet changes nothing
pub repeats : (line : LineId) (s : State) (p : Content) → IsSound s → 1 ≤ length p.messages
    → AreThere (held_of s) p → HeldAgrees (held_of s) p → last_number p ≤ s.sent + s.window
    → IsBefore s.end (last_number p)
    → MessagesStep line s s p (Ok (Taken 0 (length p.messages)))
repeats line s p sound some there agrees within before = (
  record {
    held = λ m. sym (none_put (held_of s) p m there);
    from = omega arith;
    run = λ m past within. absurd (omega arith);
    stop = sound.stop;
    known = known_still s p sound some there;
    wins = counted_none line s.wins sound.wins_shown;
    others = refl;
  },
  before,
  within,
  agrees,
  none_fresh (held_of s) p there,
  omega arith,
)

-- so a packet of messages of the session that were all sent
pub sent_step : (line : LineId) (s : State) (p : Content) (o : Outcome) → IsSent s p
    → MessagesStep line s s p (Ok o) → PacketStep line s s p (Ok o)
sent_step line s p o sent step =
    inr (sent.name, subst (λ (k : Kind). KindStep k line s s p (Ok o)) (sym sent.kind) step)
