-- What an arbiter keeps, after each step.
use Rattle.std.proofs.Common.{◌≡◌, ℕ, ◌+◌, ◌<◌, ◌≤◌, Bool, true, false, List, length, Option, Some, None, refl, sym, ap, subst, ◌∙◌, arith, inl, inr}
use Rattle.std.specs.Prelude.{nat_eq, nat_lt, ◌&&◌, ◌⊎◌, IsSome, if◌then◌else◌}
use Rattle.std.proofs.lemmas.Bool.{cases_lt, eqb-true, false≢true, and_parts, ne_eqb}
use Rattle.feed_types.specs.declared.item.Item.{Item}
use Rattle.feed_types.specs.declared.item.Item.TheVariants as items
use Rattle.feed_types.specs.declared.item.Numbered.{Numbered}
use Rattle.feed_types.specs.declared.line.LineId.{LineId}
use Rattle.mold_packet.specs.Content.{Content, last_number}
use Rattle.line_arbiter.specs.Packets.{has_number, item_at}
use Rattle.line_arbiter.specs.Holding.{held_at, IsEmpty}
use Rattle.line_arbiter.specs.Filling.{put_all}
use Rattle.line_arbiter.specs.States.{State, held_of, next_from, next_of}
use Rattle.line_arbiter.specs.Outcomes.{IsBefore}
use Rattle.line_arbiter.specs.Steps.{IsSound, TakesIn, raised}
use Rattle.line_arbiter.specs.laws.Bringing.{number_in}
use Rattle.line_arbiter.proofs.Known.{raised_at_end, raised_from, raised_to}
use Rattle.line_arbiter.proofs.LineCounts.{counted_shown}
use Rattle.line_arbiter.proofs.Windows.{in_window}

-- the front, and what is held, are before the announced end
pub front_before_end : (s : State) → IsSound s → (e : ℕ) → s.end ≡ Some e → s.front < e
front_before_end s sound e is = let k = sound.known_at_end e is
    in let f = sound.front_known in omega arith

pub before_end : (s : State) → IsSound s → (e m : ℕ) (item : Item) → s.end ≡ Some e
    → held_at (held_of s) m ≡ Some item → m < e
before_end s sound e m item is here =
    let k = sound.known_at_end e is in
    let h = sound.held_known m (subst (λ (o : Option Item). IsSome o) (sym here) refl) in
    omega arith

-- while no end is announced, what was sent is known of
pub sent_known : (s : State) → IsSound s → s.end ≡ None → s.sent ≤ s.known
sent_known s sound unended = let f = sound.front_known in elim sound.sent_or_end [
  | inl within ↦ omega arith
  | inr ended ↦ let gone : Some s.sent ≡ None = sym ended.1 ∙ unended in absurd cc
]

-- what is at each place: found there before, or put in from the packet
pub record ComesFrom (p : Content) (m : ℕ) (item : Item) : Type 0 where
  pub in_packet : has_number p m ≡ true
  pub reads : item_at p m ≡ item

if_some : (b : Bool) (x item : Item) → (if b then Some x else None) ≡ Some item
    → (b ≡ true) × (x ≡ item)
if_some true x item e = (refl, cc)
if_some false x item e = absurd cc

pub put_is : (sent : ℕ) (p : Content) (found : Option Item) (m : ℕ) (item : Item)
    → put_all sent p found m ≡ Some item → (found ≡ Some item) ⊎ ComesFrom p m item
put_is sent p None m item e =
    let both = if_some (nat_lt sent m && has_number p m) (item_at p m) item e in
    inr (record {
      in_packet = (and_parts (nat_lt sent m) (has_number p m) both.0).1;
      reads = both.1;
    })
put_is sent p (Some x) m item e = inl e

pub put_kept : (sent : ℕ) (p : Content) (found : Option Item) (m : ℕ) → IsSome found
    → IsSome (put_all sent p found m)
put_kept sent p None m some = absurd (false≢true some)
put_kept sent p (Some x) m some = refl

pub held_some : (o : Option Item) → IsSome o → (item : Item) × (o ≡ Some item)
held_some None h = absurd (false≢true h)
held_some (Some x) h = (x, refl)

-- a number that is heard of before the announced end is known of then
pub heard_known : (s : State) → IsSound s → (to : ℕ) → IsBefore s.end to
    → to ≤ raised s.known s.end to
heard_known s sound to before = raised_to s.known s.end to (λ e is. let k = sound.known_at_end e is
    in let b = before e is in omega arith)

-- a packet's messages are taken in
pub sound_after : (line : LineId) (fresh : ℕ) (old new : State) (p : Content) → IsSound old
    → IsBefore old.end (last_number p) → TakesIn line fresh old new p → IsSound new
sound_after line fresh old new p sound before by =
    let end : new.end ≡ old.end = ap (λ (s : State). s.end) by.others in
    let sent : new.sent ≡ old.sent = ap (λ (s : State). s.sent) by.others in
    let more = raised_from old.known old.end (last_number p) in
    let reached = heard_known old sound (last_number p) before in
    let known = by.known in
    let held : (m : ℕ) → IsSome (held_at (held_of new) m) → m ≤ new.known = λ m some.
    let item = held_some (held_at (held_of new) m) some in
    elim (put_is old.sent p (held_at (held_of old) m) m item.0 (sym (by.held m) ∙ item.1)) [
      | inl was ↦ let h = sound.held_known m (subst (λ (o : Option Item). IsSome o) (sym was) refl)
          in omega arith
      | inr from ↦ let k = number_in p m from.in_packet in omega arith
    ] in
    record {
      end_small = λ e is. sound.end_small e (sym end ∙ is);
      known_at_end = λ e is.
          let k = sound.known_at_end e (sym end ∙ is) in
          let r = raised_at_end old.known old.end (last_number p) e (sym end ∙ is) in omega arith;
      front_known = elim (cases_lt old.front new.front) [
        | inl moved ↦ held new.front (by.run new.front moved (omega arith))
        | inr stays ↦ let f = sound.front_known in omega arith
      ];
      held_known = held;
      ready = λ m past low. elim (cases_lt old.front m) [
        | inl more ↦ by.run m more low
        | inr within ↦ subst (λ (o : Option Item). IsSome o) (sym (by.held m))
            (put_kept old.sent p (held_at (held_of old) m) m (sound.ready m (omega arith) within))
      ];
      stop = by.stop;
      sent_or_end = elim sound.sent_or_end [
        | inl within ↦ let from = by.from in inl (omega arith)
        | inr ended ↦
            let b = before old.sent ended.1 in
            let from = by.from in
            elim (cases_lt old.front new.front) [
              | inl moved ↦ inl (omega arith)
              | inr stays ↦ inr (
                omega arith,
                ap (λ (s : State). s.end) by.others ∙ ended.1
                    ∙ ap (λ (n : ℕ). Some n) (sym sent),
              )
            ]
      ];
      few = subst (λ (names : List (List ℕ)). length names ≤ 64)
          (sym (ap (λ (s : State). s.sessions) by.others)) sound.few;
      wins_shown = λ each. rw by.wins (counted_shown line each fresh old.wins
          (sound.wins_shown each));
    }

-- what is held past the last item sent, where that is End
pub none_past_end : (s : State) → IsSound s → s.end ≡ Some s.sent → IsEmpty (held_of s)
none_past_end s sound ended m = by_item (held_at (held_of s) m) refl
  where
    by_item : (o : Option Item) → held_at (held_of s) m ≡ o → held_at (held_of s) m ≡ None
    by_item None is = is
    by_item (Some x) is =
        let below = before_end s sound s.sent m x ended is in
        let past = (in_window (held_of s) m (subst (λ (o : Option Item). IsSome o) (sym is) refl)).0
        in
        absurd (omega arith)

-- a message is held at the next number where the front is past it, and none where it isn't
pub some_next : (s : State) → IsSound s → s.sent < s.front
    → IsSome (held_at (held_of s) (s.sent + 1))
some_next s sound more = sound.ready (s.sent + 1) (omega arith) (omega arith)

pub none_next : (s : State) → IsSound s → s.front ≤ s.sent
    → held_at (held_of s) (s.sent + 1) ≡ None
none_next s sound all = elim sound.sent_or_end [
  | inl within ↦
      let same : s.sent ≡ s.front = omega arith in
      ap (λ (n : ℕ). held_at (held_of s) (n + 1)) same ∙ sound.stop
  | inr ended ↦ none_past_end s sound ended.1 (s.sent + 1)
]

-- the item that is sent is held no longer
passed : (b : Bool) (o : Option Item) → IsSome (if b then None else o) → IsSome o
passed true o some = absurd (false≢true some)
passed false o some = some

pub still : (b : Bool) (o : Option Item) → b ≡ false → (if b then None else o) ≡ o
still true o e = absurd (false≢true (sym e))
still false o e = refl

pub still_none : (b : Bool) (o : Option Item) → o ≡ None → (if b then None else o) ≡ None
still_none true o e = refl
still_none false o e = e

-- where nothing is held the next item is End
next_end : (m : ℕ) (o : Option Item) (end : Option ℕ) → o ≡ None
    → IsSome (next_from m o end) → end ≡ Some m
next_end m (Some x) end none some = absurd cc
next_end m None None none some = absurd (false≢true some)
next_end m None (Some e) none some = by_test (nat_eq e m) refl some
  where
    by_test : (b : Bool) → nat_eq e m ≡ b
        → IsSome {T = Numbered} (if b then Some (record { number = m; item = items.End }) else None)
        → Some e ≡ Some m
    by_test true same some = ap (λ (n : ℕ). Some n) (eqb-true e m same)
    by_test false apart some = absurd (false≢true some)

pub sound_advanced : (old new : State) → IsSound old → IsSome (next_of old)
    → new ≡ record old { sent = old.sent + 1; places = new.places }
    → ((m : ℕ) → held_at (held_of new) m ≡ (if nat_eq m (old.sent + 1) then None else
    held_at (held_of old) m))
    → IsSound new
sound_advanced old new sound ready others held =
    let end : new.end ≡ old.end = ap (λ (s : State). s.end) others in
    let front : new.front ≡ old.front = ap (λ (s : State). s.front) others in
    let known : new.known ≡ old.known = ap (λ (s : State). s.known) others in
    let sent : new.sent ≡ old.sent + 1 = ap (λ (s : State). s.sent) others in
    let wins : new.wins ≡ old.wins = ap (λ (s : State). s.wins) others in
    let ended_at : held_at (held_of old) (old.sent + 1) ≡ None → new.end ≡ Some new.sent = λ none.
    end ∙ next_end (old.sent + 1) (held_at (held_of old) (old.sent + 1)) old.end none ready
    ∙ ap (λ (n : ℕ). Some n) (sym sent) in
    record {
      end_small = λ e is. sound.end_small e (sym end ∙ is);
      known_at_end = λ e is. let k = sound.known_at_end e (sym end ∙ is) in omega arith;
      front_known = let f = sound.front_known in omega arith;
      held_known = λ m some.
          let h = sound.held_known m (passed (nat_eq m (old.sent + 1)) (held_at (held_of old) m)
          (subst (λ (o : Option Item). IsSome o) (held m) some)) in omega arith;
      ready = λ m past low. subst (λ (o : Option Item). IsSome o)
          (sym (held m ∙ still (nat_eq m (old.sent + 1)) (held_at (held_of old) m)
          (ne_eqb m (old.sent + 1) (λ e. omega arith))))
          (sound.ready m (omega arith) (omega arith));
      stop =
          rw front (held (old.front + 1)
          ∙ still_none (nat_eq (old.front + 1) (old.sent + 1))
          (held_at (held_of old) (old.front + 1)) sound.stop);
      sent_or_end = elim sound.sent_or_end [
        | inl within ↦ elim (cases_lt old.sent old.front) [
          | inl lt ↦ inl (omega arith)
          | inr le ↦
              let same : old.front ≡ old.sent = omega arith in
              inr (
                omega arith,
                ended_at (ap (λ (n : ℕ). held_at (held_of old) (n + 1)) (sym same)
                    ∙ sound.stop),
              )
        ]
        | inr ended ↦
            let again = ended_at (none_past_end old sound ended.1 (old.sent + 1)) in
            let both : Some (old.sent + 1) ≡ Some old.sent = ap (λ (n : ℕ). Some n) (sym sent)
            ∙ sym again ∙ end ∙ ended.1 in
            let no : old.sent + 1 ≡ old.sent = cc in
            absurd (omega arith)
      ];
      few = subst (λ (names : List (List ℕ)). length names ≤ 64)
          (sym (ap (λ (s : State). s.sessions) others)) sound.few;
      wins_shown = λ each. rw wins (sound.wins_shown each);
    }
