-- A skip: what is given up, and the state after it.
use Rattle.std.proofs.Common.{◌≡◌, ◌≢◌, ℕ, ◌+◌, ◌-◌, ◌<◌, ◌≤◌, Bool, true, false, List, [], ◌∷◌, ◌++◌, length, Option, Some, None, refl, sym, ap, subst, ◌∙◌, arith, inl, inr}
use Rattle.std.specs.Prelude.{IsSome, nat_le, nat_lt, if◌then◌else◌}
use Rattle.std.specs.Option.{option_or}
use Rattle.std.proofs.lemmas.Bool.{cases_eq, cases_lt, eq-eqb, false≢true, le-leb, le-ltb, lt-leb, lt-ltb, ne_eqb}
use Rattle.feed_types.specs.declared.item.Item.{Item}
use Rattle.feed_types.specs.declared.item.Item.TheVariants as items
use Rattle.line_arbiter.specs.Packets.{Input, Skip, carried, first_of, known_of}
use Rattle.line_arbiter.specs.Streams.{front_of, opens_of, part_of, stream_to, wins_of}
use Rattle.line_arbiter.specs.Skips.{AllSent, HasBelow, MaySkip}
use Rattle.line_arbiter.specs.Holding.{held_at}
use Rattle.feed_types.specs.PerLines.{on_line}
use Rattle.line_arbiter.specs.Counts.{shown}
use Rattle.line_arbiter.specs.States.{State, held_of, next_of}
use Rattle.line_arbiter.specs.Steps.{IsSound, SkipsTo, raised}
use Rattle.line_arbiter.specs.Fits.{Fits}
use Rattle.line_arbiter.specs.laws.Options.{or_none}
use Rattle.line_arbiter.specs.laws.Fronts.{IsFront, first_most, opens_most}
use Rattle.line_arbiter.specs.laws.Bringing.{carried_skip, end_of_skip, first_of-push}
use Rattle.line_arbiter.specs.laws.Lengths.{length-stream}
use Rattle.line_arbiter.proofs.Standing.{Stands, stands_of, fits_of}
use Rattle.line_arbiter.proofs.Cursors.{cursor, held_is}
use Rattle.line_arbiter.proofs.Known.{known_skip, raised_at_end, raised_from}
use Rattle.line_arbiter.proofs.Nexts.{none_from, none_ready, ready_within}
use Rattle.line_arbiter.proofs.Soundness.{heard_known}
use Rattle.line_arbiter.proofs.Windows.{in_window}
use Rattle.line_arbiter.proofs.Winning.{wins_of_skip}

-- all items were sent where none is ready
pub all_sent : (s : State) (packets : List Input) → IsSound s → Fits s packets → next_of s ≡ None
    → AllSent packets s.sent
all_sent s packets sound fits none = none_ready s packets sound (stands_of fits) none
    ∙ ap (λ (n : ℕ). opens_of packets + length (stream_to packets n)) fits.front

pub not_sent : (s : State) (packets : List Input) → IsSound s → Fits s packets → IsSome (next_of s)
    → AllSent packets s.sent → ⊥
not_sent s packets sound fits some all =
    let k = ready_within s packets sound (stands_of fits) some in
    let same : length (stream_to packets s.front) ≡ length (part_of packets) =
    ap (λ (n : ℕ). length (stream_to packets n)) fits.front in
    omega arith

some_or_given : (o : Option Item) (b : Bool) → b ≡ true
    → IsSome (option_or o (if b then Some items.Skipped else None))
some_or_given (Some x) b e = refl
some_or_given None true e = refl
some_or_given None false e = absurd (false≢true e)

module _ (s : State) (packets : List Input) (n : ℕ) (sound : IsSound s) (fits : Stands s packets)
    (none : next_of s ≡ None) (open_ : (e : ℕ) → s.end ≡ Some e → n ≤ e) where
  -- the cursor is at the front where the session goes on past the next number
  pub at_front : s.front + 1 < n → s.sent ≡ s.front
  at_front past =
      let all = none_ready s packets sound fits none in
      let len = length-stream packets s.front in
      let opens = opens_most packets s.front fits.front in
      elim (cursor s packets fits) [
        | inl within ↦ omega arith
        | inr ended ↦ let later = open_ (s.front + 1) (fits.end ∙ ended.1) in absurd (omega arith)
      ]

  module _ (past : s.front + 1 < n) (missing : (m : ℕ) → IsSome (held_at (held_of s) m) → n ≤ m)
    where
      free : (m : ℕ) → m < n → held_at (held_of s) m ≡ None
      free m lt = none_from (held_at (held_of s) m) (λ item is. let k =
          missing m (subst (λ (o : Option Item). IsSome o) (sym is) refl) in omega arith)

      not_carried : (m : ℕ) → s.front < m → m < n → carried packets m ≡ None
      not_carried m low lt = let at = at_front past in sym (held_is s packets fits m (omega arith))
          ∙ free m lt

      pub may_skip : front_of packets ≡ s.front → MaySkip packets n
      may_skip front = record {
        past = omega arith;
        not_ended = λ e is. open_ e (fits.end ∙ is);
        missing = λ m low lt. not_carried m (omega arith) lt;
      }

      module _ (new : State) (by : SkipsTo s new n) where
        abbrev Q : List Input
        Q = packets ++ Skip n ∷ []

        held_other : (m : ℕ) → m ≢ n - 1 → held_at (held_of new) m ≡ held_at (held_of s) m
        held_other m other = by.held m
            ∙ ap (λ (b : Bool). if b then Some items.Skipped else held_at (held_of s) m)
            (ne_eqb m (n - 1) other)

        held_last : held_at (held_of new) (n - 1) ≡ Some items.Skipped
        held_last = by.held (n - 1)
            ∙ ap (λ (b : Bool). if b then Some items.Skipped else held_at (held_of s) (n - 1))
            (eq-eqb (n - 1) (n - 1) refl)

        carried_from : (m : ℕ) → n ≤ m → carried Q m ≡ carried packets m
        carried_from m le =
            carried_skip packets n m
            ∙ ap (λ (b : Bool). option_or (carried packets m) (if b then Some items.Skipped
            else None)) (le-ltb m n le)
            ∙ or_none (carried packets m)

        carried_below : (m : ℕ) → m < n → IsSome (carried Q m)
        carried_below m lt = subst (λ (o : Option Item). IsSome o) (sym (carried_skip packets n m))
            (some_or_given (carried packets m) (nat_lt m n) (lt-ltb m n lt))

        held_from : (m : ℕ) → n ≤ m → held_at (held_of new) m ≡ carried Q m
        held_from m le =
            let at = at_front past in
            held_other m (λ e. omega arith) ∙ held_is s packets fits m (omega arith)
            ∙ sym (carried_from m le)

        carried_last : carried Q (n - 1) ≡ Some items.Skipped
        carried_last =
            carried_skip packets n (n - 1)
            ∙ ap (λ (b : Bool). option_or (carried packets (n - 1))
            (if b then Some items.Skipped else
            None)) (lt-ltb (n - 1) n (omega arith))
            ∙ ap (λ (o : Option Item). option_or o (Some items.Skipped))
            (not_carried (n - 1) (omega arith) (omega arith))

        first_is : first_of Q ≡ n
        first_is = let most = first_most packets s.front fits.front
            in omega (arith, first_of-push packets (Skip n))

        opens_is : opens_of Q ≡ n - 1
        opens_is = let f = first_is in omega arith

        front_is : IsFront Q new.front
        front_is = record {
          all = λ m one most. elim (cases_lt m n) [
            | inl lt ↦ carried_below m lt
            | inr le ↦ subst (λ (o : Option Item). IsSome o) (held_from m le) (by.run m le most)
          ];
          next = let from = by.from in sym (held_from (new.front + 1) from) ∙ by.stop;
        }

        held_all : (m : ℕ)
            → held_at (held_of new) m ≡ (if nat_le m new.sent then None else carried Q m)
        held_all m = let sent = by.sent in elim (cases_lt new.sent m) [
          | inr le ↦ held_other m (λ e. omega arith) ∙ free m (omega arith)
              ∙ sym (ap (λ (b : Bool). if b then None else carried Q m) (le-leb m new.sent le))
          | inl lt ↦
              let here : held_at (held_of new) m ≡ carried Q m = elim (cases_eq m (n - 1)) [
                | inl last ↦ ap (held_at (held_of new)) last ∙ held_last ∙ sym carried_last
                    ∙ sym (ap (carried Q) last)
                | inr other ↦ held_from m (past_last m lt sent other)
              ] in
              here ∙ sym (ap (λ (b : Bool). if b then None else carried Q m) (lt-leb m new.sent lt))
        ]
          where
            past_last : (m : ℕ) → new.sent < m → new.sent + 2 ≡ n → m ≢ n - 1 → n ≤ m
            past_last m lt sent other = elim (cases_lt m n) [
              | inr le ↦ le
              | inl below ↦ absurd (other (omega arith))
            ]

        pub skip_stands : Stands new Q
        skip_stands = record {
          front = front_is;
          known = by.known ∙ ap (λ (k : ℕ). raised k s.end (n - 1)) fits.known
              ∙ ap (λ (o : Option ℕ). raised (known_of packets) o (n - 1)) fits.end
              ∙ sym (known_skip packets n);
          end = ap (λ (x : State). x.end) by.others ∙ fits.end ∙ sym (end_of_skip packets n);
          opened = let o = opens_is in let sent = by.sent in omega arith;
          skipped = λ lt.
              let sent = by.sent in
              let last : new.sent + 1 ≡ n - 1 = omega arith in
              ap (carried Q) last ∙ carried_last;
          sent = let o = opens_is in let sent = by.sent in omega arith;
          held = held_all;
          wins = λ line. ap (λ (x : State). on_line line x.wins) by.others ∙ fits.wins line
              ∙ ap (λ (k : ℕ). shown (on_line line s.earlier + k))
              (sym (wins_of_skip packets n line))
              ∙ ap (λ (x : State). shown (on_line line x.earlier + wins_of Q line)) (sym by.others);
        }

-- what an arbiter keeps
pub sound_skip : (old new : State) (n : ℕ) → IsSound old → ((e : ℕ) → old.end ≡ Some e → n ≤ e)
    → SkipsTo old new n → IsSound new
sound_skip old new n sound open_ by =
    let end : new.end ≡ old.end = ap (λ (s : State). s.end) by.others in
    let wins : new.wins ≡ old.wins = ap (λ (s : State). s.wins) by.others in
    let sent = by.sent in
    let from = by.from in
    let known = by.known in
    let more = raised_from old.known old.end (n - 1) in
    let reached = heard_known old sound (n - 1) (λ e is. let k = open_ e is in omega arith) in
    let held : (m : ℕ) → IsSome (held_at (held_of new) m)
    → m ≤ new.known = λ m some. elim (cases_eq m (n - 1)) [
      | inl last ↦ omega arith
      | inr other ↦
          let same : held_at (held_of new) m ≡ held_at (held_of old) m =
          by.held m ∙ ap (λ (b : Bool). if b then Some items.Skipped else held_at (held_of old) m)
          (ne_eqb m (n - 1) other) in
          let h = sound.held_known m (subst (λ (o : Option Item). IsSome o) same some)
          in omega arith
    ] in
    record {
      end_small = λ e is. sound.end_small e (sym end ∙ is);
      known_at_end = λ e is.
          let k = sound.known_at_end e (sym end ∙ is) in
          let r = raised_at_end old.known old.end (n - 1) e (sym end ∙ is) in omega arith;
      front_known = elim (cases_lt new.front n) [
        | inl last ↦ omega arith
        | inr past ↦ held new.front (by.run new.front past (omega arith))
      ];
      held_known = held;
      ready = λ m past low. elim (cases_lt m n) [
        | inr above ↦ by.run m above low
        | inl below ↦ subst (λ (o : Option Item). IsSome o)
            (sym (by.held m ∙ ap (λ (b : Bool). if b then Some items.Skipped else
            held_at (held_of old) m) (eq-eqb m (n - 1) (omega arith)))) refl
      ];
      stop = by.stop;
      sent_or_end = inl (omega arith);
      few = subst (λ (names : List (List ℕ)). length names ≤ 64)
          (sym (ap (λ (s : State). s.sessions) by.others)) sound.few;
      wins_shown = λ line. rw wins (sound.wins_shown line);
    }

-- the last item sent is below the number, where that is past the next message and at most the end
pub unsent : (s : State) (n : ℕ) → IsSound s → ((e : ℕ) → s.end ≡ Some e → n ≤ e)
    → s.front + 1 < n → s.sent + 1 < n
unsent s n sound open_ past = elim sound.sent_or_end [
  | inl within ↦ omega arith
  | inr ended ↦ let k = open_ s.sent ended.1 in absurd (omega arith)
]

-- ---- the answer to a skip that isn't refused for what is missing

module _ (s : State) (packets : List Input) (n : ℕ) (sound : IsSound s) (fits : Fits s packets)
    (none : next_of s ≡ None) (open_ : (e : ℕ) → s.end ≡ Some e → n ≤ e)
    (past : s.front + 1 < n) where
  pub front_past : front_of packets + 1 < n
  front_past = let f = fits.front in omega arith

  pub has_below : (m : ℕ) → m < n → IsSome (held_at (held_of s) m) → HasBelow packets n
  has_below m lt some =
      let at = at_front s packets n sound (stands_of fits) none open_ past in
      let low = (in_window (held_of s) m some).0 in
      let front = fits.front in (
        m,
        omega arith,
        lt,
        subst (λ (o : Option Item). IsSome o)
            (held_is s packets (stands_of fits) m low) some,
      )

  pub skip_may : ((m : ℕ) → IsSome (held_at (held_of s) m) → n ≤ m) → MaySkip packets n
  skip_may missing = may_skip s packets n sound (stands_of fits) none open_ past
      missing (sym fits.front)

  pub skip_fits : ((m : ℕ) → IsSome (held_at (held_of s) m) → n ≤ m) → (new : State)
      → SkipsTo s new n → Fits new (packets ++ Skip n ∷ [])
  skip_fits missing new by = fits_of (skip_stands s packets n sound (stands_of fits) none
      open_ past missing new by)
