-- A session that begins at a number.
use Rattle.std.proofs.Common.{◌≡◌, ℕ, ◌+◌, ◌-◌, ◌<◌, ◌≤◌, Bool, true, false, cond, List, [], ◌∷◌, ◌++◌, length, map, Option, Some, None, Err, refl, sym, ap, subst, ◌∙◌, arith, inl, inr, append-nil}
use Rattle.std.specs.Prelude.{IsSome, find, nat_le, nat_lt, if◌then◌else◌, ◌||◌}
use Rattle.std.specs.List.{range_with_len}
use Rattle.std.specs.Option.{option_map}
use Rattle.std.proofs.lemmas.Bool.{cases_lt, false≢true}
use Rattle.std.proofs.lemmas.Bool.Decides.{nat_tests}
use Rattle.feed_types.specs.declared.item.Item.{Item}
use Rattle.feed_types.specs.declared.item.Numbered.{Numbered}
use Rattle.feed_types.specs.Sessions.{end_item, numbered_from}
use Rattle.itch_book.specs.Books.{FitsEvents}
use Rattle.line_arbiter.specs.Packets.{Input, Skip, brings, carried, end_of, item_brought}
use Rattle.line_arbiter.specs.Streams.{front_of, end_at}
use Rattle.line_arbiter.specs.Fits.{Fits}
use Rattle.line_arbiter.specs.Skips.{AllSent, IsSkip}
use Rattle.line_arbiter.specs.declared.faults.SkipFault.{SkipFault}
use Rattle.line_arbiter.specs.declared.faults.SkipFault.TheVariants.{ItemsReady, PastEnd, NothingMissing, HeldBelow}
use Rattle.line_arbiter.specs.States.{State}
use Rattle.line_arbiter.specs.laws.Fronts.{front_unique, front_is}
use Rattle.venue_normaliser.specs.declared.message_slot.MessageSlot.{MessageSlot}
use Rattle.venue_normaliser.specs.Brought.{before_skip_past, has_skip_past, kept_bytes, taken_bytes, message_brought, messages_brought, taken_message}
use Rattle.venue_normaliser.specs.Outputs.{AreMadeAfter, AreShown, IsPutOutFrom, Opening, events_of, from_start, opened_at, put_first}
use Rattle.venue_normaliser.specs.Slots.{stored_at}
use Rattle.venue_normaliser.specs.Snapshots.{SnapshotContent}
use Rattle.venue_normaliser.specs.States.{FitsOpened, NormaliserState, Resumes}
use Rattle.venue_normaliser.proofs.Making.{made_none}
use Rattle.venue_normaliser.proofs.Readying.{all_sent_is}

-- ---- what a skip of the first messages brings

below : (n m : ℕ) → m < n → IsSome (carried (Skip n ∷ []) m)
below n m lt =
    let here : nat_lt m n ≡ true = grind (arith, nat_tests) in
    subst (λ (b : Bool). IsSome (option_map (λ x. item_brought x m)
    (cond b (Some (Skip n)) (find (brings m) [])))) (sym here) refl

from_there : (n m : ℕ) → n ≤ m → carried (Skip n ∷ []) m ≡ None
from_there n m le =
    let past : nat_lt m n ≡ false = grind (arith, nat_tests) in
    ap (λ (b : Bool). option_map (λ x. item_brought x m)
    (cond b (Some (Skip n)) (find (brings m) []))) past

message_there : (n m : ℕ) → n ≤ m → taken_message (Skip n ∷ []) m ≡ None
message_there n m le =
    let past : nat_lt m n ≡ false = grind (arith, nat_tests) in
    ap (λ (b : Bool). option_map (λ x. message_brought x m)
    (cond b (Some (Skip n)) (find (brings m) []))) past

skip_front : (n : ℕ) → 1 < n → front_of (Skip n ∷ []) ≡ n - 1
skip_front n more =
    front_unique (Skip n ∷ []) (front_of (Skip n ∷ [])) (n - 1) (front_is (Skip n ∷ []))
    (record {
      all = λ m one most. below n m (omega arith);
      next = from_there n ((n - 1) + 1) (omega arith);
    })

pub opened_none : (n : ℕ) → n ≤ 1 → opened_at n ≡ []
opened_none n le =
    let few : nat_le n 1 ≡ true = grind (arith, nat_tests) in
    ap (λ (b : Bool). if b then [] else Skip n ∷ []) few

pub opened_some : (n : ℕ) → 1 < n → opened_at n ≡ Skip n ∷ []
opened_some n lt =
    let more : nat_le n 1 ≡ false = grind (arith, nat_tests) in
    ap (λ (b : Bool). if b then [] else Skip n ∷ []) more

pub opened_front : (n : ℕ) → 1 ≤ n → front_of (opened_at n) ≡ n - 1
opened_front n one = elim (cases_lt 1 n) [
  | inl lt ↦ ap front_of (opened_some n lt) ∙ skip_front n lt
  | inr le ↦ ap front_of (opened_none n le) ∙ (let z : 0 ≡ n - 1 = omega arith in z)
]

opened_message : (n m : ℕ) → n ≤ m → taken_message (opened_at n) m ≡ None
opened_message n m le = elim (cases_lt 1 n) [
  | inl lt ↦ ap (λ (xs : List Input). taken_message xs m) (opened_some n lt)
      ∙ message_there n m le
  | inr few ↦ ap (λ (xs : List Input). taken_message xs m) (opened_none n few)
]

opened_end : (n : ℕ) → end_of (opened_at n) ≡ None
opened_end n = elim (cases_lt 1 n) [
  | inl lt ↦ ap end_of (opened_some n lt)
  | inr few ↦ ap end_of (opened_none n few)
]

same_number : (n : ℕ) → nat_lt n n ≡ false
same_number n = grind (arith, nat_tests)

opened_skip : (n : ℕ) → has_skip_past n (opened_at n) ≡ false
opened_skip n = elim (cases_lt 1 n) [
  | inl lt ↦ ap (has_skip_past n) (opened_some n lt)
      ∙ ap (λ (b : Bool). b || false) (same_number n)
  | inr few ↦ ap (has_skip_past n) (opened_none n few)
]

opened_before : (n : ℕ) → before_skip_past n (opened_at n) ≡ opened_at n
opened_before n = elim (cases_lt 1 n) [
  | inl lt ↦ ap (before_skip_past n) (opened_some n lt)
      ∙ ap (λ (b : Bool). if b then [] else Skip n ∷ []) (same_number n)
      ∙ sym (opened_some n lt)
  | inr few ↦ ap (before_skip_past n) (opened_none n few) ∙ sym (opened_none n few)
]

opened_messages : (n : ℕ) → 1 ≤ n → messages_brought n (opened_at n) ≡ []
opened_messages n one =
    let front = opened_front n one in
    ap (λ (k : ℕ). map (taken_bytes (opened_at n)) (range_with_len n k))
    (let k : front_of (opened_at n) + 1 - n ≡ 0 = omega arith in k)

-- a session of which nothing came begins at any number
pub never_refused : (sent n : ℕ) (fault : SkipFault) → 1 < n → AllSent [] sent
    → IsSkip [] sent n (Err fault) → ⊥
never_refused sent n ItemsReady more all not = not all
never_refused sent n PastEnd more all past = none_some past.1.1
  where
    none_some : {X : Type 0} {x : X} → None ≡ Some x → ⊥
    none_some e = cc
never_refused sent n NothingMissing more all none = let few : n ≤ 1 = none.2 in omega arith
never_refused sent n HeldBelow more all held = false≢true held.3.3

pub opened_lines : (s : State) (n : ℕ) → 1 < n → Fits s ([] ++ Skip n ∷ [])
    → Fits s (opened_at n)
opened_lines s n more fits = subst (λ (xs : List Input). Fits s xs) (sym (opened_some n more)) fits

pub opened_first : (s : State) (n : ℕ) → n ≤ 1 → Fits s [] → Fits s (opened_at n)
opened_first s n few fits = subst (λ (xs : List Input). Fits s xs) (sym (opened_none n few)) fits

-- ---- what is put out then

pub shown_first : (keys : List ℕ) (opening : Opening) → 1 ≤ opening.number
    → IsPutOutFrom keys opening (opened_at opening.number) (put_first opening)
shown_first keys opening one =
    let n = opening.number in
    record {
      one = one;
      items = [];
      made = subst (λ (ms : List (List ℕ)). AreMadeAfter keys opening.messages ms [])
          (sym (ap (messages_brought n) (opened_before n) ∙ opened_messages n one))
          (made_none keys opening.messages);
      is = sym (ap (λ (xs : List Numbered). put_first opening ++ xs)
          (ap (λ (b : Bool). if b
          then end_item (front_of (before_skip_past n (opened_at n)) + 1) ∷ []
          else end_at (end_of (opened_at n)) (front_of (opened_at n) + 1))
          (opened_skip n)
          ∙ ap (λ (o : Option ℕ). end_at o (front_of (opened_at n) + 1)) (opened_end n))
          ∙ append-nil (put_first opening));
    }

-- ---- the normaliser

pub resumes : (snapshot : SnapshotContent) (old new : NormaliserState) (shown : List Item)
    (before after : List Numbered)
    → FitsOpened old from_start [] → 1 ≤ snapshot.number → length shown < snapshot.number
    → Fits new.lines (opened_at snapshot.number)
    → AllSent (opened_at snapshot.number) new.lines.sent
    → FitsEvents new.book (events_of snapshot.messages) → new.book.keys ≡ old.book.keys
    → AreShown new.book.keys snapshot.messages shown
    → new.slots ≡ old.slots → new.has_given_up ≡ old.has_given_up
    → after ≡ before ++ numbered_from (snapshot.number - length shown) shown
    → Resumes snapshot old new before after
resumes snapshot old new shown before after fits one places lines all book keys are slots given put
    =
    let n = snapshot.number in
    let front = opened_front n one in
    let sent = all_sent_is (opened_at n) new.lines.sent all in
    let was = all_sent_is [] old.lines.sent fits.all_sent in
    record {
      shown = shown;
      are = subst (λ (ks : List ℕ). AreShown ks snapshot.messages shown) keys are;
      places = places;
      put = put;
      fits = record {
        lines = lines;
        all_sent = all;
        from = (one, omega arith);
        given_up = given ∙ fits.given_up ∙ sym (opened_skip n);
        session = λ going. record {
          slots = record {
            each = λ m past.
                ap (λ (s : List MessageSlot). stored_at s m) slots
                ∙ (fits.session (sym given ∙ going)).slots.each m (omega arith)
                ∙ ap (λ (o : Option (List ℕ)). option_map kept_bytes o)
                (sym (opened_message n m (omega arith)));
            beyond = λ m far. opened_message n m (omega arith);
          };
          book = subst (λ (ms : List (List ℕ)). FitsEvents new.book (events_of ms))
              (sym (ap (λ (ms : List (List ℕ)). snapshot.messages ++ ms) (opened_messages n one)
              ∙ append-nil snapshot.messages)) book;
        };
      };
    }
