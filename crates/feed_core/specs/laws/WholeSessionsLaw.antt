-- Where the events give nothing up at a venue, its sessions are whole.
use Rattle.std.proofs.Common.{◌≡◌, ℕ, ◌+◌, ◌≤◌, Bool, true, List, [], ◌∷◌, ◌++◌, length, map, take, Option, Some, refl, sym, ap, subst, ◌∙◌, arith, append_assoc, append-nil, length-append}
use Rattle.std.specs.Prelude.{All, ◌&&◌, ◌==◌, is_some, if◌then◌else◌}
use Rattle.std.specs.List.{AllByRecursion}
use Rattle.std.proofs.lemmas.List.Elements.{All-from_recursion}
use Rattle.feed_types.specs.declared.item.Numbered.{Numbered}
use Rattle.feed_types.specs.declared.item.Item.{Item}
use Rattle.feed_types.specs.Sessions.{Session, end_item, numbered_from, whole_session, whole_sessions}
use Rattle.line_arbiter.specs.Packets.{Input, Arrived, Skip, end_of}
use Rattle.line_arbiter.specs.Streams.{IsComplete, closed_of, front_of, part_of, stream_of}
use Rattle.line_arbiter.specs.Skips.{IsArrival}
use Rattle.line_arbiter.specs.OfSession.{GivesSession, SkipsWithin, session_stream}
use Rattle.line_arbiter.specs.Histories.{Begun, History, all_begun, items_of, names_of}
use Rattle.line_arbiter.specs.laws.Parts.{first_one, one_part, whole_part}
use Rattle.feed_steps.specs.declared.event.Event.{Event}
use Rattle.feed_steps.specs.declared.event.Event.TheVariants as event
use Rattle.feed_core.specs.Worlds.{Venue, session_count, session_sent}
use Rattle.feed_core.specs.VenueHalf.{BringOnly, IsAmong, IsBegunAs, AreSession, AreVenueItems}
use Rattle.feed_core.specs.WholeSessions.{SkipsOnly, GiveNothingUp, SkipWithin, AreWhole}

-- ---- what the events say of the skips of a venue

module _ (May : ℕ → Type 0) (Q : Input → Type 0) (events : List Event) (place : ℕ)
    (all : AllByRecursion (SkipsOnly May place) events) (arrived : (a : _) → Q (Arrived a))
    (skipped : (n : ℕ) → May n → Q (Skip n)) where
  one : (x : Input) → IsAmong events place x → Q x
  one (Arrived a) among = arrived a
  one (Skip n) among =
      let each : All (SkipsOnly May place) events =
      All-from_recursion (SkipsOnly May place) events all in
      let may : SkipsOnly May place (event.Skip place n) =
      subst (SkipsOnly May place) among.2 (each among.0 (event.Skip place n) among.1) in
      skipped n (may refl)

  each_input : (packets : List Input) → AllByRecursion (IsAmong events place) packets
      → AllByRecursion Q packets
  each_input [] among = tt
  each_input (x ∷ packets) among = (one x among.0, each_input packets among.1)

  pub each_begun : (bs : List Begun)
      → AllByRecursion (λ b. AllByRecursion (IsAmong events place) b.packets) bs
      → AllByRecursion (λ b. AllByRecursion Q b.packets) bs
  each_begun [] among = tt
  each_begun (b ∷ bs) among = (each_input b.packets among.0, each_begun bs among.1)

abbrev AreArrivals : List Begun → Type 0
AreArrivals bs = AllByRecursion (λ b. AllByRecursion IsArrival b.packets) bs

nothing_skipped : (events : List Event) (place : ℕ) (all : List Numbered) (h : History)
    → AreVenueItems events place all h → GiveNothingUp place events → AreArrivals (all_begun h)
nothing_skipped events place all h are none =
    each_begun (λ number. ⊥) IsArrival events place none (λ a. tt) (λ n no. absurd no) (all_begun h)
    are.skips

pub skips_within : (events : List Event) (place : ℕ) (all : List Numbered) (h : History)
    → AreVenueItems events place all h → (s : Session) → SkipWithin s place events
    → AllByRecursion (λ b. AllByRecursion (SkipsWithin s) b.packets) (all_begun h)
skips_within events place all h are s within =
    each_begun (λ number. number ≤ length s.items + 1) (SkipsWithin s) events place within (λ a. tt)
    (λ n may. may) (all_begun h) are.skips

-- ---- a session of one part

arrivals_within : (s : Session) (packets : List Input) → AllByRecursion IsArrival packets
    → AllByRecursion (SkipsWithin s) packets
arrivals_within s [] all = tt
arrivals_within s (Arrived a ∷ packets) all = (tt, arrivals_within s packets all.1)
arrivals_within s (Skip n ∷ packets) all = absurd all.0

take_whole : {X : Type 0} (xs : List X) → take (length xs) xs ≡ xs
take_whole [] = refl
take_whole (x ∷ xs) = ap (λ (ys : List _). x ∷ ys) (take_whole xs)

same : (n : ℕ) → (n == n) ≡ true
same n = grind (arith)

ended : (s : Session) (end : Option ℕ) (front : ℕ) → end ≡ Some (front + 1)
    → front ≡ length s.items
    → numbered_from 1 (take front s.items)
    ++ (if is_some end && (front == length s.items) then end_item (front + 1) ∷ [] else [])
    ≡ whole_session s
ended s end front is all =
    rw (is, all) (ap (λ (xs : List Item). numbered_from 1 xs
    ++ (if length s.items == length s.items then end_item (length s.items + 1) ∷ [] else []))
    (take_whole s.items)
    ∙ ap (λ (b : Bool). numbered_from 1 s.items
    ++ (if b then end_item (length s.items + 1) ∷ [] else [])) (same (length s.items)))

pub whole : (s : Session) (packets : List Input) → AllByRecursion IsArrival packets
    → GivesSession s packets → IsComplete packets → stream_of packets ≡ whole_session s
whole s packets all gives complete =
    whole_part s packets all gives
    ∙ ended s (end_of packets) (front_of packets) complete (gives.whole complete)

to_gap : (s : Session) (packets : List Input) → AllByRecursion IsArrival packets
    → GivesSession s packets
    → stream_of packets ≡ session_stream s 1 (front_of packets) (end_of packets)
to_gap s packets all gives =
    one_part packets all ∙ gives.part
    ∙ ap (λ (n : ℕ). session_stream s n (front_of packets) (end_of packets)) (first_one packets all)

-- ---- the sessions of a venue

all_but_last : (P : Begun → Type 0) (bs : List Begun) (b : Begun) → AllByRecursion P (bs ++ b ∷ [])
    → AllByRecursion P bs × P b
all_but_last P [] b all = (tt, all.0)
all_but_last P (c ∷ bs) b all =
    let rest = all_but_last P bs b all.1 in ((all.0, rest.0), rest.1)

are_whole : (s : Session) (h : History) → AreArrivals (all_begun h)
    → AllByRecursion (λ b. IsComplete b.packets) h.earlier → AreSession s h → AreWhole s h
are_whole s h arrivals over are =
    let all = all_but_last (λ b. AllByRecursion IsArrival b.packets) h.earlier h.present arrivals in
    let each =
    all_but_last (λ b. IsBegunAs s b → GivesSession s b.packets) h.earlier h.present are in
    record {
      earlier = wholes h.earlier all.0 over each.0;
      present = λ name.
          (let gives = each.1 (record {
            name = name;
            within = arrivals_within s h.present.packets all.1;
          }) in
          (gives, to_gap s h.present.packets all.1 gives));
    }
  where
    wholes : (bs : List Begun) → AreArrivals bs → AllByRecursion (λ b. IsComplete b.packets) bs
        → AllByRecursion (λ b. IsBegunAs s b → GivesSession s b.packets) bs
        → AllByRecursion (λ b. b.name ≡ s.name → GivesSession s b.packets
        × (stream_of b.packets ≡ whole_session s)) bs
    wholes [] arrivals over all = tt
    wholes (b ∷ bs) arrivals over all = (
      λ name. (let given = all.0 (record {
        name = name;
        within = arrivals_within s b.packets arrivals.0;
      }) in
          (given, whole s b.packets arrivals.0 given over.0)),
      wholes bs arrivals.1 over.1 all.1,
    )

pub session_whole : (events : List Event) (place : ℕ) (all : List Numbered) (h : History)
    → AreVenueItems events place all h → GiveNothingUp place events
    → (s : Session) → BringOnly place events s → AreWhole s h
session_whole events place all h are none s may =
    are_whole s h (nothing_skipped events place all h are none) are.sequence.over
    (are.session s may)

-- ---- session by session

not_none : (f : Session → List ℕ) (ss : List Session) (t : Session) (e : map f (ss ++ t ∷ []) ≡ [])
    → ⊥
not_none f [] t e = cc
not_none f (s ∷ ss) t e = cc

not_none_begun : (bs : List Begun) (b : Begun) (e : [] ≡ map (λ (x : Begun). x.name) (bs ++ b ∷ []))
    → ⊥
not_none_begun [] b e = cc
not_none_begun (c ∷ bs) b e = cc

head_is : {X : Type 0} (x y : X) (xs ys : List X) → x ∷ xs ≡ y ∷ ys → x ≡ y
head_is x y xs ys e = cc

tail_is : {X : Type 0} (x y : X) (xs ys : List X) → x ∷ xs ≡ y ∷ ys → xs ≡ ys
tail_is x y xs ys e = cc

-- what is known of a session that was brought: a session that is over and has its name is whole;
-- the present one, if it has the name, is up to its first gap
Known : Session → List Begun → Begun → Type 0
Known s bs b =
    AllByRecursion (λ c. c.name ≡ s.name → stream_of c.packets ≡ whole_session s) bs
    × (b.name ≡ s.name → stream_of b.packets
    ≡ session_stream s 1 (front_of b.packets) (end_of b.packets))

by_session : (Brought : Session → Type 0) (bs : List Begun) (b : Begun) (ss : List Session)
    (t : Session) → ((s : Session) → Brought s → Known s bs b)
    → map (λ (s : Session). s.name) (ss ++ t ∷ []) ≡ map (λ (x : Begun). x.name) (bs ++ b ∷ [])
    → AllByRecursion Brought (ss ++ t ∷ [])
    → items_of (bs ++ b ∷ [])
    ≡ whole_sessions ss ++ session_stream t 1 (front_of b.packets) (end_of b.packets)
unfolding Known
by_session Brought [] b [] t known e all =
    append-nil (stream_of b.packets) ∙ (known t all.0).1 (sym (head_is t.name b.name [] [] e))
by_session Brought [] b (s ∷ ss) t known e all =
    absurd (not_none (λ (s : Session). s.name) ss t (tail_is s.name b.name _ [] e))
by_session Brought (c ∷ bs) b [] t known e all =
    absurd (not_none_begun bs b (tail_is t.name c.name [] _ e))
by_session Brought (c ∷ bs) b (s ∷ ss) t known e all =
    ap (λ (xs : List Numbered). xs ++ items_of (bs ++ b ∷ []))
    ((known s all.0).0.0 (sym (head_is s.name c.name _ _ e)))
    ∙ ap (λ (xs : List Numbered). whole_session s ++ xs)
    (by_session Brought bs b ss t (λ u h. let k = known u h in (k.0.1, k.1))
    (tail_is s.name c.name _ _ e) all.1)
    ∙ sym (append_assoc (whole_session s) (whole_sessions ss) _)

known_of : (s : Session) (h : History) → AreWhole s h → Known s h.earlier h.present
unfolding Known
known_of s h are = (wholes h.earlier are.earlier, λ name. (are.present name).1)
  where
    wholes : (bs : List Begun)
        → AllByRecursion (λ b. b.name ≡ s.name → GivesSession s b.packets
        × (stream_of b.packets ≡ whole_session s)) bs
        → AllByRecursion (λ c. c.name ≡ s.name → stream_of c.packets ≡ whole_session s) bs
    wholes [] all = tt
    wholes (b ∷ bs) all = (λ name. (all.0 name).1, wholes bs all.1)

pub sessions_whole : (events : List Event) (place : ℕ) (all : List Numbered) (h : History)
    → AreVenueItems events place all h → GiveNothingUp place events
    → (earlier : List Session) (present : Session)
    → map (λ (s : Session). s.name) (earlier ++ present ∷ []) ≡ names_of h
    → AllByRecursion (BringOnly place events) (earlier ++ present ∷ [])
    → all ≡ whole_sessions earlier
    ++ session_stream present 1 (front_of h.present.packets) (end_of h.present.packets)
sessions_whole events place all h are none earlier present names brought =
    are.items
    ∙ by_session (BringOnly place events) h.earlier h.present earlier present
    (λ t may. known_of t h (session_whole events place all h are none t may)) names brought

-- ---- the number of the last item sent is the count

pub sent_counted : (v : Venue) → AllByRecursion IsArrival v.history.present.packets
    → session_sent v ≡ session_count v
sent_counted v all =
    let first = first_one v.history.present.packets all in
    let one = ap (λ (xs : List Numbered). length xs) (one_part v.history.present.packets all) in
    let both =
    length-append (closed_of v.history.present.packets) (part_of v.history.present.packets) in
    omega arith
