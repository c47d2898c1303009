-- Where messages were given up, a venue's items are its sessions' parts.
use Rattle.std.proofs.Common.{◌≡◌, ℕ, suc, ◌+◌, ◌-◌, ◌<◌, List, [], ◌∷◌, ◌++◌, length, drop, Some, refl, sym, ap, subst, ◌∙◌, arith}
use Rattle.std.specs.Prelude.{slice_get}
use Rattle.std.specs.List.{AllByRecursion}
use Rattle.std.proofs.lemmas.Option.{slice_get_within}
use Rattle.feed_types.specs.declared.item.Numbered.{Numbered}
use Rattle.feed_types.specs.Prefix.{IsPrefix}
use Rattle.feed_types.specs.Sessions.{Session, IsSessionAt}
use Rattle.line_arbiter.specs.Packets.{Input, Arrived, Skip}
use Rattle.line_arbiter.specs.Streams.{closed_after, part_of, place_of, stream_of}
use Rattle.line_arbiter.specs.Answered.{IsAnswered, AreAnsweredAfter}
use Rattle.line_arbiter.specs.Genuine.{AreGenuine, IsGenuineIn}
use Rattle.line_arbiter.specs.OfSession.{SkipsWithin, part_in, parts_after, session_parts}
use Rattle.line_arbiter.specs.Histories.{Begun, History, all_begun, items_of, streams_of}
use Rattle.line_arbiter.specs.States.{ordinal_of}
use Rattle.line_arbiter.specs.laws.Arrivals.{all_push, genuine_grows}
use Rattle.line_arbiter.specs.laws.FitsHistory.{ordinal_is}
use Rattle.line_arbiter.specs.laws.OfSession.{part_is, part_of_session}
use Rattle.feed_steps.specs.SessionParts.{parts_of_sessions}
use Rattle.feed_types.specs.declared.genuine.Genuine.{Ghosts as Genuine}
use Rattle.feed_steps.specs.Premises.{BringExactly, SkipWithinSessions}
use Rattle.feed_steps.specs.Lanes.{FeedLanes}
use Rattle.venue_lines.specs.Cells.{AreGiven, AreGivenFrom, CellState, VenueLockInvariant}
use Rattle.venue_lines.specs.laws.Given.{given_genuine}
use Rattle.venue_lines.proofs.Histories.{sent_begins}

-- ---- one session

module _ {S : Type 0} (premise : Genuine S) (venue window ordinal : ℕ)
    (all : List Session) (s : Session)
    (names : BringExactly premise venue all) (at : IsSessionAt all ordinal s) (name : List ℕ) where
  -- what came so far: what was taken is genuine, and the skips go on within the session
  record CameSoFar (packets : List Input) : Type 0 where
    genuine : AreGenuine premise.carries premise.ends venue ordinal packets
    within : AllByRecursion (SkipsWithin s) packets

  part : (packets : List Input) → CameSoFar packets → part_of packets ≡ part_in s packets
  part packets so_far = part_is s packets (part_of_session premise.sessions
      premise.carries premise.ends venue
      ordinal all s packets names at so_far.genuine so_far.within)

  abbrev genuine_in : Input → Type 0
  genuine_in x = IsGenuineIn premise.carries premise.ends venue ordinal name x

  more : (before : List Input) (x : Input) → CameSoFar before → IsAnswered name window before x
      → genuine_in x
      → SkipsWithin s x → CameSoFar (before ++ x ∷ [])
  more before x so_far right genuine within = record {
    genuine = genuine_grows premise.carries premise.ends venue ordinal window name before
        x so_far.genuine genuine
        right;
    within = all_push (SkipsWithin s) before x so_far.within within;
  }

  closed_are : (before rest : List Input) → CameSoFar before
      → AreAnsweredAfter name window before rest
      → AllByRecursion (λ x. genuine_in x) rest → AllByRecursion (SkipsWithin s) rest
      → closed_after before rest ≡ parts_after s before rest
  closed_are before [] so_far answered genuine within = refl
  closed_are before (Arrived a ∷ rest) so_far answered genuine within =
      closed_are (before ++ Arrived a ∷ []) rest
      (more before (Arrived a) so_far answered.0 genuine.0 within.0) answered.1 genuine.1 within.1
  closed_are before (Skip n ∷ rest) so_far answered genuine within =
      let later = closed_are (before ++ Skip n ∷ []) rest
      (more before (Skip n) so_far answered.0 genuine.0 within.0) answered.1 genuine.1 within.1 in
      ap (λ (xs : List Numbered). xs ++ closed_after (before ++ Skip n ∷ []) rest)
      (part before so_far)
      ∙ ap (λ (xs : List Numbered). part_in s before ++ xs) later

pub stream_parts : {S : Type 0} (premise : Genuine S) (venue window ordinal : ℕ)
    (all : List Session) (s : Session)
    → BringExactly premise venue all → IsSessionAt all ordinal s → (b : Begun)
    → AreGiven premise venue window ordinal b → AllByRecursion (SkipsWithin s) b.packets
    → stream_of b.packets ≡ session_parts s b.packets
stream_parts premise venue window ordinal all s names at b given within =
    let closed = closed_are premise venue window ordinal all s names at b.name [] b.packets
    (record { genuine = tt; within = tt }) given.answered given.genuine within in
    let present = part premise venue window ordinal all s names at b.name b.packets
    (record { genuine = given_genuine premise venue window ordinal b given; within = within }) in
    ap (λ (xs : List Numbered). xs ++ part_of b.packets) closed
    ∙ ap (λ (xs : List Numbered). parts_after s [] b.packets ++ xs) present

-- ---- all sessions

no_parts : (ss : List Session) → parts_of_sessions ss [] ≡ []
no_parts [] = refl
no_parts (s ∷ ss) = refl

module _ {S : Type 0} (premise : Genuine S) (venue window : ℕ) (all : List Session)
    (names : BringExactly premise venue all) where
  -- these are the sessions from the ordinal on
  abbrev AreFrom : ℕ → List Session → Type 0
  AreFrom ordinal ss = (i : ℕ) (s : Session) → slice_get ss i ≡ Some s
      → IsSessionAt all (ordinal + i) s

  later : (ordinal : ℕ) (s : Session) (ss : List Session) → AreFrom ordinal (s ∷ ss)
      → AreFrom (ordinal + 1) ss
  later ordinal s ss from i t is =
      subst (λ (n : ℕ). IsSessionAt all n t) (omega arith) (from (suc i) t is)

  first : (ordinal : ℕ) (s : Session) (ss : List Session) → AreFrom ordinal (s ∷ ss)
      → IsSessionAt all ordinal s
  first ordinal s ss from = subst (λ (n : ℕ). IsSessionAt all n s) (omega arith) (from 0 s refl)

  items_parts : (ordinal : ℕ) (ss : List Session) (bs : List Begun) (b : Begun) → AreFrom ordinal ss
      → length bs < length ss → AreGivenFrom premise venue window ordinal bs b
      → SkipWithinSessions ss (bs ++ b ∷ [])
      → items_of (bs ++ b ∷ []) ≡ parts_of_sessions ss (bs ++ b ∷ [])
  items_parts ordinal [] bs b from below given within = absurd (omega arith)
  items_parts ordinal (s ∷ ss) [] b from below given within =
      let one = stream_parts premise venue window ordinal all s names
      (first ordinal s ss from) b given within.0 in
      ap (λ (xs : List Numbered). xs ++ []) one
      ∙ ap (λ (xs : List Numbered). session_parts s b.packets ++ xs) (sym (no_parts ss))
  items_parts ordinal (s ∷ ss) (x ∷ bs) b from below given within =
      let one = stream_parts premise venue window ordinal all s names
      (first ordinal s ss from) x given.0 within.0 in
      let rest = items_parts (ordinal + 1) ss bs b (later ordinal s ss from)
      (omega arith) given.2 within.1 in
      ap (λ (xs : List Numbered). xs ++ items_of (bs ++ b ∷ [])) one
      ∙ ap (λ (xs : List Numbered). session_parts s x.packets ++ xs) rest

  pub history_parts : (h : History) → AreGivenFrom premise venue window 1 h.earlier h.present
      → length h.earlier < length all → SkipWithinSessions all (all_begun h)
      → streams_of h ≡ parts_of_sessions all (all_begun h)
  history_parts h given below within =
      items_parts 1 all h.earlier h.present
      (λ i s is. (omega arith, subst (λ (n : ℕ). slice_get all n ≡ Some s) (omega arith) is)) below
      given within

-- ---- what was sent

pub sent_parts : {S : Type 0} (premise : Genuine S) (lanes : FeedLanes)
    (c : CellState) (all : List Session)
    (k : VenueLockInvariant premise lanes c) → BringExactly premise c.arbiter.venue all
    → SkipWithinSessions all (all_begun k.history)
    → IsPrefix c.lane.items (parts_of_sessions all (all_begun k.history))
sent_parts premise lanes c all k names within =
    let h = k.history in
    let found = (names.named (ordinal_of c.arbiter) c.arbiter.session).0 k.named in
    let there = slice_get_within all (ordinal_of c.arbiter - 1) found.0 found.1.1 in
    let ordinal = ordinal_is h k.fits.history in
    let parts = history_parts premise c.arbiter.venue c.arbiter.window all names h k.given
    (omega arith) within in
    record {
      rest = drop (place_of h.present.packets c.arbiter.sent) (stream_of h.present.packets);
      is = sym parts ∙ sent_begins c h k.fits;
    }
