-- Packets of a session give the session.
use Rattle.std.proofs.Common.{◌≡◌, ℕ, ◌+◌, ◌-◌, ◌<◌, List, [], ◌∷◌, ◌++◌, length, refl, sym, ap, subst, ◌∙◌, arith, append_assoc, append-nil}
use Rattle.std.specs.Prelude.{slice_get}
use Rattle.std.specs.List.{AllByRecursion}
use Rattle.feed_types.specs.declared.item.Item.{Item}
use Rattle.feed_types.specs.declared.item.Numbered.{Numbered}
use Rattle.feed_types.specs.Sessions.{Session, IsItemAt}
use Rattle.line_arbiter.specs.Packets.{Input, Arrived, Skip}
use Rattle.line_arbiter.specs.Streams.{closed_after, front_of, part_of}
use Rattle.line_arbiter.specs.Answered.{IsAnswered, AreAnswered, AreAnsweredAfter}
use Rattle.line_arbiter.specs.Genuine.{IsGenuineAt, IsGenuineIn, AreGenuine}
use Rattle.line_arbiter.specs.OfSession.{part_in, parts_after, IsAcceptedInput, IsInputOf, IsOfSession, AreOfSession, GivesSession, SkipsWithin}
use Rattle.mold_packet.specs.Content.{Content, IsContent}
use Rattle.line_arbiter.specs.laws.Arrivals.{all_push, genuine_grows}
use Rattle.line_arbiter.specs.laws.Genuine.{carried_may, end_may}
use Rattle.line_arbiter.specs.laws.OfSession.{IsPartOf, front_within, part_is}
use Rattle.line_arbiter.specs.laws.Accepting.{accepted}
use Rattle.line_arbiter.specs.laws.Bringing.{number_in}

-- what the session alone may carry, as two relations
abbrev carries_alone : Session → ℕ → ℕ → ℕ → Item → Type 0
carries_alone s venue ordinal m item = IsItemAt s m item

abbrev ends_alone : Session → ℕ → ℕ → ℕ → Type 0
ends_alone s venue ordinal e = e ≡ length s.items + 1

-- a packet of the session is genuine where the session's items may be carried
pub genuine_of : (carries : ℕ → ℕ → ℕ → Item → Type 0) (ends : ℕ → ℕ → ℕ → Type 0)
    (venue ordinal : ℕ) (s : Session)
    → ((m : ℕ) (item : Item) → IsItemAt s m item → carries venue ordinal m item)
    → ends venue ordinal (length s.items + 1)
    → (p : Content) → IsContent p → IsOfSession s p → IsGenuineAt carries ends venue ordinal p
genuine_of carries ends venue ordinal s may last p content of = record {
  messages = λ m h.
      let within = number_in p m h in
      let one = content.from_one in
      let at : p.number + (m - p.number) - 1 ≡ m - 1 = omega arith in
      let lt : m - p.number < length p.messages = omega arith in
      may m _ (omega arith, ap (slice_get s.items) (sym at) ∙ of.messages (m - p.number) lt);
  end = λ is. subst (λ (n : ℕ). ends venue ordinal n) (sym (of.end is)) last;
}

-- what came so far is the session's, and none of it was refused
record IsOf (s : Session) (packets : List Input) : Type 0 where
  genuine : AreGenuine (carries_alone s) (ends_alone s) 0 0 packets
  accepted : AllByRecursion (IsAcceptedInput s.name) packets
  within : AllByRecursion (SkipsWithin s) packets

part : (s : Session) (packets : List Input) → IsOf s packets → IsPartOf s packets
part s packets of = record {
  taken = record {
    item = λ m item h message.
        carried_may (carries_alone s) (ends_alone s) 0 0 packets m item of.genuine h message;
    end = λ e h. end_may (carries_alone s) (ends_alone s) 0 0 packets e of.genuine h;
  };
  within = of.within;
}

accepted_input : (s : Session) (window : ℕ) (packets : List Input) (x : Input) → IsInputOf s x
    → IsAnswered s.name window packets x → IsOf s packets → IsAcceptedInput s.name x
accepted_input s window packets (Skip n) may right of = tt
accepted_input s window packets (Arrived a) may right of =
    λ e. accepted s packets (part s packets of) window right.sent a.packet a.answer right.content
    (may e) right.outcome

genuine_in : (s : Session) (window : ℕ) (packets : List Input) (x : Input) → IsInputOf s x
    → IsAnswered s.name window packets x
    → IsGenuineIn (carries_alone s) (ends_alone s) 0 0 s.name x
genuine_in s window packets (Skip n) may right = tt
genuine_in s window packets (Arrived a) may right =
    λ e. genuine_of (carries_alone s) (ends_alone s) 0 0 s
    (λ m item h. h) refl a.packet right.content
    (may e)

within_input : (s : Session) (x : Input) → IsInputOf s x → SkipsWithin s x
within_input s (Arrived a) may = tt
within_input s (Skip n) may = may

-- one more packet or skip
more : (s : Session) (window : ℕ) (packets : List Input) (x : Input) → IsInputOf s x
    → IsAnswered s.name window packets x → IsOf s packets → IsOf s (packets ++ x ∷ [])
more s window packets x may right of = record {
  genuine =
      genuine_grows (carries_alone s) (ends_alone s) 0 0 window s.name packets x of.genuine
      (genuine_in s window packets x may right) right;
  accepted =
      all_push (IsAcceptedInput s.name) packets x of.accepted
      (accepted_input s window packets x may right of);
  within = all_push (SkipsWithin s) packets x of.within (within_input s x may);
}

is_of : (s : Session) (window : ℕ) (packets : List Input) → AreAnswered s.name window packets
    → AreOfSession s packets → IsOf s packets
is_of s window packets all of =
    after [] packets (record { genuine = tt; accepted = tt; within = tt }) all of
  where
    after : (before rest : List Input) → IsOf s before
        → AreAnsweredAfter s.name window before rest → AreOfSession s rest → IsOf s (before ++ rest)
    after before [] so_far all of =
        subst (λ (xs : List Input). IsOf s xs) (sym (append-nil before)) so_far
    after before (x ∷ rest) so_far all of =
        subst (λ (xs : List Input). IsOf s xs) (append_assoc before (x ∷ []) rest)
        (after (before ++ x ∷ []) rest (more s window before x of.0 all.0 so_far) all.1 of.1)

-- each closed part is the session's
closed_are : (s : Session) (window : ℕ) (before rest : List Input) → IsOf s before
    → AreAnsweredAfter s.name window before rest → AreOfSession s rest
    → closed_after before rest ≡ parts_after s before rest
closed_are s window before [] own all of = refl
closed_are s window before (Arrived a ∷ rest) own all of =
    closed_are s window (before ++ Arrived a ∷ []) rest
    (more s window before (Arrived a) of.0 all.0 own) all.1 of.1
closed_are s window before (Skip n ∷ rest) own all of =
    let later =
    closed_are s window (before ++ Skip n ∷ []) rest (more s window before (Skip n) of.0 all.0 own)
    all.1 of.1 in
    ap (λ (xs : List Numbered). xs ++ closed_after (before ++ Skip n ∷ []) rest)
    (part_is s before (part s before own))
    ∙ ap (λ (xs : List Numbered). part_in s before ++ xs) later

pub gives_session : (s : Session) (window : ℕ) (packets : List Input)
    → AreAnswered s.name window packets → AreOfSession s packets → GivesSession s packets
gives_session s window packets all of =
    let own = is_of s window packets all of in
    let present = part_is s packets (part s packets own) in
    let none : IsOf s [] = record { genuine = tt; accepted = tt; within = tt } in
    record {
      front = front_within s packets (part s packets own);
      part = present;
      stream =
          ap (λ (xs : List Numbered). xs ++ part_of packets)
          (closed_are s window [] packets none all of)
          ∙ ap (λ (xs : List Numbered). parts_after s [] packets ++ xs) present;
      accepted = own.accepted;
      whole = λ complete.
          let last = (part s packets own).taken.end (front_of packets + 1) complete in omega arith;
    }
