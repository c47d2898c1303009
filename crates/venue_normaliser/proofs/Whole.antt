-- What a call puts out, of packets and skips.
use Rattle.std.proofs.Common.{◌≡◌, ℕ, ◌+◌, ◌<◌, Bool, true, false, List, [], ◌∷◌, ◌++◌, length, None, Result, Ok, refl, sym, ap, subst, ◌∙◌, arith, inl, inr}
use Rattle.std.specs.Prelude.{◌⊎◌}
use Rattle.std.proofs.lemmas.Bool.{false≢true}
use Rattle.feed_types.specs.declared.item.Numbered.{Numbered}
use Rattle.feed_types.specs.declared.line.LineId.{LineId}
use Rattle.feed_types.specs.Sessions.{end_item}
use Rattle.mold_packet.specs.Content.{Content, IsContent, last_number}
use Rattle.itch_book.specs.Books.{FitsEvents}
use Rattle.line_arbiter.specs.declared.outcome.Outcome.{Outcome}
use Rattle.line_arbiter.specs.declared.outcome.LineFault.{LineFault}
use Rattle.line_arbiter.specs.Packets.{Arrival, Input, Arrived, Skip, arrival_of, brings, is_taken}
use Rattle.line_arbiter.specs.Streams.{front_of}
use Rattle.line_arbiter.specs.Outcomes.{IsOutcome}
use Rattle.line_arbiter.specs.Skips.{AllSent, MaySkip}
use Rattle.line_arbiter.specs.Fits.{Fits}
use Rattle.line_arbiter.specs.InOrder.{IsNextPacket, outcome_of_next}
use Rattle.venue_normaliser.specs.declared.message_slot.MessageSlot.{MessageSlot}
use Rattle.venue_normaliser.specs.Brought.{has_skip_past}
use Rattle.venue_normaliser.specs.Outputs.{Opening, from_start}
use Rattle.venue_normaliser.specs.Slots.{KeepsPacket, KeepsTaken, stored_at}
use Rattle.venue_normaliser.specs.States.{FitsOpened, NormaliserState, PutsOutFrom}
use Rattle.venue_normaliser.specs.Inside.{BringsPacket, PutsMany, PutsReady}
use Rattle.venue_normaliser.proofs.Taken.{front_grows, skip_arrived, skip_here, skip_stays}
use Rattle.venue_normaliser.proofs.Arriving.{arrival_keeps, untaken_keeps, was_taken}
use Rattle.venue_normaliser.proofs.PuttingOut.{finishes, puts_end, puts_nothing}
use Rattle.venue_normaliser.proofs.BringingPackets.{brings_next, brings_other}

-- ---- a call of take

pub record Takes (opening : Opening) (packets after : List Input) (old new : NormaliserState)
    (before out : List Numbered) : Type 0 where
  pub fits : FitsOpened new opening after
  pub output : PutsOutFrom old.book.keys opening packets after before out

pub takes_open : (line : LineId) (packet : Content) (answer : Result Outcome LineFault)
    (opening : Opening) (packets : List Input) (old mid new : NormaliserState) (out0 out1 out2 :
    List Numbered)
    → FitsOpened old opening packets → old.has_given_up ≡ false
    → BringsPacket line packet answer packets old mid out0 out1
    → ((packets : List Input) → Fits mid.lines packets → KeepsTaken mid.slots mid.lines.sent packets
    → PutsReady packets mid.slots mid.lines new.lines mid.book new.book out1 out2)
    → new ≡ record mid { lines = new.lines; book = new.book }
    → Takes opening packets (packets ++ arrival_of line packet answer ∷ []) old new out0 out2
takes_open line packet answer opening packets old mid new out0 out1 out2 fits going brings ready
    kept =
    let a : Arrival = record { line = line; packet = packet; answer = answer } in
    let after = packets ++ Arrived a ∷ [] in
    let none : has_skip_past opening.number packets ≡ false = sym fits.given_up ∙ going in
    let none' : has_skip_past opening.number after ≡ false =
    skip_arrived opening.number packets a ∙ none in
    let b = brings.session going in
    let r = ready after brings.lines b.slots in
    let grows = front_grows packets (Arrived a) in
    let low = fits.from.1 in
    let done = finishes opening old.lines.session old.lines.window old.lines.sent packets a
    mid.slots
    mid.lines new.lines old.book mid.book new.book out0 out1 out2 fits.from none brings.outcome
    (fits.session going).book b.from b.within b.ended b.puts r in
    let slots : new.slots ≡ mid.slots = ap (λ (s : NormaliserState). s.slots) kept in
    let given : new.has_given_up ≡ mid.has_given_up =
    ap (λ (s : NormaliserState). s.has_given_up) kept in
    record {
      fits = record {
        lines = r.lines;
        all_sent = r.all_sent;
        from = (fits.from.0, omega arith);
        given_up = given ∙ brings.given_up ∙ going ∙ sym none';
        session = λ _. record {
          slots = subst (λ (s : List MessageSlot). KeepsTaken s new.lines.sent after) (sym slots)
              r.slots;
          book = done.book;
        };
      };
      output = done.output;
    }

pub takes_over : (line : LineId) (packet : Content) (answer : Result Outcome LineFault)
    (opening : Opening) (packets : List Input) (old mid new : NormaliserState) (out0 out1 out2 :
    List Numbered)
    → FitsOpened old opening packets → old.has_given_up ≡ true
    → BringsPacket line packet answer packets old mid out0 out1
    → out2 ≡ out1
    → ((packets : List Input) → Fits mid.lines packets
    → Fits new.lines packets × AllSent packets new.lines.sent)
    → new ≡ record mid { lines = new.lines; book = new.book }
    → Takes opening packets (packets ++ arrival_of line packet answer ∷ []) old new out0 out2
takes_over line packet answer opening packets old mid new out0 out1 out2 fits over brings same
    dropped
    kept =
    let a : Arrival = record { line = line; packet = packet; answer = answer } in
    let after = packets ++ Arrived a ∷ [] in
    let some : has_skip_past opening.number packets ≡ true = sym fits.given_up ∙ over in
    let some' : has_skip_past opening.number after ≡ true =
    skip_stays opening.number packets (Arrived a) some in
    let grows = front_grows packets (Arrived a) in
    let low = fits.from.1 in
    let both = dropped after brings.lines in
    let given : new.has_given_up ≡ true =
    ap (λ (s : NormaliserState). s.has_given_up) kept ∙ brings.given_up ∙ over in
    record {
      fits = record {
        lines = both.0;
        all_sent = both.1;
        from = (fits.from.0, omega arith);
        given_up = given ∙ sym some';
        session = λ going. absurd (false≢true (sym going ∙ given));
      };
      output = puts_nothing old.book.keys opening packets (Arrived a) out0 out2 some
          (same ∙ brings.none over);
    }

both_cases : (b : Bool) → (b ≡ true) ⊎ (b ≡ false)
both_cases true = inl refl
both_cases false = inr refl

pub takes : (line : LineId) (packet : Content) (answer : Result Outcome LineFault)
    (opening : Opening) (packets : List Input) (old mid new : NormaliserState) (out0 out1 out2 :
    List Numbered)
    → FitsOpened old opening packets
    → BringsPacket line packet answer packets old mid out0 out1
    → ((packets : List Input) → Fits mid.lines packets → mid.has_given_up ≡ false
    → KeepsTaken mid.slots mid.lines.sent packets
    → PutsReady packets mid.slots mid.lines new.lines mid.book new.book out1 out2)
    → (mid.has_given_up ≡ true → (out2 ≡ out1) × (new.book ≡ mid.book)
    × ((packets : List Input) → Fits mid.lines packets
    → Fits new.lines packets × AllSent packets new.lines.sent))
    → new ≡ record mid { lines = new.lines; book = new.book }
    → Takes opening packets (packets ++ arrival_of line packet answer ∷ []) old new out0 out2
takes line packet answer opening packets old mid new out0 out1 out2 fits brings ready dropped kept =
    elim (both_cases old.has_given_up) [
      | inl over ↦
          let all = dropped (brings.given_up ∙ over) in
          takes_over line packet answer opening packets old mid new out0 out1 out2 fits over brings
          all.0
          all.2 kept
      | inr going ↦
          takes_open line packet answer opening packets old mid new out0 out1 out2 fits going brings
          (λ P lines slots. ready P lines (brings.given_up ∙ going) slots) kept
    ]

-- ---- a gap is given up

pub skips_fit : (opening : Opening) (packets : List Input) (n : ℕ) (old new : NormaliserState)
    → FitsOpened old opening packets → MaySkip packets n
    → Fits new.lines (packets ++ Skip n ∷ [])
    → AllSent (packets ++ Skip n ∷ []) new.lines.sent
    → new.has_given_up ≡ true
    → FitsOpened new opening (packets ++ Skip n ∷ [])
skips_fit opening packets n old new fits may lines all given =
    let grows = front_grows packets (Skip n) in
    let low = fits.from.1 in
    let past = may.past in
    record {
      lines = lines;
      all_sent = all;
      from = (fits.from.0, omega arith);
      given_up = given ∙ sym (skip_here opening.number packets n (omega arith));
      session = λ going. absurd (false≢true (sym going ∙ given));
    }

pub skips_output : (opening : Opening) (packets : List Input) (n : ℕ) (old : NormaliserState)
    (out0 out1 : List Numbered) → FitsOpened old opening packets → MaySkip packets n
    → (old.has_given_up ≡ true → out1 ≡ out0)
    → (old.has_given_up ≡ false → out1 ≡ out0 ++ end_item (front_of packets + 1) ∷ [])
    → PutsOutFrom old.book.keys opening packets (packets ++ Skip n ∷ []) out0 out1
skips_output opening packets n old out0 out1 fits may over ends = elim (both_cases
    old.has_given_up) [
      | inl was ↦ puts_nothing old.book.keys opening packets (Skip n) out0 out1
          (sym fits.given_up ∙ was) (over was)
      | inr going ↦ puts_end old.book.keys opening packets n out0 out1 fits.from.1
          (sym fits.given_up ∙ going) may (ends going)
    ]

-- ---- nothing came yet

pub begins : (s : NormaliserState) → Fits s.lines [] → s.lines.sent ≡ 0 → s.has_given_up ≡ false
    → ((m : ℕ) → 0 < m → stored_at s.slots m ≡ None) → FitsEvents s.book []
    → FitsOpened s from_start []
begins s lines sent going slots book = record {
  lines = lines;
  all_sent = ap (λ (n : ℕ). n + 1) sent;
  from = (omega arith, omega arith);
  given_up = going;
  session = λ _. record {
    slots = record {
      each = λ m past. slots m (omega arith);
      beyond = λ m far. refl;
    };
    book = book;
  };
}

-- ---- what taking a packet brings

pub packet_next : (line : LineId) (packet : Content) (opening : Opening) (packets : List Input)
    (old new : NormaliserState) (out0 out1 : List Numbered)
    → FitsOpened old opening packets → old.has_given_up ≡ false → IsContent packet
    → IsNextPacket old.lines.session old.lines.window old.lines.sent packets packet
    → IsOutcome old.lines.session old.lines.window old.lines.sent packets packet
    (Ok (outcome_of_next packet))
    → Fits new.lines (packets ++ arrival_of line packet (Ok (outcome_of_next packet)) ∷ [])
    → new.lines.sent ≡ last_number packet
    → new ≡ record old { lines = new.lines; book = new.book }
    → PutsMany packet.number packet.messages old.book new.book out0 out1
    → BringsPacket line packet (Ok (outcome_of_next packet)) packets old new out0 out1
packet_next line packet opening packets old new out0 out1 fits going content next outcome lines
    moved kept
    puts =
    let a : Arrival = record {
      line = line;
      packet = packet;
      answer = Ok (outcome_of_next packet);
    } in
    record {
      outcome = outcome;
      lines = lines;
      given_up = ap (λ (s : NormaliserState). s.has_given_up) kept;
      session = λ _. brings_next old.lines.session old.lines.window opening packets a old new out0
          out1 fits
          going refl content.from_one next moved (ap (λ (s : NormaliserState). s.slots) kept) puts;
      none = λ over. absurd (false≢true (sym going ∙ over));
    }

pub packet_any : (line : LineId) (packet : Content) (answer : Result Outcome LineFault)
    (opening : Opening) (packets : List Input) (old new : NormaliserState)
    (out0 out1 : List Numbered) → FitsOpened old opening packets
    → IsOutcome old.lines.session old.lines.window old.lines.sent packets packet answer
    → Fits new.lines (packets ++ arrival_of line packet answer ∷ [])
    → new.lines.sent ≡ old.lines.sent
    → (is_taken answer ≡ true → KeepsPacket old.lines.sent packet old.slots new.slots)
    → (is_taken answer ≡ false → new.slots ≡ old.slots)
    → length new.slots ≡ length old.slots
    → length old.slots ≡ old.lines.window
    → new ≡ record old { lines = new.lines; slots = new.slots }
    → out1 ≡ out0
    → BringsPacket line packet answer packets old new out0 out1
packet_any line packet answer opening packets old new out0 out1 fits outcome lines same taken
    others count
    wide kept out =
    let a : Arrival = record { line = line; packet = packet; answer = answer } in
    let keeps : old.has_given_up ≡ false
    → KeepsTaken new.slots old.lines.sent (packets ++ Arrived a ∷ []) =
    λ going. elim (both_cases (is_taken answer)) [
      | inl was ↦
          let within = (was_taken old.lines.session old.lines.window old.lines.sent packets packet
          answer outcome was).within in
          arrival_keeps old.slots new.slots old.lines.sent packets a was
          (omega arith) count (fits.session going).slots (taken was)
      | inr not ↦
          subst (λ (s : List MessageSlot). KeepsTaken s old.lines.sent (packets ++ Arrived a ∷ []))
          (sym (others not))
          (untaken_keeps old.slots old.lines.sent packets a not (fits.session going).slots)
    ] in
    record {
      outcome = outcome;
      lines = lines;
      given_up = ap (λ (s : NormaliserState). s.has_given_up) kept;
      session = λ going. brings_other old.lines.session old.lines.window opening packets a old new
          out0 out1
          fits going outcome same (keeps going) (ap (λ (s : NormaliserState). s.book) kept) out;
      none = λ _. out;
    }
