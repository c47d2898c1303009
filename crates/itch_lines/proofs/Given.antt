-- What a normaliser was given, section by section.
use Rattle.std.proofs.Common.{◌≡◌, ℕ, List, [], ◌∷◌, ◌++◌, Bool, true, false, not, refl, sym, ap, subst, ◌∙◌, inl, inr, arith}
use Rattle.std.specs.Prelude.{◌==◌, IfSome, Option, Some, None, is_some, if◌then◌else◌}
use Rattle.std.proofs.lemmas.Bool.Decides.{nat_tests}
use Rattle.feed_types.specs.declared.line.LineId.{LineId}
use Rattle.feed_types.specs.declared.item.Numbered.{Numbered}
use Rattle.line_arbiter.specs.Fits.{cursors_of}
use Rattle.line_arbiter.specs.Packets.{Input, Skip, arrival_of}
use Rattle.line_arbiter.specs.Streams.{gap_of}
use Rattle.line_arbiter.specs.declared.arbiter.ArbiterStatus.{ArbiterStatus}
use Rattle.mold_packet.specs.Content.{Content}
use Rattle.mold_packet.specs.declared.request.Request.{Request}
use Rattle.venue_normaliser.specs.Brought.{has_skip}
use Rattle.venue_normaliser.specs.Ends.{read_as}
use Rattle.venue_normaliser.specs.Outputs.{IsPutOut}
use Rattle.venue_normaliser.specs.States.{FitsPackets, KeepsItsBook, NormaliserState}
use Rattle.itch_lines.specs.Cells.{HasBeenGiven, ItchState}
use Rattle.itch_lines.specs.Lines.{IsPossibleSkip}
use Rattle.itch_lines.specs.Sections.{BeginsOrKeeps, BringsSkip, MakesOfDatagram, gap_asked, since_begun}
use Rattle.itch_lines.specs.Shown.{MayShow, ShowsNormaliser, gap_at_end}
use Rattle.itch_lines.specs.declared.itch_status.ItchStatus.{ItchStatus}
use Rattle.itch_lines.proofs.Bringing.{none_put_out}

-- the symbols are the same where the next session begins, or doesn't
begun_keys : (names : List (List ℕ)) (p : Content) (renewed : Bool)
    (before between : NormaliserState) → BeginsOrKeeps names p renewed before between
    → between.book.keys ≡ before.book.keys
begun_keys names p true before between b = b.kept.keys
begun_keys names p false before between b = ap (λ (n : NormaliserState). n.book.keys) b.1

pub given_after : (names : List (List ℕ)) (line : LineId) (bytes : List ℕ)
    (before after : NormaliserState) (was : HasBeenGiven before) (made : List (List ℕ))
    → KeepsItsBook before after
    → MakesOfDatagram names line bytes before after was.packets was.put made
    → HasBeenGiven after
given_after names line bytes before after was made kept (inl r) =
    subst (λ (n : NormaliserState). HasBeenGiven n) (sym r.same) was
given_after names line bytes before after was made kept (inr t) =
    let packets : List Input = since_begun t.renewed was.packets
    ++ arrival_of line (read_as t.between.end_number t.packet) t.answer ∷ [] in
    let put : List Numbered = since_begun t.renewed was.put ++ t.brings.brings.more in
    record {
      packets = packets;
      put = put;
      fits = t.brings.fits;
      out = subst (λ (keys : List ℕ). IsPutOut keys packets put)
          (begun_keys names t.packet t.renewed before t.between t.begins ∙ sym kept.keys)
          t.brings.brings.put_out;
    }

pub given_after_skip : (number : ℕ) (before after : NormaliserState) (was : HasBeenGiven before)
    (made : List (List ℕ)) → KeepsItsBook before after
    → BringsSkip number before after was.packets was.put made → HasBeenGiven after
given_after_skip number before after was made kept s = record {
  packets = was.packets ++ Skip number ∷ [];
  put = was.put ++ s.brings.more;
  fits = s.fits;
  out = subst (λ (keys : List ℕ). IsPutOut keys (was.packets ++ Skip number ∷ [])
      (was.put ++ s.brings.more)) (sym kept.keys) s.brings.put_out;
}

-- nothing was put out of a normaliser to which nothing was given
pub given_nothing : (n : NormaliserState) → FitsPackets n [] → HasBeenGiven n
given_nothing n fits = record {
  packets = [];
  put = [];
  fits = fits;
  out = none_put_out n.book.keys;
}

-- a gap that was given up in a section is one that the lock may see
pub skipped_possible : {A : Type 0} (given : Option A) (venue : ℕ) (old new : ItchState)
    (made : List (List ℕ)) → (old.failed ≡ false → HasBeenGiven old.normaliser)
    → (new.failed ≡ false → HasBeenGiven new.normaliser) → old.normaliser.lines.venue ≡ venue
    → IfSome given (λ _. (number : ℕ) × ((packets : List Input) (put : List Numbered)
    → FitsPackets old.normaliser packets → IsPutOut old.normaliser.book.keys packets put
    → BringsSkip number old.normaliser new.normaliser packets put made))
    → IfSome given (λ _. (old.failed ≡ false) × (new.failed ≡ false))
    → IfSome given (λ _. IsPossibleSkip venue made)
skipped_possible None venue old new made was is at gave sound = tt
skipped_possible (Some done) venue old new made was is at gave sound =
    let given = was sound.0 in
    record {
      old = old;
      was = given;
      venue_is = at;
      new = new;
      is = is sound.1;
      number = gave.0;
      skips = gave.1 given.packets given.put given.fits given.out;
    }

-- the same between states that are equal
pub skip_between : (number : ℕ) (m n old new : NormaliserState) (made : List (List ℕ)) → m ≡ old
    → n ≡ new → ((packets : List Input) (put : List Numbered) → FitsPackets m packets
    → IsPutOut m.book.keys packets put → BringsSkip number m n packets put made)
    → (packets : List Input) (put : List Numbered) → FitsPackets old packets
    → IsPutOut old.book.keys packets put → BringsSkip number old new packets put made
skip_between number m n old new made before after gave =
    subst (λ (o : NormaliserState). (packets : List Input) (put : List Numbered)
    → FitsPackets o packets → IsPutOut o.book.keys packets put
    → BringsSkip number o new packets put made) before
    (subst (λ (o : NormaliserState). (packets : List Input) (put : List Numbered)
    → FitsPackets m packets → IsPutOut m.book.keys packets put
    → BringsSkip number m o packets put made) after gave)

-- the gap that is asked for: none where one was given up, else the first one
pub none_is_asked : (n : NormaliserState) (packets : List Input) (given : Bool)
    (gap : Option Request) → given ≡ has_skip packets → given ≡ true → gap ≡ None
    → gap ≡ gap_asked n packets
none_is_asked n packets given gap has was none = none
    ∙ ap (λ (b : Bool). if b then None
    else gap_of n.lines.session n.lines.window n.lines.sent packets) (sym was ∙ has)

pub gap_is_asked : (n : NormaliserState) (packets : List Input) (given : Bool)
    (gap found : Option Request) → given ≡ has_skip packets → given ≡ false
    → found ≡ gap_of n.lines.session n.lines.window n.lines.sent packets → gap ≡ found
    → gap ≡ gap_asked n packets
gap_is_asked n packets given gap found has none is same = same ∙ is
    ∙ ap (λ (b : Bool). if b then None
    else gap_of n.lines.session n.lines.window n.lines.sent packets) (sym none ∙ has)

-- the gap that is asked for once the session's end is known, and none before
pub gap_once_ended : (n : NormaliserState) (packets : List Input) (status : ArbiterStatus)
    (there : Bool) (gap : Option Request) → status ≡ cursors_of n.lines.sent packets
    → there ≡ is_some status.end → there ≡ true → gap ≡ gap_asked n packets
    → gap ≡ gap_at_end n packets
gap_once_ended n packets status there gap shows is has asked = asked
    ∙ ap (λ (b : Bool). if b then gap_asked n packets else None)
    (sym has ∙ is ∙ ap (λ (s : ArbiterStatus). is_some s.end) shows)

pub none_before_the_end : (n : NormaliserState) (packets : List Input) (status : ArbiterStatus)
    (there : Bool) → status ≡ cursors_of n.lines.sent packets → there ≡ is_some status.end
    → there ≡ false → None ≡ gap_at_end n packets
none_before_the_end n packets status there shows is none =
    ap (λ (b : Bool). if b then gap_asked n packets else None)
    (sym none ∙ is ∙ ap (λ (s : ArbiterStatus). is_some s.end) shows)

-- what is shown of a state that the lock may keep
unfailing : (failed : Bool) → true ≡ not failed → failed ≡ false
unfailing false e = refl
unfailing true e = absurd cc

pub shown_by : (venue : ℕ) (state : ItchState) (status : Option ItchStatus)
    → state.normaliser.lines.venue ≡ venue → (state.failed ≡ false → HasBeenGiven state.normaliser)
    → IfSome status (λ s. (packets : List Input) → FitsPackets state.normaliser packets
    → ShowsNormaliser state.normaliser packets s)
    → IfSome status (λ s. s.given_up ≡ state.given_up) → is_some status ≡ not state.failed
    → MayShow venue status
shown_by venue state None at kept shows given_up failed = tt
shown_by venue state (Some status) at kept shows given_up failed =
    let was = kept (unfailing state.failed failed) in
    record {
      state = state;
      was = was;
      venue_is = at;
      shows = shows was.packets was.fits;
      given_up = given_up;
    }

-- two venues that a test finds the same
pub same_venue : (m n : ℕ) (differ : Bool) → differ ≡ not (m == n) → differ ≡ false → m ≡ n
same_venue m n differ test none = grind (arith, nat_tests)
