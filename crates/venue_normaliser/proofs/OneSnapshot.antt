-- Bytes are one snapshot, or have one fault.
use Rattle.std.proofs.Common.{◌≡◌, ℕ, ◌+◌, ◌<◌, true, false, List, [], ◌∷◌, ◌++◌, length, drop, refl, sym, ap, subst, ◌∙◌, append_assoc, append-nil, arith, length-append, IsTrue}
use Rattle.std.specs.Prelude.{◌==◌}
use Rattle.std.specs.List.{flat_map, list_any, AllByRecursion}
use Rattle.std.proofs.lemmas.Bool.{and_parts, eqb-true, false≢true}
use Rattle.std.proofs.lemmas.List.{append_cancel_left}
use Rattle.mold_packet.specs.Block.{IsCut, IsMessage, block}
use Rattle.mold_packet.specs.laws.Cutting.{blocks_at-block, flat_map-first, not_cut}
use Rattle.mold_packet.specs.Block.{blocks_at}
use Rattle.quote_payload.specs.Payload.{type_at}
use Rattle.itch_messages.specs.declared.event.OrderEvent.TheVariants.{Other}
use Rattle.itch_messages.specs.Events.{event_by, is_form, order_event_of}
use Rattle.itch_messages.specs.Forms.{silent_forms}
use Rattle.venue_normaliser.specs.declared.snapshot_fault.SnapshotFault.{SnapshotFault}
use Rattle.venue_normaliser.specs.declared.snapshot_fault.SnapshotFault.TheVariants.{Cut, NoEnd, NotOfSnapshot, BadNumber, AfterEnd}
use Rattle.venue_normaliser.specs.Snapshots.{BeginsSnapshot, EndsSnapshot, HasNoNumber, HasSnapshotFault, IsOther, IsPart, IsSnapshot, is_end_form, is_of_snapshot, states}
use Rattle.venue_normaliser.proofs.Numbers.{one_number}
use Rattle.venue_normaliser.proofs.Snapshotting.{block_longer}

-- ---- an End of Snapshot is none of the messages before it

kind_of_end : (m : List ℕ) → is_end_form m ≡ true → type_at m ≡ 0x47
kind_of_end m form =
    eqb-true (type_at m) 0x47 (and_parts (type_at m == 0x47) (length m == 21) form).0

len_of_end : (m : List ℕ) → is_end_form m ≡ true → length m ≡ 21
len_of_end m form =
    eqb-true (length m) 21 (and_parts (type_at m == 0x47) (length m == 21) form).1

other_of_end : (m : List ℕ) → is_end_form m ≡ true → order_event_of m ≡ Other
unfolding order_event_of
other_of_end m form =
    subst (λ (k : ℕ). event_by k (length m) m ≡ Other) (sym (kind_of_end m form)) refl

pub end_apart : (m : List ℕ) → is_end_form m ≡ true → is_of_snapshot m ≡ false
end_apart m form =
    ap (states m) (other_of_end m form)
    ∙ subst (λ (k : ℕ). list_any (λ (f : ℕ × ℕ). is_form f.0 f.1 k (length m)) silent_forms
    ≡ false) (sym (kind_of_end m form)) refl

end_fits : (m : List ℕ) (n : ℕ) → EndsSnapshot m n → IsMessage m
end_fits m n ends = let len = len_of_end m ends.form in omega arith

-- ---- the messages, up to where they stop

-- no whole message of a snapshot is at the front
abbrev Stops : List ℕ → Type 0
Stops rest = (m after : List ℕ) → rest ≡ block m ++ after → IsMessage m
    → is_of_snapshot m ≡ true → ⊥

same_first : (a b x y : List ℕ) → IsMessage a → IsMessage b → block a ++ x ≡ block b ++ y
    → (a ≡ b) × (x ≡ y)
same_first a b x y m n e =
    let first : a ∷ [] ≡ b ∷ [] =
    sym (blocks_at-block 0 a x m) ∙ ap (blocks_at 1) e ∙ blocks_at-block 0 b y n in
    let same : a ≡ b = cc in (
      same,
      append_cancel_left (block a) x y (e ∙ ap (λ (c : List ℕ). block c ++ y) (sym same)),
    )

same_parts : (ms ns : List (List ℕ)) (x y : List ℕ) → AllByRecursion IsMessage ms
    → AllByRecursion IsMessage ns → AllByRecursion (λ m. IsTrue (is_of_snapshot m)) ms
    → AllByRecursion (λ m. IsTrue (is_of_snapshot m)) ns
    → flat_map block ms ++ x ≡ flat_map block ns ++ y → Stops x → Stops y → (ms ≡ ns) × (x ≡ y)
same_parts [] [] x y a b s t e p q = (refl, e)
same_parts [] (n ∷ ns) x y a b s t e p q =
    absurd (p n (flat_map block ns ++ y) (e ∙ flat_map-first n ns y) b.0 t.0)
same_parts (m ∷ ms) [] x y a b s t e p q =
    absurd (q m (flat_map block ms ++ x) (sym e ∙ flat_map-first m ms x) a.0 s.0)
same_parts (m ∷ ms) (n ∷ ns) x y a b s t e p q =
    let same = same_first m n (flat_map block ms ++ x) (flat_map block ns ++ y) a.0 b.0
    (sym (flat_map-first m ms x) ∙ e ∙ flat_map-first n ns y) in
    let more = same_parts ms ns x y a.1 b.1 s.1 t.1 same.1 p q in (
      ap (λ (c : List ℕ). c ∷ ms) same.0 ∙ ap (λ (cs : List (List ℕ)). n ∷ cs) more.0,
      more.1,
    )

stops_none : (rest : List ℕ) → rest ≡ [] → Stops rest
stops_none rest none m after found fits stated =
    let long = block_longer rest m after found in
    let short : length rest ≡ 0 = ap length none in omega arith

stops_part : (rest : List ℕ) → IsPart rest → Stops rest
stops_part rest part m after found fits stated =
    not_cut m after fits (subst (λ (r : List ℕ). IsCut r) found part.cut)

stops_first : (rest m after : List ℕ) → rest ≡ block m ++ after → IsMessage m
    → is_of_snapshot m ≡ false → Stops rest
stops_first rest m after found fits none n more is short stated =
    let same = (same_first m n after more fits short (sym found ∙ is)).0 in
    false≢true (sym none ∙ ap is_of_snapshot same ∙ stated)

-- ---- what stands where they stop

record PastEnd (rest : List ℕ) (start byte : ℕ) : Type 0 where
  pub message : List ℕ
  pub number : ℕ
  pub after : List ℕ
  pub spelled : rest ≡ block message ++ after
  pub ends : EndsSnapshot message number
  pub at : byte ≡ start + length (block message)
  pub some : 0 < length after

abbrev Why : List ℕ → ℕ → SnapshotFault → Type 0
Why rest start (NoEnd byte) = (byte ≡ start) × (rest ≡ [])
Why rest start (Cut byte) = (byte ≡ start) × IsPart rest
Why rest start (NotOfSnapshot byte) = (byte ≡ start) × IsOther rest
Why rest start (BadNumber byte) = (byte ≡ start) × HasNoNumber rest
Why rest start (AfterEnd byte) = PastEnd rest start byte

record Stopped (bytes : List ℕ) (fault : SnapshotFault) : Type 0 where
  pub messages : List (List ℕ)
  pub rest : List ℕ
  pub begins : BeginsSnapshot bytes messages rest
  pub stops : Stops rest
  pub why : Why rest (length (flat_map block messages)) fault

stopped : (bytes : List ℕ) (f : SnapshotFault) → HasSnapshotFault bytes f → Stopped bytes f
stopped bytes (NoEnd byte) h = record {
  messages = h.messages;
  rest = h.rest;
  begins = h.begins;
  stops = stops_none h.rest h.cause;
  why = (h.at, h.cause);
}
stopped bytes (Cut byte) h = record {
  messages = h.messages;
  rest = h.rest;
  begins = h.begins;
  stops = stops_part h.rest h.cause;
  why = (h.at, h.cause);
}
stopped bytes (NotOfSnapshot byte) h = record {
  messages = h.messages;
  rest = h.rest;
  begins = h.begins;
  stops = stops_first h.rest h.cause.message h.cause.after h.cause.spelled h.cause.fits
      h.cause.none;
  why = (h.at, h.cause);
}
stopped bytes (BadNumber byte) h = record {
  messages = h.messages;
  rest = h.rest;
  begins = h.begins;
  stops = stops_first h.rest h.cause.message h.cause.after h.cause.spelled h.cause.fits
      (end_apart h.cause.message h.cause.form);
  why = (h.at, h.cause);
}
stopped bytes (AfterEnd byte) h =
    let start = flat_map block h.messages in
    let begins = h.is.begins in
    let whole = begins.spelled in
    record {
      messages = h.messages;
      rest = block h.is.end ++ h.after;
      begins = record {
        each = begins.each;
        states = begins.states;
        spelled = h.spelled ∙ ap (λ (xs : List ℕ). xs ++ h.after) whole
            ∙ append_assoc start (block h.is.end) h.after;
      };
      stops = stops_first (block h.is.end ++ h.after) h.is.end h.after refl
          (end_fits h.is.end h.number h.is.ends) (end_apart h.is.end h.is.ends.form);
      why = record {
        message = h.is.end;
        number = h.number;
        after = h.after;
        spelled = refl;
        ends = h.is.ends;
        at = h.at ∙ ap length whole ∙ length-append start (block h.is.end);
        some = h.some;
      };
    }

-- ---- two reasons at one place

none_part : (rest : List ℕ) → rest ≡ [] → IsPart rest → ⊥
none_part rest none part =
    let some = part.some in
    let short : length rest ≡ 0 = ap length none in omega arith

none_first : (rest m after : List ℕ) → rest ≡ [] → rest ≡ block m ++ after → ⊥
none_first rest m after none found =
    let long = block_longer rest m after found in
    let short : length rest ≡ 0 = ap length none in omega arith

part_first : (rest m after : List ℕ) → IsPart rest → rest ≡ block m ++ after → IsMessage m → ⊥
part_first rest m after part found fits =
    not_cut m after fits (subst (λ (r : List ℕ). IsCut r) found part.cut)

other_end : (rest m after : List ℕ) → IsOther rest → rest ≡ block m ++ after → IsMessage m
    → is_end_form m ≡ true → ⊥
other_end rest m after other found fits form =
    let same = (same_first other.message m other.after after other.fits fits
    (sym other.spelled ∙ found)).0 in
    false≢true (sym other.not_end ∙ ap is_end_form same ∙ form)

bad_end : (rest m after : List ℕ) (n : ℕ) → HasNoNumber rest → rest ≡ block m ++ after
    → EndsSnapshot m n → ⊥
bad_end rest m after n bad found ends =
    let same = (same_first bad.message m bad.after after bad.fits (end_fits m n ends)
    (sym bad.spelled ∙ found)).0 in
    bad.none n (subst (λ (c : List ℕ). EndsSnapshot c n) (sym same) ends)

same_end : (rest : List ℕ) (start a b : ℕ) → PastEnd rest start a → PastEnd rest start b → a ≡ b
same_end rest start a b x y =
    let same = (same_first x.message y.message x.after y.after
    (end_fits x.message x.number x.ends) (end_fits y.message y.number y.ends)
    (sym x.spelled ∙ y.spelled)).0 in
    x.at ∙ ap (λ (c : List ℕ). start + length (block c)) same ∙ sym y.at

same_why : (rest : List ℕ) (start : ℕ) (f g : SnapshotFault) → Why rest start f
    → Why rest start g → f ≡ g
same_why rest start (NoEnd a) (NoEnd b) x y = ap NoEnd (x.0 ∙ sym y.0)
same_why rest start (NoEnd a) (Cut b) x y = absurd (none_part rest x.1 y.1)
same_why rest start (NoEnd a) (NotOfSnapshot b) x y =
    absurd (none_first rest y.1.message y.1.after x.1 y.1.spelled)
same_why rest start (NoEnd a) (BadNumber b) x y =
    absurd (none_first rest y.1.message y.1.after x.1 y.1.spelled)
same_why rest start (NoEnd a) (AfterEnd b) x y =
    absurd (none_first rest y.message y.after x.1 y.spelled)
same_why rest start (Cut a) (NoEnd b) x y = absurd (none_part rest y.1 x.1)
same_why rest start (Cut a) (Cut b) x y = ap Cut (x.0 ∙ sym y.0)
same_why rest start (Cut a) (NotOfSnapshot b) x y =
    absurd (part_first rest y.1.message y.1.after x.1 y.1.spelled y.1.fits)
same_why rest start (Cut a) (BadNumber b) x y =
    absurd (part_first rest y.1.message y.1.after x.1 y.1.spelled y.1.fits)
same_why rest start (Cut a) (AfterEnd b) x y =
    absurd (part_first rest y.message y.after x.1 y.spelled
    (end_fits y.message y.number y.ends))
same_why rest start (NotOfSnapshot a) (NoEnd b) x y =
    absurd (none_first rest x.1.message x.1.after y.1 x.1.spelled)
same_why rest start (NotOfSnapshot a) (Cut b) x y =
    absurd (part_first rest x.1.message x.1.after y.1 x.1.spelled x.1.fits)
same_why rest start (NotOfSnapshot a) (NotOfSnapshot b) x y = ap NotOfSnapshot (x.0 ∙ sym y.0)
same_why rest start (NotOfSnapshot a) (BadNumber b) x y =
    absurd (other_end rest y.1.message y.1.after x.1 y.1.spelled y.1.fits y.1.form)
same_why rest start (NotOfSnapshot a) (AfterEnd b) x y =
    absurd (other_end rest y.message y.after x.1 y.spelled
    (end_fits y.message y.number y.ends) y.ends.form)
same_why rest start (BadNumber a) (NoEnd b) x y =
    absurd (none_first rest x.1.message x.1.after y.1 x.1.spelled)
same_why rest start (BadNumber a) (Cut b) x y =
    absurd (part_first rest x.1.message x.1.after y.1 x.1.spelled x.1.fits)
same_why rest start (BadNumber a) (NotOfSnapshot b) x y =
    absurd (other_end rest x.1.message x.1.after y.1 x.1.spelled x.1.fits x.1.form)
same_why rest start (BadNumber a) (BadNumber b) x y = ap BadNumber (x.0 ∙ sym y.0)
same_why rest start (BadNumber a) (AfterEnd b) x y =
    absurd (bad_end rest y.message y.after y.number x.1 y.spelled y.ends)
same_why rest start (AfterEnd a) (NoEnd b) x y =
    absurd (none_first rest x.message x.after y.1 x.spelled)
same_why rest start (AfterEnd a) (Cut b) x y =
    absurd (part_first rest x.message x.after y.1 x.spelled
    (end_fits x.message x.number x.ends))
same_why rest start (AfterEnd a) (NotOfSnapshot b) x y =
    absurd (other_end rest x.message x.after y.1 x.spelled
    (end_fits x.message x.number x.ends) x.ends.form)
same_why rest start (AfterEnd a) (BadNumber b) x y =
    absurd (bad_end rest x.message x.after x.number y.1 x.spelled x.ends)
same_why rest start (AfterEnd a) (AfterEnd b) x y = ap AfterEnd (same_end rest start a b x y)

-- ---- one snapshot, or one fault

same_place : (bytes : List ℕ) (ms ns : List (List ℕ)) (x y : List ℕ)
    → BeginsSnapshot bytes ms x → BeginsSnapshot bytes ns y → Stops x → Stops y
    → (ms ≡ ns) × (x ≡ y)
same_place bytes ms ns x y a b p q =
    same_parts ms ns x y a.each b.each a.states b.states (sym a.spelled ∙ b.spelled) p q

stops_end : (end : List ℕ) (n : ℕ) → EndsSnapshot end n → Stops (block end)
stops_end end n ends =
    stops_first (block end) end [] (sym (append-nil (block end))) (end_fits end n ends)
    (end_apart end ends.form)

pub same_snapshot : (bytes : List ℕ) (ms ns : List (List ℕ)) (n k : ℕ) → IsSnapshot bytes ms n
    → IsSnapshot bytes ns k → (ms ≡ ns) × (n ≡ k)
same_snapshot bytes ms ns n k a b =
    let same = same_place bytes ms ns (block a.end) (block b.end) a.begins b.begins
    (stops_end a.end n a.ends) (stops_end b.end k b.ends) in
    let end = (same_first a.end b.end [] [] (end_fits a.end n a.ends) (end_fits b.end k b.ends)
    (append-nil (block a.end) ∙ same.1 ∙ sym (append-nil (block b.end)))).0 in (
      same.0,
      one_number (drop 1 a.end) n k a.ends.field
          (subst (λ (c : List ℕ). EndsSnapshot c k) (sym end) b.ends).field,
    )

end_without : (end : List ℕ) (n start : ℕ) (f : SnapshotFault) → EndsSnapshot end n
    → Why (block end) start f → ⊥
end_without end n start (NoEnd byte) ends x =
    none_first (block end) end [] x.1 (sym (append-nil (block end)))
end_without end n start (Cut byte) ends x =
    part_first (block end) end [] x.1 (sym (append-nil (block end))) (end_fits end n ends)
end_without end n start (NotOfSnapshot byte) ends x =
    other_end (block end) end [] x.1 (sym (append-nil (block end))) (end_fits end n ends)
    ends.form
end_without end n start (BadNumber byte) ends x =
    bad_end (block end) end [] n x.1 (sym (append-nil (block end))) ends
end_without end n start (AfterEnd byte) ends x =
    let after = (same_first end x.message [] x.after (end_fits end n ends)
    (end_fits x.message x.number x.ends) (append-nil (block end) ∙ x.spelled)).1 in
    let some = x.some in
    let none : 0 ≡ length x.after = ap length after in omega arith

pub snapshot_without : (bytes : List ℕ) (ms : List (List ℕ)) (n : ℕ) (f : SnapshotFault)
    → IsSnapshot bytes ms n → HasSnapshotFault bytes f → ⊥
snapshot_without bytes ms n f a h =
    let s = stopped bytes f h in
    let same = same_place bytes ms s.messages (block a.end) s.rest a.begins s.begins
    (stops_end a.end n a.ends) s.stops in
    end_without a.end n (length (flat_map block s.messages)) f a.ends
    (subst (λ (r : List ℕ). Why r (length (flat_map block s.messages)) f) (sym same.1) s.why)

pub same_fault : (bytes : List ℕ) (f g : SnapshotFault) → HasSnapshotFault bytes f
    → HasSnapshotFault bytes g → f ≡ g
same_fault bytes f g h k =
    let s = stopped bytes f h in
    let t = stopped bytes g k in
    let same = same_place bytes s.messages t.messages s.rest t.rest s.begins t.begins s.stops
    t.stops in
    same_why s.rest (length (flat_map block s.messages)) f g s.why
    (subst (λ (ms : List (List ℕ)). Why s.rest (length (flat_map block ms)) g) (sym same.0)
    (subst (λ (r : List ℕ). Why r (length (flat_map block t.messages)) g) (sym same.1) t.why))
