-- A capture has one reading.
use Rattle.std.proofs.Common.{◌≡◌, inl, inr, ℕ, ◌+◌, ◌*◌, ◌/◌, ◌%◌, ◌^◌, ◌<◌, List, [], ◌∷◌, ◌++◌, length, take, refl, sym, ap, ◌∙◌, subst, arith, append_assoc, length-append}
use Rattle.std.specs.Prelude.{All, Bool, true, false, flat_map}
use Rattle.std.specs.Int.{w64, from_be_bytes}
use Rattle.std.proofs.lemmas.Nat.{from_be_bytes-to_be_bytes_8}
use Rattle.std.proofs.lemmas.List.{append_cancel_left, take_at}
use Rattle.std.proofs.lemmas.List.Elements.{All-tail}
use Rattle.feed_types.specs.declared.line.LineId.{LineId}
use Rattle.feed_types.specs.declared.line.LineId.TheVariants.{A, B, Recovery}
use Rattle.feed_types.specs.Text.{line_letter}
use Rattle.capture_records.specs.Capture.{CaptureRecord, datagram_record, renewal_record, skip_record, self_help_record, record_venue, kind_byte, payload_of, bytes_of_record, capture_of, number_bytes, IsKind, IsRecord, HasNumber, IsHeader, NoRecord, len_at}

letter_one : (k l : LineId) → line_letter k ≡ line_letter l → k ≡ l
letter_one A A e = refl
letter_one A B e = absurd (omega arith)
letter_one A Recovery e = absurd (omega arith)
letter_one B A e = absurd (omega arith)
letter_one B B e = refl
letter_one B Recovery e = absurd (omega arith)
letter_one Recovery A e = absurd (omega arith)
letter_one Recovery B e = absurd (omega arith)
letter_one Recovery Recovery e = refl

no_line : (k : LineId) → line_letter k ≡ 78 → ⊥
no_line A e = omega arith
no_line B e = omega arith
no_line Recovery e = omega arith

help_one : (venue : ℕ) (on off : Bool)
    → kind_byte (self_help_record venue on) ≡ kind_byte (self_help_record venue off) → on ≡ off
help_one venue true true e = refl
help_one venue true false e = absurd (omega arith)
help_one venue false true e = absurd (omega arith)
help_one venue false false e = refl

no_help : (k : LineId) (venue : ℕ) (on : Bool)
    → line_letter k ≡ kind_byte (self_help_record venue on) → ⊥
no_help A venue true e = omega arith
no_help A venue false e = omega arith
no_help B venue true e = omega arith
no_help B venue false e = omega arith
no_help Recovery venue true e = omega arith
no_help Recovery venue false e = omega arith

no_name : (venue : ℕ) (on : Bool) → kind_byte (self_help_record venue on) ≡ 78 → ⊥
no_name venue true e = omega arith
no_name venue false e = omega arith

no_skip : (k : LineId) → line_letter k ≡ 75 → ⊥
no_skip A e = omega arith
no_skip B e = omega arith
no_skip Recovery e = omega arith

no_number : (venue : ℕ) (on : Bool) → kind_byte (self_help_record venue on) ≡ 75 → ⊥
no_number venue true e = omega arith
no_number venue false e = omega arith

same_kind : (v w : ℕ) (on : Bool) → kind_byte (self_help_record v on) ≡ kind_byte
    (self_help_record w on)
same_kind v w true = refl
same_kind v w false = refl

number_one : (i j : ℕ) → i < 2 ^ 64 → j < 2 ^ 64 → number_bytes i ≡ number_bytes j → i ≡ j
unfolding number_bytes
number_one i j m n e =
    sym (from_be_bytes-to_be_bytes_8 i m) ∙ ap (from_be_bytes w64) e
    ∙ from_be_bytes-to_be_bytes_8 j n

-- a record is its venue, its kind and its bytes
record_one : (e f : CaptureRecord) → HasNumber e → HasNumber f → record_venue e ≡ record_venue f
    → kind_byte e ≡ kind_byte f → payload_of e ≡ payload_of f → e ≡ f
record_one (datagram_record v k p) (datagram_record w l q) m n a b c = let d = letter_one k l b
    in cc
record_one (datagram_record v k p) (renewal_record w q) m n a b c = absurd (no_line k b)
record_one (datagram_record v k p) (skip_record w i) m n a b c = absurd (no_skip k b)
record_one (datagram_record v k p) (self_help_record w on) m n a b c = absurd (no_help k w on b)
record_one (renewal_record v p) (datagram_record w l q) m n a b c = absurd (no_line l (sym b))
record_one (renewal_record v p) (renewal_record w q) m n a b c = cc
record_one (renewal_record v p) (skip_record w i) m n a b c = absurd (omega (arith, b))
record_one (renewal_record v p) (self_help_record w on) m n a b c = absurd (no_name w on (sym b))
record_one (skip_record v i) (datagram_record w l q) m n a b c = absurd (no_skip l (sym b))
record_one (skip_record v i) (renewal_record w q) m n a b c = absurd (omega (arith, b))
record_one (skip_record v i) (skip_record w j) m n a b c = let same = number_one i j m n c in cc
record_one (skip_record v i) (self_help_record w on) m n a b c = absurd (no_number w on (sym b))
record_one (self_help_record v on) (datagram_record w l q) m n a b c =
    absurd (no_help l v on (sym b))
record_one (self_help_record v on) (renewal_record w q) m n a b c = absurd (no_name v on b)
record_one (self_help_record v on) (skip_record w i) m n a b c = absurd (no_number v on b)
record_one (self_help_record v on) (self_help_record w off) m n a b c =
    let d = help_one w on off (same_kind w v on ∙ b) in cc

-- two lists of one length before the same bytes
same_parts : (p q a b : List ℕ) → length p ≡ length q → p ++ a ≡ q ++ b → (p ≡ q) × (a ≡ b)
same_parts p q a b n e =
    let front : p ≡ q = sym (take_at p a (length q) n)
    ∙ (ap (take (length q)) e ∙ take_at q b (length q) refl) in
    (front, append_cancel_left p a b (e ∙ ap (λ (xs : List ℕ). xs ++ b) (sym front)))

-- a record that begins the same bytes as another is that record
pub same_front : (e f : CaptureRecord) (a b : List ℕ) → HasNumber e → HasNumber f
    → bytes_of_record e ++ a ≡ bytes_of_record f ++ b → (e ≡ f) × (a ≡ b)
same_front e f a b m k h =
    let venue : record_venue e ≡ record_venue f = cc in
    let kind : kind_byte e ≡ kind_byte f = cc in
    let high : length (payload_of e) / 256 ≡ length (payload_of f) / 256 = cc in
    let low : length (payload_of e) % 256 ≡ length (payload_of f) % 256 = cc in
    let rest : payload_of e ++ a ≡ payload_of f ++ b = cc in
    let n : length (payload_of e) ≡ length (payload_of f) = omega arith in
    let parts = same_parts (payload_of e) (payload_of f) a b n rest in
    (record_one e f m k venue kind parts.0, parts.1)

-- what begins with a record's spelling begins with its header
pub begins_header : (venues : ℕ) (e : CaptureRecord) (a : List ℕ) → IsRecord venues e
    → IsHeader venues (bytes_of_record e ++ a)
    × (len_at (bytes_of_record e ++ a) ≡ length (payload_of e))
begins_header venues e a i =
    let len : length (payload_of e) / 256 * 256 + length (payload_of e) % 256 ≡ length
    (payload_of e) = omega arith in (
      record {
        whole = omega arith;
        venue = i.venue;
        kind = subst (IsKind (kind_byte e))
            (sym len) i.kind;
      },
      len,
    )

pub no_front : (venues : ℕ) (e : CaptureRecord) (a : List ℕ) → IsRecord venues e
    → NoRecord venues (bytes_of_record e ++ a) → ⊥
no_front venues e a i n =
    let long : length (payload_of e ++ a) ≡ length (payload_of e) + length a =
    length-append (payload_of e) a in
    let whole : length (bytes_of_record e ++ a) ≡ 4 + length (payload_of e ++ a) = omega arith in
    let head = begins_header venues e a i in
    elim n [
      | inl none ↦ let z : length (bytes_of_record e ++ a) ≡ 0 = ap length none in omega arith
      | inr other ↦ elim other [
        | inl bad ↦ bad.wrong head.0
        | inr short ↦ elim short.cut [
          | inl v ↦ omega arith
          | inr v ↦ let u = v.1 in let w =
              head.1 in omega arith
        ]
      ]
    ]

front_of_stream : (e : CaptureRecord) (es : List CaptureRecord) (r : List ℕ)
    → capture_of (e ∷ es) r ≡ bytes_of_record e ++ capture_of es r
front_of_stream e es r = append_assoc (bytes_of_record e) (flat_map bytes_of_record es) r

pub readings : (venues : ℕ) (xs ys : List CaptureRecord) (r s : List ℕ) → All (IsRecord venues) xs
    → All (IsRecord venues) ys → NoRecord venues r → NoRecord venues s
    → capture_of xs r ≡ capture_of ys s
    → (xs ≡ ys) × (r ≡ s)
readings venues [] [] r s i j n m e = (refl, e)
readings venues [] (y ∷ ys) r s i j n m e =
    absurd (no_front venues y (capture_of ys s) (j 0 y (omega arith))
    (subst (NoRecord venues) (e ∙ front_of_stream y ys s) n))
readings venues (x ∷ xs) [] r s i j n m e =
    absurd (no_front venues x (capture_of xs r) (i 0 x (omega arith))
    (subst (NoRecord venues) (sym e ∙ front_of_stream x xs r) m))
readings venues (x ∷ xs) (y ∷ ys) r s i j n m e =
    let f = same_front x y (capture_of xs r) (capture_of ys s) (i 0 x (omega arith)).number
    (j 0 y (omega arith)).number (sym (front_of_stream x xs r)
    ∙ (e ∙ front_of_stream y ys s)) in
    let g = readings venues xs ys r s (All-tail (IsRecord venues) x xs i)
    (All-tail (IsRecord venues) y ys j) n m f.1 in
    let front = f.0 in
    let back = g.0 in
    (cc, g.1)
