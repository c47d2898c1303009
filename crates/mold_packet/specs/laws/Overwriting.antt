-- A buffer after its parts were written one after the other.
use Rattle.std.proofs.Common.{◌≡◌, ℕ, ◌+◌, ◌-◌, ◌≤◌, List, [], ◌++◌, length, take, drop, sym, ap, ◌∙◌, append_assoc, arith, length-append}
use Rattle.std.proofs.lemmas.List.{take_at, drop_at, drop_all, drop-drop, append-nil, length-drop, take_all}
use Rattle.mold_packet.specs.Writing.{WritesFirst}
use borrow.Rule.Slice.PartMut.{put_mid}

-- what followed the front is written over
put_mid-append : (front tail part : List ℕ) (a k : ℕ) → length front ≡ a
    → put_mid a k (front ++ tail) part ≡ front ++ (part ++ drop k tail)
put_mid-append front tail part a k h =
    ap (λ (x : List ℕ). x ++ (part ++ drop k (drop a (front ++ tail)))) (take_at front tail a h)
    ∙ ap (λ (x : List ℕ). front ++ (part ++ drop k x)) (drop_at front tail a h)

-- the next part of a buffer whose first a bytes are written
put_mid_next : (front old part : List ℕ) (a k : ℕ) → length front ≡ a
    → put_mid a k (front ++ drop a old) part ≡ (front ++ part) ++ drop (a + k) old
put_mid_next front old part a k h =
    put_mid-append front (drop a old) part a k h
    ∙ ap (λ (x : List ℕ). front ++ (part ++ x)) (drop-drop k a old)
    ∙ sym (append_assoc front part (drop (a + k) old))

-- three parts
pub three_parts : (first second third old : List ℕ) → length first ≡ 10 → length second ≡ 8
    → put_mid 18 2 (put_mid 10 8 (first ++ drop 10 old) second) third ≡ (first ++ (second ++ third))
    ++ drop 20 old
three_parts first second third old f s =
    ap (λ (x : List ℕ). put_mid 18 2 x third) (put_mid_next first old second 10 8 f)
    ∙ put_mid_next (first ++ second) old third 18 2 (omega (arith, length-append first second))
    ∙ ap (λ (x : List ℕ). x ++ drop 20 old) (append_assoc first second third)

-- a front of n bytes, and what followed it
pub writes_first : (n : ℕ) (front old new : List ℕ) → length front ≡ n → n ≤ length old
    → new ≡ front ++ drop n old → WritesFirst n old new
writes_first n front old new h room e = record {
  room = room;
  others = ap (drop n) e
      ∙ drop_at front (drop n old) n h;
}

pub take_front : (n : ℕ) (front old new : List ℕ) → length front ≡ n → new ≡ front
    ++ drop n old → take n new ≡ front
take_front n front old new h e = ap (take n) e ∙ take_at front (drop n old) n h

-- a piece written to the front of everything after the first `end` bytes
pub tail_written : (out front old part piece : List ℕ) (end n : ℕ) → out ≡ front ++ drop end old
    → length front ≡ end → part ≡ piece ++ drop n (take (length out - end) (drop end out))
    → put_mid end (length out - end) out part ≡ (front ++ piece) ++ drop (end + n) old
tail_written out front old part piece end n e h p =
    let behind : drop end out ≡ drop end old = ap (drop end) e ∙ drop_at front (drop end old) end h
    in
    let whole : take (length out - end) (drop end out) ≡ drop end out = take_all (length out - end)
    (drop end out) (omega (arith, length-drop end out)) in
    let gone : drop (length out - end) (drop end old) ≡ [] = drop_all (length out - end)
    (drop end old) (omega (arith, length-drop end out, ap (λ (x : List ℕ). length x) behind)) in
    let written : part ≡ piece ++ drop (end + n) old = p
    ∙ ap (λ (x : List ℕ). piece ++ drop n x) (whole ∙ behind)
    ∙ ap (λ (x : List ℕ). piece ++ x) (drop-drop n end old) in
    ap (λ (x : List ℕ). put_mid end (length out - end) x part) e
    ∙ put_mid-append front (drop end old) part end (length out - end) h
    ∙ ap (λ (x : List ℕ). front ++ (part ++ x)) gone
    ∙ ap (λ (x : List ℕ). front ++ x) (append-nil part ∙ written)
    ∙ sym (append_assoc front piece (drop (end + n) old))
