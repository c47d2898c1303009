-- The length of a stream.
use Rattle.std.proofs.Common.{◌≡◌, ℕ, ◌+◌, ◌-◌, ◌≤◌, Bool, true, false, List, [], ◌∷◌, length, map, Option, Some, None, refl, ap, ◌∙◌, arith}
use Rattle.std.specs.Prelude.{◌==◌, if◌then◌else◌}
use Rattle.std.specs.List.{range_with_len}
use Rattle.std.proofs.lemmas.Bool.{eq-eqb}
use Rattle.std.proofs.lemmas.List.{length-append}
use Rattle.std.proofs.lemmas.List.FromFn.{length-map-range_with_len}
use Rattle.line_arbiter.specs.Packets.{Input, end_of}
use Rattle.line_arbiter.specs.Streams.{end_at, item_numbered, opens_of, stream_to}
use Rattle.feed_types.specs.declared.item.Item.TheVariants as items
use Rattle.feed_types.specs.Sessions.{end_item}

pub length-stream : (packets : List Input) (n : ℕ)
    → length (stream_to packets n)
    ≡ n + 1 - opens_of packets + length (end_at (end_of packets) (n + 1))
length-stream packets n =
    omega (
      arith,
      length-append
          (map (item_numbered packets)
          (range_with_len (opens_of packets) (n + 1 - opens_of packets)))
          (end_at (end_of packets) (n + 1)),
      length-map-range_with_len (item_numbered packets) (opens_of packets)
          (n + 1 - opens_of packets),
    )

most_if : {X : Type 0} (b : Bool) (x : X) → length (if b then x ∷ [] else []) ≤ 1
most_if true x = omega arith
most_if false x = omega arith

-- End takes one place at most
pub end_most : (o : Option ℕ) (m : ℕ) → length (end_at o m) ≤ 1
end_most None m = omega arith
end_most (Some e) m = most_if (e == m) (record { number = m; item = items.End })

pub end_one : (o : Option ℕ) (m : ℕ) → o ≡ Some m → length (end_at o m) ≡ 1
end_one o m is =
    ap (λ (e : Option ℕ). length (end_at e m)) is
    ∙ one_if_true (m == m) (eq-eqb m m refl)
  where
    one_if_true : (b : Bool) → b ≡ true → length (if b then end_item m ∷ [] else []) ≡ 1
    one_if_true true is = refl
    one_if_true false is = absurd cc
