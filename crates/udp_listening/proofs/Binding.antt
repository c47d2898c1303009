-- The lines that have sockets, one more of them.
use Rattle.std.proofs.Common.{◌≡◌, ◌∙◌, ℕ, suc, ◌+◌, ◌≤◌, List, [], ◌∷◌, ◌++◌, length, drop, map, ap, sym, arith, Some, append_assoc, append-nil, length-append}
use Rattle.std.specs.Prelude.{Bool, Option, slice_get}
use Rattle.std.specs.declared.net.socket_addr.SocketAddr.{SocketAddr}
use Rattle.feed_types.specs.declared.line.LineId.{LineId}
use Rattle.text_out.specs.laws.SaidTexts.{no_rest, rest_at}
use Rattle.udp_listening.specs.Bound.{AddsReplies, asked_line, asked_lines, bound_line, reply_line, reply_lines}
use Rattle.udp_listening.specs.declared.listen_sockets.BoundLine.{BoundLine}

pub asked_more : (asked : List (Option SocketAddr)) (n : ℕ) (a : Option SocketAddr)
    (old new all : List (ℕ × LineId)) → slice_get asked n ≡ Some a → new ≡ old ++ asked_line n a
    → old ++ asked_lines n (drop n asked) ≡ all
    → new ++ asked_lines (n + 1) (drop (n + 1) asked) ≡ all
asked_more asked n a old new all there step is =
    let rest = asked_lines (n + 1) (drop (n + 1) asked) in
    ap (λ (t : List (ℕ × LineId)). t ++ rest) step
    ∙ append_assoc old (asked_line n a) rest
    ∙ ap (λ (l : List (Option SocketAddr)). old ++ asked_lines n l)
    (sym (rest_at asked n a there))
    ∙ is

pub asked_all : (asked : List (Option SocketAddr)) (n : ℕ) (done all : List (ℕ × LineId))
    → length asked ≤ n → done ++ asked_lines n (drop n asked) ≡ all → done ≡ all
asked_all asked n done all past is =
    sym (append-nil done)
    ∙ ap (λ (l : List (Option SocketAddr)). done ++ asked_lines n l) (sym (no_rest asked n past))
    ∙ is

-- one venue more
replies_more : (venue : ℕ) (have : List Bool) (has : Bool)
    → reply_lines venue (have ++ has ∷ [])
    ≡ reply_lines venue have ++ reply_line has (venue + length have)
replies_more venue [] has =
    let same : venue ≡ venue + 0 = omega arith in
    append-nil (reply_line has venue) ∙ ap (λ (n : ℕ). reply_line has n) same
replies_more venue (first ∷ have) has =
    let same : venue + 1 + length have ≡ venue + suc (length have) = omega arith in
    let front = reply_line first venue in
    let rest = reply_lines (venue + 1) have in
    ap (λ (l : List (ℕ × LineId)). front ++ l) (replies_more (venue + 1) have has)
    ∙ ap (λ (n : ℕ). front ++ (rest ++ reply_line has n)) same
    ∙ sym (append_assoc front rest (reply_line has (venue + suc (length have))))

-- lines R of so many venues were looked at
pub record HasAdded (venues : ℕ) (before after : List BoundLine) : Type 0 where
  pub have : List Bool
  pub each : length have ≡ venues
  pub all : map bound_line after ≡ map bound_line before ++ reply_lines 0 have

pub none_added : (before : List BoundLine) → HasAdded 0 before before
none_added before = record {
  have = [];
  each = omega arith;
  all = sym (append-nil (map bound_line before));
}

pub one_added : (venues : ℕ) (has : Bool) (before mid after : List BoundLine)
    → HasAdded venues before mid
    → map bound_line after ≡ map bound_line mid ++ reply_line has venues
    → HasAdded (venues + 1) before after
one_added venues has before mid after added step =
    let same : venues ≡ 0 + length added.have = omega (arith, added.each) in
    let more = length-append added.have (has ∷ []) in
    let first = map bound_line before in
    record {
      have = added.have ++ has ∷ [];
      each = omega (arith, added.each, more);
      all = step
          ∙ ap (λ (l : List (ℕ × LineId)). l ++ reply_line has venues) added.all
          ∙ append_assoc first (reply_lines 0 added.have) (reply_line has venues)
          ∙ ap (λ (n : ℕ). first ++ (reply_lines 0 added.have ++ reply_line has n)) same
          ∙ ap (λ (l : List (ℕ × LineId)). first ++ l) (sym (replies_more 0 added.have has));
    }

pub all_added : (venues : ℕ) (before after : List BoundLine) → HasAdded venues before after
    → AddsReplies venues before after
all_added venues before after added = record {
  have = added.have;
  few = omega (arith, added.each);
  all = added.all;
}
