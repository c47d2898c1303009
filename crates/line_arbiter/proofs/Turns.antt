-- One turn of a loop over a packet's messages.
use Rattle.std.proofs.Common.{◌≡◌, ℕ, zero, suc, ◌+◌, ◌^◌, ◌<◌, ◌≤◌, List, [], ◌∷◌, length, drop, add-one, refl, ap, subst, ◌∙◌, arith}
use Rattle.std.specs.Prelude.{slice_index_or}
use Rattle.mold_packet.specs.declared.packet.Kind.{Kind}
use Rattle.mold_packet.specs.declared.packet.Kind.TheVariants as kinds
use Rattle.mold_packet.specs.Content.{Content, IsContent, KindFits}

-- what a turn takes is the message at its place
pub record IsTurn (ms : List (List ℕ)) (n : ℕ) (m : List ℕ) (rest : List (List ℕ)) : Type 0 where
  pub within : n < length ms
  pub here : slice_index_or ms n [] ≡ m
  pub after : drop (n + 1) ms ≡ rest

pub turn : (ms : List (List ℕ)) (n : ℕ) (m : List ℕ) (rest : List (List ℕ)) → drop n ms ≡ m
    ∷ rest → IsTurn ms n m rest
turn [] zero m rest e = absurd cc
turn [] (suc n) m rest e = absurd cc
turn (x ∷ xs) zero m rest e = record { within = omega arith; here = cc; after = cc }
turn (x ∷ xs) (suc n) m rest e =
    let t = turn xs n m rest e in
    record {
      within = let k = t.within in omega arith;
      here = t.here;
      after =
          rw add-one (rw add-one at t.after);
    }

-- all of a packet's numbers fit
pub numbers_fit : (p : Content) → IsContent p → p.number + length p.messages ≤ 2 ^ 64
numbers_fit p h = h.in_range

-- A loop by place has come to n, with the messages in rest to go.
pub record IsAt (p : Content) (n : ℕ) (rest : List (List ℕ)) : Type 0 where
  pub left : drop n p.messages ≡ rest
  pub len : n + length rest ≡ length p.messages

pub start : (p : Content) → IsAt p 0 p.messages
start p = record { left = refl; len = omega arith }

pub at_turn : {p : Content} {n : ℕ} {now : List (List ℕ)} (m : List ℕ) (rest : List (List ℕ))
    → IsAt p n now → now ≡ m ∷ rest → IsTurn p.messages n m rest
at_turn {p} {n} {now} m rest at e = turn p.messages n m rest (at.left ∙ e)

pub go_on : {p : Content} {n : ℕ} {now : List (List ℕ)} (m : List ℕ) (rest : List (List ℕ))
    → IsAt p n now → now ≡ m ∷ rest → IsAt p (n + 1) rest
go_on {p} {n} {now} m rest at e = record {
  left = (at_turn m rest at e).after;
  len = let k = at.len
      in let l = ap length e in omega arith;
}

few_of : (kind : Kind) (ms : List (List ℕ)) → KindFits kind ms → length ms < 65536
few_of kinds.Messages ms fits = omega (arith, fits.1)
few_of kinds.Heartbeat ms fits = omega (arith, ap length fits)
few_of kinds.End ms fits = omega (arith, ap length fits)

pub few : (p : Content) → IsContent p → length p.messages < 65536
few p h = few_of p.kind p.messages h.fits

-- a packet of messages has one at least
pub messages_some : (kind : Kind) (ms : List (List ℕ)) → kind ≡ kinds.Messages
    → KindFits kind ms → 1 ≤ length ms
messages_some kind ms e h = let both = subst (λ (k : Kind). KindFits k ms) e h in both.0
