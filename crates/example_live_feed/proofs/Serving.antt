-- What a settlement says of each subscriber.
use Rattle.std.proofs.Common.{◌≡◌, ℕ, zero, suc, ◌<◌, List, [], ◌∷◌, length, refl, subst, arith}
use Rattle.std.specs.Prelude.{Option, Some, None, Result, Ok, IfOk, IfSome, slice_get}
use Rattle.std.proofs.lemmas.Option.{slice_get_within}
use Rattle.live_feed.specs.settle.Settlements.{IsServed, IsSettlement, SettlementState, SubscriberEndState}

-- the element at a place of a list that is long enough
there : {X : Type 0} (xs : List X) (n : ℕ) → n < length xs → (x : X) × (slice_get xs n ≡ Some x)
there [] n few = absurd (omega (arith, few))
there (x ∷ xs) zero few = (x, refl)
there (x ∷ xs) (suc n) few = there xs n (omega (arith, few))

pub each_served : {S premise lanes seats logs : _} (s : SettlementState)
    → IsSettlement {S = S} premise lanes seats logs s
    → (id : ℕ) → IfSome (slice_get s.subscribers id) (λ end. IsServed s.journal id end.log
    end.queued end.unoffered)
each_served {logs = logs} s is id = by (slice_get s.subscribers id) refl
  where
    by : (o : Option SubscriberEndState) → slice_get s.subscribers id ≡ o
        → IfSome o (λ end. IsServed s.journal id end.log end.queued end.unoffered)
    by None at = tt
    by (Some end) at =
        let all = is.all in
        let below = slice_get_within s.subscribers id end at in
        let log = there logs id (omega (arith, all, below)) in
        (is.subscribers id log.0 end log.1 at).served

-- what is so of a result's value, where the value is known
pub at_ok : {A E : Type 0} (P : A → Type 0) (r : Result A E) (x : A) → r ≡ Ok x → IfOk r P → P x
at_ok {A} {E} P r x is p = subst (λ (q : Result A E). IfOk q P) is p
