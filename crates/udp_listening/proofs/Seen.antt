-- What is seen of venues in ITCH, look by look.
use Rattle.std.proofs.Common.{◌≡◌, ◌≢◌, ◌∙◌, ℕ, zero, suc, ◌<◌, List, [], ◌∷◌, ◌++◌, Bool, true, false, Option, Some, None, length, IfSome, refl, sym, ap, subst, arith, append-nil}
use Rattle.std.specs.Prelude.{◌==◌, flat_map, get_or, map, replicate, set, if◌then◌else◌}
use Rattle.std.specs.List.{last_or}
use Rattle.std.proofs.lemmas.Bool.Decides.{nat_tests}
use Rattle.std.proofs.lemmas.List.{get_or-set_other, get_or-set_same, length-set}
use Rattle.std.proofs.lemmas.List.Concat.{flat_map-append}
use Rattle.itch_lines.specs.declared.itch_status.ItchStatus.{ItchStatus}
use Rattle.live_feed.specs.run.Runs.{Pairwise}
use Rattle.udp_listening.specs.ItchShown.{AreSeen, at_venue, noted_then, shown_at}

-- one more of each
pub one_more : {A B : Type 0} (R : A → B → Type 0) (xs : List A) (ys : List B) (x : A) (y : B)
    → Pairwise R xs ys → R x y → Pairwise R (xs ++ x ∷ []) (ys ++ y ∷ [])
one_more R [] [] x y each one = (one, tt)
one_more R [] (z ∷ ys) x y each one = absurd each
one_more R (z ∷ xs) [] x y each one = absurd each
one_more R (z ∷ xs) (w ∷ ys) x y each one = (each.0, one_more R xs ys x y each.1 one)

last_of_more : {A : Type 0} (o : Option A) (xs : List A) (x : A)
    → last_or o (xs ++ x ∷ []) ≡ Some x
last_of_more o [] x = refl
last_of_more o (y ∷ xs) x = last_of_more (Some y) xs x

-- what is seen of a venue once a status of this or of another one was noted
noted_of : (venue : ℕ) (status : ItchStatus) (same : Bool) (seen : List (Option ItchStatus))
    (before : List ItchStatus) → same ≡ (status.venue == venue) → status.venue < length seen
    → at_venue seen venue ≡ last_or None before
    → at_venue (set seen status.venue (Some status)) venue
    ≡ last_or None (before ++ (if same then status ∷ [] else []))
noted_of venue status true seen before test below is =
    let here : venue ≡ status.venue = grind (arith, nat_tests) in
    ap (λ (v : ℕ). at_venue (set seen status.venue (Some status)) v) here
    ∙ get_or-set_same seen status.venue (Some status) None below
    ∙ sym (last_of_more None before status)
noted_of venue status false seen before test below is =
    let other : venue ≢ status.venue = grind (arith, nat_tests) in
    get_or-set_other seen status.venue venue (Some status) None other ∙ is
    ∙ ap (λ (l : List ItchStatus). last_or None l) (sym (append-nil before))

noted_one : (venue : ℕ) (one : Option ItchStatus) (seen : List (Option ItchStatus))
    (before : List ItchStatus) → length seen ≡ 16 → IfSome one (λ s. s.venue < 16)
    → at_venue seen venue ≡ last_or None before
    → at_venue (noted_then one seen) venue ≡ last_or None (before ++ shown_at venue one)
noted_one venue None seen before all below is =
    is ∙ ap (λ (l : List ItchStatus). last_or None l) (sym (append-nil before))
noted_one venue (Some status) seen before all below is =
    noted_of venue status (status.venue == venue) seen before refl
    (subst (λ (n : ℕ). status.venue < n) (sym all) below) is

-- each venue keeps its place
noted_length : (one : Option ItchStatus) (seen : List (Option ItchStatus))
    → length (noted_then one seen) ≡ length seen
noted_length None seen = refl
noted_length (Some status) seen = length-set seen status.venue (Some status)

pub all_places : (one : Option ItchStatus) (old new : List (Option ItchStatus))
    → new ≡ noted_then one old → length old ≡ 16 → length new ≡ 16
all_places one old new noted all =
    ap (λ (l : List (Option ItchStatus)). length l) noted ∙ noted_length one old ∙ all

pub seen_more : {S : Type 0} (Shows : S → Option ItchStatus → Type 0) (sources more : List S)
    (source : S) (one : Option ItchStatus) (old new : List (Option ItchStatus))
    → AreSeen Shows sources old → length old ≡ 16 → more ≡ sources ++ source ∷ []
    → Shows source one → new ≡ noted_then one old → IfSome one (λ s. s.venue < 16)
    → AreSeen Shows more new
seen_more Shows sources more source one old new are all next shows noted below =
    subst (λ (l : List _). AreSeen Shows l new) (sym next) (record {
      shown = are.shown ++ one ∷ [];
      each = one_more Shows sources are.shown source one are.each shows;
      seen_is =
          λ venue few.
          ap (λ (l : List (Option ItchStatus)). at_venue l venue) noted
          ∙ noted_one venue one old (flat_map (shown_at venue) are.shown) all below
          (are.seen_is venue few)
          ∙ ap (λ (l : List ItchStatus). last_or None (flat_map (shown_at venue) are.shown ++ l))
          (sym (append-nil (shown_at venue one)))
          ∙ ap (λ (l : List ItchStatus). last_or None l)
          (sym (flat_map-append (shown_at venue) are.shown (one ∷ [])));
    })

none_at : {A : Type 0} (n venue : ℕ) → at_venue {A = A} (replicate n None) venue ≡ None
none_at zero venue = refl
none_at (suc n) zero = refl
none_at (suc n) (suc venue) = none_at n venue

-- nothing is seen before any source was looked at
pub seen_of_none : {S : Type 0} (Shows : S → Option ItchStatus → Type 0)
    → AreSeen Shows [] (replicate 16 None)
seen_of_none Shows = record {
  shown = [];
  each = tt;
  seen_is = λ venue few. none_at {A = ItchStatus} 16 venue;
}
