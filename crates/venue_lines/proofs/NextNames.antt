-- Sessions that begin at a packet: the name in turn, and that the packet isn't answered as an end
-- that is too early.
use Rattle.std.proofs.Common.{◌≡◌, ℕ, ◌+◌, ◌-◌, ◌<◌, ◌≤◌, Bool, true, false, not, List, [], length, Option, Some, None, Result, Ok, Err, IfSome, refl, sym, ap, subst, ◌∙◌, arith}
use Rattle.std.specs.Prelude.{◌==◌, slice_get, if◌then◌else◌}
use Rattle.std.proofs.lemmas.Bool.Decides.{nat_tests}
use Rattle.feed_types.specs.Sessions.{SessionNames}
use Rattle.feed_types.specs.declared.genuine.Genuine.{Ghosts as Genuine}
use Rattle.feed_steps.specs.Premises.{BringExactly}
use Rattle.mold_packet.specs.Content.{Content}
use Rattle.line_arbiter.specs.declared.outcome.Outcome.{Outcome}
use Rattle.line_arbiter.specs.declared.outcome.LineFault.{LineFault}
use Rattle.line_arbiter.specs.Histories.{History}
use Rattle.line_arbiter.specs.Packets.{first_of}
use Rattle.line_arbiter.specs.States.{ordinal_of}
use Rattle.venue_lines.specs.Cells.{CellState}
use Rattle.venue_lines.specs.NextSessions.{AreNextNames, BeginsBefore, NextNames, RenewsIf, name_after}
use Rattle.venue_lines.specs.Sections.{BeginsNext, HasSkippedPast, RenewsSession}

-- the name at a place of names that are listed
pub at_place : (found : Option (List ℕ)) (listed names : List (List ℕ)) (p q : ℕ)
    → found ≡ slice_get listed p → listed ≡ names → p ≡ q → found ≡ slice_get names q
at_place found listed names p q is same place = is ∙ (λ i. slice_get (same i) (place i))

-- the name in turn, where the names are the venue's
pub in_turn : (next : NextNames) (venue ordinal : ℕ) (differ : Bool)
    → differ ≡ not (next.venue == venue) → differ ≡ false
    → name_after next venue ordinal ≡ slice_get next.names (ordinal - 1)
in_turn next venue ordinal differ test none =
    let is : (next.venue == venue) ≡ true = grind (arith, nat_tests) in rw is refl

pub named_in_turn : (sessions : SessionNames) (next : NextNames) (venue ordinal : ℕ)
    (name : Option (List ℕ)) → AreNextNames sessions next.venue next.names → 1 ≤ ordinal
    → next.venue ≡ venue → name ≡ slice_get next.names (ordinal - 1)
    → IfSome name (λ n. sessions venue (ordinal + 1) n)
named_in_turn sessions next venue ordinal None are least same is = tt
named_in_turn sessions next venue ordinal (Some name) are least same is =
    let place : ordinal - 1 + 2 ≡ ordinal + 1 = omega arith in
    subst (λ (x : ℕ × ℕ). sessions x.0 x.1 name) (λ i. (same i, place i))
    (are (ordinal - 1) name (sym is))

-- a renewal under the name in turn, at a packet of that session
pub begins_before : (next : NextNames) (p : Content) (name : List ℕ) (ordinal : ℕ) (h : History)
    (old new : CellState) → p.session ≡ name
    → name_after next old.arbiter.venue (ordinal_of old.arbiter) ≡ Some name
    → RenewsSession name (Ok ordinal) h old new → BeginsNext old new
    → BeginsBefore next p h old new
begins_before next p name ordinal h old new same follows renewed begun =
    let of_packet : RenewsSession p.session (Ok ordinal) h old new =
    subst (λ (n : List ℕ). RenewsSession n (Ok ordinal) h old new) (sym same) renewed in
    record {
      before = record {
        follows = follows ∙ ap Some (sym same);
        ordinal = ordinal;
        renews = of_packet.renewed.right;
      };
      renewed = of_packet;
      begun = begun;
    }

-- An end that is too early after a session may have begun at it was so before: it isn't, where one
-- has.
pub early_renewing : {S : Type 0} (premise : Genuine S) (next : Option NextNames) (renewed : Bool)
    (p : Content) (answer : Result Outcome LineFault) (old begun : CellState)
    → RenewsIf next p renewed old begun → HasSkippedPast premise begun p answer
    → HasSkippedPast premise old p answer
early_renewing premise None renewed p answer old begun r early =
    subst (λ (c : CellState). HasSkippedPast premise c p answer) r.1 early
early_renewing premise (Some next) false p answer old begun r early =
    λ is all ordinal session h bring at of fits.
    subst (λ (c : CellState). HasSkippedPast premise c p answer) (r h fits).1 early is all ordinal
    session h bring at of fits
early_renewing premise (Some next) true p answer old begun r early =
    λ is all ordinal session h bring at of fits.
    let x = r h fits in
    let late : length session.items + 1 < first_of x.renewed.after.present.packets =
    early is all ordinal session x.renewed.after
    (subst (λ (v : ℕ). BringExactly premise v all) (sym x.begun.venue) bring) at of
    x.renewed.fits in
    let one : first_of x.renewed.after.present.packets ≡ 1 =
    ap (λ (k : History). first_of k.present.packets) x.renewed.renewed.is in
    absurd (omega arith)
