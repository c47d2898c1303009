-- The gaps that stand, as they are kept.
use Rattle.std.proofs.Common.{◌≡◌, ℕ, ◌<◌, List, length, Option, Some, None, sym, ap, subst, ◌∙◌, arith, inl, inr}
use Rattle.std.specs.Prelude.{slice_set, ◌==◌}
use Rattle.std.proofs.lemmas.Bool.{cases_Bool}
use Rattle.std.proofs.lemmas.Bool.Decides.{nat_tests}
use Rattle.std.proofs.lemmas.List.{get_or-set_same, get_or-set_other}
use Rattle.mold_packet.specs.declared.request.Request.{Request}
use Rattle.line_arbiter.specs.Histories.{History}
use Rattle.feed_text.specs.declared.standing_gap.StandingGap.{StandingGap}
use Rattle.feed_text.specs.Rules.{gap_at, gap_standing_after, stands_then}
use Rattle.feed_text.specs.Standings.{kept_at}

-- the gap of one venue is kept anew
pub kept_set : (window venue time : ℕ) (hs : List History) (gaps : List (Option StandingGap))
    (new : Option StandingGap) (gap : Option Request) → venue < length gaps
    → gap ≡ gap_at window hs venue → new ≡ stands_then (kept_at gaps venue) time gap
    → (place : ℕ) → gap_standing_after window venue (Some time) hs (kept_at gaps) place
    ≡ kept_at (slice_set gaps venue new) place
kept_set window venue time hs gaps new gap within is stands place =
    elim (cases_Bool (venue == place)) [
      | inl same ↦
          let here : venue ≡ place = grind (arith, nat_tests) in
          rw same (
          subst (λ (p : ℕ). stands_then (kept_at gaps p) time (gap_at window hs p)
          ≡ kept_at (slice_set gaps venue new) p) here
          (ap (stands_then (kept_at gaps venue) time) (sym is) ∙ sym stands
          ∙ sym (get_or-set_same gaps venue new None within)))
      | inr other ↦
          let apart : place ≡ venue → ⊥ = grind (arith, nat_tests) in
          rw other (sym (get_or-set_other gaps venue place new None apart))
    ]
