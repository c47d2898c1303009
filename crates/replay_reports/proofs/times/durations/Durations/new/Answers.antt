use Rattle.std.proofs.Common.{◌≡◌, ℕ, List, length, replicate, refl, ap, ◌∙◌}
use Rattle.std.specs.Prelude.{slice_index}
use Rattle.std.proofs.lemmas.List.{get_or-replicate, length-replicate}
use Rattle.replay_reports.proofs.times.durations.Durations.new.Goals as goal

pub returns : goal.returns
returns c =
    let items : c.in_ok-vec.field-0.items ≡ replicate 976 0 =
    c.in_ok-vec.ensures.items_if_clones_equal (λ y same. same) in
    record {
      count = refl;
      total = refl;
      longest = refl;
      size = ap length items ∙ length-replicate {A = ℕ} 976 0;
      each = λ place small. ap (λ (xs : List ℕ). slice_index xs place) items
          ∙ get_or-replicate {A = ℕ} 976 place 0 0 small;
    }
