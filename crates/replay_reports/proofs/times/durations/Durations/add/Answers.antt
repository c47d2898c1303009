use Rattle.std.proofs.Common.{◌≡◌, ℕ, ◌+◌, ◌<◌, true, false, length, ap, ◌∙◌, arith}
use Rattle.std.specs.Prelude.{max, min, slice_set}
use Rattle.std.proofs.lemmas.List.{get_or_default}
use Rattle.replay_reports.specs.declared.times.durations.Durations.{Durations}
use Rattle.replay_reports.proofs.Sharing.{counted_more}
use Rattle.replay_reports.proofs.times.durations.Durations.add.Goals.{in-Some, in_default}
use Rattle.replay_reports.proofs.times.durations.Durations.add.Goals as goal

pub returns : goal.returns
returns c = λ durations held.
    let old = c.args.self.now in
    let place = c.place_of.result in
    let there : place < length old.counts.items =
    omega (arith, c.place_of.ensures.within, held.size) in
    elim c.match-get_mut.branch [
      | in-Some w ↦
          counted_more c.args.duration place w.in-Some.count.now durations old
          (record {
            counts = c.match-get_mut.self.counts;
            count = c.saturating_add-self.result;
            total = c.saturating_add-self-2.result;
            longest = c.max-self.result;
          })
          c.place_of.ensures.at c.place_of.ensures.within held
          (w.in-Some.ensures.item.1 ∙ get_or_default old.counts.items place
          w.in-Some.count.now 0 there)
          (ap (λ (s : Durations). s.counts.items) w.self-is
          ∙ ap (λ (n : ℕ). slice_set old.counts.items place n) w.saturating_add.ensures)
          (c.saturating_add-self.ensures
          ∙ ap (λ (s : Durations). min (s.count + 1) 18446744073709551615) w.self-is)
          (c.saturating_add-self-2.ensures
          ∙ ap (λ (s : Durations). min (s.total + c.args.duration) 18446744073709551615) w.self-is)
          (c.max-self.ensures ∙ ap (λ (s : Durations). max s.longest c.args.duration) w.self-is)
      | in_default w ↦ let bad : false ≡ true = w.in_default.ensures.variant.1
          (omega (arith, there, old.counts.ok.0)) in absurd cc
    ]
