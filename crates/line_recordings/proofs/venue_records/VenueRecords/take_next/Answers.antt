use Rattle.std.proofs.Common.{◌≡◌, ◌∙◌, ℕ, false, refl, rules, subst}
use Rattle.line_recordings.specs.Recordings.{is_next_at}
use Rattle.line_recordings.specs.declared.venue_records.VenueRecords.{VenueRecords}
use Rattle.line_recordings.proofs.Putting.{comes_kept, comes_then, kept_sources, unchanged_more}
use Rattle.line_recordings.proofs.venue_records.VenueRecords.take_next.Goals as goal

pub returns-then-not-is_next : goal.returns-then-not-is_next
returns-then-not-is_next c =
    let placed = c.in-Some-take.placed in
    let before =
    unchanged_more c.args.self.now c.first.new.self c.is_early.new.self c.first.ensures
    c.is_early.ensures in
    let left : VenueRecords =
    record c.take.new.self { left_out = c.saturating_add-self-then-not-is_next.result } in
    let late : is_next_at c.take.new.self.next placed ≡ false =
    search (rules, c.is_next.ensures, c.if-not-is_next.ensures) in
    record {
      kind = c.in-Some.kind;
      placed = placed;
      comes =
          comes_kept c.args.self.now c.take.new.self left c.in-Some.kind placed
          (comes_then c.args.self.now c.is_early.new.self c.take.new.self c.in-Some.kind placed
          before c.in-Some-take.ensures.comes)
          (kept_sources c.take.new.self left refl refl refl refl);
      late =
          subst (λ (n : ℕ). is_next_at n placed ≡ false) (c.take.ensures.next ∙ before.after) late;
      after = c.take.ensures.next ∙ before.after;
      counted =
          search (
            rules,
            c.saturating_add-self-then-not-is_next.ensures,
            c.take.ensures.left_out,
            before.same,
          );
      venue_is = c.take.ensures.venue ∙ before.venue_is;
    }
