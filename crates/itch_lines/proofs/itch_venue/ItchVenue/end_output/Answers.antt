use Rattle.std.proofs.Common.{[], ◌∷◌, ◌≤◌, ◌≡◌, false, inr, refl, sym, ◌∙◌, rules, arith, Result, Ok, Err}
use Rattle.std.specs.Prelude.{OnOk}
use Rattle.std.specs.Result.{is_err}
use Rattle.std.specs.declared.alloc.AllocError.{AllocError}
use Rattle.feed_types.specs.Sessions.{end_item}
use Rattle.item_packets.specs.Carried.{RunsFrom}
use Rattle.item_packets.specs.laws.Adding.{packed_alone}
use Rattle.itch_lines.proofs.itch_venue.ItchVenue.end_output.Goals as goal

when_ok : (r : Result (Unit {0}) AllocError) {P : Type 0} → is_err r ≡ false → OnOk r P → P
when_ok (Ok u) sound p = p
when_ok (Err e) sound p = absurd (cc)

pub returns-else-is_err-clause-end : goal.returns-else-is_err-clause-end
returns-else-is_err-clause-end c =
    let number = c.saturating_add.result in
    let end = end_item number ∷ [] in
    let one : 1 ≤ number = search (rules, arith, c.saturating_add.ensures) in
    let runs : RunsFrom number end = record {
      items = [];
      ends = end;
      each = tt;
      is = refl;
      end = inr (search rules);
    } in
    inr (
      c.session-session.result,
      number,
      packed_alone c.session-session.result end c.clear.new.self.items c.pack.new.out.items
          c.clear.ensures.items
          (when_ok c.pack.result (sym c.is_err.ensures.value ∙ c.if-is_err.false) c.pack.ensures
          number one runs),
    )
