use Rattle.std.proofs.Common.{◌≡◌, ◌≤◌, ◌+◌, ◌*◌, ◌++◌, ◌∷◌, [], length, take}
use Rattle.std.specs.Prelude.{flat_map}
use Rattle.text_out.specs.Pages.{memory_of}
use Rattle.best_rows.specs.Quoting.{escaped_byte}
use Rattle.best_rows.proofs.quoting.put_quoted.Given as goal

abbrev pub invariant-loop-byte : goal.invariant-loop-byte
invariant-loop-byte l = record {
  put : l.text.items ≡ (l.fn.text.items ++ 34 ∷ [])
      ++ flat_map (escaped_byte l.escape) (take l.byte-index l.name);
  short : length l.text.items ≤ length l.fn.text.items + 1 + 2 * l.byte-index;
  size : memory_of l.text ≡ memory_of l.fn.text;
}
