use Rattle.std.proofs.Common.{◌≡◌, ◌≤◌, ◌+◌, ◌++◌, length, take}
use Rattle.text_out.specs.Pages.{memory_of}
use Rattle.best_rows.proofs.utc.put_text.Given as goal

abbrev pub invariant-loop-byte : goal.invariant-loop-byte
invariant-loop-byte l = record {
  put : l.text.items ≡ l.fn.text.items ++ take l.byte-index l.spelled;
  short : length l.text.items ≤ length l.fn.text.items + l.byte-index;
  size : memory_of l.text ≡ memory_of l.fn.text;
}
