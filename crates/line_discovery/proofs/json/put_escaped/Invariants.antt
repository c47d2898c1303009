use Rattle.std.proofs.Common.{◌≡◌, ◌++◌, flat_map, take}
use Rattle.line_discovery.specs.SurveyTexts.{escaped_code}
use Rattle.line_discovery.proofs.json.put_escaped.Given as goal

abbrev pub invariant-loop-byte : goal.invariant-loop-byte
invariant-loop-byte l = l.text.items ≡ l.fn.text.items
    ++ flat_map escaped_code (take l.byte-index l.bytes)
