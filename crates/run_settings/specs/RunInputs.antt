-- The lines of an input.
use Rattle.std.specs.Prelude.{List, []}
use Rattle.run_settings.specs.declared.captured_line.CapturedLine.{CapturedLine}
use Rattle.run_settings.specs.declared.run_input.RunInput.{RunInput}
use Rattle.run_settings.specs.declared.run_input.RunInput.TheVariants.{Own, Packets}

-- the lines of a packet capture, none of a capture of the project's own format
abbrev pub captured_lines_in : RunInput → List CapturedLine
captured_lines_in Own = []
captured_lines_in (Packets lines) = lines.items
