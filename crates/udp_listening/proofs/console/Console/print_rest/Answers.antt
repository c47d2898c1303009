use Rattle.std.proofs.Common.{rules}
use Rattle.udp_listening.proofs.console.Console.print_rest.Goals as goal

pub write_rest-requires-clause-text : goal.write_rest-requires-clause-text
write_rest-requires-clause-text g c = search rules
