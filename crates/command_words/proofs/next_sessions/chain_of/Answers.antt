use Rattle.std.proofs.Common.{rules, ◌≡◌, ◌∙◌, sym, ap, inr, map, true, false}
use Rattle.command_words.specs.NextSessions.{are_once}
use Rattle.command_words.specs.Sessions.{filled_name}
use Rattle.command_words.proofs.Chains.{chained, too_long, twice, unnamed}
use Rattle.command_words.proofs.next_sessions.chain_of.Goals as goal

pub returns-then-names-gt-MAX_SESSIONS : goal.returns-then-names-gt-MAX_SESSIONS
returns-then-names-gt-MAX_SESSIONS c = inr (sym (too_long c.args.names.now (search rules)))

pub returns-then-not-are_names : goal.returns-then-not-are_names
returns-then-not-are_names c =
    inr (sym (unnamed c.args.names.now (search rules) (search rules)))

pub returns-then-not-are_once : goal.returns-then-not-are_once
returns-then-not-are_once c =
    let is : are_once (map (λ name. filled_name name.now) c.args.names.now) ≡ false =
    ap are_once (sym (c.as_slice.ensures.value ∙ c.in_ok-sessions.ensures))
    ∙ sym c.are_once.ensures ∙ search rules in
    inr (sym (twice c.args.names.now (search rules) (search rules) is))

pub returns : goal.returns
returns c =
    let is : are_once c.in_ok-sessions.sessions.items ≡ true =
    ap are_once (sym c.as_slice.ensures.value) ∙ sym c.are_once.ensures ∙ search rules in
    sym (chained c.args.names.now c.in_ok-sessions.sessions.items (search rules) (search rules)
    c.in_ok-sessions.ensures is)
