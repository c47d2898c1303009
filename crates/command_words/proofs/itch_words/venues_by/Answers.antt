use Rattle.std.proofs.Common.{rules, ◌≡◌, ◌∙◌, sym, ap, inr, List, ℕ, true, false}
use Rattle.std.specs.List.{list_all}
use Rattle.command_words.specs.ItchRequests.{is_among, itch_venues_from}
use Rattle.command_words.specs.NextSessions.{are_once}
use Rattle.command_words.proofs.ItchNaming.{found, twice, unknown, unnamed}
use Rattle.command_words.proofs.itch_words.venues_by.Goals as goal

pub returns-then-not-are_names : goal.returns-then-not-are_names
returns-then-not-are_names c =
    inr (sym (unnamed c.args.names.now c.args.sessions.now (search rules)))

pub returns-then-not-are_among : goal.returns-then-not-are_among
returns-then-not-are_among c =
    let filled = c.in_ok-filled.filled.items in
    let are : list_all (is_among c.args.sessions.now) filled ≡ false =
    ap (list_all (is_among c.args.sessions.now)) (sym c.as_slice.ensures.value)
    ∙ sym c.are_among.ensures ∙ search rules in
    inr (sym (unknown c.args.names.now c.args.sessions.now filled (search rules)
    c.in_ok-filled.ensures are))

pub returns-then-not-are_once : goal.returns-then-not-are_once
returns-then-not-are_once c =
    let filled = c.in_ok-filled.filled.items in
    let among : list_all (is_among c.args.sessions.now) filled ≡ true =
    ap (list_all (is_among c.args.sessions.now)) (sym c.as_slice.ensures.value)
    ∙ sym c.are_among.ensures ∙ search rules in
    let once : are_once filled ≡ false =
    ap are_once (sym c.as_slice-2.ensures.value) ∙ sym c.are_once.ensures ∙ search rules in
    inr (sym (twice c.args.names.now c.args.sessions.now filled (search rules)
    c.in_ok-filled.ensures among once))

pub returns : goal.returns
returns c =
    let filled = c.in_ok-filled.filled.items in
    let among : list_all (is_among c.args.sessions.now) filled ≡ true =
    ap (list_all (is_among c.args.sessions.now)) (sym c.as_slice.ensures.value)
    ∙ sym c.are_among.ensures ∙ search rules in
    let once : are_once filled ≡ true =
    ap are_once (sym c.as_slice-2.ensures.value) ∙ sym c.are_once.ensures ∙ search rules in
    let is : c.in_ok-venues_named.field-0.items
    ≡ itch_venues_from 0 filled c.args.sessions.now =
    c.in_ok-venues_named.ensures
    ∙ ap (λ (names : List (List ℕ)). itch_venues_from 0 names c.args.sessions.now)
    c.as_slice-3.ensures.value in
    sym (found c.args.names.now c.args.sessions.now filled c.in_ok-venues_named.field-0.items
    (search rules) c.in_ok-filled.ensures among once is)
