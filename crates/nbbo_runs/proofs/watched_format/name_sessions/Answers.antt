use Rattle.std.proofs.Common.{List, [], ◌∷◌, ◌++◌, take, true, ap, sym, ◌∙◌}
use Rattle.std.proofs.lemmas.List.{append_assoc, map-append, take_more}
use Rattle.run_settings.specs.declared.next_session.NextSession.{NextSession}
use Rattle.nbbo_runs.specs.declared.session_row.SessionSighting.{SessionSighting}
use Rattle.nbbo_runs.specs.Sessions.{named_sightings, sighting_of}
use Rattle.nbbo_runs.proofs.watched_format.name_sessions.Goals as goal

pub loop-session-preserved : goal.loop-session-preserved
loop-session-preserved c =
    let next = c.args.next.now in
    let i = c.loop-session.session-index in
    let n = c.session-item.result in
    let seen = c.args.seen.now in
    let named = named_sightings (take i next) in
    c.note_named.ensures
    ∙ ap (λ (l : List SessionSighting). l ++ named_sightings (n ∷ [])) c.loop-session.invariant
    ∙ append_assoc seen named (named_sightings (n ∷ []))
    ∙ ap (λ (l : List SessionSighting). seen ++ l)
    (sym (map-append (λ (s : NextSession). sighting_of s.venue s.name true) (take i next) (n ∷ []))
    ∙ ap named_sightings (ap (λ (s : NextSession). take i next ++ s ∷ []) c.session-item.is
    ∙ sym (take_more next i n c.loop-session-test.true)))
