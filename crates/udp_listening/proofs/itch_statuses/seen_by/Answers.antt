use Rattle.std.proofs.Common.{◌≡◌, ◌∙◌, ◌+◌, [], ◌∷◌, ◌++◌, ap, refl, sym, take}
use Rattle.std.proofs.lemmas.List.{take_more}
use Rattle.udp_listening.proofs.Seen.{all_places, seen_more, seen_of_none}
use Rattle.udp_listening.proofs.itch_statuses.seen_by.Goals as goal

pub loop-source-init : goal.loop-source-init
loop-source-init g c = (seen_of_none g.S.StatusSource.shows, refl)

pub loop-source-preserved : goal.loop-source-preserved
loop-source-preserved g c =
    let sources = c.args.sources.now in
    let i = c.loop-source.source-index in
    let x = c.source-item.result in
    let old = c.loop-source.seen in
    let new = c.note.new.seen in
    let all = c.loop-source.invariant.1 in (
      seen_more g.S.StatusSource.shows (take i sources) (take (i + 1) sources) x c.status.result old
          new c.loop-source.invariant.0 all
          (take_more sources i x c.loop-source-test.true
          ∙ ap (λ y. take i sources ++ y ∷ []) (sym c.source-item.is)) c.status.ensures
          c.note.ensures.noted c.note.ensures.in_range,
      all_places c.status.result old new c.note.ensures.noted all,
    )
