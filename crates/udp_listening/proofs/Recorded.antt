-- The lines of a run that are recorded, one more of them.
use Rattle.std.proofs.Common.{◌≡◌, ◌∙◌, All, ℕ, List, [], ◌∷◌, ◌++◌, ap, map, subst, sym}
use Rattle.std.proofs.lemmas.List.{map-append}
use Rattle.std.proofs.lemmas.List.Elements.{All-append, All-cons, All-nil}
use Rattle.feed_types.specs.declared.line.LineId.{LineId}
use Rattle.udp_listening.specs.Bound.{HasRecorder, bound_line}
use Rattle.udp_listening.specs.declared.listen_sockets.BoundLine.{BoundLine}

-- it is the line that it was
pub line_more : (old new yielded : List BoundLine) (bound line : BoundLine)
    → map bound_line old ≡ map bound_line yielded → new ≡ old ++ line ∷ []
    → line ≡ record bound { records = line.records }
    → map bound_line new ≡ map bound_line (yielded ++ bound ∷ [])
line_more old new yielded bound line before added same =
    ap (λ (l : List BoundLine). map bound_line l) added ∙ map-append bound_line old (line ∷ [])
    ∙ ap (λ (l : List (ℕ × LineId)). l ++ bound_line line ∷ []) before
    ∙ ap (λ (x : BoundLine). map bound_line yielded ++ bound_line x ∷ []) same
    ∙ sym (map-append bound_line yielded (bound ∷ []))

-- and is recorded
pub recorded_more : (old new : List BoundLine) (line : BoundLine) → All HasRecorder old
    → new ≡ old ++ line ∷ [] → HasRecorder line → All HasRecorder new
recorded_more old new line before added recorded =
    subst (λ (l : List BoundLine). All HasRecorder l) (sym added)
    (All-append HasRecorder old (line ∷ []) before
    (All-cons HasRecorder line [] recorded (All-nil HasRecorder)))
