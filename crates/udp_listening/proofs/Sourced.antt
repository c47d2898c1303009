-- The lines of a run, one more of them.
use Rattle.std.proofs.Common.{◌≡◌, ◌∙◌, ℕ, List, [], ◌∷◌, ◌++◌, ap, append-nil, subst, sym}
use Rattle.std.specs.Prelude.{All, Contains, vec_len}
use Rattle.std.proofs.lemmas.Grind.{flat_map-append}
use Rattle.std.proofs.lemmas.List.Elements.{All-append, All-cons, All-nil}
use Rattle.feed_types.specs.declared.line.LineId.{LineId}
use Rattle.run_settings.specs.declared.listen_settings.ListenSettings.{ListenSettings}
use Rattle.itch_lines.specs.FeedLines.{IsInItch, source_of}
use Rattle.live_feed.specs.declared.run.whole.LineTask.{LineTask}
use Rattle.udp_listening.specs.Lines.{LineState, UdpState, line_below, run_lines, venue_of_line}
use Rattle.udp_listening.specs.Reports.{IsLineOf}
use Rattle.udp_listening.specs.Settings.{IsSourceOf}
use Rattle.udp_listening.specs.declared.listen_sockets.BoundLine.{BoundLine}

pub one_more : (settings : ListenSettings) (sockets : List BoundLine) (bound : BoundLine)
    (old new : List (ℕ × LineId)) → old ≡ run_lines settings sockets
    → new ≡ old ++ line_below (vec_len settings.feed.sessions) bound
    → new ≡ run_lines settings (sockets ++ bound ∷ [])
one_more settings sockets bound old new before more =
    let f : BoundLine → List (ℕ × LineId) = line_below (vec_len settings.feed.sessions) in
    more ∙ ap (λ (l : List (ℕ × LineId)). l ++ f bound) before
    ∙ ap (λ (l : List (ℕ × LineId)). run_lines settings sockets ++ l) (sym (append-nil (f bound)))
    ∙ sym (flat_map-append f sockets (bound ∷ []))

-- the line over a source that the settings made is one of theirs, and so are those before it
pub made_more : (settings : ListenSettings) (venue : ℕ) (of : LineId) (source : UdpState)
    (over : LineState) (old new : List (LineTask LineState)) → IsSourceOf settings venue of source
    → source_of over ≡ source → venue_of_line over ≡ source.venue
    → (IsInItch over → Contains settings.itch.venues.items source.venue)
    → (Contains settings.itch.venues.items source.venue → IsInItch over)
    → new ≡ old ++ record { line = of; source = over } ∷ []
    → All (IsLineOf settings) old → All (IsLineOf settings) new
made_more settings venue of source over old new is same at is_in is_named more before =
    let P : LineTask LineState → Type 0 = IsLineOf settings in
    let one : LineTask LineState = record { line = of; source = over } in
    let named : ℕ → Type 0 = λ v. Contains settings.itch.venues.items v in
    subst (λ (l : List (LineTask LineState)). All P l) (sym more)
    (All-append P old (one ∷ []) before
    (All-cons P one [] (record {
      source =
          subst (λ (v : ℕ). IsSourceOf settings v of (source_of over)) (sym (at ∙ is.venue_is))
          (subst (λ (s : UdpState). IsSourceOf settings venue of s) (sym same) is);
      itch = subst (λ (v : ℕ). (IsInItch over → named v) × (named v → IsInItch over)) (sym at)
          (is_in, is_named);
    }) (All-nil P)))
