-- What is said at a look, step by step.
use Rattle.std.proofs.Common.{◌≡◌, ◌∙◌, ◌/◌, ℕ, Bool, ap, subst}
use Rattle.text_out.specs.Devices.{Writing}
use Rattle.run_settings.specs.declared.venue_names.VenueNames.{VenueNames}
use Rattle.text_out.specs.StandardError.{SaysEach}
use Rattle.run_watches.specs.GapNews.{gap_texts_if}
use Rattle.run_watches.specs.Gaps.{GivesUpDue, SaysOfSession, SaysOfVenue, TellsStanding, after_joins, joined_range, stands, watch_begun}
use Rattle.run_watches.specs.declared.gap_news.GapChange.TheVariants.{GivenUp}
use Rattle.run_watches.specs.declared.gap_rule.GapRule.{GapRule}
use Rattle.run_watches.specs.declared.gap_watch.GapWatch.{GapWatch}
use Rattle.venue_lines.specs.declared.status.VenueStatus.{VenueStatus}
use Rattle.run_watches.proofs.RunTelling.{begun_venue}

-- The watch once its session has begun, once its gap stands, once joins are told, and once the gap
-- is told: then that was said of the venue.
pub looked : {E : Type 0} (w : Writing E) (names : VenueNames) (answers : ℕ → ℕ → Bool → Type 0)
    (rule : GapRule) (old a b c d : GapWatch) (now : ℕ) (status : VenueStatus)
    (first begun joined told last : E)
    → a ≡ watch_begun old status → b ≡ stands a now status → c ≡ after_joins rule b status
    → d ≡ record c { told = d.told; has_told_unanswered = d.has_told_unanswered }
    → SaysOfSession w names old now status first begun
    → SaysEach w (gap_texts_if names (now / 1000) b.venue GivenUp (joined_range rule b status))
    begun joined
    → TellsStanding w names c now status joined told
    → GivesUpDue w names (answers d.venue) rule d now status told last
    → SaysOfVenue w names (answers old.venue) rule old now status first last
looked {E} w names answers rule old a b c d now status first begun joined told last ea eb ec ed
    session joins tells gives =
    let seen : GapWatch = stands (watch_begun old status) now status in
    let same : b ≡ seen = eb ∙ ap (λ (x : GapWatch). stands x now status) ea in
    let after : c ≡ after_joins rule seen status =
    ec ∙ ap (λ (x : GapWatch). after_joins rule x status) same in
    let venue : d.venue ≡ old.venue =
    ap (λ (x : GapWatch). x.venue) ed ∙ ap (λ (x : GapWatch). x.venue) after
    ∙ begun_venue old status in
    record {
      begun = begun;
      tells_session = session;
      gap = record {
        joined = joined;
        tells_joins =
            subst (λ (x : GapWatch). SaysEach w
            (gap_texts_if names (now / 1000) x.venue GivenUp (joined_range rule x status)) begun
            joined)
            same joins;
        told = told;
        tells =
            subst (λ (x : GapWatch). TellsStanding w names x now status joined told) after tells;
        gives_up =
            subst (λ (v : ℕ). GivesUpDue w names (answers v) rule (after_joins rule seen status) now
            status told last) venue
            (subst (λ (x : GapWatch). GivesUpDue w names (answers d.venue) rule x now status told
            last) after
            (subst (λ (x : GapWatch). GivesUpDue w names (answers d.venue) rule x now status told
            last) ed gives));
      };
    }
