-- One look at the venues in ITCH, venue by venue.
use Rattle.std.proofs.Common.{◌≡◌, ◌≢◌, ◌∙◌, ℕ, suc, ◌+◌, ◌<◌, ◌≤◌, Bool, true, false, List, Option, None, length, refl, sym, ap, subst, arith}
use Rattle.std.specs.Prelude.{◌==◌, set}
use Rattle.std.proofs.lemmas.Bool.Decides.{nat_tests}
use Rattle.std.proofs.lemmas.List.{get_or-set_other, get_or-set_same, length-set}
use Rattle.itch_lines.specs.declared.venue_end.GivenUp.{GivenUp}
use Rattle.itch_lines.specs.declared.itch_status.ItchStatus.{ItchStatus}
use Rattle.udp_listening.specs.declared.itch_statuses.ItchStatuses.{ItchStatuses}
use Rattle.udp_listening.specs.declared.run_monitor.RunMonitor.{RunMonitor}
use Rattle.itch_lines.specs.declared.venue_share.VenueShare.{VenueShare}
use Rattle.text_out.specs.Devices.{Writing}
use Rattle.itch_lines.specs.Shown.{MayShow}
use Rattle.udp_listening.specs.ItchShown.{AreSeen, at_venue}
use Rattle.udp_listening.specs.ItchReports.{HasLooked, SaysGivenUpAt, SaysGivenUpBelow, SaysLook, reported_at, reported_then}

-- what was reported of the first venues and of one more
reported_more : (place venue : ℕ) (same : Bool) (seen : List (Option ItchStatus))
    (before old : List (Option GivenUp)) → same ≡ (venue == place) → place < length old
    → (venue < place → at_venue old venue
    ≡ reported_then (at_venue seen venue) (at_venue before venue))
    → at_venue old place ≡ at_venue before place → venue < place + 1
    → at_venue (reported_at place seen old) venue
    ≡ reported_then (at_venue seen venue) (at_venue before venue)
reported_more place venue true seen before old test within first here below =
    let at : venue ≡ place = grind (arith, nat_tests) in
    ap (λ (v : ℕ). at_venue (reported_at place seen old) v) at
    ∙ get_or-set_same old place (reported_then (at_venue seen place) (at_venue old place)) None
    within
    ∙ ap (λ (o : Option GivenUp). reported_then (at_venue seen place) o) here
    ∙ ap (λ (v : ℕ). reported_then (at_venue seen v) (at_venue before v)) (sym at)
reported_more place venue false seen before old test within first here below =
    let other : venue ≢ place = grind (arith, nat_tests) in
    let less : venue < place = grind (arith, nat_tests) in
    get_or-set_other old place venue (reported_then (at_venue seen place) (at_venue old place)) None
    other ∙ first less

looked_with : (place : ℕ) (before old : ItchStatuses VenueShare) → HasLooked place before old
    → place < length old.reported
    → HasLooked (place + 1) before
    (record old { reported = reported_at place old.seen old.reported })
looked_with place before old looked within = record {
  sources = looked.sources;
  seen = looked.seen;
  reported =
      λ venue below.
      reported_more place venue (venue == place) old.seen before.reported old.reported refl within
      (looked.reported venue) (looked.others place (omega arith)) below;
  others =
      λ venue past.
      get_or-set_other old.reported place venue _ None (omega (arith, past))
      ∙ looked.others venue (omega (arith, past));
}

-- what is reported of the next venue
pub looked_more : (place venue : ℕ) (before old new : ItchStatuses VenueShare) → venue ≡ place
    → place < 16 → HasLooked place before old → length old.reported ≡ 16
    → new ≡ record old { reported = reported_at venue old.seen old.reported }
    → HasLooked (place + 1) before new × (length new.reported ≡ 16)
looked_more place venue before old new at few looked all is =
    let within : place < length old.reported = subst (λ (n : ℕ). place < n) (sym all) few in
    subst (λ (x : ItchStatuses VenueShare). HasLooked (place + 1) before x
    × (length x.reported ≡ 16))
    (ap (λ (v : ℕ). record old { reported = reported_at v old.seen old.reported }) (sym at)
    ∙ sym is) (
      looked_with place before old looked within,
      length-set old.reported place _ ∙ all,
    )

-- and said
pub said_more : {C E : Type 0} (writing : Writing E) (elapsed place venue : ℕ)
    (before old new : RunMonitor C E) → venue ≡ place → SaysLook writing elapsed place before old
    → SaysGivenUpAt writing elapsed venue old new
    → SaysLook writing elapsed (place + 1) before new
said_more writing elapsed place venue before old new at look one =
    let next : suc place ≡ place + 1 = omega arith in
    record {
      seen = look.seen;
      are = look.are;
      says =
          subst (λ (n : ℕ). SaysGivenUpBelow writing elapsed n
          (record before { itch = record before.itch { seen = look.seen } }) new) next (
            old,
            look.says,
            subst (λ (v : ℕ). SaysGivenUpAt writing elapsed v old new) at one,
          );
    }

-- nothing is reported yet
pub looked_first : (before new : ItchStatuses VenueShare)
    → AreSeen (λ share. MayShow share.venue) before.sources.items new.seen
    → new ≡ record before { seen = new.seen } → HasLooked 0 before new
looked_first before new are kept = record {
  sources = ap (λ (i : ItchStatuses VenueShare). i.sources) kept;
  seen = are;
  reported = λ venue below. absurd (omega (arith, below));
  others = λ venue past. ap (λ (i : ItchStatuses VenueShare). at_venue i.reported venue) kept;
}

pub said_first : {C E : Type 0} (writing : Writing E) (elapsed : ℕ) (before : RunMonitor C E)
    (new : ItchStatuses VenueShare)
    → AreSeen (λ share. MayShow share.venue) before.itch.sources.items new.seen
    → new ≡ record before.itch { seen = new.seen }
    → SaysLook writing elapsed 0 before (record before { itch = new })
said_first writing elapsed before new are kept = record {
  seen = new.seen;
  are = are;
  says = ap (λ (i : ItchStatuses VenueShare). record before { itch = i }) kept;
}
