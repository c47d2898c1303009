-- A section under the consolidator's lock.
use Rattle.feed_types.specs.declared.genuine.Genuine.{Ghosts as Genuine}
use Rattle.feed_steps.specs.Lanes.{FeedLanes}
use Rattle.hub_lanes.specs.Hubs.{HubState, HubLockInvariant, IsPossibleAtHub}

pub possible_at_hub : {S : Type 0} (premise : Genuine S) (lanes : FeedLanes)
    (section : HubState → HubState → Type 0)
    (old new : HubState) → HubLockInvariant premise lanes old → HubLockInvariant premise lanes new
    → section old new
    → IsPossibleAtHub premise lanes section
possible_at_hub premise lanes section old new kept keeps leads = record {
  old = old;
  kept = kept;
  new = new;
  keeps = keeps;
  leads = leads;
}
