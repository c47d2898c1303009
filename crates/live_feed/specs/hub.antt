-- What the consolidator's lock keeps, and its sections (hub_lanes).
pub use Rattle.hub_lanes.specs.Hubs
pub use Rattle.hub_lanes.specs.Sections
pub use Rattle.hub_lanes.specs.Batches
pub use Rattle.hub_lanes.specs.Offers
pub use Rattle.hub_lanes.specs.Turns
