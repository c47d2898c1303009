-- What a venue's lock keeps, its sections, and what is counted of its lines (venue_lines).
pub use Rattle.venue_lines.specs.Brought
pub use Rattle.venue_lines.specs.Seats
pub use Rattle.venue_lines.specs.Cells
pub use Rattle.venue_lines.specs.Sections
pub use Rattle.venue_lines.specs.Datagrams
pub use Rattle.venue_lines.specs.Sources
pub use Rattle.venue_lines.specs.Statuses
pub use Rattle.venue_lines.specs.Starts
