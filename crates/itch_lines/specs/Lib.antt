-- what a venue's lock keeps, and its sections
pub mod Cells
pub mod Sections
-- what a venue shows
pub mod Shown
-- what a venue has come to
pub mod Ends
-- what a line brings
pub mod Lines
pub mod FeedLines
-- laws, which the line cites
pub mod laws
