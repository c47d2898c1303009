pub mod Lines
pub mod SinkEvents
pub mod TextPages
pub mod TextPageLaws
pub mod EventLines
pub mod VenueGapTexts
pub mod VenueGaps
