-- A feed that isn't open yet.
pub mod Feeds
