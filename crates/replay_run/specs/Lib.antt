pub mod ToldHeadline
pub mod Events
pub mod Full
pub mod Moving
pub mod Printed
