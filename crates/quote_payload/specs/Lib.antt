pub mod Payload
pub mod Written
pub mod ItemLaws
