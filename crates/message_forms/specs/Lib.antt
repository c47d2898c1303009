pub mod Datagrams
pub mod Payloads
pub mod PayloadLaws
