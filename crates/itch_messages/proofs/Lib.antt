pub mod FormTable
pub mod ReadBack
