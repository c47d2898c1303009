pub mod OneRunLaw
pub mod EveryRun
pub mod VenueMoves
pub mod Offers
pub mod MachineMoves
pub mod WholeMachine
mod ItemOrder
mod FirstNotice
