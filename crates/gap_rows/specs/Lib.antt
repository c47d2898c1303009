pub mod GapCells
pub mod GapMakers
pub mod GapMakerLaws
