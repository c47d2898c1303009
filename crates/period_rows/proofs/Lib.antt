pub mod CountSteps
pub mod HeldFigures
pub mod BestSteps
pub mod BestLists
pub mod BestMaking
pub mod SequenceTies
pub mod PeriodSteps
