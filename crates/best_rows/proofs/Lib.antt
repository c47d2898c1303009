pub mod Quoted
pub mod CsvReading
pub mod Days
pub mod UtcReading
pub mod Digits
pub mod Marks
