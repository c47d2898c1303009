-- The report of statistics.
pub mod Figures
pub mod ReportTexts
pub mod Reports
