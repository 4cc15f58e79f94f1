pub mod ReportTexts
pub mod ReportWords
