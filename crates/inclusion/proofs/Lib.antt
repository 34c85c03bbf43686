pub mod FirstLines
pub mod Found
pub mod WaysRuns
