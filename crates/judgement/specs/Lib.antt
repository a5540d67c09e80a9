pub mod Findings
pub mod Verdicts
