pub mod Commands
pub mod Ends
pub mod AnswerLines
pub mod Built
pub mod Checked
pub mod Runs
