pub mod Lines
pub mod Steps
pub mod Speech
pub use Rattle.live_lines.specs.AnswerLines
pub use Rattle.live_lines.specs.OutputLines
