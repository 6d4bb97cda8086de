pub mod Lines
pub mod LinesBack
pub mod Results
pub mod Steps
