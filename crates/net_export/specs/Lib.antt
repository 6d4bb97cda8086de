pub mod Counted
pub mod Placed
pub mod Answered
pub mod Rows
pub mod Serving
pub mod Exporting
pub mod Goings
pub mod ExportLaws
