pub mod HistoryJson
pub mod Members
