pub mod Arrivals
pub mod Counts
pub mod EndRows
pub mod Ends
pub mod Following
pub mod IlCounts
