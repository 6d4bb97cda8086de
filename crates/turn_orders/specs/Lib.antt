pub mod Turns
pub mod Preemptions
pub mod Results
pub mod Orders
pub mod Paths
pub mod WorkedOrders
