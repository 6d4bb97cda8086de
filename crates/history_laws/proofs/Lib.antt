pub mod Takers
pub mod Histories
pub mod Short
pub mod Ordered
pub mod Owed
pub mod DirPairs
pub mod PairsOnce
pub mod StepEvents
pub mod CallEvents
pub mod Limits
pub mod Callers
pub mod Asked
pub mod Shared
mod ConvTable
mod DirTable
mod ActorTable
mod Waiting
mod Cores
mod Copies
pub mod Calming
pub mod CalmLimits
pub mod Members
pub mod Targets
pub mod CallerHistories
pub mod Duties
pub mod Slots
pub mod DirRows
pub mod ConvRows
pub mod Worlds
pub mod Least
pub mod Keeping
pub mod New
pub mod Entries
pub mod Always
