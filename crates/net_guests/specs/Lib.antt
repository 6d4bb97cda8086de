pub mod Visits
pub mod Deciding
pub mod Lent
pub use Rattle.net_locks.specs.Guests
pub use Rattle.net_base.specs.Requests
pub use Rattle.script_task.specs.Requests as Rooms
