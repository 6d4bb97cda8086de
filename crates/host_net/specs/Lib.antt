pub mod Playing
pub mod Groups
pub mod Advancing
pub mod Answering
pub use Rattle.net_locks.specs.Guests
pub use Rattle.net_guests.specs.Visits
pub use Rattle.net_guests.specs.Deciding
pub use Rattle.net_base.specs.Requests
pub use Rattle.script_task.specs.Requests as Rooms
