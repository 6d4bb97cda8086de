pub mod Windows
pub mod InTurn
pub mod Stands
pub use Rattle.net_base.specs.IlEnd
pub use Rattle.net_base.specs.IlTable
pub use Rattle.il_queues.specs.Reading
