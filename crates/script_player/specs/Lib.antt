pub mod Players
pub use Rattle.net_base.specs.Next
