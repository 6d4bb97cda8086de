pub mod Told
pub use Rattle.net_base.specs.NdbBundle
