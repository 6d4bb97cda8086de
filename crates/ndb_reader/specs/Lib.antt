pub mod Filed
pub mod Names
pub mod Told
pub mod Written
pub use Rattle.net_base.specs.NdbText
pub use Rattle.net_base.specs.NdbBundle
pub use Rattle.formats.specs.NdbSpelling
pub mod Chains
