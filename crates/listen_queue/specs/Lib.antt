pub use Rattle.net_base.specs.Directory
