pub use Rattle.net_base.specs.UdpEnd
