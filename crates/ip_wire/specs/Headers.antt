-- A header as the definitions of the net see it.
use Rattle.formats.specs.Ipv4.{Ipv4}
use Rattle.ip_wire.specs.declared.ip.IpHeader.{IpHeader}

abbrev pub view : IpHeader → Ipv4
view h = record {
  tos = h.tos;
  ident = h.ident;
  dont_fragment = h.dont_fragment;
  ttl = h.ttl;
  proto = h.proto;
  src = h.src;
  dst = h.dst;
}
