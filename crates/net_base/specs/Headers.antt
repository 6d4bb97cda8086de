-- What an entry shows of a packet.
use Rattle.std.specs.Prelude.{length}
use Rattle.net_base.specs.declared.packet.Body.{Body}
use Rattle.net_base.specs.declared.packet.Body.TheVariants as body
use Rattle.net_base.specs.declared.packet.BodyHeader.{BodyHeader}
use Rattle.net_base.specs.declared.packet.BodyHeader.TheVariants as shown
use Rattle.net_base.specs.declared.packet.Header.{Header}
use Rattle.net_base.specs.declared.packet.Packet.{Packet}

abbrev pub body_header : Body → BodyHeader
body_header (body.Il m) = shown.Il m.kind m.spec m.id m.ack (length m.text)
body_header (body.Udp text) = shown.Udp (length text)

-- the packet with the length of its text in the text's place
abbrev pub header : Packet → Header
header p = record { src = p.src; dst = p.dst; ttl = p.ttl; tos = p.tos; body = body_header p.body }
