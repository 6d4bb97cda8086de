use Rattle.prefix_law.proofs.NoPeer.{alone}
use Rattle.prefix_law.proofs.InOrders.{in_order}
use Rattle.prefix_law.proofs.UdpReads.{was_written}
use Rattle.prefix_law.proofs.law.prefix_law.Goals as goal

pub returns : goal.returns
returns c = record {
  alone = λ w h e world legal il none. alone w h e world legal il none;
  datagrams = λ w h e k count text world legal udp is. was_written w h e k count text world legal udp is;
  in_order = λ w h e f world legal il is. in_order w h e f world legal il is;
}
