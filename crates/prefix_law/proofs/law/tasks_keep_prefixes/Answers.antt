use Rattle.prefix_law.proofs.NoPeer.{alone}
use Rattle.prefix_law.proofs.InOrders.{in_order}
use Rattle.prefix_law.proofs.UdpReads.{was_written}
use Rattle.prefix_law.proofs.law.tasks_keep_prefixes.Goals as goal

pub returns : goal.returns
returns c = λ ts w h world legal. record {
  in_order = λ e f il is. in_order w h e f world legal il is;
  alone = λ e il none. alone w h e world legal il none;
  datagrams = λ e k count text udp is. was_written w h e k count text world legal udp is;
}
