use Rattle.formats.proofs.DatagramLaws.{packet_again}
use Rattle.formats.proofs.law.packets_are_read.Goals as goal

pub returns : goal.returns
returns c = packet_again
