use Rattle.udp_headers.proofs.HeaderLaws.{headers_again}
use Rattle.udp_headers.proofs.law.headers_are_read.Goals as goal

pub returns : goal.returns
returns c = headers_again
