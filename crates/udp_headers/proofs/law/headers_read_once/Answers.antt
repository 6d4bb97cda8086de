use Rattle.udp_headers.proofs.HeaderLaws.{spells_once}
use Rattle.udp_headers.proofs.law.headers_read_once.Goals as goal

pub returns : goal.returns
returns c = spells_once
