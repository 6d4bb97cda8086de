use Rattle.net_model.proofs.CasesUdp.{datagram_is_legal, datagram_is_timed, datagram_is_done, datagram_is_the_run}
use Rattle.net_model.proofs.cases.a_datagram_goes.Goals as goal

pub returns : goal.returns
returns c = record { legal = datagram_is_legal; timed = datagram_is_timed; done = datagram_is_done; in_rounds = datagram_is_the_run }
