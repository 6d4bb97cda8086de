use Rattle.net_model.proofs.CasesIl.{lossy_is_legal, lossy_is_timed, lossy_is_done, lossy_is_the_run}
use Rattle.net_model.proofs.cases.a_lost_frame_is_sent_again.Goals as goal

pub returns : goal.returns
returns c = record { legal = lossy_is_legal; timed = lossy_is_timed; done = lossy_is_done; in_rounds = lossy_is_the_run }
