use Rattle.net_model.proofs.CasesIl.{refused_is_legal, refused_is_timed, refused_is_done, refused_is_the_run}
use Rattle.net_model.proofs.cases.a_call_is_refused.Goals as goal

pub returns : goal.returns
returns c = record { legal = refused_is_legal; timed = refused_is_timed; done = refused_is_done; in_rounds = refused_is_the_run }
