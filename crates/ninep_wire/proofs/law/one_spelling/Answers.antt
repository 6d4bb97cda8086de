use Rattle.ninep_wire.proofs.Spelling.{t_one, r_one}
use Rattle.ninep_wire.proofs.law.one_spelling.Goals as goal

pub returns : goal.returns
returns c = record { requests = t_one; answers = r_one }
