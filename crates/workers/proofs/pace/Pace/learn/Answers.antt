use Rattle.workers.proofs.Counting.{call_seen}
use Rattle.workers.proofs.pace.Pace.learn.Goals as goal

pub returns : goal.returns
returns c = λ s was. call_seen s c.args.paid c.args.self.now c.vain_after-self.result c.vain_after-self.ensures was
