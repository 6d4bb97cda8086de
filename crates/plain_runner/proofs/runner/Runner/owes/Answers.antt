use Rattle.plain_runner.proofs.Could.{owes_told}
use Rattle.plain_runner.proofs.Recorded.{got}
use Rattle.plain_runner.proofs.runner.Runner.owes.Goals as goal

pub returns : goal.returns
returns c = λ w s.
    let k = c.index.result.now in
    owes_told w c.args.self.now c.args.caller k c.is_empty.result s (got c.args.self.now.callers.items c.args.caller k c.requires c.index.ensures) c.is_empty.ensures
