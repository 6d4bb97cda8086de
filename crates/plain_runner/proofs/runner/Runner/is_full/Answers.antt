use Rattle.std.proofs.Common.{◌==◌, ℕ, ap}
use Rattle.plain_runner.proofs.Recorded.{got}
use Rattle.plain_runner.proofs.runner.Runner.is_full.Goals as goal

pub returns : goal.returns
returns c =
    let k = c.index.result.now in
    λ w s. ap (λ (n : ℕ). n == 131072)
    (s.callers_are.each c.args.caller k (got c.args.self.now.callers.items c.args.caller k c.requires c.index.ensures)).entries_is
