use Rattle.std.proofs.Common.{◌≡◌, ◌∙◌, rules}
use Rattle.duties.specs.WaysOf.{way_at}
use Rattle.duties.proofs.Hosts.{way_kept}
use Rattle.duties.proofs.world_ways.WorldWays.way.Goals as goal

pub returns-in_err-ways_of : goal.returns-in_err-ways_of
returns-in_err-ways_of c = λ w are.
    let kept : c.from_residual.result ≡ way_at c.args.self.now c.args.host c.args.ip = search rules in
    kept ∙ way_kept w c.args.self.now c.args.host c.args.ip are

pub returns : goal.returns
returns c = λ w are.
    let kept : c.to.result ≡ way_at c.args.self.now c.args.host c.args.ip = search rules in
    kept ∙ way_kept w c.args.self.now c.args.host c.args.ip are
