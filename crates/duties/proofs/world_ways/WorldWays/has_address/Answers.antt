use Rattle.std.proofs.Common.{◌≡◌, ◌∙◌, false, rules}
use Rattle.duties.specs.WaysOf.{has_at}
use Rattle.duties.proofs.Hosts.{has_kept}
use Rattle.duties.proofs.world_ways.WorldWays.has_address.Goals as goal

pub returns-in-Some : goal.returns-in-Some
returns-in-Some c = λ w are.
    let kept : c.has.result ≡ has_at c.args.self.now c.args.host c.args.ip = search rules in
    kept ∙ has_kept w c.args.self.now c.args.host c.args.ip are

pub returns-in-None : goal.returns-in-None
returns-in-None c = λ w are.
    let kept : false ≡ has_at c.args.self.now c.args.host c.args.ip = search rules in
    kept ∙ has_kept w c.args.self.now c.args.host c.args.ip are
