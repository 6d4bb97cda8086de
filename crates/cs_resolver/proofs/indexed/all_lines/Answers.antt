use Rattle.std.proofs.Common.{sym, ◌∙◌, arith}
use Rattle.cs_resolver.specs.Probes.{service_found}
use Rattle.cs_resolver.specs.Targets.{is_net_named}
use Rattle.cs_resolver.proofs.Kept.{part_within}
use Rattle.cs_resolver.proofs.indexed.all_lines.Goals as goal

pub returns-in_err-add_lines-clause-cost : goal.returns-in_err-add_lines-clause-cost
returns-in_err-add_lines-clause-cost g c =
    let part = part_within (is_net_named c.args.query.net.now) (service_found c.args.index.now c.args.query.service.now) c.args.nets.now c.loop-net.net-index _ (omega (arith, c.loop-net-test.true)) (sym c.is_named.ensures ∙ c.if-is_named.true) in
    omega (arith, part, c.loop-net.invariant.1, c.add_lines.ensures.cost)
