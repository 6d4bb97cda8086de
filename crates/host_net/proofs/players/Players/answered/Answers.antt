use Rattle.std.proofs.Common.{◌<◌, length, rules, ap, arith}
use Rattle.net_base.specs.declared.world.World.{World}
use Rattle.host_net.specs.Groups.{all_members}
use Rattle.host_net.proofs.Answered.{answers_next}
use Rattle.host_net.proofs.players.Players.answered.Goals as goal
use Rattle.net_base.proofs.Shared.{script_at}

pub answered_of-requires-clause-script : goal.answered_of-requires-clause-script
answered_of-requires-clause-script g c =
    let many = ap (λ (w : World). length w.scripts) c.requires.world in
    let lt : c.loop-script.script < length g.J.Placing.world.scripts = omega (arith, many, c.loop-script-test.true, c.len-script-end.ensures) in
    script_at g.J.Placing.world c.loop-script.script lt

pub loop-script-preserved : goal.loop-script-preserved
loop-script-preserved g c =
    let w = g.J.Placing.world in
    let many = ap (λ (v : World). length v.scripts) c.requires.world in
    let lt : c.loop-script.script < length w.scripts = omega (arith, many, c.loop-script-test.true, c.len-script-end.ensures) in (
      answers_next w (all_members c.args.self.now.groups) c.loop-script.script c.loop-script.answered c.in-Some.steps lt c.in-Some.ensures.count
          c.loop-script.invariant.0,
      search (rules),
    )

pub returns-in_default-clause-none : goal.returns-in_default-clause-none
returns-in_default-clause-none g c =
    let w = g.J.Placing.world in
    let many = ap (λ (v : World). length v.scripts) c.requires.world in
    let lt : c.loop-script.script < length w.scripts =
    omega (arith, many, c.loop-script-test.true, c.len-script-end.ensures) in
    (c.loop-script.script, lt, c.in_default.ensures.none)
