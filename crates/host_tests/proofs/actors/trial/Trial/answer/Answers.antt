use Rattle.std.proofs.Common.{◌≡◌, true, arith}
use Rattle.host_tests.specs.Tried.{tried_world}
use Rattle.host_tests.proofs.Trying.{can_step, led_more, tried_has}
use Rattle.host_tests.proofs.actors.trial.Trial.answer.Goals as goal

pub step-requires-clause-ready : goal.step-requires-clause-ready
step-requires-clause-ready c =
    let ready : c.ready.result ≡ true = c.if-not-ready.false in
    can_step tried_world c.self.inside.actors c.self.inside.works c.args.name c.args.now c.args.work.now c.ready.result c.self.invariant
    (omega (arith, c.if-self-ge1000.false)) (tried_has c.args.name c.requires.among) ready (λ u states. c.ready.ensures u states)

pub invariant_of-self-2 : goal.invariant_of-self-2
invariant_of-self-2 c =
    led_more tried_world c.self.inside.actors c.step.new.self c.self.inside.works c.args.name c.args.now c.args.work.now c.in_ok-outcome.outcome c.self.invariant
    (tried_has c.args.name c.requires.among) c.in_ok-outcome.ensures.ok
