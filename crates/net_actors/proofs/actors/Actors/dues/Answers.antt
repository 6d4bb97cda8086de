use Rattle.std.proofs.Common.{◌≡◌, ap, arith, ◌∙◌}
use Rattle.net_actors.specs.Together.{Numbered, state_at_actor}
use Rattle.net_actors.proofs.DuesOf.{dues_are, dues_below, one_host}
use Rattle.net_actors.proofs.actors.Actors.dues.Goals as goal

pub loop-host-preserved : goal.loop-host-preserved
loop-host-preserved c =
    one_host (state_at_actor c.args.self.now) c.loop-host.host c.loop-host.dues.items c.add_dues.new.dues.items c.add_dues-in-loop-host.new.dues.items c.loop-host.invariant
    c.in_ok-add_dues.ensures c.in_ok-add_dues-2.ensures

pub returns : goal.returns
returns c =
    let all : c.loop-host.host ≡ c.self.inside.hosts = omega (arith, c.loop-host-test.false, c.loop-host.auto.host-end) in
    dues_are c.args.self.now c.loop-host.dues.items
    (c.loop-host.invariant ∙ ap (dues_below (state_at_actor c.args.self.now)) (all ∙ ap (λ (v : Numbered). v.hosts) c.self.view_is))
