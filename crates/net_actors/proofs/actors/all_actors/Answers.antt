use Rattle.std.proofs.Common.{ap, subst, sym, ◌+◌, ◌∙◌}
use Rattle.net_base.specs.Actors.{has_actor, opening_actor}
use Rattle.net_actors.specs.Numbers.{number_in_world}
use Rattle.net_actors.specs.Together.{AreFirst}
use Rattle.net_actors.proofs.Placed.{at_number, number_at, one_more}
use Rattle.net_actors.proofs.actors.all_actors.Goals as goal

pub loop-number-preserved : goal.loop-number-preserved
loop-number-preserved c =
    let w = c.args.world.now in
    let at = c.actor_at.ensures in
    let actor = c.in_ok-actor.ensures in
    let has = at_number w c.args.hosts c.args.media c.actor_at.result c.requires.hosts c.requires.media at.among in
    let number = number_at w c.args.hosts c.args.media c.actor_at.result c.loop-number.number c.requires.hosts c.requires.media at.number in
    subst (AreFirst w (c.loop-number.number + 1)) (sym c.in_ok-push.ensures.items)
    (one_more w c.loop-number.number c.loop-number.actors.items c.in_ok-actor.actor c.loop-number.invariant actor.of (ap (has_actor w) actor.name ∙ has)
    (ap (number_in_world w) actor.name ∙ number) (actor.opening ∙ ap (opening_actor w.timers) (sym actor.name)))
