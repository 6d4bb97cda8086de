use Rattle.std.proofs.Common.{◌+◌, sym, subst, ◌∙◌}
use Rattle.net_locks.specs.Rosters.{AreNumbered}
use Rattle.net_locks.proofs.Rows.{among_in, number_at, numbered_on}
use Rattle.net_locks.proofs.opening.names_of.Goals as goal

pub loop-number-preserved : goal.loop-number-preserved
loop-number-preserved c =
    let w = c.args.world.now in
    let a = c.actor_at.result in
    let has = sym (among_in w c.len-hosts.result c.len-media.result a c.len-hosts.ensures c.len-media.ensures) ∙ c.actor_at.ensures.among in
    let number = sym (number_at w c.len-hosts.result c.len-media.result a c.len-hosts.ensures c.len-media.ensures) ∙ c.actor_at.ensures.number in
    subst (AreNumbered w (c.loop-number.number + 1)) (sym c.in_ok-push.ensures.items)
    (numbered_on w c.loop-number.number c.loop-number.names.items a c.loop-number.invariant has number)
