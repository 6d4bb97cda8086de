use Rattle.std.proofs.Common.{List, ◌∙◌, ap, arith, length, sym, subst}
use Rattle.host_net.specs.Groups.{all_members, visits}
use Rattle.host_net.specs.Playing.{AreVisitsPlayed}
use Rattle.net_guests.specs.Visits.{HasGuest, Visit}
use Rattle.agenda.proofs.Backing.{backing_all, backing_none, backing_step}
use Rattle.agenda.proofs.tasks.ended_of.Goals as goal

pub loop-part-init : goal.loop-part-init
loop-part-init g c =
    backing_none g.T.OwnTask.asks g.T.OwnTask.after g.T.OwnTask.Keeps g.J.Placing.tasks g.J.Placing.world (visits (all_members c.args.players.groups))
    c.in_ok-parts.parts.items _ _ c.in_ok-guests.guests.items c.in_ok-tasks.tasks.items
    (omega (arith, c.into_iter-part-iterator.ensures.into_iter_gives.1, c.in_ok-parts.parts.ok.0, ap length c.into_iter-part-iterator.ensures.into_iter_gives.0))
    c.in_ok-guests.ensures.items c.into_iter-part-iterator.ensures.into_iter_gives.0 c.in_ok-parts.ensures.same c.in_ok-parts.ensures.goes
    (c.in_ok-tasks.ensures.many ∙ c.requires.places) c.in_ok-tasks.ensures.none

pub loop-part-preserved : goal.loop-part-preserved
loop-part-preserved g c =
    let l = c.loop-part in
    let p = c.put_back.ensures in
    backing_step g.T.OwnTask.asks g.T.OwnTask.after g.T.OwnTask.Keeps g.J.Placing.tasks g.J.Placing.world (visits (all_members c.args.players.groups))
    c.in-Some.part _ _ _ _ l.guests.items c.push.new.self.items l.tasks.items c.put_back.new.tasks.items c.caller.result l.invariant
    c.in-Some.ensures.steps.0 c.in-Some.ensures.steps.1 c.caller.ensures p.many p.own p.script p.rest c.in_ok-push.ensures.items

pub returns-clause-all : goal.returns-clause-all
returns-clause-all g c = λ k lt.
    subst (λ (vs : List Visit). HasGuest k vs)
    (c.in_ok-parts.ensures.same ∙ sym (backing_all g.T.OwnTask.asks g.T.OwnTask.after g.T.OwnTask.Keeps g.J.Placing.tasks g.J.Placing.world
    (visits (all_members c.args.players.groups)) _ _ c.loop-part.guests.items c.loop-part.tasks.items c.loop-part.invariant c.in-None.ensures.steps.0))
    (c.in_ok-parts.ensures.all k lt)

pub returns-clause-plays : goal.returns-clause-plays
returns-clause-plays g c =
    subst (λ (vs : List Visit). AreVisitsPlayed g.J.Placing.tasks g.J.Placing.world vs)
    (c.in_ok-parts.ensures.same ∙ sym (backing_all g.T.OwnTask.asks g.T.OwnTask.after g.T.OwnTask.Keeps g.J.Placing.tasks g.J.Placing.world
    (visits (all_members c.args.players.groups)) _ _ c.loop-part.guests.items c.loop-part.tasks.items c.loop-part.invariant c.in-None.ensures.steps.0))
    c.in_ok-parts.ensures.plays

pub returns-clause-many : goal.returns-clause-many
returns-clause-many g c = c.loop-part.invariant.many

pub returns-clause-theirs : goal.returns-clause-theirs
returns-clause-theirs g c = c.loop-part.invariant.theirs
