use Rattle.std.proofs.Common.{◌≡◌, ◌+◌, ◌∙◌, ap, arith, length, sym}
use Rattle.net_base.specs.Next.{zone_of}
use Rattle.agenda.specs.Given.{task_at}
use Rattle.agenda.proofs.Backing.{begun_own, goes_at_first}
use Rattle.agenda.proofs.Dealing.{deals_more, next_caller, next_fresh}
use Rattle.agenda.proofs.tasks.players_of.Goals as goal

pub place_task-task-requires : goal.place_task-task-requires
place_task-task-requires g c =
    let guest = c.in-Some.guest in
    let n = next_caller _ _ _ _ _ guest _ c.loop-guest.invariant.0 c.in-Some.ensures.steps.0 in
    record {
      begun =
          begun_own g.T.OwnTask.asks g.T.OwnTask.after g.T.OwnTask.Keeps c.args.tasks.items c.take-own.result guest.caller c.requires.begun
          (c.take-own.ensures.there ∙ (ap (task_at c.loop-guest.tasks.items) c.caller-caller.ensures ∙ c.loop-guest.invariant.1 guest.caller (omega (arith, n))));
    }

pub new-player-requires-clause-fresh : goal.new-player-requires-clause-fresh
new-player-requires-clause-fresh g c = next_fresh _ _ _ _ _ c.in-Some.guest _ c.loop-guest.invariant.0 c.in-Some.ensures.steps.0

pub new-player-requires-clause-task : goal.new-player-requires-clause-task
new-player-requires-clause-task g c =
    let guest = c.in-Some.guest in
    let n = next_caller _ _ _ _ _ guest _ c.loop-guest.invariant.0 c.in-Some.ensures.steps.0 in
    goes_at_first g.T.OwnTask.asks g.T.OwnTask.after g.T.OwnTask.Keeps g.J.Placing.tasks g.J.Placing.world c.args.world.now c.args.tasks.items
    c.loop-guest.tasks.items c.take-own.result guest.caller c.caller-caller.result c.place_task-task.result (sym c.requires.world) c.caller-caller.ensures
    c.take-own.ensures.there (c.loop-guest.invariant.1 guest.caller (omega (arith, n))) (c.requires.given guest.caller) c.place_task-task.ensures

pub loop-guest-preserved : goal.loop-guest-preserved
loop-guest-preserved g c =
    let l = c.loop-guest in
    let guest = c.in-Some.guest in
    let n = next_caller _ _ _ _ _ guest _ l.invariant.0 c.in-Some.ensures.steps.0 in
    let more : c.add.new.self.callers ≡ l.players.callers + 1 = ap (λ x. x.callers) c.in_ok-add.ensures.ok in (
      deals_more (zone_of g.J.Placing.world) (length c.args.guests.items) l.players.callers _ _ guest _ l.invariant.0 c.in-Some.ensures.steps.0
          c.add.new.self.callers _ more c.in-Some.ensures.steps.1,
      λ k le. c.take-own.ensures.rest k (omega (arith, le, more, n, c.caller-caller.ensures)) ∙ l.invariant.1 k (omega (arith, le, more)),
    )
