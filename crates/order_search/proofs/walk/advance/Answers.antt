use Rattle.std.proofs.Common.{arith, refl}
use Rattle.order_search.proofs.Walking.{fits, walked}
use Rattle.order_search.proofs.walk.advance.Goals as goal

pub returns-clause-is : goal.returns-clause-is
returns-clause-is c =
    let w = c.args.world.now in
    let old = c.args.walk.now in
    walked c.preemptions_grow.ensures.entry c.preemptions_grow.ensures.last c.costs_are.ensures.within w old _ c.args.caller c.cost_of-early.result
    c.in_ok-entry.entry c.requires.walk c.requires.goes c.cost_of-early.ensures c.in_ok-entry.ensures c.in_ok-push.ensures.ok refl refl
    c.finished_of-step.result c.len-stamp.result c.finished_of-step.ensures c.len-stamp.ensures c.note_entry.ensures

pub returns-clause-grows : goal.returns-clause-grows
returns-clause-grows c = record { entry = c.in_ok-entry.entry; history_is = c.in_ok-entry.ensures.history_is; caller_is = c.in_ok-entry.ensures.caller_is }

pub overflow_add-walk : goal.overflow_add-walk
overflow_add-walk c =
    let w = c.args.world.now in
    let old = c.args.walk.now in
    omega (
      arith,
      fits w old c.cost_of-early.result c.args.caller c.requires.walk
          (c.histories_are_short.ensures.few w old.runner.history.entries c.requires.walk.tracks.history.world c.requires.walk.tracks.history.legal)
          c.cost_of-early.ensures (c.costs_are.ensures.within w old.runner.history.entries c.args.caller),
    )
