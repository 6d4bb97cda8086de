use Rattle.std.proofs.Common.{◌≡◌, ap, subst, List, Some, length, slice_get, arith}
use Rattle.net_base.specs.declared.history.Entry.{Entry}
use Rattle.net_base.specs.declared.world.Script.{Script}
use Rattle.plain_runner.specs.Callers.{IsCallerKept}
use Rattle.replay_views.proofs.steps.put_scripts.Goals as goal
use Rattle.plain_runner.proofs.Shared.{got}

pub put_script-requires-clause-caller : goal.put_script-requires-clause-caller
put_script-requires-clause-caller c =
    let w = c.args.world.now in
    let r = c.args.record.now.runner in
    let l = c.loop-number in
    subst (λ (h : List Entry). IsCallerKept w h l.number c.index-caller.result.now) c.requires.followed.history_is
    (c.requires.followed.tracks.callers_are.each l.number c.index-caller.result.now
    (got r.callers.items l.number c.index-caller.result.now
    (omega (arith, c.loop-number-test.true, ap (λ (ss : List Script). length ss) c.as_slice-scripts.ensures, c.requires.followed.tracks.callers_are.count))
    c.index-caller.ensures))

pub put_script-requires-clause-script : goal.put_script-requires-clause-script
put_script-requires-clause-script c =
    let l = c.loop-number in
    subst (λ (ss : List Script). slice_get ss l.number ≡ Some c.index-scripts-number.result) c.as_slice-scripts.ensures
    (got c.as_slice-scripts.result.now l.number c.index-scripts-number.result c.loop-number-test.true c.index-scripts-number.is)
