use Rattle.std.proofs.Common.{◌≡◌, ◌∙◌, List, slice_get, ap, sym}
use Rattle.net_base.specs.Calm.{awaited_moment}
use Rattle.plain_runner.specs.declared.caller.Caller.{Caller}
use Rattle.live_run.proofs.PlaceLists.{got}
use Rattle.live_run.proofs.Rests.{not_true}
use Rattle.live_run.proofs.round.waits_on.Goals as goal

pub returns-in-Some : goal.returns-in-Some
returns-in-Some c truth w tracks n is =
    let caller = c.in-Some.caller.now in
    let there = ap (λ (ks : List Caller). slice_get ks c.args.script) (sym c.deref.ensures.value)
    ∙ got c.deref.result.now c.args.script caller c.in-Some.ensures.lookup.3.0 c.in-Some.ensures.lookup.1 in
    c.waits_before.ensures (not_true c.waits_before.result truth) n (ap awaited_moment (tracks.callers_are.each c.args.script caller there).stands.next_is ∙ is)
