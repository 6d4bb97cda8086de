use Rattle.std.proofs.Common.{sym, ap, ◌∙◌, List}
use Rattle.net_base.specs.declared.actor.Call.{Call}
use Rattle.history_reader.specs.ReplyRows as spec
use Rattle.history_reader.proofs.Loops.{added, calls_on, each_shorter}
use Rattle.history_reader.proofs.calls.each_call.Goals as goal

pub loop-call-smaller : goal.loop-call-smaller
loop-call-smaller c = each_shorter c.loop-call.rest c.in-Some.call c.in-Some.behind (sym c.call.ensures ∙ c.in-Some.is)

pub loop-call-preserved : goal.loop-call-preserved
loop-call-preserved c =
    calls_on _ c.loop-call.calls c.loop-call.rest c.call.result c.in-Some.call c.in-Some.behind c.loop-call.invariant c.call.ensures c.in-Some.is
    ∙ ap (λ (cs : List Call). added cs (spec.each_call c.in-Some.behind)) (sym c.in_ok-push.ensures.ok)
