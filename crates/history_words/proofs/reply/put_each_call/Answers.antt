use Rattle.history_words.proofs.Spacing.{call_more}
use Rattle.history_words.proofs.reply.put_each_call.Goals as goal

pub loop-call-preserved : goal.loop-call-preserved
loop-call-preserved c =
    call_more c.args.calls.now c.loop-call.call-index _ c.loop-call.out c.put_slot.new.out _ c.loop-call-test.true c.loop-call.invariant
    c.in_ok-put_slot.ensures
