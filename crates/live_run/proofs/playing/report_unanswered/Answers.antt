use Rattle.std.proofs.Common.{arith}
use Rattle.live_answers.specs.Speech.{speech}
use Rattle.live_run.proofs.SeatLists.{told_all}
use Rattle.live_run.proofs.playing.report_unanswered.Goals as goal

pub returns : goal.returns
returns g c first before w world heard =
    let r = c.args.round.now in
    told_all c.loop-number.number first before w r.history r.places.currents.items (speech g.K.Sink.held c.loop-number.voice)
    (omega (arith, c.loop-number-test.false, c.len-number-end.ensures)) (c.loop-number.invariant first before w world heard)
