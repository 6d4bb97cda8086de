use Rattle.live_answers.specs.Speech.{speech}
use Rattle.live_run.specs.Hearing.{Hears}
use Rattle.live_run.proofs.Hearing.{ends_told, hears_on, hears_same}
use Rattle.live_run.proofs.playing.end_round.Goals as goal

pub returns-then-is_some_idle-clause-heard : goal.returns-then-is_some_idle-clause-heard
returns-then-is_some_idle-clause-heard g c =
    hears_same c.args.world.now c.args.round.now c.end_unheard.new.round (speech g.K.Sink.held c.args.voice.now) c.end_unheard.ensures.runner c.end_unheard.ensures.currents

pub returns-in-Yes-clause-heard : goal.returns-in-Yes-clause-heard
returns-in-Yes-clause-heard g c =
    let s = speech g.K.Sink.held c.args.voice.now in
    hears_on c.args.world.now c.args.round.now c.end_unheard.new.round c.take_move.new.round s s (speech g.K.Sink.held c.take_move.new.voice)
    (hears_same c.args.world.now c.args.round.now c.end_unheard.new.round s c.end_unheard.ensures.runner c.end_unheard.ensures.currents) c.in_ok-take_move.ensures.heard

pub returns-in-Late-clause-heard : goal.returns-in-Late-clause-heard
returns-in-Late-clause-heard g c =
    let s = speech g.K.Sink.held c.args.voice.now in
    hears_on c.args.world.now c.args.round.now c.end_unheard.new.round c.take_move.new.round s s (speech g.K.Sink.held c.take_move.new.voice)
    (hears_same c.args.world.now c.args.round.now c.end_unheard.new.round s c.end_unheard.ensures.runner c.end_unheard.ensures.currents) c.in_ok-take_move.ensures.heard

pub returns-in_ok-report_unanswered-in-No-clause-heard : goal.returns-in_ok-report_unanswered-in-No-clause-heard
returns-in_ok-report_unanswered-in-No-clause-heard g c =
    let w = c.args.world.now in
    let s = speech g.K.Sink.held c.args.voice.now in
    let t = speech g.K.Sink.held c.take_move.new.voice in
    let hears : Hears w c.args.round.now c.take_move.new.round s t =
    hears_on w c.args.round.now c.end_unheard.new.round c.take_move.new.round s s t
    (hears_same w c.args.round.now c.end_unheard.new.round s c.end_unheard.ensures.runner c.end_unheard.ensures.currents) c.in_ok-take_move.ensures.heard in
    ends_told w c.args.round.now c.take_move.new.round s t (speech g.K.Sink.held c.report_unanswered.new.voice) c.in_ok-take_move.ensures.running hears c.in_ok-report_unanswered-in-No.ensures
