use Rattle.std.proofs.Common.{Some, Ok}
use Rattle.live_answers.specs.Speech.{speech}
use Rattle.netlive.specs.Ends.{NoMemory}
use Rattle.netlive.proofs.Writing.{fresh_written}
use Rattle.netlive.proofs.top.serve.Goals as goal

pub returns-in_default : goal.returns-in_default
returns-in_default g c = NoMemory

pub returns : goal.returns
returns g c =
    c.tell_run.ensures c.args.world (g.K.Sink.held c.args.voice.now.sink) c.in-Ok.ensures.live
    (c.in-Ok.ensures.told (g.K.Sink.held c.args.voice.now.sink) c.requires.fresh.none (fresh_written (speech g.K.Sink.held c.args.voice.now) c.requires.fresh))
