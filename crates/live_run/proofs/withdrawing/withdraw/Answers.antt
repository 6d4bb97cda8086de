use Rattle.std.proofs.lemmas.Result.{IfOk-weaker}
use Rattle.live_answers.specs.Speech.{speech}
use Rattle.live_run.proofs.withdrawing.withdraw.Goals as goal

pub returns-clause-heard : goal.returns-clause-heard
returns-clause-heard g c = IfOk-weaker c.replace.result _ _ (λ v made. made (speech g.K.Sink.held c.args.voice.now)) c.replace.ensures.heard
