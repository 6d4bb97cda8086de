use Rattle.std.proofs.lemmas.Result.{IfOk-weaker}
use Rattle.live_answers.specs.Speech.{speech}
use Rattle.live_run.proofs.live.supply.Goals as goal

pub returns-in-Begins-clause-heard : goal.returns-in-Begins-clause-heard
returns-in-Begins-clause-heard g c =
    IfOk-weaker c.begin.result _ _ (λ w made first before are given heard. made (speech g.K.Sink.held c.args.voice.now) first before are heard) c.begin.ensures.heard

pub returns-in-Late-clause-heard : goal.returns-in-Late-clause-heard
returns-in-Late-clause-heard g c =
    IfOk-weaker c.replace_late.result _ _ (λ w made first before are given heard. made (speech g.K.Sink.held c.args.voice.now) first before given heard) c.replace_late.ensures.heard

pub returns-in-Reads-clause-heard : goal.returns-in-Reads-clause-heard
returns-in-Reads-clause-heard g c = IfOk-weaker c.read_on.result _ _ (λ w made first before are given heard. made first before given heard) c.read_on.ensures.heard

pub returns-in-Ends-clause-heard : goal.returns-in-Ends-clause-heard
returns-in-Ends-clause-heard g c first before are given heard = heard
