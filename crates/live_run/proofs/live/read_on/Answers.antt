use Rattle.std.proofs.Common.{◌≡◌, Option, Vec, Global, sym, subst}
use Rattle.std.proofs.lemmas.Result.{IfOk-weaker}
use Rattle.live_answers.specs.declared.current.Current.{Current}
use Rattle.live_answers.specs.Speech.{speech}
use Rattle.live_run.specs.Heard.{AreHeard}
use Rattle.live_run.proofs.Hearing.{heard_no_answer}
use Rattle.live_run.proofs.live.read_on.Goals as goal

pub returns-in-Some-clause-heard : goal.returns-in-Some-clause-heard
returns-in-Some-clause-heard g c =
    let h = c.args.rest.now.run.history.entries in
    let s = speech g.K.Sink.held c.args.voice.now in
    IfOk-weaker c.withdraw.result _ _ (λ w made first before are heard. made first before are
    (heard_no_answer first before c.args.world h c.apply_next.new.places.currents.items s (speech g.K.Sink.held c.apply_next.new.voice) c.in_ok-script.ensures.says
    (subst (λ (vs : Vec (Option Current) Global). AreHeard first before c.args.world h vs.items s) (sym c.in_ok-script.ensures.currents) heard))) c.withdraw.ensures.heard

pub returns-in-None-clause-heard : goal.returns-in-None-clause-heard
returns-in-None-clause-heard g c first before are heard =
    let h = c.args.rest.now.run.history.entries in
    let s = speech g.K.Sink.held c.args.voice.now in
    heard_no_answer first before c.args.world h c.apply_next.new.places.currents.items s (speech g.K.Sink.held c.apply_next.new.voice) c.in_ok-script.ensures.says
    (subst (λ (vs : Vec (Option Current) Global). AreHeard first before c.args.world h vs.items s) (sym c.in_ok-script.ensures.currents) heard)
