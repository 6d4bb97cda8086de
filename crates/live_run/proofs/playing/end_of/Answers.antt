use Rattle.std.proofs.Common.{◌≡◌, List, Some, subst}
use Rattle.net_base.specs.declared.history.Entry.{Entry}
use Rattle.net_base.specs.Net.{moment}
use Rattle.transcript.specs.RunStatus.{IsRunStatusOf}
use Rattle.live_run.proofs.playing.end_of.Goals as goal

pub returns-clause-status : goal.returns-clause-status
returns-clause-status c =
    let w = c.args.world.now in
    let made : IsRunStatusOf w c.in_ok-runner.runner.history.entries (record { answered = c.answered.result; end = Some c.in-Some.end }) =
    record { legal = c.in_ok-runner.ensures.tracks.history.legal; answered = c.answered.ensures; end = c.in-Some.ensures } in
    subst (λ (h : List Entry). IsRunStatusOf w h (record { answered = c.answered.result; end = Some c.in-Some.end })) c.in_ok-runner.ensures.history made

pub returns-clause-moment : goal.returns-clause-moment
returns-clause-moment c =
    subst (λ (h : List Entry). c.in_ok-runner.runner.moment ≡ moment c.args.world.now h) c.in_ok-runner.ensures.history c.in_ok-runner.ensures.tracks.moment_is
