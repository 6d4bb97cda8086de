use Rattle.replay_views.proofs.standing.finished.Goals as goal
use Rattle.plain_runner.proofs.Shared.{got}

pub returns : goal.returns
returns c = λ w s st at.
    let r = c.args.runner.now in
    c.finished_steps.ensures w r.history.entries c.args.caller s
    (st.callers_are.each c.args.caller c.index.result.now (got r.callers.items c.args.caller c.index.result.now c.requires c.index.ensures)) at
