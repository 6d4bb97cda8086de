use Rattle.plain_runner.proofs.Recorded.{got}
use Rattle.plain_runner.proofs.runner.Runner.may_turn.Goals as goal

pub returns : goal.returns
returns c = λ w s.
    let r = c.args.self.now in
    c.may_record.ensures w r.history.entries c.args.caller
    (s.callers_are.each c.args.caller c.index.result.now (got r.callers.items c.args.caller c.index.result.now c.requires c.index.ensures))
    s.are s.moment_is
