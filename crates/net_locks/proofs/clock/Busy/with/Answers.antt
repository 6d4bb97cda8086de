use Rattle.net_locks.proofs.Found.{finds_with, or_false, or_true}
use Rattle.net_locks.proofs.clock.Busy.with.Goals as goal

pub returns-then-self : goal.returns-then-self
returns-then-self c = λ goes full cs finds passes is.
    finds_with goes full cs c.args.caller c.args.self c.args.full finds passes is c.lesser.result c.lesser.ensures c.args.self.full
    (or_true c.args.self.full c.args.full c.if-self.true)

pub returns-else-self : goal.returns-else-self
returns-else-self c = λ goes full cs finds passes is.
    finds_with goes full cs c.args.caller c.args.self c.args.full finds passes is c.lesser.result c.lesser.ensures c.args.full
    (or_false c.args.self.full c.args.full c.if-self.false)
