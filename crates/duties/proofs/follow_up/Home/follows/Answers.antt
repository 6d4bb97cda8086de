use Rattle.std.proofs.Common.{None}
use Rattle.duties.proofs.follow_up.Home.follows.Goals as goal

pub returns-in-Reserve-clause-list : goal.returns-in-Reserve-clause-list
returns-in-Reserve-clause-list c = rw c.in-Reserve.is (c.begins.ensures.list c.args.with)

pub returns-in-Grant-clause-list : goal.returns-in-Grant-clause-list
returns-in-Grant-clause-list c = rw c.in-Grant.is (c.connects.ensures.list (record { ip = 0; port = 0 }) None c.args.with)

pub returns-in-Announce-clause-list : goal.returns-in-Announce-clause-list
returns-in-Announce-clause-list c = rw c.in-Announce.is (c.announces.ensures.list c.args.with)

pub returns-in-Bind-clause-list : goal.returns-in-Bind-clause-list
returns-in-Bind-clause-list c = rw c.in-Bind.is (c.binds.ensures.list c.args.with)

pub returns-in-Listen-clause-list : goal.returns-in-Listen-clause-list
returns-in-Listen-clause-list c = rw c.in-Listen.is (c.claims.ensures.list 0 c.args.with)

pub returns-in-Withdraw-clause-list : goal.returns-in-Withdraw-clause-list
returns-in-Withdraw-clause-list c = rw c.in-Withdraw.is (c.closes.ensures.withdraw 0 0 c.args.with)

pub returns-in-Release-clause-list : goal.returns-in-Release-clause-list
returns-in-Release-clause-list c = rw c.in-Release.is (c.closes-in-Release.ensures.release 0 0 c.args.with)
