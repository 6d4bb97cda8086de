use Rattle.std.proofs.Common.{rules}
use Rattle.host_dir.proofs.Takers.{takes_is}
use Rattle.host_dir.proofs.dir.Dir.taker.Goals as goal

pub returns-then-may_take-clause-takes : goal.returns-then-may_take-clause-takes
returns-then-may_take-clause-takes c =
    takes_is c.args.self.now.dir c.args.pair c.args.packet.now c.in-Some.free c.in-Some-listener.listener
    (search rules) (search rules) (search rules) (search rules) (search rules)
