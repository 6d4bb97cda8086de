use Rattle.std.proofs.Common.{refl}
use Rattle.order_search.proofs.Forking.{ends_back, goes_on, not_open, this, turns}
use Rattle.order_search.proofs.path.Path.go_back.Goals as goal

pub returns-in-Open : goal.returns-in-Open
returns-in-Open c = λ w p r are none short.
    not_open c.in-Some.fork c.in-Open.frame
    (this w p r c.args.self.now c.loop-fork.self c.pop.new.self.items c.in-Some.fork (c.loop-fork.invariant w p r are none short) c.in-Some.ensures.items).kept
    c.in-Open.is

pub returns-in-Some-next : goal.returns-in-Some-next
returns-in-Some-next c = λ w p r are none short.
    turns w p r c.args.self.now c.loop-fork.self c.pop.new.self.items c.in-Some.fork (c.loop-fork.invariant w p r are none short) c.in-Some.ensures.items
    _ c.in-Some-next.caller refl refl c.in-Some-next.is

pub loop-fork-preserved : goal.loop-fork-preserved
loop-fork-preserved c = λ w p r are none short.
    let is = c.loop-fork.invariant w p r are none short in
    goes_on w p r c.args.self.now c.loop-fork.self c.pop.new.self.items c.in-Some.fork is c.in-Some.ensures.items
    _ refl is.pending c.in_default-next.is
