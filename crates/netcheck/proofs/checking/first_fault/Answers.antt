use Rattle.std.proofs.Common.{IfOk, List, subst}
use Rattle.net_base.specs.declared.history.Entry.{Entry}
use Rattle.netcheck.specs.Judged.{IsFirst}
use Rattle.netcheck.proofs.checking.first_fault.Goals as goal

pub returns : goal.returns
returns c = subst (λ (items : List Entry). IfOk c.first_in.result (IsFirst c.args.world.now items)) c.as_slice.ensures c.first_in.ensures
