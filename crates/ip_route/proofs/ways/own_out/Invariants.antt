use Rattle.std.proofs.Common.{◌≡◌, drop}
use Rattle.ip_route.specs.Kept.{own_out}
use Rattle.ip_route.proofs.ways.own_out.Given as goal

abbrev pub invariant-loop-out : goal.invariant-loop-out
invariant-loop-out l = own_out l.ip (drop l.out-index l.outs) ≡ own_out l.ip l.outs
