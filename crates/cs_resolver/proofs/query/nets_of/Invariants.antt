use Rattle.std.proofs.Common.{◌≡◌, take}
use Rattle.net_base.specs.Cs.{nets_of}
use Rattle.cs_resolver.proofs.query.nets_of.Given as goal

abbrev pub invariant-loop-net : goal.invariant-loop-net
invariant-loop-net l = l.named.items ≡ nets_of (take l.net-index l.nets) l.word
