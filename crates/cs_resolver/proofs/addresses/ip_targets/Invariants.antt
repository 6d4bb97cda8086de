use Rattle.std.proofs.Common.{◌≡◌, take, map}
use Rattle.net_base.specs.Addresses.{address_text}
use Rattle.cs_resolver.specs.Targets.{target_texts}
use Rattle.cs_resolver.proofs.addresses.ip_targets.Given as goal

abbrev pub invariant-loop-ip : goal.invariant-loop-ip
invariant-loop-ip l = target_texts l.targets.items ≡ map address_text (take l.ip-index l.ips)
