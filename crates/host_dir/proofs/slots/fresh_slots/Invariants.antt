use Rattle.std.proofs.Common.{◌≡◌, replicate}
use Rattle.net_base.specs.Directory.{free_slot}
use Rattle.host_dir.proofs.slots.fresh_slots.Given as goal

abbrev pub invariant-loop : goal.invariant-loop
invariant-loop l = l.slots.items ≡ replicate l.counter free_slot
