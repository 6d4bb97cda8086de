use Rattle.std.proofs.Common.{refl}
use Rattle.host_dir.proofs.Index.{none_given}
use Rattle.host_dir.proofs.slots.Slots.new.Goals as goal

pub invariant_of-result : goal.invariant_of-result
invariant_of-result c =
    (rw (c.in_ok-fresh_slots.ensures) (refl), rw (c.in_ok-fresh_slots.ensures) (none_given 32 c.new.result.entries))
