use Rattle.net_tree.proofs.Taken.{taken_more}
use Rattle.net_tree.proofs.directory.clone_and_slots.Goals as goal

pub loop-slot-preserved : goal.loop-slot-preserved
loop-slot-preserved c =
    taken_more c.args.slots c.loop-slot.slot _ c.loop-slot.lines c.put_taken.new.lines c.in_ok-put_taken.ensures c.loop-slot.invariant
