use Rattle.net_actors.specs.Together.{state_at_actor}
use Rattle.net_actors.proofs.DuesOf.{one_slot}
use Rattle.net_actors.proofs.actors.Actors.add_dues.Goals as goal

pub loop-slot-preserved : goal.loop-slot-preserved
loop-slot-preserved c =
    one_slot (state_at_actor c.args.self.now) c.args.host c.args.proto c.loop-slot.slot c.args.dues.now.items c.loop-slot.dues.items c.add_due.new.dues.items c.loop-slot.invariant
    c.in_ok-add_due.ensures
