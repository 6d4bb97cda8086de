use Rattle.std.proofs.Common.{◌≡◌, ◌*◌, ◌≤◌, drop}
use Rattle.duties.specs.WaysOf.{AreWaysOfWorld}
use Rattle.net_base.specs.declared.world.World.{World}
use Rattle.net_export.specs.Counted.{count_after}
use Rattle.net_export.proofs.owing.owed_count.Given as goal

abbrev pub invariant-loop-stamp : goal.invariant-loop-stamp
invariant-loop-stamp g l =
    ((w : World) → AreWaysOfWorld w l.ways
    → count_after w l.caller l.owed (drop l.stamp (g.E.Entries.list l.history)) ≡ count_after w l.caller 0 (g.E.Entries.list l.history))
    × (l.owed ≤ l.stamp * 9223372036854776317)
