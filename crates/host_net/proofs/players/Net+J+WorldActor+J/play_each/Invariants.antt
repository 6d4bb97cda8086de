use Rattle.std.proofs.Common.{◌≡◌, ◌-◌, length, take}
use Rattle.host_net.specs.declared.player.Played.TheVariants as played
use Rattle.host_net.specs.declared.players.Round.TheVariants.{Whole}
use Rattle.host_net.specs.Groups.{AreWaiting, callers_of}
use Rattle.host_net.proofs.players.Net+J+WorldActor+J.play_each.Given as goal

-- unless one of them recorded or found no memory, the first players wait, where each had a turn
abbrev pub invariant-loop-i : goal.invariant-loop-i
invariant-loop-i g l =
    (callers_of l.players ≡ callers_of l.fn.players) × (l.fn.round ≡ Whole → l.turns ≡ played.Waits → AreWaiting g.J.Placing.tasks g.J.Placing.world (take l.i l.players))

abbrev pub decreases-loop-i : goal.decreases-loop-i
decreases-loop-i g l = length l.players - l.i
