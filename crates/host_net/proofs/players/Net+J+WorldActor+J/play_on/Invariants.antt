use Rattle.std.proofs.Common.{◌≡◌}
use Rattle.host_net.specs.Groups.{seats}
use Rattle.host_net.proofs.players.Net+J+WorldActor+J.play_on.Given as goal

abbrev pub invariant-loop : goal.invariant-loop
invariant-loop g l = seats l.group ≡ seats l.fn.group
