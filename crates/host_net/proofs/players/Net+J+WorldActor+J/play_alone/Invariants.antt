use Rattle.std.proofs.Common.{◌≡◌}
use Rattle.host_net.specs.Groups.{all_seats}
use Rattle.host_net.proofs.players.Net+J+WorldActor+J.play_alone.Given as goal

abbrev pub invariant-loop : goal.invariant-loop
invariant-loop g l = all_seats l.groups ≡ all_seats l.fn.groups
