use Rattle.std.proofs.Common.{◌+◌, length}
use Rattle.host_net.proofs.Lending.{players_left}
use Rattle.host_net.proofs.advance.Net+J+WorldActor+J.+with_all.Given as goal

-- the players that have their numbers, and the groups
abbrev pub decreases-with_all : goal.decreases-with_all
decreases-with_all g l = length l.players.now + players_left l.groups.now
