use Rattle.std.proofs.Common.{length}
use Rattle.host_net.proofs.players.Net+J+WorldActor+J.+play_all.Given as goal

abbrev pub decreases-play_all : goal.decreases-play_all
decreases-play_all g l = length l.groups.now
