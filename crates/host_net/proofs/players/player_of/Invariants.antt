use Rattle.std.proofs.Common.{take}
use Rattle.host_net.specs.Groups.{NotIn, callers_of}
use Rattle.host_net.proofs.players.player_of.Given as goal

-- none of the first players is the caller's
abbrev pub invariant-loop-player : goal.invariant-loop-player
invariant-loop-player g l = NotIn l.caller (callers_of (take l.player-index l.players))
