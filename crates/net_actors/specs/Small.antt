-- States in which the next step can count and number all that it has to.
use Rattle.std.specs.Prelude.{◌+◌, ◌<◌, ◌^◌}
use Rattle.net_base.specs.Actors.{Actor, IsConv, IsMedium}
use Rattle.conversation.specs.Stands.{IsShort}

-- a conversation has sent and got few messages, and the next frame of a medium has a number
abbrev pub IsSmallActor : Actor → Type 0
IsSmallActor (IsConv c) = IsShort c
IsSmallActor (IsMedium m) = m.frames + 1 < 2 ^ 64
IsSmallActor _ = Unit {0}
