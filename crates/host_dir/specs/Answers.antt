-- What a directory answers without memory.
use Rattle.net_base.specs.declared.reply.Reply.{Reply}
use Rattle.net_base.specs.declared.reply.Reply.TheVariants as reply
use Rattle.host_dir.specs.declared.answer.Answer.{Answer}
use Rattle.host_dir.specs.declared.answer.Answer.TheVariants as answer

-- the reply that is recorded
abbrev pub recorded_reply : Answer → Reply
recorded_reply (answer.Slot slot generation) = reply.Slot slot generation
recorded_reply answer.NoSlot = reply.NoSlot
recorded_reply (answer.Granted pair start limit) = reply.Granted pair start limit
recorded_reply (answer.WrongState state) = reply.WrongState state
recorded_reply answer.NoRoute = reply.NoRoute
recorded_reply answer.NoPort = reply.NoPort
recorded_reply answer.SelfPair = reply.SelfPair
recorded_reply (answer.PairUsed k) = reply.PairUsed k
recorded_reply answer.Ok = reply.Ok
recorded_reply (answer.PortTaken slot) = reply.PortTaken slot
recorded_reply (answer.Call slot generation) = reply.Call slot generation
recorded_reply answer.NoFile = reply.NoFile
recorded_reply (answer.To slot generation) = reply.To slot generation
recorded_reply (answer.Born slot generation start limit) = reply.Born slot generation start limit
recorded_reply answer.Refused = reply.Refused
recorded_reply answer.Dropped = reply.Dropped
recorded_reply answer.Stale = reply.Stale
