-- Worked histories of IL: a message whose first frame is lost, and a call that is refused.
use Rattle.std.specs.Prelude.{ℕ, List, [], ◌∷◌, Some, None, codes}
use Rattle.net_base.specs.declared.actor.ActorName.{ActorName}
use Rattle.net_base.specs.declared.actor.ActorName.TheVariants as name
use Rattle.net_base.specs.declared.address.Addr.{Addr}
use Rattle.net_base.specs.declared.address.Proto.TheVariants as proto
use Rattle.net_base.specs.declared.event.Event.TheVariants as event
use Rattle.net_base.specs.declared.history.Entry.{Entry}
use Rattle.net_base.specs.declared.il.Cause.TheVariants as cause
use Rattle.net_base.specs.declared.il.IlKind.TheVariants.{Sync, Data, DataQuery, Ack, Query, State, Close}
use Rattle.net_base.specs.declared.names.FileName.TheVariants as file
use Rattle.net_base.specs.declared.names.Mode.TheVariants as mode
use Rattle.net_base.specs.declared.reply.Reply.TheVariants as reply
use Rattle.net_base.specs.declared.world.Fate.TheVariants.{Lose}
use Rattle.net_base.specs.declared.world.Step.TheVariants as step
use Rattle.net_base.specs.declared.world.HostSpec.{HostSpec}
use Rattle.net_base.specs.declared.world.World.{World}
use Rattle.net_base.specs.Written.{Conversation}
use Rattle.world_text.specs.Worked.{addr_at, anna, helix, pair_between_them, host, script_with, world, unowed_entry, due, emits, ends, il}

-- Both hosts have a start of their own.

abbrev pub both_hosts : List HostSpec
both_hosts = host (codes "anna") anna (100 ∷ []) ∷ host (codes "helix") helix (200 ∷ []) ∷ []

-- Actors, where IL is spoken.

abbrev pub desk : ℕ → ActorName
desk h = name.Desk h

abbrev pub dir : ℕ → ActorName
dir h = name.Dir h proto.Il

abbrev pub conv : ℕ → ℕ → ActorName
conv h n = name.Conv h proto.Il n

abbrev pub ether : ActorName
ether = name.Medium 0

-- anna's end of a call, and helix's
abbrev pub here : Addr
here = addr_at anna 5000

abbrev pub there : Addr
there = addr_at helix 17008

-- The fourth frame is lost: anna asks at moment 510, and sends the message again.

abbrev pub lossy_world : World
lossy_world =
    world 60000 (record { first = 4; last = 4; fate = Lose } ∷ []) both_hosts
    (script_with 0 (step.Until 10 ∷ step.Dial (codes "d") (codes "net!helix!9fs") ∷ step.Write (codes "d") (codes "hello") ∷ [])
    ∷ script_with 1 (step.Announce (codes "a") (codes "net!*!9fs")
    ∷ step.Listen (codes "c") (codes "a")
    ∷ step.Accept (codes "e") (codes "c")
    ∷ step.Read (codes "e") 8192 ∷ [])
    ∷ [])

abbrev pub lossy_history : List Entry
lossy_history =
    unowed_entry 0 1 (desk 1) (event.Cs (codes "net!*!9fs")) (reply.Lines (codes "/net/il/clone *!17008" ∷ []))
    ∷ unowed_entry 0 1 (dir 1) event.Reserve (reply.Slot 0 1)
    ∷ due 0 1 (conv 1 0) 1 (event.Begin 1) reply.Ok
    ∷ unowed_entry 0 1 (dir 1) (event.Announce 0 1 None (Some 17008)) reply.Ok
    ∷ due 0 1 (conv 1 0) 3 (event.Announced 1) reply.Ok
    ∷ unowed_entry 0 3 name.Clock (event.Move 10) reply.Ok
    ∷ unowed_entry 10 0 (desk 0) (event.Until 10) reply.Ok
    ∷ unowed_entry 10 0 (desk 0) (event.Cs (codes "net!helix!9fs")) (reply.Lines (codes "/net/il/clone 135.104.9.31!17008" ∷ codes "/net/il/clone 10.0.0.31!17008" ∷ []))
    ∷ unowed_entry 10 0 (dir 0) event.Reserve (reply.Slot 0 1)
    ∷ due 10 0 (conv 0 0) 8 (event.Begin 1) reply.Ok
    ∷ unowed_entry 10 0 (dir 0) (event.Grant 0 1 there None) (reply.Granted (pair_between_them here there) 100 1462)
    ∷ emits (due 10 0 (conv 0 0) 10 (event.Connect 1) reply.Ok) (il here there Sync 0 100 0 0)
    ∷ due 10 0 ether 11 (event.Put (Some 1)) (reply.Laid 1)
    ∷ unowed_entry 10 2 ether event.Take (reply.Copy 1)
    ∷ due 10 2 (dir 1) 13 event.Arrive (reply.Born 1 1 200 1462)
    ∷ unowed_entry 10 1 (dir 1) (event.Listen 0) (reply.Call 1 1)
    ∷ emits (due 10 2 (conv 1 1) 14 (event.Born 1) reply.Ok) (il there here Sync 0 200 100 0)
    ∷ due 10 1 (conv 1 1) 15 (event.Claim 1) reply.Ok
    ∷ due 10 2 ether 16 (event.Put (Some 0)) (reply.Laid 2)
    ∷ unowed_entry 10 1 (conv 1 1) (event.Open file.Data mode.Both) (reply.Opened 1)
    ∷ unowed_entry 10 2 ether event.Take (reply.Copy 2)
    ∷ due 10 2 (dir 0) 20 event.Arrive (reply.To 0 1)
    ∷ emits (due 10 2 (conv 0 0) 21 (event.ArriveAt 1) reply.Took) (il here there Ack 0 100 200 0)
    ∷ unowed_entry 10 0 (conv 0 0) (event.Await 1) reply.Ok
    ∷ due 10 2 ether 22 (event.Put (Some 1)) (reply.Laid 3)
    ∷ unowed_entry 10 0 (conv 0 0) (event.Open file.Data mode.Both) (reply.Opened 1)
    ∷ unowed_entry 10 2 ether event.Take (reply.Copy 3)
    ∷ unowed_entry 10 0 (conv 0 0) (event.Close 1) reply.Ok
    ∷ due 10 2 (dir 1) 26 event.Arrive (reply.To 1 1)
    ∷ emits (unowed_entry 10 0 (conv 0 0) (event.Write 1 (codes "hello")) (reply.Count 5)) (il here there Data 0 101 200 5)
    ∷ due 10 2 (conv 1 1) 28 (event.ArriveAt 1) reply.Took
    ∷ due 10 0 ether 29 (event.Put (Some 1)) (reply.Laid 4)
    ∷ unowed_entry 10 3 name.Clock (event.Move 510) reply.Ok
    ∷ emits (due 510 3 (conv 0 0) 32 (event.Tick 1) reply.Ticked) (il here there Query 0 101 200 0)
    ∷ due 510 3 ether 33 (event.Put (Some 1)) (reply.Laid 5)
    ∷ unowed_entry 510 2 ether event.Take (reply.Copy 5)
    ∷ due 510 2 (dir 1) 35 event.Arrive (reply.To 1 1)
    ∷ emits (due 510 2 (conv 1 1) 36 (event.ArriveAt 1) reply.Took) (il there here State 0 200 100 0)
    ∷ due 510 2 ether 37 (event.Put (Some 0)) (reply.Laid 6)
    ∷ unowed_entry 510 2 ether event.Take (reply.Copy 6)
    ∷ due 510 2 (dir 0) 39 event.Arrive (reply.To 0 1)
    ∷ emits (due 510 2 (conv 0 0) 40 (event.ArriveAt 1) reply.Took) (il here there DataQuery 0 101 200 5)
    ∷ due 510 2 ether 41 (event.Put (Some 1)) (reply.Laid 7)
    ∷ unowed_entry 510 2 ether event.Take (reply.Copy 7)
    ∷ due 510 2 (dir 1) 43 event.Arrive (reply.To 1 1)
    ∷ emits (due 510 2 (conv 1 1) 44 (event.ArriveAt 1) reply.Took) (il there here State 0 200 101 0)
    ∷ unowed_entry 510 1 (conv 1 1) (event.Read 1 8192) (reply.Bytes (codes "hello"))
    ∷ due 510 2 ether 45 (event.Put (Some 0)) (reply.Laid 8)
    ∷ unowed_entry 510 2 ether event.Take (reply.Copy 8)
    ∷ due 510 2 (dir 0) 48 event.Arrive (reply.To 0 1)
    ∷ due 510 2 (conv 0 0) 49 (event.ArriveAt 1) reply.Took
    ∷ []

-- anna's conversation, and helix's
abbrev pub calling : Conversation
calling = record { host = 0; proto = proto.Il; slot = 0; generation = 1 }

abbrev pub called : Conversation
called = record { host = 1; proto = proto.Il; slot = 1; generation = 1 }

-- Nobody announces: the directory of helix refuses the sync.

abbrev pub refused_world : World
refused_world =
    world 60000 [] both_hosts (script_with 0 (step.Until 10 ∷ step.Dial (codes "d") (codes "il!135.104.9.31!9fs") ∷ []) ∷ [])

abbrev pub refused_history : List Entry
refused_history =
    unowed_entry 0 2 name.Clock (event.Move 10) reply.Ok
    ∷ unowed_entry 10 0 (desk 0) (event.Until 10) reply.Ok
    ∷ unowed_entry 10 0 (desk 0) (event.Cs (codes "il!135.104.9.31!9fs")) (reply.Lines (codes "/net/il/clone 135.104.9.31!17008" ∷ []))
    ∷ unowed_entry 10 0 (dir 0) event.Reserve (reply.Slot 0 1)
    ∷ due 10 0 (conv 0 0) 3 (event.Begin 1) reply.Ok
    ∷ unowed_entry 10 0 (dir 0) (event.Grant 0 1 there None) (reply.Granted (pair_between_them here there) 100 1462)
    ∷ emits (due 10 0 (conv 0 0) 5 (event.Connect 1) reply.Ok) (il here there Sync 0 100 0 0)
    ∷ due 10 0 ether 6 (event.Put (Some 1)) (reply.Laid 1)
    ∷ unowed_entry 10 1 ether event.Take (reply.Copy 1)
    ∷ emits (due 10 1 (dir 1) 8 event.Arrive reply.Refused) (il there here Close 1 0 100 0)
    ∷ due 10 1 ether 9 (event.Put (Some 0)) (reply.Laid 2)
    ∷ unowed_entry 10 1 ether event.Take (reply.Copy 2)
    ∷ due 10 1 (dir 0) 11 event.Arrive (reply.To 0 1)
    ∷ due 10 1 (conv 0 0) 12 (event.ArriveAt 1) reply.Took
    ∷ unowed_entry 10 0 (conv 0 0) (event.Await 1) (reply.Hungup cause.Refused)
    ∷ ends (unowed_entry 10 0 (conv 0 0) (event.Close 1) reply.Ok)
    ∷ due 10 0 (dir 0) 15 (event.Release 0 1) (reply.Calls [])
    ∷ []
