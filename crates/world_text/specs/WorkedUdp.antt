-- The worked history of a datagram from anna to helix.
use Rattle.std.specs.Prelude.{ℕ, List, [], ◌∷◌, Some, None, codes}
use Rattle.net_base.specs.declared.actor.ActorName.{ActorName}
use Rattle.net_base.specs.declared.actor.ActorName.TheVariants as name
use Rattle.net_base.specs.declared.address.Proto.TheVariants as proto
use Rattle.net_base.specs.declared.event.Event.TheVariants as event
use Rattle.net_base.specs.declared.history.Entry.{Entry}
use Rattle.net_base.specs.declared.names.FileName.TheVariants as file
use Rattle.net_base.specs.declared.names.Mode.TheVariants as mode
use Rattle.net_base.specs.declared.reply.Reply.TheVariants as reply
use Rattle.net_base.specs.declared.world.Step.TheVariants as step
use Rattle.net_base.specs.declared.world.World.{World}
use Rattle.world_text.specs.Worked.{addr_at, anna, helix, pair_between_them, host, script_with, world, unowed_entry, due, emits, udp}

abbrev pub datagram_world : World
datagram_world =
    world 60000 [] (host (codes "anna") anna [] ∷ host (codes "helix") helix [] ∷ [])
    (script_with 0 (step.Open (codes "c") (codes "/net/udp/clone") None
    ∷ step.Write (codes "c") (codes "connect 135.104.9.31!7 5000")
    ∷ step.Open (codes "d") (codes "/net/udp/0/data") None
    ∷ step.Write (codes "d") (codes "hi") ∷ [])
    ∷ script_with 1 (step.Open (codes "c") (codes "/net/udp/clone") None
    ∷ step.Write (codes "c") (codes "connect 135.104.9.6!5000 7")
    ∷ step.Open (codes "d") (codes "/net/udp/0/data") None
    ∷ step.Read (codes "d") 8192 ∷ [])
    ∷ [])

abbrev dir : ℕ → ActorName
dir h = name.Dir h proto.Udp

abbrev conv : ℕ → ActorName
conv h = name.Conv h proto.Udp 0

abbrev pub datagram_history : List Entry
datagram_history =
    unowed_entry 0 0 (dir 0) event.Reserve (reply.Slot 0 1)
    ∷ unowed_entry 0 1 (dir 1) event.Reserve (reply.Slot 0 1)
    ∷ due 0 0 (conv 0) 0 (event.Begin 1) reply.Ok
    ∷ due 0 1 (conv 1) 1 (event.Begin 1) reply.Ok
    ∷ unowed_entry 0 0 (dir 0) (event.Grant 0 1 (addr_at helix 7) (Some 5000)) (reply.Granted (pair_between_them (addr_at anna 5000) (addr_at helix 7)) 0 1472)
    ∷ unowed_entry 0 1 (dir 1) (event.Grant 0 1 (addr_at anna 5000) (Some 7)) (reply.Granted (pair_between_them (addr_at helix 7) (addr_at anna 5000)) 0 1472)
    ∷ due 0 0 (conv 0) 4 (event.Connect 1) reply.Ok
    ∷ due 0 1 (conv 1) 5 (event.Connect 1) reply.Ok
    ∷ unowed_entry 0 0 (conv 0) (event.Await 1) reply.Ok
    ∷ unowed_entry 0 1 (conv 1) (event.Await 1) reply.Ok
    ∷ unowed_entry 0 0 (conv 0) (event.Open file.Data mode.Both) (reply.Opened 1)
    ∷ unowed_entry 0 1 (conv 1) (event.Open file.Data mode.Both) (reply.Opened 1)
    ∷ emits (unowed_entry 0 0 (conv 0) (event.Write 1 (codes "hi")) (reply.Count 2)) (udp (addr_at anna 5000) (addr_at helix 7) 2)
    ∷ due 0 0 (name.Medium 0) 12 (event.Put (Some 1)) (reply.Laid 1)
    ∷ unowed_entry 0 2 (name.Medium 0) event.Take (reply.Copy 1)
    ∷ due 0 2 (dir 1) 14 event.Arrive (reply.To 0 1)
    ∷ due 0 2 (conv 1) 15 (event.ArriveAt 1) reply.Took
    ∷ unowed_entry 0 1 (conv 1) (event.Read 1 8192) (reply.Bytes (codes "hi"))
    ∷ []
