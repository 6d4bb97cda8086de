-- A call that carries files: anna imports the network of helix, and helix exports it, in 70 entries.
use Rattle.std.specs.Prelude.{ℕ, List, [], ◌∷◌, Some, None, codes}
use Rattle.net_base.specs.declared.actor.ActorName.TheVariants as name
use Rattle.net_base.specs.declared.address.Proto.TheVariants as proto
use Rattle.net_base.specs.declared.event.Event.TheVariants as event
use Rattle.net_base.specs.declared.history.Entry.{Entry}
use Rattle.net_base.specs.declared.il.IlKind.TheVariants.{Ack, Data, Sync}
use Rattle.net_base.specs.declared.names.FileName.TheVariants as file
use Rattle.net_base.specs.declared.names.Mode.TheVariants as mode
use Rattle.net_base.specs.declared.reply.Reply.TheVariants as reply
use Rattle.net_base.specs.declared.world.Script.{Script}
use Rattle.net_base.specs.declared.world.Step.TheVariants as step
use Rattle.net_base.specs.declared.world.World.{World}
use Rattle.net_base.specs.Written.{Conversation}
use Rattle.world_text.specs.Worked.{due, emits, il, unowed_entry, pair_between_them, script_with, world}
use Rattle.world_text.specs.WorkedIl.{both_hosts, conv, desk, dir, ether, here, there}

abbrev pub importer : Script
importer = script_with 0 (step.Until 10 ∷ step.Dial (codes "d") (codes "il!135.104.9.31!9fs") ∷ step.Import (codes "d") ∷ [])

abbrev pub exporter : Script
exporter =
    script_with 1 (step.Announce (codes "a") (codes "il!*!9fs")
    ∷ step.Listen (codes "c") (codes "a")
    ∷ step.Accept (codes "e") (codes "c")
    ∷ step.Export (codes "e") ∷ [])

abbrev pub carried_world : World
carried_world = world 60000 [] both_hosts (importer ∷ exporter ∷ [])

-- anna's conversation, and helix's
abbrev pub anna_side : Conversation
anna_side = record { host = 0; proto = proto.Il; slot = 0; generation = 1 }

abbrev pub helix_side : Conversation
helix_side = record { host = 1; proto = proto.Il; slot = 1; generation = 1 }

-- Messages: a version and its answer, an attach and its answer.

abbrev pub asks_version : List ℕ
asks_version = 19 ∷ 0 ∷ 0 ∷ 0 ∷ 100 ∷ 255 ∷ 255 ∷ 0 ∷ 2 ∷ 0 ∷ 0 ∷ 6 ∷ 0 ∷ codes "9P2000"

abbrev pub answers_version : List ℕ
answers_version = 19 ∷ 0 ∷ 0 ∷ 0 ∷ 101 ∷ 255 ∷ 255 ∷ 0 ∷ 2 ∷ 0 ∷ 0 ∷ 6 ∷ 0 ∷ codes "9P2000"

abbrev pub asks_attach : List ℕ
asks_attach = 19 ∷ 0 ∷ 0 ∷ 0 ∷ 104 ∷ 1 ∷ 0 ∷ 0 ∷ 0 ∷ 0 ∷ 0 ∷ 255 ∷ 255 ∷ 255 ∷ 255 ∷ 0 ∷ 0 ∷ 0 ∷ 0 ∷ []

abbrev pub answers_attach : List ℕ
answers_attach = 20 ∷ 0 ∷ 0 ∷ 0 ∷ 105 ∷ 1 ∷ 0 ∷ 128 ∷ 0 ∷ 0 ∷ 0 ∷ 0 ∷ 0 ∷ 0 ∷ 0 ∷ 0 ∷ 0 ∷ 0 ∷ 0 ∷ 0 ∷ []

abbrev pub carried_history : List Entry
carried_history =
    unowed_entry 0 1 (desk 1) (event.Cs (codes "il!*!9fs")) (reply.Lines (codes "/net/il/clone *!17008" ∷ []))
    ∷ unowed_entry 0 1 (dir 1) event.Reserve (reply.Slot 0 1)
    ∷ due 0 1 (conv 1 0) 1 (event.Begin 1) reply.Ok
    ∷ unowed_entry 0 1 (dir 1) (event.Announce 0 1 None (Some 17008)) reply.Ok
    ∷ due 0 1 (conv 1 0) 3 (event.Announced 1) reply.Ok
    ∷ unowed_entry 0 3 name.Clock (event.Move 10) reply.Ok
    ∷ unowed_entry 10 0 (desk 0) (event.Until 10) reply.Ok
    ∷ unowed_entry 10 0 (desk 0) (event.Cs (codes "il!135.104.9.31!9fs")) (reply.Lines (codes "/net/il/clone 135.104.9.31!17008" ∷ []))
    ∷ unowed_entry 10 0 (dir 0) event.Reserve (reply.Slot 0 1)
    ∷ due 10 0 (conv 0 0) 8 (event.Begin 1) reply.Ok
    ∷ unowed_entry 10 0 (dir 0) (event.Grant 0 1 there None) (reply.Granted (pair_between_them here there) 100 1462)
    ∷ emits (due 10 0 (conv 0 0) 10 (event.Connect 1) reply.Ok) (il here there Sync 0 100 0 0)
    ∷ due 10 0 ether 11 (event.Put (Some 1)) (reply.Laid 1)
    ∷ unowed_entry 10 2 ether event.Take (reply.Copy 1)
    ∷ due 10 2 (dir 1) 13 event.Arrive (reply.Born 1 1 200 1462)
    ∷ unowed_entry 10 1 (dir 1) (event.Listen 0) (reply.Call 1 1)
    ∷ emits (due 10 2 (conv 1 1) 14 (event.Born 1) reply.Ok) (il there here Sync 0 200 100 0)
    ∷ due 10 1 (conv 1 1) 15 (event.Claim 1) reply.Ok
    ∷ due 10 2 ether 16 (event.Put (Some 0)) (reply.Laid 2)
    ∷ unowed_entry 10 1 (conv 1 1) (event.Open file.Data mode.Both) (reply.Opened 1)
    ∷ unowed_entry 10 2 ether event.Take (reply.Copy 2)
    ∷ due 10 2 (dir 0) 20 event.Arrive (reply.To 0 1)
    ∷ emits (due 10 2 (conv 0 0) 21 (event.ArriveAt 1) reply.Took) (il here there Ack 0 100 200 0)
    ∷ unowed_entry 10 0 (conv 0 0) (event.Await 1) reply.Ok
    ∷ due 10 2 ether 22 (event.Put (Some 1)) (reply.Laid 3)
    ∷ unowed_entry 10 0 (conv 0 0) (event.Open file.Data mode.Both) (reply.Opened 1)
    ∷ unowed_entry 10 2 ether event.Take (reply.Copy 3)
    ∷ unowed_entry 10 0 (conv 0 0) (event.Close 1) reply.Ok
    ∷ due 10 2 (dir 1) 26 event.Arrive (reply.To 1 1)
    ∷ emits (unowed_entry 10 0 (conv 0 0) (event.Write 1 asks_version) (reply.Count 19)) (il here there Data 0 101 200 19)
    ∷ due 10 2 (conv 1 1) 28 (event.ArriveAt 1) reply.Took
    ∷ due 10 0 ether 29 (event.Put (Some 1)) (reply.Laid 4)
    ∷ unowed_entry 10 2 ether event.Take (reply.Copy 4)
    ∷ due 10 2 (dir 1) 32 event.Arrive (reply.To 1 1)
    ∷ emits (due 10 2 (conv 1 1) 33 (event.ArriveAt 1) reply.Took) (il there here Ack 0 200 101 0)
    ∷ unowed_entry 10 1 (conv 1 1) (event.Read 1 8192) (reply.Bytes asks_version)
    ∷ due 10 2 ether 34 (event.Put (Some 0)) (reply.Laid 5)
    ∷ emits (unowed_entry 10 1 (conv 1 1) (event.Write 1 answers_version) (reply.Count 19)) (il there here Data 0 201 101 19)
    ∷ unowed_entry 10 2 ether event.Take (reply.Copy 5)
    ∷ due 10 1 ether 37 (event.Put (Some 0)) (reply.Laid 6)
    ∷ due 10 2 (dir 0) 38 event.Arrive (reply.To 0 1)
    ∷ due 10 2 (conv 0 0) 40 (event.ArriveAt 1) reply.Took
    ∷ unowed_entry 10 2 ether event.Take (reply.Copy 6)
    ∷ due 10 2 (dir 0) 42 event.Arrive (reply.To 0 1)
    ∷ emits (due 10 2 (conv 0 0) 43 (event.ArriveAt 1) reply.Took) (il here there Ack 0 101 201 0)
    ∷ unowed_entry 10 0 (conv 0 0) (event.Read 1 8192) (reply.Bytes answers_version)
    ∷ due 10 2 ether 44 (event.Put (Some 1)) (reply.Laid 7)
    ∷ emits (unowed_entry 10 0 (conv 0 0) (event.Write 1 asks_attach) (reply.Count 19)) (il here there Data 0 102 201 19)
    ∷ unowed_entry 10 2 ether event.Take (reply.Copy 7)
    ∷ due 10 0 ether 47 (event.Put (Some 1)) (reply.Laid 8)
    ∷ due 10 2 (dir 1) 48 event.Arrive (reply.To 1 1)
    ∷ due 10 2 (conv 1 1) 50 (event.ArriveAt 1) reply.Took
    ∷ unowed_entry 10 2 ether event.Take (reply.Copy 8)
    ∷ due 10 2 (dir 1) 52 event.Arrive (reply.To 1 1)
    ∷ emits (due 10 2 (conv 1 1) 53 (event.ArriveAt 1) reply.Took) (il there here Ack 0 201 102 0)
    ∷ unowed_entry 10 1 (conv 1 1) (event.Read 1 8192) (reply.Bytes asks_attach)
    ∷ due 10 2 ether 54 (event.Put (Some 0)) (reply.Laid 9)
    ∷ emits (unowed_entry 10 1 (conv 1 1) (event.Write 1 answers_attach) (reply.Count 20)) (il there here Data 0 202 102 20)
    ∷ unowed_entry 10 2 ether event.Take (reply.Copy 9)
    ∷ due 10 1 ether 57 (event.Put (Some 0)) (reply.Laid 10)
    ∷ due 10 2 (dir 0) 58 event.Arrive (reply.To 0 1)
    ∷ due 10 2 (conv 0 0) 60 (event.ArriveAt 1) reply.Took
    ∷ unowed_entry 10 2 ether event.Take (reply.Copy 10)
    ∷ due 10 2 (dir 0) 62 event.Arrive (reply.To 0 1)
    ∷ emits (due 10 2 (conv 0 0) 63 (event.ArriveAt 1) reply.Took) (il here there Ack 0 102 202 0)
    ∷ unowed_entry 10 0 (conv 0 0) (event.Read 1 8192) (reply.Bytes answers_attach)
    ∷ due 10 2 ether 64 (event.Put (Some 1)) (reply.Laid 11)
    ∷ unowed_entry 10 2 ether event.Take (reply.Copy 11)
    ∷ due 10 2 (dir 1) 67 event.Arrive (reply.To 1 1)
    ∷ due 10 2 (conv 1 1) 68 (event.ArriveAt 1) reply.Took
    ∷ []
