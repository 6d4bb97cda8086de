-- An hread: its requests, its phases, and the play that it stands for.
use Rattle.std.specs.Prelude.{ℕ, List, Option, Some}
use Rattle.net_base.specs.declared.address.Addr.{Addr}
use Rattle.net_base.specs.declared.headers.Heard.{Heard}
use Rattle.net_base.specs.declared.reply.Reply.{Reply}
use Rattle.net_base.specs.declared.world.Step.{Step}
use Rattle.net_base.specs.Conversation.{nowhere}
use Rattle.net_base.specs.Steps.{Names, Play, data_name, hears_call, play_of}
use Rattle.dial_lib.specs.declared.call.CallPhase.TheVariants as phase
use Rattle.dial_lib.specs.declared.hread.Hread.{Hread}
use Rattle.dial_lib.specs.Calls as calls
use Rattle.dial_lib.specs.Slots.{HaveSlots}
use Rattle.net_base.specs.declared.request.Request.{Request}
use Rattle.net_base.specs.declared.request.Request.TheVariants as request

abbrev pub heard_so : List ℕ → Addr → Addr → Heard
heard_so called remote local = record { name = called; remote = remote; local = local }

abbrev pub reads_so : List ℕ → ℕ → Addr → Addr → Request
reads_so called count remote local = request.Hear data_name count (heard_so called remote local)

-- the datagram is read
abbrev pub reads_datagram : Hread → Request
reads_datagram t = reads_so t.name t.count t.remote t.local

-- the next request under these names
abbrev pub asks : Hread → Names → Option Request
asks t names = calls.asks_by t.phase t.name (Some (reads_datagram t)) names

-- the task after a reply
abbrev pub after : Hread → Reply → Hread
after t r = record t {
  phase = calls.phase_after t.phase phase.Through r;
  remote = calls.remote_after t.phase r t.remote;
  local = calls.local_after t.phase r t.local;
}

-- what follows a call that is open
abbrev pub hears_next : ℕ → List ℕ → ℕ → calls.Next
hears_next h called count base call data_file remote local = hears_call h base count call data_file (heard_so called remote local)

abbrev pub StandsFor : ℕ → Names → Hread → Play → Type 0
StandsFor h names t p = calls.TakesCall h t.name (hears_next h t.name t.count) names t.phase t.remote t.local p

-- an hread that has recorded nothing yet
abbrev pub begun : List ℕ → ℕ → Hread
begun called count = record { name = called; count = count; phase = phase.Fresh; remote = nowhere; local = nowhere }

-- on every host it stands for the step's play, where each name is bound to a file of a slot that there is
abbrev pub Begins : Hread → Step → Type 0
Begins t s = (h : ℕ) (names : Names) → HaveSlots names → StandsFor h names t (play_of h names s)
