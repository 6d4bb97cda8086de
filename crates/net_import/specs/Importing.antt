-- The task of `import`: its requests, its replies, and the plays that it stands for.
use Rattle.std.specs.Prelude.{ℕ, ◌&&◌, Bool, true, false, not, List, Option, if◌then◌else◌}
use Rattle.net_base.specs.declared.reply.Reply.{Reply}
use Rattle.net_base.specs.declared.world.Step.{Step}
use Rattle.net_base.specs.Exports.{Own, own_of}
use Rattle.net_base.specs.Imports.{attach_message, is_version, sends_once, version_message}
use Rattle.net_base.specs.NinepMessages.{t_bytes}
use Rattle.net_base.specs.Scripts.{Kept, step_play}
use Rattle.net_base.specs.Steps.{Names, bytes_in, Play, Ends}
use Rattle.net_import.specs.declared.import.Import.{Import}
use Rattle.net_import.specs.declared.talk.TalkPhase.TheVariants as phase
use Rattle.net_import.specs.Standings.{TalksFor}
use Rattle.net_import.specs.Talks as talk
use Rattle.net_base.specs.declared.request.Request.{Request}

abbrev pub begun : List ℕ → Import
begun called = record { talk = talk.begun called (t_bytes version_message); attaches = false }

abbrev pub asks : Import → Names → Option Request
asks t names = talk.asks t.talk

-- the reply agrees on the version
abbrev pub agrees : Import → Reply → Bool
agrees t r = not t.attaches && (talk.is_reading t.talk.phase && is_version (bytes_in r))

abbrev pub after : Import → Reply → Import
after t r =
    if agrees t r
    then record { talk = talk.begun t.talk.call (t_bytes attach_message); attaches = true }
    else record t { talk = talk.after t.talk r }

-- once the version is agreed on
abbrev pub attaching : List ℕ → Import
attaching call = record { talk = talk.begun call (t_bytes attach_message); attaches = true }

-- once nothing more is sent
abbrev pub over : List ℕ → List ℕ → Bool → Import
over call message attaches = record { talk = record { call = call; message = message; phase = phase.Over }; attaches = attaches }

-- what follows the message that is sent
abbrev pub follows_message : Own → Names → Bool → List ℕ → Play
follows_message own names false text = if is_version text then sends_once own attach_message (Ends names) else Ends names
follows_message own names true text = Ends names

abbrev pub StandsFor : ℕ → Names → Import → Play → Type 0
StandsFor h names t p = TalksFor h names t.talk (Ends names) (follows_message (own_of h t.talk.call names) names t.attaches) p

-- on every host, whatever is kept, it stands for the step's play
abbrev pub Begins : Import → Step → Type 0
Begins t s = (h : ℕ) (k : Kept) → StandsFor h k.names t (step_play h k s)
