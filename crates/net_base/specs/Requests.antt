-- The requests of tasks: the event that each records, and the names that are bound after its reply.
use Rattle.std.specs.Prelude.{ℕ, List, Option, Some, None, if◌then◌else◌}
use Rattle.net_base.specs.declared.event.Event.TheVariants as event
use Rattle.net_base.specs.declared.names.Mode.{Mode}
use Rattle.net_base.specs.declared.reply.Reply.{Reply}
use Rattle.net_base.specs.declared.request.Request.{Request}
use Rattle.net_base.specs.declared.request.Request.TheVariants as request
use Rattle.net_base.specs.declared.world.Step.TheVariants as step
use Rattle.net_base.specs.Paths.{walk}
use Rattle.net_base.specs.Steps.{Ask, Names, Fid, Play, Asks, Ends, is_bound, bind, unbind, ends_with, uses, misuses, hearing, with_bound, with_new, with_readable, with_writable, conversation_of, opens, openable, opened_fid, read_event, puts_text, play_of}

-- the event that a play records next
abbrev pub head : Play → Option Ask
head (Asks a e next) = Some (record { actor = a; event = e })
head (Ends names) = None

-- a request of a host as a play of its own
abbrev pub request_play : ℕ → Names → Request → Play
request_play h names (request.Open called path m) = with_new h called names (opens h path m (Ends names) (λ (f : Fid). Ends (bind called f names)))
request_play h names (request.Read called count) = play_of h names (step.Read called count)
request_play h names (request.Write called text) = with_writable h called names (λ (f : Fid). puts_text h f f.file text (Ends names) (Ends names))
request_play h names (request.Close called) = play_of h names (step.Close called)
request_play h names (request.Cs query) = play_of h names (step.Cs query)
request_play h names (request.Ls path) = play_of h names (step.Ls path)
request_play h names (request.Until moment) = play_of h names (step.Until moment)
request_play h names request.Refresh = play_of h names step.Refresh
request_play h names (request.Hear called count heard) =
    with_readable h called names (λ (f : Fid). ends_with (conversation_of h f) (read_event f count f.file) (hearing heard names))
request_play h names (request.Wait called) = with_bound h called names (λ (f : Fid). ends_with (conversation_of h f) (event.Await f.generation) names)
request_play h names (request.Unbound called) = uses h called names
request_play h names (request.Misuse called) = misuses h called names

-- the event of a request of a host under these names
abbrev pub planned : ℕ → Names → Request → Option Ask
planned h names q = head (request_play h names q)

-- the names where this was opened
abbrev pub bound_after : List ℕ → Names → Option Fid → Names
bound_after called names None = names
bound_after called names (Some f) = bind called f names

-- a name is opened by a path, where it is free
abbrev pub opened_names : Names → List ℕ → List ℕ → Mode → Reply → Names
opened_names names called path m r = if is_bound names called then names else bound_after called names (opened_fid m (openable (walk path) m) r)

-- the names after a reply to the event of a request: an open that isn't refused binds its name, a close unbinds its name whatever the
-- reply, and so an `hread` was told
abbrev pub settled : Names → Request → Reply → Names
settled names (request.Open called path m) r = opened_names names called path m r
settled names (request.Close called) r = unbind called names
settled names (request.Hear called count heard) r = hearing heard names
settled names _ r = names

-- the names after a reply to what a task asked, which are unchanged where it is through
abbrev pub settles : Names → Option Request → Reply → Names
settles names None r = names
settles names (Some q) r = settled names q r
