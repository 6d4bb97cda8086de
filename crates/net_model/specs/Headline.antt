-- What every legal history keeps: the steps of scripts in order, what is answered and read, and that its text tells it.
use Rattle.std.specs.Prelude.{ℕ, ◌≡◌, List, Option, Some, None, filter_map, slice_get, take, unwrap_or, if◌then◌else◌}
use Rattle.std.specs.List.{last_or}
use Rattle.net_base.specs.declared.actor.ActorName.{ActorName}
use Rattle.net_base.specs.declared.actor.ActorName.TheVariants as name
use Rattle.net_base.specs.declared.address.Proto.TheVariants.{Il, Udp}
use Rattle.net_base.specs.declared.event.Event.TheVariants as event
use Rattle.net_base.specs.declared.history.Entry.{Entry}
use Rattle.net_base.specs.declared.reply.Reply.{Reply}
use Rattle.net_base.specs.declared.reply.Reply.TheVariants as reply
use Rattle.net_base.specs.declared.world.HostSpec.{HostSpec}
use Rattle.net_base.specs.declared.world.Script.{Script}
use Rattle.net_base.specs.declared.world.World.{World}
use Rattle.net_base.specs.Callers.{IsScript, caller_of}
use Rattle.net_base.specs.Cs.{cs_list}
use Rattle.net_base.specs.Desk.{cs_reply}
use Rattle.net_base.specs.Plain.{IsPlain}
use Rattle.net_base.specs.Stamped.{same_actor}
use Rattle.net_base.specs.Versions.{database_of}
use Rattle.net_base.specs.Written.{Conversation, IsRead, peer}
use Rattle.prefix_law.specs.WorldImports.{ImportsAnswered}
use Rattle.prefix_law.specs.PrefixLaw.{Alone, InOrder, WasWritten}
use Rattle.net_model.specs.DnsOrder.{AnswersQuestions}
use Rattle.net_model.specs.ScriptOrder.{KeepsScript}

-- the version that a reply tells, if it tells one
abbrev pub version_in : Reply → Option ℕ
version_in (reply.Version n) = Some n
version_in _ = None

abbrev pub version_told : ActorName → Entry → Option ℕ
version_told a x = if same_actor x.actor a then version_in x.reply else None

-- the version that the last of these entries of the actor to tell one tells, or 0
abbrev pub last_version : List Entry → ActorName → ℕ
last_version h a = unwrap_or (last_or None (filter_map (version_told a) h)) 0

-- the entry behind these is at the desk of a host of the world, and replies the list of the database of the version that the desk
-- told last, or why there is none
pub record AnswersCs (w : World) (past : List Entry) (x : Entry) (query : List ℕ) : Type 0 where
  pub number : ℕ
  pub host : HostSpec
  pub host_is : slice_get w.hosts number ≡ Some host
  pub actor_is : x.actor ≡ name.Desk number
  pub reply_is : x.reply ≡ cs_reply (cs_list (database_of w.dbs (last_version past (name.Desk number))) host.name host.nets query)

pub record Headline (w : World) (h : List Entry) : Type 0 where
  -- the events of each script's steps, in order
  pub in_script_order : (c : ℕ) (s : Script) → caller_of w c ≡ IsScript s → KeepsScript w h c s
  -- what is imported over a call of IL is what the exporting step at its other end answers, in order, each once
  pub imports_answered : ImportsAnswered w h
  -- what each script writes in its `dns` steps
  pub questions : (c : ℕ) (s : Script) → caller_of w c ≡ IsScript s → AnswersQuestions w h c s
  -- each answer of cs
  pub cs : (k : ℕ) (x : Entry) (query : List ℕ) → slice_get h k ≡ Some x → x.event ≡ event.Cs query → AnswersCs w (take k h) x query
  -- each IL conversation and its peer, and one that has none
  pub in_order : (e f : Conversation) → e.proto ≡ Il → peer w h e ≡ Some f → InOrder w h e f
  pub alone : (e : Conversation) → e.proto ≡ Il → peer w h e ≡ None → Alone w h e
  -- each read at a UDP conversation
  pub datagrams : (e : Conversation) (k count : ℕ) (text : List ℕ) → e.proto ≡ Udp → IsRead h e k count text → WasWritten w h e k count text
  -- names and lines of it break no line of its text
  pub plain : IsPlain h
