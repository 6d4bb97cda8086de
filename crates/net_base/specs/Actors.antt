-- The actors of a world, and the step of each.
use Rattle.std.specs.Prelude.{ℕ, ◌&&◌, Bool, true, [], length, replicate, Option, None, slice_get, nat_lt}
use Rattle.std.specs.Option.{option_map, option_and_then}
use Rattle.net_base.specs.declared.actor.ActorName.{ActorName}
use Rattle.net_base.specs.declared.actor.ActorName.TheVariants as name
use Rattle.net_base.specs.declared.address.Proto.{Proto}
use Rattle.net_base.specs.declared.address.Proto.TheVariants as proto
use Rattle.net_base.specs.declared.history.Work.{Work}
use Rattle.net_base.specs.declared.reply.Reply.{Reply}
use Rattle.net_base.specs.declared.timer.Timers.{Timers}
use Rattle.net_base.specs.declared.world.HostSpec.{HostSpec}
use Rattle.net_base.specs.declared.world.MediumSpec.{MediumSpec}
use Rattle.net_base.specs.declared.world.World.{World}
use Rattle.net_base.specs.ActorStep.{Step, replies, when}
use Rattle.net_base.specs.Conversation.{Conv, Core, Il, Udp, Unused, nowhere, conv_step}
use Rattle.net_base.specs.Desk.{Desk, opening_desk, desk_step, clock_reply}
use Rattle.net_base.specs.Directory.{Dir, free_slot, dir_step}
use Rattle.net_base.specs.IlEnd.{fresh_end}
use Rattle.net_base.specs.Medium.{Medium, quiet_medium, medium_step}
use Rattle.net_base.specs.UdpEnd.{fresh_udp}

-- Which there are.

-- the slots of a host and protocol
abbrev pub slot_count : ℕ
slot_count = 32

-- every host has a desk, both directories and all their conversations
abbrev pub has_actor : World → ActorName → Bool
has_actor w (name.Desk h) = nat_lt h (length w.hosts)
has_actor w (name.Dir h p) = nat_lt h (length w.hosts)
has_actor w (name.Conv h p n) = nat_lt h (length w.hosts) && nat_lt n slot_count
has_actor w (name.Medium m) = nat_lt m (length w.media)
has_actor w name.Clock = true

-- Their states.

-- the state of an actor
pub data Actor : Type 0 where
  IsDesk : Desk → Actor
  IsDir : Dir → Actor
  IsConv : Conv → Actor
  IsMedium : Medium → Actor
  -- the clock keeps nothing
  IsPlain : Actor

abbrev pub opening_dir : Dir
opening_dir = record { slots = replicate slot_count free_slot; pairs = []; ports = []; starts = 0 }

-- an end to which nothing has happened
abbrev pub opening_core : Timers → Proto → Core
opening_core timers proto.Il = Il (fresh_end timers)
opening_core timers proto.Udp = Udp fresh_udp

abbrev pub opening_conv : Timers → Proto → Conv
opening_conv timers p =
    record {
      generation = 0;
      opens = 0;
      pair = record { local = nowhere; remote = nowhere };
      limit = 0;
      ttl = 255;
      tos = 0;
      stage = Unused;
      core = opening_core timers p;
    }

-- the state from which an actor sets out, where the timers are of this kind
abbrev pub opening_actor : Timers → ActorName → Actor
opening_actor timers (name.Desk h) = IsDesk opening_desk
opening_actor timers (name.Dir h p) = IsDir opening_dir
opening_actor timers (name.Conv h p n) = IsConv (opening_conv timers p)
opening_actor timers (name.Medium m) = IsMedium quiet_medium
opening_actor timers name.Clock = IsPlain

-- Their steps.

-- an actor that keeps nothing replies
abbrev pub plain_step : Reply → Step Actor
plain_step answer = record { state = IsPlain; outcome = replies answer None }

-- the step of one kind of actors, as a step of any
abbrev pub step_as : {S : Type 0} → (S → Actor) → Option (Step S) → Option (Step Actor)
step_as {S} actor step = option_map (λ (s : Step S). record { state = actor s.state; outcome = s.outcome }) step

-- the table of an actor of the world at a moment; none where no row answers
abbrev pub table_step : World → ActorName → Actor → ℕ → Work → Option (Step Actor)
table_step w (name.Desk h) (IsDesk d) now work =
    option_and_then (λ (host : HostSpec). step_as IsDesk (desk_step w.dbs host work.event now d)) (slice_get w.hosts h)
table_step w (name.Dir h p) (IsDir d) now work = step_as IsDir (dir_step w h p work.event work.with d)
table_step w (name.Conv h p n) (IsConv c) now work = step_as IsConv (conv_step n work.event work.with now c)
table_step w (name.Medium m) (IsMedium s) now work =
    option_and_then (λ (spec : MediumSpec). step_as IsMedium (medium_step spec w.seed work.event work.with s)) (slice_get w.media m)
table_step w name.Clock IsPlain now work = option_map plain_step (clock_reply work.event)
table_step w _ _ now work = None

-- the step of an actor; none where its table has no answer, or the world doesn't have it
abbrev pub actor_step : World → ActorName → Actor → ℕ → Work → Option (Step Actor)
actor_step w a s now work = when (has_actor w a) (table_step w a s now work)
