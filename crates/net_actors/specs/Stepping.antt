-- What the step of an actor needs, and what it leaves.
use Rattle.std.specs.Prelude.{◌≡◌, ◌≤◌, ℕ, Bool, true, false, Some, IsSome, bytes_eq, codes, is_some}
use Rattle.net_base.specs.declared.event.Event.{Event}
use Rattle.net_base.specs.declared.event.Event.TheVariants as event
use Rattle.net_base.specs.declared.history.Outcome.{Outcome}
use Rattle.net_base.specs.declared.history.With.{With}
use Rattle.net_base.specs.declared.history.With.TheVariants as given
use Rattle.net_base.specs.declared.history.Work.{Work}
use Rattle.net_base.specs.declared.world.World.{World}
use Rattle.net_base.specs.Actors.{actor_step}
use Rattle.net_base.specs.Desk.{clock_reply, desk_reply, desk_step}
use Rattle.net_base.specs.Directory.{dir_step}
use Rattle.net_base.specs.Medium.{datagram_length, medium_step, takes}
use Rattle.conversation.specs.Kept.{Seat}
use Rattle.conversation.specs.Memory.{work_takes}
use Rattle.conversation.specs.Stands.{StepsSeat as TalkSteps, slot_of, step_at}
use Rattle.host_dir.specs.Kept.{StepsDir as DirSteps, Wants as DirWants}
use Rattle.host_dir.specs.Ready.{is_row_ready}
use Rattle.medium.specs.OnMedium.{OnMedium, medium_laid}
use Rattle.medium.specs.Replies.{NextHasText}
use Rattle.net_actors.specs.AtDesk.{AtDesk, Replies, desk_at, host_at_desk}
use Rattle.net_actors.specs.Kept.{IsActorOf, kept_state}
use Rattle.net_actors.specs.declared.actor.Actor.{Actor as Kept}
use Rattle.net_actors.specs.declared.kind.Kind.{Kind}
use Rattle.net_actors.specs.declared.kind.Kind.TheVariants as kind

-- in some world of which it is an actor, its table answers the work
abbrev pub IsKeptReady : Kept → ℕ → Work → Type 0
IsKeptReady a now work = (w : World) × IsActorOf w a × (is_some (actor_step w a.name (kept_state a) now work) ≡ true)

-- its table answers with this outcome and leaves this state, and it stays an actor of the world
pub record StepsKeptIn (w : World) (old new : Kept) (now : ℕ) (work : Work) (o : Outcome) : Type 0 where
  pub of_world : IsActorOf w new
  pub step : actor_step w old.name (kept_state old) now work ≡ Some (record { state = kept_state new; outcome = o })

-- so in each world of which it is an actor
abbrev pub StepsKept : Kept → Kept → ℕ → Work → Outcome → Type 0
StepsKept old new now work o = (w : World) → IsActorOf w old → StepsKeptIn w old new now work o

-- What an actor that is kept answers, in no world.

-- the table of a medium answers the work
abbrev pub medium_ready : OnMedium → Work → Bool
medium_ready m work = is_some (medium_step m.spec m.seed work.event work.with (medium_laid m))

-- its table answers the work
abbrev pub kind_ready : Kind → ℕ → Work → Bool
kind_ready (kind.Desk d) now work = is_some (desk_reply d.dbs (host_at_desk d) work.event now (desk_at d))
kind_ready (kind.Dir d) now work = is_row_ready d.proto work.event work.with d.dir
kind_ready (kind.Conv c) now work = is_some (step_at c now work c.conv)
kind_ready (kind.Medium m) now work = medium_ready m work
kind_ready kind.Clock now work = is_some (clock_reply work.event)

-- what the world says of the desk stays
pub record DeskSteps (old new : AtDesk) (now : ℕ) (work : Work) (o : Outcome) : Type 0 where
  pub same : new ≡ record old { version = new.version }
  pub step : desk_step old.dbs (host_at_desk old) work.event now (desk_at old) ≡ Some (record { state = desk_at new; outcome = o })

-- a conversation steps in its slot
pub record ConvSteps (old new : Seat) (now : ℕ) (work : Work) (o : Outcome) : Type 0 where
  pub step : TalkSteps old new now work o
  pub slot : slot_of new ≡ slot_of old
  pub copy : o.copy ≡ Some o.reply

-- what the world says of the medium stays
pub record MediumSteps (old new : OnMedium) (work : Work) (o : Outcome) : Type 0 where
  pub spec : new.spec ≡ old.spec
  pub seed : new.seed ≡ old.seed
  pub step : medium_step old.spec old.seed work.event work.with (medium_laid old) ≡ Some (record { state = medium_laid new; outcome = o })

-- a copy is taken
pub record MediumTakes (old new : OnMedium) (o : Outcome) : Type 0 where
  pub spec : new.spec ≡ old.spec
  pub seed : new.seed ≡ old.seed
  pub step : takes (medium_laid old).queue (medium_laid old).held (medium_laid old) ≡ Some (record { state = medium_laid new; outcome = o })

abbrev pub KindSteps : Kind → Kind → ℕ → Work → Outcome → Type 0
KindSteps (kind.Desk d) (kind.Desk e) now work o = DeskSteps d e now work o
KindSteps (kind.Dir d) (kind.Dir e) now work o = DirSteps d e work o
KindSteps (kind.Conv c) (kind.Conv d) now work o = ConvSteps c d now work o
KindSteps (kind.Medium m) (kind.Medium n) now work o = MediumSteps m n work o
KindSteps kind.Clock kind.Clock now work o = Replies (clock_reply work.event) o
KindSteps _ _ now work o = ⊥

-- Want of memory: only there may a step say that there is none.

-- a desk takes memory for an answer of cs, and for the names in /net
abbrev pub desk_takes : Event → Bool
desk_takes (event.Cs query) = true
desk_takes (event.LsPath path) = bytes_eq path (codes "/net")
desk_takes _ = false

-- a medium does for a frame that is laid, and for a copy with a text that is taken
abbrev pub MediumMayWant : OnMedium → Event → With → Type 0
MediumMayWant m (event.Put to) (given.Packet p) = IsSome to × (datagram_length p.body ≤ m.spec.mtu)
MediumMayWant m event.Take with = NextHasText m
MediumMayWant m _ _ = ⊥

-- by its kind an actor may want memory for a work; the clock never does
abbrev pub ActorMayWant : Kind → ℕ → Work → Type 0
ActorMayWant (kind.Desk d) now work = desk_takes work.event ≡ true
ActorMayWant (kind.Dir d) now work = DirWants d (λ at. dir_step at.world at.host at.proto work.event work.with d.dir)
ActorMayWant (kind.Conv c) now work = work_takes now work c.conv ≡ true
ActorMayWant (kind.Medium m) now work = MediumMayWant m work.event work.with
ActorMayWant kind.Clock now work = ⊥
