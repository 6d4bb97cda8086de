-- A live run as far as it has come, and its end.
use Rattle.std.specs.Prelude.{◌≡◌, ℕ, ◌<◌, ◌++◌, Bool, true, List, length, Some, None, IsSome, codes, slice_get}
use Rattle.net_base.specs.declared.history.Entry.{Entry}
use Rattle.net_base.specs.declared.world.Script.{Script}
use Rattle.net_base.specs.declared.world.World.{World}
use Rattle.net_base.specs.Legal.{IsLegal, IsTimed}
use Rattle.net_base.specs.Net.{moment}
use Rattle.net_base.specs.Next.{is_unfinished, next_recorded}
use Rattle.net_base.specs.Summary.{summary}
use Rattle.net_base.specs.Transcript.{history_text}
use Rattle.net_base.specs.World.{IsWorld}
use Rattle.plain_runner.specs.Resting.{Rests}
use Rattle.plain_runner.specs.Tracks.{Tracks}
use Rattle.transcript.specs.RunStatus.{IsRunStatusOf}
use Rattle.world_writer.specs.Written.{world_file_text}
use Rattle.live_run.specs.Currents.{IsUnheard}
use Rattle.live_run.specs.Deadlines.{AreWaiting, MovesTo}
use Rattle.live_run.specs.LiveWorlds.{GrownFrom, HadNext}
use Rattle.live_run.specs.declared.live.Live.{Live}
use Rattle.live_run.specs.declared.playing.LiveEnd.{LiveEnd}
use Rattle.live_run.specs.declared.playing.Pause.{Pause}
use Rattle.live_run.specs.declared.playing.Pause.TheVariants as pause
use Rattle.live_run.specs.declared.playing.Rest.{Rest}
use Rattle.live_run.specs.declared.round.Round.{Round}

-- it plays this world
pub record IsRunning (w : World) (r : Round) : Type 0 where
  pub tracks : Tracks w r.runner
  pub history_is : r.history ≡ r.runner.history.entries
  pub next : HadNext w r.runner.history.entries r.places.grows.items
  pub waits : AreWaiting w r.runner.history.entries r.places.deadlines.items
  pub moved : MovesTo r.runner.history.entries r.moved

-- it rests, whatever its deadlines are
pub record IsResting (w : World) (r : Rest) : Type 0 where
  pub rests : Rests w r.run
  pub history_is : r.history ≡ r.run.history.entries
  pub next : HadNext w r.run.history.entries r.places.grows.items

-- it rests between two lines, or two steps
pub record IsRest (w : World) (r : Rest) : Type 0 where
  pub resting : IsResting w r
  pub waits : AreWaiting w r.run.history.entries r.places.deadlines.items
  pub moved : MovesTo r.run.history.entries r.moved

-- the current step of script c, one of these places, can be withdrawn: the clock does not pass this moment before the step has an entry
pub record CanWithdraw (r : Rest) (places : List Bool) (c last : ℕ) : Type 0 where
  pub among : slice_get places c ≡ Some true
  pub known : c < length r.run.callers.items
  pub deadline : slice_get r.places.deadlines.items c ≡ Some (Some last)
  pub unheard : IsUnheard r.places.currents.items c

-- each script that can get more steps has a next event
abbrev pub AreHeld : World → List Entry → List Bool → Type 0
AreHeld w h grows = (c : ℕ) → slice_get grows c ≡ Some true → IsSome (next_recorded w h c)

-- a step of script c is not finished
pub record HasLeft (w : World) (h : List Entry) (c : ℕ) : Type 0 where
  pub script : Script
  pub is : slice_get w.scripts c ≡ Some script
  pub left : is_unfinished w h c script ≡ true

-- a script without unfinished steps
abbrev pub IsFreeScript : World → List Entry → ℕ → Type 0
IsFreeScript w h c = (c < length w.scripts) × (next_recorded w h c ≡ None)

-- so is a place whose step begins
abbrev pub IsFree : World → List Entry → Pause → Type 0
IsFree w h (pause.Begins at) = IsFreeScript w h at.caller
IsFree w h _ = Unit {0}

-- so after this history
abbrev pub IsStatus : World → List Entry → LiveEnd → Type 0
IsStatus w h e = IsRunStatusOf w h (record { answered = e.answered; end = Some e.end })

-- a run that has ended, whose world is the first one after its places got steps
pub record IsLive (first : World) (l : Live) : Type 0 where
  pub grown : GrownFrom first l.world
  pub world : IsWorld l.world
  pub legal : IsLegal l.world l.history
  pub timed : IsTimed l.world l.history
  -- it has ended
  pub status : IsStatus l.world l.history l.end
  pub moment : l.end.moment ≡ moment l.world l.history

-- the world, the line `%history`, the history and its summary
abbrev pub file_text : World → List Entry → List ℕ
file_text w h = world_file_text w ++ (codes "%history\n" ++ (history_text h ++ summary w h))
