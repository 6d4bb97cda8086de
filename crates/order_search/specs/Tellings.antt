-- What the program reports of the histories of a world. With a number k of losses, these are the histories of the worlds that lose
-- at most k frames, and no other; without one, those of the world itself.
use Rattle.std.specs.Prelude.{◌≡◌, ℕ, ◌+◌, ◌≤◌, ◌⊎◌, Bool, true, false, List, length, All, IfSome, Option, Some, None, unwrap_or}
use Rattle.std.specs.List.{list_all}
use Rattle.net_base.specs.declared.history.Entry.{Entry}
use Rattle.net_base.specs.declared.world.World.{World}
use Rattle.net_base.specs.Legal.{IsLegal, IsTimed}
use Rattle.net_base.specs.Net.{after}
use Rattle.net_base.specs.Summary.{end_word, summary}
use Rattle.transcript.specs.RunStatus.{run_end_word}
use Rattle.turn_orders.specs.Preemptions.{IsWithin, preemptions}
use Rattle.turn_orders.specs.Results.{outcome_of}
use Rattle.turn_orders.specs.Turns.{IsEnded}
use Rattle.order_search.specs.declared.ended.Ended.{Ended}
use Rattle.order_search.specs.declared.losses.Frame.{Frame}
use Rattle.order_search.specs.declared.search.Found.{Found}
use Rattle.order_search.specs.declared.search.Pass.{Pass}
use Rattle.order_search.specs.declared.search.Sought.{Sought}
use Rattle.order_search.specs.declared.tellings.Telling.{Telling}
use Rattle.order_search.specs.Losses.{AreFrames, is_laid, without}
use Rattle.order_search.specs.Marks.{results_text}

-- Worlds of a search.

-- the world itself, or the world without these frames
abbrev pub IsWorldOf : World → Option ℕ → List Frame → World → Type 0
IsWorldOf w None lost v = v ≡ w
IsWorldOf w (Some k) lost v = v ≡ without w lost

abbrev pub most_losses : Option ℕ → ℕ
most_losses losses = unwrap_or losses 0

-- with a number k of losses, the world without a set of at most k frames
pub record IsSearched (w : World) (losses : Option ℕ) (lost : List Frame) (v : World) : Type 0 where
  pub world_is : IsWorldOf w losses lost v
  pub frames : AreFrames lost
  pub few : length lost ≤ most_losses losses

-- the world itself, or one that loses chosen frames as it does
abbrev pub IsKin : World → Option ℕ → World → Type 0
IsKin w None v = v ≡ w
IsKin w (Some k) v = (lost : List Frame) → without v lost ≡ without w lost

-- no more losses and preemptions than are sought
pub record IsPassOf (s : Sought) (pass : Pass) : Type 0 where
  pub losses_are : pass.losses ≤ most_losses s.losses
  pub preemptions_are : pass.preemptions ≤ s.preemptions

-- with one preemption more
pub record NextPass (s : Sought) (pass next : Pass) : Type 0 where
  pub same_losses : next.losses ≡ pass.losses
  pub one_more : next.preemptions ≡ pass.preemptions + 1
  pub within : next.preemptions ≤ s.preemptions

-- no history has more preemptions, or none with more is sought
abbrev pub IsLastPass : Sought → Pass → Bool → Type 0
IsLastPass s pass refused = (refused ≡ false) ⊎ (s.preemptions ≤ pass.preemptions)

-- Histories.

-- a history with at most p preemptions, which has ended, has this summary, these results of steps, this end, and these preemptions
pub record IsTellingOf (w : World) (p : ℕ) (h : List Entry) (t : Telling) : Type 0 where
  pub within : IsWithin w p h
  pub preemptions_are : t.preemptions ≡ preemptions w h
  pub summary_is : t.summary ≡ summary w h
  pub results_are : t.results ≡ results_text (outcome_of w h)
  pub end_is : run_end_word t.end ≡ end_word w (after w h)

-- the number of losses, if losses are sought
abbrev pub told_losses : Option ℕ → List Frame → Option ℕ
told_losses None lost = None
told_losses (Some k) lost = Some (length lost)

-- an outcome with at most p preemptions has such a history, of a world of the search; the history lays each lost frame
pub record IsTelling (w : World) (losses : Option ℕ) (p : ℕ) (t : Telling) : Type 0 where
  pub world : World
  pub lost : List Frame
  pub searched : IsSearched w losses lost world
  pub history : List Entry
  pub is : IsTellingOf world p history t
  pub laid : list_all (is_laid history) lost ≡ true
  pub losses_are : t.losses ≡ told_losses losses lost

-- a legal, timed and ended history with its summary, and how it ends
pub record IsEndedRun (w : World) (e : Ended) : Type 0 where
  pub legal : IsLegal w e.history
  pub timed : IsTimed w e.history
  pub ended : IsEnded w e.history
  pub summary_is : e.summary ≡ summary w e.history
  pub end_is : run_end_word e.end ≡ end_word w (after w e.history)

-- this history, with at most p preemptions, and these frames
pub record IsEndedOf (w : World) (p : ℕ) (h : List Entry) (lost : List Frame) (e : Ended) : Type 0 where
  pub run : IsEndedRun w e
  pub bounded : preemptions w e.history ≤ p
  pub history_is : e.history ≡ h
  pub lost_is : e.lost.items ≡ lost

-- a history of a world of the search that lays each lost frame
pub record IsWitness (w : World) (losses : Option ℕ) (p : ℕ) (e : Ended) : Type 0 where
  pub world : World
  pub searched : IsSearched w losses e.lost.items world
  pub run : IsEndedRun world e
  pub bounded : preemptions world e.history ≤ p
  pub laid : list_all (is_laid e.history) e.lost.items ≡ true

-- all that is reported has its history
pub record IsSound (w : World) (losses : Option ℕ) (p : ℕ) (f : Found) : Type 0 where
  pub told : All (IsTelling w losses p) f.told.items
  pub witness : IfSome f.witness (IsWitness w losses p)
