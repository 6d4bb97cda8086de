-- Each caller by itself: what it owes is the fold of its own steps, and entries of others leave it as it is.
use Rattle.std.specs.Prelude.{◌≡◌, ℕ, ◌==◌, List, [], ◌∷◌, ◌++◌, length, drop, Option, Some, None, if◌then◌else◌}
use Rattle.net_base.specs.declared.actor.ActorName.{ActorName}
use Rattle.net_base.specs.declared.history.Entry.{Entry}
use Rattle.net_base.specs.declared.world.World.{World}
use Rattle.net_base.specs.ActorStep.{Step}
use Rattle.net_base.specs.Actors.{Actor}
use Rattle.net_base.specs.Duties.{Duty, duties}
use Rattle.net_base.specs.Net.{Net, opening_net, next_net, owed, step_of, with_of}
use Rattle.net_base.specs.Next.{by, next_by}
use Rattle.net_base.specs.Tasks.{Tasks}

-- after the later history the caller stands as it stood after the earlier one
pub record StandsStill (w : World) (c : ℕ) (earlier later : List Entry) : Type 0 where
  pub recorded : by later c ≡ by earlier c
  pub owes : owed w later c ≡ owed w earlier c
  pub comes_next : (ts : Tasks) → next_by ts w later c ≡ next_by ts w earlier c

-- an entry with its stamp, its actor's step, and all actors as they stood before it
pub record OwnStep : Type 0 where
  pub stamp : ℕ
  pub entry : Entry
  pub step : Option (Step Actor)
  pub actors : ActorName → Actor

abbrev pub step_in : World → Net → Entry → OwnStep
step_in w net x = record { stamp = length net.past; entry = x; step = step_of w net x; actors = net.actors }

abbrev pub own_steps_from : World → ℕ → Net → List Entry → List OwnStep
own_steps_from w c net [] = []
own_steps_from w c net (x ∷ xs) =
    if x.caller == c then step_in w net x ∷ own_steps_from w c (next_net w net x) xs else own_steps_from w c (next_net w net x) xs

-- the steps of a caller's entries
abbrev pub own_steps : World → List Entry → ℕ → List OwnStep
own_steps w h c = own_steps_from w c (opening_net w) h

-- its first duty is done, and the new ones are owed after the others; a step that isn't ready changes nothing
abbrev pub owed_then : World → List Duty → OwnStep → Option (Step Actor) → List Duty
owed_then w ds o None = ds
owed_then w ds o (Some s) =
    drop 1 ds ++ duties w o.actors o.entry.actor o.stamp (record { event = o.entry.event; with = with_of ds }) s

-- what a caller that owes so much owes after these steps of its own
abbrev pub owed_by : World → List Duty → List OwnStep → List Duty
owed_by w ds [] = ds
owed_by w ds (o ∷ os) = owed_by w (owed_then w ds o o.step) os
