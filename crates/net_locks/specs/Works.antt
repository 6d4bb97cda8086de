-- The net after entries that stand with their works: each actor steps by the work that stands with its entry, at the
-- moment of the entry. A guest knows so much, though it does not know whether the entries of others are what they owed.
use Rattle.std.specs.Prelude.{ℕ, List, [], ◌∷◌, ◌++◌, length, map, Option, Some, None, if◌then◌else◌}
use Rattle.net_base.specs.declared.actor.ActorName.TheVariants as name
use Rattle.net_base.specs.declared.history.Entry.{Entry}
use Rattle.net_base.specs.declared.noted.Noted.{Noted}
use Rattle.net_base.specs.declared.world.World.{World}
use Rattle.net_base.specs.ActorStep.{Step}
use Rattle.net_base.specs.Actors.{Actor, actor_step}
use Rattle.net_base.specs.Duties.{Duty, duties}
use Rattle.net_base.specs.Net.{Net, opening_net, actors_after, owed_after, moment_after}
use Rattle.net_base.specs.Stamped.{same_actor}

-- the entries without their works
abbrev pub entries : List Noted → List Entry
entries log = map (λ (x : Noted). x.entry) log

-- what the entry's actor does with the entry's work
abbrev pub step_by : World → Net → Noted → Option (Step Actor)
step_by w net x = actor_step w x.entry.actor (net.actors x.entry.actor) x.entry.moment x.work

-- the clock's moves alone change the moment
abbrev pub moment_by : ℕ → Noted → ℕ
moment_by m x = if same_actor x.entry.actor name.Clock then moment_after m x.entry.event else m

abbrev pub noted_after : World → Net → Noted → Option (Step Actor) → Net
noted_after w net x None =
    record { past = net.past ++ x.entry ∷ []; actors = net.actors; owed = net.owed; moment = moment_by net.moment x }
noted_after w net x (Some s) =
    record {
      past = net.past ++ x.entry ∷ [];
      actors = actors_after net.actors x.entry.actor s.state;
      owed = owed_after net.owed x.entry.caller (duties w net.actors x.entry.actor (length net.past) x.work s);
      moment = moment_by net.moment x;
    }

abbrev pub next_noted : World → Net → Noted → Net
next_noted w net x = noted_after w net x (step_by w net x)

abbrev pub noted_from : World → Net → List Noted → Net
noted_from w net [] = net
noted_from w net (x ∷ xs) = noted_from w (next_noted w net x) xs

-- the net after these entries, each with its work
abbrev pub noted_net : World → List Noted → Net
noted_net w log = noted_from w (opening_net w) log

-- what a caller owes after them
abbrev pub owed_in : World → List Noted → ℕ → List Duty
owed_in w log c = (noted_net w log).owed c
