-- The task of a whole script plays it.
use Rattle.std.proofs.Common.{◌≡◌, ℕ, [], ap, subst, ◌∙◌}
use Rattle.net_base.specs.declared.world.Script.{Script}
use Rattle.net_base.specs.declared.world.World.{World}
use Rattle.net_base.specs.Callers.{IsScript, caller_of}
use Rattle.net_base.specs.Next.{zone_of}
use Rattle.net_base.specs.Steps.{no_names}
use Rattle.played_task.specs.ScriptTasks.{Scripting, Plays}

-- the caller c of the world v is the caller d of w
pub plays_at_first : (v w : World) (c d : ℕ) (t : Scripting) → w ≡ v → d ≡ c → ((s : Script) → caller_of w d ≡ IsScript s → Plays (zone_of w) s [] (no_names (zone_of w)) t)
    → (s : Script) → caller_of v c ≡ IsScript s → Plays (zone_of v) s [] (no_names (zone_of v)) t
plays_at_first v w c d t world caller plays s is =
    subst (λ (u : World). Plays (zone_of u) s [] (no_names (zone_of u)) t) world (plays s (ap (λ (u : World). caller_of u d) world ∙ ap (caller_of v) caller ∙ is))
