-- The made world: anna sends so many messages to helix, one after the other, and helix answers each by its own text.
use Rattle.std.specs.Prelude.{ℕ, List, [], ◌∷◌, ◌++◌, flat_map, codes, decimal}
use Rattle.std.specs.List.{range_with_len}
use Rattle.net_base.specs.declared.world.HostSpec.{HostSpec}
use Rattle.net_base.specs.declared.world.MediumSpec.{MediumSpec}
use Rattle.net_base.specs.declared.world.Script.{Script}
use Rattle.net_base.specs.declared.world.Step.{Step}
use Rattle.net_base.specs.declared.world.Step.TheVariants as step
use Rattle.net_base.specs.declared.world.World.{World}
use Rattle.net_base.specs.declared.timer.Timers.TheVariants.{Fixed}
use Rattle.world_text.specs.Worked.{anna, helix, host, script_with, tuples}

-- the text of the k-th message
abbrev pub made_message : ℕ → List ℕ
made_message k = decimal k

-- anna writes the k-th message, and reads its answer
abbrev pub message_steps : ℕ → List Step
message_steps k = step.Write (codes "d") (made_message k) ∷ step.Read (codes "d") 8192 ∷ []

abbrev pub anna_steps : ℕ → List Step
anna_steps n =
    step.Until 10
    ∷ step.Dial (codes "d") (codes "net!helix!9fs")
    ∷ (flat_map message_steps (range_with_len 1 n)
    ++ step.Close (codes "d") ∷ [])

-- helix reads the k-th message, and answers it
abbrev pub answering : ℕ → List Step
answering k = step.Read (codes "e") 8192 ∷ step.Write (codes "e") (made_message k) ∷ []

abbrev pub helix_steps : ℕ → List Step
helix_steps n =
    step.Announce (codes "a") (codes "net!*!9fs")
    ∷ step.Listen (codes "c") (codes "a")
    ∷ step.Accept (codes "e") (codes "c")
    ∷ (flat_map answering (range_with_len 1 n)
    ++ step.Read (codes "e") 8192 ∷ step.Close (codes "e") ∷ step.Close (codes "c") ∷ [])

-- a medium that delivers each frame
abbrev pub made_medium : MediumSpec
made_medium = record { number = 0; name = codes "ether0"; mtu = 1500; loss = 0; twice = 0; later = 0; fates = [] }

abbrev pub made_hosts : List HostSpec
made_hosts = host (codes "anna") anna [] ∷ host (codes "helix") helix [] ∷ []

abbrev pub made_scripts : ℕ → List Script
made_scripts n = script_with 0 (anna_steps n) ∷ script_with 1 (helix_steps n) ∷ []

-- the world of n messages, whose seed is n, with the worked database
abbrev pub made_world : ℕ → World
made_world n =
    record {
      end = 1000000000;
      seed = n;
      timers = Fixed;
      media = made_medium ∷ [];
      hosts = made_hosts;
      scripts = made_scripts n;
      dbs = record { moment = 0; db = tuples } ∷ [];
    }
