-- A world file can describe a world with more steps.
use Rattle.std.proofs.Common.{◌≡◌, ℕ, zero, suc, nat_lt, true, List, [], ◌∷◌, length, refl, ap, ◌∙◌}
use Rattle.std.specs.Prelude.{nat_le}
use Rattle.std.specs.List.{list_all}
use Rattle.std.proofs.lemmas.Bool.{and_from, and_parts}
use Rattle.std.proofs.lemmas.List.Folds.{list_all-append}
use Rattle.net_base.specs.declared.world.Script.{Script}
use Rattle.net_base.specs.declared.world.Step.{Step}
use Rattle.net_base.specs.declared.world.World.{World}
use Rattle.net_base.specs.StepWords.{is_step}
use Rattle.net_base.specs.World.{IsWorld, is_script}
use Rattle.grown_laws.specs.Grown.{grown, grown_scripts, longer}
use Rattle.grown_laws.proofs.Scripts.{as_many}

module _ (hosts : ℕ) (more : List Step) (steps : list_all is_step more ≡ true) where
  longer_is : (s : Script) → is_script hosts s ≡ true → is_script hosts (longer s more) ≡ true
  longer_is s is =
      let parts = and_parts (nat_lt s.host hosts) (list_all is_step s.steps) is in
      and_from _ _ parts.0 (list_all-append is_step s.steps more ∙ and_from _ _ parts.1 steps)

  scripts_are : (ss : List Script) (c : ℕ) → list_all (is_script hosts) ss ≡ true → list_all (is_script hosts) (grown_scripts ss c more) ≡ true
  scripts_are [] c is = refl
  scripts_are (s ∷ ss) zero is =
      let parts = and_parts (is_script hosts s) (list_all (is_script hosts) ss) is in
      and_from _ _ (longer_is s parts.0) parts.1
  scripts_are (s ∷ ss) (suc c) is =
      let parts = and_parts (is_script hosts s) (list_all (is_script hosts) ss) is in
      and_from _ _ parts.0 (scripts_are ss c parts.1)

pub grown_world : (w : World) (c : ℕ) (more : List Step) → IsWorld w → list_all is_step more ≡ true → IsWorld (grown w c more)
grown_world w c more world steps =
    record {
      end = world.end;
      seed = world.seed;
      some_media = world.some_media;
      media = world.media;
      media_named = world.media_named;
      some_hosts = world.some_hosts;
      hosts = world.hosts;
      hosts_named = world.hosts_named;
      hosts_addressed = world.hosts_addressed;
      few_scripts = ap (λ (n : ℕ). nat_le n 32) (as_many w.scripts c more) ∙ world.few_scripts;
      scripts = scripts_are (length w.hosts) more steps w.scripts c world.scripts;
      versions_timed = world.versions_timed;
      versions = world.versions;
    }
