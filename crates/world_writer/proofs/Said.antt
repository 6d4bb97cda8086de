-- Each made world is one that a file can say.
use Rattle.std.proofs.Common.{◌≡◌, ℕ, zero, suc, ◌+◌, ◌<◌, ◌^◌, ◌%◌, true, List, [], ◌∷◌, ◌++◌, Some, refl, ◌∙◌, arith}
use Rattle.std.specs.Prelude.{flat_map}
use Rattle.std.specs.List.{list_all, range_with_len}
use Rattle.std.proofs.lemmas.Bool.{and_from}
use Rattle.std.proofs.lemmas.Bool.Decides.{nat_tests}
use Rattle.std.proofs.lemmas.Fmt.{decimal_by_steps}
use Rattle.std.proofs.lemmas.List.Folds.{list_all-append}
use Rattle.std.proofs.lemmas.List.Elements.{All-from_recursion}
use Rattle.net_base.specs.declared.world.Step.{Step}
use Rattle.net_base.specs.NdbBundle.{reading}
use Rattle.net_base.specs.declared.world.Version.{Version}
use Rattle.net_base.specs.World.{IsDatabase, is_step, is_text, IsWorld}
use Rattle.world_text.specs.Worked.{small_bundle, tuples}
use Rattle.world_writer.specs.Made.{made_message, message_steps, answering, anna_steps, helix_steps, made_world}

-- The database.

pub local_reads : reading small_bundle ≡ Some tuples
local_reads = refl

-- Messages.

digit_text : (n : ℕ) → n < 10 → is_text ((48 + n) ∷ []) ≡ true
digit_text n lt = and_from _ _ (grind (arith, nat_tests)) refl

message_text : (k : ℕ) → k < 2 ^ 64 → is_text (made_message k) ≡ true
message_text k small =
    decimal_by_steps (λ n digits. is_text digits ≡ true) digit_text
    (λ n digits ten front. list_all-append _ digits _ ∙ and_from _ _ front (digit_text (n % 10) (omega arith)))
    k small

-- Steps.

-- each of the steps can be said
abbrev AreSteps : List Step → Type 0
AreSteps steps = list_all is_step steps ≡ true

both : (xs ys : List Step) → AreSteps xs → AreSteps ys → AreSteps (xs ++ ys)
both xs ys one two = list_all-append is_step xs ys ∙ and_from _ _ one two

-- the steps of so many messages, where those of each can be said
each : (steps : ℕ → List Step) (a n : ℕ) → ((k : ℕ) → k < a + n → AreSteps (steps k)) → AreSteps (flat_map steps (range_with_len a n))
each steps a zero one = refl
each steps a (suc n) one = both (steps a) _ (one a (omega arith)) (each steps (a + 1) n (λ k lt. one k (omega (arith, lt))))

asking_steps : (k : ℕ) → k < 2 ^ 64 → AreSteps (message_steps k)
asking_steps k small = and_from _ _ (message_text k small) refl

answering_steps : (k : ℕ) → k < 2 ^ 64 → AreSteps (answering k)
answering_steps k small = and_from _ _ (message_text k small) refl

module _ (n : ℕ) (small : n < 2 ^ 64) where
  anna_said : AreSteps (anna_steps n)
  anna_said =
      both (flat_map message_steps (range_with_len 1 n)) _
      (each message_steps 1 n (λ k lt. asking_steps k (omega (arith, lt, small)))) refl

  helix_said : AreSteps (helix_steps n)
  helix_said =
      both (flat_map answering (range_with_len 1 n)) _
      (each answering 1 n (λ k lt. answering_steps k (omega (arith, lt, small)))) refl

  -- Worlds.

  pub said : IsWorld (made_world n)
  said = record {
    end = refl;
    seed = grind (arith, nat_tests);
    some_media = refl;
    media = refl;
    media_named = refl;
    some_hosts = refl;
    hosts = refl;
    hosts_named = refl;
    hosts_addressed = refl;
    few_scripts = refl;
    scripts = and_from _ _ anna_said (and_from _ _ helix_said refl);
    versions_timed = refl;
    versions = All-from_recursion (λ (v : Version). IsDatabase v.db) (made_world n).dbs ((small_bundle, refl, local_reads), tt);
  }
