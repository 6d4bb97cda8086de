-- What each command gives is an answer to its input.
use Rattle.std.proofs.Common.{◌≡◌, ℕ, ◌≤◌, List, length, Option, Some, None, Ok, Err, Result, refl, sym, ◌∙◌, ap}
use Rattle.net_base.specs.declared.world.World.{World}
use Rattle.net_model.specs.Answers.{Answer, bad_input}
use Rattle.net_model.proofs.Shared.{answer_within, within_limit}
use Rattle.world_text.specs.WorldText.{world_reading}
use Rattle.netexplore.specs.Answers.{IsAnswer, IsAnswerOf, asking, bad_world}
use Rattle.netexplore.specs.Words.{Command}

pub gives : (asked : Command) (input : List ℕ) (w : World) (answer : Answer) → length input ≤ 4194304 → world_reading input ≡ Ok w
    → IsAnswerOf asked w answer → IsAnswer asked input answer
gives asked input w answer fits is found =
    let good : bad_world (world_reading input) ≡ None = ap bad_world is in
    answer_within _ asking asked input answer None (within_limit _ asking asked input fits) (sym good) (λ other told. told ∙ good) (w, is, found)

-- or the input has a bad line
pub gives_bad : (asked : Command) (input : List ℕ) (line cause : ℕ) (answer : Answer) → length input ≤ 4194304
    → world_reading input ≡ Err (line, cause) → answer ≡ bad_input line cause → IsAnswer asked input answer
gives_bad asked input line cause answer fits is bad =
    let found : bad_world (world_reading input) ≡ Some (line, cause) = ap bad_world is in
    answer_within _ asking asked input answer (Some (line, cause)) (within_limit _ asking asked input fits) (sym found) (λ other told. told ∙ found) bad
