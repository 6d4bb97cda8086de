-- The lines of cs by fids, as the code keeps them.
use Rattle.std.specs.Prelude.{ℕ, List, [], nat_eq, unwrap_or}
use Rattle.indexmap.specs.IndexMap.{get}
use Rattle.session_answers.specs.declared.found.Found.{Found}

abbrev pub found_lines : Found → ℕ → List ℕ
found_lines f n = unwrap_or (get nat_eq f.entries n) []
