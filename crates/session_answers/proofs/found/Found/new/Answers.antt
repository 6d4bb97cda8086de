use Rattle.std.proofs.Common.{[], ap}
use Rattle.std.proofs.Math.Path.{fun_ext}
use Rattle.std.specs.Prelude.{nat_eq, unwrap_or}
use Rattle.std.specs.Map.{lookup}
use Rattle.session_answers.proofs.found.Found.new.Goals as goal

pub returns : goal.returns
returns c = fun_ext (λ n. ap (λ es. unwrap_or (lookup (nat_eq n) es) []) c.new.ensures.empty)
