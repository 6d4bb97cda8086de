use Rattle.std.proofs.Common.{ap}
use Rattle.std.proofs.Math.Path.{fun_ext}
use Rattle.std.specs.Prelude.{nat_eq}
use Rattle.std.specs.Map.{lookup}
use Rattle.session_script.proofs.fids.Fids.new.Goals as goal

pub returns : goal.returns
returns c = fun_ext (λ n. ap (λ es. lookup (nat_eq n) es) c.new.ensures.empty)
