use Rattle.std.proofs.Common.{refl}
use Rattle.live_run.proofs.Rests.{begins_on}
use Rattle.live_run.proofs.beginning.begin_all.Goals as goal

pub loop-script-init : goal.loop-script-init
loop-script-init c = (c.requires, refl, (λ first from places. from), refl)
