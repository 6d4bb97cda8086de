use Rattle.std.proofs.Common.{Some, ap, refl}
use Rattle.replay_views.proofs.Scripts.{finished_is, not_script}
use Rattle.replay_views.proofs.standing.finished_steps.Goals as goal

pub returns-in-Script : goal.returns-in-Script
returns-in-Script c = λ w h k s is at.
    ap Some (finished_is w h k c.args.caller.now s c.in-Script.field-0 c.in-Script.player c.finished.result c.in-Script.is is at c.finished.ensures)

pub returns-in-Courier : goal.returns-in-Courier
returns-in-Courier c = λ w h k s is at. absurd (not_script w h k c.args.caller.now s _ c.in-Courier.is refl is at)

pub returns-in-Clock : goal.returns-in-Clock
returns-in-Clock c = λ w h k s is at. absurd (not_script w h k c.args.caller.now s _ c.in-Clock.is refl is at)
