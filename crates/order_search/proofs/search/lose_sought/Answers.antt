use Rattle.std.proofs.lemmas.Result.{on_ok_weaker}
use Rattle.order_search.proofs.ToldRuns.{kin_lost, lost_is_world}
use Rattle.order_search.proofs.search.lose_sought.Goals as goal

pub returns-in-Some-clause-world : goal.returns-in-Some-clause-world
returns-in-Some-clause-world c =
    on_ok_weaker c.lose.result
    (λ is. lost_is_world c.lose.new.world c.args.world.now c.args.lost.now is c.requires.world c.requires.frames) c.lose.ensures

pub returns-in-Some-clause-kin : goal.returns-in-Some-clause-kin
returns-in-Some-clause-kin c =
    on_ok_weaker c.lose.result
    (λ is. kin_lost c.args.world.now c.lose.new.world c.args.losses c.in-Some.field-0 c.args.lost.now c.in-Some.is is) c.lose.ensures
