use Rattle.duties.proofs.Whole.{in_turn}
use Rattle.duties.proofs.world_ways.WorldWays.owe.Goals as goal

pub returns-clause-owes : goal.returns-clause-owes
returns-clause-owes c = λ w are actors step gives none.
    in_turn w actors c.args.actor c.args.stamp c.args.work c.args.outcome step _ _ _ _ _ gives none
    (c.owe_put.ensures.list w are) c.owe_follow_up.ensures.list (c.owe_copy.ensures.list w are) c.owe_release.ensures.list
