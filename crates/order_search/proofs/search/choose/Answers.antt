use Rattle.order_search.proofs.Choosing.{chooses_first, chooses_last, chooses_pending, chooses_played, ends_path}
use Rattle.order_search.proofs.search.choose.Goals as goal

pub returns-in-Some-clause-exact : goal.returns-in-Some-clause-exact
returns-in-Some-clause-exact c = λ paths at.
    chooses_played c.args.world.now c.args.most c.args.walk.now c.requires c.args.refused.now c.args.path.now c.args.place c.in-Some.caller c.in-Some.ensures.found paths
    at

pub returns-in-Some-pending-clause-exact : goal.returns-in-Some-pending-clause-exact
returns-in-Some-pending-clause-exact c = λ paths at.
    chooses_pending c.args.world.now c.args.most c.args.walk.now c.requires c.args.refused.now c.args.path.now c.set.new.self c.args.place c.in-Some-pending.caller
    c.behind-next.result paths at c.in_default.ensures.none c.in-Some-pending.ensures.found (c.behind-next.ensures c.in-Some-pending.ensures.some.known)
    c.in_ok-set.ensures.forks c.in_ok-set.ensures.pending

pub returns-in-Some-bound_to-clause-exact : goal.returns-in-Some-bound_to-clause-exact
returns-in-Some-bound_to-clause-exact c = λ paths at.
    chooses_last c.args.world.now c.args.most c.args.walk.now c.requires c.args.refused.now c.refuse.new.refused c.args.path.now c.set-in-Some-bound_to.new.self
    c.args.place c.in-Some-bound_to.last paths at c.in_default.ensures.none c.in_default-pending.ensures.none c.in-Some-bound_to.ensures.some
    c.in-Some-bound_to.ensures.bound c.refuse.ensures.before c.refuse.ensures.alone c.in_ok-set-2.ensures.forks c.in_ok-set-2.ensures.pending

pub returns-in_default-first_goer-clause-exact : goal.returns-in_default-first_goer-clause-exact
returns-in_default-first_goer-clause-exact c = λ paths at.
    ends_path c.args.world.now c.args.most c.args.walk.now c.requires c.args.refused.now c.args.path.now c.args.place paths at c.in_default.ensures.none
    c.in_default-pending.ensures.none

pub returns-clause-exact : goal.returns-clause-exact
returns-clause-exact c = λ paths at.
    chooses_first c.args.world.now c.args.most c.args.walk.now c.requires c.args.refused.now c.args.path.now c.set-2.new.self c.args.place c.in-Some-first_goer.caller
    c.behind-next-2.result paths at c.in_default.ensures.none c.in_default-pending.ensures.none c.in_default-bound_to.ensures.none
    c.in-Some-first_goer.ensures.some c.in-Some-first_goer.ensures.lowest (c.behind-next-2.ensures c.in-Some-first_goer.ensures.some.known)
    c.in_ok-set-3.ensures.forks c.in_ok-set-3.ensures.pending
