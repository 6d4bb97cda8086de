use Rattle.std.proofs.Common.{◌∙◌}
use Rattle.order_search.proofs.Searched.{kin_none, looked}
use Rattle.order_search.proofs.ToldRuns.{kin_itself}
use Rattle.order_search.proofs.search.look.Goals as goal

pub returns-clause-exact : goal.returns-clause-exact
returns-clause-exact c =
    looked c.look_in.result c.args.world.now c.lose_sought.new.world c.args.sought c.args.pass c.as_slice-2.result.now c.args.trail.now c.look_in.new.trail
    c.args.found.now c.look_in.new.found
    (λ none. kin_none c.args.sought.losses c.args.world.now c.lose_sought.new.world none
    (c.in_ok-lose_sought.ensures.kin c.args.world.now (kin_itself c.args.world.now c.args.sought.losses)))
    (λ kept. c.as_slice-2.ensures.value ∙ c.in_ok-lost.ensures.none kept) c.look_in.ensures.exact
