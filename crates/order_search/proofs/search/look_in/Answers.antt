use Rattle.std.proofs.Common.{refl}
use Rattle.order_search.proofs.Searched.{looked_at, looks_past, same_found}
use Rattle.order_search.proofs.search.look_in.Goals as goal

pub returns-then-walk-pass-clause-exact : goal.returns-then-walk-pass-clause-exact
returns-then-walk-pass-clause-exact c = λ none no_losses no_frames whole paths seen found.
    looks_past c.args.world.now c.args.pass.preemptions c.args.sought.limit c.play.new.walk c.in_ok-ended.ensures.played.is c.args.trail.now c.play.new.trail
    (c.in_ok-ended.ensures.exact c.in_ok-walk.ensures.empty no_losses paths whole) (c.in_ok-ended.ensures.played.at_end (c.in_ok-ended.ensures.whole whole)) seen _
    (same_found c.args.world.now c.args.sought.limit seen c.args.found.now _ found refl refl refl refl refl) c.if-walk-pass.true

pub returns-clause-exact : goal.returns-clause-exact
returns-clause-exact c =
    looked_at c.take.result c.args.world.now c.args.sought c.args.pass c.args.lost.now c.play.new.walk c.in_ok-ended.ensures.played.is c.args.trail.now
    c.play.new.trail c.args.found.now _ c.take.new.found
    (λ no_losses whole paths. c.in_ok-ended.ensures.exact c.in_ok-walk.ensures.empty no_losses paths whole)
    (λ whole. c.in_ok-ended.ensures.played.at_end (c.in_ok-ended.ensures.whole whole)) c.if-walk-pass.false
    (λ seen found. same_found c.args.world.now c.args.sought.limit seen c.args.found.now _ found refl refl refl refl refl) c.take.ensures.exact
