use Rattle.std.proofs.Common.{◌-◌, get_or, length, refl, ◌∙◌, arith}
use Rattle.ndb_index.proofs.InForce.{one_earlier, one_moment}
use Rattle.ndb_index.proofs.versions.earliest_moments.Goals as goal

pub loop-back-preserved : goal.loop-back-preserved
loop-back-preserved c =
    let now =
    one_earlier c.args.versions.now c.loop-back.back c.loop-back.earliest c.earlier-earliest.result (get_or c.args.versions.now (length c.args.versions.now - 1 - c.loop-back.back) c.index-versions-versions.result)
    c.index-versions-versions.result (omega (arith, c.loop-back-test.true)) refl c.loop-back.invariant.0 c.earlier-earliest.ensures in
    (now, c.in_ok-push.ensures.items ∙ one_moment c.args.versions.now c.loop-back.back c.earlier-earliest.result c.loop-back.moments.items (omega (arith, c.loop-back-test.true)) c.loop-back.invariant.1 now)
