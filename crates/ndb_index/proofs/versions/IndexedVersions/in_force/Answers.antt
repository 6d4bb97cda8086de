use Rattle.std.proofs.Common.{◌≤◌, ◌+◌, ◌-◌, ◌/◌, subst, ℕ, arith}
use Rattle.ndb_index.proofs.InForce.{one_left, second_half}
use Rattle.ndb_index.proofs.versions.IndexedVersions.in_force.Goals as goal

pub loop-end-preserved-then-earliest-now : goal.loop-end-preserved-then-earliest-now
loop-end-preserved-then-earliest-now c =
    second_half c.args.self.now c.args.now c.loop-end.first c.loop-end.end (c.loop-end.first + (c.loop-end.end - c.loop-end.first) / 2) c.loop-end.invariant
    (omega (arith, c.loop-end-test.true, c.loop-end.invariant.order)) (subst (λ (e : ℕ). e ≤ c.args.now) c.earliest.ensures c.if-earliest-now.true)

pub returns : goal.returns
returns c = one_left c.args.self.now c.args.now c.loop-end.first c.loop-end.end c.loop-end.invariant (omega (arith, c.loop-end-test.false))
