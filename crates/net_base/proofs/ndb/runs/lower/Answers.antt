use Rattle.std.proofs.Common.{ℕ, ◌-◌, arith}
use Rattle.net_base.proofs.Skipped.{mapped-length, mapped-next, mapped-all}
use Rattle.net_base.proofs.ndb.runs.lower.Goals as goal

pub lower_at-requires : goal.lower_at-requires
lower_at-requires c =
    omega (arith, c.loop-place-test.true, c.len-place-end.ensures, c.args.ends.now.ok.0, mapped-length (λ (e : ℕ). e - c.args.count) c.args.ends.now.items c.loop-place.ends.items c.loop-place.place c.loop-place.invariant)

pub loop-place-preserved : goal.loop-place-preserved
loop-place-preserved c =
    mapped-next (λ (e : ℕ). e - c.args.count) c.args.ends.now.items c.loop-place.ends.items c.lower_at.new.ends.items c.loop-place.place 0
    (omega (arith, c.loop-place-test.true, c.len-place-end.ensures, c.args.ends.now.ok.0)) c.loop-place.invariant (c.lower_at.ensures 0)

pub returns : goal.returns
returns c =
    mapped-all (λ (e : ℕ). e - c.args.count) c.args.ends.now.items c.loop-place.ends.items c.loop-place.place
    (omega (arith, c.loop-place-test.false, c.len-place-end.ensures, c.args.ends.now.ok.0)) c.loop-place.invariant
