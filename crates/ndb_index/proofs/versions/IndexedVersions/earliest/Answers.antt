use Rattle.std.proofs.Common.{ℕ, ◌-◌, List, ap, ◌∙◌, get_or, length, arith}
use Rattle.ndb_index.specs.Moments.{earliest_moments}
use Rattle.ndb_index.proofs.InForce.{moments_length, moment_at}
use Rattle.ndb_index.proofs.versions.IndexedVersions.earliest.Goals as goal

pub overflow_sub-len : goal.overflow_sub-len
overflow_sub-len c =
    let count = moments_length c.args.self.now in
    let are = ap length (c.self.invariant ∙ ap earliest_moments c.self.view_is) in
    omega (arith, c.len.ensures, are, count, c.requires)

pub overflow_sub-len-2 : goal.overflow_sub-len-2
overflow_sub-len-2 c =
    let count = moments_length c.args.self.now in
    let are = ap length (c.self.invariant ∙ ap earliest_moments c.self.view_is) in
    omega (arith, c.len.ensures, are, count, c.requires)

pub index-requires : goal.index-requires
index-requires c =
    let count = moments_length c.args.self.now in
    let are = ap length (c.self.invariant ∙ ap earliest_moments c.self.view_is) in
    omega (arith, c.len.ensures, are, count, c.requires)

pub returns : goal.returns
returns c =
    let count = moments_length c.args.self.now in
    let are = ap length (c.self.invariant ∙ ap earliest_moments c.self.view_is) in
    c.index.ensures
    ∙ ap (λ (ms : List ℕ). get_or ms (c.len.result - 1 - c.args.number) c.index.result.now) (c.self.invariant ∙ ap earliest_moments c.self.view_is)
    ∙ moment_at c.args.self.now (c.len.result - 1 - c.args.number) c.args.number c.index.result.now (omega (arith, c.len.ensures, are, count, c.requires))
