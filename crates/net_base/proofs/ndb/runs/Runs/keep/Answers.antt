use Rattle.std.proofs.Common.{◌≡◌, ℕ, drop, take, length, sym, ap, ◌∙◌, arith}
use Rattle.std.proofs.lemmas.List.{length-take-le}
use Rattle.net_base.specs.Store.{tuples_in}
use Rattle.net_base.proofs.Found.{tuples_len}
use Rattle.net_base.proofs.Skipped.{range-left}
use Rattle.net_base.proofs.ndb.runs.Runs.keep.Goals as goal

pub returns-then-first-eq0-clause-kept : goal.returns-then-first-eq0-clause-kept
returns-then-first-eq0-clause-kept c =
    c.truncate.ensures.kept ∙ ap (λ (n : ℕ). drop n (take c.args.end (tuples_in c.args.self.now))) (sym c.if-first-eq0.true)
    ∙ range-left (tuples_in c.args.self.now) c.args.first c.args.end c.requires.rise

pub skip-requires-clause-within : goal.skip-requires-clause-within
skip-requires-clause-within c =
    let all : length (take c.args.end (tuples_in c.args.self.now)) ≡ c.args.end = length-take-le c.args.end (tuples_in c.args.self.now) (omega (arith, c.requires.within, tuples_len c.args.self.now)) in
    omega (arith, c.requires.rise, tuples_len c.truncate.new.self, ap length c.truncate.ensures.kept, all)

pub returns-clause-kept : goal.returns-clause-kept
returns-clause-kept c =
    c.skip.ensures.rest ∙ ap (drop c.args.first) c.truncate.ensures.kept ∙ range-left (tuples_in c.args.self.now) c.args.first c.args.end c.requires.rise
