use Rattle.std.proofs.Common.{◌≡◌, ℕ, get_or, sym, subst, ◌∙◌}
use Rattle.net_actors.specs.Numbers.{number_of}
use Rattle.net_locks.proofs.Rows.{found_at, named_at, present_at, within_at}
use Rattle.net_locks.proofs.locks.Locks+J+WorldActor+J.lock_of.Goals as goal

pub returns-clause-some : goal.returns-clause-some
returns-clause-some g c =
    let w = g.J.Placing.world in
    let r = g.J.Naming.run.roster in
    let net = c.args.self.now in
    let lock = c.index.result.now in
    let is = sym c.is_among.ensures ∙ c.if-not-is_among.false in
    let within = within_at w r net.hosts net.media net.ways _ net.of c.args.actor (c.numbers_are_apart.ensures.below w) is in
    let there = subst (λ (k : ℕ). lock ≡ get_or net.locks.items k lock) c.number_of.ensures c.index.ensures in
    found_at w r net.hosts net.media net.ways _ net.of c.args.actor (c.numbers_are_apart.ensures.apart w) is lock.actor
    (named_at (λ l. l.actor) net.locks.items (number_of net.hosts net.media c.args.actor) lock within there)

pub returns-clause-has : goal.returns-clause-has
returns-clause-has g c _ =
    let net = c.args.self.now in
    present_at g.J.Placing.world g.J.Naming.run.roster net.hosts net.media net.ways _ net.of c.args.actor (sym c.is_among.ensures ∙ c.if-not-is_among.false)
