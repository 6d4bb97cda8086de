use Rattle.std.proofs.Common.{sym, ap, ◌∙◌, arith}
use Rattle.std.proofs.lemmas.Bool.Decides.{nat_tests}
use Rattle.net_base.specs.Cs.{own_first}
use Rattle.cs_resolver.proofs.AtSpots.{few_first}
use Rattle.cs_resolver.proofs.Answering.{covered_first_is}
use Rattle.cs_resolver.proofs.indexed.own_first.Goals as goal

pub returns-then-len-lt2-clause-ips : goal.returns-then-len-lt2-clause-ips
returns-then-len-lt2-clause-ips g c =
    sym (few_first c.args.me.now c.args.index.now c.in_ok-once.once.items (grind (arith, nat_tests, c.in_ok-once.once.ok.0)))
    ∙ ap (own_first c.args.me.now c.args.index.now) c.in_ok-once.ensures

pub returns-clause-ips : goal.returns-clause-ips
returns-clause-ips g c =
    c.in_ok-sorted.ensures
    ∙ covered_first_is c.in_ok-prefixes.prefixes c.args.me.now c.args.index.now c.deref.result.now c.in_ok-prefixes.ensures.prefixes
    ∙ ap (own_first c.args.me.now c.args.index.now) (c.deref.ensures.value ∙ c.in_ok-once.ensures)
