use Rattle.std.proofs.Common.{nat_eq, ◌==◌, true, cond, ap, ◌∙◌, arith}
use Rattle.std.specs.List.{list_any}
use Rattle.std.proofs.lemmas.List.{take_all}
use Rattle.ndb_search.specs.Prefixes.{first_bits}
use Rattle.ndb_search.proofs.Firsts.{any_more}
use Rattle.ndb_search.proofs.network.firsts_of.Goals as goal

pub loop-ip-init : goal.loop-ip-init
loop-ip-init c = λ first. ap (list_any (nat_eq first)) c.new-firsts.ensures.empty

pub loop-ip-preserved : goal.loop-ip-preserved
loop-ip-preserved c = λ first.
    c.in_ok-insert.ensures.updates.0 first
    ∙ ap (λ b. cond (nat_eq c.first_bits.result first) true b) (c.loop-ip.invariant first)
    ∙ any_more (λ ip. first_bits c.args.bits ip == first) c.args.ips.now c.loop-ip.ip-index 0 _ (omega arith)
    (ap (λ n. nat_eq n first) c.first_bits.ensures)

pub returns : goal.returns
returns c = λ first. c.loop-ip.invariant first ∙ ap (list_any (λ ip. first_bits c.args.bits ip == first)) (take_all c.loop-ip.ip-index c.args.ips.now (omega arith))
