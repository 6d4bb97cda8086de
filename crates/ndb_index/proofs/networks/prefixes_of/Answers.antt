use Rattle.std.proofs.Common.{◌∙◌, ap, arith, ℕ, Bool, false}
use Rattle.std.specs.List.{list_any}
use Rattle.std.proofs.lemmas.List.{take_all}
use Rattle.ndb_search.proofs.Shared.{covers_none}
use Rattle.ndb_index.specs.Nets.{is_covered}
use Rattle.ndb_index.proofs.Covering.{or_more}
use Rattle.ndb_index.proofs.networks.prefixes_of.Goals as goal

pub loop-bits-init : goal.loop-bits-init
loop-bits-init c = λ ip. covers_none c.new-prefixes.result ip c.new-prefixes.ensures

pub loop-bits-preserved : goal.loop-bits-preserved
loop-bits-preserved c = λ ip.
    or_more (λ bits. is_covered c.args.networks.now.entries bits c.args.ips.now ip) c.as_slice-bits-items.result.now c.loop-bits.bits-index 0 false _ _ (omega arith) (c.loop-bits.invariant ip)
    (c.in_ok-add_prefixes.ensures ip)

pub returns : goal.returns
returns c = λ ip.
    let test : ℕ → Bool = λ bits. is_covered c.args.networks.now.entries bits c.args.ips.now ip in
    c.loop-bits.invariant ip
    ∙ ap (list_any test) (take_all c.loop-bits.bits-index c.as_slice-bits-items.result.now (omega arith))
    ∙ ap (list_any test) c.as_slice-bits-items.ensures.keys
