use Rattle.std.proofs.Common.{◌∙◌, sym, ap, ◌∷◌}
use Rattle.net_base.specs.Paths.{node_of}
use Rattle.net_tree.specs.Guess.{kept_node}
use Rattle.net_tree.proofs.path.node_of.Goals as goal

pub returns-in-Some : goal.returns-in-Some
returns-in-Some c =
    let first = rw c.in_ok-rest.was at c.split_first.ensures in
    let second = rw c.in-Some.is at c.split_first-2.ensures in
    c.under_net.ensures c.split_first.result.0.now c.split_first-2.result.0.now ∙ sym (ap (λ ps. kept_node (node_of ps)) (first ∙ ap (λ ps. c.split_first.result.0.now ∷ ps) second))
