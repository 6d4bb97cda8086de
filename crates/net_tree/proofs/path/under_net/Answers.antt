use Rattle.std.proofs.Common.{◌∙◌, sym}
use Rattle.net_tree.proofs.Guesses.{node_under, no_node_under}
use Rattle.net_tree.proofs.path.under_net.Goals as goal

pub returns-in-Some-proto_named : goal.returns-in-Some-proto_named
returns-in-Some-proto_named c = λ root net.
    c.under_proto.ensures
    ∙ node_under root net _ c.in-Some.rest.now c.args.path.now c.in-Some-proto_named.proto (rw c.in-Some.is at c.split_first.ensures) (sym c.proto_named.ensures ∙ c.in-Some-proto_named.is)

pub returns-in-None-proto_named : goal.returns-in-None-proto_named
returns-in-None-proto_named c = λ root net.
    no_node_under root net _ c.in-Some.rest.now c.args.path.now (rw c.in-Some.is at c.split_first.ensures) (sym c.proto_named.ensures ∙ c.in-None-proto_named.is)
