use Rattle.net_tree.proofs.Guesses.{no_node_behind}
use Rattle.net_tree.proofs.path.under_proto.Goals as goal

pub returns-in_default-Some : goal.returns-in_default-Some
returns-in_default-Some c =
    no_node_behind c.args.proto c.args.path.now c.in-Some.rest.now c.in_default-Some.field-0-1.now _ _
    (rw c.in-Some.is at c.split_first.ensures) (rw c.in_default-Some.is-1 at c.split_first-in-Some.ensures)
