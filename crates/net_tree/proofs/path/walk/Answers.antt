use Rattle.std.proofs.Common.{◌∙◌, sym, ap}
use Rattle.std.specs.Prelude.{ok_or, if◌then◌else◌, Some, None}
use Rattle.net_tree.specs.declared.fault.TreeError.TheVariants.{NoFile}
use Rattle.net_tree.proofs.Guesses.{walk_kept}
use Rattle.net_tree.proofs.path.walk.Goals as goal

pub returns-else-is_path_of : goal.returns-else-is_path_of
returns-else-is_path_of c =
    sym (ap (λ o. ok_or o NoFile)
    (walk_kept c.args.path.now c.in-Some.node (sym c.node_of.ensures ∙ c.in-Some.is)
    ∙ ap (λ b. if b then Some c.in-Some.node else None) (sym c.is_path_of.ensures ∙ c.if-is_path_of.false)))
