use Rattle.std.proofs.Common.{sym, ap, ◌∙◌, ◌+◌, ◌++◌, ◌∷◌, [], length, take}
use Rattle.std.proofs.lemmas.List.{take_more}
use Rattle.net_import.specs.Marks.{remote_marked, marks}
use Rattle.net_import.proofs.Marks.{marked_more, none_marked}
use Rattle.net_import.proofs.remotes.taken_fids.Goals as goal

pub loop-remote-init : goal.loop-remote-init
loop-remote-init c = c.in_ok-taken.ensures.items_if_clones_equal (λ y is. is) ∙ none_marked c.args.call.now 1 (length c.args.remotes.now + 1)

pub loop-remote-preserved : goal.loop-remote-preserved
loop-remote-preserved c =
    c.mark.ensures
    ∙ ap (λ xs. remote_marked xs c.remote-item.result c.args.call.now) c.loop-remote.invariant
    ∙ sym (marked_more (take c.loop-remote.remote-index c.args.remotes.now) c.remote-item.result c.args.call.now (length c.args.remotes.now + 1))
    ∙ ap (λ rs. marks rs c.args.call.now (length c.args.remotes.now + 1))
    (ap (λ r. take c.loop-remote.remote-index c.args.remotes.now ++ r ∷ []) c.remote-item.is
    ∙ sym (take_more c.args.remotes.now c.loop-remote.remote-index c.remote-item.result c.loop-remote-test.true))
