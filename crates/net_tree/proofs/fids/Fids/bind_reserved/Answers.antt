use Rattle.std.proofs.Common.{ap, sym, ◌∙◌, ◌≡◌, ◌<◌, vec_items, Some, option_map, IfSome, is_ok, true, subst}
use Rattle.std.proofs.lemmas.Option.{same_Some}
use Rattle.indexmap.specs.IndexMap.{spare}
use Rattle.indexmap.proofs.CallerLemmas.{insert_entry-new}
use Rattle.net_tree.proofs.Newest.{not_bound, bound_more, on_ok, is_fine, same_bindings}
use Rattle.net_tree.proofs.fids.Fids.bind_reserved.Goals as goal
use Rattle.net_tree.proofs.fids.Fids.bind_reserved.Goals.{in-Err-1, in-Ok-1}

pub returns-in-Some : goal.returns-in-Some
returns-in-Some c =
    let text = c.in-Some.text in
    let free = rw (← c.self.view_is) at c.requires.free in
    let room = rw (← c.self.view_is) at c.requires.room in
    let kept : c.self.inside.kept ≡ Some text = sym c.take.ensures.value ∙ c.in-Some.is in
    let same : vec_items text ≡ c.args.name.now = same_Some _ _ (ap (λ o. option_map vec_items o) (sym kept) ∙ room) in
    let fits : is_ok c.insert.result ≡ true = c.insert.ensures.succeeds (subst (λ o. IfSome o (λ _. 0 < spare c.self.inside.entries)) kept c.self.invariant.1) in
    let none = not_bound c.args.name.now text c.self.inside.entries.entries same free in
    let more = on_ok c.insert.result (is_fine c.insert.result fits) c.insert.ensures.entries in
    let names = bound_more c.args.name.now text c.args.fid c.self.inside.entries.entries c.insert.new.self.entries same (more ∙ insert_entry-new _ c.self.inside.entries text c.args.fid none) in
    let left = same_bindings names (ap (λ o. option_map vec_items o) c.take.ensures.after) in
    rw (← c.self.view_is)
    (elim c.match-insert.branch [
      | in-Err-1 w ↦ w.self-is ∙ left
      | in-Ok-1 w ↦ w.self-is ∙ left
    ])
