use Rattle.std.proofs.Common.{refl, sym, ◌∙◌}
use Rattle.net_tree.proofs.Newest.{not_bound, bound_more, on_ok, same_bindings}
use Rattle.indexmap.proofs.CallerLemmas.{insert_entry-new}
use Rattle.net_tree.proofs.fids.Fids.bind_copied.Goals as goal

pub returns-clause-ok : goal.returns-clause-ok
returns-clause-ok c =
    let text = c.in_ok-text.text in
    let free = rw (← c.self.view_is) at c.requires.free in
    let none = not_bound c.args.name.now text c.self.inside.entries.entries c.in_ok-text.ensures.items free in
    let more = on_ok c.insert.result (sym c.is_err.ensures.value ∙ c.if-is_err.false) c.insert.ensures.entries in
    rw (← c.self.view_is)
    (same_bindings
    (bound_more c.args.name.now text c.args.fid c.self.inside.entries.entries c.insert.new.self.entries c.in_ok-text.ensures.items
    (more ∙ insert_entry-new _ c.self.inside.entries text c.args.fid none))
    refl)
