use Rattle.std.proofs.Common.{refl, ap, ◌∙◌, ◌++◌, ◌∷◌, [], List}
use Rattle.std.specs.List.{list_any}
use Rattle.net_base.specs.declared.world.FateRange.{FateRange}
use Rattle.net_base.specs.World.{overlap}
use Rattle.world_file.proofs.Overlaps.{indexed_pushed, indexed_same}
use Rattle.world_file.proofs.fates.FateTable.push.Goals as goal

pub invariant_of-self : goal.invariant_of-self
invariant_of-self c = indexed_same c.self.inside.firsts.entries c.self.inside.firsts.entries c.self.inside.fates.items c.reserve.new.self.items c.self.invariant refl c.reserve.ensures.items

pub invariant_of-self-in_err-insert : goal.invariant_of-self-in_err-insert
invariant_of-self-in_err-insert c =
    indexed_same c.self.inside.firsts.entries c.insert.new.self.entries c.self.inside.fates.items c.reserve.new.self.items c.self.invariant c.in_err-insert.ensures.err c.reserve.ensures.items

pub invariant_of-self-2 : goal.invariant_of-self-2
invariant_of-self-2 c =
    indexed_pushed c.self.inside.firsts.entries c.insert.new.self.entries c.args.fate c.self.inside.fates.items c.push.new.self.items
    c.self.invariant (ap (list_any (overlap c.args.fate)) c.self.view_is ∙ c.requires.apart) c.requires.forward
    c.in_ok-insert.ensures.updates.1 c.in_ok-insert.ensures.updates.2
    (c.in_ok-push.ensures.items ∙ ap (λ (fs : List FateRange). fs ++ c.args.fate ∷ []) c.reserve.ensures.items)
