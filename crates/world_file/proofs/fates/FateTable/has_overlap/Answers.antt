use Rattle.std.proofs.Common.{ap, ◌∙◌}
use Rattle.std.specs.List.{list_any}
use Rattle.net_base.specs.World.{overlap}
use Rattle.world_file.proofs.Overlaps.{first_tells, none_tells}
use Rattle.world_file.proofs.fates.FateTable.has_overlap.Goals as goal

pub returns-in-Some : goal.returns-in-Some
returns-in-Some c =
    first_tells c.self.inside.firsts c.range.result _ c.in-Some.field-0-0.now c.in-Some.first.now c.args.fate c.self.inside.fates.items
    (c.range.ensures.in_range tt) c.in-Some.ensures.steps c.self.invariant
    ∙ ap (list_any (overlap c.args.fate)) c.self.view_is

pub returns-in-None : goal.returns-in-None
returns-in-None c =
    none_tells c.self.inside.firsts c.range.result c.args.fate c.self.inside.fates.items
    (c.range.ensures.in_range tt) c.in-None.ensures.steps.0 c.self.invariant
    ∙ ap (list_any (overlap c.args.fate)) c.self.view_is
