use Rattle.std.proofs.Common.{ℕ, List, sym, ap, ◌∙◌}
use Rattle.world_text.specs.WorldLines as spec
use Rattle.world_file.proofs.draft.Draft.host_line_cause.Goals as goal

pub returns-in-If : goal.returns-in-If
returns-in-If c =
    c.if_cause.ensures
    ∙ (ap (λ (called : List ℕ). spec.if_cause c.args.self.now called c.in-If.ip c.in-If.mask) c.as_slice.ensures
    ∙ sym (ap (spec.host_line_cause c.args.self.now) c.in-If.is))
