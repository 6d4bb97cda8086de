use Rattle.std.proofs.Common.{rules, Bool, ap, ◌∙◌}
use Rattle.world_file.specs.Told.{going}
use Rattle.world_file.proofs.SessionTaken.{session_taken}
use Rattle.world_file.proofs.session_text.Told.take_session.Goals as goal

pub returns : goal.returns
returns c =
    let mid = c.take_script.new.self in
    session_taken c.args.self.now mid c.open.new.self c.args.number c.args.line.now _ (search rules) (c.in-Ok-false.ensures.ok ∙ ap (λ (b : Bool). going b mid.draft) c.in-Ok-false.field-0-test) c.take_script.ensures.same
    (search rules) c.in_ok-open.ensures
