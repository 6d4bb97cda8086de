use Rattle.std.proofs.Common.{Bool, Ok, subst}
use Rattle.world_file.specs.SessionTold.{TakenLine}
use Rattle.world_file.proofs.SessionTaken.{so_bad, so_ok, so_unread}
use Rattle.world_file.proofs.session_text.read_session_lines.Goals as goal

pub returns-in-Ok-true-clause-ok : goal.returns-in-Ok-true-clause-ok
returns-in-Ok-true-clause-ok c =
    let l = c.loop-rest in
    let new = c.take_line.new.self in
    let line = c.cut_line.result.0.now in
    so_ok c.args.bytes.now l.told new l.number l.rest.now line c.cut_line.result.1.now c.finish.result l.invariant c.cut_line.ensures.cut
    (subst (λ (b : Bool). TakenLine l.told new l.number line (Ok b)) c.in-Ok-true.field-0-test c.in-Ok-true.ensures) c.finish.ensures.ok

pub returns-in-Ok-true-clause-bad : goal.returns-in-Ok-true-clause-bad
returns-in-Ok-true-clause-bad c =
    let l = c.loop-rest in
    let new = c.take_line.new.self in
    let line = c.cut_line.result.0.now in
    so_unread c.args.bytes.now l.told new l.number l.rest.now line c.cut_line.result.1.now c.finish.result l.invariant c.cut_line.ensures.cut
    (subst (λ (b : Bool). TakenLine l.told new l.number line (Ok b)) c.in-Ok-true.field-0-test c.in-Ok-true.ensures) c.finish.ensures.bad

pub returns-in-Err-clause-bad : goal.returns-in-Err-clause-bad
returns-in-Err-clause-bad c =
    let l = c.loop-rest in
    so_bad c.args.bytes.now l.told c.take_line.new.self l.number l.rest.now c.cut_line.result.0.now c.cut_line.result.1.now c.in-Err.error l.invariant c.cut_line.ensures.cut c.in-Err.ensures
