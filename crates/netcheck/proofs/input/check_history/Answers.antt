use Rattle.std.proofs.Common.{sym, subst}
use Rattle.netcheck.specs.Input.{InputParts}
use Rattle.netcheck.specs.Told.{JudgedInput, RefusesInput}
use Rattle.netcheck.specs.declared.fault.InputError.{InputError}
use Rattle.netcheck.specs.declared.input.CheckedInput.{CheckedInput}
use Rattle.netcheck.proofs.Handing.{hands_in, history_told, judged_so, line_fits}
use Rattle.netcheck.proofs.input.check_history.Goals as goal

pub of_line-requires : goal.of_line-requires
of_line-requires c = line_fits c.args.parts.now.history.now c.args.parts.now.lines c.in-Err.error c.in-Err.ensures.refused c.requires.room

pub returns-in-Err : goal.returns-in-Err
returns-in-Err c = λ input are.
    let parts : InputParts = record { world = c.args.parts.now.world.now; lines = c.args.parts.now.lines; history = c.args.parts.now.history.now } in
    subst (λ (e : InputError). RefusesInput input e) (sym c.of_line.ensures)
    (history_told input parts c.args.world c.read_transcript.result are c.requires.read c.read_transcript.ensures.only c.read_transcript.ensures.bad
    c.in-Err.error c.in-Err.is c.in-Err.ensures.refused)

pub returns-in-Ok : goal.returns-in-Ok
returns-in-Ok c = λ input are.
    let parts : InputParts = record { world = c.args.parts.now.world.now; lines = c.args.parts.now.lines; history = c.args.parts.now.history.now } in
    let read : CheckedInput = record { world = c.args.world; history = c.in-Ok.read.0; told = c.in-Ok.read.1 } in
    judged_so input read c.judge.result
    (hands_in input parts c.args.world c.read_transcript.result are c.requires.read c.read_transcript.ensures.only c.read_transcript.ensures.bad
    c.in-Ok.read c.requires.world c.in-Ok.is c.in-Ok.ensures.found)
    (subst (λ (k : CheckedInput). JudgedInput k c.judge.result) c.of.ensures c.judge.ensures)
