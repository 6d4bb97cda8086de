use Rattle.std.proofs.Common.{arith}
use Rattle.world_file.proofs.Cuts.{bad-within}
use Rattle.world_file.proofs.versions.read_bundle.Goals as goal

pub overflow_add-result : goal.overflow_add-result
overflow_add-result c =
    let told = rw c.in-Err-Bad.field-0-is at c.in-Err-Bad.ensures.bad in
    let within = bad-within c.args.text.now c.in-Err-Bad.line c.in-Err-Bad.cause told in
    let room = c.requires in omega (arith, within, room)
