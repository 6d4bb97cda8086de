use Rattle.std.proofs.lemmas.Result.{err_from_is_err_and}
use Rattle.net_base.specs.NinepReading.{counted_at, list_at}
use Rattle.ninep_wire.proofs.Loop.{goes_on, ends, is_done}
use Rattle.ninep_wire.proofs.fields.strings_in.Goals as goal

pub returns-in_err-text : goal.returns-in_err-text
returns-in_err-text c =
    let p = err_from_is_err_and c.from_residual.result c.from_residual.ensures.1 in
    rw (p.1, p.2) (ends (counted_at 2) c.in_err-text.field-0.0 c.loop.texts c.args.count c.loop.counter c.loop.rest.now
    (list_at (counted_at 2) c.args.count c.args.bytes.now) c.loop-test.true c.in_err-text.ensures c.loop.invariant)

pub loop-preserved : goal.loop-preserved
loop-preserved c =
    let n = c.in_ok-text.text in
    rw c.in_ok-push.ensures.ok (goes_on (counted_at 2) c.loop.texts c.args.count c.loop.counter c.loop.rest.now n c.in_ok-text.after.now
    (list_at (counted_at 2) c.args.count c.args.bytes.now) c.loop-test.true c.in_ok-text.ensures c.loop.invariant)

pub returns : goal.returns
returns c =
    is_done (counted_at 2) c.loop.texts c.args.count c.loop.counter c.loop.rest.now
    (list_at (counted_at 2) c.args.count c.args.bytes.now) c.loop-test.false c.loop.invariant
