use Rattle.std.proofs.lemmas.Result.{err_from_is_err_and}
use Rattle.net_base.specs.NinepReading.{qid_at, list_at}
use Rattle.ninep_wire.proofs.Loop.{goes_on, ends, is_done}
use Rattle.ninep_wire.proofs.fields.qids_in.Goals as goal

pub returns-in_err-one : goal.returns-in_err-one
returns-in_err-one c =
    let p = err_from_is_err_and c.from_residual.result c.from_residual.ensures.1 in
    rw (p.1, p.2) (ends qid_at c.in_err-one.field-0.0 c.loop.qids c.args.count c.loop.counter c.loop.rest.now
    (list_at qid_at c.args.count c.args.bytes.now) c.loop-test.true c.in_err-one.ensures c.loop.invariant)

pub loop-preserved : goal.loop-preserved
loop-preserved c =
    let n = c.in_ok-one.one in
    rw c.in_ok-push.ensures.ok (goes_on qid_at c.loop.qids c.args.count c.loop.counter c.loop.rest.now n c.in_ok-one.after.now
    (list_at qid_at c.args.count c.args.bytes.now) c.loop-test.true c.in_ok-one.ensures c.loop.invariant)

pub returns : goal.returns
returns c =
    is_done qid_at c.loop.qids c.args.count c.loop.counter c.loop.rest.now (list_at qid_at c.args.count c.args.bytes.now) c.loop-test.false c.loop.invariant
