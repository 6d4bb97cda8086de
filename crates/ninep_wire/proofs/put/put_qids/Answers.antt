use Rattle.std.proofs.Common.{List, length, get_or, All, ap, subst, arith}
use Rattle.std.proofs.lemmas.List.{take_all}
use Rattle.std.proofs.lemmas.List.Elements.{recursion_from_All}
use Rattle.net_base.specs.declared.ninep.Qid.{Qid}
use Rattle.net_base.specs.NinepFields.{number_bytes, qid, IsQid}
use Rattle.ninep_wire.proofs.Loop.{writes_on}
use Rattle.ninep_wire.proofs.put.put_qids.Goals as goal

pub loop-one-preserved : goal.loop-one-preserved
loop-one-preserved c =
    let qids = c.args.qids.now in
    let i = c.loop-one.one-index in
    let none : Qid = record { kind = 0; version = 0; path = 0 } in
    let same = c.as_slice-one-items.ensures in
    writes_on qid IsQid c.args.out.now (number_bytes 2 (length qids)) c.loop-one.out c.put_qid.new.out qids i none
    (get_or c.as_slice-one-items.result.now i none) (omega (arith, ap length same)) (ap (λ (xs : List Qid). get_or xs i none) same)
    c.in_ok-put_qid.ensures.spelled c.in_ok-put_qid.ensures.fits c.loop-one.invariant

pub returns-clause-fits : goal.returns-clause-fits
returns-clause-fits c =
    let qids = c.args.qids.now in
    let whole = take_all c.loop-one.one-index qids (omega (arith, ap length c.as_slice-one-items.ensures)) in
    (c.requires, recursion_from_All IsQid qids (subst (All IsQid) whole c.loop-one.invariant.1))
