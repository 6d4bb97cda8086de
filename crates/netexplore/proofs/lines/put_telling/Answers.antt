use Rattle.std.proofs.lemmas.Result.{on_ok_weaker}
use Rattle.netexplore.proofs.Printing.{telling_written}
use Rattle.netexplore.proofs.lines.put_telling.Goals as goal

pub returns : goal.returns
returns c =
    on_ok_weaker c.append-2.result
    (telling_written c.args.out.now c.put_head.new.out c.append.new.self c.append-2.new.self c.as_slice-summary.result.now c.args.rest.now c.args.number
    c.args.telling.now c.in_ok-put_head.ensures c.as_slice-summary.ensures c.in_ok-append.ensures.ok)
    c.append-2.ensures.ok
