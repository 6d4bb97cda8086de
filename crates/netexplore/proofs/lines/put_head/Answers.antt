use Rattle.std.proofs.lemmas.Result.{on_ok_weaker}
use Rattle.netexplore.proofs.Printing.{head_written}
use Rattle.netexplore.proofs.lines.put_head.Goals as goal

pub returns : goal.returns
returns c =
    on_ok_weaker c.append.result
    (head_written c.args.out.now c.put_labelled.new.out c.put_losses.new.out c.put_labelled-2.new.out c.append.new.self c.args.number c.args.losses
    c.args.preemptions c.in_ok-put_labelled.ensures c.in_ok-put_losses.ensures c.in_ok-put_labelled-2.ensures)
    c.append.ensures.ok
