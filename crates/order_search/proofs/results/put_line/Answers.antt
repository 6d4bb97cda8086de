use Rattle.std.proofs.lemmas.Result.{on_ok_weaker}
use Rattle.order_search.proofs.Marking.{line_is}
use Rattle.order_search.proofs.results.put_line.Goals as goal

pub returns : goal.returns
returns c =
    on_ok_weaker c.push.result
    (λ is rs latest. line_is c.args.history.now c.args.latest c.args.is_finished c.args.out.now c.put_if_finished.new.out c.push.new.self
    c.in_ok-put_if_finished.ensures is rs latest) c.push.ensures.ok
