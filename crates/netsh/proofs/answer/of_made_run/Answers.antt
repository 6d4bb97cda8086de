use Rattle.std.proofs.Common.{sym, subst}
use Rattle.net_base.specs.Net.{after}
use Rattle.netsh.specs.Built.{IsStatus}
use Rattle.netsh.proofs.RunEnds.{status_is}
use Rattle.netsh.proofs.answer.of_made_run.Goals as goal

pub returns : goal.returns
returns c =
    let w = c.args.world.now in
    let h = c.args.run.now.books in
    rw (c.new.ensures) (record {
      history = h;
      legal = c.requires.legal;
      timed = c.requires.timed;
      headline = c.legal_histories_keep_it.ensures w h c.requires.world c.requires.legal;
      text = c.in_ok-text.ensures;
      status = subst (IsStatus w (after w h)) (sym c.run_status.ensures) (status_is w (after w h) c.args.run.now.end c.requires.end);
    })
