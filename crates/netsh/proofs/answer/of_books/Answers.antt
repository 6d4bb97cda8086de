use Rattle.std.proofs.Common.{rules, sym, subst}
use Rattle.net_base.specs.Net.{after}
use Rattle.netsh.specs.Built.{IsStatus}
use Rattle.netsh.proofs.OneHistory.{only_one}
use Rattle.netsh.proofs.RunEnds.{status_is}
use Rattle.netsh.proofs.answer.of_books.Goals as goal

pub returns : goal.returns
returns c =
    let w = c.args.world.now in
    let h = c.args.books.now in
    let plain = c.legal_histories_are_plain.ensures w c.requires.world h c.requires.legal in
    rw (c.new.ensures) (record {
      history = h;
      legal = c.requires.legal;
      timed = c.requires.timed;
      headline = c.legal_histories_keep_it.ensures w h c.requires.world c.requires.legal;
      text = search (rules);
      wide = c.histories_are_wide.ensures;
      one = only_one c.printed_runs_tell.ensures w h _ plain (search (rules));
      status = subst (IsStatus w (after w h)) (sym c.run_status.ensures) (status_is w (after w h) c.args.end c.requires.end);
    })
