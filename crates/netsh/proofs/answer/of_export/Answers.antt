use Rattle.std.proofs.Common.{sym, subst}
use Rattle.net_base.specs.Net.{after}
use Rattle.netsh.specs.Built.{IsStatus}
use Rattle.netsh.proofs.Exported.{export_text, same_count}
use Rattle.netsh.proofs.RunEnds.{status_is}
use Rattle.netsh.proofs.answer.of_export.Goals as goal

pub put_sessions-requires : goal.put_sessions-requires
put_sessions-requires g c =
    rw (c.as_slice-2.ensures.value, c.as_slice.ensures) (same_count c.args.world.now c.args.run.now.books c.args.sessions.now c.in_ok-all.all.items c.in_ok-all.ensures)

pub returns : goal.returns
returns g c =
    let w = c.args.world.now in
    let h = c.args.run.now.books in
    rw (c.new.ensures) (record {
      history = h;
      legal = c.requires.legal;
      timed = c.requires.timed;
      headline = c.requires.headline;
      answers = c.in_ok-all.all.items;
      answered = c.in_ok-all.ensures;
      text = export_text w h c.args.sessions.now c.in_ok-all.all.items _ _ _ c.in_ok-text.ensures c.in_ok-put_ending.ensures (rw (c.as_slice-2.ensures.value, c.as_slice.ensures) at c.in_ok-put_sessions.ensures);
      status = subst (IsStatus w (after w h)) (sym c.run_status.ensures) (status_is w (after w h) c.args.run.now.end c.requires.end);
    })
