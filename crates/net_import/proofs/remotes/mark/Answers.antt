use Rattle.std.proofs.Common.{sym, ap, ◌∙◌, arith}
use Rattle.std.specs.Prelude.{bytes_eq}
use Rattle.net_import.proofs.Marks.{no_fid, other_call, past_all}
use Rattle.net_import.proofs.remotes.mark.Goals as goal
use Rattle.net_import.proofs.remotes.mark.Goals.{else-eq-via-then-eq+then-remote-ge1+else-remote-len, else-eq-via-then-eq+else-remote-ge1, else-eq-via-else-eq}

pub returns-else-eq : goal.returns-else-eq
returns-else-eq c =
    elim c.else-eq.branch [
      | else-eq-via-then-eq+then-remote-ge1+else-remote-len w ↦ past_all c.args.taken.now.items c.args.remote.now c.args.call.now w.if-remote-ge1.true (omega (arith, w.if-remote-len.false, w.len.ensures, c.args.taken.now.ok.0))
      | else-eq-via-then-eq+else-remote-ge1 w ↦ no_fid c.args.taken.now.items c.args.remote.now c.args.call.now w.if-remote-ge1.false
      | else-eq-via-else-eq w ↦ other_call c.args.taken.now.items c.args.remote.now c.args.call.now (ap (bytes_eq c.args.call.now) (sym c.as_slice.ensures) ∙ sym c.eq.ensures ∙ w.if-eq.false)
    ]
