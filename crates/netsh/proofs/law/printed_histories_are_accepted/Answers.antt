use Rattle.netsh.proofs.Accepted.{accepted}
use Rattle.netsh.proofs.law.printed_histories_are_accepted.Goals as goal

pub returns : goal.returns
returns g c =
    accepted c.legal_histories_are_plain.ensures c.printed_histories_are_handed_in.ensures (g.E.Entries.list c.args.history.now) c.histories_are_wide.ensures
