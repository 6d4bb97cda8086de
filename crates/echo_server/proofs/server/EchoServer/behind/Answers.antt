use Rattle.net_base.specs.Steps.{no_names}
use Rattle.std.proofs.Common.{[]}
use Rattle.echo_server.proofs.Announced.{behind_announce}
use Rattle.echo_server.proofs.server.EchoServer.behind.Goals as goal

pub returns-in-Announce-clause-ok : goal.returns-in-Announce-clause-ok
returns-in-Announce-clause-ok c =
    behind_announce c.args.reply c.in-Announce.task c.told.new.self c.in_ok-listen-in-Announce.listen c.args.self.now c.in-Announce.is
    c.in_ok-told-in-Announce.ensures.ok c.in_ok-listen-in-Announce.ensures.value c.is_through.result (c.is_through.ensures (no_names []))
    c.then_some.result c.then_some.ensures
