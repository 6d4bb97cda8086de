use Rattle.net_base.specs.World.{IsWorld}
use Rattle.session_script.specs.declared.world.SessionWorld.{SessionWorld}
use Rattle.session_script.specs.Worlds.{HaveHosts, HaveStreams}
use Rattle.world_file.proofs.SessionTaken.{holds}
use Rattle.world_file.proofs.session_text.read_sessions.Goals as goal

pub returns-clause-world : goal.returns-clause-world
returns-clause-world c =
    holds (λ (w : SessionWorld). IsWorld w.world) c.read_session_lines.result c.args.bytes.now (λ w says. c.sessions_have_places.ensures.world c.args.bytes.now w c.are_bytes.ensures says) c.read_session_lines.ensures.ok

pub returns-clause-streams : goal.returns-clause-streams
returns-clause-streams c =
    holds HaveStreams c.read_session_lines.result c.args.bytes.now (λ w says. c.sessions_have_places.ensures.streams c.args.bytes.now w c.are_bytes.ensures says) c.read_session_lines.ensures.ok

pub returns-clause-hosts : goal.returns-clause-hosts
returns-clause-hosts c =
    holds HaveHosts c.read_session_lines.result c.args.bytes.now (λ w says. c.sessions_have_places.ensures.hosts c.args.bytes.now w c.are_bytes.ensures says) c.read_session_lines.ensures.ok
