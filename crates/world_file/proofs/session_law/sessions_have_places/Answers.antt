use Rattle.world_file.proofs.SessionWorlds.{said-hosts, said-streams, said-world}
use Rattle.world_file.proofs.session_law.sessions_have_places.Goals as goal

pub returns : goal.returns
returns c = record { world = said-world; streams = said-streams; hosts = said-hosts }
