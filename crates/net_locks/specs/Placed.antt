-- Some world, where none is named.
use Rattle.std.specs.Prelude.{[], ◌∷◌}
use Rattle.net_base.specs.declared.world.World.{World}
use Rattle.net_base.specs.declared.timer.Timers.TheVariants.{Fixed}

abbrev pub no_world : World
no_world = record { end = 0; seed = 0; timers = Fixed; media = []; hosts = []; scripts = []; dbs = record { moment = 0; db = [] } ∷ [] }
