-- What room the names after a reply need.
use Rattle.std.specs.Prelude.{◌≡◌, ℕ, List, Option, Some, None, option_map, if◌then◌else◌}
use Rattle.net_base.specs.declared.names.Mode.{Mode}
use Rattle.net_base.specs.declared.reply.Reply.{Reply}
use Rattle.net_base.specs.declared.request.Request.{Request}
use Rattle.net_base.specs.declared.request.Request.TheVariants as request
use Rattle.net_base.specs.Paths.{walk}
use Rattle.net_base.specs.Requests.{opened_names, settled}
use Rattle.net_base.specs.Steps.{Names, Fid, is_bound, openable, opened_fid}
use Rattle.script_task.specs.Holdings.{Holdings, holdings}

-- the name that an open binds, if it binds one
abbrev pub newly_opened : Names → List ℕ → List ℕ → Mode → Reply → Option (List ℕ)
newly_opened names called path m r = if is_bound names called then None else option_map (λ (f : Fid). called) (opened_fid m (openable (walk path) m) r)

-- the name that the reply binds, if it binds one
abbrev pub newly_bound : Names → Request → Reply → Option (List ℕ)
newly_bound names (request.Open called path m) r = newly_opened names called path m r
newly_bound names _ r = None

-- the room is used where something is bound
abbrev pub room_after : Option (List ℕ) → Option (List ℕ) → Option (List ℕ)
room_after None reserved = reserved
room_after (Some called) reserved = None

-- there is room for what is bound
abbrev pub RequestHasRoom : Holdings → Option (List ℕ) → Type 0
RequestHasRoom b None = Unit {0}
RequestHasRoom b (Some called) = b.reserved ≡ Some called

abbrev pub opens_to : Holdings → List ℕ → List ℕ → Mode → Reply → Holdings
opens_to b called path m r = holdings (opened_names b.names called path m r) (room_after (newly_opened b.names called path m r) b.reserved)

-- the holdings after a reply
abbrev pub settles_to : Holdings → Request → Reply → Holdings
settles_to b q r = holdings (settled b.names q r) (room_after (newly_bound b.names q r) b.reserved)
