-- Names that are bound to files of slots that there are.
use Rattle.std.specs.Prelude.{◌≡◌, Bool, true, nat_lt}
use Rattle.std.specs.List.{list_all}
use Rattle.net_base.specs.Steps.{Bound, Names}

-- the name is bound to a file of a slot below 32
abbrev pub in_slots : Bound → Bool
in_slots b = nat_lt b.fid.slot 32

abbrev pub HaveSlots : Names → Type 0
HaveSlots names = list_all in_slots names.bound ≡ true
