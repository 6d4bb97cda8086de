-- Which caller a number is of.
use Rattle.std.proofs.Common.{◌≡◌, ℕ, ◌<◌, Option, Some, ap, slice_get, length}
use Rattle.std.specs.Option.{option_map_or}
use Rattle.net_base.specs.declared.world.Script.{Script}
use Rattle.net_base.specs.declared.world.World.{World}
use Rattle.net_base.specs.Callers.{IsScript, caller_of, other_caller}
use Rattle.net_base.proofs.Members.{there_at}

pub script_is : (w : World) (c : ℕ) (s : Script) → slice_get w.scripts c ≡ Some s → caller_of w c ≡ IsScript s
script_is w c s is = ap (λ (o : Option Script). option_map_or (λ (t : Script). IsScript t) o (other_caller w c)) is

pub script_at : (w : World) (c : ℕ) → c < length w.scripts → (s : Script) × (caller_of w c ≡ IsScript s)
script_at w c lt = let there = there_at w.scripts c lt in (there.0, script_is w c there.0 there.1)
