-- Which ports are chosen, and what a birth stands on.
use Rattle.std.specs.Prelude.{◌≡◌, ℕ, ◌<◌, true, List, Option, Some, None, length}
use Rattle.net_base.specs.declared.address.Pair.{Pair}
use Rattle.net_base.specs.Directory.{Dir, is_announced, is_free, pair_place}
use Rattle.host_dir.specs.declared.slots.TakerAt.{TakerAt}
use Rattle.host_dir.specs.Found.{slot_at}
use Rattle.host_dir.specs.Ports.{drawn}

-- the port that was named, or the bound one, or a drawn one
abbrev pub chosen_port : Option ℕ → Option ℕ → List ℕ → Option ℕ
chosen_port (Some port) bound used = Some port
chosen_port None (Some port) used = Some port
chosen_port None None used = drawn used

-- what a birth stands on
pub record TakesSlot (d : Dir) (pair : Pair) (t : TakerAt) : Type 0 where
  pub free_within : t.free < length d.slots
  pub free : is_free (slot_at d.slots t.free) ≡ true
  pub listener_within : t.listener < length d.slots
  pub announces : is_announced (slot_at d.slots t.listener).kind ≡ true
  pub room : length (slot_at d.slots t.listener).calls < 10
  pub new : pair_place pair 1 d.pairs ≡ None
