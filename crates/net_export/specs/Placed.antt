-- A session's script in its place.
use Rattle.std.specs.Prelude.{◌≡◌, ℕ, true, List, length, Some, slice_get}
use Rattle.std.specs.List.{list_all}
use Rattle.net_base.specs.declared.world.Script.{Script}
use Rattle.net_base.specs.World.{is_step}
use Rattle.session_script.specs.declared.world.Session.{Session}
use Rattle.net_base.specs.SessionScript.{IsScript}

-- the script as it was, and with the steps of the session
pub record PlaysSession (x : Session) (before after : Script) : Type 0 where
  pub host : after.host ≡ before.host
  pub session : IsScript x.stream after.steps
  pub sayable : list_all is_step after.steps ≡ true

-- the session's script stands in its place, and the others as before
pub record PutsSession (x : Session) (old new : List Script) : Type 0 where
  pub count : length new ≡ length old
  pub others : (c : ℕ) → (c ≡ x.place → ⊥) → slice_get new c ≡ slice_get old c
  pub own : (before after : Script) → slice_get old x.place ≡ Some before → slice_get new x.place ≡ Some after → PlaysSession x before after
