-- Worlds with sessions, and what they are translated to: each session is the script of its bytes.
use Rattle.std.specs.Prelude.{◌≡◌, ◌<◌, ℕ, ◌==◌, Bool, true, List, length, Some, slice_get}
use Rattle.net_base.specs.declared.world.Script.{Script}
use Rattle.net_base.specs.declared.world.World.{World}
use Rattle.net_base.specs.Stamped.{In}
use Rattle.net_base.specs.declared.world.Step.{Step}
use Rattle.net_base.specs.World.{all_apart}
use Rattle.session_script.specs.declared.world.Session.{Session}
use Rattle.session_script.specs.declared.world.SessionWorld.{SessionWorld}
use Rattle.net_base.specs.SessionScript.{IsScript}

abbrev pub same_place : Session → Session → Bool
same_place x y = x.place == y.place

-- a script of the world as it was and as it is translated: the host stays
pub record Translates (s : SessionWorld) (c : ℕ) (before after : Script) : Type 0 where
  pub host : after.host ≡ before.host
  -- no session has the place, and the steps stay
  pub script : ((x : Session) → In x s.sessions → x.place ≡ c → ⊥) → after ≡ before
  -- a session has it, and these are its steps
  pub session : (x : Session) → In x s.sessions → x.place ≡ c → IsScript x.stream after.steps

-- the bytes of each session are whole messages, and each has a place of its own
pub record HaveStreams (s : SessionWorld) : Type 0 where
  pub streams : (x : Session) → In x s.sessions → (steps : List Step) × IsScript x.stream steps
  pub places : (x : Session) → In x s.sessions → x.place < length s.world.scripts
  pub apart : all_apart same_place s.sessions ≡ true

-- in the place of each session stands a script of its host
abbrev pub HaveHosts : SessionWorld → Type 0
HaveHosts s = (x : Session) (c : Script) → In x s.sessions → slice_get s.world.scripts x.place ≡ Some c → c.host ≡ x.host

-- the world with each session's script in its place
pub record IsTranslated (s : SessionWorld) (w : World) : Type 0 where
  pub others : w ≡ record s.world { scripts = w.scripts }
  pub count : length w.scripts ≡ length s.world.scripts
  pub each : (c : ℕ) (before after : Script) → slice_get s.world.scripts c ≡ Some before → slice_get w.scripts c ≡ Some after → Translates s c before after
