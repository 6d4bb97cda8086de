-- The answers of a session in a history.
use Rattle.std.specs.Prelude.{◌≡◌, ℕ, ◌-◌, List, length, take, Some, slice_get, if◌then◌else◌}
use Rattle.net_base.specs.declared.history.Entry.{Entry}
use Rattle.net_base.specs.declared.ninep.Tmsg.{Tmsg}
use Rattle.net_base.specs.declared.reply.Reply.{Reply}
use Rattle.net_base.specs.declared.world.Script.{Script}
use Rattle.net_base.specs.declared.world.World.{World}
use Rattle.net_base.specs.Calm.{owes}
use Rattle.net_base.specs.Net.{after as net_after}
use Rattle.net_base.specs.Next.{own_replies}
use Rattle.net_base.specs.Server.{answers_to}
use Rattle.net_base.specs.Session.{first, session}
use Rattle.net_base.specs.SessionScript.{IsScript}

-- the replies to a caller's own events whose steps are answered, in order: what it owes belongs to the step of the last one
abbrev pub answered_replies : World → List Entry → ℕ → List Reply
answered_replies w h c =
    if owes (net_after w h) c then take (length (own_replies h c) - 1) (own_replies h c) else own_replies h c

-- the answers to the messages of a session, which is this caller, of the host
abbrev pub answers_in_history : World → ℕ → List Tmsg → ℕ → List Entry → List (List ℕ)
answers_in_history w host ms c h = answers_to (session host) first ms (answered_replies w h c)

-- the caller is the script of the session with these bytes
pub record IsSessionOf (w : World) (c : ℕ) (bytes : List ℕ) : Type 0 where
  pub as_script : Script
  pub stands : slice_get w.scripts c ≡ Some as_script
  pub plays : IsScript bytes as_script.steps
