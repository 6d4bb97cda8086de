-- The answers of a world's sessions, session by session.
use Rattle.std.specs.Prelude.{◌≡◌, ℕ, List, [], ◌∷◌, Some, slice_get}
use Rattle.net_base.specs.declared.history.Entry.{Entry}
use Rattle.net_base.specs.declared.world.Script.{Script}
use Rattle.net_base.specs.declared.world.World.{World}
use Rattle.net_base.specs.Stamped.{In}
use Rattle.net_base.specs.declared.ninep.Tmsg.{Tmsg}
use Rattle.session_script.specs.declared.world.Session.{Session}
use Rattle.net_base.specs.SessionScript.{AreMessages, IsScript}
use Rattle.session_script.specs.InHistory.{answers_in_history}

-- the session is a script of its host in the translated world
pub record IsPlayed (w : World) (x : Session) : Type 0 where
  pub as_script : Script
  pub stands : slice_get w.scripts x.place ≡ Some as_script
  pub host : as_script.host ≡ x.host
  pub plays : IsScript x.stream as_script.steps

abbrev pub ArePlayed : World → List Session → Type 0
ArePlayed w ss = (x : Session) → In x ss → IsPlayed w x

-- these are the answers to the messages of the session, as far as the history has them
abbrev pub AreAnswersTo : World → List Entry → Session → List (List ℕ) → Type 0
AreAnswersTo w h x lines = (ms : List Tmsg) × AreMessages x.stream ms × (lines ≡ answers_in_history w x.host ms x.place h)

-- these are the answers of each session in turn
abbrev pub AreAnswersOf : World → List Entry → List Session → List (List (List ℕ)) → Type 0
AreAnswersOf w h [] [] = Unit {0}
AreAnswersOf w h (x ∷ xs) (lines ∷ all) = AreAnswersTo w h x lines × AreAnswersOf w h xs all
AreAnswersOf w h _ _ = ⊥
