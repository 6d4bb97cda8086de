-- What is left of a play after some replies.
use Rattle.std.specs.Prelude.{◌≡◌, ◌++◌, List, [], ◌∷◌, length, is_some, nat_lt}
use Rattle.net_base.specs.declared.reply.Reply.{Reply}
use Rattle.net_base.specs.declared.world.Script.{Script}
use Rattle.net_base.specs.Scripts.{at_first, position}
use Rattle.net_base.specs.Steps.{Play}
use Rattle.net_base.specs.Versions.{Tuples}
use Rattle.net_base.specs.Requests.{head}
use Rattle.script_task.specs.Task.{follow}

abbrev pub rest : Play → List Reply → Play
rest p [] = p
rest p (r ∷ rs) = rest (follow p r) rs

-- the play goes on where these replies leave the script, whose `dns` answers from this database: whatever comes after them, it
-- records what the script records next, and it has ended where every step is finished
pub record Continues (zone : Tuples) (s : Script) (rs : List Reply) (p : Play) : Type 0 where
  pub next_is : (more : List Reply) → (position s.host s.steps (at_first zone) (rs ++ more)).next ≡ head (rest p more)
  pub left_is : (more : List Reply)
      → nat_lt 0 (length (position s.host s.steps (at_first zone) (rs ++ more)).left) ≡ is_some (head (rest p more))
