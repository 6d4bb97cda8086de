-- Scripts: the plays of their steps, one after another, and what is kept between them.
use Rattle.std.specs.Prelude.{ℕ, List, [], ◌∷◌, Option, Some, None, find}
use Rattle.net_base.specs.declared.left.Left.{Left}
use Rattle.net_base.specs.declared.reply.Reply.{Reply}
use Rattle.net_base.specs.declared.world.Step.{Step}
use Rattle.net_base.specs.declared.world.Step.TheVariants as step
use Rattle.net_base.specs.Exports.{export_play}
use Rattle.net_base.specs.Imports.{import_play, left_open, rclose_play, ropen_play, rread_play, rwrite_play}
use Rattle.net_base.specs.Remotes.{is_remote, nothing_left, without_remote}
use Rattle.net_base.specs.Steps.{Names, Play, Asks, Ends, Position, dotted_name, no_names, play_of, position_by, stands, uses}
use Rattle.net_base.specs.Versions.{Tuples}

-- what is kept between steps: what their plays end with, and the files of other hosts that they leave open
pub record Kept : Type 0 where
  pub names : Names
  pub left : Left

-- before the first step of a script whose `dns` answers from this database
abbrev pub at_first : Tuples → Kept
at_first zone = record { names = no_names zone; left = nothing_left }

-- ---- steps

-- the names that a step is to bind, in the order in which they are asked for
abbrev pub new_names : Step → List (List ℕ)
new_names (step.Open called path m) = called ∷ []
new_names (step.Dial called address) = called ∷ dotted_name called ∷ []
new_names (step.Announce called address) = called ∷ []
new_names (step.Listen called from) = called ∷ []
new_names (step.Accept called from) = called ∷ []
-- imports
new_names (step.Ropen called call path m) = called ∷ []
new_names _ = []

-- the play of a step whose new names no remote file has
abbrev pub own_play : ℕ → Kept → Step → Play
-- imports
own_play h k (step.Export called) = export_play h called k.names
own_play h k (step.Import call) = import_play h call k.names
own_play h k (step.Ropen called call path m) = ropen_play h k.left called call path m k.names
own_play h k (step.Rread called count) = rread_play h k.left called count k.names
own_play h k (step.Rwrite called text) = rwrite_play h k.left called text k.names
own_play h k (step.Rclose called) = rclose_play h k.left called k.names
-- steps that need the names alone
own_play h k s = play_of h k.names s

-- a new name that a remote file has is asked for, as one that is bound
abbrev pub play_by : ℕ → Kept → Step → Option (List ℕ) → Play
play_by h k s (Some called) = uses h called k.names
play_by h k s None = own_play h k s

-- the play of a step of a host's script, where this is kept
abbrev pub step_play : ℕ → Kept → Step → Play
step_play h k s = play_by h k s (find (is_remote k.left) (new_names s))

-- what is left after a step, by the replies to its events
abbrev pub left_after : Left → Step → List Reply → Left
-- imports
left_after left (step.Ropen called call path m) rs = left_open left called call path rs
left_after left (step.Rclose called) rs = without_remote called left
left_after left s rs = left

abbrev pub kept_after : Kept → Step → Names → List Reply → Kept
kept_after k s names rs = record { names = names; left = left_after k.left s rs }

-- ---- scripts

-- the first replies, as many as the play has events
abbrev pub heard_replies : Play → List Reply → List Reply
heard_replies (Ends names) rs = []
heard_replies (Asks a e next) [] = []
heard_replies (Asks a e next) (r ∷ rs) = r ∷ heard_replies (next r) rs

-- where a script stands after these replies to the events of its steps
abbrev pub position : ℕ → List Step → Kept → List Reply → Position
position h [] k rs = record { next = None; left = [] }
position h (s ∷ ss) k rs =
    position_by (stands (step_play h k s) rs) (s ∷ ss)
    (λ (names : Names) (later : List Reply). position h ss (kept_after k s names (heard_replies (step_play h k s) rs)) later)
