-- Tasks that are played in the places of scripts: what each asks is told from the replies so far.
use Rattle.std.specs.Prelude.{ℕ, List, [], ◌∷◌, Option, None}
use Rattle.std.specs.Option.{option_and_then}
use Rattle.net_base.specs.declared.reply.Reply.{Reply}
use Rattle.net_base.specs.declared.request.Request.{Request}
use Rattle.net_base.specs.Requests.{planned, settles}
use Rattle.net_base.specs.Steps.{Ask, Names}

-- what a task asks after these replies, under these names; nothing where it is through
abbrev pub Asking : Type 0
Asking = List Reply → Names → Option Request

-- the task that a caller plays, by its number, where its script isn't played
abbrev pub Tasks : Type 0
Tasks = ℕ → Option Asking

-- each script is played
abbrev pub nobody : Tasks
nobody c = None

-- what it asks once it was told this reply
abbrev pub asks_after : Asking → Reply → Asking
asks_after asks r = λ (rs : List Reply) (names : Names). asks (r ∷ rs) names

-- the names that are bound after these replies to what it asked, where these were bound before
abbrev pub names_told : Asking → Names → List Reply → Names
names_told asks names [] = names
names_told asks names (r ∷ rs) = names_told (asks_after asks r) (settles names (asks [] names) r) rs

-- its next request
abbrev pub request_after : Asking → Names → List Reply → Option Request
request_after asks names rs = asks rs (names_told asks names rs)

-- the event of its next request, at a host
abbrev pub task_next : ℕ → Names → Asking → List Reply → Option Ask
task_next h names asks rs = option_and_then (planned h (names_told asks names rs)) (request_after asks names rs)

-- Tasks as values: `asks` is what one asks under these names, and `after` what a reply makes of it.

module _ {T : Type 0} (after : T → Reply → T) where
  -- what these replies make of it
  abbrev pub told_all : T → List Reply → T
  told_all t [] = t
  told_all t (r ∷ rs) = told_all (after t r) rs

  abbrev pub asking_of : (T → Names → Option Request) → T → Asking
  asking_of asks t = λ (rs : List Reply) (names : Names). asks (told_all t rs) names
