-- What the task of a whole script keeps, and what any task keeps that is played in the place of a script.
use Rattle.std.specs.Prelude.{◌≡◌, ℕ, true, List, [], ◌∷◌, ◌++◌, Option, Some, None}
use Rattle.net_base.specs.declared.reply.Reply.{Reply}
use Rattle.net_base.specs.declared.world.Script.{Script}
use Rattle.net_base.specs.Next.{place_next}
use Rattle.net_base.specs.Steps.{Ask, Names}
use Rattle.net_base.specs.Tasks.{Asking}
use Rattle.net_base.specs.Versions.{Tuples}
use Rattle.net_base.specs.declared.request.Request.{Request}
use Rattle.script_task.specs.Fitting.{fits}
use Rattle.net_base.specs.Requests.{planned, settled}

-- the event of the request is what comes next, and nothing does where there is none
abbrev pub Comes : ℕ → Names → Option Request → Option Ask → Type 0
Comes h names None next = next ≡ None
Comes h names (Some q) next = next ≡ planned h names q

-- what it asks is what comes next in its place
abbrev pub AsksThere : (T : Type 0) → (T → Names → Option Request) → (Option Asking → Tuples → Script → List Reply → Names → T → Type 0) → Type 0
AsksThere T asks Goes =
    (own : Option Asking) (zone : Tuples) (s : Script) (rs : List Reply) (names : Names) (t : T)
    → Goes own zone s rs names t → Comes s.host names (asks t names) (place_next own zone s rs)

-- after a reply that the event of its request can have, it goes on
abbrev pub GoesThere :
    (T : Type 0) → (T → Names → Option Request) → (T → Reply → T) → (Option Asking → Tuples → Script → List Reply → Names → T → Type 0) → Type 0
GoesThere T asks after Goes =
    (own : Option Asking) (zone : Tuples) (s : Script) (rs : List Reply) (names : Names) (t : T) (q : Request) (ask : Ask) (r : Reply)
    → Goes own zone s rs names t → asks t names ≡ Some q → planned s.host names q ≡ Some ask → fits ask.event r ≡ true
    → Goes own zone s (rs ++ r ∷ []) (settled names q r) (after t r)

-- where the script is played there, it goes on there by playing it
abbrev pub PlaysThere : (T : Type 0) → (Option Asking → Tuples → Script → List Reply → Names → T → Type 0) → (Tuples → Script → List Reply → Names → T → Type 0) → Type 0
PlaysThere T Goes Plays =
    (zone : Tuples) (s : Script) (rs : List Reply) (names : Names) (t : T) → Plays zone s rs names t → Goes None zone s rs names t

-- after a reply that the event of its request can have, it plays the script on
abbrev pub PlaysOn :
    (T : Type 0) → (T → Names → Option Request) → (T → Reply → T) → (Tuples → Script → List Reply → Names → T → Type 0) → Type 0
PlaysOn T asks after Plays =
    (zone : Tuples) (s : Script) (rs : List Reply) (names : Names) (t : T) (q : Request) (ask : Ask) (r : Reply)
    → Plays zone s rs names t → asks t names ≡ Some q → planned s.host names q ≡ Some ask → fits ask.event r ≡ true
    → Plays zone s (rs ++ r ∷ []) (settled names q r) (after t r)
