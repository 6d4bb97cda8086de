-- What every task keeps, given its next request, what a reply makes of it, and the plays that it stands for.
use Rattle.std.specs.Prelude.{◌≡◌, ℕ, Bool, true, Option, Some, None}
use Rattle.net_base.specs.declared.reply.Reply.{Reply}
use Rattle.net_base.specs.Steps.{Ask, Names, Play, Asks, Ends}
use Rattle.net_base.specs.declared.request.Request.{Request}
use Rattle.net_base.specs.Requests.{head, planned, settled}
use Rattle.script_task.specs.Fitting.{fits}

-- the request is the play's next event, and none is its end with these names
abbrev pub Heads : ℕ → Names → Option Request → Play → Type 0
Heads h names None p = p ≡ Ends names
Heads h names (Some q) p = (ask : Ask) × (head p ≡ Some ask) × (planned h names q ≡ Some ask)

-- a task that stands for a play under names asks for what the play records
abbrev pub AsksSo : (T : Type 0) → (T → Names → Option Request) → (ℕ → Names → T → Play → Type 0) → Type 0
AsksSo T asks Stands = (h : ℕ) (names : Names) (t : T) (p : Play) → Stands h names t p → Heads h names (asks t names) p

-- the rest of a play after a reply to its event
abbrev pub follow : Play → Reply → Play
follow (Asks a e next) r = next r
follow (Ends names) r = Ends names

-- the play's event can have this reply
abbrev pub fits_play : Play → Reply → Bool
fits_play (Asks a e next) r = fits e r
fits_play (Ends names) r = true

-- after a reply that its event can have it stands for the rest of the play, under the names that are bound then
abbrev pub MovesSo : (T : Type 0) → (T → Names → Option Request) → (T → Reply → T) → (ℕ → Names → T → Play → Type 0) → Type 0
MovesSo T asks after Stands =
    (h : ℕ) (names : Names) (t : T) (p : Play) (q : Request) (r : Reply)
    → Stands h names t p → asks t names ≡ Some q → fits_play p r ≡ true
    → Stands h (settled names q r) (after t r) (follow p r)
