-- A step of one request.
use Rattle.std.specs.Prelude.{◌≡◌, ℕ, Bool, true, false, Option, Some, None, if◌then◌else◌}
use Rattle.net_base.specs.declared.reply.Reply.{Reply}
use Rattle.net_base.specs.Steps.{Ask, Names, Play, Ends}
use Rattle.dial_lib.specs.declared.one_request.OneRequest.{OneRequest}
use Rattle.net_base.specs.declared.request.Request.{Request}
use Rattle.net_base.specs.Requests.{head, request_play, settled}
use Rattle.script_task.specs.Task.{follow}

abbrev pub asks_by : Request → Bool → Option Request
asks_by q is_through = if is_through then None else Some q

-- the next request under these names
abbrev pub asks : OneRequest → Names → Option Request
asks t names = asks_by t.request t.is_through

-- the step after a reply
abbrev pub after : OneRequest → Reply → OneRequest
after t r = record t { is_through = true }

-- the request's play ends after one reply
abbrev pub IsSingle : ℕ → Names → Request → Type 0
IsSingle h names q = (ask : Ask) × (head (request_play h names q) ≡ Some ask) × ((r : Reply) → follow (request_play h names q) r ≡ Ends (settled names q r))

pub data Stands (h : ℕ) (names : Names) (q : Request) : Bool → Play → Type 0 where
  IsFresh : IsSingle h names q → Stands h names q false (request_play h names q)
  IsThrough : Stands h names q true (Ends names)

-- the play that it stands for
abbrev pub StandsFor : ℕ → Names → OneRequest → Play → Type 0
StandsFor h names t p = Stands h names t.request t.is_through p
