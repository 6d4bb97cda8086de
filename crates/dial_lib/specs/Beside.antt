-- The task of `listen` and of `accept`: it opens another file of a conversation with a new name, the listen file or the data file.
use Rattle.std.specs.Prelude.{◌≡◌, ℕ, Bool, true, false, List, Option, Some, None, if◌then◌else◌}
use Rattle.net_base.specs.declared.names.FileName.{FileName}
use Rattle.net_base.specs.declared.names.Mode.{Mode}
use Rattle.net_base.specs.declared.names.Mode.TheVariants as mode
use Rattle.net_base.specs.declared.names.Node.TheVariants as node
use Rattle.net_base.specs.declared.reply.Reply.{Reply}
use Rattle.net_base.specs.declared.world.Step.{Step}
use Rattle.net_base.specs.Paths.{is_read_alone, path_of}
use Rattle.net_base.specs.Steps.{Names, Fid, Play, Ends, fid_of, is_bound, bind, with_bound, with_new, opens_beside, play_of}
use Rattle.dial_lib.specs.declared.beside.Beside.{Beside}
use Rattle.dial_lib.specs.Slots.{HaveSlots}
use Rattle.net_base.specs.declared.request.Request.{Request}
use Rattle.net_base.specs.declared.request.Request.TheVariants as request

-- the file is opened by its path
abbrev pub opens_so : List ℕ → Fid → FileName → Mode → Request
opens_so called f to m = request.Open called (path_of (node.File f.proto f.slot to)) m

-- .. to read and to write
abbrev pub opens_both_ways : List ℕ → Fid → FileName → Request
opens_both_ways called f to = opens_so called f to mode.Both

-- the name that must be bound is asked for first, then the new one
abbrev pub asks_file : FileName → List ℕ → List ℕ → Names → Option Fid → Request
asks_file to called from names None = request.Unbound from
asks_file to called from names (Some f) = if is_bound names called then request.Unbound called else opens_both_ways called f to

abbrev pub asks_beside : FileName → List ℕ → List ℕ → Names → Request
asks_beside to called from names = asks_file to called from names (fid_of from names)

abbrev pub asks_by : FileName → List ℕ → List ℕ → Bool → Names → Option Request
asks_by to called from is_through names = if is_through then None else Some (asks_beside to called from names)

-- the file's conversation has another file, which is opened with a new name
abbrev pub beside_play : FileName → ℕ → List ℕ → List ℕ → Names → Play
beside_play to h called from names =
    with_bound h from names (λ (f : Fid). with_new h called names (opens_beside h f to (Ends names) (λ (made : Fid). Ends (bind called made names))))

pub data Stands (to : FileName) (h : ℕ) (names : Names) (called from : List ℕ) : Bool → Play → Type 0 where
  IsFresh : HaveSlots names → is_read_alone to ≡ false → Stands to h names called from false (beside_play to h called from names)
  IsThrough : Stands to h names called from true (Ends names)

-- The task.

-- the next request under these names
abbrev pub asks : Beside → Names → Option Request
asks t names = asks_by t.file t.name t.from t.is_through names

-- the task after a reply
abbrev pub after : Beside → Reply → Beside
after t r = record t { is_through = true }

-- the play that it stands for
abbrev pub StandsFor : ℕ → Names → Beside → Play → Type 0
StandsFor h names t p = Stands t.file h names t.name t.from t.is_through p

-- one that has recorded nothing yet
abbrev pub begun : FileName → List ℕ → List ℕ → Beside
begun to called from = record { name = called; from = from; file = to; is_through = false }

-- on every host it stands for the step's play, where each name is bound to a file of a slot that there is
abbrev pub Begins : Beside → Step → Type 0
Begins t s = (h : ℕ) (names : Names) → HaveSlots names → StandsFor h names t (play_of h names s)
