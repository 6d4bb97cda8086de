-- An announce: its requests, its phases, and the play that it stands for.
use Rattle.std.specs.Prelude.{◌≡◌, ℕ, List, [], ◌∷◌, ◌++◌, Option, Some, None, codes, false, if◌then◌else◌}
use Rattle.net_base.specs.declared.names.Mode.TheVariants as mode
use Rattle.net_base.specs.declared.reply.Reply.{Reply}
use Rattle.net_base.specs.declared.world.Step.{Step}
use Rattle.net_base.specs.declared.world.Step.TheVariants as step
use Rattle.net_base.specs.Steps.{Names, Fid, Play, Ends, fid_of, is_bound, bind, unbind, puts_text, closes_fid, netmkaddr, reply_lines, clone_path, line_address, is_accepted, announces_line, play_of}
use Rattle.dial_lib.specs.Lines.{first_tried, first_dial_line}
use Rattle.dial_lib.specs.declared.announce.Announce.{Announce}
use Rattle.dial_lib.specs.declared.announce.AnnouncePhase.{AnnouncePhase}
use Rattle.dial_lib.specs.declared.announce.AnnouncePhase.TheVariants as phase
use Rattle.net_base.specs.declared.request.Request.{Request}
use Rattle.net_base.specs.declared.request.Request.TheVariants as request
use Rattle.script_task.specs.Fitting.{is_opening}

abbrev pub begins : Names → List ℕ → List ℕ → Request
begins names called address = if is_bound names called then request.Unbound called else request.Cs (netmkaddr address (codes "net") (codes "9fs"))

abbrev pub opens_line : List ℕ → Option (List ℕ) → Option Request
opens_line called None = None
opens_line called (Some line) = Some (request.Open called (clone_path line) mode.Both)

abbrev pub writes_line : List ℕ → List (List ℕ) → Request
writes_line called lines = request.Write called (codes "announce " ++ line_address (first_dial_line lines))

abbrev pub asks_by : AnnouncePhase → List ℕ → List ℕ → List (List ℕ) → Names → Option Request
asks_by phase.Fresh called address lines names = Some (begins names called address)
asks_by phase.Open called address lines names = opens_line called (first_tried lines)
asks_by phase.Write called address lines names = Some (writes_line called lines)
asks_by phase.Close called address lines names = Some (request.Close called)
asks_by phase.Through called address lines names = None

-- the next request under these names
abbrev pub asks : Announce → Names → Option Request
asks t names = asks_by t.phase t.name t.address t.lines names

-- a refused open ends the step, and a refused announce closes the file
abbrev pub phase_after : AnnouncePhase → Reply → AnnouncePhase
phase_after phase.Fresh r = phase.Open
phase_after phase.Open r = if is_opening r then phase.Write else phase.Through
phase_after phase.Write r = if is_accepted r then phase.Through else phase.Close
phase_after phase.Close r = phase.Through
phase_after phase.Through r = phase.Through

abbrev pub lines_after : AnnouncePhase → Reply → List (List ℕ) → List (List ℕ)
lines_after phase.Fresh r lines = reply_lines r
lines_after _ r lines = lines

-- the announce after a reply
abbrev pub after : Announce → Reply → Announce
after t r = record t { phase = phase_after t.phase r; lines = lines_after t.phase r t.lines }

-- The play that it stands for.

abbrev pub writing_line : ℕ → List ℕ → Names → Fid → List ℕ → Play
writing_line h called base made line = puts_text h made made.file (codes "announce " ++ line_address line) (closes_fid h made (Ends base) (Ends base)) (Ends (bind called made base))

pub data Stands (h : ℕ) (called address : List ℕ) (names : Names) : AnnouncePhase → List (List ℕ) → Play → Type 0 where
  IsFresh : (lines : List (List ℕ)) → Stands h called address names phase.Fresh lines (play_of h names (step.Announce called address))
  IsOpen : (lines : List (List ℕ)) → is_bound names called ≡ false → Stands h called address names phase.Open lines (announces_line h called names lines)
  -- the name was bound already
  IsOver : Stands h called address names phase.Open [] (Ends names)
  IsWrite : (base : Names) (made : Fid) (line : List ℕ) (lines : List (List ℕ)) → is_bound base called ≡ false → names ≡ bind called made base → made.mode ≡ mode.Both
      → Stands h called address names phase.Write (line ∷ lines) (writing_line h called base made line)
  IsClose : (base : Names) (made : Fid) (lines : List (List ℕ)) → fid_of called names ≡ Some made → unbind called names ≡ base
      → Stands h called address names phase.Close lines (closes_fid h made (Ends base) (Ends base))
  IsThrough : (lines : List (List ℕ)) → Stands h called address names phase.Through lines (Ends names)

abbrev pub StandsFor : ℕ → Names → Announce → Play → Type 0
StandsFor h names t p = Stands h t.name t.address names t.phase t.lines p

-- The beginning.

-- an announce that has recorded nothing yet
abbrev pub begun : List ℕ → List ℕ → Announce
begun called address = record { name = called; address = address; phase = phase.Fresh; lines = [] }

-- on every host and under all names it stands for the step's play
abbrev pub Begins : Announce → Step → Type 0
Begins t s = (h : ℕ) (names : Names) → StandsFor h names t (play_of h names s)
