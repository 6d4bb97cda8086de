-- A dial: its requests, its phases, and the play that it stands for.
use Rattle.std.specs.Prelude.{◌≡◌, ℕ, ◌<◌, false, List, [], ◌∷◌, ◌++◌, Option, Some, None, codes, if◌then◌else◌}
use Rattle.net_base.specs.declared.event.Event.TheVariants as event
use Rattle.net_base.specs.declared.names.FileName.TheVariants as file
use Rattle.net_base.specs.declared.names.Mode.TheVariants as mode
use Rattle.net_base.specs.declared.reply.Reply.{Reply}
use Rattle.net_base.specs.declared.world.Step.{Step}
use Rattle.net_base.specs.declared.world.Step.TheVariants as step
use Rattle.net_base.specs.Steps.{Names, Fid, Play, Asks, Ends, fid_of, is_bound, bind, unbind, is_accepted, if_accepted, conversation_of, puts_text, closes_fid, closes_last, connected, dials, netmkaddr, reply_lines, clone_path, line_address, dotted_name, play_of}
use Rattle.dial_lib.specs.Beside.{opens_both_ways}
use Rattle.dial_lib.specs.Lines.{first_tried, first_dial_line, other_lines}
use Rattle.dial_lib.specs.declared.dial.DialPhase.{DialPhase}
use Rattle.dial_lib.specs.declared.dial.DialPhase.TheVariants as phase
use Rattle.net_base.specs.declared.request.Request.{Request}
use Rattle.net_base.specs.declared.request.Request.TheVariants as request
use Rattle.script_task.specs.Fitting.{is_opening, is_granted}

-- The task.

pub record Dialling : Type 0 where
  pub called : List ℕ
  pub address : List ℕ
  pub phase : DialPhase
  -- the first of them is tried now
  pub lines : List (List ℕ)

abbrev pub begins : Names → List ℕ → List ℕ → List ℕ → Request
begins names called dotted address =
    if is_bound names called
    then request.Unbound called
    else (if is_bound names dotted then request.Unbound dotted else request.Cs (netmkaddr address (codes "net") (codes "9fs")))

abbrev pub dial_opens_line : List ℕ → Option (List ℕ) → Option Request
dial_opens_line dotted None = None
dial_opens_line dotted (Some line) = Some (request.Open dotted (clone_path line) mode.Both)

abbrev pub opens_data : List ℕ → List ℕ → Option Fid → Request
opens_data called dotted None = request.Unbound dotted
opens_data called dotted (Some f) = opens_both_ways called f file.Data

abbrev pub connect_request : List ℕ → List (List ℕ) → Request
connect_request dotted lines = request.Write dotted (codes "connect " ++ line_address (first_dial_line lines))

abbrev pub asks_by : DialPhase → List ℕ → List ℕ → List (List ℕ) → Names → Option Request
asks_by phase.Fresh called address lines names = Some (begins names called (dotted_name called) address)
asks_by phase.Open called address lines names = dial_opens_line (dotted_name called) (first_tried lines)
asks_by phase.Write called address lines names = Some (connect_request (dotted_name called) lines)
asks_by phase.Wait called address lines names = Some (request.Wait (dotted_name called))
asks_by phase.Retry called address lines names = Some (request.Close (dotted_name called))
asks_by phase.Data called address lines names = Some (opens_data called (dotted_name called) (fid_of (dotted_name called) names))
asks_by phase.Close called address lines names = Some (request.Close (dotted_name called))
asks_by phase.Through called address lines names = None

-- the next request of a dial under these names
abbrev pub asks : Dialling → Names → Option Request
asks d names = asks_by d.phase d.called d.address d.lines names

-- a line that isn't opened, or isn't connected, is left for the next
abbrev pub phase_after : DialPhase → Reply → DialPhase
phase_after phase.Fresh r = phase.Open
phase_after phase.Open r = if is_opening r then phase.Write else phase.Open
phase_after phase.Write r = if is_granted r then phase.Wait else (if is_accepted r then phase.Data else phase.Retry)
phase_after phase.Wait r = if is_accepted r then phase.Data else phase.Retry
phase_after phase.Retry r = if is_accepted r then phase.Open else phase.Through
phase_after phase.Data r = phase.Close
phase_after phase.Close r = phase.Through
phase_after phase.Through r = phase.Through

abbrev pub dial_lines_after : DialPhase → Reply → List (List ℕ) → List (List ℕ)
dial_lines_after phase.Fresh r lines = reply_lines r
dial_lines_after phase.Open r lines = if is_opening r then lines else other_lines lines
dial_lines_after phase.Retry r lines = other_lines lines
dial_lines_after _ r lines = lines

-- the dial after a reply
abbrev pub after : Dialling → Reply → Dialling
after d r = record d { phase = phase_after d.phase r; lines = dial_lines_after d.phase r d.lines }

-- The play that it stands for.

-- the name and its dotted one are free
pub record Free (called : List ℕ) (base : Names) : Type 0 where
  pub name : is_bound base called ≡ false
  pub dotted : is_bound base (dotted_name called) ≡ false

-- the ctl file of a line is bound in front of the names
pub record HoldsCtl (called : List ℕ) (base names : Names) (made : Fid) : Type 0 where
  pub free : Free called base
  pub names_are : names ≡ bind (dotted_name called) made base
  pub both : made.mode ≡ mode.Both
  pub slot : made.slot < 32

-- the ctl file is closed and the next line is tried
abbrev pub retrying : ℕ → List ℕ → Names → Fid → List (List ℕ) → Play
retrying h called base made lines = closes_fid h made (Ends base) (dials h called base lines)

-- a line's address is written to its ctl file
abbrev pub connecting : ℕ → List ℕ → Names → Fid → List ℕ → List (List ℕ) → Play
connecting h called base made line lines =
    puts_text h made made.file (codes "connect " ++ line_address line) (retrying h called base made lines) (connected h called base made)

abbrev pub waiting : ℕ → List ℕ → Names → Fid → List (List ℕ) → Play
waiting h called base made lines =
    Asks (conversation_of h made) (event.Await made.generation) (λ (r : Reply). if_accepted r (connected h called base made) (retrying h called base made lines))

pub data Stands (h : ℕ) (called address : List ℕ) (names : Names) : DialPhase → List (List ℕ) → Play → Type 0 where
  IsFresh : (lines : List (List ℕ)) → Stands h called address names phase.Fresh lines (play_of h names (step.Dial called address))
  IsOpen : (lines : List (List ℕ)) → Free called names → Stands h called address names phase.Open lines (dials h called names lines)
  -- one of the names was bound already
  IsOver : Stands h called address names phase.Open [] (Ends names)
  IsWrite : (base : Names) (made : Fid) (line : List ℕ) (lines : List (List ℕ)) → HoldsCtl called base names made
      → Stands h called address names phase.Write (line ∷ lines) (connecting h called base made line lines)
  IsWait : (base : Names) (made : Fid) (line : List ℕ) (lines : List (List ℕ)) → HoldsCtl called base names made
      → Stands h called address names phase.Wait (line ∷ lines) (waiting h called base made lines)
  IsRetry : (base : Names) (made : Fid) (line : List ℕ) (lines : List (List ℕ)) → HoldsCtl called base names made
      → Stands h called address names phase.Retry (line ∷ lines) (retrying h called base made lines)
  IsData : (base : Names) (made : Fid) (lines : List (List ℕ)) → HoldsCtl called base names made
      → Stands h called address names phase.Data lines (connected h called base made)
  IsClose : (base : Names) (made : Fid) (lines : List (List ℕ)) → fid_of (dotted_name called) names ≡ Some made → unbind (dotted_name called) names ≡ base
      → Stands h called address names phase.Close lines (closes_last h made base)
  IsThrough : (lines : List (List ℕ)) → Stands h called address names phase.Through lines (Ends names)

abbrev pub StandsFor : ℕ → Names → Dialling → Play → Type 0
StandsFor h names d p = Stands h d.called d.address names d.phase d.lines p

-- The beginning.

-- a dial that has recorded nothing yet
abbrev pub begun : List ℕ → List ℕ → Dialling
begun called address = record { called = called; address = address; phase = phase.Fresh; lines = [] }

-- on every host and under all names it stands for the step's play
abbrev pub Begins : Dialling → Step → Type 0
Begins d s = (h : ℕ) (names : Names) → StandsFor h names d (play_of h names s)
