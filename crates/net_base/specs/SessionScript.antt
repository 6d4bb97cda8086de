-- The script of a session: the steps of its messages in order, and the fids after each message. None of it goes by replies.
use Rattle.std.specs.Prelude.{◌≡◌, ◌≤◌, ℕ, ◌+◌, ◌-◌, ◌==◌, ◌&&◌, ◌||◌, Bool, true, false, not, List, [], ◌∷◌, ◌++◌, length, min, Option, Some, None, option_map, is_none, codes, nat_le, nat_lt, option_to_list, if◌then◌else◌}
use Rattle.std.specs.List.{list_any}
use Rattle.std.specs.Option.{option_and_then}
use Rattle.net_base.specs.declared.names.FileName.TheVariants as file
use Rattle.net_base.specs.declared.names.Mode.{Mode}
use Rattle.net_base.specs.declared.names.Node.{Node}
use Rattle.net_base.specs.declared.names.Node.TheVariants as node
use Rattle.net_base.specs.declared.world.Step.{Step}
use Rattle.net_base.specs.declared.world.Step.TheVariants as step
use Rattle.net_base.specs.Numeral.{numeral}
use Rattle.net_base.specs.Paths.{path_of}
use Rattle.net_base.specs.declared.ninep.Tmsg.{Tmsg}
use Rattle.net_base.specs.declared.ninep.Tmsg.TheVariants as t
use Rattle.net_base.specs.NinepMessages.{SpellsT, t_bytes}
use Rattle.net_base.specs.SessionFiles.{access, can_open, is_cs, is_data_node, is_directory, is_plain, reached}
use Rattle.net_base.specs.declared.ninep.Target.{Target}
use Rattle.net_base.specs.SessionTable.{Table, fresh, is_taken, opening, with_target, set, used}

-- ---- steps

-- the name of a fid in the script
abbrev pub fid_name : ℕ → List ℕ
fid_name n = codes "f" ++ numeral n

abbrev pub opening_step : ℕ → Node → Mode → Step
opening_step fid at m = step.Open (fid_name fid) (path_of at) (Some m)

-- Topen of a file but cs
abbrev pub open_step : ℕ → ℕ → Target → Option Step
open_step fid mode f = if is_plain f.node then option_map (opening_step fid f.node) (access mode) else None

-- the most that a Tread gives
abbrev pub room : Table → ℕ → ℕ
room table count = min count (table.msize - 24)

-- where files but data end
abbrev pub text_end : ℕ
text_end = 65536

-- count 0, or an offset behind the end of a file that isn't data
abbrev pub gives_nothing : Node → ℕ → ℕ → Bool
gives_nothing at offset count = (count == 0) || (nat_le text_end offset && not (is_data_node at || is_directory at))

-- how many bytes the read of a Tread takes: of data so many, of another file but cs all from its beginning
abbrev pub read_count : ℕ → ℕ → Node → Option ℕ
read_count offset most (node.File p n file.Data) = Some most
read_count offset most (node.File p n f) = Some (min text_end (offset + most))
read_count offset most (node.Clone p) = Some (min text_end (offset + most))
read_count offset most _ = None

abbrev pub reading_step : ℕ → ℕ → Step
reading_step fid count = step.Read (fid_name fid) count

abbrev pub read_step : Table → ℕ → ℕ → ℕ → Target → Option Step
read_step table fid offset count f = if gives_nothing f.node offset count then None else option_map (reading_step fid) (read_count offset (room table count) f.node)

-- a query of cs: on one line, and not empty
abbrev pub is_query : List ℕ → Bool
is_query bytes = nat_lt 0 (length bytes) && not (list_any (λ (b : ℕ). b == 10) bytes)

abbrev pub cs_step : List ℕ → Option Step
cs_step bytes = if is_query bytes then Some (step.Cs bytes) else None

-- Twrite
abbrev pub write_step : ℕ → List ℕ → Target → Option Step
write_step fid bytes f = if is_cs f.node then cs_step bytes else Some (step.Writex (fid_name fid) bytes)

-- Tclunk, and Tremove, of a file but cs that was used
abbrev pub close_step : ℕ → Target → Option Step
close_step fid f = if is_plain f.node then Some (step.Close (fid_name fid)) else None

-- the step of a message, if it has one
abbrev pub message_step : Table → Tmsg → Option Step
message_step table (t.Open tag fid mode) = option_and_then (open_step fid mode) (table.fids fid)
message_step table (t.Read tag fid offset count) = option_and_then (read_step table fid offset count) (used table fid)
message_step table (t.Write tag fid offset bytes) = option_and_then (write_step fid bytes) (used table fid)
message_step table (t.Clunk tag fid) = option_and_then (close_step fid) (used table fid)
message_step table (t.Remove tag fid) = option_and_then (close_step fid) (used table fid)
message_step table _ = None

-- ---- fids

-- Tversion's row: it is the first message, and not below 256
abbrev pub begins_session : Table → ℕ → Bool
begins_session table msize = table.is_first && nat_le 256 msize

-- no fid
abbrev pub nofid : ℕ
nofid = 4294967295

-- Tattach's row: NOFID as afid, and a new fid
abbrev pub attaches : Table → ℕ → ℕ → Bool
attaches table fid afid = (afid == nofid) && is_none (table.fids fid)

abbrev pub walks_from : Table → ℕ → ℕ → Target → Option Node
walks_from table fid newfid f = if is_taken table fid newfid || f.is_used then None else Some f.node

-- Twalk's row: where it begins, from a fid that isn't used to a new or the same fid
abbrev pub source : Table → ℕ → ℕ → Option Node
source table fid newfid = option_and_then (walks_from table fid newfid) (table.fids fid)

-- newfid is bound only where all names are found
abbrev pub bound_by : Table → ℕ → ℕ → List (List ℕ) → Option Target
bound_by table fid newfid names = option_map fresh (option_and_then (λ (at : Node). reached at names) (source table fid newfid))

-- an opened fid is used from then on, also where the step is refused
abbrev pub opened_target : ℕ → Target → Option Target
opened_target mode f = if can_open f.node mode then Some (record f { is_used = true }) else None

abbrev pub heard : Table → ℕ → Table
heard table msize = if begins_session table msize then record table { msize = min msize table.msize } else table

abbrev pub attached : Table → ℕ → ℕ → Table
attached table fid afid = if attaches table fid afid then set fid (Some (fresh node.Root)) table else table

abbrev pub walked_to : Table → ℕ → ℕ → List (List ℕ) → Table
walked_to table fid newfid names = with_target newfid (bound_by table fid newfid names) table

abbrev pub used_by : Table → ℕ → ℕ → Table
used_by table fid mode = with_target fid (option_and_then (opened_target mode) (table.fids fid)) table

-- what a message changes; Tclunk and Tremove take the fid out, whatever is answered
abbrev pub changed : Table → Tmsg → Table
changed table (t.Version tag msize version) = heard table msize
changed table (t.Attach tag fid afid uname aname) = attached table fid afid
changed table (t.Walk tag fid newfid names) = walked_to table fid newfid names
changed table (t.Open tag fid mode) = used_by table fid mode
changed table (t.Clunk tag fid) = set fid None table
changed table (t.Remove tag fid) = set fid None table
changed table _ = table

-- the table after a message
abbrev pub table_next : Table → Tmsg → Table
table_next table m = record (changed table m) { is_first = false }

-- ---- scripts

-- the steps of messages, in order
abbrev pub steps_of : Table → List Tmsg → List Step
steps_of table [] = []
steps_of table (m ∷ ms) = option_to_list (message_step table m) ++ steps_of (table_next table m) ms

-- these bytes begin with the message, which is no longer than this; behind it stands the rest
pub record Begins (msize : ℕ) (m : Tmsg) (bytes rest : List ℕ) : Type 0 where
  pub spells : SpellsT m (t_bytes m)
  pub short : length (t_bytes m) ≤ msize
  pub whole : bytes ≡ t_bytes m ++ rest

-- these bytes are these messages, none longer than the msize before it
abbrev pub IsStream : Table → List Tmsg → List ℕ → Type 0
IsStream table [] bytes = bytes ≡ []
IsStream table (m ∷ ms) bytes = (rest : List ℕ) × Begins table.msize m bytes rest × IsStream (table_next table m) ms rest

-- a session's bytes are these messages
abbrev pub AreMessages : List ℕ → List Tmsg → Type 0
AreMessages bytes ms = IsStream opening ms bytes

-- the script of a session
abbrev pub script : List Tmsg → List Step
script ms = steps_of opening ms

-- these are the steps of the session with these bytes
abbrev pub IsScript : List ℕ → List Step → Type 0
IsScript bytes steps = (ms : List Tmsg) × AreMessages bytes ms × (steps ≡ script ms)

-- cause 51: the bytes aren't whole messages
abbrev pub IsBadStream : List ℕ → Type 0
IsBadStream bytes = (ms : List Tmsg) → AreMessages bytes ms → ⊥
