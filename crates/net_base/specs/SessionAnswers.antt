-- What a session's messages are answered: those without a step at once, the others by the reply to their step's last event.
use Rattle.std.specs.Prelude.{ℕ, ◌==◌, Bool, true, false, List, [], ◌∷◌, map, length, take, drop, min, bytes_eq, Option, Some, None, is_some, codes, if◌then◌else◌}
use Rattle.std.specs.Option.{option_map_or}
use Rattle.net_base.specs.declared.names.FileName.TheVariants as file
use Rattle.net_base.specs.declared.names.Node.{Node}
use Rattle.net_base.specs.declared.names.Node.TheVariants as node
use Rattle.net_base.specs.declared.reply.Reply.{Reply}
use Rattle.net_base.specs.declared.reply.Reply.TheVariants as reply
use Rattle.net_base.specs.Steps.{bytes_in, reply_lines}
use Rattle.net_base.specs.Transcript.{as_lines, reply_words, spaced}
use Rattle.net_base.specs.declared.ninep.Rmsg.{Rmsg}
use Rattle.net_base.specs.declared.ninep.Rmsg.TheVariants as r
use Rattle.net_base.specs.declared.ninep.Tmsg.{Tmsg}
use Rattle.net_base.specs.declared.ninep.Tmsg.TheVariants as t
use Rattle.net_base.specs.NinepMessages.{t_tag}
use Rattle.net_base.specs.SessionFiles.{can_open, is_cs, is_data_node, qid_of, walked}
use Rattle.net_base.specs.SessionScript.{begins_session, gives_nothing, nofid, room}
use Rattle.net_base.specs.declared.ninep.Target.{Target}
use Rattle.net_base.specs.SessionTable.{Table, is_taken}

-- what a read of cs finds by each fid: the lines of its last write
abbrev pub Found : Type 0
Found = ℕ → List ℕ

-- ---- refusals

abbrev pub bad_fid : List ℕ
bad_fid = codes "bad fid"

abbrev pub bad_mode : List ℕ
bad_mode = codes "badmode"

abbrev pub bad_use : List ℕ
bad_use = codes "bad use"

abbrev pub not_served : List ℕ
not_served = codes "not served"

abbrev pub no_file : List ℕ
no_file = codes "nofile"

-- a message about a fid: refused where the fid is unknown
abbrev pub of_known : ℕ → Option Target → (Target → Rmsg) → Rmsg
of_known tag None answer = r.Error tag bad_fid
of_known tag (Some f) answer = answer f

-- .. and where it isn't used
abbrev pub of_used : ℕ → Option Target → (Target → Rmsg) → Rmsg
of_used tag o answer = of_known tag o (λ (f : Target). if f.is_used then answer f else r.Error tag bad_use)

-- ---- answers without a step

-- `unknown` for another version
abbrev pub spoken : List ℕ → List ℕ
spoken version = if bytes_eq version (codes "9P2000") then codes "9P2000" else codes "unknown"

abbrev pub version_answer : Table → ℕ → ℕ → List ℕ → Rmsg
version_answer table tag msize version = if begins_session table msize then r.Version tag (min msize table.msize) (spoken version) else r.Error tag bad_use

abbrev pub attach_answer : Table → ℕ → ℕ → ℕ → Rmsg
attach_answer table tag fid afid =
    if afid == nofid
    then (if is_some (table.fids fid) then r.Error tag bad_use else r.Attach tag (qid_of node.Root))
    else r.Error tag not_served

-- the qids of what was found; `nofile` where there are names and the first isn't found
abbrev pub found_answer : ℕ → List (List ℕ) → List Node → Rmsg
found_answer tag (name ∷ names) [] = r.Error tag no_file
found_answer tag names found = r.Walk tag (map qid_of found)

abbrev pub walk_answer : Table → ℕ → ℕ → ℕ → List (List ℕ) → Target → Rmsg
walk_answer table tag fid newfid names f =
    if is_taken table fid newfid then r.Error tag bad_fid
    else if f.is_used then r.Error tag bad_use
    else found_answer tag names (walked f.node names)

-- of cs and of a directory
abbrev pub open_answer : ℕ → ℕ → Target → Rmsg
open_answer tag mode f = if can_open f.node mode then r.Open tag (qid_of f.node) 0 else r.Error tag bad_mode

-- so many bytes from the offset on
abbrev pub piece : ℕ → ℕ → List ℕ → List ℕ
piece offset most bytes = take most (drop offset bytes)

-- nothing; `not served` of a directory; and the lines of cs
abbrev pub read_answer : Table → Found → ℕ → ℕ → ℕ → ℕ → Target → Rmsg
read_answer table found tag fid offset count f =
    if gives_nothing f.node offset count then r.Read tag []
    else if is_cs f.node then r.Read tag (piece offset (room table count) (found fid))
    else r.Error tag not_served

-- the answer to a message without a step
abbrev pub said_at_once : Table → Found → Tmsg → Rmsg
said_at_once table found (t.Version tag msize version) = version_answer table tag msize version
said_at_once table found (t.Auth tag afid uname aname) = r.Error tag not_served
said_at_once table found (t.Attach tag fid afid uname aname) = attach_answer table tag fid afid
said_at_once table found (t.Flush tag oldtag) = r.Flush tag
said_at_once table found (t.Walk tag fid newfid names) = of_known tag (table.fids fid) (walk_answer table tag fid newfid names)
said_at_once table found (t.Open tag fid mode) = of_known tag (table.fids fid) (open_answer tag mode)
said_at_once table found (t.Create tag fid name perm mode) = of_known tag (table.fids fid) (λ (f : Target). r.Error tag not_served)
said_at_once table found (t.Read tag fid offset count) = of_used tag (table.fids fid) (read_answer table found tag fid offset count)
said_at_once table found (t.Write tag fid offset bytes) = of_known tag (table.fids fid) (λ (f : Target). r.Error tag bad_use)
said_at_once table found (t.Clunk tag fid) = of_known tag (table.fids fid) (λ (f : Target). r.Clunk tag)
said_at_once table found (t.Remove tag fid) = of_known tag (table.fids fid) (λ (f : Target). r.Error tag not_served)
said_at_once table found (t.Stat tag fid) = of_known tag (table.fids fid) (λ (f : Target). r.Error tag not_served)
said_at_once table found (t.Wstat tag fid stat) = of_known tag (table.fids fid) (λ (f : Target). r.Error tag not_served)

-- ---- answers by a reply

-- the replies that refuse nothing
abbrev pub is_granting : Reply → Bool
is_granting (reply.Slot n g) = true
is_granting (reply.Call n g) = true
is_granting (reply.Opened g) = true
is_granting reply.Ok = true
is_granting reply.Left = true
is_granting (reply.Bytes bytes) = true
is_granting (reply.Count n) = true
is_granting (reply.Lines lines) = true
is_granting _ = false

-- the text of an error has room in a message
abbrev pub longest_error : ℕ
longest_error = 8192

-- the reply as a history prints it
abbrev pub printed : Reply → List ℕ
printed x = drop 1 (spaced (reply_words x))

-- what was opened: of clone and listen it is the ctl file of the slot
abbrev pub now_open : Node → Reply → Node
now_open (node.Clone p) (reply.Slot n g) = node.File p n file.Ctl
now_open (node.File p k f) (reply.Call n g) = node.File p n file.Ctl
now_open at _ = at

-- where the bytes that were read begin: data are read from where they are
abbrev pub skipped : Node → ℕ → ℕ
skipped at offset = if is_data_node at then 0 else offset

-- the node of a fid, where it is known
abbrev pub node_at : Table → ℕ → Node
node_at table fid = option_map_or (λ (f : Target). f.node) (table.fids fid) node.Root

-- the answer to a message whose step wasn't refused
abbrev pub granted : Table → Tmsg → Reply → Rmsg
granted table (t.Open tag fid mode) x = r.Open tag (qid_of (now_open (node_at table fid) x)) 0
granted table (t.Read tag fid offset count) x = r.Read tag (piece (skipped (node_at table fid) offset) (room table count) (bytes_in x))
granted table (t.Write tag fid offset bytes) x = r.Write tag (length bytes)
granted table (t.Clunk tag fid) x = r.Clunk tag
granted table m x = r.Error (t_tag m) not_served

-- the answer to a message with a step, by the reply to the step's last event
abbrev pub replied : Table → Tmsg → Reply → Rmsg
replied table m x = if is_granting x then granted table m x else r.Error (t_tag m) (printed x)

-- ---- lines of cs

abbrev pub with_found : ℕ → List ℕ → Found → Found
with_found n lines found m = if n == m then lines else found m

-- the lines of a fid after a message: none once it is clunked
abbrev pub found_after : Found → Tmsg → Found
found_after found (t.Clunk tag fid) = with_found fid [] found
found_after found (t.Remove tag fid) = with_found fid [] found
found_after found _ = found

-- .. and after a reply: those of a write to cs
abbrev pub found_by : Table → Found → Tmsg → Reply → Found
found_by table found (t.Write tag fid offset bytes) x = if is_cs (node_at table fid) then with_found fid (as_lines (reply_lines x)) found else found
found_by table found m x = found_after found m
