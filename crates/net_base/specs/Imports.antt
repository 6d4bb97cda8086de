-- Importing over a call: each message is a write and then a read of 8,192 bytes.
use Rattle.std.specs.Prelude.{ℕ, ◌==◌, ◌&&◌, Bool, false, not, List, [], ◌∷◌, length, Option, Some, None, codes, nat_le, if◌then◌else◌}
use Rattle.std.specs.Option.{option_map_or}
use Rattle.net_base.specs.declared.left.Left.{Left}
use Rattle.net_base.specs.declared.left.Remote.{Remote}
use Rattle.net_base.specs.declared.names.Mode.{Mode}
use Rattle.net_base.specs.declared.names.Mode.TheVariants as mode
use Rattle.net_base.specs.declared.ninep.Rmsg.{Rmsg}
use Rattle.net_base.specs.declared.ninep.Tmsg.{Tmsg}
use Rattle.net_base.specs.declared.ninep.Tmsg.TheVariants as t
use Rattle.net_base.specs.declared.reply.Reply.{Reply}
use Rattle.net_base.specs.Exports.{Own, asks_on, by_text, longest_exported, own_of}
use Rattle.net_base.specs.NinepMessages.{r_qids, r_tag, r_type, t_bytes}
use Rattle.net_base.specs.NinepReading.{read_r}
use Rattle.net_base.specs.Remotes.{free_fid, is_remote_path, path_names, remote_of, with_remote}
use Rattle.net_base.specs.SessionScript.{nofid}
use Rattle.net_base.specs.Steps.{Names, Play, Ends, bytes_in, is_accepted, is_bound, uses}

-- ---- messages

abbrev pub version_message : Tmsg
version_message = t.Version 65535 longest_exported (codes "9P2000")

abbrev pub attach_message : Tmsg
attach_message = t.Attach 1 0 nofid [] []

abbrev pub walk_message : ℕ → List ℕ → Tmsg
walk_message fid path = t.Walk 1 0 fid (path_names path)

abbrev pub mode_number : Mode → ℕ
mode_number mode.Read = 0
mode_number mode.Write = 1
mode_number mode.Both = 2

abbrev pub open_message : ℕ → Mode → Tmsg
open_message fid m = t.Open 1 fid (mode_number m)

abbrev pub read_message : ℕ → ℕ → Tmsg
read_message fid count = t.Read 1 fid 0 count

abbrev pub write_message : ℕ → List ℕ → Tmsg
write_message fid text = t.Write 1 fid 0 text

abbrev pub clunk_message : ℕ → Tmsg
clunk_message fid = t.Clunk 1 fid

-- ---- replies

-- the R-message of a type, with a tag
abbrev pub is_reply_of : ℕ → ℕ → List ℕ → Bool
is_reply_of kind tag text = option_map_or (λ (m : Rmsg). (r_type m == kind) && (r_tag m == tag)) (read_r text) false

-- how many names were walked
abbrev pub walked_names : List ℕ → ℕ
walked_names text = option_map_or (λ (m : Rmsg). length (r_qids m)) (read_r text) 0

abbrev pub is_version : List ℕ → Bool
is_version text = is_reply_of 101 65535 text

-- all names of the path were walked
abbrev pub is_whole : List ℕ → List ℕ → Bool
is_whole path text = is_reply_of 111 1 text && nat_le (length (path_names path)) (walked_names text)

abbrev pub is_open : List ℕ → Bool
is_open text = is_reply_of 113 1 text

-- ---- plays

-- a message goes out on the call's file, and a text comes in. A refused event and the end of file end the step
abbrev pub sends_message : Own → Tmsg → Play → (List ℕ → Play) → Play
sends_message own m refused next =
    asks_on (own.writes (t_bytes m)) (λ (w : Reply).
    if is_accepted w then asks_on own.reads (λ (r : Reply). by_text (bytes_in r) refused next) else refused)

-- a message goes out, and the text that comes in is tested
abbrev pub sends_for : Own → Tmsg → (List ℕ → Bool) → Play → Play → Play → Play
sends_for own m is_reply refused other next = sends_message own m refused (λ (text : List ℕ). if is_reply text then next else other)

-- one message, after which the step is finished
abbrev pub sends_once : Own → Tmsg → Play → Play
sends_once own m ends = sends_message own m ends (λ (text : List ℕ). ends)

-- version, and then attach
abbrev pub imports : Own → Play → Play
imports own ends = sends_for own version_message is_version ends ends (sends_once own attach_message ends)

-- walk, open, and a clunk where another text comes in than that of the open
abbrev pub opens_remote : Own → ℕ → List ℕ → Mode → Play → Play
opens_remote own fid path m ends =
    sends_for own (walk_message fid path) (is_whole path) ends ends
    (sends_for own (open_message fid m) is_open ends (sends_once own (clunk_message fid) ends) ends)

-- a message about a remote name that must be there
abbrev pub sends_by : ℕ → List ℕ → Names → Option Remote → (ℕ → Tmsg) → Play
sends_by h called names None message = uses h called names
sends_by h called names (Some r) message = sends_once (own_of h r.call names) (message r.fid) (Ends names)

-- no text that is written is longer
abbrev pub longest_text : ℕ
longest_text = 488

-- The plays of the steps. A call that isn't bound is asked for before a new name that is. A path or a text that no world says asks for
-- the name alone.

abbrev pub import_play : ℕ → List ℕ → Names → Play
import_play h call names = imports (own_of h call names) (Ends names)

abbrev pub ropen_play : ℕ → Left → List ℕ → List ℕ → List ℕ → Mode → Names → Play
ropen_play h left called call path m names =
    if is_remote_path path && not (is_bound names call && is_bound names called)
    then opens_remote (own_of h call names) (free_fid left call) path m (Ends names)
    else uses h called names

abbrev pub rread_play : ℕ → Left → List ℕ → ℕ → Names → Play
rread_play h left called count names = sends_by h called names (remote_of called left) (λ (fid : ℕ). read_message fid count)

abbrev pub rwrite_play : ℕ → Left → List ℕ → List ℕ → Names → Play
rwrite_play h left called text names =
    if nat_le (length text) longest_text
    then sends_by h called names (remote_of called left) (λ (fid : ℕ). write_message fid text)
    else uses h called names

abbrev pub rclose_play : ℕ → Left → List ℕ → Names → Play
rclose_play h left called names = sends_by h called names (remote_of called left) clunk_message

-- ---- what an open leaves

-- by these replies to its events a remote file was opened: two messages went out, and their replies passed
abbrev pub was_opened : List ℕ → List Reply → Bool
was_opened path (one ∷ walked ∷ two ∷ opened ∷ rs) =
    (is_accepted one && is_whole path (bytes_in walked)) && (is_accepted two && is_open (bytes_in opened))
was_opened path _ = false

abbrev pub left_open : Left → List ℕ → List ℕ → List ℕ → List Reply → Left
left_open left called call path rs =
    if was_opened path rs then with_remote (record { name = called; call = call; fid = free_fid left call }) left else left
