-- The steps of scripts: which events each records, given the replies so far.
use Rattle.std.specs.Prelude.{ℕ, zero, suc, ◌-◌, count_by, ◌==◌, ◌&&◌, Bool, true, false, not, List, [], ◌∷◌, ◌++◌, filter, Option, Some, None, Result, Ok, Err, codes, bytes_eq, unwrap_or, if◌then◌else◌}
use Rattle.std.specs.List.{before_first, after_first, list_any}
use Rattle.std.specs.Option.{option_map, option_and_then}
use Rattle.net_base.specs.declared.actor.ActorName.{ActorName}
use Rattle.net_base.specs.declared.actor.ActorName.TheVariants as name
use Rattle.net_base.specs.declared.address.Addr.{Addr}
use Rattle.net_base.specs.declared.address.Proto.{Proto}
use Rattle.net_base.specs.declared.event.Event.{Event}
use Rattle.net_base.specs.declared.event.Event.TheVariants as event
use Rattle.net_base.specs.declared.headers.Headers.{Headers}
use Rattle.net_base.specs.declared.headers.Heard.{Heard}
use Rattle.net_base.specs.declared.names.Ctl.{Ctl}
use Rattle.net_base.specs.declared.names.Ctl.TheVariants as ctl
use Rattle.net_base.specs.declared.names.FileName.{FileName}
use Rattle.net_base.specs.declared.names.FileName.TheVariants as file
use Rattle.net_base.specs.declared.names.Mode.{Mode}
use Rattle.net_base.specs.declared.names.Mode.TheVariants as mode
use Rattle.net_base.specs.declared.names.Node.{Node}
use Rattle.net_base.specs.declared.names.Node.TheVariants as node
use Rattle.net_base.specs.declared.reply.Reply.{Reply}
use Rattle.net_base.specs.declared.reply.Reply.TheVariants as reply
use Rattle.net_base.specs.declared.world.Step.{Step}
use Rattle.net_base.specs.declared.world.Step.TheVariants as step
use Rattle.net_base.specs.Addresses.{address_in, number_in, parts_at}
use Rattle.net_base.specs.ControlWords as control
use Rattle.net_base.specs.Conversation.{nowhere}
use Rattle.net_base.specs.DatagramHeaders.{has_headers, headers_of, text_behind}
use Rattle.net_base.specs.DomainAnswers.{dns_answer}
use Rattle.net_base.specs.Paths.{walk, may_open, is_read_alone, mode_reads, mode_writes}
use Rattle.net_base.specs.Same.{same_addr}
use Rattle.net_base.specs.Versions.{Tuples}

-- Names.

-- what a name is bound to: a file of a conversation, opened so
pub record Fid : Type 0 where
  pub proto : Proto
  pub slot : ℕ
  pub generation : ℕ
  pub file : FileName
  pub mode : Mode

pub record Bound : Type 0 where
  pub called : List ℕ
  pub fid : Fid

-- what a step finds, and what it leaves for later ones: the names that are bound, what the last `hread` was told, and the database
-- from which `dns` answers, which stays
pub record Names : Type 0 where
  pub bound : List Bound
  pub heard : Option Heard
  pub zone : Tuples

-- what the first step of a script finds
abbrev pub no_names : Tuples → Names
no_names zone = record { bound = []; heard = None; zone = zone }

abbrev pub fid_among : List ℕ → List Bound → Option Fid
fid_among called [] = None
fid_among called (b ∷ bs) = if bytes_eq called b.called then Some b.fid else fid_among called bs

abbrev pub fid_of : List ℕ → Names → Option Fid
fid_of called names = fid_among called names.bound

abbrev pub is_among : List Bound → List ℕ → Bool
is_among bound called = list_any (λ (b : Bound). bytes_eq called b.called) bound

abbrev pub is_bound : Names → List ℕ → Bool
is_bound names called = is_among names.bound called

abbrev pub bind : List ℕ → Fid → Names → Names
bind called fid names = record names { bound = record { called = called; fid = fid } ∷ names.bound }

-- the other names
abbrev pub without : List ℕ → List Bound → List Bound
without called bound = filter (λ (b : Bound). not (bytes_eq called b.called)) bound

abbrev pub unbind : List ℕ → Names → Names
unbind called names = record names { bound = without called names.bound }

-- an `hread` was told this
abbrev pub hearing : Heard → Names → Names
hearing heard names = record names { heard = Some heard }

-- Plays.

-- what a step still does: it records an event and goes on by its reply, or it is finished and these names are bound
pub data Play : Type 0 where
  Asks : ActorName → Event → (Reply → Play) → Play
  Ends : Names → Play

-- the replies of events that aren't refused
abbrev pub is_accepted : Reply → Bool
is_accepted (reply.Slot n g) = true
is_accepted (reply.Granted pair start limit) = true
is_accepted (reply.Call n g) = true
is_accepted (reply.Opened g) = true
is_accepted reply.Ok = true
is_accepted reply.Left = true
is_accepted (reply.Version n) = true
is_accepted (reply.Bytes bytes) = true
is_accepted (reply.Count n) = true
is_accepted (reply.Lines lines) = true
is_accepted (reply.Names names) = true
is_accepted _ = false

-- with the reply, where the event isn't refused, and else another play
abbrev pub if_accepted : Reply → Play → Play → Play
if_accepted r next refused = if is_accepted r then next else refused

-- an event with which the step is finished, whatever the reply
abbrev pub ends_with : ActorName → Event → Names → Play
ends_with a e names = Asks a e (λ (r : Reply). Ends names)

-- the name isn't bound, or was to be bound and is bound already
abbrev pub uses : ℕ → List ℕ → Names → Play
uses h called names = ends_with (name.Desk h) (event.Use called) names

-- the name isn't open for that direction
abbrev pub misuses : ℕ → List ℕ → Names → Play
misuses h called names = ends_with (name.Desk h) (event.Misuse called) names

abbrev pub on_fid : Option Fid → Play → (Fid → Play) → Play
on_fid None otherwise next = otherwise
on_fid (Some f) otherwise next = next f

-- the play of a step over a name that must be bound
abbrev pub with_bound : ℕ → List ℕ → Names → (Fid → Play) → Play
with_bound h called names next = on_fid (fid_of called names) (uses h called names) next

-- the play of a step that binds a new name
abbrev pub with_new : ℕ → List ℕ → Names → Play → Play
with_new h called names next = if is_bound names called then uses h called names else next

abbrev pub with_readable : ℕ → List ℕ → Names → (Fid → Play) → Play
with_readable h called names next = with_bound h called names (λ (f : Fid). if mode_reads f.mode then next f else misuses h called names)

abbrev pub with_writable : ℕ → List ℕ → Names → (Fid → Play) → Play
with_writable h called names next = with_bound h called names (λ (f : Fid). if mode_writes f.mode then next f else misuses h called names)

-- Files.

abbrev pub conversation_of : ℕ → Fid → ActorName
conversation_of h f = name.Conv h f.proto f.slot

-- the mode of an open that names none
abbrev pub default_mode : Option Node → Mode
default_mode (Some (node.File p n f)) = if is_read_alone f then mode.Read else mode.Both
default_mode _ = mode.Both

-- what a path names, where that may be opened so
abbrev pub openable : Option Node → Mode → Option Node
openable None m = None
openable (Some n) m = if may_open n m then Some n else None

-- clone and listen are opened at the directory, the other files at their conversation; what may not be opened, at the desk
abbrev pub open_actor : ℕ → Option Node → ActorName
open_actor h (Some (node.Clone p)) = name.Dir h p
open_actor h (Some (node.File p n file.Listen)) = name.Dir h p
open_actor h (Some (node.File p n f)) = name.Conv h p n
open_actor h _ = name.Desk h

abbrev pub open_event : List ℕ → Mode → Option Node → Event
open_event path m (Some (node.Clone p)) = event.Reserve
open_event path m (Some (node.File p n file.Listen)) = event.Listen n
open_event path m (Some (node.File p n f)) = event.Open f m
open_event path m _ = event.OpenPath path m

-- clone gives the new ctl file, listen the ctl file of the call, and another file itself; none where the open is refused
abbrev pub opened_fid : Mode → Option Node → Reply → Option Fid
opened_fid m (Some (node.Clone p)) (reply.Slot n g) = Some (record { proto = p; slot = n; generation = g; file = file.Ctl; mode = m })
opened_fid m (Some (node.File p n f)) (reply.Call k g) = Some (record { proto = p; slot = k; generation = g; file = file.Ctl; mode = m })
opened_fid m (Some (node.File p n f)) (reply.Opened g) = Some (record { proto = p; slot = n; generation = g; file = f; mode = m })
opened_fid m _ _ = None

-- a node is opened, as its path is spelled
abbrev pub opens_node : ℕ → List ℕ → Mode → Option Node → Play → (Fid → Play) → Play
opens_node h path m n refused next = Asks (open_actor h n) (open_event path m n) (λ (r : Reply). on_fid (opened_fid m n r) refused next)

abbrev pub opens : ℕ → List ℕ → Mode → Play → (Fid → Play) → Play
opens h path m refused next = opens_node h path m (openable (walk path) m) refused next

-- another file of a conversation is opened to read and to write
abbrev pub opens_beside : ℕ → Fid → FileName → Play → (Fid → Play) → Play
opens_beside h f other refused next = opens_node h [] mode.Both (Some (node.File f.proto f.slot other)) refused next

abbrev pub read_event : Fid → ℕ → FileName → Event
read_event f count file.Data = event.Read f.generation count
read_event f count other = event.File f.generation other count

-- the event of a control word; `connect` is `grant` and then `await`
abbrev pub controls : ℕ → Fid → List ℕ → Result Ctl ℕ → Play → Play → Play
controls h f text (Ok (ctl.Connect remote lport)) refused next =
    Asks (name.Dir h f.proto) (event.Grant f.slot f.generation remote lport) (λ (granted : Reply).
    if_accepted granted (Asks (conversation_of h f) (event.Await f.generation) (λ (r : Reply). if_accepted r next refused)) refused)
controls h f text (Ok (ctl.Announce ip port)) refused next =
    Asks (name.Dir h f.proto) (event.Announce f.slot f.generation ip port) (λ (r : Reply). if_accepted r next refused)
controls h f text (Ok (ctl.Bind port)) refused next =
    Asks (name.Dir h f.proto) (event.Bind f.slot f.generation port) (λ (r : Reply). if_accepted r next refused)
controls h f text (Ok ctl.Hangup) refused next =
    Asks (conversation_of h f) (event.Hangup f.generation) (λ (r : Reply). if_accepted r next refused)
controls h f text (Ok (ctl.Ttl n)) refused next =
    Asks (conversation_of h f) (event.Ttl f.generation n) (λ (r : Reply). if_accepted r next refused)
controls h f text (Ok (ctl.Tos n)) refused next =
    Asks (conversation_of h f) (event.Tos f.generation n) (λ (r : Reply). if_accepted r next refused)
controls h f text (Err fault) refused next =
    Asks (conversation_of h f) (event.Ctl f.generation text) (λ (r : Reply). if_accepted r next refused)

-- a text is written to a data file, or to a ctl file
abbrev pub puts_text : ℕ → Fid → FileName → List ℕ → Play → Play → Play
puts_text h f file.Data text refused next =
    Asks (conversation_of h f) (event.Write f.generation text) (λ (r : Reply). if_accepted r next refused)
puts_text h f _ text refused next = controls h f text (control.read text) refused next

-- a file is closed
abbrev pub closes_fid : ℕ → Fid → Play → Play → Play
closes_fid h f refused next = Asks (conversation_of h f) (event.Close f.generation) (λ (r : Reply). if_accepted r next refused)

abbrev pub ls_actor : ℕ → Option Node → ActorName
ls_actor h (Some (node.Proto p)) = name.Dir h p
ls_actor h (Some (node.Dir p n)) = name.Conv h p n
ls_actor h _ = name.Desk h

abbrev pub ls_event : List ℕ → Option Node → Event
ls_event path (Some (node.Proto p)) = event.Ls
ls_event path (Some (node.Dir p n)) = event.Ls
ls_event path _ = event.LsPath path

-- Addresses.

-- an address with no `!` or one is completed by a net and a service
abbrev pub completed : ℕ → List ℕ → List ℕ → List ℕ → List ℕ
completed zero address net service = net ++ codes "!" ++ address ++ codes "!" ++ service
completed (suc zero) address net service = address ++ codes "!" ++ service
completed _ address net service = address

-- netmkaddr of dial(2)
abbrev pub netmkaddr : List ℕ → List ℕ → List ℕ → List ℕ
netmkaddr address net service = completed (count_by (λ (b : ℕ). b == 33) address) address net service

abbrev pub reply_lines : Reply → List (List ℕ)
reply_lines (reply.Lines lines) = lines
reply_lines _ = []

-- the event that asks for the lines of an address
abbrev pub asks_cs : ℕ → List ℕ → (List (List ℕ) → Play) → Play
asks_cs h address next =
    Asks (name.Desk h) (event.Cs (netmkaddr address (codes "net") (codes "9fs"))) (λ (r : Reply). next (reply_lines r))

abbrev pub is_blank : ℕ → Bool
is_blank b = b == control.blank

-- a line names a clone file, and after a blank an address
abbrev pub clone_path : List ℕ → List ℕ
clone_path line = before_first is_blank line

abbrev pub line_address : List ℕ → List ℕ
line_address line = after_first is_blank line

-- the name of the ctl file while a dial goes on
abbrev pub dotted_name : List ℕ → List ℕ
dotted_name called = codes "." ++ called

-- a file is closed, with which the step is finished, whatever the reply
abbrev pub closes_last : ℕ → Fid → Names → Play
closes_last h f names = ends_with (conversation_of h f) (event.Close f.generation) names

-- the data file of what was dialled is opened, and its ctl file closed, whatever the replies; a data file that is open is bound
abbrev pub connected : ℕ → List ℕ → Names → Fid → Play
connected h called names made = opens_beside h made file.Data (closes_last h made names) (λ (data_file : Fid). closes_last h made (bind called data_file names))

-- the lines are dialled in order, until one succeeds
abbrev pub dials : ℕ → List ℕ → Names → List (List ℕ) → Play
dials h called names [] = Ends names
dials h called names (line ∷ lines) =
    opens h (clone_path line) mode.Both (dials h called names lines) (λ (made : Fid).
    puts_text h made made.file (codes "connect " ++ line_address line) (closes_fid h made (Ends names) (dials h called names lines)) (connected h called names made))

-- the first line is announced
abbrev pub announces_line : ℕ → List ℕ → Names → List (List ℕ) → Play
announces_line h called names [] = Ends names
announces_line h called names (line ∷ lines) =
    opens h (clone_path line) mode.Both (Ends names) (λ (made : Fid).
    puts_text h made made.file (codes "announce " ++ line_address line) (closes_fid h made (Ends names) (Ends names)) (Ends (bind called made names)))

-- Calls of datagrams.

-- the names of a call while it is open: its data file and its ctl file, and for a while the files that tell its addresses
abbrev pub data_name : List ℕ
data_name = codes ".d"

abbrev pub call_name : List ℕ
call_name = codes ".c"

abbrev pub remote_name : List ℕ
remote_name = codes ".r"

abbrev pub local_name : List ℕ
local_name = codes ".l"

abbrev pub call_names : List (List ℕ)
call_names = data_name ∷ call_name ∷ remote_name ∷ local_name ∷ []

-- the first of these names that is bound
abbrev pub first_bound : List (List ℕ) → Names → Option (List ℕ)
first_bound [] names = None
first_bound (called ∷ others) names = if is_bound names called then Some called else first_bound others names

-- the name that an open call has bound, if one is open: that of its data file, since that is bound wherever another one is
abbrev pub taken_name : Names → Option (List ℕ)
taken_name names = first_bound call_names names

abbrev pub on_taken : Option (List ℕ) → (List ℕ → Play) → Play → Play
on_taken None used next = next
on_taken (Some called) used next = used called

-- these files are closed one after the other, whatever the replies
abbrev pub closes_all : ℕ → List Fid → Play → Play
closes_all h [] next = next
closes_all h (f ∷ fs) next = Asks (conversation_of h f) (event.Close f.generation) (λ (r : Reply). closes_all h fs next)

abbrev pub bytes_in : Reply → List ℕ
bytes_in (reply.Bytes bytes) = bytes
bytes_in _ = []

abbrev pub place_in : List (List ℕ) → Option Addr
place_in (ip ∷ port ∷ []) =
    option_and_then (λ (n : ℕ). option_map (λ (m : ℕ). record { ip = n; port = m }) (number_in 0 65535 port)) (address_in ip)
place_in _ = None

-- the address A!PORT that a file tells, or 0.0.0.0!0 where it tells none
abbrev pub address_told : List ℕ → Addr
address_told text = unwrap_or (place_in (parts_at 33 (control.without_newline text))) nowhere

-- a file of a call is opened, read and closed, and tells an address; where that is refused, it is closed, and the others are
abbrev pub tells_address : ℕ → Fid → FileName → List Fid → Play → (Addr → Play) → Play
tells_address h call told others refused next =
    opens_node h [] mode.Read (Some (node.File call.proto call.slot told)) (closes_all h others refused) (λ (f : Fid).
    Asks (conversation_of h f) (event.File f.generation told 64) (λ (r : Reply).
    if_accepted r (closes_fid h f (closes_all h others refused) (next (address_told (bytes_in r)))) (closes_all h (f ∷ others) refused)))

-- a call is taken where a conversation listens: its ctl file and its data file are opened, and it is read who called, and whom
abbrev pub takes_call : ℕ → Fid → Play → (Fid → Fid → Addr → Addr → Play) → Play
takes_call h f refused next =
    opens_beside h f file.Listen refused (λ (call : Fid).
    opens_beside h call file.Data (closes_all h (call ∷ []) refused) (λ (data_file : Fid).
    tells_address h call file.Remote (data_file ∷ call ∷ []) refused (λ (remote : Addr).
    tells_address h call file.Local (data_file ∷ call ∷ []) refused (λ (local : Addr). next call data_file remote local))))

-- a call is taken by the name of a file of that conversation, where no call is open
abbrev pub with_call : ℕ → List ℕ → Names → (Fid → Fid → Addr → Addr → Play) → Play
with_call h called names next =
    on_taken (taken_name names) (λ (used : List ℕ). uses h used names)
    (with_bound h called names (λ (f : Fid). takes_call h f (Ends names) next))

-- a call's first datagram is read, and the call stays open
abbrev pub hears_call : ℕ → Names → ℕ → Fid → Fid → Heard → Play
hears_call h names count call data_file heard =
    Asks (conversation_of h data_file) (event.Read data_file.generation count) (λ (r : Reply).
    if_accepted r (Ends (bind data_name data_file (bind call_name call (hearing heard names))))
    (closes_all h (data_file ∷ call ∷ []) (Ends (hearing heard names))))

-- the last `hread` heard a call on this name
abbrev pub was_on : List ℕ → Option Heard → Bool
was_on called None = false
was_on called (Some heard) = bytes_eq called heard.name

-- these headers are of the datagram that was heard; the interface isn't compared
abbrev pub are_of_heard : Headers → Option Heard → Bool
are_of_heard headers None = false
are_of_heard headers (Some heard) = same_addr headers.remote heard.remote && same_addr headers.local heard.local

-- the bytes are such headers, and a text
abbrev pub is_answer : List ℕ → Option Heard → Bool
is_answer bytes heard = has_headers bytes && are_of_heard (headers_of bytes) heard

abbrev pub is_data : FileName → Bool
is_data file.Data = true
is_data _ = false

abbrev pub is_both : Mode → Bool
is_both mode.Both = true
is_both _ = false

abbrev pub if_call : Fid → Option Fid
if_call f = if is_data f.file && is_both f.mode then Some f else None

-- the data file of the open call that an `hread` heard on this name
abbrev pub open_call : List ℕ → Names → Option Fid
open_call called names = if was_on called names.heard then option_and_then if_call (fid_of data_name names) else None

-- a file is closed by its name, with which the step is finished
abbrev pub closes_name : ℕ → List ℕ → Names → Play
closes_name h called names = with_bound h called names (λ (f : Fid). ends_with (conversation_of h f) (event.Close f.generation) (unbind called names))

-- a call is answered and closed, whatever the replies
abbrev pub answers : ℕ → Names → List ℕ → Fid → Play
answers h names text data_file =
    Asks (conversation_of h data_file) (event.Write data_file.generation text) (λ (written : Reply).
    Asks (conversation_of h data_file) (event.Close data_file.generation) (λ (closed : Reply).
    closes_name h call_name (unbind data_name names)))

-- a call is closed
abbrev pub leaves_call : ℕ → Fid → Fid → Play → Play → Play
leaves_call h call data_file refused next = closes_fid h data_file (closes_all h (call ∷ []) refused) (closes_fid h call refused next)

-- a call is answered, where there is an answer, and closed
abbrev pub answers_call : ℕ → Fid → Fid → Option (List ℕ) → Play → Play → Play
answers_call h call data_file None refused next = leaves_call h call data_file refused next
answers_call h call data_file (Some text) refused next =
    Asks (conversation_of h data_file) (event.Write data_file.generation text) (λ (r : Reply).
    if_accepted r (leaves_call h call data_file refused next) (closes_all h (data_file ∷ call ∷ []) refused))

-- a call is taken, and what is asked in it is answered from the database
abbrev pub serves_call : ℕ → List ℕ → Names → Play → Play
serves_call h called names next =
    with_call h called names (λ (call data_file : Fid) (remote local : Addr).
    Asks (conversation_of h data_file) (event.Read data_file.generation 8192) (λ (r : Reply).
    if_accepted r (answers_call h call data_file (dns_answer names.zone (bytes_in r)) (Ends names) next)
    (closes_all h (data_file ∷ call ∷ []) (Ends names))))

-- one call is served, and then so many more
abbrev pub serves : ℕ → List ℕ → Names → ℕ → Play
serves h called names zero = serves_call h called names (Ends names)
serves h called names (suc more) = serves_call h called names (serves h called names more)

-- The steps.

-- the play of a step of a host's script, where these names are bound; the steps that need more have theirs in Scripts
abbrev pub play_of : ℕ → Names → Step → Play
play_of h names (step.Open called path m) =
    with_new h called names (opens h path (unwrap_or m (default_mode (walk path))) (Ends names) (λ (f : Fid). Ends (bind called f names)))
play_of h names (step.Read called count) = with_readable h called names (λ (f : Fid). ends_with (conversation_of h f) (read_event f count f.file) names)
play_of h names (step.Write called text) = with_writable h called names (λ (f : Fid). puts_text h f f.file text (Ends names) (Ends names))
play_of h names (step.Writex called text) = with_writable h called names (λ (f : Fid). puts_text h f f.file text (Ends names) (Ends names))
play_of h names (step.Close called) = closes_name h called names
play_of h names (step.Ls path) = ends_with (ls_actor h (walk path)) (ls_event path (walk path)) names
play_of h names (step.Cs query) = ends_with (name.Desk h) (event.Cs query) names
play_of h names (step.Until moment) = ends_with (name.Desk h) (event.Until moment) names
play_of h names step.Refresh = ends_with (name.Desk h) event.Refresh names
play_of h names (step.Dial called address) =
    with_new h called names (with_new h (dotted_name called) names (asks_cs h address (dials h called names)))
play_of h names (step.Announce called address) = with_new h called names (asks_cs h address (announces_line h called names))
play_of h names (step.Listen called from) =
    with_bound h from names (λ (f : Fid). with_new h called names
    (opens_beside h f file.Listen (Ends names) (λ (call : Fid). Ends (bind called call names))))
play_of h names (step.Accept called from) =
    with_bound h from names (λ (f : Fid). with_new h called names
    (opens_beside h f file.Data (Ends names) (λ (data_file : Fid). Ends (bind called data_file names))))
play_of h names (step.Reject called) =
    with_writable h called names (λ (f : Fid). puts_text h f f.file (codes "hangup") (Ends names) (ends_with (conversation_of h f) (event.Close f.generation) (unbind called names)))
play_of h names (step.Hangup called) = with_writable h called names (λ (f : Fid). puts_text h f f.file (codes "hangup") (Ends names) (Ends names))
play_of h names (step.Hread called count) =
    with_call h called names (λ (call data_file : Fid) (remote local : Addr).
    hears_call h names count call data_file (record { name = called; remote = remote; local = local }))
play_of h names (step.Hwrite called bytes) =
    on_fid (open_call called names) (uses h data_name names) (λ (data_file : Fid).
    if is_answer bytes names.heard then answers h names (text_behind bytes) data_file else misuses h data_name names)
play_of h names (step.Dns called times) = serves h called names (times - 1)
play_of h names _ = Ends names

-- Scripts.

-- an event at an actor
pub record Ask : Type 0 where
  pub actor : ActorName
  pub event : Event

-- where a play stands after some replies
pub data Stand : Type 0 where
  Asking : Ask → Stand
  -- these names are bound, and these replies belong to later steps
  Finished : Names → List Reply → Stand

abbrev pub stands : Play → List Reply → Stand
stands (Ends names) rs = Finished names rs
stands (Asks a e next) [] = Asking (record { actor = a; event = e })
stands (Asks a e next) (r ∷ rs) = stands (next r) rs

-- where a script stands: the event that it records next, and the steps that aren't finished
pub record Position : Type 0 where
  pub next : Option Ask
  pub left : List Step

abbrev pub position_by : Stand → List Step → (Names → List Reply → Position) → Position
position_by (Asking ask) steps go_on = record { next = Some ask; left = steps }
position_by (Finished names rs) steps go_on = go_on names rs
