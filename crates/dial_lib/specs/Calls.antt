-- A call of a datagram: its phases, what is asked for in them, and the plays that they stand for.
use Rattle.std.specs.Prelude.{◌≡◌, ℕ, ◌<◌, false, List, [], ◌∷◌, Option, Some, None, if◌then◌else◌, Bool}
use Rattle.net_base.specs.declared.address.Addr.{Addr}
use Rattle.net_base.specs.declared.address.Proto.{Proto}
use Rattle.net_base.specs.declared.event.Event.TheVariants as event
use Rattle.net_base.specs.declared.names.FileName.{FileName}
use Rattle.net_base.specs.declared.names.FileName.TheVariants as file
use Rattle.net_base.specs.declared.names.Mode.{Mode}
use Rattle.net_base.specs.declared.names.Mode.TheVariants as mode
use Rattle.net_base.specs.declared.reply.Reply.{Reply}
use Rattle.net_base.specs.Steps.{Names, Fid, Play, Asks, Ends, fid_of, is_bound, bind, is_accepted, if_accepted, conversation_of, opens_beside, closes_fid as closes_file, data_name, call_name, remote_name, local_name, taken_name, closes_all, bytes_in, address_told, tells_address, with_call}
use Rattle.dial_lib.specs.declared.call.CallPhase.{CallPhase}
use Rattle.dial_lib.specs.declared.call.CallPhase.TheVariants as phase
use Rattle.dial_lib.specs.Beside.{opens_so}
use Rattle.dial_lib.specs.Slots.{HaveSlots}
use Rattle.net_base.specs.declared.request.Request.{Request}
use Rattle.net_base.specs.declared.request.Request.TheVariants as request
use Rattle.script_task.specs.Fitting.{is_opening}

-- Requests.

abbrev pub begins_at_call : List ℕ → Option Fid → Request
begins_at_call called None = request.Unbound called
begins_at_call called (Some f) = opens_so call_name f file.Listen mode.Both

abbrev pub begins_by : List ℕ → Names → Option (List ℕ) → Request
begins_by called names (Some used) = request.Unbound used
begins_by called names None = begins_at_call called (fid_of called names)

-- a call is taken at the conversation of the name, where none is open
abbrev pub begins : List ℕ → Names → Request
begins called names = begins_by called names (taken_name names)

-- a file of the call is opened
abbrev pub opens_call_file : List ℕ → FileName → Mode → Option Fid → Request
opens_call_file called to m None = request.Unbound call_name
opens_call_file called to m (Some f) = opens_so called f to m

abbrev pub tells_call : List ℕ → Request
tells_call called = request.Read called 64

abbrev pub closes_call : List ℕ → Request
closes_call called = request.Close called

-- what is asked for in a phase, where a read and an answer ask for this
abbrev pub asks_by : CallPhase → List ℕ → Option Request → Names → Option Request
asks_by phase.Fresh called own names = Some (begins called names)
asks_by phase.Data called own names = Some (opens_call_file data_name file.Data mode.Both (fid_of call_name names))
asks_by phase.Remote called own names = Some (opens_call_file remote_name file.Remote mode.Read (fid_of call_name names))
asks_by phase.TellRemote called own names = Some (tells_call remote_name)
asks_by phase.CloseRemote called own names = Some (closes_call remote_name)
asks_by phase.Local called own names = Some (opens_call_file local_name file.Local mode.Read (fid_of call_name names))
asks_by phase.TellLocal called own names = Some (tells_call local_name)
asks_by phase.CloseLocal called own names = Some (closes_call local_name)
asks_by phase.Read called own names = own
asks_by phase.Answer called own names = own
asks_by phase.LeaveData called own names = Some (closes_call data_name)
asks_by phase.LeaveCall called own names = Some (closes_call call_name)
asks_by phase.ShutRemote called own names = Some (closes_call remote_name)
asks_by phase.ShutLocal called own names = Some (closes_call local_name)
asks_by phase.ShutData called own names = Some (closes_call data_name)
asks_by phase.ShutCall called own names = Some (closes_call call_name)
asks_by phase.Through called own names = None

-- the file that is closed in a phase, in those that close one
abbrev pub closes_by : CallPhase → Option Request
closes_by phase.CloseRemote = Some (closes_call remote_name)
closes_by phase.CloseLocal = Some (closes_call local_name)
closes_by phase.LeaveData = Some (closes_call data_name)
closes_by phase.LeaveCall = Some (closes_call call_name)
closes_by phase.ShutRemote = Some (closes_call remote_name)
closes_by phase.ShutLocal = Some (closes_call local_name)
closes_by phase.ShutData = Some (closes_call data_name)
closes_by phase.ShutCall = Some (closes_call call_name)
closes_by _ = None

-- Phases.

abbrev pub if_so : Bool → CallPhase → CallPhase → CallPhase
if_so b is is_not = if b then is else is_not

-- where something is refused, what is open is closed; a phase follows a read
abbrev pub phase_after : CallPhase → CallPhase → Reply → CallPhase
phase_after phase.Fresh follows r = if_so (is_opening r) phase.Data phase.Through
phase_after phase.Data follows r = if_so (is_opening r) phase.Remote phase.ShutCall
phase_after phase.Remote follows r = if_so (is_opening r) phase.TellRemote phase.ShutData
phase_after phase.TellRemote follows r = if_so (is_accepted r) phase.CloseRemote phase.ShutRemote
phase_after phase.CloseRemote follows r = if_so (is_accepted r) phase.Local phase.ShutData
phase_after phase.Local follows r = if_so (is_opening r) phase.TellLocal phase.ShutData
phase_after phase.TellLocal follows r = if_so (is_accepted r) phase.CloseLocal phase.ShutLocal
phase_after phase.CloseLocal follows r = if_so (is_accepted r) phase.Read phase.ShutData
phase_after phase.Read follows r = if_so (is_accepted r) follows phase.ShutData
phase_after phase.Answer follows r = if_so (is_accepted r) phase.LeaveData phase.ShutData
phase_after phase.LeaveData follows r = if_so (is_accepted r) phase.LeaveCall phase.ShutCall
phase_after phase.LeaveCall follows r = phase.Through
phase_after phase.ShutRemote follows r = phase.ShutData
phase_after phase.ShutLocal follows r = phase.ShutData
phase_after phase.ShutData follows r = phase.ShutCall
phase_after phase.ShutCall follows r = phase.Through
phase_after phase.Through follows r = phase.Through

-- who called, and whom, as far as it was told
abbrev pub remote_after : CallPhase → Reply → Addr → Addr
remote_after phase.TellRemote r remote = address_told (bytes_in r)
remote_after _ r remote = remote

abbrev pub local_after : CallPhase → Reply → Addr → Addr
local_after phase.TellLocal r local = address_told (bytes_in r)
local_after _ r local = local

-- Files of a call.

abbrev pub call_fid : Proto → ℕ → ℕ → Fid
call_fid p n g = record { proto = p; slot = n; generation = g; file = file.Ctl; mode = mode.Both }

abbrev pub data_fid : Proto → ℕ → ℕ → Fid
data_fid p n k = record { proto = p; slot = n; generation = k; file = file.Data; mode = mode.Both }

abbrev pub told_fid : Proto → ℕ → ℕ → FileName → Fid
told_fid p n j to = record { proto = p; slot = n; generation = j; file = to; mode = mode.Read }

-- the names where the ctl file of a call is open
abbrev pub taken_names : Names → Proto → ℕ → ℕ → Names
taken_names base p n g = bind call_name (call_fid p n g) base

-- .. and its data file
abbrev pub open_names : Names → Proto → ℕ → ℕ → ℕ → Names
open_names base p n g k = bind data_name (data_fid p n k) (taken_names base p n g)

-- none of the names of a call is bound, and the others are so to files of slots that there are
pub record AreFree (base : Names) : Type 0 where
  pub slots : HaveSlots base
  pub data_free : is_bound base data_name ≡ false
  pub call_free : is_bound base call_name ≡ false
  pub remote_free : is_bound base remote_name ≡ false
  pub local_free : is_bound base local_name ≡ false

-- Plays.

-- what follows a call that is open, by the names before it, its files, and who called whom
abbrev pub Next : Type 0
Next = Names → Fid → Fid → Addr → Addr → Play

abbrev pub shuts_call : ℕ → Names → Proto → ℕ → ℕ → Play
shuts_call h base p n g = closes_all h (call_fid p n g ∷ []) (Ends base)

abbrev pub shuts_data : ℕ → Names → Proto → ℕ → ℕ → ℕ → Play
shuts_data h base p n g k = closes_all h (data_fid p n k ∷ call_fid p n g ∷ []) (Ends base)

abbrev pub shuts_told : ℕ → Names → Proto → ℕ → ℕ → ℕ → ℕ → FileName → Play
shuts_told h base p n g k j to = closes_all h (told_fid p n j to ∷ data_fid p n k ∷ call_fid p n g ∷ []) (Ends base)

abbrev pub local_play : ℕ → Next → Names → Proto → ℕ → ℕ → ℕ → Addr → Play
local_play h next base p n g k remote =
    tells_address h (call_fid p n g) file.Local (data_fid p n k ∷ call_fid p n g ∷ []) (Ends base) (λ (local : Addr). next base (call_fid p n g) (data_fid p n k) remote local)

abbrev pub remote_play : ℕ → Next → Names → Proto → ℕ → ℕ → ℕ → Play
remote_play h next base p n g k =
    tells_address h (call_fid p n g) file.Remote (data_fid p n k ∷ call_fid p n g ∷ []) (Ends base) (λ (remote : Addr). local_play h next base p n g k remote)

-- the ctl file of a call is open, and its data file
abbrev pub opened_play : ℕ → Next → Names → Fid → Fid → Play
opened_play h next base call data_file =
    tells_address h call file.Remote (data_file ∷ call ∷ []) (Ends base) (λ (remote : Addr).
    tells_address h call file.Local (data_file ∷ call ∷ []) (Ends base) (λ (local : Addr). next base call data_file remote local))

abbrev pub call_play : ℕ → Next → Names → Fid → Play
call_play h next base call = opens_beside h call file.Data (closes_all h (call ∷ []) (Ends base)) (λ (data_file : Fid). opened_play h next base call data_file)

abbrev pub data_play : ℕ → Next → Names → Proto → ℕ → ℕ → Play
data_play h next base p n g = call_play h next base (call_fid p n g)

-- a file that tells an address is open, and is read
abbrev pub call_told_by : ℕ → Names → Proto → ℕ → ℕ → ℕ → FileName → (Addr → Play) → Fid → Play
call_told_by h base p n g k to next f =
    Asks (conversation_of h f) (event.File f.generation to 64) (λ (r : Reply).
    if_accepted r (closes_file h f (shuts_data h base p n g k) (next (address_told (bytes_in r)))) (closes_all h (f ∷ data_fid p n k ∷ call_fid p n g ∷ []) (Ends base)))

abbrev pub telling : ℕ → Names → Proto → ℕ → ℕ → ℕ → ℕ → FileName → (Addr → Play) → Play
telling h base p n g k j to next = call_told_by h base p n g k to next (told_fid p n j to)

abbrev pub told_call : ℕ → Names → Proto → ℕ → ℕ → ℕ → ℕ → FileName → Play → Play
told_call h base p n g k j to next = closes_file h (told_fid p n j to) (shuts_data h base p n g k) next

-- the play that a phase stands for under names
pub data TakesCall (h : ℕ) (called : List ℕ) (next : Next) : Names → CallPhase → Addr → Addr → Play → Type 0 where
  IsFresh : (names : Names) (remote local : Addr) → HaveSlots names
      → TakesCall h called next names phase.Fresh remote local (with_call h called names (next names))
  IsData : (base : Names) (p : Proto) (n g : ℕ) (remote local : Addr) → AreFree base → n < 32
      → TakesCall h called next (taken_names base p n g) phase.Data remote local (data_play h next base p n g)
  IsRemote : (base : Names) (p : Proto) (n g k : ℕ) (remote local : Addr) → AreFree base → n < 32
      → TakesCall h called next (open_names base p n g k) phase.Remote remote local (remote_play h next base p n g k)
  IsTellRemote : (base : Names) (p : Proto) (n g k j : ℕ) (remote local : Addr) → AreFree base → n < 32
      → TakesCall h called next (bind remote_name (told_fid p n j file.Remote) (open_names base p n g k)) phase.TellRemote remote local
      (telling h base p n g k j file.Remote (λ (a : Addr). local_play h next base p n g k a))
  IsCloseRemote : (base : Names) (p : Proto) (n g k j : ℕ) (remote local : Addr) → AreFree base → n < 32
      → TakesCall h called next (bind remote_name (told_fid p n j file.Remote) (open_names base p n g k)) phase.CloseRemote remote local
      (told_call h base p n g k j file.Remote (local_play h next base p n g k remote))
  IsLocal : (base : Names) (p : Proto) (n g k : ℕ) (remote local : Addr) → AreFree base → n < 32
      → TakesCall h called next (open_names base p n g k) phase.Local remote local (local_play h next base p n g k remote)
  IsTellLocal : (base : Names) (p : Proto) (n g k j : ℕ) (remote local : Addr) → AreFree base
      → TakesCall h called next (bind local_name (told_fid p n j file.Local) (open_names base p n g k)) phase.TellLocal remote local
      (telling h base p n g k j file.Local (λ (a : Addr). next base (call_fid p n g) (data_fid p n k) remote a))
  IsCloseLocal : (base : Names) (p : Proto) (n g k j : ℕ) (remote local : Addr) → AreFree base
      → TakesCall h called next (bind local_name (told_fid p n j file.Local) (open_names base p n g k)) phase.CloseLocal remote local
      (told_call h base p n g k j file.Local (next base (call_fid p n g) (data_fid p n k) remote local))
  IsRead : (base : Names) (p : Proto) (n g k : ℕ) (remote local : Addr) → AreFree base
      → TakesCall h called next (open_names base p n g k) phase.Read remote local (next base (call_fid p n g) (data_fid p n k) remote local)
  IsShutRemote : (base : Names) (p : Proto) (n g k j : ℕ) (remote local : Addr) → AreFree base
      → TakesCall h called next (bind remote_name (told_fid p n j file.Remote) (open_names base p n g k)) phase.ShutRemote remote local (shuts_told h base p n g k j file.Remote)
  IsShutLocal : (base : Names) (p : Proto) (n g k j : ℕ) (remote local : Addr) → AreFree base
      → TakesCall h called next (bind local_name (told_fid p n j file.Local) (open_names base p n g k)) phase.ShutLocal remote local (shuts_told h base p n g k j file.Local)
  IsShutData : (base : Names) (p : Proto) (n g k : ℕ) (remote local : Addr) → AreFree base
      → TakesCall h called next (open_names base p n g k) phase.ShutData remote local (shuts_data h base p n g k)
  IsShutCall : (base : Names) (p : Proto) (n g : ℕ) (remote local : Addr) → AreFree base
      → TakesCall h called next (taken_names base p n g) phase.ShutCall remote local (shuts_call h base p n g)
  IsThrough : (names : Names) (remote local : Addr) → TakesCall h called next names phase.Through remote local (Ends names)
