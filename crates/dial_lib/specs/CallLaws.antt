-- A call asks and moves as its play does.
use Rattle.std.proofs.Common.{◌≡◌, ℕ, ◌<◌, Bool, true, false, List, [], Option, Some, None, if◌then◌else◌, refl, sym, subst, rules}
use Rattle.std.proofs.lemmas.Option.{none-some}
use Rattle.std.proofs.lemmas.Bool.{not-true}
use Rattle.net_base.specs.declared.address.Addr.{Addr}
use Rattle.net_base.specs.declared.address.Proto.{Proto}
use Rattle.net_base.specs.declared.names.FileName.{FileName}
use Rattle.net_base.specs.declared.names.FileName.TheVariants as file
use Rattle.net_base.specs.declared.names.Mode.{Mode}
use Rattle.net_base.specs.declared.names.Mode.TheVariants as mode
use Rattle.net_base.specs.declared.names.Node.TheVariants as node
use Rattle.net_base.specs.declared.reply.Reply.{Reply}
use Rattle.net_base.specs.declared.reply.Reply.TheVariants as reply
use Rattle.net_base.specs.Paths.{walk, path_of, is_read_alone}
use Rattle.net_base.specs.Steps.{Names, Fid, Play, Ends, fid_of, is_bound, bind, unbind, uses, on_fid, opened_fid, openable, opens_node, data_name, call_name, remote_name, local_name, taken_name, on_taken, takes_call}
use Rattle.dial_lib.specs.declared.call.CallPhase.{CallPhase}
use Rattle.dial_lib.specs.declared.call.CallPhase.TheVariants as phase
use Rattle.dial_lib.specs.AnnounceLaws.{front_left}
use Rattle.dial_lib.specs.Beside.{opens_so}
use Rattle.dial_lib.specs.BesideLaws.{opens_head, opens_settle}
use Rattle.dial_lib.specs.Calls.{Next, TakesCall, IsFresh, IsData, IsRemote, IsTellRemote, IsCloseRemote, IsLocal, IsTellLocal, IsCloseLocal, IsRead, IsShutRemote, IsShutLocal, IsShutData, IsShutCall, IsThrough, AreFree, begins_at_call, begins_by, asks_by, if_so, call_fid, data_fid, told_fid, taken_names, open_names, local_play, remote_play, data_play, call_play, opened_play, call_told_by, told_call, shuts_call, shuts_data, shuts_told}
use Rattle.dial_lib.specs.FilePaths.{file_walked}
use Rattle.dial_lib.specs.Names.{below, bound_slot}
use Rattle.dial_lib.specs.Openings.{unopened_shut}
use Rattle.dial_lib.specs.Slots.{HaveSlots}
use Rattle.net_base.specs.declared.request.Request.{Request}
use Rattle.script_task.specs.Fitting.{fits_listen, fits_open, is_opening}
use Rattle.net_base.specs.Requests.{settled, bound_after}
use Rattle.script_task.specs.Task.{Heads, follow, fits_play}

-- What an open gives.

pub data GaveCall (p : Proto) (o : Option Fid) (r : Reply) : Type 0 where
  CallOpens : (n g : ℕ) → o ≡ Some (call_fid p n g) → n < 32 → is_opening r ≡ true → GaveCall p o r
  CallRefused : o ≡ None → is_opening r ≡ false → GaveCall p o r

gave_call : (p : Proto) (n : ℕ) (r : Reply) → fits_listen r ≡ true → GaveCall p (opened_fid mode.Both (Some (node.File p n file.Listen)) r) r
gave_call p n (reply.Call k g) fit = CallOpens k g refl (below k fit) refl
gave_call p n (reply.Opened g) fit = absurd (search (rules, fit))
gave_call p n r fit = CallRefused refl (not-true (is_opening r) fit)

pub data GaveFile (m : Mode) (p : Proto) (n : ℕ) (to : FileName) (o : Option Fid) (r : Reply) : Type 0 where
  FileOpens : (k : ℕ) → o ≡ Some (record { proto = p; slot = n; generation = k; file = to; mode = m }) → is_opening r ≡ true → GaveFile m p n to o r
  FileRefused : o ≡ None → is_opening r ≡ false → GaveFile m p n to o r

gave_file : (m : Mode) (p : Proto) (n : ℕ) (to : FileName) (r : Reply) → fits_open r ≡ true → GaveFile m p n to (opened_fid m (Some (node.File p n to)) r) r
gave_file m p n to (reply.Opened k) fit = FileOpens k refl refl
gave_file m p n to (reply.Call k g) fit = absurd (search (rules, fit))
gave_file m p n to r fit = FileRefused refl (not-true (is_opening r) fit)

-- A file that tells an address.

told_path : (p : Proto) (n : ℕ) (to : FileName) → n < 32 → is_read_alone to ≡ true → openable (walk (path_of (node.File p n to))) mode.Read ≡ Some (node.File p n to)
told_path p n to low alone = rw (file_walked p n to low, alone) refl

told_head : (h : ℕ) (names : Names) (called : List ℕ) (p : Proto) (n g : ℕ) (to : FileName) (refused : Play) (next : Fid → Play) → is_bound names called ≡ false → n < 32 → is_read_alone to ≡ true
    → Heads h names (Some (opens_so called (call_fid p n g) to mode.Read)) (opens_node h [] mode.Read (Some (node.File p n to)) refused next)
told_head h names called p n g file.Remote refused next free low alone = (_, refl, rw (free, file_walked p n file.Remote low) refl)
told_head h names called p n g file.Local refused next free low alone = (_, refl, rw (free, file_walked p n file.Local low) refl)
told_head h names called p n g file.Err refused next free low alone = (_, refl, rw (free, file_walked p n file.Err low) refl)
told_head h names called p n g file.Status refused next free low alone = (_, refl, rw (free, file_walked p n file.Status low) refl)
told_head h names called p n g file.Ctl refused next free low alone = absurd (search (rules, alone))
told_head h names called p n g file.Data refused next free low alone = absurd (search (rules, alone))
told_head h names called p n g file.Listen refused next free low alone = absurd (search (rules, alone))

told_settle : (names : Names) (called : List ℕ) (p : Proto) (n g : ℕ) (to : FileName) (r : Reply) → is_bound names called ≡ false → n < 32 → is_read_alone to ≡ true
    → settled names (opens_so called (call_fid p n g) to mode.Read) r ≡ bound_after called names (opened_fid mode.Read (Some (node.File p n to)) r)
told_settle names called p n g to r free low alone = rw (free, told_path p n to low alone) refl

-- No call is open.

free_of : (names : Names) (a b c d : Bool) → HaveSlots names → is_bound names data_name ≡ a → is_bound names call_name ≡ b → is_bound names remote_name ≡ c → is_bound names local_name ≡ d
    → (if a then Some data_name else (if b then Some call_name else (if c then Some remote_name else (if d then Some local_name else None)))) ≡ None → AreFree names
free_of names true b c d slots ea eb ec ed is = absurd (none-some data_name (sym is))
free_of names false true c d slots ea eb ec ed is = absurd (none-some call_name (sym is))
free_of names false false true d slots ea eb ec ed is = absurd (none-some remote_name (sym is))
free_of names false false false true slots ea eb ec ed is = absurd (none-some local_name (sym is))
free_of names false false false false slots ea eb ec ed is = record { slots = slots; data_free = ea; call_free = eb; remote_free = ec; local_free = ed }

all_free : (names : Names) → HaveSlots names → taken_name names ≡ None → AreFree names
all_free names slots is = free_of names _ _ _ _ slots refl refl refl refl is

-- Names that are unbound again.

without_told : (called : List ℕ) (f : Fid) (base : Names) → is_bound base called ≡ false → unbind called (bind called f base) ≡ base
without_told called f base free = front_left called base (bind called f base) f free refl

pub data_left : (base : Names) (p : Proto) (n g k : ℕ) → AreFree base → unbind data_name (open_names base p n g k) ≡ taken_names base p n g
data_left base p n g k free = without_told data_name (data_fid p n k) (taken_names base p n g) free.data_free

pub call_left : (base : Names) (p : Proto) (n g : ℕ) → AreFree base → unbind call_name (taken_names base p n g) ≡ base
call_left base p n g free = without_told call_name (call_fid p n g) base free.call_free

module _ (h : ℕ) (called : List ℕ) (next : Next) where
  -- Requests.

  heads_at : (names : Names) (o : Option Fid) → fid_of called names ≡ o → AreFree names
      → Heads h names (Some (begins_at_call called o)) (on_fid o (uses h called names) (λ (f : Fid). takes_call h f (Ends names) (next names)))
  heads_at names None is free = (_, refl, refl)
  heads_at names (Some f) is free = opens_head h names call_name f file.Listen (Ends names) (call_play h next names) free.call_free (bound_slot called names f free.slots is) refl

  heads_fresh : (names : Names) (o : Option (List ℕ)) → taken_name names ≡ o → HaveSlots names
      → Heads h names (Some (begins_by called names o))
      (on_taken o (λ (used : List ℕ). uses h used names) (on_fid (fid_of called names) (uses h called names) (λ (f : Fid). takes_call h f (Ends names) (next names))))
  heads_fresh names (Some used) is slots = (_, refl, refl)
  heads_fresh names None is slots = heads_at names (fid_of called names) refl (all_free names slots is)

  -- a call asks for what its play records, where its read does
  pub call_heads : (own : Addr → Addr → Option Request)
      → ((base : Names) (p : Proto) (n g k : ℕ) (remote local : Addr) → Heads h (open_names base p n g k) (own remote local) (next base (call_fid p n g) (data_fid p n k) remote local))
      → (names : Names) (ph : CallPhase) (remote local : Addr) (p : Play) → TakesCall h called next names ph remote local p → Heads h names (asks_by ph called (own remote local) names) p
  call_heads own reads _ _ _ _ _ (IsFresh names remote local slots) = heads_fresh names (taken_name names) refl slots
  call_heads own reads _ _ _ _ _ (IsData base p n g remote local free low) =
      opens_head h (taken_names base p n g) data_name (call_fid p n g) file.Data (shuts_call h base p n g) (opened_play h next base (call_fid p n g)) free.data_free low refl
  call_heads own reads _ _ _ _ _ (IsRemote base p n g k remote local free low) =
      told_head h (open_names base p n g k) remote_name p n g file.Remote (shuts_data h base p n g k)
      (call_told_by h base p n g k file.Remote (λ (a : Addr). local_play h next base p n g k a)) free.remote_free low refl
  call_heads own reads _ _ _ _ _ (IsTellRemote base p n g k j remote local free low) = (_, refl, refl)
  call_heads own reads _ _ _ _ _ (IsCloseRemote base p n g k j remote local free low) = (_, refl, refl)
  call_heads own reads _ _ _ _ _ (IsLocal base p n g k remote local free low) =
      told_head h (open_names base p n g k) local_name p n g file.Local (shuts_data h base p n g k)
      (call_told_by h base p n g k file.Local (λ (a : Addr). next base (call_fid p n g) (data_fid p n k) remote a)) free.local_free low refl
  call_heads own reads _ _ _ _ _ (IsTellLocal base p n g k j remote local free) = (_, refl, refl)
  call_heads own reads _ _ _ _ _ (IsCloseLocal base p n g k j remote local free) = (_, refl, refl)
  call_heads own reads _ _ _ _ _ (IsRead base p n g k remote local free) = reads base p n g k remote local
  call_heads own reads _ _ _ _ _ (IsShutRemote base p n g k j remote local free) = (_, refl, refl)
  call_heads own reads _ _ _ _ _ (IsShutLocal base p n g k j remote local free) = (_, refl, refl)
  call_heads own reads _ _ _ _ _ (IsShutData base p n g k remote local free) = (_, refl, refl)
  call_heads own reads _ _ _ _ _ (IsShutCall base p n g remote local free) = (_, refl, refl)
  call_heads own reads _ _ _ _ _ (IsThrough names remote local) = refl

  -- Replies.

  made_call : (names : Names) (remote local : Addr) (p : Proto) (o : Option Fid) (r : Reply) → AreFree names → GaveCall p o r
      → TakesCall h called next (bound_after call_name names o) (if_so (is_opening r) phase.Data phase.Through) remote local (on_fid o (Ends names) (λ (call : Fid). call_play h next names call))
  made_call names remote local p o r free (CallOpens n g is low opening) = rw (is, opening) (IsData names p n g remote local free low)
  made_call names remote local p o r free (CallRefused is opening) = rw (is, opening) (IsThrough names remote local)

  pub moved_at : (names : Names) (remote local : Addr) (r : Reply) (o : Option Fid) → fid_of called names ≡ o → AreFree names
      → fits_play (on_fid o (uses h called names) (λ (f : Fid). takes_call h f (Ends names) (next names))) r ≡ true
      → TakesCall h called next (settled names (begins_at_call called o) r) (if_so (is_opening r) phase.Data phase.Through) remote local
      (follow (on_fid o (uses h called names) (λ (f : Fid). takes_call h f (Ends names) (next names))) r)
  moved_at names remote local r None is free fit = rw (unopened_shut r fit) (IsThrough names remote local)
  moved_at names remote local r (Some f) is free fit =
      rw (opens_settle names call_name f file.Listen r free.call_free (bound_slot called names f free.slots is) refl)
      (made_call names remote local f.proto (opened_fid mode.Both (Some (node.File f.proto f.slot file.Listen)) r) r free (gave_call f.proto f.slot r fit))

  pub moved_fresh : (names : Names) (remote local : Addr) (r : Reply) (o : Option (List ℕ)) → taken_name names ≡ o → HaveSlots names
      → fits_play (on_taken o (λ (used : List ℕ). uses h used names) (on_fid (fid_of called names) (uses h called names) (λ (f : Fid). takes_call h f (Ends names) (next names)))) r ≡ true
      → TakesCall h called next (settled names (begins_by called names o) r) (if_so (is_opening r) phase.Data phase.Through) remote local
      (follow (on_taken o (λ (used : List ℕ). uses h used names) (on_fid (fid_of called names) (uses h called names) (λ (f : Fid). takes_call h f (Ends names) (next names)))) r)
  moved_fresh names remote local r (Some used) is slots fit = rw (unopened_shut r fit) (IsThrough names remote local)
  moved_fresh names remote local r None is slots fit = moved_at names remote local r (fid_of called names) refl (all_free names slots is) fit

  made_data : (base : Names) (p : Proto) (n g : ℕ) (remote local : Addr) (o : Option Fid) (r : Reply) → AreFree base → n < 32 → GaveFile mode.Both p n file.Data o r
      → TakesCall h called next (bound_after data_name (taken_names base p n g) o) (if_so (is_opening r) phase.Remote phase.ShutCall) remote local
      (on_fid o (shuts_call h base p n g) (λ (data_file : Fid). opened_play h next base (call_fid p n g) data_file))
  made_data base p n g remote local o r free low (FileOpens k is opening) = rw (is, opening) (IsRemote base p n g k remote local free low)
  made_data base p n g remote local o r free low (FileRefused is opening) = rw (is, opening) (IsShutCall base p n g remote local free)

  pub moved_data : (base : Names) (p : Proto) (n g : ℕ) (remote local : Addr) (r : Reply) → AreFree base → n < 32 → fits_open r ≡ true
      → TakesCall h called next (settled (taken_names base p n g) (opens_so data_name (call_fid p n g) file.Data mode.Both) r) (if_so (is_opening r) phase.Remote phase.ShutCall) remote local
      (follow (data_play h next base p n g) r)
  moved_data base p n g remote local r free low fit =
      rw (opens_settle (taken_names base p n g) data_name (call_fid p n g) file.Data r free.data_free low refl)
      (made_data base p n g remote local (opened_fid mode.Both (Some (node.File p n file.Data)) r) r free low (gave_file mode.Both p n file.Data r fit))

  made_remote : (base : Names) (p : Proto) (n g k : ℕ) (remote local : Addr) (o : Option Fid) (r : Reply) → AreFree base → n < 32 → GaveFile mode.Read p n file.Remote o r
      → TakesCall h called next (bound_after remote_name (open_names base p n g k) o) (if_so (is_opening r) phase.TellRemote phase.ShutData) remote local
      (on_fid o (shuts_data h base p n g k) (call_told_by h base p n g k file.Remote (λ (a : Addr). local_play h next base p n g k a)))
  made_remote base p n g k remote local o r free low (FileOpens j is opening) = rw (is, opening) (IsTellRemote base p n g k j remote local free low)
  made_remote base p n g k remote local o r free low (FileRefused is opening) = rw (is, opening) (IsShutData base p n g k remote local free)

  pub moved_remote : (base : Names) (p : Proto) (n g k : ℕ) (remote local : Addr) (r : Reply) → AreFree base → n < 32 → fits_open r ≡ true
      → TakesCall h called next (settled (open_names base p n g k) (opens_so remote_name (call_fid p n g) file.Remote mode.Read) r) (if_so (is_opening r) phase.TellRemote phase.ShutData) remote local
      (follow (remote_play h next base p n g k) r)
  moved_remote base p n g k remote local r free low fit =
      rw (told_settle (open_names base p n g k) remote_name p n g file.Remote r free.remote_free low refl)
      (made_remote base p n g k remote local (opened_fid mode.Read (Some (node.File p n file.Remote)) r) r free low (gave_file mode.Read p n file.Remote r fit))

  pub moved_tell_remote : (base : Names) (p : Proto) (n g k j : ℕ) (remote local : Addr) → AreFree base → n < 32 → (b : Bool)
      → TakesCall h called next (bind remote_name (told_fid p n j file.Remote) (open_names base p n g k)) (if_so b phase.CloseRemote phase.ShutRemote) remote local
      (if b then told_call h base p n g k j file.Remote (local_play h next base p n g k remote) else shuts_told h base p n g k j file.Remote)
  moved_tell_remote base p n g k j remote local free low true = IsCloseRemote base p n g k j remote local free low
  moved_tell_remote base p n g k j remote local free low false = IsShutRemote base p n g k j remote local free

  closed_remote : (base : Names) (p : Proto) (n g k : ℕ) (remote local : Addr) → AreFree base → n < 32 → (b : Bool)
      → TakesCall h called next (open_names base p n g k) (if_so b phase.Local phase.ShutData) remote local (if b then local_play h next base p n g k remote else shuts_data h base p n g k)
  closed_remote base p n g k remote local free low true = IsLocal base p n g k remote local free low
  closed_remote base p n g k remote local free low false = IsShutData base p n g k remote local free

  pub moved_close_remote : (base : Names) (p : Proto) (n g k j : ℕ) (remote local : Addr) → AreFree base → n < 32 → (b : Bool)
      → TakesCall h called next (unbind remote_name (bind remote_name (told_fid p n j file.Remote) (open_names base p n g k))) (if_so b phase.Local phase.ShutData) remote local
      (if b then local_play h next base p n g k remote else shuts_data h base p n g k)
  moved_close_remote base p n g k j remote local free low b =
      subst (λ (names : Names). TakesCall h called next names (if_so b phase.Local phase.ShutData) remote local (if b then local_play h next base p n g k remote else shuts_data h base p n g k))
      (sym (without_told remote_name (told_fid p n j file.Remote) (open_names base p n g k) free.remote_free)) (closed_remote base p n g k remote local free low b)

  made_local : (base : Names) (p : Proto) (n g k : ℕ) (remote local : Addr) (o : Option Fid) (r : Reply) → AreFree base → GaveFile mode.Read p n file.Local o r
      → TakesCall h called next (bound_after local_name (open_names base p n g k) o) (if_so (is_opening r) phase.TellLocal phase.ShutData) remote local
      (on_fid o (shuts_data h base p n g k) (call_told_by h base p n g k file.Local (λ (a : Addr). next base (call_fid p n g) (data_fid p n k) remote a)))
  made_local base p n g k remote local o r free (FileOpens j is opening) = rw (is, opening) (IsTellLocal base p n g k j remote local free)
  made_local base p n g k remote local o r free (FileRefused is opening) = rw (is, opening) (IsShutData base p n g k remote local free)

  pub moved_local : (base : Names) (p : Proto) (n g k : ℕ) (remote local : Addr) (r : Reply) → AreFree base → n < 32 → fits_open r ≡ true
      → TakesCall h called next (settled (open_names base p n g k) (opens_so local_name (call_fid p n g) file.Local mode.Read) r) (if_so (is_opening r) phase.TellLocal phase.ShutData) remote local
      (follow (local_play h next base p n g k remote) r)
  moved_local base p n g k remote local r free low fit =
      rw (told_settle (open_names base p n g k) local_name p n g file.Local r free.local_free low refl)
      (made_local base p n g k remote local (opened_fid mode.Read (Some (node.File p n file.Local)) r) r free (gave_file mode.Read p n file.Local r fit))

  pub moved_tell_local : (base : Names) (p : Proto) (n g k j : ℕ) (remote local : Addr) → AreFree base → (b : Bool)
      → TakesCall h called next (bind local_name (told_fid p n j file.Local) (open_names base p n g k)) (if_so b phase.CloseLocal phase.ShutLocal) remote local
      (if b then told_call h base p n g k j file.Local (next base (call_fid p n g) (data_fid p n k) remote local) else shuts_told h base p n g k j file.Local)
  moved_tell_local base p n g k j remote local free true = IsCloseLocal base p n g k j remote local free
  moved_tell_local base p n g k j remote local free false = IsShutLocal base p n g k j remote local free

  closed_local : (base : Names) (p : Proto) (n g k : ℕ) (remote local : Addr) → AreFree base → (b : Bool)
      → TakesCall h called next (open_names base p n g k) (if_so b phase.Read phase.ShutData) remote local
      (if b then next base (call_fid p n g) (data_fid p n k) remote local else shuts_data h base p n g k)
  closed_local base p n g k remote local free true = IsRead base p n g k remote local free
  closed_local base p n g k remote local free false = IsShutData base p n g k remote local free

  pub moved_close_local : (base : Names) (p : Proto) (n g k j : ℕ) (remote local : Addr) → AreFree base → (b : Bool)
      → TakesCall h called next (unbind local_name (bind local_name (told_fid p n j file.Local) (open_names base p n g k))) (if_so b phase.Read phase.ShutData) remote local
      (if b then next base (call_fid p n g) (data_fid p n k) remote local else shuts_data h base p n g k)
  moved_close_local base p n g k j remote local free b =
      subst (λ (names : Names). TakesCall h called next names (if_so b phase.Read phase.ShutData) remote local (if b then next base (call_fid p n g) (data_fid p n k) remote local else shuts_data h base p n g k))
      (sym (without_told local_name (told_fid p n j file.Local) (open_names base p n g k) free.local_free)) (closed_local base p n g k remote local free b)

  pub moved_shut_told : (called_so : List ℕ) (to : FileName) (base : Names) (p : Proto) (n g k j : ℕ) (remote local : Addr) → AreFree base → is_bound (open_names base p n g k) called_so ≡ false
      → TakesCall h called next (unbind called_so (bind called_so (told_fid p n j to) (open_names base p n g k))) phase.ShutData remote local (shuts_data h base p n g k)
  moved_shut_told called_so to base p n g k j remote local free unbound =
      subst (λ (names : Names). TakesCall h called next names phase.ShutData remote local (shuts_data h base p n g k))
      (sym (without_told called_so (told_fid p n j to) (open_names base p n g k) unbound)) (IsShutData base p n g k remote local free)

  pub moved_shut_data : (base : Names) (p : Proto) (n g k : ℕ) (remote local : Addr) → AreFree base
      → TakesCall h called next (unbind data_name (open_names base p n g k)) phase.ShutCall remote local (shuts_call h base p n g)
  moved_shut_data base p n g k remote local free =
      subst (λ (names : Names). TakesCall h called next names phase.ShutCall remote local (shuts_call h base p n g))
      (sym (data_left base p n g k free)) (IsShutCall base p n g remote local free)

  pub moved_shut_call : (base : Names) (p : Proto) (n g : ℕ) (remote local : Addr) → AreFree base
      → TakesCall h called next (unbind call_name (taken_names base p n g)) phase.Through remote local (Ends base)
  moved_shut_call base p n g remote local free =
      subst (λ (names : Names). TakesCall h called next names phase.Through remote local (Ends base)) (sym (call_left base p n g free)) (IsThrough base remote local)
