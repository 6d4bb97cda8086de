-- What holds of each event that a script records, where its replies are of a kind.
use Rattle.std.proofs.Common.{ℕ, zero, suc, ◌-◌, Bool, true, false, if◌then◌else◌, cond, List, [], ◌∷◌, ◌++◌, Option, Some, None, Ok, Err}
use Rattle.std.specs.Prelude.{codes, Result, unwrap_or}
use Rattle.std.proofs.lemmas.Bool.{cond_both}
use Rattle.net_base.specs.declared.actor.ActorName.{ActorName}
use Rattle.net_base.specs.declared.actor.ActorName.TheVariants as name
use Rattle.net_base.specs.declared.address.Addr.{Addr}
use Rattle.net_base.specs.declared.address.Proto.{Proto}
use Rattle.net_base.specs.declared.event.Event.{Event}
use Rattle.net_base.specs.declared.event.Event.TheVariants as event
use Rattle.net_base.specs.declared.headers.Heard.{Heard}
use Rattle.net_base.specs.declared.names.Ctl.{Ctl}
use Rattle.net_base.specs.declared.names.Ctl.TheVariants as ctl
use Rattle.net_base.specs.declared.names.FileName.{FileName}
use Rattle.net_base.specs.declared.names.FileName.TheVariants as file
use Rattle.net_base.specs.declared.names.Mode.{Mode}
use Rattle.net_base.specs.declared.names.Mode.TheVariants as mode
use Rattle.net_base.specs.declared.names.Node.{Node}
use Rattle.net_base.specs.declared.names.Node.TheVariants as node
use Rattle.net_base.specs.declared.reply.Reply.{Reply}
use Rattle.net_base.specs.declared.world.Step.{Step}
use Rattle.net_base.specs.declared.world.Step.TheVariants as step
use Rattle.net_base.specs.ControlWords as control
use Rattle.net_base.specs.DatagramHeaders.{text_behind}
use Rattle.net_base.specs.DomainAnswers.{dns_answer}
use Rattle.net_base.specs.Exports.{dotted_fid}
use Rattle.net_base.specs.Paths.{path_of, walk, mode_reads, mode_writes as may_write}
use Rattle.net_base.specs.Steps.{Fid, Names, fid_of, is_bound, bind, unbind, hearing, Play, Asks, Ends, is_accepted, if_accepted, ends_with, uses, misuses, on_fid, with_bound, with_new, with_readable, with_writable, conversation_of, default_mode, openable, open_actor, open_event, opened_fid, opens_node, opens, opens_beside, read_event, controls, puts_text, closes_fid, closes_last, ls_actor, ls_event, netmkaddr, reply_lines, asks_cs, clone_path, line_address, dotted_name, connected, dials, announces_line, data_name, call_name, call_names, first_bound, on_taken, closes_all, bytes_in, address_told, tells_address, takes_call, with_call, hears_call, is_answer, open_call, answers, leaves_call, answers_call, serves_call, serves, play_of, Ask, Stand, Asking, Finished, stands, Position, position_by}
use Rattle.history_laws.proofs.Ordered.{Each}

-- an event that neither opens a path at the desk, nor names what isn't open, nor waits for a moment
abbrev pub IsOther : Event → Type 0
IsOther (event.OpenPath path mode) = ⊥
IsOther (event.Use called) = ⊥
IsOther (event.Misuse called) = ⊥
IsOther (event.Until moment) = ⊥
IsOther _ = Unit {0}

-- such an event that a step may record: no duty, and none of a courier or the clock
abbrev pub IsOwn : Event → Type 0
IsOwn (event.Begin g) = ⊥
IsOwn (event.Born g) = ⊥
IsOwn (event.Claim g) = ⊥
IsOwn (event.Connect g) = ⊥
IsOwn (event.Announced g) = ⊥
IsOwn (event.Bound g) = ⊥
IsOwn (event.Withdraw n g) = ⊥
IsOwn (event.Release n g) = ⊥
IsOwn event.Arrive = ⊥
IsOwn (event.ArriveAt g) = ⊥
IsOwn (event.Tick g) = ⊥
IsOwn (event.Put to) = ⊥
IsOwn event.Take = ⊥
IsOwn (event.Move m) = ⊥
IsOwn e = IsOther e

pub own_other : (e : Event) → IsOwn e → IsOther e
own_other (event.OpenPath path mode) own = own
own_other (event.Use called) own = own
own_other (event.Misuse called) own = own
own_other (event.Until moment) own = own
own_other _ own = tt

-- P holds of each event that the play records, where R holds of its replies
abbrev pub Records : (ActorName → Event → Type 0) → (Reply → Type 0) → Play → Type 0
Records P R (Asks a e next) = P a e × ((r : Reply) → R r → Records P R (next r))
Records P R (Ends names) = Unit {0}

abbrev pub IsOpened : (ActorName → Event → Type 0) → List ℕ → Type 0
IsOpened P path = (a : ActorName) (m : Mode) → P a (event.OpenPath path m)

abbrev pub IsNamed : ℕ → (ActorName → Event → Type 0) → List ℕ → Type 0
IsNamed h P called = P (name.Desk h) (event.Use called) × P (name.Desk h) (event.Misuse called)

-- P holds of the events for which it doesn't matter what the step says, and of opening what a reply gives to dial
pub record Fits (P : ActorName → Event → Type 0) (R : Reply → Type 0) : Type 0 where
  pub other : (a : ActorName) (e : Event) → IsOwn e → P a e
  pub dialled : (r : Reply) → R r → Each (λ (line : List ℕ). IsOpened P (clone_path line)) (reply_lines r)

-- the names of an exporting step's files, and the paths by which they are opened
pub record IsExporting (h : ℕ) (P : ActorName → Event → Type 0) : Type 0 where
  pub named : (n : ℕ) → IsNamed h P (dotted_fid n)
  pub opened : (at : Node) → IsOpened P (path_of at)

-- P holds of the events that repeat what a step says
abbrev pub Says : ℕ → (ActorName → Event → Type 0) → Step → Type 0
Says h P (step.Open called path m) = IsNamed h P called × IsOpened P path
Says h P (step.Read called count) = IsNamed h P called
Says h P (step.Write called text) = IsNamed h P called
Says h P (step.Writex called text) = IsNamed h P called
Says h P (step.Close called) = IsNamed h P called
Says h P (step.Ls path) = Unit {0}
Says h P (step.Cs query) = Unit {0}
Says h P (step.Until moment) = P (name.Desk h) (event.Until moment)
Says h P step.Refresh = Unit {0}
Says h P (step.Dial called address) = IsNamed h P called × IsNamed h P (dotted_name called)
Says h P (step.Announce called address) = IsNamed h P called
Says h P (step.Listen called from) = IsNamed h P called × IsNamed h P from
Says h P (step.Accept called from) = IsNamed h P called × IsNamed h P from
Says h P (step.Reject called) = IsNamed h P called
Says h P (step.Hangup called) = IsNamed h P called
Says h P (step.Hread called count) = IsNamed h P called × Each (λ (name : List ℕ). IsNamed h P name) call_names
Says h P (step.Hwrite called bytes) = IsNamed h P called × Each (λ (name : List ℕ). IsNamed h P name) call_names
Says h P (step.Dns called times) = IsNamed h P called × Each (λ (name : List ℕ). IsNamed h P name) call_names
-- imports
Says h P (step.Export called) = IsNamed h P called × IsExporting h P
Says h P (step.Import call) = IsNamed h P call
Says h P (step.Ropen called call path m) = IsNamed h P called × IsNamed h P call
Says h P (step.Rread called count) = IsNamed h P called
Says h P (step.Rwrite called text) = IsNamed h P called
Says h P (step.Rclose called) = IsNamed h P called

abbrev pub IsNextEvent : (ActorName → Event → Type 0) → Option Ask → Type 0
IsNextEvent P None = Unit {0}
IsNextEvent P (Some ask) = P ask.actor ask.event

module _ (h : ℕ) (P : ActorName → Event → Type 0) (R : Reply → Type 0) (fits : Fits P R) where
  abbrev pub Good : Play → Type 0
  Good p = Records P R p

  pub ending : (a : ActorName) (e : Event) (names : Names) → P a e → Good (ends_with a e names)
  ending a e names f = (f, λ r fine. tt)

  pub either : (b : Bool) (x y : Play) → Good x → Good y → Good (cond b x y)
  either b x y f g = cond_both b x y (λ (p : Play). Good p) (λ _. f) (λ _. g)

  pub on_found : (found : Option Fid) (otherwise : Play) (next : Fid → Play) → Good otherwise → ((f : Fid) → Good (next f)) → Good (on_fid found otherwise next)
  on_found None otherwise next f g = f
  on_found (Some x) otherwise next f g = g x

  pub bound : (called : List ℕ) (names : Names) (next : Fid → Play) → IsNamed h P called → ((f : Fid) → Good (next f)) → Good (with_bound h called names next)
  bound called names next named g = on_found (fid_of called names) (uses h called names) next (ending _ _ names named.0) g

  pub new : (called : List ℕ) (names : Names) (next : Play) → IsNamed h P called → Good next → Good (with_new h called names next)
  new called names next named f = either (is_bound names called) (uses h called names) next (ending _ _ names named.0) f

  readable : (called : List ℕ) (names : Names) (next : Fid → Play) → IsNamed h P called → ((f : Fid) → Good (next f)) → Good (with_readable h called names next)
  readable called names next named g =
      bound called names (λ (f : Fid). cond (mode_reads f.mode) (next f) (misuses h called names)) named
      (λ f. either (mode_reads f.mode) (next f) (misuses h called names) (g f) (ending _ _ names named.1))

  writable : (called : List ℕ) (names : Names) (next : Fid → Play) → IsNamed h P called → ((f : Fid) → Good (next f)) → Good (with_writable h called names next)
  writable called names next named g =
      bound called names (λ (f : Fid). cond (may_write f.mode) (next f) (misuses h called names)) named
      (λ f. either (may_write f.mode) (next f) (misuses h called names) (g f) (ending _ _ names named.1))

  open_of : (a : ActorName) (path : List ℕ) (m : Mode) (n : Option Node) → IsOpened P path → P a (open_event path m n)
  open_of a path m (Some (node.Clone p)) opened = fits.other a event.Reserve tt
  open_of a path m (Some (node.File p n file.Listen)) opened = fits.other a (event.Listen n) tt
  open_of a path m (Some (node.File p n f)) opened = fits.other a (event.Open f m) tt
  open_of a path m _ opened = opened a m

  open_beside : (a : ActorName) (m : Mode) (p : Proto) (n : ℕ) (f : FileName) → P a (open_event [] m (Some (node.File p n f)))
  open_beside a m p n file.Listen = fits.other a (event.Listen n) tt
  open_beside a m p n f = fits.other a (event.Open f m) tt

  opens_at : (path : List ℕ) (m : Mode) (n : Option Node) (refused : Play) (next : Fid → Play) → P (open_actor h n) (open_event path m n) → Good refused → ((f : Fid) → Good (next f)) → Good (opens_node h path m n refused next)
  opens_at path m n refused next asked f g = (asked, λ r fine. on_found (opened_fid m n r) refused next f g)

  opens_path : (path : List ℕ) (m : Mode) (refused : Play) (next : Fid → Play) → IsOpened P path → Good refused → ((f : Fid) → Good (next f)) → Good (opens h path m refused next)
  opens_path path m refused next opened f g =
      opens_at path m (openable (walk path) m) refused next (open_of (open_actor h (openable (walk path) m)) path m (openable (walk path) m) opened) f g

  beside : (x : Fid) (other : FileName) (refused : Play) (next : Fid → Play) → Good refused → ((f : Fid) → Good (next f)) → Good (opens_beside h x other refused next)
  beside x other refused next f g =
      let n : Option Node = Some (node.File x.proto x.slot other) in
      opens_at [] mode.Both n refused next (open_beside (open_actor h n) mode.Both x.proto x.slot other) f g

  pub reads_of : (a : ActorName) (f : Fid) (count : ℕ) (name : FileName) → P a (read_event f count name)
  reads_of a f count file.Data = fits.other a (event.Read f.generation count) tt
  reads_of a f count name = fits.other a (event.File f.generation name count) tt

  accepted : (r : Reply) (next refused : Play) → Good next → Good refused → Good (if_accepted r next refused)
  accepted r next refused f g = either (is_accepted r) next refused f g

  -- an event that is refused or not
  tried : (a : ActorName) (e : Event) (refused next : Play) → IsOwn e → Good refused → Good next → Good (Asks a e (λ (r : Reply). if_accepted r next refused))
  tried a e refused next other f g = (fits.other a e other, λ r fine. accepted r next refused g f)

  pub controlled : (x : Fid) (text : List ℕ) (read : Result Ctl ℕ) (refused next : Play) → Good refused → Good next → Good (controls h x text read refused next)
  controlled x text (Ok (ctl.Connect remote lport)) refused next f g = tried _ (event.Grant x.slot x.generation remote lport) refused _ tt f (tried _ (event.Await x.generation) refused next tt f g)
  controlled x text (Ok (ctl.Announce ip port)) refused next f g = tried _ (event.Announce x.slot x.generation ip port) refused next tt f g
  controlled x text (Ok (ctl.Bind port)) refused next f g = tried _ (event.Bind x.slot x.generation port) refused next tt f g
  controlled x text (Ok ctl.Hangup) refused next f g = tried _ (event.Hangup x.generation) refused next tt f g
  controlled x text (Ok (ctl.Ttl n)) refused next f g = tried _ (event.Ttl x.generation n) refused next tt f g
  controlled x text (Ok (ctl.Tos n)) refused next f g = tried _ (event.Tos x.generation n) refused next tt f g
  controlled x text (Err fault) refused next f g = tried _ (event.Ctl x.generation text) refused next tt f g

  put : (x : Fid) (name : FileName) (text : List ℕ) (refused next : Play) → Good refused → Good next → Good (puts_text h x name text refused next)
  put x file.Data text refused next f g = tried _ (event.Write x.generation text) refused next tt f g
  put x file.Ctl text refused next f g = controlled x text (control.read text) refused next f g
  put x file.Listen text refused next f g = controlled x text (control.read text) refused next f g
  put x file.Local text refused next f g = controlled x text (control.read text) refused next f g
  put x file.Remote text refused next f g = controlled x text (control.read text) refused next f g
  put x file.Status text refused next f g = controlled x text (control.read text) refused next f g
  put x file.Err text refused next f g = controlled x text (control.read text) refused next f g

  closing : (x : Fid) (refused next : Play) → Good refused → Good next → Good (closes_fid h x refused next)
  closing x refused next f g = tried _ (event.Close x.generation) refused next tt f g

  ls_of : (a : ActorName) (path : List ℕ) (n : Option Node) → P a (ls_event path n)
  ls_of a path (Some (node.Proto p)) = fits.other a event.Ls tt
  ls_of a path (Some (node.Dir p n)) = fits.other a event.Ls tt
  ls_of a path _ = fits.other a (event.LsPath path) tt

  connects : (called : List ℕ) (names : Names) (made : Fid) → Good (connected h called names made)
  connects called names made =
      let closed : P (conversation_of h made) (event.Close made.generation) = fits.other (conversation_of h made) (event.Close made.generation) tt in
      beside made file.Data (closes_last h made names) _ (ending _ _ names closed) (λ f. ending _ _ (bind called f names) closed)

  dialling : (called : List ℕ) (names : Names) (lines : List (List ℕ)) → Each (λ (line : List ℕ). IsOpened P (clone_path line)) lines → Good (dials h called names lines)
  dialling called names [] all = tt
  dialling called names (line ∷ lines) all =
      opens_path (clone_path line) mode.Both (dials h called names lines) _ all.0 (dialling called names lines all.1) (λ made.
      put made made.file (codes "connect " ++ line_address line) _ _
      (closing made (Ends names) (dials h called names lines) tt (dialling called names lines all.1))
      (connects called names made))

  announcing : (called : List ℕ) (names : Names) (lines : List (List ℕ)) → Each (λ (line : List ℕ). IsOpened P (clone_path line)) lines → Good (announces_line h called names lines)
  announcing called names [] all = tt
  announcing called names (line ∷ lines) all =
      opens_path (clone_path line) mode.Both (Ends names) _ all.0 tt (λ made.
      put made made.file (codes "announce " ++ line_address line) _ _
      (closing made (Ends names) (Ends names) tt tt) tt)

  asks_lines : (address : List ℕ) (next : List (List ℕ) → Play) → ((lines : List (List ℕ)) → Each (λ (line : List ℕ). IsOpened P (clone_path line)) lines → Good (next lines)) → Good (asks_cs h address next)
  asks_lines address next g = (fits.other _ (event.Cs (netmkaddr address (codes "net") (codes "9fs"))) tt, λ r fine. g (reply_lines r) (fits.dialled r fine))

  -- calls of datagrams

  taken : (names : Names) (others : List (List ℕ)) (next : Play) → Each (λ (called : List ℕ). IsNamed h P called) others → Good next
      → Good (on_taken (first_bound others names) (λ (used : List ℕ). uses h used names) next)
  taken names [] next all f = f
  taken names (called ∷ others) next all f = by (is_bound names called) (taken names others next all.1 f)
    where
      by : (b : Bool) → Good (on_taken (first_bound others names) (λ (used : List ℕ). uses h used names) next)
          → Good (on_taken (if b then Some called else first_bound others names) (λ (used : List ℕ). uses h used names) next)
      by true rest = ending _ _ names all.0.0
      by false rest = rest

  closing_all : (fs : List Fid) (next : Play) → Good next → Good (closes_all h fs next)
  closing_all [] next f = f
  closing_all (x ∷ xs) next f = (fits.other (conversation_of h x) (event.Close x.generation) tt, λ r fine. closing_all xs next f)

  -- the two files of a call are closed
  closing_both : (call data_file : Fid) (next : Play) → Good next → Good (closes_all h (data_file ∷ call ∷ []) next)
  closing_both call data_file next f = closing_all (data_file ∷ call ∷ []) next f

  told_by : (opened : Fid) (others : List Fid) (refused : Play) (next : Addr → Play) (r : Reply) → Good refused → ((a : Addr) → Good (next a))
      → Good (if_accepted r (closes_fid h opened (closes_all h others refused) (next (address_told (bytes_in r)))) (closes_all h (opened ∷ others) refused))
  told_by opened others refused next r f g =
      accepted r (closes_fid h opened (closes_all h others refused) (next (address_told (bytes_in r)))) (closes_all h (opened ∷ others) refused)
      (closing opened (closes_all h others refused) (next (address_told (bytes_in r))) (closing_all others refused f) (g (address_told (bytes_in r))))
      (closing_all (opened ∷ others) refused f)

  telling : (x : Fid) (told : FileName) (others : List Fid) (refused : Play) (next : Addr → Play) → Good refused → ((a : Addr) → Good (next a)) → Good (tells_address h x told others refused next)
  telling x told others refused next f g =
      let n : Option Node = Some (node.File x.proto x.slot told) in
      opens_at [] mode.Read n (closes_all h others refused)
      (λ (opened : Fid).
      Asks (conversation_of h opened) (event.File opened.generation told 64) (λ (r : Reply).
      if_accepted r (closes_fid h opened (closes_all h others refused) (next (address_told (bytes_in r)))) (closes_all h (opened ∷ others) refused)))
      (open_beside (open_actor h n) mode.Read x.proto x.slot told) (closing_all others refused f)
      (λ opened. (fits.other (conversation_of h opened) (event.File opened.generation told 64) tt, λ r fine. told_by opened others refused next r f g))

  taking : (x : Fid) (refused : Play) (next : Fid → Fid → Addr → Addr → Play) → Good refused → ((call data_file : Fid) (remote local : Addr) → Good (next call data_file remote local)) → Good (takes_call h x refused next)
  taking x refused next f g =
      beside x file.Listen refused
      (λ (call : Fid).
      opens_beside h call file.Data (closes_all h (call ∷ []) refused) (λ (data_file : Fid).
      tells_address h call file.Remote (data_file ∷ call ∷ []) refused (λ (remote : Addr).
      tells_address h call file.Local (data_file ∷ call ∷ []) refused (λ (local : Addr). next call data_file remote local))))
      f
      (λ call.
      beside call file.Data (closes_all h (call ∷ []) refused)
      (λ (data_file : Fid).
      tells_address h call file.Remote (data_file ∷ call ∷ []) refused (λ (remote : Addr).
      tells_address h call file.Local (data_file ∷ call ∷ []) refused (λ (local : Addr). next call data_file remote local)))
      (closing_all (call ∷ []) refused f)
      (λ data_file.
      telling call file.Remote (data_file ∷ call ∷ []) refused
      (λ (remote : Addr). tells_address h call file.Local (data_file ∷ call ∷ []) refused (λ (local : Addr). next call data_file remote local))
      f
      (λ remote. telling call file.Local (data_file ∷ call ∷ []) refused (λ (local : Addr). next call data_file remote local) f (λ local. g call data_file remote local))))

  calling : (called : List ℕ) (names : Names) (next : Fid → Fid → Addr → Addr → Play) → IsNamed h P called → Each (λ (name : List ℕ). IsNamed h P name) call_names
      → ((call data_file : Fid) (remote local : Addr) → Good (next call data_file remote local)) → Good (with_call h called names next)
  calling called names next named all g =
      taken names call_names (with_bound h called names (λ (f : Fid). takes_call h f (Ends names) next)) all
      (bound called names (λ (f : Fid). takes_call h f (Ends names) next) named (λ x. taking x (Ends names) next tt g))

  heard_so : (names : Names) (count : ℕ) (call data_file : Fid) (heard : Heard) → Good (hears_call h names count call data_file heard)
  heard_so names count call data_file heard =
      tried (conversation_of h data_file) (event.Read data_file.generation count) (closes_all h (data_file ∷ call ∷ []) (Ends (hearing heard names)))
      (Ends (bind data_name data_file (bind call_name call (hearing heard names)))) tt
      (closing_both call data_file (Ends (hearing heard names)) tt)
      tt

  answered_so : (names : Names) (text : List ℕ) (data_file : Fid) → IsNamed h P call_name → Good (answers h names text data_file)
  answered_so names text data_file named = (
    fits.other (conversation_of h data_file) (event.Write data_file.generation text) tt,
    λ r fine. (
      fits.other (conversation_of h data_file) (event.Close data_file.generation) tt,
      λ s fine.
          bound call_name (unbind data_name names)
          (λ (call : Fid). ends_with (conversation_of h call) (event.Close call.generation) (unbind call_name (unbind data_name names)))
          named
          (λ call. ending (conversation_of h call) (event.Close call.generation) (unbind call_name (unbind data_name names)) (fits.other (conversation_of h call) (event.Close call.generation) tt)),
    ),
  )

  leaving : (call data_file : Fid) (refused next : Play) → Good refused → Good next → Good (leaves_call h call data_file refused next)
  leaving call data_file refused next f g =
      closing data_file (closes_all h (call ∷ []) refused) (closes_fid h call refused next) (closing_all (call ∷ []) refused f) (closing call refused next f g)

  answering : (call data_file : Fid) (answer : Option (List ℕ)) (refused next : Play) → Good refused → Good next → Good (answers_call h call data_file answer refused next)
  answering call data_file None refused next f g = leaving call data_file refused next f g
  answering call data_file (Some text) refused next f g =
      tried (conversation_of h data_file) (event.Write data_file.generation text) (closes_all h (data_file ∷ call ∷ []) refused)
      (leaves_call h call data_file refused next) tt
      (closing_both call data_file refused f)
      (leaving call data_file refused next f g)

  served_by : (names : Names) (call data_file : Fid) (next : Play) (r : Reply) → Good next
      → Good (if_accepted r (answers_call h call data_file (dns_answer names.zone (bytes_in r)) (Ends names) next) (closes_all h (data_file ∷ call ∷ []) (Ends names)))
  served_by names call data_file next r g =
      accepted r (answers_call h call data_file (dns_answer names.zone (bytes_in r)) (Ends names) next) (closes_all h (data_file ∷ call ∷ []) (Ends names))
      (answering call data_file (dns_answer names.zone (bytes_in r)) (Ends names) next tt g)
      (closing_both call data_file (Ends names) tt)

  serving_one : (called : List ℕ) (names : Names) (next : Play) → IsNamed h P called → Each (λ (name : List ℕ). IsNamed h P name) call_names → Good next → Good (serves_call h called names next)
  serving_one called names next named all g =
      calling called names
      (λ (call data_file : Fid) (remote local : Addr).
      Asks (conversation_of h data_file) (event.Read data_file.generation 8192) (λ (r : Reply).
      if_accepted r (answers_call h call data_file (dns_answer names.zone (bytes_in r)) (Ends names) next) (closes_all h (data_file ∷ call ∷ []) (Ends names))))
      named all
      (λ call data_file remote local. (fits.other (conversation_of h data_file) (event.Read data_file.generation 8192) tt, λ r fine. served_by names call data_file next r g))

  serving : (called : List ℕ) (names : Names) (more : ℕ) → IsNamed h P called → Each (λ (name : List ℕ). IsNamed h P name) call_names → Good (serves h called names more)
  serving called names zero named all = serving_one called names (Ends names) named all tt
  serving called names (suc more) named all = serving_one called names (serves h called names more) named all (serving called names more named all)

  pub played : (names : Names) (s : Step) → Says h P s → Good (play_of h names s)
  played names (step.Open called path m) says = new called names _ says.0 (opens_path path (unwrap_or m (default_mode (walk path))) (Ends names) _ says.1 tt (λ f. tt))
  played names (step.Read called count) says = readable called names _ says (λ f. ending _ _ names (reads_of (conversation_of h f) f count f.file))
  played names (step.Write called text) says = writable called names _ says (λ f. put f f.file text (Ends names) (Ends names) tt tt)
  played names (step.Writex called text) says = writable called names _ says (λ f. put f f.file text (Ends names) (Ends names) tt tt)
  played names (step.Close called) says = bound called names _ says (λ f. ending _ _ (unbind called names) (fits.other (conversation_of h f) (event.Close f.generation) tt))
  played names (step.Ls path) says = ending _ _ names (ls_of (ls_actor h (walk path)) path (walk path))
  played names (step.Cs query) says = ending _ _ names (fits.other (name.Desk h) (event.Cs query) tt)
  played names (step.Until moment) says = ending _ _ names says
  played names step.Refresh says = ending _ _ names (fits.other (name.Desk h) event.Refresh tt)
  played names (step.Dial called address) says =
      new called names _ says.0 (new (dotted_name called) names _ says.1 (asks_lines address (dials h called names) (dialling called names)))
  played names (step.Announce called address) says = new called names _ says (asks_lines address (announces_line h called names) (announcing called names))
  played names (step.Listen called from) says =
      bound from names _ says.1 (λ f. new called names _ says.0 (beside f file.Listen (Ends names) _ tt (λ call. tt)))
  played names (step.Accept called from) says =
      bound from names _ says.1 (λ f. new called names _ says.0 (beside f file.Data (Ends names) _ tt (λ made. tt)))
  played names (step.Reject called) says =
      writable called names _ says (λ f. put f f.file (codes "hangup") (Ends names) _ tt (ending _ _ (unbind called names) (fits.other (conversation_of h f) (event.Close f.generation) tt)))
  played names (step.Hangup called) says = writable called names _ says (λ f. put f f.file (codes "hangup") (Ends names) (Ends names) tt tt)
  played names (step.Hread called count) says =
      calling called names
      (λ (call data_file : Fid) (remote local : Addr). hears_call h names count call data_file (record { name = called; remote = remote; local = local }))
      says.0 says.1
      (λ call data_file remote local. heard_so names count call data_file (record { name = called; remote = remote; local = local }))
  played names (step.Hwrite called bytes) says =
      on_found (open_call called names) (uses h data_name names)
      (λ (data_file : Fid). if is_answer bytes names.heard then answers h names (text_behind bytes) data_file else misuses h data_name names)
      (ending _ _ names says.1.0.0)
      (λ data_file.
      either (is_answer bytes names.heard) (answers h names (text_behind bytes) data_file) (misuses h data_name names)
      (answered_so names (text_behind bytes) data_file says.1.1.0) (ending _ _ names says.1.0.1))
  played names (step.Dns called times) says = serving called names (times - 1) says.0 says.1
  played names _ says = tt

  -- where a play stands

  abbrev pub IsStand : Stand → Type 0
  IsStand (Asking ask) = P ask.actor ask.event
  IsStand (Finished names rs) = Each R rs

  pub standing : (p : Play) (rs : List Reply) → Good p → Each R rs → IsStand (stands p rs)
  standing (Ends names) rs f fine = fine
  standing (Asks a e next) [] f fine = f.0
  standing (Asks a e next) (r ∷ rs) f fine = standing (next r) rs (f.1 r fine.0) fine.1

  pub next_by : (s : Stand) (steps : List Step) (go_on : Names → List Reply → Position) → IsStand s → ((names : Names) (rs : List Reply) → Each R rs → IsNextEvent P (go_on names rs).next) → IsNextEvent P (position_by s steps go_on).next
  next_by (Asking ask) steps go_on f g = f
  next_by (Finished names rs) steps go_on f g = g names rs f
