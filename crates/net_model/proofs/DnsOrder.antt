-- What a script writes in a `dns` step answers what it has just read.
use Rattle.std.proofs.Common.{◌≡◌, ℕ, zero, suc, ◌-◌, Bool, true, false, List, [], ◌∷◌, ◌++◌, length, take, Option, Some, None, Result, Ok, Err, refl, sym, ap, subst, ◌∙◌, append_assoc, if◌then◌else◌}
use Rattle.std.specs.Prelude.{◌&&◌, codes, find, nat_le, not, option_map, unwrap_or}
use Rattle.std.proofs.lemmas.Option.{none-some, same_Some}
use Rattle.net_base.specs.declared.actor.ActorName.{ActorName}
use Rattle.net_base.specs.declared.address.Addr.{Addr}
use Rattle.net_base.specs.declared.event.Event.{Event}
use Rattle.net_base.specs.declared.event.Event.TheVariants as event
use Rattle.net_base.specs.declared.headers.Heard.{Heard}
use Rattle.net_base.specs.declared.history.Entry.{Entry}
use Rattle.net_base.specs.declared.left.Remote.{Remote}
use Rattle.net_base.specs.declared.names.Ctl.{Ctl}
use Rattle.net_base.specs.declared.names.Ctl.TheVariants as ctl
use Rattle.net_base.specs.declared.names.FileName.{FileName}
use Rattle.net_base.specs.declared.names.FileName.TheVariants as file
use Rattle.net_base.specs.declared.names.Mode.{Mode}
use Rattle.net_base.specs.declared.names.Mode.TheVariants as mode
use Rattle.net_base.specs.declared.names.Node.{Node}
use Rattle.net_base.specs.declared.names.Node.TheVariants as node
use Rattle.net_base.specs.declared.ninep.Tmsg.{Tmsg}
use Rattle.net_base.specs.declared.reply.Reply.{Reply}
use Rattle.net_base.specs.declared.world.Script.{Script}
use Rattle.net_base.specs.declared.world.Step.{Step}
use Rattle.net_base.specs.declared.world.Step.TheVariants as step
use Rattle.net_base.specs.declared.world.World.{World}
use Rattle.net_base.specs.ControlWords as control
use Rattle.net_base.specs.DatagramHeaders.{text_behind}
use Rattle.net_base.specs.DomainAnswers.{dns_answer}
use Rattle.net_base.specs.Callers.{IsScript, caller_of}
use Rattle.net_base.specs.Exports.{Own, and_then, asks_on, by_text, closes_each, dotted_fid, dotted_step, exported, exports, is_dotted, most_requests, own_of, serves_text, sharing, then_play, unheard, Sharing}
use Rattle.net_base.specs.Imports.{attach_message, clunk_message, is_open, is_version, is_whole, longest_text, open_message, opens_remote, read_message, sends_message, sends_by, sends_for, sends_once, version_message, walk_message, write_message}
use Rattle.net_base.specs.Legal.{IsAsked, IsLegal, MayFollow, asked_by, cites_of}
use Rattle.net_base.specs.Net.{owed}
use Rattle.net_base.specs.Next.{finished_by, next_recorded, own_entries, own_replies, zone_of}
use Rattle.net_base.specs.NinepReading.{read_t}
use Rattle.net_base.specs.Paths.{mode_reads, walk, mode_writes}
use Rattle.net_base.specs.Remotes.{free_fid, is_remote, is_remote_path, remote_of}
use Rattle.net_base.specs.Scripts.{Kept, at_first, heard_replies, kept_after, new_names, own_play, play_by, position, step_play}
use Rattle.net_base.specs.Server.{Doing, Does, Gives, doing_of}
use Rattle.net_base.specs.Session.{State, by_last, serves_by}
use Rattle.net_base.specs.SessionScript.{message_step}
use Rattle.net_base.specs.Steps as s
use Rattle.net_base.specs.Steps.{Ask, Names, Fid, Play, Asks, Ends, Position, Stand, Asking, Finished, bytes_in, fid_of, is_accepted, is_bound, on_fid, opened_fid, play_of, position_by, stands}
use Rattle.net_base.specs.Versions.{Tuples}
use Rattle.history_laws.proofs.Shared.{legal_take}
use Rattle.net_model.specs.DnsOrder.{AnswersQuestions, AnswersRead}
use Rattle.prefix_law.specs.Order.{Begins, IsPlayRecorded, StandInOrder}
use Rattle.prefix_law.specs.Scripted.{scripted}
use Rattle.prefix_law.proofs.Shared.{begins_asks, goes_on, replies, asks_next}
use Rattle.net_model.proofs.OwnEntries.{keeps_script}

-- The database from which a script answers stays.

-- wherever the play ends, it leaves this database
abbrev Leaves : Tuples → Play → Type 0
Leaves z (Ends names) = names.zone ≡ z
Leaves z (Asks a e next_recorded) = (r : Reply) → Leaves z (next_recorded r)

module _ (z : Tuples) (h : ℕ) where
  either : (b : Bool) (p q : Play) → Leaves z p → Leaves z q → Leaves z (if b then p else q)
  either true p q yes_p yes_q = yes_p
  either false p q yes_p yes_q = yes_q

  on : (o : Option Fid) (p : Play) (next_recorded : Fid → Play) → Leaves z p → ((f : Fid) → Leaves z (next_recorded f)) → Leaves z (on_fid o p next_recorded)
  on None p next_recorded refused found = refused
  on (Some f) p next_recorded refused found = found f

  new : (called : List ℕ) (names : Names) (p : Play) → names.zone ≡ z → Leaves z p → Leaves z (s.with_new h called names p)
  new called names p is leaves = either (is_bound names called) (s.uses h called names) p (λ r. is) leaves

  bound : (called : List ℕ) (names : Names) (next_recorded : Fid → Play) → names.zone ≡ z → ((f : Fid) → Leaves z (next_recorded f)) → Leaves z (s.with_bound h called names next_recorded)
  bound called names next_recorded is leaves = on (fid_of called names) (s.uses h called names) next_recorded (λ r. is) leaves

  readable : (called : List ℕ) (names : Names) (next_recorded : Fid → Play) → names.zone ≡ z → ((f : Fid) → Leaves z (next_recorded f)) → Leaves z (s.with_readable h called names next_recorded)
  readable called names next_recorded is leaves =
      bound called names (λ (f : Fid). if mode_reads f.mode then next_recorded f else s.misuses h called names) is
      (λ f. either (mode_reads f.mode) (next_recorded f) (s.misuses h called names) (leaves f) (λ r. is))

  writable : (called : List ℕ) (names : Names) (next_recorded : Fid → Play) → names.zone ≡ z → ((f : Fid) → Leaves z (next_recorded f)) → Leaves z (s.with_writable h called names next_recorded)
  writable called names next_recorded is leaves =
      bound called names (λ (f : Fid). if mode_writes f.mode then next_recorded f else s.misuses h called names) is
      (λ f. either (mode_writes f.mode) (next_recorded f) (s.misuses h called names) (leaves f) (λ r. is))

  accepted : (p q : Play) → Leaves z p → Leaves z q → (r : Reply) → Leaves z (s.if_accepted r p q)
  accepted p q yes_p yes_q r = either (is_accepted r) p q yes_p yes_q

  opens : (path : List ℕ) (m : Mode) (n : Option Node) (p : Play) (next_recorded : Fid → Play) → Leaves z p → ((f : Fid) → Leaves z (next_recorded f)) → Leaves z (s.opens_node h path m n p next_recorded)
  opens path m n p next_recorded refused found = λ r. on (opened_fid m n r) p next_recorded refused found

  controls : (f : Fid) (text : List ℕ) (c : Result Ctl ℕ) (p q : Play) → Leaves z p → Leaves z q → Leaves z (s.controls h f text c p q)
  controls f text (Ok (ctl.Connect remote lport)) p q refused next_recorded =
      λ granted. accepted (Asks (s.conversation_of h f) (event.Await f.generation) (λ (r : Reply). s.if_accepted r q p)) p (λ r. accepted q p next_recorded refused r) refused granted
  controls f text (Ok (ctl.Announce ip port)) p q refused next_recorded = λ r. accepted q p next_recorded refused r
  controls f text (Ok (ctl.Bind port)) p q refused next_recorded = λ r. accepted q p next_recorded refused r
  controls f text (Ok ctl.Hangup) p q refused next_recorded = λ r. accepted q p next_recorded refused r
  controls f text (Ok (ctl.Ttl n)) p q refused next_recorded = λ r. accepted q p next_recorded refused r
  controls f text (Ok (ctl.Tos n)) p q refused next_recorded = λ r. accepted q p next_recorded refused r
  controls f text (Err fault) p q refused next_recorded = λ r. accepted q p next_recorded refused r

  puts : (f : Fid) (t : FileName) (text : List ℕ) (p q : Play) → Leaves z p → Leaves z q → Leaves z (s.puts_text h f t text p q)
  puts f file.Data text p q refused next_recorded = λ r. accepted q p next_recorded refused r
  puts f _ text p q refused next_recorded = controls f text (control.read text) p q refused next_recorded

  closes : (f : Fid) (p q : Play) → Leaves z p → Leaves z q → Leaves z (s.closes_fid h f p q)
  closes f p q refused next_recorded = λ r. accepted q p next_recorded refused r

  closes_all : (fs : List Fid) (p : Play) → Leaves z p → Leaves z (s.closes_all h fs p)
  closes_all [] p next_recorded = next_recorded
  closes_all (f ∷ fs) p next_recorded = λ r. closes_all fs p next_recorded

  module _ (names : Names) (is : names.zone ≡ z) where
    connected : (called : List ℕ) (f : Fid) → Leaves z (s.connected h called names f)
    connected called f =
        opens [] mode.Both (Some (node.File f.proto f.slot file.Data)) (s.closes_last h f names) (λ (data_file : Fid). s.closes_last h f (s.bind called data_file names)) (λ r. is) (λ data_file r. is)

    dials : (called : List ℕ) (lines : List (List ℕ)) → Leaves z (s.dials h called names lines)
    dials called [] = is
    dials called (line ∷ lines) = by (dials called lines)
      where
        by : Leaves z (s.dials h called names lines) → Leaves z (s.dials h called names (line ∷ lines))
        by others =
            opens (s.clone_path line) mode.Both (s.openable (walk (s.clone_path line)) mode.Both) (s.dials h called names lines)
            (λ (made : Fid). s.puts_text h made made.file (codes "connect " ++ s.line_address line) (s.closes_fid h made (Ends names) (s.dials h called names lines)) (s.connected h called names made)) others
            (λ made. puts made made.file (codes "connect " ++ s.line_address line) (s.closes_fid h made (Ends names) (s.dials h called names lines)) (s.connected h called names made)
            (closes made (Ends names) (s.dials h called names lines) is others) (connected called made))

    announces : (called : List ℕ) (lines : List (List ℕ)) → Leaves z (s.announces_line h called names lines)
    announces called [] = is
    announces called (line ∷ lines) =
        opens (s.clone_path line) mode.Both (s.openable (walk (s.clone_path line)) mode.Both) (Ends names)
        (λ (made : Fid). s.puts_text h made made.file (codes "announce " ++ s.line_address line) (s.closes_fid h made (Ends names) (Ends names)) (Ends (s.bind called made names))) is
        (λ made. puts made made.file (codes "announce " ++ s.line_address line) (s.closes_fid h made (Ends names) (Ends names)) (Ends (s.bind called made names)) (closes made (Ends names) (Ends names) is is) is)

    tells : (call : Fid) (told : FileName) (others : List Fid) (p : Play) (next_recorded : Addr → Play) → Leaves z p → ((a : Addr) → Leaves z (next_recorded a)) → Leaves z (s.tells_address h call told others p next_recorded)
    tells call told others p next_recorded refused found =
        opens [] mode.Read (Some (node.File call.proto call.slot told)) (s.closes_all h others p)
        (λ (f : Fid). Asks (s.conversation_of h f) (event.File f.generation told 64) (λ (r : Reply).
        s.if_accepted r (s.closes_fid h f (s.closes_all h others p) (next_recorded (s.address_told (bytes_in r)))) (s.closes_all h (f ∷ others) p)))
        (closes_all others p refused)
        (λ f r. accepted (s.closes_fid h f (s.closes_all h others p) (next_recorded (s.address_told (bytes_in r)))) (s.closes_all h (f ∷ others) p)
        (closes f (s.closes_all h others p) (next_recorded (s.address_told (bytes_in r))) (closes_all others p refused) (found (s.address_told (bytes_in r))))
        (closes_all (f ∷ others) p refused) r)

    takes : (f : Fid) (next_recorded : Fid → Fid → Addr → Addr → Play) → ((call data_file : Fid) (remote local : Addr) → Leaves z (next_recorded call data_file remote local))
        → Leaves z (s.takes_call h f (Ends names) next_recorded)
    takes f next_recorded found =
        opens [] mode.Both (Some (node.File f.proto f.slot file.Listen)) (Ends names) _ is (λ call.
        opens [] mode.Both (Some (node.File call.proto call.slot file.Data)) (s.closes_all h (call ∷ []) (Ends names)) _ (closes_all (call ∷ []) (Ends names) is) (λ data_file.
        tells call file.Remote (data_file ∷ call ∷ []) (Ends names)
        (λ (remote : Addr). s.tells_address h call file.Local (data_file ∷ call ∷ []) (Ends names) (λ (local : Addr). next_recorded call data_file remote local)) is (λ remote.
        tells call file.Local (data_file ∷ call ∷ []) (Ends names) (λ (local : Addr). next_recorded call data_file remote local) is (λ local. found call data_file remote local))))

    taken : (o : Option (List ℕ)) (p : Play) → Leaves z p → Leaves z (s.on_taken o (λ (used : List ℕ). s.uses h used names) p)
    taken None p leaves = leaves
    taken (Some used) p leaves = λ r. is

    call_with : (called : List ℕ) (next_recorded : Fid → Fid → Addr → Addr → Play) → ((call data_file : Fid) (remote local : Addr) → Leaves z (next_recorded call data_file remote local))
        → Leaves z (s.with_call h called names next_recorded)
    call_with called next_recorded found =
        taken (s.taken_name names) (s.with_bound h called names (λ (f : Fid). s.takes_call h f (Ends names) next_recorded))
        (bound called names (λ (f : Fid). s.takes_call h f (Ends names) next_recorded) is (λ f. takes f next_recorded found))

    closes_name : (called : List ℕ) → Leaves z (s.closes_name h called names)
    closes_name called = bound called names _ is (λ f r. is)

    leaves_call : (call data_file : Fid) (p q : Play) → Leaves z p → Leaves z q → Leaves z (s.leaves_call h call data_file p q)
    leaves_call call data_file p q refused next_recorded =
        closes data_file (s.closes_all h (call ∷ []) p) (s.closes_fid h call p q) (closes_all (call ∷ []) p refused) (closes call p q refused next_recorded)

    answers_call : (call data_file : Fid) (o : Option (List ℕ)) (p q : Play) → Leaves z p → Leaves z q → Leaves z (s.answers_call h call data_file o p q)
    answers_call call data_file None p q refused next_recorded = leaves_call call data_file p q refused next_recorded
    answers_call call data_file (Some text) p q refused next_recorded =
        λ r. accepted (s.leaves_call h call data_file p q) (s.closes_all h (data_file ∷ call ∷ []) p) (leaves_call call data_file p q refused next_recorded) (closes_all (data_file ∷ call ∷ []) p refused) r

    serves_call : (called : List ℕ) (p : Play) → Leaves z p → Leaves z (s.serves_call h called names p)
    serves_call called p later = call_with called reading read
      where
        reading : Fid → Fid → Addr → Addr → Play
        reading call data_file remote local =
            Asks (s.conversation_of h data_file) (event.Read data_file.generation 8192) (λ (r : Reply).
            s.if_accepted r (s.answers_call h call data_file (dns_answer names.zone (bytes_in r)) (Ends names) p) (s.closes_all h (data_file ∷ call ∷ []) (Ends names)))

        read : (call data_file : Fid) (remote local : Addr) → Leaves z (reading call data_file remote local)
        read call data_file remote local r =
            accepted (s.answers_call h call data_file (dns_answer names.zone (bytes_in r)) (Ends names) p) (s.closes_all h (data_file ∷ call ∷ []) (Ends names))
            (answers_call call data_file (dns_answer names.zone (bytes_in r)) (Ends names) p is later) (closes_all (data_file ∷ call ∷ []) (Ends names) is) r

    serves : (called : List ℕ) (more : ℕ) → Leaves z (s.serves h called names more)
    serves called zero = serves_call called (Ends names) is
    serves called (suc more) = serves_call called (s.serves h called names more) (serves called more)

  hears : (names : Names) → names.zone ≡ z → (count : ℕ) (call data_file : Fid) (heard_replies : Heard) → Leaves z (s.hears_call h names count call data_file heard_replies)
  hears names is count call data_file heard_replies =
      λ r. accepted (Ends (s.bind s.data_name data_file (s.bind s.call_name call (s.hearing heard_replies names)))) (s.closes_all h (data_file ∷ call ∷ []) (Ends (s.hearing heard_replies names))) is
      (closes_all (data_file ∷ call ∷ []) (Ends (s.hearing heard_replies names)) is) r

  -- whichever step it is
  leaves : (names : Names) → names.zone ≡ z → (t : Step) → Leaves z (play_of h names t)
  leaves names is (step.Open called path m) = new called names _ is (opens path (unwrap_or m (s.default_mode (walk path))) (s.openable (walk path) (unwrap_or m (s.default_mode (walk path)))) (Ends names) _ is (λ f. is))
  leaves names is (step.Read called count) = readable called names _ is (λ f r. is)
  leaves names is (step.Write called text) = writable called names _ is (λ f. puts f f.file text (Ends names) (Ends names) is is)
  leaves names is (step.Writex called text) = writable called names _ is (λ f. puts f f.file text (Ends names) (Ends names) is is)
  leaves names is (step.Close called) = closes_name names is called
  leaves names is (step.Ls path) = λ r. is
  leaves names is (step.Cs query) = λ r. is
  leaves names is (step.Until moment) = λ r. is
  leaves names is step.Refresh = λ r. is
  leaves names is (step.Dial called address) = new called names _ is (new (s.dotted_name called) names _ is (λ r. dials names is called (s.reply_lines r)))
  leaves names is (step.Announce called address) = new called names _ is (λ r. announces names is called (s.reply_lines r))
  leaves names is (step.Listen called from) = bound from names _ is (λ f. new called names _ is (opens [] mode.Both (Some (node.File f.proto f.slot file.Listen)) (Ends names) _ is (λ call. is)))
  leaves names is (step.Accept called from) = bound from names _ is (λ f. new called names _ is (opens [] mode.Both (Some (node.File f.proto f.slot file.Data)) (Ends names) _ is (λ data_file. is)))
  leaves names is (step.Reject called) = writable called names _ is (λ f. puts f f.file (codes "hangup") (Ends names) _ is (λ r. is))
  leaves names is (step.Hangup called) = writable called names _ is (λ f. puts f f.file (codes "hangup") (Ends names) (Ends names) is is)
  leaves names is (step.Hread called count) =
      call_with names is called
      (λ (call data_file : Fid) (remote local : Addr). s.hears_call h names count call data_file (record { name = called; remote = remote; local = local }))
      (λ call data_file remote local. hears names is count call data_file (record { name = called; remote = remote; local = local }))
  leaves names is (step.Hwrite called bytes) =
      on (s.open_call called names) (s.uses h s.data_name names) _ (λ r. is)
      (λ f. either (s.is_answer bytes names.heard) (s.answers h names (text_behind bytes) f) (s.misuses h s.data_name names) (λ written closed. closes_name (s.unbind s.data_name names) is s.call_name) (λ r. is))
  leaves names is (step.Dns called times) = serves names is called (times - 1)
  leaves names is _ = is

  -- steps over calls

  by_text_leaves : (text : List ℕ) (none : Play) (some : List ℕ → Play) → Leaves z none → ((t : List ℕ) → Leaves z (some t)) → Leaves z (by_text text none some)
  by_text_leaves [] none some closed found = closed
  by_text_leaves (b ∷ bs) none some closed found = found (b ∷ bs)

  sends_leaves : (own : Own) (m : Tmsg) (refused : Play) (next_recorded : List ℕ → Play) → Leaves z refused → ((t : List ℕ) → Leaves z (next_recorded t)) → Leaves z (sends_message own m refused next_recorded)
  sends_leaves own m refused next_recorded closed found =
      λ w. either (is_accepted w) (asks_on own.reads (λ (r : Reply). by_text (bytes_in r) refused next_recorded)) refused (λ r. by_text_leaves (bytes_in r) refused next_recorded closed found) closed

  sends_for_leaves : (own : Own) (m : Tmsg) (is_reply : List ℕ → Bool) (refused other next_recorded : Play) → Leaves z refused → Leaves z other → Leaves z next_recorded
      → Leaves z (sends_for own m is_reply refused other next_recorded)
  sends_for_leaves own m is_reply refused other next_recorded closed out going =
      sends_leaves own m refused (λ (t : List ℕ). if is_reply t then next_recorded else other) closed (λ t. either (is_reply t) next_recorded other going out)

  once_leaves : (own : Own) (m : Tmsg) (names : Names) → names.zone ≡ z → Leaves z (sends_once own m (Ends names))
  once_leaves own m names is = sends_leaves own m (Ends names) (λ (t : List ℕ). Ends names) is (λ t. is)

  imports_leave : (own : Own) (names : Names) → names.zone ≡ z
      → Leaves z (sends_for own version_message is_version (Ends names) (Ends names) (sends_once own attach_message (Ends names)))
  imports_leave own names is =
      sends_for_leaves own version_message is_version (Ends names) (Ends names) (sends_once own attach_message (Ends names)) is is (once_leaves own attach_message names is)

  opens_leave : (own : Own) (fid : ℕ) (path : List ℕ) (m : Mode) (names : Names) → names.zone ≡ z → Leaves z (opens_remote own fid path m (Ends names))
  opens_leave own fid path m names is =
      sends_for_leaves own (walk_message fid path) (is_whole path) (Ends names) (Ends names)
      (sends_for own (open_message fid m) is_open (Ends names) (sends_once own (clunk_message fid) (Ends names)) (Ends names)) is is
      (sends_for_leaves own (open_message fid m) is_open (Ends names) (sends_once own (clunk_message fid) (Ends names)) (Ends names) is
      (once_leaves own (clunk_message fid) names is) is)

  remote_leaves : (called : List ℕ) (names : Names) → names.zone ≡ z → (o : Option Remote) (message : ℕ → Tmsg) → Leaves z (sends_by h called names o message)
  remote_leaves called names is None message = λ r. is
  remote_leaves called names is (Some x) message = once_leaves (own_of h x.call names) (message x.fid) names is

  -- a request leaves the database to the session
  abbrev DoingLeaves : Doing State → Type 0
  DoingLeaves (Does ask next_recorded) = (r : Reply) → DoingLeaves (next_recorded r)
  DoingLeaves (Gives answer later) = later.names.zone ≡ z

  step_doing : (p : Play) (last : Option Reply) (go_on : Names → Option Reply → Doing State) → Leaves z p
      → ((names : Names) (o : Option Reply) → names.zone ≡ z → DoingLeaves (go_on names o)) → DoingLeaves (doing_of p last go_on)
  step_doing (Ends names) last go_on is rest = rest names last is
  step_doing (Asks a e next_recorded) last go_on is rest = λ r. step_doing (next_recorded r) (Some r) go_on (is r) rest

  last_doing : (st : State) (m : Tmsg) → st.names.zone ≡ z → (names : Names) (o : Option Reply) → names.zone ≡ z → DoingLeaves (by_last st m names o)
  last_doing st m is names None after = is
  last_doing st m is names (Some r) after = after

  served_by : (st : State) (m : Tmsg) (o : Option Step) → st.names.zone ≡ z → DoingLeaves (serves_by h st m o)
  served_by st m None is = is
  served_by st m (Some t) is = step_doing (play_of h st.names t) None (by_last st m) (leaves st.names is t) (λ names o after. last_doing st m is names o after)

  abbrev SharingLeaves : Doing Sharing → Type 0
  SharingLeaves (Does ask next_recorded) = (r : Reply) → SharingLeaves (next_recorded r)
  SharingLeaves (Gives answer later) = later.session.names.zone ≡ z

  shared : (opened : List ℕ) (m : Tmsg) (last : Option Reply) (d : Doing State) → DoingLeaves d → SharingLeaves (sharing opened m last d)
  shared opened m last (Does ask next_recorded) is = λ r. shared opened m (Some r) (next_recorded r) (is r)
  shared opened m last (Gives answer later) is = is

  served : (st : Sharing) (o : Option Tmsg) → st.session.names.zone ≡ z → SharingLeaves (serves_text h st o)
  served st None is = is
  served st (Some m) is =
      shared st.opened m None (serves_by h st.session m (option_map dotted_step (message_step st.session.table m))) (served_by st.session m (option_map dotted_step (message_step st.session.table m)) is)

  then_leaves : (d : Doing Sharing) (go_on : List ℕ → Sharing → Play) → SharingLeaves d
      → ((answer : List ℕ) (later : Sharing) → later.session.names.zone ≡ z → Leaves z (go_on answer later)) → Leaves z (then_play d go_on)
  then_leaves (Does ask next_recorded) go_on is rest = λ r. then_leaves (next_recorded r) go_on (is r) rest
  then_leaves (Gives answer later) go_on is rest = rest answer later is

  after_leaves : (p : Play) (go_on : Names → Play) → Leaves z p → ((names : Names) → names.zone ≡ z → Leaves z (go_on names)) → Leaves z (and_then p go_on)
  after_leaves (Ends names) go_on is rest = rest names is
  after_leaves (Asks a e next_recorded) go_on is rest = λ r. after_leaves (next_recorded r) go_on (is r) rest

  closing : (ns : List ℕ) (names : Names) → names.zone ≡ z → Leaves z (closes_each h ns names)
  closing [] names is = is
  closing (n ∷ ns) names is =
      after_leaves (play_of h names (step.Close (dotted_fid n))) (closes_each h ns) (leaves names is (step.Close (dotted_fid n))) (λ bound after. closing ns bound after)

  exporting : (own : Own) (n : ℕ) (st : Sharing) → st.session.names.zone ≡ z → Leaves z (exports (exported h) own n st)
  exporting own zero st is = is
  exporting own (suc n) st is =
      λ r. by_text_leaves (bytes_in r) (closes_each h st.opened st.session.names) _ (closing st.opened st.session.names is) (λ text.
      then_leaves (serves_text h st (read_t text)) _ (served st (read_t text) is) (λ answer later later_is written.
      either (is_accepted written) (exports (exported h) own n later) (closes_each h later.opened later.session.names) (exporting own n later later_is)
      (closing later.opened later.session.names later_is)))

  own_leaves : (k : Kept) → k.names.zone ≡ z → (t : Step) → Leaves z (own_play h k t)
  own_leaves k is (step.Export called) =
      either (is_dotted called) (s.uses h called k.names) (exports (exported h) (own_of h called k.names) most_requests (unheard k.names)) (λ r. is)
      (exporting (own_of h called k.names) most_requests (unheard k.names) is)
  own_leaves k is (step.Import call) = imports_leave (own_of h call k.names) k.names is
  own_leaves k is (step.Ropen called call path m) =
      either (is_remote_path path && not (is_bound k.names call && is_bound k.names called)) (opens_remote (own_of h call k.names) (free_fid k.left call) path m (Ends k.names)) (s.uses h called k.names)
      (opens_leave (own_of h call k.names) (free_fid k.left call) path m k.names is) (λ r. is)
  own_leaves k is (step.Rread called count) = remote_leaves called k.names is (remote_of called k.left) (λ (fid : ℕ). read_message fid count)
  own_leaves k is (step.Rwrite called text) =
      either (nat_le (length text) longest_text) (sends_by h called k.names (remote_of called k.left) (λ (fid : ℕ). write_message fid text)) (s.uses h called k.names)
      (remote_leaves called k.names is (remote_of called k.left) (λ (fid : ℕ). write_message fid text)) (λ r. is)
  own_leaves k is (step.Rclose called) = remote_leaves called k.names is (remote_of called k.left) clunk_message
  own_leaves k is t = leaves k.names is t

  taken_leaves : (k : Kept) → k.names.zone ≡ z → (t : Step) (o : Option (List ℕ)) → Leaves z (play_by h k t o)
  taken_leaves k is t None = own_leaves k is t
  taken_leaves k is t (Some called) = λ r. is

  step_leaves : (k : Kept) → k.names.zone ≡ z → (t : Step) → Leaves z (step_play h k t)
  step_leaves k is t = taken_leaves k is t (find (is_remote k.left) (new_names t))

left_by : (z : Tuples) (p : Play) (xs : List Entry) (bound : Names) → Leaves z p → IsPlayRecorded p xs bound → bound.zone ≡ z
left_by z (Ends names) [] bound is played = sym (ap (λ (n : Names). n.zone) played) ∙ is
left_by z (Ends names) (x ∷ xs) bound is played = absurd played
left_by z (Asks a e next_recorded) [] bound is played = absurd played
left_by z (Asks a e next_recorded) (x ∷ xs) bound is played = left_by z (next_recorded x.reply) xs bound (is x.reply) played.1

-- What is written is the answer to what was read just before.

-- a read of at most 8,192 bytes
record IsRead (x : Entry) : Type 0 where
  generation : ℕ
  is : x.event ≡ event.Read generation 8192

-- the entry before is such a read at this actor, and this text is the answer to what it read
abbrev IsAnswerTo : Tuples → ActorName → List ℕ → Option Entry → Type 0
IsAnswerTo z a text None = ⊥
IsAnswerTo z a text (Some x) = (x.actor ≡ a) × IsRead x × (dns_answer z (bytes_in x.reply) ≡ Some text)

-- the event is no write, or writes such an answer
abbrev Tells : Tuples → ActorName → Option Entry → Event → Type 0
Tells z a last (event.Write g text) = IsAnswerTo z a text last
Tells z a last _ = Unit {0}

-- each text that the play writes is such an answer, where this entry stands before its first one
abbrev Telling : Tuples → Option Entry → Play → Type 0
Telling z last (Ends names) = Unit {0}
Telling z last (Asks a e next_recorded) = Tells z a last e × ((x : Entry) → asked_by x ≡ record { actor = a; event = e } → Telling z (Some x) (next_recorded x.reply))

-- whatever stands before
abbrev Quiet : Tuples → Play → Type 0
Quiet z p = (last : Option Entry) → Telling z last p

module _ (z : Tuples) (h : ℕ) where
  either_quiet : (b : Bool) (last : Option Entry) (p q : Play) → Telling z last p → Telling z last q → Telling z last (if b then p else q)
  either_quiet true last p q yes_p yes_q = yes_p
  either_quiet false last p q yes_p yes_q = yes_q

  on_quiet : (o : Option Fid) (p : Play) (next_recorded : Fid → Play) → Quiet z p → ((f : Fid) → Quiet z (next_recorded f)) → Quiet z (on_fid o p next_recorded)
  on_quiet None p next_recorded refused found = refused
  on_quiet (Some f) p next_recorded refused found = found f

  accepted_quiet : (p q : Play) → Quiet z p → Quiet z q → (r : Reply) → Quiet z (s.if_accepted r p q)
  accepted_quiet p q yes_p yes_q r last = either_quiet (is_accepted r) last p q (yes_p last) (yes_q last)

  opened_tells : (path : List ℕ) (m : Mode) (n : Option Node) (a : ActorName) (last : Option Entry) → Tells z a last (s.open_event path m n)
  opened_tells path m None a last = tt
  opened_tells path m (Some node.Root) a last = tt
  opened_tells path m (Some (node.Proto p)) a last = tt
  opened_tells path m (Some (node.Clone p)) a last = tt
  opened_tells path m (Some (node.Dir p n)) a last = tt
  opened_tells path m (Some (node.File p n file.Listen)) a last = tt
  opened_tells path m (Some (node.File p n f)) a last = tt
  opened_tells path m (Some _) a last = tt

  opens_quiet : (path : List ℕ) (m : Mode) (n : Option Node) (p : Play) (next_recorded : Fid → Play) → Quiet z p → ((f : Fid) → Quiet z (next_recorded f)) → Quiet z (s.opens_node h path m n p next_recorded)
  opens_quiet path m n p next_recorded refused found last =
      (opened_tells path m n (s.open_actor h n) last, λ x asked. on_quiet (opened_fid m n x.reply) p next_recorded refused found (Some x))

  closes_quiet : (f : Fid) (p q : Play) → Quiet z p → Quiet z q → Quiet z (s.closes_fid h f p q)
  closes_quiet f p q refused next_recorded last = (tt, λ x asked. accepted_quiet q p next_recorded refused x.reply (Some x))

  all_quiet : (fs : List Fid) (p : Play) → Quiet z p → Quiet z (s.closes_all h fs p)
  all_quiet [] p next_recorded = next_recorded
  all_quiet (f ∷ fs) p next_recorded = λ last. (tt, λ x asked. all_quiet fs p next_recorded (Some x))

  tells_quiet : (call : Fid) (told : FileName) (others : List Fid) (p : Play) (next_recorded : Addr → Play) → Quiet z p → ((a : Addr) → Quiet z (next_recorded a)) → Quiet z (s.tells_address h call told others p next_recorded)
  tells_quiet call told others p next_recorded refused found =
      opens_quiet [] mode.Read (Some (node.File call.proto call.slot told)) (s.closes_all h others p)
      (λ (f : Fid). Asks (s.conversation_of h f) (event.File f.generation told 64) (λ (r : Reply).
      s.if_accepted r (s.closes_fid h f (s.closes_all h others p) (next_recorded (s.address_told (bytes_in r)))) (s.closes_all h (f ∷ others) p)))
      (all_quiet others p refused)
      (λ f last. (
        tt,
        λ x asked. accepted_quiet (s.closes_fid h f (s.closes_all h others p) (next_recorded (s.address_told (bytes_in x.reply)))) (s.closes_all h (f ∷ others) p)
            (closes_quiet f (s.closes_all h others p) (next_recorded (s.address_told (bytes_in x.reply))) (all_quiet others p refused) (found (s.address_told (bytes_in x.reply))))
            (all_quiet (f ∷ others) p refused) x.reply (Some x),
      ))

  module _ (names : Names) where
    takes_quiet : (f : Fid) (next_recorded : Fid → Fid → Addr → Addr → Play) → ((call data_file : Fid) (remote local : Addr) → Quiet z (next_recorded call data_file remote local))
        → Quiet z (s.takes_call h f (Ends names) next_recorded)
    takes_quiet f next_recorded found =
        opens_quiet [] mode.Both (Some (node.File f.proto f.slot file.Listen)) (Ends names) _ (λ last. tt) (λ call.
        opens_quiet [] mode.Both (Some (node.File call.proto call.slot file.Data)) (s.closes_all h (call ∷ []) (Ends names)) _ (all_quiet (call ∷ []) (Ends names) (λ last. tt)) (λ data_file.
        tells_quiet call file.Remote (data_file ∷ call ∷ []) (Ends names)
        (λ (remote : Addr). s.tells_address h call file.Local (data_file ∷ call ∷ []) (Ends names) (λ (local : Addr). next_recorded call data_file remote local)) (λ last. tt) (λ remote.
        tells_quiet call file.Local (data_file ∷ call ∷ []) (Ends names) (λ (local : Addr). next_recorded call data_file remote local) (λ last. tt) (λ local. found call data_file remote local))))

    used_quiet : (called : List ℕ) → Quiet z (s.uses h called names)
    used_quiet called last = (tt, λ x asked. tt)

    taken_quiet : (o : Option (List ℕ)) (p : Play) → Quiet z p → Quiet z (s.on_taken o (λ (used : List ℕ). s.uses h used names) p)
    taken_quiet None p quiet = quiet
    taken_quiet (Some used) p quiet = used_quiet used

    leaves_quiet : (call data_file : Fid) (p q : Play) → Quiet z p → Quiet z q → Quiet z (s.leaves_call h call data_file p q)
    leaves_quiet call data_file p q refused next_recorded =
        closes_quiet data_file (s.closes_all h (call ∷ []) p) (s.closes_fid h call p q) (all_quiet (call ∷ []) p refused) (closes_quiet call p q refused next_recorded)

    -- behind the read
    answered : (call data_file : Fid) (o : Option (List ℕ)) (x : Entry) (p : Play) → Quiet z p → x.actor ≡ s.conversation_of h data_file
        → IsRead x → dns_answer z (bytes_in x.reply) ≡ o → Telling z (Some x) (s.answers_call h call data_file o (Ends names) p)
    answered call data_file None x p next_recorded at read is = leaves_quiet call data_file (Ends names) p (λ last. tt) next_recorded (Some x)
    answered call data_file (Some text) x p next_recorded at read is = (
      (at, read, is),
      λ y asked. accepted_quiet (s.leaves_call h call data_file (Ends names) p) (s.closes_all h (data_file ∷ call ∷ []) (Ends names))
          (leaves_quiet call data_file (Ends names) p (λ last. tt) next_recorded) (all_quiet (data_file ∷ call ∷ []) (Ends names) (λ last. tt)) y.reply (Some y),
    )

    serve_tells : (zone_is : names.zone ≡ z) (called : List ℕ) (p : Play) → Quiet z p → Quiet z (s.serves_call h called names p)
    serve_tells zone_is called p next_recorded =
        taken_quiet (s.taken_name names) (s.with_bound h called names (λ (f : Fid). s.takes_call h f (Ends names) reading))
        (on_quiet (fid_of called names) (s.uses h called names) (λ (f : Fid). s.takes_call h f (Ends names) reading) (used_quiet called) (λ f. takes_quiet f reading told))
      where
        reading : Fid → Fid → Addr → Addr → Play
        reading call data_file remote local =
            Asks (s.conversation_of h data_file) (event.Read data_file.generation 8192) (λ (r : Reply).
            s.if_accepted r (s.answers_call h call data_file (dns_answer names.zone (bytes_in r)) (Ends names) p) (s.closes_all h (data_file ∷ call ∷ []) (Ends names)))

        told : (call data_file : Fid) (remote local : Addr) → Quiet z (reading call data_file remote local)
        told call data_file remote local last = (
          tt,
          λ x asked. either_quiet (is_accepted x.reply) (Some x) (s.answers_call h call data_file (dns_answer names.zone (bytes_in x.reply)) (Ends names) p) (s.closes_all h (data_file ∷ call ∷ []) (Ends names))
              (answered call data_file (dns_answer names.zone (bytes_in x.reply)) x p next_recorded (ap (λ (k : Ask). k.actor) asked) (record { generation = data_file.generation; is = ap (λ (k : Ask). k.event) asked })
              (ap (λ (t : Tuples). dns_answer t (bytes_in x.reply)) (sym zone_is)))
              (all_quiet (data_file ∷ call ∷ []) (Ends names) (λ last. tt) (Some x)),
        )

    serves_tell : (zone_is : names.zone ≡ z) (called : List ℕ) (more : ℕ) → Quiet z (s.serves h called names more)
    serves_tell zone_is called zero = serve_tells zone_is called (Ends names) (λ last. tt)
    serves_tell zone_is called (suc more) = serve_tells zone_is called (s.serves h called names more) (serves_tell zone_is called more)

-- Entries.

abbrev latest : Option Entry → List Entry → Option Entry
latest last [] = last
latest last (x ∷ xs) = latest (Some x) xs

ask_is : (a b : Ask) → Asking a ≡ Asking b → a ≡ b
ask_is a b is = ap asked_in is
  where
    asked_in : Stand → Ask
    asked_in (Asking ask) = ask
    asked_in (Finished names rs) = a

-- the entry that the play asks for next tells what it should
told_next : (z : Tuples) (p : Play) (last : Option Entry) (xs : List Entry) (x : Entry) → Telling z last p → Begins p xs → stands p (replies xs) ≡ Asking (asked_by x) → Tells z x.actor (latest last xs) x.event
told_next z (Ends names) last xs x tells begins is = absurd begins
told_next z (Asks a e next_recorded) last [] x tells begins is =
    subst (λ (k : Ask). Tells z k.actor last k.event) (ask_is (record { actor = a; event = e }) (asked_by x) is) tells.0
told_next z (Asks a e next_recorded) last (y ∷ ys) x tells begins is = told_next z (next_recorded y.reply) (Some y) ys x (tells.1 y begins.0) begins.1 is

-- the last entry stands at the end
ends_so : (y : Entry) (ys : List Entry) (x : Entry) → latest (Some y) ys ≡ Some x → (front : List Entry) × (y ∷ ys ≡ front ++ x ∷ [])
ends_so y [] x is = ([], ap (λ (t : Entry). t ∷ []) (same_Some y x is))
ends_so y (t ∷ ts) x is = let r = ends_so t ts x is in (y ∷ r.0, ap (λ (xs : List Entry). y ∷ xs) r.1)

answers_so : (z : Tuples) (xs : List Entry) (x : Entry) (text : List ℕ) (o : Option Entry) → latest None xs ≡ o → IsAnswerTo z x.actor text o → AnswersRead z xs x text
answers_so z xs x text None is answer = absurd answer
answers_so z [] x text (Some y) is answer = absurd (none-some y is)
answers_so z (t ∷ ts) x text (Some y) is answer =
    let r = ends_so t ts y is in
    record { front = r.0; question = y; generation = answer.1.generation; all = r.1; actor_is = answer.0; event_is = answer.1.is; answer = answer.2 }

behind : (z : Tuples) (own rest all : List Entry) (x : Entry) (text : List ℕ) → all ≡ own ++ rest → AnswersRead z rest x text → AnswersRead z all x text
behind z own rest all x text is a =
    record {
      front = own ++ a.front;
      question = a.question;
      generation = a.generation;
      all = is ∙ ap (λ (ys : List Entry). own ++ ys) a.all ∙ sym (append_assoc own a.front (a.question ∷ []));
      actor_is = a.actor_is;
      event_is = a.event_is;
      answer = a.answer;
    }

-- Steps.

-- the script stands in a `dns` step, and this write comes next
pub record Writing (p : Position) (x : Entry) (text : List ℕ) : Type 0 where
  pub next : p.next ≡ Some (asked_by x)
  pub generation : ℕ
  pub event_is : x.event ≡ event.Write generation text
  pub called : List ℕ
  pub times : ℕ
  pub later : List Step
  pub step_is : p.left ≡ step.Dns called times ∷ later

first_step : (a b : Step) (ts us : List Step) → a ∷ ts ≡ b ∷ us → a ≡ b
first_step a b ts us is = ap first is
  where
    first : List Step → Step
    first [] = a
    first (t ∷ rest) = t

module _ (z : Tuples) (sc : Script) (x : Entry) (text : List ℕ) where
  in_first : (k : Kept) → k.names.zone ≡ z → (t : Step) (ts : List Step) (xs : List Entry) (ask : Ask) → Begins (step_play sc.host k t) xs
      → stands (step_play sc.host k t) (replies xs) ≡ Asking ask → Writing (record { next = Some ask; left = t ∷ ts }) x text → AnswersRead z xs x text
  in_first k is t ts xs ask begins at writing =
      let step_is : t ≡ step.Dns writing.called writing.times = first_step t (step.Dns writing.called writing.times) ts writing.later writing.step_is in
      let begun : Begins (s.serves sc.host writing.called k.names (writing.times - 1)) xs = subst (λ (u : Step). Begins (step_play sc.host k u) xs) step_is begins in
      let stands_so : stands (s.serves sc.host writing.called k.names (writing.times - 1)) (replies xs) ≡ Asking (asked_by x) =
      subst (λ (u : Step). stands (step_play sc.host k u) (replies xs) ≡ Asking (asked_by x)) step_is (at ∙ ap Asking (same_Some ask (asked_by x) writing.next)) in
      let told =
      told_next z (s.serves sc.host writing.called k.names (writing.times - 1)) None xs x (serves_tell z sc.host k.names is writing.called (writing.times - 1) None) begun stands_so in
      answers_so z xs x text (latest None xs) refl (subst (λ (e : Event). Tells z x.actor (latest None xs) e) writing.event_is told)

  pub answered_in : (ts : List Step) (k : Kept) → k.names.zone ≡ z → (n : ℕ) (xs : List Entry) → StandInOrder (scripted z sc) k ts n xs
      → Writing (position sc.host ts k (replies xs)) x text → AnswersRead z xs x text
  answered_in [] k is n xs there writing = absurd (none-some (asked_by x) writing.next)
  answered_in (t ∷ ts) k is zero xs there writing =
      let asks_on = begins_asks (step_play sc.host k t) xs there in
      in_first k is t ts xs asks_on.0 there asks_on.1
      (subst (λ (at : Stand).
      Writing (position_by at (t ∷ ts) (λ (after : Names) (later : List Reply). position sc.host ts (kept_after k t after (heard_replies (step_play sc.host k t) (replies xs))) later)) x text) asks_on.1 writing)
  answered_in (t ∷ ts) k is (suc n) xs there writing =
      behind z there.own there.rest xs x text there.all
      (answered_in ts (kept_after k t there.bound (replies there.own)) (left_by z (step_play sc.host k t) there.own there.bound (step_leaves z sc.host k is t) there.played) n there.rest there.later
      (subst (λ (p : Position). Writing p x text) (goes_on z sc k t ts n xs there) writing))

-- Histories.

pub answers_questions : (w : World) (c : ℕ) (s : Script) → caller_of w c ≡ IsScript s → (h : List Entry) → IsLegal w h → AnswersQuestions w h c s
answers_questions w c s is h legal k x text mode_writes =
    let may : MayFollow w (take k h) x = legal k x mode_writes.stands in
    answered_in (zone_of w) s x text s.steps (at_first (zone_of w)) refl (finished_by (zone_of w) (own_replies (take k h) c) s) (own_entries (take k h) c)
    (keeps_script w c s is (take k h) (legal_take w h k legal)).finished
    (record {
      next =
          asks_next w (take k h) (owed w (take k h) c) (caller_of w c) c s x (sym mode_writes.cites_is ∙ subst (λ (d : ℕ). x.cites ≡ cites_of (owed w (take k h) d)) mode_writes.caller_is may.cites) is
          (subst (λ (d : ℕ). IsAsked (owed w (take k h) d) (caller_of w d) (next_recorded w (take k h) d) x) mode_writes.caller_is may.is_asked);
      generation = mode_writes.generation;
      event_is = mode_writes.event_is;
      called = mode_writes.called;
      times = mode_writes.times;
      later = mode_writes.behind;
      step_is = mode_writes.step_is;
    })
