-- What holds of each event that the steps over calls record, and so of each event of a script.
use Rattle.std.proofs.Common.{◌≡◌, ℕ, zero, suc, Bool, true, false, ◌&&◌, cond, List, [], ◌∷◌, ◌++◌, Option, Some, None, Result, Ok, Err, refl, subst}
use Rattle.std.specs.Prelude.{find, option_map, nat_le, length, not, bytes_eq, filter}
use Rattle.std.specs.Option.{option_and_then}
use Rattle.std.proofs.lemmas.Option.{none-some, same_Some}
use Rattle.net_base.specs.declared.actor.ActorName.{ActorName}
use Rattle.net_base.specs.declared.event.Event.{Event}
use Rattle.net_base.specs.declared.event.Event.TheVariants as event
use Rattle.net_base.specs.declared.left.Left.{Left}
use Rattle.net_base.specs.declared.left.Remote.{Remote}
use Rattle.net_base.specs.declared.names.Ctl.TheVariants as ctl
use Rattle.net_base.specs.declared.names.Ctl.{Ctl}
use Rattle.net_base.specs.declared.names.FileName.{FileName}
use Rattle.net_base.specs.declared.names.FileName.TheVariants as file
use Rattle.net_base.specs.declared.names.Mode.{Mode}
use Rattle.net_base.specs.declared.ninep.Target.{Target}
use Rattle.net_base.specs.declared.ninep.Tmsg.{Tmsg}
use Rattle.net_base.specs.declared.ninep.Tmsg.TheVariants as t
use Rattle.net_base.specs.declared.reply.Reply.{Reply}
use Rattle.net_base.specs.declared.world.Step.{Step}
use Rattle.net_base.specs.declared.world.Step.TheVariants as step
use Rattle.net_base.specs.Asks as asked
use Rattle.net_base.specs.ControlWords as control
use Rattle.net_base.specs.Exports.{Own, and_then, asks_on, by_text, closes_each, dotted_fid, dotted_step, export_play, exported, exports, is_dotted, most_requests, own_of, serves_text, sharing, then_play, unheard, Sharing}
use Rattle.net_base.specs.Imports.{attach_message, clunk_message, imports, is_open, is_version, is_whole, longest_text, open_message, opens_remote, read_message, sends_message, sends_by, sends_for, sends_once, version_message, walk_message, was_opened, write_message}
use Rattle.net_base.specs.NinepMessages.{t_bytes}
use Rattle.net_base.specs.NinepReading.{read_t}
use Rattle.net_base.specs.Paths.{mode_reads, mode_writes}
use Rattle.net_base.specs.Remotes.{free_fid, is_remote, is_remote_path, remote_of, with_remote}
use Rattle.net_base.specs.Scripts.{Kept, heard_replies, kept_after, left_after, new_names, own_play, play_by, position, step_play}
use Rattle.net_base.specs.Server.{Doing, Does, Gives, Server, doing_of}
use Rattle.net_base.specs.Session.{State, by_last, serves_by}
use Rattle.net_base.specs.SessionFiles.{access, is_cs, is_plain}
use Rattle.net_base.specs.SessionScript.{close_step, cs_step, fid_name, gives_nothing, is_query, open_step, opening_step, read_count, read_step, reading_step as reads_fid, room, message_step, write_step}
use Rattle.net_base.specs.SessionTable.{Table, used}
use Rattle.net_base.specs.Steps.{Ask, Names, Fid, Play, Asks, Ends, conversation_of, fid_of, is_accepted, is_bound, play_of, stands, uses, read_event, bytes_in}
use Rattle.history_laws.proofs.Ordered.{Each}
use Rattle.history_laws.proofs.StepEvents as one
use Rattle.history_laws.proofs.StepEvents.{Fits, IsExporting, IsNamed, IsNextEvent, Records, Says}

module _ (h : ℕ) (P : ActorName → Event → Type 0) (R : Reply → Type 0) (fits : Fits P R) where
  abbrev Good : Play → Type 0
  Good p = Records P R p

  -- P holds of what is asked
  abbrev pub AsksWell : Ask → Type 0
  AsksWell a = P a.actor a.event

  -- ---- on the file of a call

  either_ask : (b : Bool) (x y : Ask) → AsksWell x → AsksWell y → AsksWell (cond b x y)
  either_ask true x y f g = f
  either_ask false x y f g = g

  reads_well : (called : List ℕ) (o : Option Fid) → IsNamed h P called → AsksWell (asked.read_ask h called 8192 o)
  reads_well called None named = named.0
  reads_well called (Some f) named =
      either_ask (mode_reads f.mode) (asked.at_file h f (read_event f 8192 f.file)) (asked.at_desk h (event.Misuse called))
      (one.reads_of h P R fits (conversation_of h f) f 8192 f.file) named.1

  controls_well : (f : Fid) (text : List ℕ) (read : Result Ctl ℕ) → AsksWell (asked.controls_by h f text read)
  controls_well f text (Ok (ctl.Connect remote lport)) = fits.other _ (event.Grant f.slot f.generation remote lport) tt
  controls_well f text (Ok (ctl.Announce ip port)) = fits.other _ (event.Announce f.slot f.generation ip port) tt
  controls_well f text (Ok (ctl.Bind port)) = fits.other _ (event.Bind f.slot f.generation port) tt
  controls_well f text (Ok ctl.Hangup) = fits.other _ (event.Hangup f.generation) tt
  controls_well f text (Ok (ctl.Ttl n)) = fits.other _ (event.Ttl f.generation n) tt
  controls_well f text (Ok (ctl.Tos n)) = fits.other _ (event.Tos f.generation n) tt
  controls_well f text (Err fault) = fits.other _ (event.Ctl f.generation text) tt

  puts_well : (f : Fid) (text : List ℕ) (to : FileName) → AsksWell (asked.put_ask h f text to)
  puts_well f text file.Data = fits.other _ (event.Write f.generation text) tt
  puts_well f text file.Ctl = controls_well f text (control.read text)
  puts_well f text file.Listen = controls_well f text (control.read text)
  puts_well f text file.Local = controls_well f text (control.read text)
  puts_well f text file.Remote = controls_well f text (control.read text)
  puts_well f text file.Status = controls_well f text (control.read text)
  puts_well f text file.Err = controls_well f text (control.read text)

  writes_well : (called text : List ℕ) (o : Option Fid) → IsNamed h P called → AsksWell (asked.write h called text o)
  writes_well called text None named = named.0
  writes_well called text (Some f) named =
      either_ask (mode_writes f.mode) (asked.put_ask h f text f.file) (asked.at_desk h (event.Misuse called)) (puts_well f text f.file) named.1

  -- P holds of what a step asks on its own file
  pub record OwnWell (own : Own) : Type 0 where
    pub reading : AsksWell own.reads
    pub writing : (text : List ℕ) → AsksWell (own.writes text)

  own_well : (called : List ℕ) (names : Names) → IsNamed h P called → OwnWell (own_of h called names)
  own_well called names named = record {
    reading = reads_well called (fid_of called names) named;
    writing = λ text. writes_well called text (fid_of called names) named;
  }

  by_text_good : (text : List ℕ) (none : Play) (some : List ℕ → Play) → Good none → ((u : List ℕ) → Good (some u)) → Good (by_text text none some)
  by_text_good [] none some f g = f
  by_text_good (b ∷ bs) none some f g = g (b ∷ bs)

  -- ---- importing

  sends_good : (own : Own) (m : Tmsg) (refused : Play) (next : List ℕ → Play) → OwnWell own → Good refused → ((u : List ℕ) → Good (next u)) → Good (sends_message own m refused next)
  sends_good own m refused next well f g = (
    well.writing (t_bytes m),
    λ w fine. one.either h P R fits (is_accepted w) (asks_on own.reads (λ (r : Reply). by_text (bytes_in r) refused next)) refused
        (well.reading, λ r good. by_text_good (bytes_in r) refused next f g) f,
  )

  sends_for_good : (own : Own) (m : Tmsg) (is : List ℕ → Bool) (refused other next : Play) → OwnWell own → Good refused → Good other → Good next → Good (sends_for own m is refused other next)
  sends_for_good own m is refused other next well f g n =
      sends_good own m refused (λ (u : List ℕ). cond (is u) next other) well f (λ u. one.either h P R fits (is u) next other n g)

  once_good : (own : Own) (m : Tmsg) (ends : Play) → OwnWell own → Good ends → Good (sends_once own m ends)
  once_good own m ends well f = sends_good own m ends (λ (u : List ℕ). ends) well f (λ u. f)

  imports_good : (own : Own) (names : Names) → OwnWell own → Good (imports own (Ends names))
  imports_good own names well =
      sends_for_good own version_message is_version (Ends names) (Ends names) (sends_once own attach_message (Ends names)) well tt tt (once_good own attach_message (Ends names) well tt)

  opens_good : (own : Own) (fid : ℕ) (path : List ℕ) (m : Mode) (names : Names) → OwnWell own → Good (opens_remote own fid path m (Ends names))
  opens_good own fid path m names well =
      sends_for_good own (walk_message fid path) (is_whole path) (Ends names) (Ends names) _ well tt tt
      (sends_for_good own (open_message fid m) is_open (Ends names) (sends_once own (clunk_message fid) (Ends names)) (Ends names) well tt
      (once_good own (clunk_message fid) (Ends names) well tt) tt)

  -- the calls of remote names are names that steps say
  abbrev pub FineLeft : Left → Type 0
  FineLeft left = Each (λ (r : Remote). IsNamed h P r.call) left.remotes

  found_fine : (called : List ℕ) (rs : List Remote) → Each (λ (r : Remote). IsNamed h P r.call) rs → (r : Remote) → find (λ (x : Remote). bytes_eq called x.name) rs ≡ Some r → IsNamed h P r.call
  found_fine called [] fine r is = absurd (none-some r is)
  found_fine called (x ∷ xs) fine r is = by_case (bytes_eq called x.name) is (λ same. found_fine called xs fine.1 r same)
    where
      by_case : (b : Bool) → cond b (Some x) (find (λ (y : Remote). bytes_eq called y.name) xs) ≡ Some r
          → (find (λ (y : Remote). bytes_eq called y.name) xs ≡ Some r → IsNamed h P r.call) → IsNamed h P r.call
      by_case true same later = subst (λ (y : Remote). IsNamed h P y.call) (same_Some x r same) fine.0
      by_case false same later = later same

  sends_by_good : (called : List ℕ) (names : Names) (o : Option Remote) (message : ℕ → Tmsg) → IsNamed h P called → ((r : Remote) → o ≡ Some r → IsNamed h P r.call) → Good (sends_by h called names o message)
  sends_by_good called names None message named fine = one.ending h P R fits _ _ names named.0
  sends_by_good called names (Some r) message named fine = once_good (own_of h r.call names) (message r.fid) (Ends names) (own_well r.call names (fine r refl)) tt

  remote_good : (called : List ℕ) (names : Names) (left : Left) (message : ℕ → Tmsg) → IsNamed h P called → FineLeft left → Good (sends_by h called names (remote_of called left) message)
  remote_good called names left message named fine = sends_by_good called names (remote_of called left) message named (found_fine called left.remotes fine)

  -- ---- exporting

  -- P holds of each event of a request, where R holds of its replies
  abbrev pub DoingRecords : {S : Type 0} → Doing S → Type 0
  DoingRecords (Does ask next) = AsksWell ask × ((r : Reply) → R r → DoingRecords (next r))
  DoingRecords (Gives answer later) = Unit {0}

  then_good : {S : Type 0} (d : Doing S) (go_on : List ℕ → S → Play) → DoingRecords d → ((answer : List ℕ) (later : S) → Good (go_on answer later)) → Good (then_play d go_on)
  then_good (Does ask next) go_on own rest = (own.0, λ r fine. then_good (next r) go_on (own.1 r fine) rest)
  then_good (Gives answer later) go_on own rest = rest answer later

  pub exports_good : {S : Type 0} (v : Server S (List ℕ)) (own : Own) → OwnWell own → ((s : S) (text : List ℕ) → DoingRecords (v.serves s text)) → ((s : S) → Good (v.closes s)) → (n : ℕ) (s : S) → Good (exports v own n s)
  exports_good v own well serve close zero s = tt
  exports_good {S} v own well serve close (suc n) s = (
    well.reading,
    λ r fine. by_text_good (bytes_in r) (v.closes s) _ (close s) (λ text.
        then_good (v.serves s text) _ (serve s text) (λ answer later. (
          well.writing answer,
          λ w good. one.either h P R fits (is_accepted w) (exports v own n later) (v.closes later) (exports_good v own well serve close n later) (close later),
        ))),
  )

  -- a request that is one step records what the step's play records
  step_records : {S : Type 0} (p : Play) (last : Option Reply) (go_on : Names → Option Reply → Doing S) → Good p → ((names : Names) (o : Option Reply) → DoingRecords (go_on names o)) → DoingRecords (doing_of p last go_on)
  step_records (Ends names) last go_on own rest = rest names last
  step_records (Asks a e next) last go_on own rest = (own.0, λ r fine. step_records (next r) (Some r) go_on (own.1 r fine) rest)

  -- the steps of an exporting step's messages
  abbrev OnStep : Option Step → Type 0
  OnStep None = Unit {0}
  OnStep (Some s) = Says h P (dotted_step s)

  on_then : (o : Option Target) (g : Target → Option Step) → ((f : Target) → OnStep (g f)) → OnStep (option_and_then g o)
  on_then None g each = tt
  on_then (Some f) g each = each f

  on_either : (b : Bool) (x y : Option Step) → OnStep x → OnStep y → OnStep (cond b x y)
  on_either true x y f g = f
  on_either false x y f g = g

  module _ (is : IsExporting h P) where
    on_open : (fid mode : ℕ) (f : Target) → OnStep (open_step fid mode f)
    on_open fid mode f = on_either (is_plain f.node) (option_map (opening_step fid f.node) (access mode)) None (by_mode (access mode)) tt
      where
        by_mode : (o : Option Mode) → OnStep (option_map (opening_step fid f.node) o)
        by_mode None = tt
        by_mode (Some m) = (is.named fid, is.opened f.node)

    on_read : (table : Table) (fid offset count : ℕ) (f : Target) → OnStep (read_step table fid offset count f)
    on_read table fid offset count f =
        on_either (gives_nothing f.node offset count) None (option_map (reads_fid fid) (read_count offset (room table count) f.node)) tt (by_count (read_count offset (room table count) f.node))
      where
        by_count : (o : Option ℕ) → OnStep (option_map (reads_fid fid) o)
        by_count None = tt
        by_count (Some n) = is.named fid

    on_write : (fid : ℕ) (bytes : List ℕ) (f : Target) → OnStep (write_step fid bytes f)
    on_write fid bytes f =
        on_either (is_cs f.node) (cs_step bytes) (Some (step.Writex (fid_name fid) bytes)) (on_either (is_query bytes) (Some (step.Cs bytes)) None tt tt) (is.named fid)

    on_close : (fid : ℕ) (f : Target) → OnStep (close_step fid f)
    on_close fid f = on_either (is_plain f.node) (Some (step.Close (fid_name fid))) None (is.named fid) tt

    on_step : (table : Table) (m : Tmsg) → OnStep (message_step table m)
    on_step table (t.Open tag fid mode) = on_then (table.fids fid) (open_step fid mode) (on_open fid mode)
    on_step table (t.Read tag fid offset count) = on_then (used table fid) (read_step table fid offset count) (on_read table fid offset count)
    on_step table (t.Write tag fid offset bytes) = on_then (used table fid) (write_step fid bytes) (on_write fid bytes)
    on_step table (t.Clunk tag fid) = on_then (used table fid) (close_step fid) (on_close fid)
    on_step table (t.Remove tag fid) = on_then (used table fid) (close_step fid) (on_close fid)
    on_step table _ = tt

    by_step : (s : State) (m : Tmsg) (o : Option Step) → OnStep o → DoingRecords (serves_by h s m (option_map dotted_step o))
    by_step s m None says = tt
    by_step s m (Some x) says =
        step_records (play_of h s.names (dotted_step x)) None (by_last s m) (one.played h P R fits s.names (dotted_step x) says) (λ names o. on_last names o)
      where
        on_last : (names : Names) (o : Option Reply) → DoingRecords (by_last s m names o)
        on_last names None = tt
        on_last names (Some r) = tt

    shared : (opened : List ℕ) (m : Tmsg) (last : Option Reply) (d : Doing State) → DoingRecords d → DoingRecords (sharing opened m last d)
    shared opened m last (Does ask next) own = (own.0, λ r fine. shared opened m (Some r) (next r) (own.1 r fine))
    shared opened m last (Gives answer later) own = tt

    on_text : (s : Sharing) (o : Option Tmsg) → DoingRecords (serves_text h s o)
    on_text s None = tt
    on_text s (Some m) =
        shared s.opened m None (serves_by h s.session m (option_map dotted_step (message_step s.session.table m))) (by_step s.session m (message_step s.session.table m) (on_step s.session.table m))

    then_each : (p : Play) (go_on : Names → Play) → Good p → ((names : Names) → Good (go_on names)) → Good (and_then p go_on)
    then_each (Ends names) go_on f g = g names
    then_each (Asks a e next) go_on f g = (f.0, λ r fine. then_each (next r) go_on (f.1 r fine) g)

    closing : (ns : List ℕ) (names : Names) → Good (closes_each h ns names)
    closing [] names = tt
    closing (n ∷ ns) names =
        then_each (play_of h names (step.Close (dotted_fid n))) (closes_each h ns) (one.played h P R fits names (step.Close (dotted_fid n)) (is.named n)) (λ bound. closing ns bound)

  export_good : (called : List ℕ) (names : Names) → IsNamed h P called → IsExporting h P → Good (export_play h called names)
  export_good called names named is =
      one.either h P R fits (is_dotted called) (uses h called names) (exports (exported h) (own_of h called names) most_requests (unheard names)) (one.ending h P R fits _ _ names named.0)
      (exports_good (exported h) (own_of h called names) (own_well called names named) (λ s text. on_text is s (read_t text)) (λ s. closing is s.opened s.session.names) most_requests (unheard names))

  -- ---- steps

  own_good : (k : Kept) (s : Step) → FineLeft k.left → Says h P s → Good (own_play h k s)
  own_good k (step.Export called) fine says = export_good called k.names says.0 says.1
  own_good k (step.Import call) fine says = imports_good (own_of h call k.names) k.names (own_well call k.names says)
  own_good k (step.Ropen called call path m) fine says =
      one.either h P R fits (is_remote_path path && not (is_bound k.names call && is_bound k.names called)) _ (uses h called k.names)
      (opens_good (own_of h call k.names) (free_fid k.left call) path m k.names (own_well call k.names says.1))
      (one.ending h P R fits _ _ k.names says.0.0)
  own_good k (step.Rread called count) fine says = remote_good called k.names k.left (λ (fid : ℕ). read_message fid count) says fine
  own_good k (step.Rwrite called text) fine says =
      one.either h P R fits (nat_le (length text) longest_text) _ (uses h called k.names)
      (remote_good called k.names k.left (λ (fid : ℕ). write_message fid text) says fine) (one.ending h P R fits _ _ k.names says.0)
  own_good k (step.Rclose called) fine says = remote_good called k.names k.left clunk_message says fine
  own_good k s fine says = one.played h P R fits k.names s says

  -- P holds of asking for each new name
  new_named : (s : Step) → Says h P s → Each (λ (called : List ℕ). IsNamed h P called) (new_names s)
  new_named (step.Open called path m) says = (says.0, tt)
  new_named (step.Dial called address) says = (says.0, (says.1, tt))
  new_named (step.Announce called address) says = (says, tt)
  new_named (step.Listen called from) says = (says.0, tt)
  new_named (step.Accept called from) says = (says.0, tt)
  new_named (step.Ropen called call path m) says = (says.0, tt)
  new_named _ says = tt

  each_found : (test : List ℕ → Bool) (xs : List (List ℕ)) → Each (λ (called : List ℕ). IsNamed h P called) xs → (x : List ℕ) → find test xs ≡ Some x → IsNamed h P x
  each_found test [] each x is = absurd (none-some x is)
  each_found test (y ∷ ys) each x is = by_case (test y) is (λ same. each_found test ys each.1 x same)
    where
      by_case : (b : Bool) → cond b (Some y) (find test ys) ≡ Some x → (find test ys ≡ Some x → IsNamed h P x) → IsNamed h P x
      by_case true same later = subst (λ (z : List ℕ). IsNamed h P z) (same_Some y x same) each.0
      by_case false same later = later same

  by_taken : (k : Kept) (s : Step) (o : Option (List ℕ)) → ((x : List ℕ) → o ≡ Some x → IsNamed h P x) → FineLeft k.left → Says h P s → Good (play_by h k s o)
  by_taken k s None named fine says = own_good k s fine says
  by_taken k s (Some called) named fine says = one.ending h P R fits _ _ k.names (named called refl).0

  pub step_good : (k : Kept) (s : Step) → FineLeft k.left → Says h P s → Good (step_play h k s)
  step_good k s fine says =
      by_taken k s (find (is_remote k.left) (new_names s)) (each_found (is_remote k.left) (new_names s) (new_named s says)) fine says

  -- ---- what is left

  each_more : (rs : List Remote) (r : Remote) → Each (λ (x : Remote). IsNamed h P x.call) rs → IsNamed h P r.call → Each (λ (x : Remote). IsNamed h P x.call) (rs ++ r ∷ [])
  each_more [] r fine named = (named, tt)
  each_more (x ∷ xs) r fine named = (fine.0, each_more xs r fine.1 named)

  each_less : (test : Remote → Bool) (rs : List Remote) → Each (λ (x : Remote). IsNamed h P x.call) rs → Each (λ (x : Remote). IsNamed h P x.call) (filter test rs)
  each_less test [] fine = tt
  each_less test (x ∷ xs) fine = by_case (test x) (each_less test xs fine.1)
    where
      by_case : (b : Bool) → Each (λ (y : Remote). IsNamed h P y.call) (filter test xs) → Each (λ (y : Remote). IsNamed h P y.call) (cond b (x ∷ filter test xs) (filter test xs))
      by_case true rest = (fine.0, rest)
      by_case false rest = rest

  either_left : (b : Bool) (x y : Left) → FineLeft x → FineLeft y → FineLeft (cond b x y)
  either_left true x y f g = f
  either_left false x y f g = g

  pub left_fine : (left : Left) (s : Step) (rs : List Reply) → FineLeft left → Says h P s → FineLeft (left_after left s rs)
  left_fine left (step.Ropen called call path m) rs fine says =
      either_left (was_opened path rs) (with_remote (record { name = called; call = call; fid = free_fid left call }) left) left
      (each_more left.remotes (record { name = called; call = call; fid = free_fid left call }) fine says.1) fine
  left_fine left (step.Rclose called) rs fine says = each_less (λ (r : Remote). not (bytes_eq called r.name)) left.remotes fine
  left_fine left _ rs fine says = fine

  -- ---- scripts

  -- what a script records next
  pub next_event : (steps : List Step) (k : Kept) (rs : List Reply) → FineLeft k.left → Each (λ (s : Step). Says h P s) steps → Each R rs → IsNextEvent P (position h steps k rs).next
  next_event [] k rs left says fine = tt
  next_event (s ∷ ss) k rs left says fine =
      one.next_by h P R fits (stands (step_play h k s) rs) (s ∷ ss)
      (λ (names : Names) (later : List Reply). position h ss (kept_after k s names (heard_replies (step_play h k s) rs)) later)
      (one.standing h P R fits (step_play h k s) rs (step_good k s left says.0) fine)
      (λ names later good. next_event ss (kept_after k s names (heard_replies (step_play h k s) rs)) later (left_fine k.left s (heard_replies (step_play h k s) rs) left says.0) says.1 good)
