-- How the play of a session's request goes on by a reply: it ends, or it awaits a conversation.
use Rattle.std.proofs.Common.{◌≡◌, ℕ, Bool, true, false, not, ◌||◌, List, [], ◌∷◌, Option, Some, None, Result, Ok, Err, bytes_eq, if◌then◌else◌, refl, sym, ap, ◌∙◌}
use Rattle.std.proofs.Math.Path.{fun_ext}
use Rattle.std.proofs.lemmas.Bool.{false≢true, true≢false, not-true}
use Rattle.std.proofs.lemmas.Slice.Eq.{bytes_eq-Decides}
use Rattle.net_base.specs.declared.actor.ActorName.{ActorName}
use Rattle.net_base.specs.declared.event.Event.{Event}
use Rattle.net_base.specs.declared.event.Event.TheVariants as event
use Rattle.net_base.specs.declared.names.Ctl.{Ctl}
use Rattle.net_base.specs.declared.names.Ctl.TheVariants as ctl
use Rattle.net_base.specs.declared.names.FileName.{FileName}
use Rattle.net_base.specs.declared.names.FileName.TheVariants as file
use Rattle.net_base.specs.declared.names.Mode.{Mode}
use Rattle.net_base.specs.declared.reply.Reply.{Reply}
use Rattle.net_base.specs.declared.reply.Reply.TheVariants as reply
use Rattle.net_base.specs.ControlWords as control
use Rattle.net_base.specs.Exports.{is_dotted}
use Rattle.net_base.specs.Paths.{mode_reads, walk, mode_writes}
use Rattle.net_base.specs.Steps.{Asks, Bound, Ends, Fid, Names, Play, bind, conversation_of, controls, ends_with, fid_among, fid_of, if_accepted, is_accepted, is_bound, misuses, on_fid, openable, opened_fid, opens, puts_text, read_event, unbind, uses, without}
use Rattle.net_export.specs.Serving.{IsDotted, awaits_pair}
use Rattle.net_base.specs.declared.request.Request.{Request}
use Rattle.net_base.specs.declared.request.Request.TheVariants as request
use Rattle.script_task.specs.Fitting.{fits_grant, fits_write, is_granted, is_unopened}
use Rattle.net_base.specs.Requests.{bound_after, opened_names, request_play, settled}
use Rattle.script_task.specs.Task.{fits_play}
use Rattle.script_task.proofs.Shared.{unbind_free}
use Rattle.session_answers.proofs.Shared.{same_ends}

-- the play of a request, these names after the reply, and the request that goes on, if one does
pub data Goes (h : ℕ) (names : Names) (r : Reply) (now : Names) : Option Request → Play → Type 0 where
  IsLast : (a : ActorName) (e : Event) (next : Reply → Play) → next r ≡ Ends now → Goes h names r now None (Asks a e next)
  IsMore : (a : ActorName) (e : Event) (next : Reply → Play) (q : Request) → next r ≡ request_play h names q → now ≡ names → IsDotted q
      → Goes h names r now (Some q) (Asks a e next)

-- ---- replies

unopened_no : (r : Reply) → is_unopened r ≡ true → is_granted r ≡ false
unopened_no reply.BadFid is = refl
unopened_no reply.BadMode is = refl
unopened_no r is = absurd (false≢true is)

written_no : (r : Reply) → fits_write r ≡ true → is_granted r ≡ false
written_no r fit = by (is_granted r) (is_unopened r) fit
  where
    by : (a b : Bool) → not (a || b) ≡ true → a ≡ false
    by true b is = absurd (false≢true is)
    by false b is = refl

-- ---- names

apart : (called other : List ℕ) → is_dotted called ≡ false → is_dotted other ≡ true → bytes_eq called other ≡ false
apart called other plain dotted = by (bytes_eq called other) refl
  where
    by : (b : Bool) → bytes_eq called other ≡ b → b ≡ false
    by true same = absurd (true≢false (sym dotted ∙ (ap is_dotted (sym ((bytes_eq-Decides called other).0 same)) ∙ plain)))
    by false other = refl

bound_apart : (called other : List ℕ) (names : Names) (f : Fid) → bytes_eq called other ≡ false → fid_of called (bind other f names) ≡ fid_of called names
bound_apart called other names f differ = rw differ refl

without_apart : (called other : List ℕ) (bound : List Bound) → is_dotted called ≡ false → is_dotted other ≡ true
    → fid_among called (without other bound) ≡ fid_among called bound
without_apart called other [] plain dotted = refl
without_apart called other (b ∷ bs) plain dotted = by (bytes_eq other b.called) refl (without_apart called other bs plain dotted)
  where
    by : (v : Bool) → bytes_eq other b.called ≡ v → fid_among called (without other bs) ≡ fid_among called bs
        → fid_among called (if not v then b ∷ without other bs else without other bs) ≡ fid_among called (b ∷ bs)
    by false differ more = ap (λ (o : Option Fid). if bytes_eq called b.called then Some b.fid else o) more
    by true same more =
        let is : bytes_eq called b.called ≡ false = apart called b.called plain (ap is_dotted (sym ((bytes_eq-Decides other b.called).0 same)) ∙ dotted) in
        more ∙ rw is refl

-- the names that a session binds and unbinds are others than this
pub keeps_bound : (names : Names) (called : List ℕ) (q : Request) (r : Reply) → is_dotted called ≡ false → IsDotted q
    → fid_of called (settled names q r) ≡ fid_of called names
keeps_bound names called (request.Open other path m) r plain dotted = by (is_bound names other) (opened_fid m (openable (walk path) m) r)
  where
    by : (v : Bool) (o : Option Fid) → fid_of called (if v then names else bound_after other names o) ≡ fid_of called names
    by true o = refl
    by false None = refl
    by false (Some f) = bound_apart called other names f (apart called other plain dotted)
keeps_bound names called (request.Close other) r plain dotted = without_apart called other names.bound plain dotted
keeps_bound names called (request.Hear other count heard) r plain dotted = absurd dotted
keeps_bound names called (request.Read other count) r plain dotted = refl
keeps_bound names called (request.Write other text) r plain dotted = refl
keeps_bound names called (request.Cs query) r plain dotted = refl
keeps_bound names called (request.Ls path) r plain dotted = refl
keeps_bound names called (request.Until moment) r plain dotted = refl
keeps_bound names called request.Refresh r plain dotted = refl
keeps_bound names called (request.Wait other) r plain dotted = refl
keeps_bound names called (request.Unbound other) r plain dotted = refl
keeps_bound names called (request.Misuse other) r plain dotted = refl

-- ---- requests

module _ (h : ℕ) (names : Names) (r : Reply) where
  open_goes : (called path : List ℕ) (m : Mode) → Goes h names r (opened_names names called path m r) None (request_play h names (request.Open called path m))
  open_goes called path m = by (is_bound names called)
    where
      bound : (o : Option Fid) → on_fid o (Ends names) (λ (f : Fid). Ends (bind called f names)) ≡ Ends (bound_after called names o)
      bound None = refl
      bound (Some f) = refl

      by : (v : Bool) → Goes h names r (if v then names else bound_after called names (opened_fid m (openable (walk path) m) r)) None
          (if v then uses h called names else opens h path m (Ends names) (λ (f : Fid). Ends (bind called f names)))
      by true = IsLast _ _ _ refl
      by false = IsLast _ _ _ (bound (opened_fid m (openable (walk path) m) r))

  read_goes : (called : List ℕ) (count : ℕ) → Goes h names r names None (request_play h names (request.Read called count))
  read_goes called count = found (fid_of called names)
    where
      by : (f : Fid) (v : Bool) → Goes h names r names None (if v then ends_with (conversation_of h f)
          (read_event f count f.file) names else misuses h called names)
      by f true = IsLast _ _ _ refl
      by f false = IsLast _ _ _ refl

      found : (o : Option Fid) → Goes h names r names None
          (on_fid o (uses h called names) (λ (f : Fid). if mode_reads f.mode then ends_with (conversation_of h f)
          (read_event f count f.file) names else misuses h called names))
      found None = IsLast _ _ _ refl
      found (Some f) = by f (mode_reads f.mode)

  close_goes : (called : List ℕ) → Goes h names r (unbind called names) None (request_play h names (request.Close called))
  close_goes called = found (fid_of called names) refl
    where
      found : (o : Option Fid) → fid_of called names ≡ o → Goes h names r (unbind called names) None
          (on_fid o (uses h called names) (λ (f : Fid). ends_with (conversation_of h f) (event.Close f.generation) (unbind called names)))
      found None none = IsLast _ _ _ (ap Ends (sym (unbind_free called names none)))
      found (Some f) is = IsLast _ _ _ refl

  wait_goes : (called : List ℕ) → Goes h names r names None (request_play h names (request.Wait called))
  wait_goes called = found (fid_of called names)
    where
      found : (o : Option Fid) → Goes h names r names None (on_fid o (uses h called names)
          (λ (f : Fid). ends_with (conversation_of h f) (event.Await f.generation) names))
      found None = IsLast _ _ _ refl
      found (Some f) = IsLast _ _ _ refl

-- ---- a write

module _ (h : ℕ) (names : Names) (r : Reply) (called : List ℕ) where
  abbrev waits : Option Request
  waits = if is_granted r then Some (request.Wait called) else None

  -- no pair is granted, so it ends
  ended : (a : ActorName) (e : Event) (next : Reply → Play) → is_granted r ≡ false → next r ≡ Ends names → Goes h names r names waits (Asks a e next)
  ended a e next free ends = rw free (IsLast a e next ends)

  abbrev awaits : Fid → Play
  awaits f = Asks (conversation_of h f) (event.Await f.generation) (λ (s : Reply). if_accepted s (Ends names) (Ends names))

  awaited : (f : Fid) → fid_of called names ≡ Some f → awaits f ≡ request_play h names (request.Wait called)
  awaited f is = ap (λ (next : Reply → Play). Asks (conversation_of h f) (event.Await f.generation) next) (fun_ext (λ s. same_ends s names)) ∙ rw is refl

  granted_goes : (a : ActorName) (e : Event) (f : Fid) → fid_of called names ≡ Some f → fits_grant r ≡ true
      → Goes h names r names waits (Asks a e (λ (granted : Reply). if_accepted granted (awaits f) (Ends names)))
  granted_goes a e f is fit = by r fit
    where
      by : (x : Reply) → fits_grant x ≡ true → Goes h names x names (if is_granted x then Some (request.Wait called) else None)
          (Asks a e (λ (granted : Reply). if_accepted granted (awaits f) (Ends names)))
      by (reply.Granted pair start limit) fit = IsMore a e _ (request.Wait called) (awaited f is) refl tt
      by x fit = IsLast a e _ (ap (λ (v : Bool). if v then awaits f else Ends names) (not-true (is_accepted x) fit))

  controlled_goes : (f : Fid) (text : List ℕ) (read : Result Ctl ℕ) → fid_of called names ≡ Some f
      → fits_play (controls h f text read (Ends names) (Ends names)) r ≡ true
      → Goes h names r names waits (controls h f text read (Ends names) (Ends names))
  controlled_goes f text (Ok (ctl.Connect remote lport)) is fit = granted_goes _ _ f is fit
  controlled_goes f text (Ok (ctl.Announce ip port)) is fit = ended _ _ _ (not-true (is_granted r) fit) (same_ends r names)
  controlled_goes f text (Ok (ctl.Bind port)) is fit = ended _ _ _ (not-true (is_granted r) fit) (same_ends r names)
  controlled_goes f text (Ok ctl.Hangup) is fit = ended _ _ _ (not-true (is_granted r) fit) (same_ends r names)
  controlled_goes f text (Ok (ctl.Ttl n)) is fit = ended _ _ _ (not-true (is_granted r) fit) (same_ends r names)
  controlled_goes f text (Ok (ctl.Tos n)) is fit = ended _ _ _ (not-true (is_granted r) fit) (same_ends r names)
  controlled_goes f text (Err fault) is fit = ended _ _ _ (not-true (is_granted r) fit) (same_ends r names)

  put_goes : (f : Fid) (to : FileName) (text : List ℕ) → fid_of called names ≡ Some f → fits_play (puts_text h f to text (Ends names) (Ends names)) r ≡ true
      → Goes h names r names waits (puts_text h f to text (Ends names) (Ends names))
  put_goes f file.Data text is fit = ended _ _ _ (written_no r fit) (same_ends r names)
  put_goes f file.Ctl text is fit = controlled_goes f text (control.read text) is fit
  put_goes f file.Err text is fit = controlled_goes f text (control.read text) is fit
  put_goes f file.Listen text is fit = controlled_goes f text (control.read text) is fit
  put_goes f file.Local text is fit = controlled_goes f text (control.read text) is fit
  put_goes f file.Remote text is fit = controlled_goes f text (control.read text) is fit
  put_goes f file.Status text is fit = controlled_goes f text (control.read text) is fit

  write_goes : (text : List ℕ) → fits_play (request_play h names (request.Write called text)) r ≡ true
      → Goes h names r names waits (request_play h names (request.Write called text))
  write_goes text fit = found (fid_of called names) refl fit
    where
      by : (f : Fid) (v : Bool) → fid_of called names ≡ Some f → fits_play
          (if v then puts_text h f f.file text (Ends names) (Ends names) else misuses h called names) r ≡ true
          → Goes h names r names waits (if v then puts_text h f f.file text (Ends names) (Ends names) else misuses h called names)
      by f true is fit = put_goes f f.file text is fit
      by f false is fit = ended _ _ _ (unopened_no r fit) refl

      found : (o : Option Fid) → fid_of called names ≡ o
          → fits_play (on_fid o (uses h called names) (λ (f : Fid). if mode_writes f.mode then puts_text h f f.file text (Ends names)
          (Ends names) else misuses h called names)) r ≡ true
          → Goes h names r names waits (on_fid o (uses h called names) (λ (f : Fid). if mode_writes f.mode then puts_text h f f.file text (Ends names)
          (Ends names) else misuses h called names))
      found None none fit = ended _ _ _ (unopened_no r fit) refl
      found (Some f) is fit = by f (mode_writes f.mode) is fit

-- each request of a session goes on so
pub goes : (h : ℕ) (names : Names) (q : Request) (r : Reply) → IsDotted q → fits_play (request_play h names q) r ≡ true
    → Goes h names r (settled names q r) (awaits_pair (Some q) r) (request_play h names q)
goes h names (request.Open called path m) r dotted fit = open_goes h names r called path m
goes h names (request.Read called count) r dotted fit = read_goes h names r called count
goes h names (request.Write called text) r dotted fit = write_goes h names r called text fit
goes h names (request.Close called) r dotted fit = close_goes h names r called
goes h names (request.Cs query) r dotted fit = IsLast _ _ _ refl
goes h names (request.Ls path) r dotted fit = IsLast _ _ _ refl
goes h names (request.Until moment) r dotted fit = IsLast _ _ _ refl
goes h names request.Refresh r dotted fit = IsLast _ _ _ refl
goes h names (request.Hear called count heard) r dotted fit = absurd dotted
goes h names (request.Wait called) r dotted fit = wait_goes h names r called
goes h names (request.Unbound called) r dotted fit = IsLast _ _ _ refl
goes h names (request.Misuse called) r dotted fit = IsLast _ _ _ refl
