-- The event of a write to a file, and what follows by its reply.
use Rattle.std.proofs.Common.{◌≡◌, ℕ, Bool, true, false, ◌==◌, List, ◌∷◌, ◌++◌, codes, Option, Some, None, Result, Ok, Err, if◌then◌else◌, refl, rules}
use Rattle.std.specs.Prelude.{ok_or}
use Rattle.std.specs.List.{slice_split}
use Rattle.std.proofs.lemmas.Bool.{not-true}
use Rattle.net_base.specs.declared.address.Addr.{Addr}
use Rattle.net_base.specs.declared.event.Event.TheVariants as event
use Rattle.net_base.specs.declared.names.Ctl.{Ctl}
use Rattle.net_base.specs.declared.names.Ctl.TheVariants as ctl
use Rattle.net_base.specs.declared.names.FileName.{FileName}
use Rattle.net_base.specs.declared.names.FileName.TheVariants as file
use Rattle.net_base.specs.declared.reply.Reply.{Reply}
use Rattle.net_base.specs.declared.reply.Reply.TheVariants as reply
use Rattle.net_base.specs.ControlWords as control
use Rattle.net_base.specs.Steps.{Ask, Fid, Play, Asks, puts_text, controls, conversation_of, if_accepted, is_accepted}
use Rattle.script_task.specs.Fitting.{is_granted, fits_grant}
use Rattle.net_base.specs.Requests.{head}
use Rattle.script_task.specs.Task.{follow, fits_play}
use Rattle.dial_lib.specs.Openings.{written_free}
use Rattle.net_base.proofs.Shared.{and_none}

-- The event doesn't depend on what follows it.

abbrev pub HasHead : (Play → Play → Play) → Type 0
HasHead play = (ask : Ask) × ((refused next : Play) → head (play refused next) ≡ Some ask)

controls_head : (h : ℕ) (f : Fid) (text : List ℕ) (said : Result Ctl ℕ) → HasHead (λ (refused next : Play). controls h f text said refused next)
controls_head h f text (Ok (ctl.Connect remote lport)) = (_, λ refused next. refl)
controls_head h f text (Ok (ctl.Announce ip port)) = (_, λ refused next. refl)
controls_head h f text (Ok (ctl.Bind port)) = (_, λ refused next. refl)
controls_head h f text (Ok ctl.Hangup) = (_, λ refused next. refl)
controls_head h f text (Ok (ctl.Ttl n)) = (_, λ refused next. refl)
controls_head h f text (Ok (ctl.Tos n)) = (_, λ refused next. refl)
controls_head h f text (Err fault) = (_, λ refused next. refl)

pub puts_head : (h : ℕ) (f : Fid) (to : FileName) (text : List ℕ) → HasHead (λ (refused next : Play). puts_text h f to text refused next)
puts_head h f file.Data text = (_, λ refused next. refl)
puts_head h f file.Ctl text = controls_head h f text (control.read text)
puts_head h f file.Err text = controls_head h f text (control.read text)
puts_head h f file.Listen text = controls_head h f text (control.read text)
puts_head h f file.Local text = controls_head h f text (control.read text)
puts_head h f file.Remote text = controls_head h f text (control.read text)
puts_head h f file.Status text = controls_head h f text (control.read text)

-- A grant is followed by a wait, and nothing else is.

pub data Put (h : ℕ) (f : Fid) (r : Reply) (refused next p : Play) : Type 0 where
  Waits : is_granted r ≡ true → p ≡ Asks (conversation_of h f) (event.Await f.generation) (λ (s : Reply). if_accepted s next refused) → Put h f r refused next p
  Goes : is_granted r ≡ false → p ≡ if_accepted r next refused → Put h f r refused next p

pub granted_no : (r : Reply) → is_accepted r ≡ false → is_granted r ≡ false
granted_no (reply.Granted pair start limit) is = absurd (search (rules, is))
granted_no r is = refl

put_no : (h : ℕ) (f : Fid) (r : Reply) (refused next : Play) → is_accepted r ≡ false
    → Put h f r refused next (if_accepted r (Asks (conversation_of h f) (event.Await f.generation) (λ (s : Reply). if_accepted s next refused)) refused)
put_no h f r refused next is = Goes (granted_no r is) (rw (is) refl)

put_grant : (h : ℕ) (f : Fid) (r : Reply) (refused next : Play) → fits_grant r ≡ true
    → Put h f r refused next (if_accepted r (Asks (conversation_of h f) (event.Await f.generation) (λ (s : Reply). if_accepted s next refused)) refused)
put_grant h f (reply.Granted pair start limit) refused next fit = Waits refl refl
put_grant h f r refused next fit = put_no h f r refused next (not-true (is_accepted r) fit)

put_control : (h : ℕ) (f : Fid) (text : List ℕ) (said : Result Ctl ℕ) (r : Reply) (refused next : Play)
    → fits_play (controls h f text said refused next) r ≡ true → Put h f r refused next (follow (controls h f text said refused next) r)
put_control h f text (Ok (ctl.Connect remote lport)) r refused next fit = put_grant h f r refused next fit
put_control h f text (Ok (ctl.Announce ip port)) r refused next fit = Goes (not-true (is_granted r) fit) refl
put_control h f text (Ok (ctl.Bind port)) r refused next fit = Goes (not-true (is_granted r) fit) refl
put_control h f text (Ok ctl.Hangup) r refused next fit = Goes (not-true (is_granted r) fit) refl
put_control h f text (Ok (ctl.Ttl n)) r refused next fit = Goes (not-true (is_granted r) fit) refl
put_control h f text (Ok (ctl.Tos n)) r refused next fit = Goes (not-true (is_granted r) fit) refl
put_control h f text (Err fault) r refused next fit = Goes (not-true (is_granted r) fit) refl

pub put : (h : ℕ) (f : Fid) (to : FileName) (text : List ℕ) (r : Reply) (refused next : Play)
    → fits_play (puts_text h f to text refused next) r ≡ true → Put h f r refused next (follow (puts_text h f to text refused next) r)
put h f file.Data text r refused next fit = Goes (written_free r fit).0 refl
put h f file.Ctl text r refused next fit = put_control h f text (control.read text) r refused next fit
put h f file.Err text r refused next fit = put_control h f text (control.read text) r refused next fit
put h f file.Listen text r refused next fit = put_control h f text (control.read text) r refused next fit
put h f file.Local text r refused next fit = put_control h f text (control.read text) r refused next fit
put h f file.Remote text r refused next fit = put_control h f text (control.read text) r refused next fit
put h f file.Status text r refused next fit = put_control h f text (control.read text) r refused next fit

-- An accepted reply goes on at once, where the text doesn't connect.

-- this isn't a control that connects
abbrev pub IsOther : Result Ctl ℕ → Type 0
IsOther said = (remote : Addr) (lport : Option ℕ) → said ≡ Ok (ctl.Connect remote lport) → ⊥

other_control : (h : ℕ) (f : Fid) (text : List ℕ) (said : Result Ctl ℕ) (r : Reply) (refused next : Play) → IsOther said
    → follow (controls h f text said refused next) r ≡ if_accepted r next refused
other_control h f text (Ok (ctl.Connect remote lport)) r refused next other = absurd (other remote lport refl)
other_control h f text (Ok (ctl.Announce ip port)) r refused next other = refl
other_control h f text (Ok (ctl.Bind port)) r refused next other = refl
other_control h f text (Ok ctl.Hangup) r refused next other = refl
other_control h f text (Ok (ctl.Ttl n)) r refused next other = refl
other_control h f text (Ok (ctl.Tos n)) r refused next other = refl
other_control h f text (Err fault) r refused next other = refl

pub put_other : (h : ℕ) (f : Fid) (to : FileName) (text : List ℕ) (r : Reply) (refused next : Play) → IsOther (control.read text)
    → follow (puts_text h f to text refused next) r ≡ if_accepted r next refused
put_other h f file.Data text r refused next other = refl
put_other h f file.Ctl text r refused next other = other_control h f text (control.read text) r refused next other
put_other h f file.Err text r refused next other = other_control h f text (control.read text) r refused next other
put_other h f file.Listen text r refused next other = other_control h f text (control.read text) r refused next other
put_other h f file.Local text r refused next other = other_control h f text (control.read text) r refused next other
put_other h f file.Remote text r refused next other = other_control h f text (control.read text) r refused next other
put_other h f file.Status text r refused next other = other_control h f text (control.read text) r refused next other

pub hangs : IsOther (control.read (codes "hangup"))
hangs remote lport is = absurd (search (rules, is))

no_connect : (rest : List ℕ) (remote : Addr) (lport : Option ℕ) → control.is_spelled (ctl.Connect remote lport) (97 ∷ rest) ≡ false
no_connect rest remote None = and_none _
no_connect rest remote (Some port) = and_none _

checked_other : (rest : List ℕ) (o : Option Ctl) → IsOther (ok_or (control.checked_control (97 ∷ rest) o) control.bad_argument)
checked_other rest None remote lport is = absurd (search (rules, is))
checked_other rest (Some (ctl.Connect at from)) remote lport is = absurd (wrong (control.is_spelled (ctl.Connect at from) (97 ∷ rest)) (no_connect rest at from) is)
  where
    wrong : (b : Bool) → b ≡ false → ok_or (if b then Some (ctl.Connect at from) else None) control.bad_argument ≡ Ok (ctl.Connect remote lport) → ⊥
    wrong true is_no is = absurd (search (rules, is_no))
    wrong false is_no is = absurd (search (rules, is))
checked_other rest (Some c) remote lport is = absurd (wrong (control.is_spelled c (97 ∷ rest)) is)
  where
    wrong : (b : Bool) → ok_or (if b then Some c else None) control.bad_argument ≡ Ok (ctl.Connect remote lport) → ⊥
    wrong b is = absurd (search (rules, is))

pub announces_other : (address : List ℕ) → IsOther (control.read (codes "announce " ++ address))
announces_other address = checked_other (codes "nnounce" ++ control.without_newline (codes " " ++ address)) (control.control_of (slice_split (λ b. b == control.blank) (control.without_newline (codes "announce " ++ address))))
