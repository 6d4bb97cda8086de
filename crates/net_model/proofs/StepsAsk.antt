-- Each step records an event, whatever names are bound.
use Rattle.std.proofs.Common.{ℕ, zero, suc, ◌-◌, Bool, true, false, List, [], ◌∷◌, Option, Some, None, Ok, Err}
use Rattle.std.specs.Prelude.{◌&&◌, Result, find, length, nat_le, not, if◌then◌else◌}
use Rattle.net_base.specs.declared.address.Addr.{Addr}
use Rattle.net_base.specs.declared.left.Remote.{Remote}
use Rattle.net_base.specs.declared.event.Event.TheVariants as event
use Rattle.net_base.specs.declared.names.Ctl.{Ctl}
use Rattle.net_base.specs.declared.names.Ctl.TheVariants as ctl
use Rattle.net_base.specs.declared.names.FileName.{FileName}
use Rattle.net_base.specs.declared.names.FileName.TheVariants as file
use Rattle.net_base.specs.declared.reply.Reply.{Reply}
use Rattle.net_base.specs.declared.world.Step.{Step}
use Rattle.net_base.specs.declared.world.Step.TheVariants as step
use Rattle.net_base.specs.ControlWords as control
use Rattle.net_base.specs.declared.ninep.Tmsg.{Tmsg}
use Rattle.net_base.specs.Exports.{Own, Sharing, exported, exports, is_dotted, most_requests, own_of, unheard}
use Rattle.net_base.specs.Imports.{clunk_message, longest_text, read_message, sends_by, write_message}
use Rattle.net_base.specs.DatagramHeaders.{text_behind}
use Rattle.net_base.specs.DomainAnswers.{dns_answer}
use Rattle.net_base.specs.Paths.{mode_reads, mode_writes}
use Rattle.net_base.specs.Steps.{Names, Fid, Play, Asks, Ends, answers, answers_call, asks_cs, bytes_in, closes_all, controls, conversation_of, data_name, dials, dotted_name, fid_of, hears_call, if_accepted, is_answer, is_bound, misuses, on_fid, on_taken, open_call, puts_text, serves, serves_call, taken_name, takes_call, uses, with_bound, with_call, with_new, with_readable, with_writable}
use Rattle.net_base.specs.Remotes.{is_remote, is_remote_path, remote_of}
use Rattle.net_base.specs.Scripts.{Kept, new_names, own_play, play_by, step_play}
use Rattle.prefix_law.specs.Order.{Begins}

-- the play asks first
abbrev Asking : Play → Type 0
Asking p = Begins p []

either : (b : Bool) (p q : Play) → Asking p → Asking q → Asking (if b then p else q)
either true p q one two = one
either false p q one two = two

on : (o : Option Fid) (p : Play) (next : Fid → Play) → Asking p → ((f : Fid) → Asking (next f)) → Asking (on_fid o p next)
on None p next none each = none
on (Some f) p next none each = each f

new : (h : ℕ) (called : List ℕ) (names : Names) (next : Play) → Asking next → Asking (with_new h called names next)
new h called names next asks = either (is_bound names called) (uses h called names) next tt asks

bound : (h : ℕ) (called : List ℕ) (names : Names) (next : Fid → Play) → ((f : Fid) → Asking (next f)) → Asking (with_bound h called names next)
bound h called names next each = on (fid_of called names) (uses h called names) next tt each

readable : (h : ℕ) (called : List ℕ) (names : Names) (next : Fid → Play) → ((f : Fid) → Asking (next f)) → Asking (with_readable h called names next)
readable h called names next each =
    bound h called names (λ (f : Fid). if mode_reads f.mode then next f else misuses h called names)
    (λ f. either (mode_reads f.mode) (next f) (misuses h called names) (each f) tt)

writable : (h : ℕ) (called : List ℕ) (names : Names) (next : Fid → Play) → ((f : Fid) → Asking (next f)) → Asking (with_writable h called names next)
writable h called names next each =
    bound h called names (λ (f : Fid). if mode_writes f.mode then next f else misuses h called names)
    (λ f. either (mode_writes f.mode) (next f) (misuses h called names) (each f) tt)

controlling : (h : ℕ) (f : Fid) (text : List ℕ) (said : Result Ctl ℕ) (refused next : Play) → Asking (controls h f text said refused next)
controlling h f text (Ok (ctl.Connect remote lport)) refused next = tt
controlling h f text (Ok (ctl.Announce ip port)) refused next = tt
controlling h f text (Ok (ctl.Bind port)) refused next = tt
controlling h f text (Ok ctl.Hangup) refused next = tt
controlling h f text (Ok (ctl.Ttl n)) refused next = tt
controlling h f text (Ok (ctl.Tos n)) refused next = tt
controlling h f text (Err fault) refused next = tt

putting : (h : ℕ) (f : Fid) (into : FileName) (text : List ℕ) (refused next : Play) → Asking (puts_text h f into text refused next)
putting h f file.Data text refused next = tt
putting h f file.Ctl text refused next = controlling h f text (control.read text) refused next
putting h f file.Err text refused next = controlling h f text (control.read text) refused next
putting h f file.Listen text refused next = controlling h f text (control.read text) refused next
putting h f file.Local text refused next = controlling h f text (control.read text) refused next
putting h f file.Remote text refused next = controlling h f text (control.read text) refused next
putting h f file.Status text refused next = controlling h f text (control.read text) refused next

-- a call is taken
calling : (h : ℕ) (called : List ℕ) (names : Names) (next : Fid → Fid → Addr → Addr → Play) → Asking (with_call h called names next)
calling h called names next = by (taken_name names)
  where
    by : (o : Option (List ℕ))
        → Asking (on_taken o (λ (used : List ℕ). uses h used names) (with_bound h called names (λ (f : Fid). takes_call h f (Ends names) next)))
    by None = bound h called names (λ (f : Fid). takes_call h f (Ends names) next) (λ f. tt)
    by (Some used) = tt

serving_one : (h : ℕ) (called : List ℕ) (names : Names) (next : Play) → Asking (serves_call h called names next)
serving_one h called names next =
    calling h called names
    (λ (call data_file : Fid) (remote local : Addr).
    Asks (conversation_of h data_file) (event.Read data_file.generation 8192) (λ (r : Reply).
    if_accepted r (answers_call h call data_file (dns_answer names.zone (bytes_in r)) (Ends names) next) (closes_all h (data_file ∷ call ∷ []) (Ends names))))

serving : (h : ℕ) (called : List ℕ) (names : Names) (more : ℕ) → Asking (serves h called names more)
serving h called names zero = serving_one h called names (Ends names)
serving h called names (suc more) = serving_one h called names (serves h called names more)

remote : (h : ℕ) (called : List ℕ) (names : Names) (o : Option Remote) (message : ℕ → Tmsg) → Asking (sends_by h called names o message)
remote h called names None message = tt
remote h called names (Some r) message = tt

exporting : (h : ℕ) (own : Own) (s : Sharing) → Asking (exports (exported h) own most_requests s)
unfolding most_requests
exporting h own s = tt

own_asks : (h : ℕ) (k : Kept) (s : Step) → Asking (own_play h k s)
own_asks h k (step.Open called path m) = new h called k.names _ tt
own_asks h k (step.Read called count) = readable h called k.names _ (λ f. tt)
own_asks h k (step.Write called text) = writable h called k.names _ (λ f. putting h f f.file text (Ends k.names) (Ends k.names))
own_asks h k (step.Writex called text) = writable h called k.names _ (λ f. putting h f f.file text (Ends k.names) (Ends k.names))
own_asks h k (step.Close called) = bound h called k.names _ (λ f. tt)
own_asks h k (step.Ls path) = tt
own_asks h k (step.Cs query) = tt
own_asks h k (step.Until moment) = tt
own_asks h k step.Refresh = tt
own_asks h k (step.Dial called address) = new h called k.names _ (new h (dotted_name called) k.names (asks_cs h address (dials h called k.names)) tt)
own_asks h k (step.Announce called address) = new h called k.names _ tt
own_asks h k (step.Listen called from) = bound h from k.names _ (λ f. new h called k.names _ tt)
own_asks h k (step.Accept called from) = bound h from k.names _ (λ f. new h called k.names _ tt)
own_asks h k (step.Reject called) = writable h called k.names _ (λ f. putting h f f.file _ _ _)
own_asks h k (step.Hangup called) = writable h called k.names _ (λ f. putting h f f.file _ _ _)
own_asks h k (step.Hread called count) =
    calling h called k.names
    (λ (call data_file : Fid) (remote local : Addr). hears_call h k.names count call data_file (record { name = called; remote = remote; local = local }))
own_asks h k (step.Hwrite called bytes) =
    on (open_call called k.names) (uses h data_name k.names)
    (λ (data_file : Fid). if is_answer bytes k.names.heard then answers h k.names (text_behind bytes) data_file else misuses h data_name k.names)
    tt
    (λ data_file. either (is_answer bytes k.names.heard) (answers h k.names (text_behind bytes) data_file) (misuses h data_name k.names) tt tt)
own_asks h k (step.Dns called times) = serving h called k.names (times - 1)
-- imports
own_asks h k (step.Export called) =
    either (is_dotted called) (uses h called k.names) (exports (exported h) (own_of h called k.names) most_requests (unheard k.names)) tt (exporting h (own_of h called k.names) (unheard k.names))
own_asks h k (step.Import call) = tt
own_asks h k (step.Ropen called call path m) = either (is_remote_path path && not (is_bound k.names call && is_bound k.names called)) _ (uses h called k.names) tt tt
own_asks h k (step.Rread called count) = remote h called k.names (remote_of called k.left) (λ (fid : ℕ). read_message fid count)
own_asks h k (step.Rwrite called text) =
    either (nat_le (length text) longest_text) _ (uses h called k.names) (remote h called k.names (remote_of called k.left) (λ (fid : ℕ). write_message fid text)) tt
own_asks h k (step.Rclose called) = remote h called k.names (remote_of called k.left) clunk_message

by_asks : (h : ℕ) (k : Kept) (s : Step) (o : Option (List ℕ)) → Asking (play_by h k s o)
by_asks h k s None = own_asks h k s
by_asks h k s (Some called) = tt

pub step_asks : (h : ℕ) (k : Kept) (s : Step) → Begins (step_play h k s) []
step_asks h k s = by_asks h k s (find (is_remote k.left) (new_names s))
