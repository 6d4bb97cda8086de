-- The play of a session's step: one event, or two where a grant is accepted, after which the conversation is awaited.
use Rattle.std.proofs.Common.{◌≡◌, ℕ, ◌&&◌, Bool, true, false, List, [], ◌∷◌, Option, Some, None, Result, Ok, Err, cond, option_copied, MatchOption, Bor, refl, sym, ◌∙◌, ap}
use Rattle.net_base.specs.declared.actor.ActorName.{ActorName}
use Rattle.net_base.specs.declared.event.Event.{Event}
use Rattle.net_base.specs.declared.event.Event.TheVariants as event
use Rattle.net_base.specs.declared.names.Ctl.{Ctl}
use Rattle.net_base.specs.declared.names.Ctl.TheVariants as ctl
use Rattle.net_base.specs.declared.names.FileName.{FileName}
use Rattle.net_base.specs.declared.names.FileName.TheVariants as file
use Rattle.net_base.specs.declared.names.Mode.{Mode}
use Rattle.net_base.specs.declared.names.Node.{Node}
use Rattle.net_base.specs.declared.names.Node.TheVariants as node
use Rattle.net_base.specs.declared.reply.Reply.{Reply}
use Rattle.net_base.specs.declared.world.Step.{Step}
use Rattle.net_base.specs.declared.world.Step.TheVariants as step
use Rattle.net_base.specs.ControlWords as control
use Rattle.net_base.specs.Paths.{mode_reads, walk, mode_writes}
use Rattle.net_base.specs.Steps.{uses, misuses, ends_with, read_event, opens, Ask, Asks, Ends, Fid, Names, Play, bind, controls, conversation_of, fid_of, if_accepted, is_accepted, is_bound, on_fid, open_event, openable, opened_fid, play_of, puts_text, unbind}
use Rattle.net_base.specs.Server.{Doing, Waits, doing_of, outcome_by}
use Rattle.net_base.specs.Session.{State}
use Rattle.net_base.specs.declared.request.Request.{Request}
use Rattle.script_task.specs.declared.effect.Effect.{Effect}
use Rattle.script_task.specs.declared.planned.Planned.{Planned}
use Rattle.script_task.specs.Effects.{effect_of, opened_file, settles_effect}
use Rattle.script_task.specs.Planning.{ask_of}
use Rattle.net_base.specs.Requests.{bound_after, head, planned, request_play, settled}
use Rattle.script_task.specs.Holdings.{Holdings}
use Rattle.session_answers.specs.Served.{IsServed, Reaches, asked_request, is_grant}
use Rattle.script_task.proofs.Shared.{unbind_free}

-- what a play does by its first event
data Ahead (after : Reply → Names) : Play → Type 0 where
  -- it ends with any reply
  One : (a : ActorName) (e : Event) (next : Reply → Play) → is_grant e ≡ false → ((x : Reply) → next x ≡ Ends (after x)) → Ahead after (Asks a e next)
  -- it asks once more after a reply that is accepted
  Two : (a : ActorName) (e : Event) (b : ActorName) (f : Event) (next last : Reply → Play)
      → ((x : Reply) → next x ≡ if_accepted x (Asks b f last) (Ends (after x))) → ((x y : Reply) → last y ≡ Ends (after x)) → is_grant e ≡ true
      → Ahead after (Asks a e next)

pub same_ends : (x : Reply) (names : Names) → if_accepted x (Ends names) (Ends names) ≡ Ends names
same_ends x names = by (is_accepted x)
  where
    by : (v : Bool) → cond v (Ends names) (Ends names) ≡ Ends names
    by true = refl
    by false = refl

either_ahead : (after : Reply → Names) (v : Bool) (p q : Play) → Ahead after p → Ahead after q → Ahead after (cond v p q)
either_ahead after true p q a b = a
either_ahead after false p q a b = b

-- ---- a write

controlled_ahead : (h : ℕ) (names : Names) (f : Fid) (text : List ℕ) (read : Result Ctl ℕ) → Ahead (λ (x : Reply). names) (controls h f text read (Ends names) (Ends names))
controlled_ahead h names f text (Ok (ctl.Connect remote lport)) = Two _ _ _ _ _ _ (λ x. refl) (λ x y. same_ends y names) refl
controlled_ahead h names f text (Ok (ctl.Announce ip port)) = One _ _ _ refl (λ x. same_ends x names)
controlled_ahead h names f text (Ok (ctl.Bind port)) = One _ _ _ refl (λ x. same_ends x names)
controlled_ahead h names f text (Ok ctl.Hangup) = One _ _ _ refl (λ x. same_ends x names)
controlled_ahead h names f text (Ok (ctl.Ttl n)) = One _ _ _ refl (λ x. same_ends x names)
controlled_ahead h names f text (Ok (ctl.Tos n)) = One _ _ _ refl (λ x. same_ends x names)
controlled_ahead h names f text (Err fault) = One _ _ _ refl (λ x. same_ends x names)

put_ahead : (h : ℕ) (names : Names) (f : Fid) (text : List ℕ) (g : FileName) → Ahead (λ (x : Reply). names) (puts_text h f g text (Ends names) (Ends names))
put_ahead h names f text file.Ctl = controlled_ahead h names f text (control.read text)
put_ahead h names f text file.Data = One _ _ _ refl (λ x. same_ends x names)
put_ahead h names f text file.Err = controlled_ahead h names f text (control.read text)
put_ahead h names f text file.Listen = controlled_ahead h names f text (control.read text)
put_ahead h names f text file.Local = controlled_ahead h names f text (control.read text)
put_ahead h names f text file.Remote = controlled_ahead h names f text (control.read text)
put_ahead h names f text file.Status = controlled_ahead h names f text (control.read text)

write_ahead : (h : ℕ) (names : Names) (called text : List ℕ) → Ahead (settled names (asked_request (step.Writex called text))) (request_play h names (asked_request (step.Writex called text)))
write_ahead h names called text = by (fid_of called names)
  where
    by : (o : Option Fid) → Ahead (λ (x : Reply). names)
        (on_fid o (uses h called names) (λ (f : Fid). cond (mode_writes f.mode) (puts_text h f f.file text (Ends names) (Ends names)) (misuses h called names)))
    by None = One _ _ _ refl (λ x. refl)
    by (Some f) =
        either_ahead (λ (x : Reply). names) (mode_writes f.mode) (puts_text h f f.file text (Ends names) (Ends names)) (misuses h called names)
        (put_ahead h names f text f.file) (One _ _ _ refl (λ x. refl))

read_ahead : (h : ℕ) (names : Names) (called : List ℕ) (count : ℕ) → Ahead (settled names (asked_request (step.Read called count))) (request_play h names (asked_request (step.Read called count)))
read_ahead h names called count = by (fid_of called names)
  where
    event_no : (f : Fid) (g : FileName) → is_grant (read_event f count g) ≡ false
    event_no f file.Ctl = refl
    event_no f file.Data = refl
    event_no f file.Err = refl
    event_no f file.Listen = refl
    event_no f file.Local = refl
    event_no f file.Remote = refl
    event_no f file.Status = refl

    by : (o : Option Fid) → Ahead (λ (x : Reply). names)
        (on_fid o (uses h called names)
        (λ (f : Fid). cond (mode_reads f.mode) (ends_with (conversation_of h f) (read_event f count f.file) names) (misuses h called names)))
    by None = One _ _ _ refl (λ x. refl)
    by (Some f) =
        either_ahead (λ (x : Reply). names) (mode_reads f.mode) (ends_with (conversation_of h f) (read_event f count f.file) names)
        (misuses h called names)
        (One _ _ _ (event_no f f.file) (λ x. refl)) (One _ _ _ refl (λ x. refl))

close_ahead : (h : ℕ) (names : Names) (called : List ℕ) → Ahead (settled names (asked_request (step.Close called))) (request_play h names (asked_request (step.Close called)))
close_ahead h names called = by (fid_of called names) refl
  where
    by : (o : Option Fid) → fid_of called names ≡ o → Ahead (λ (x : Reply). unbind called names)
        (on_fid o (uses h called names) (λ (f : Fid). ends_with (conversation_of h f) (event.Close f.generation) (unbind called names)))
    by None none = One _ _ _ refl (λ x. ap Ends (sym (unbind_free called names none)))
    by (Some f) found = One _ _ _ refl (λ x. refl)

open_ahead : (h : ℕ) (names : Names) (called path : List ℕ) (m : Mode) → Ahead (settled names (asked_request (step.Open called path (Some m)))) (request_play h names (asked_request (step.Open called path (Some m))))
open_ahead h names called path m = by (is_bound names called)
  where
    event_no : (n : Option Node) → is_grant (open_event path m n) ≡ false
    event_no None = refl
    event_no (Some node.Root) = refl
    event_no (Some node.Cs) = refl
    event_no (Some (node.Proto p)) = refl
    event_no (Some (node.Clone p)) = refl
    event_no (Some (node.Dir p n)) = refl
    event_no (Some (node.File p n file.Ctl)) = refl
    event_no (Some (node.File p n file.Data)) = refl
    event_no (Some (node.File p n file.Err)) = refl
    event_no (Some (node.File p n file.Listen)) = refl
    event_no (Some (node.File p n file.Local)) = refl
    event_no (Some (node.File p n file.Remote)) = refl
    event_no (Some (node.File p n file.Status)) = refl

    bound : (o : Option Fid) → on_fid o (Ends names) (λ (f : Fid). Ends (bind called f names)) ≡ Ends (bound_after called names o)
    bound None = refl
    bound (Some f) = refl

    by : (v : Bool) → Ahead (λ (x : Reply). cond v names (bound_after called names (opened_fid m (openable (walk path) m) x)))
        (cond v (uses h called names)
        (opens h path m (Ends names) (λ (f : Fid). Ends (bind called f names))))
    by true = One _ _ _ refl (λ x. refl)
    by false = One _ _ _ (event_no (openable (walk path) m)) (λ x. bound (opened_fid m (openable (walk path) m) x))

ahead : (h : ℕ) (names : Names) (s : Step) → IsServed s → Ahead (settled names (asked_request s)) (play_of h names s)
ahead h names (step.Open called path (Some m)) is = open_ahead h names called path m
ahead h names (step.Read called count) is = read_ahead h names called count
ahead h names (step.Writex called text) is = write_ahead h names called text
ahead h names (step.Close called) is = close_ahead h names called
ahead h names (step.Cs query) is = One _ _ _ refl (λ x. refl)
ahead h names _ is = absurd is

-- the request of a step plays as the step does
pub plays_as : (h : ℕ) (names : Names) (s : Step) → IsServed s → play_of h names s ≡ request_play h names (asked_request s)
plays_as h names (step.Open called path (Some m)) is = refl
plays_as h names (step.Read called count) is = refl
plays_as h names (step.Writex called text) is = refl
plays_as h names (step.Close called) is = refl
plays_as h names (step.Cs query) is = refl
plays_as h names _ is = absurd is

-- ---- replies

none_waits : (after : Reply → Names) (p : Play) → Ahead after p → (go_on : Names → Option Reply → Doing State) → outcome_by (doing_of p None go_on) [] ≡ Waits
none_waits after p (One a e next other ends) go_on = refl
none_waits after p (Two a e b f next last goes ends grants) go_on = refl

-- without a reply the step waits
pub waits : (h : ℕ) (names after : Names) (s : Step) → IsServed s → (rs left : List Reply) → rs ≡ [] → Reaches h names s rs after None left
waits h names after s is rs left none =
    λ go_on. ap (λ (xs : List Reply). outcome_by (doing_of (play_of h names s) None go_on) xs) none
    ∙ none_waits (settled names (asked_request s)) (play_of h names s) (ahead h names s is) go_on

-- the event of an ask, where there is one
abbrev event_in : Event → Option Ask → Event
event_in e None = e
event_in e (Some x) = x.event

event_is : (a b : ActorName) (e f : Event) (next : Reply → Play) → head (Asks a e next) ≡ Some (record { actor = b; event = f }) → e ≡ f
event_is a b e f next is = ap (event_in e) is

one_reply : (after : Reply → Names) (p : Play) → Ahead after p → (a : ActorName) (e : Event) → head p ≡ Some (record { actor = a; event = e })
    → (x : Reply) (left : List Reply) → (is_grant e && is_accepted x) ≡ false
    → (go_on : Names → Option Reply → Doing State) → outcome_by (doing_of p None go_on) (x ∷ left) ≡ outcome_by (go_on (after x) (Some x)) left
one_reply after p (One a e next other ends) b f is x left through go_on = ap (λ (q : Play). outcome_by (doing_of q (Some x) go_on) left) (ends x)
one_reply after p (Two a e b' f' next last goes ends grants) b f is x left through go_on =
    let refused : is_accepted x ≡ false = accepted (is_grant f) (is_accepted x) (ap is_grant (sym (event_is a b e f next is)) ∙ grants) through in
    ap (λ (q : Play). outcome_by (doing_of q (Some x) go_on) left) (goes x ∙ ap (λ (v : Bool). cond v (Asks b' f' last) (Ends (after x))) refused)
  where
    accepted : (u v : Bool) → u ≡ true → (u && v) ≡ false → v ≡ false
    accepted true v t n = n
    accepted false v t n = absurd (cc)

-- its reply is its last one
pub one_played : (h : ℕ) (names now : Names) (s : Step) → IsServed s → (a : ActorName) (e : Event)
    → head (play_of h names s) ≡ Some (record { actor = a; event = e }) → (x : Reply) (rs left : List Reply) → rs ≡ x ∷ left → (is_grant e && is_accepted x) ≡ false
    → now ≡ settled names (asked_request s) x → Reaches h names s rs now (Some x) left
one_played h names now s is a e asks x rs left first through settles_effect =
    λ go_on. ap (λ (xs : List Reply). outcome_by (doing_of (play_of h names s) None go_on) xs) first
    ∙ one_reply (settled names (asked_request s)) (play_of h names s) (ahead h names s is) a e asks x left through go_on
    ∙ ap (λ (ns : Names). outcome_by (go_on ns (Some x)) left) (sym settles_effect)

two_replies : (after : Reply → Names) (p : Play) → Ahead after p → (a : ActorName) (e : Event) → head p ≡ Some (record { actor = a; event = e })
    → (x : Reply) → (is_grant e && is_accepted x) ≡ true
    → (go_on : Names → Option Reply → Doing State)
    → ((outcome_by (doing_of p None go_on) (x ∷ []) ≡ Waits) × ((y : Reply) (left : List Reply) → outcome_by (doing_of p None go_on) (x ∷ y ∷ left) ≡ outcome_by (go_on (after x) (Some y)) left))
two_replies after p (One a e next other ends) b f is x more go_on = absurd (never (is_grant f) (is_accepted x) (ap is_grant (sym (event_is a b e f next is)) ∙ other) more)
  where
    never : (u v : Bool) → u ≡ false → (u && v) ≡ true → ⊥
    never true v n t = absurd (cc)
    never false v n t = absurd (cc)
two_replies after p (Two a e b' f' next last goes ends grants) b f is x more go_on =
    let accepted : is_accepted x ≡ true = second (is_grant f) (is_accepted x) more in
    let next_is : next x ≡ Asks b' f' last = goes x ∙ ap (λ (v : Bool). cond v (Asks b' f' last) (Ends (after x))) accepted in (
      ap (λ (q : Play). outcome_by (doing_of q (Some x) go_on) []) next_is,
      λ y left. ap (λ (q : Play). outcome_by (doing_of q (Some x) go_on) (y ∷ left)) next_is ∙ ap (λ (q : Play). outcome_by (doing_of q (Some y) go_on) left) (ends x y),
    )
  where
    second : (u v : Bool) → (u && v) ≡ true → v ≡ true
    second true v t = t
    second false v t = absurd (cc)

-- after a grant the reply to the next event is the last one
pub two_played : (h : ℕ) (names now : Names) (s : Step) → IsServed s → (a : ActorName) (e : Event)
    → head (play_of h names s) ≡ Some (record { actor = a; event = e }) → (x : Reply) (rs left : List Reply) → rs ≡ x ∷ left → (is_grant e && is_accepted x) ≡ true
    → now ≡ settled names (asked_request s) x → (y : Reply) (behind : List Reply) → left ≡ y ∷ behind → Reaches h names s rs now (Some y) behind
two_played h names now s is a e asks x rs left first more settles_effect y behind next =
    λ go_on. ap (λ (xs : List Reply). outcome_by (doing_of (play_of h names s) None go_on) xs) (first ∙ ap (λ (xs : List Reply). x ∷ xs) next)
    ∙ (two_replies (settled names (asked_request s)) (play_of h names s) (ahead h names s is) a e asks x more go_on).1 y behind
    ∙ ap (λ (ns : Names). outcome_by (go_on ns (Some y)) behind) (sym settles_effect)

pub two_wait : (h : ℕ) (names now : Names) (s : Step) → IsServed s → (a : ActorName) (e : Event)
    → head (play_of h names s) ≡ Some (record { actor = a; event = e }) → (x : Reply) (rs left : List Reply) → rs ≡ x ∷ left → (is_grant e && is_accepted x) ≡ true
    → left ≡ [] → (behind : List Reply) → Reaches h names s rs now None behind
two_wait h names now s is a e asks x rs left first more none behind =
    λ go_on. ap (λ (xs : List Reply). outcome_by (doing_of (play_of h names s) None go_on) xs) (first ∙ ap (λ (xs : List Reply). x ∷ xs) none)
    ∙ (two_replies (settled names (asked_request s)) (play_of h names s) (ahead h names s is) a e asks x more go_on).0

-- ---- by what the code planned

-- the request of a step was planned under these names
pub record Plans (h : ℕ) (b : Holdings) (s : Step) (q : Request) (p : Planned) : Type 0 where
  pub served : IsServed s
  pub asked_is : q ≡ asked_request s
  pub event_is : planned h b.names q ≡ Some (ask_of p)
  pub effect_is : p.effect ≡ effect_of b.names q

-- effects settle names as requests do
abbrev pub SettlesSo : Type 0
SettlesSo = (b : Holdings) (q : Request) (x : Reply) → (settles_effect (effect_of b.names q) (opened_file (effect_of b.names q) x) b).names ≡ settled b.names q x

heads : (h : ℕ) (b : Holdings) (s : Step) (q : Request) (p : Planned) → Plans h b s q p → head (play_of h b.names s) ≡ Some (ask_of p)
heads h b s q p so = ap head (plays_as h b.names s so.served) ∙ ap (λ (r : Request). head (request_play h b.names r)) (sym so.asked_is) ∙ so.event_is

names_settle : SettlesSo → (h : ℕ) (b now : Holdings) (s : Step) (q : Request) (p : Planned) → Plans h b s q p → (x : Reply) → now ≡ settles_effect p.effect (opened_file p.effect x) b
    → now.names ≡ settled b.names (asked_request s) x
names_settle law h b now s q p so x is =
    ap (λ (c : Holdings). c.names) is
    ∙ ap (λ (e : Effect). (settles_effect e (opened_file e x) b).names) so.effect_is
    ∙ law b q x
    ∙ ap (λ (r : Request). settled b.names r x) so.asked_is

pub none_left : (h : ℕ) (b : Holdings) (s : Step) (q : Request) (p : Planned) → Plans h b s q p → (rs left : List Reply) → rs ≡ [] → Reaches h b.names s rs b.names None left
none_left h b s q p so rs left none = waits h b.names b.names s so.served rs left none

pub one_done : SettlesSo → (h : ℕ) (b now : Holdings) (s : Step) (q : Request) (p : Planned) → Plans h b s q p → (x : Reply) (rs left : List Reply) → rs ≡ x ∷ left
    → now ≡ settles_effect p.effect (opened_file p.effect x) b → (test : Bool) → test ≡ (is_grant p.event && is_accepted x) → test ≡ false
    → Reaches h b.names s rs now.names (Some x) left
one_done law h b now s q p so x rs left first is test told off =
    one_played h b.names now.names s so.served p.actor p.event (heads h b s q p so) x rs left first (sym told ∙ off) (names_settle law h b now s q p so x is)

pub two_done : SettlesSo → (h : ℕ) (b now : Holdings) (s : Step) (q : Request) (p : Planned) → Plans h b s q p → (x : Reply) (rs left : List Reply) → rs ≡ x ∷ left
    → now ≡ settles_effect p.effect (opened_file p.effect x) b → (test : Bool) → test ≡ (is_grant p.event && is_accepted x) → test ≡ true
    → (o : Option (Bor Reply)) (behind : List Reply) → MatchOption o (left ≡ []) (λ (y : Bor Reply). left ≡ y.now ∷ behind)
    → Reaches h b.names s rs now.names (option_copied o) behind
two_done law h b now s q p so x rs left first is test told on None behind next =
    two_wait h b.names now.names s so.served p.actor p.event (heads h b s q p so) x rs left first (sym told ∙ on) next behind
two_done law h b now s q p so x rs left first is test told on (Some y) behind next =
    two_played h b.names now.names s so.served p.actor p.event (heads h b s q p so) x rs left first (sym told ∙ on) (names_settle law h b now s q p so x is) y.now behind next
