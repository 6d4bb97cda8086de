-- A script has a next event exactly if a step is unfinished, and each step has at least one event.
use Rattle.std.proofs.Common.{◌≡◌, ℕ, zero, suc, ◌-◌, ◌&&◌, not, nat_lt, Bool, true, false, List, [], ◌∷◌, ◌++◌, ◌<◌, length, take, inl, inr, Option, Some, None, is_some, slice_get, refl, sym, ap, subst, ◌∙◌, arith}
use Rattle.std.specs.Prelude.{IsSome, Result, Ok, Err, codes, find, if◌then◌else◌, nat_le}
use Rattle.std.proofs.lemmas.Bool.{lt-ltb, true≢false}
use Rattle.std.proofs.lemmas.List.{take-append-le, take_at}
use Rattle.net_base.specs.declared.actor.ActorName.{ActorName}
use Rattle.net_base.specs.declared.address.Addr.{Addr}
use Rattle.net_base.specs.declared.event.Event.{Event}
use Rattle.net_base.specs.declared.history.Entry.{Entry}
use Rattle.net_base.specs.declared.reply.Reply.{Reply}
use Rattle.net_base.specs.declared.left.Remote.{Remote}
use Rattle.net_base.specs.declared.event.Event.TheVariants as event
use Rattle.net_base.specs.declared.ninep.Tmsg.{Tmsg}
use Rattle.net_base.specs.DomainAnswers.{dns_answer}
use Rattle.net_base.specs.declared.names.FileName.{FileName}
use Rattle.net_base.specs.declared.names.FileName.TheVariants as file
use Rattle.net_base.specs.declared.names.Ctl.{Ctl}
use Rattle.net_base.specs.declared.names.Ctl.TheVariants as ctl
use Rattle.net_base.specs.declared.world.Script.{Script}
use Rattle.net_base.specs.declared.world.Step.{Step}
use Rattle.net_base.specs.declared.world.Step.TheVariants as step
use Rattle.net_base.specs.declared.world.World.{World}
use Rattle.net_base.specs.Next.{is_unfinished, next_recorded, own_replies, zone_of}
use Rattle.net_base.specs.Scripts.{Kept, at_first, heard_replies, kept_after, new_names, own_play, play_by, position, step_play}
use Rattle.net_base.specs.Steps.{Ask, Asking, Asks, Ends, Fid, Finished, Names, Play, Stand, answers_call, bytes_in, closes_all, controls, conversation_of, hears_call, if_accepted, serves_call, dotted_name, fid_of, is_answer, is_bound, misuses, on_fid, on_taken, open_call, position_by, puts_text, serves, stands, taken_name, takes_call, uses, with_bound, with_call, with_new, with_readable, with_writable}
use Rattle.net_base.specs.ControlWords as control
use Rattle.net_base.specs.Exports.{export_play, exported, exports, is_dotted, most_requests, own_of, unheard}
use Rattle.net_base.specs.Imports.{longest_text, sends_by}
use Rattle.net_base.specs.Paths.{mode_reads, mode_writes}
use Rattle.net_base.specs.Remotes.{is_remote, is_remote_path, remote_of}
use Rattle.net_base.specs.Tasks.{nobody}
use Rattle.net_base.proofs.Shared.{no_cons, there_at}
use Rattle.history_laws.proofs.Shared.{in_pushed}
use Rattle.grown_laws.specs.Grown.{HasNextAt, HasNextAtMoves, IsWithinSteps, behind, behind_by, grown, longer}
use Rattle.grown_laws.proofs.Scripts.{grew_at, own_next}
use Rattle.grown_laws.proofs.Unbegun.{is_asking, within_take}

module _ (h : ℕ) where
  asks_while_left : (ss : List Step) (k : Kept) (rs : List Reply) → is_some (position h ss k rs).next ≡ nat_lt 0 (length (position h ss k rs).left)
  asks_while_left [] k rs = refl
  asks_while_left (s ∷ ss) k rs = by_stand (stands (step_play h k s) rs) (λ kept later. asks_while_left ss kept later)
    where
      by_stand : (t : Stand) → ((kept : Kept) (later : List Reply) → is_some (position h ss kept later).next ≡ nat_lt 0 (length (position h ss kept later).left))
          → is_some (position_by t (s ∷ ss) (λ (names : Names) (later : List Reply). position h ss (kept_after k s names (heard_replies (step_play h k s) rs)) later)).next
          ≡ nat_lt 0 (length (position_by t (s ∷ ss) (λ (names : Names) (later : List Reply). position h ss (kept_after k s names (heard_replies (step_play h k s) rs)) later)).left)
      by_stand (Asking a) on = sym (lt-ltb 0 (length (s ∷ ss)) (omega arith))
      by_stand (Finished names later) on = on (kept_after k s names (heard_replies (step_play h k s) rs)) later

pub exactly : (w : World) (past : List Entry) (c : ℕ) (s : Script) → slice_get w.scripts c ≡ Some s → is_some (next_recorded w past c) ≡ is_unfinished w past c s
exactly w past c s here = ap is_some (own_next nobody w c [] past s here) ∙ asks_while_left s.host s.steps (at_first (zone_of w)) (own_replies past c)

-- Plays that begin with an event.

record Begins (p : Play) : Type 0 where
  ask : Ask
  stands_there : stands p [] ≡ Asking ask

at_once : (a : ActorName) (e : Event) (next : Reply → Play) → Begins (Asks a e next)
at_once a e next = record { ask = record { actor = a; event = e }; stands_there = refl }

either : (b : Bool) (p q : Play) → Begins p → Begins q → Begins (if b then p else q)
either true p q left right = left
either false p q left right = right

with_fid : (o : Option Fid) (p : Play) (next : Fid → Play) → Begins p → ((f : Fid) → Begins (next f)) → Begins (on_fid o p next)
with_fid None p next none some = none
with_fid (Some f) p next none some = some f

new_begins : (h : ℕ) (called : List ℕ) (names : Names) (next : Play) → Begins next → Begins (with_new h called names next)
new_begins h called names next is = either (is_bound names called) (uses h called names) next (at_once _ _ _) is

bound_begins : (h : ℕ) (called : List ℕ) (names : Names) (next : Fid → Play) → ((f : Fid) → Begins (next f)) → Begins (with_bound h called names next)
bound_begins h called names next is = with_fid (fid_of called names) (uses h called names) next (at_once _ _ _) is

readable_begins : (h : ℕ) (called : List ℕ) (names : Names) (next : Fid → Play) → ((f : Fid) → Begins (next f)) → Begins (with_readable h called names next)
readable_begins h called names next is =
    bound_begins h called names (λ (f : Fid). if mode_reads f.mode then next f else misuses h called names)
    (λ f. either (mode_reads f.mode) (next f) (misuses h called names) (is f) (at_once _ _ _))

writable_begins : (h : ℕ) (called : List ℕ) (names : Names) (next : Fid → Play) → ((f : Fid) → Begins (next f)) → Begins (with_writable h called names next)
writable_begins h called names next is =
    bound_begins h called names (λ (f : Fid). if mode_writes f.mode then next f else misuses h called names)
    (λ f. either (mode_writes f.mode) (next f) (misuses h called names) (is f) (at_once _ _ _))

controls_begins : (h : ℕ) (f : Fid) (text : List ℕ) (word : Result Ctl ℕ) (refused next : Play) → Begins (controls h f text word refused next)
controls_begins h f text (Ok (ctl.Connect remote lport)) refused next = at_once _ _ _
controls_begins h f text (Ok (ctl.Announce ip port)) refused next = at_once _ _ _
controls_begins h f text (Ok (ctl.Bind port)) refused next = at_once _ _ _
controls_begins h f text (Ok ctl.Hangup) refused next = at_once _ _ _
controls_begins h f text (Ok (ctl.Ttl n)) refused next = at_once _ _ _
controls_begins h f text (Ok (ctl.Tos n)) refused next = at_once _ _ _
controls_begins h f text (Err fault) refused next = at_once _ _ _

puts_begins : (h : ℕ) (f : Fid) (name : FileName) (text : List ℕ) (refused next : Play) → Begins (puts_text h f name text refused next)
puts_begins h f file.Data text refused next = at_once _ _ _
puts_begins h f name text refused next = controls_begins h f text (control.read text) refused next

call_begins : (h : ℕ) (called : List ℕ) (names : Names) (next : Fid → Fid → Addr → Addr → Play) → Begins (with_call h called names next)
call_begins h called names next = by_taken (taken_name names)
  where
    by_taken : (o : Option (List ℕ)) → Begins (on_taken o (λ (used : List ℕ). uses h used names) (with_bound h called names (λ (f : Fid). takes_call h f (Ends names) next)))
    by_taken None = bound_begins h called names (λ (f : Fid). takes_call h f (Ends names) next) (λ f. at_once _ _ _)
    by_taken (Some used) = at_once _ _ _

serves_call_begins : (h : ℕ) (called : List ℕ) (names : Names) (next : Play) → Begins (serves_call h called names next)
serves_call_begins h called names next = call_begins h called names (λ (call data_file : Fid) (remote local : Addr).
    Asks (conversation_of h data_file) (event.Read data_file.generation 8192) (λ (r : Reply).
    if_accepted r (answers_call h call data_file (dns_answer names.zone (bytes_in r)) (Ends names) next)
    (closes_all h (data_file ∷ call ∷ []) (Ends names))))

serves_begins : (h : ℕ) (called : List ℕ) (names : Names) (n : ℕ) → Begins (serves h called names n)
serves_begins h called names zero = serves_call_begins h called names (Ends names)
serves_begins h called names (suc n) = serves_call_begins h called names (serves h called names n)

sends_begins : (h : ℕ) (called : List ℕ) (names : Names) (o : Option Remote) (message : ℕ → Tmsg) → Begins (sends_by h called names o message)
sends_begins h called names None message = at_once _ _ _
sends_begins h called names (Some r) message = at_once _ _ _

some_requests : most_requests ≡ suc 131071
unfolding most_requests
some_requests = refl

exports_begins : (h : ℕ) (called : List ℕ) (names : Names) (n : ℕ) → Begins (exports (exported h) (own_of h called names) (suc n) (unheard names))
exports_begins h called names n = at_once _ _ _

export_begins : (h : ℕ) (called : List ℕ) (names : Names) → Begins (export_play h called names)
export_begins h called names =
    either (is_dotted called) (uses h called names) (exports (exported h) (own_of h called names) most_requests (unheard names)) (at_once _ _ _)
    (subst (λ (n : ℕ). Begins (exports (exported h) (own_of h called names) n (unheard names))) (sym some_requests) (exports_begins h called names 131071))

play_begins : (h : ℕ) (k : Kept) (s : Step) → Begins (own_play h k s)
play_begins h k (step.Export called) = export_begins h called k.names
play_begins h k (step.Import call) = at_once _ _ _
play_begins h k (step.Ropen called call path m) = either (is_remote_path path && not (is_bound k.names call && is_bound k.names called)) _ _ (at_once _ _ _) (at_once _ _ _)
play_begins h k (step.Rread called count) = sends_begins h called k.names (remote_of called k.left) _
play_begins h k (step.Rwrite called text) = either (nat_le (length text) longest_text) _ _ (sends_begins h called k.names (remote_of called k.left) _) (at_once _ _ _)
play_begins h k (step.Rclose called) = sends_begins h called k.names (remote_of called k.left) _
play_begins h k (step.Open called path m) = new_begins h called k.names _ (at_once _ _ _)
play_begins h k (step.Read called count) = readable_begins h called k.names _ (λ f. at_once _ _ _)
play_begins h k (step.Write called text) = writable_begins h called k.names _ (λ f. puts_begins h f f.file text _ _)
play_begins h k (step.Writex called text) = writable_begins h called k.names _ (λ f. puts_begins h f f.file text _ _)
play_begins h k (step.Close called) = bound_begins h called k.names _ (λ f. at_once _ _ _)
play_begins h k (step.Ls path) = at_once _ _ _
play_begins h k (step.Cs query) = at_once _ _ _
play_begins h k (step.Until moment) = at_once _ _ _
play_begins h k step.Refresh = at_once _ _ _
play_begins h k (step.Dial called address) = new_begins h called k.names _ (new_begins h (dotted_name called) k.names _ (at_once _ _ _))
play_begins h k (step.Announce called address) = new_begins h called k.names _ (at_once _ _ _)
play_begins h k (step.Listen called from) = bound_begins h from k.names _ (λ f. new_begins h called k.names _ (at_once _ _ _))
play_begins h k (step.Accept called from) = bound_begins h from k.names _ (λ f. new_begins h called k.names _ (at_once _ _ _))
play_begins h k (step.Reject called) = writable_begins h called k.names _ (λ f. puts_begins h f f.file (codes "hangup") _ _)
play_begins h k (step.Hangup called) = writable_begins h called k.names _ (λ f. puts_begins h f f.file (codes "hangup") _ _)
play_begins h k (step.Hread called count) = call_begins h called k.names (λ (call data_file : Fid) (remote local : Addr). hears_call h k.names count call data_file (record { name = called; remote = remote; local = local }))
play_begins h k (step.Hwrite called bytes) = with_fid (open_call called k.names) _ _ (at_once _ _ _) (λ f. either (is_answer bytes k.names.heard) _ _ (at_once _ _ _) (at_once _ _ _))
play_begins h k (step.Dns called times) = serves_begins h called k.names (times - 1)

pub step_begins : (h : ℕ) (k : Kept) (s : Step) → (a : Ask) × (stands (step_play h k s) [] ≡ Asking a)
step_begins h k s = by_name (find (is_remote k.left) (new_names s))
  where
    by_name : (o : Option (List ℕ)) → (a : Ask) × (stands (play_by h k s o) [] ≡ Asking a)
    by_name (Some called) = (_, refl)
    by_name None = let begins = play_begins h k s in (begins.ask, begins.stands_there)

-- A script with a step of which the history has no event has a next event.

module _ (h : ℕ) (s : Step) (more : List Step) where
  -- if the other steps are finished, the first step after them asks
  behind_asks : (k : Kept) (t : Stand) → (a : Ask) × (t ≡ Asking a)
      → IsSome (position_by t (s ∷ more) (λ (names : Names) (later : List Reply). position h more (kept_after k s names (heard_replies (step_play h k s) [])) later)).next
  behind_asks k (Asking b) asks = refl
  behind_asks k (Finished names later) asks = absurd (true≢false (ap is_asking (sym asks.1)))

  asks_on_end : (ss : List Step) (k : Kept) (rs : List Reply) → behind h ss k rs ≡ [] → IsSome (position h (ss ++ s ∷ more) k rs).next
  asks_on_end [] k [] none = behind_asks k (stands (step_play h k s) []) (step_begins h k s)
  asks_on_end [] k (r ∷ rs) none = absurd (no_cons r rs none)
  asks_on_end (t ∷ ss) k rs none = by_stand (stands (step_play h k t) rs) none (λ kept later nothing. asks_on_end ss kept later nothing)
    where
      by_stand : (u : Stand)
          → behind_by u (λ (names : Names) (later : List Reply). behind h ss (kept_after k t names (heard_replies (step_play h k t) rs)) later) ≡ []
          → ((kept : Kept) (later : List Reply) → behind h ss kept later ≡ [] → IsSome (position h (ss ++ s ∷ more) kept later).next)
          → IsSome (position_by u (t ∷ ss ++ s ∷ more) (λ (names : Names) (later : List Reply). position h (ss ++ s ∷ more) (kept_after k t names (heard_replies (step_play h k t) rs)) later)).next
      by_stand (Asking a) nothing on = refl
      by_stand (Finished names later) nothing on = on (kept_after k t names (heard_replies (step_play h k t) rs)) later nothing

pub unbegun_asks : (w : World) (c : ℕ) (s : Step) (more : List Step) (past : List Entry) → c < length w.scripts → IsWithinSteps w c past
    → IsSome (next_recorded (grown w c (s ∷ more)) past c)
unbegun_asks w c s more past lt within =
    let found = there_at w.scripts c lt in
    let big : World = grown w c (s ∷ more) in
    subst (λ (o : Option Ask). IsSome o) (sym (own_next nobody big c [] past (longer found.0 (s ∷ more)) (grew_at w.scripts c (s ∷ more) found.0 found.1)))
    (asks_on_end found.0.host s more found.0.steps (at_first (zone_of w)) (own_replies past c) (within found.0 found.1))

pub unbegun_moves : (w : World) (c : ℕ) (s : Step) (more : List Step) (h : List Entry) → c < length w.scripts → IsWithinSteps w c h
    → HasNextAtMoves (grown w c (s ∷ more)) c h
unbegun_moves w c s more h lt within k x is = by_event x.event (unbegun_asks w c s more (take k h) lt (within_take w c h k x is within))
  where
    by_event : (e : Event) → IsSome (next_recorded (grown w c (s ∷ more)) (take k h) c) → HasNextAt (grown w c (s ∷ more)) c (take k h) e
    by_event (event.Move m) there = there
    by_event e there = tt

-- a history with one more entry
pub moves_push : (w : World) (c : ℕ) (h : List Entry) (x : Entry) → HasNextAtMoves w c h → HasNextAt w c h x.event → HasNextAtMoves w c (h ++ x ∷ [])
moves_push w c h x there now k y is =
    elim (in_pushed h x k y is) [
      | inl old ↦ subst (λ (p : List Entry). HasNextAt w c p y.event) (sym (take-append-le k h (x ∷ []) (omega (arith, old.0)))) (there k y old.1)
      | inr last ↦
          let here : take k (h ++ x ∷ []) ≡ h = rw last.0 (take_at h (x ∷ []) (length h) refl) in
          subst (λ (p : List Entry). HasNextAt w c p y.event) (sym here) (subst (λ (z : Entry). HasNextAt w c h z.event) last.1 now)
    ]
