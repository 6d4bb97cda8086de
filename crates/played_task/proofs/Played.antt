-- A script's task plays the script, and its code goes from step to step as the definitions do.
use Rattle.std.proofs.Common.{◌≡◌, ℕ, zero, suc, ◌+◌, ◌<◌, ◌∙◌, Bool, true, false, List, [], ◌∷◌, ◌++◌, drop, length, Option, Some, None, slice_get, is_none, is_some, nat_lt, nat_le, option_map, if◌then◌else◌, refl, sym, ap, subst, rules, tests, arith}
use Rattle.std.proofs.lemmas.Bool.Decides.{nat_tests}
use Rattle.std.proofs.lemmas.Bool.{true≢false, lt-ltb, lt-leb}
use Rattle.std.proofs.lemmas.Option.{none-some}
use Rattle.std.proofs.lemmas.List.{append-nil}
use Rattle.net_base.specs.declared.left.Left.{Left}
use Rattle.net_base.specs.declared.reply.Reply.{Reply}
use Rattle.net_base.specs.declared.world.Script.{Script}
use Rattle.net_base.specs.declared.world.Step.{Step}
use Rattle.net_base.specs.Next.{finished_by}
use Rattle.net_base.specs.Remotes.{nothing_left}
use Rattle.net_base.specs.Scripts.{Kept as Holds, at_first, heard_replies as first_replies, left_after, position, step_play}
use Rattle.net_base.specs.Steps.{Names, Play, Asks, Ends, Position, no_names, position_by, stands}
use Rattle.net_base.specs.Versions.{Tuples}
use Rattle.net_base.specs.declared.request.Request.{Request}
use Rattle.net_base.specs.Requests.{head, settled}
use Rattle.script_task.specs.Rest.{rest}
use Rattle.script_task.specs.Task.{Heads}
use Rattle.played_task.specs.declared.step.StepTask.{StepTask}
use Rattle.dial_lib.specs.Slots.{HaveSlots}
use Rattle.played_task.specs.Leaving.{after_one, leaves_so}
use Rattle.played_task.specs.StepLaws as step_laws
use Rattle.played_task.specs.StepTasks as step
use Rattle.played_task.specs.ScriptLaws.{begins, ended_play, step_heads}
use Rattle.played_task.specs.ScriptTasks.{Scripting, finished_in, AtStep, AtEnd, begun_at, begun_by, progress, step_goes_on, KeptStep, asks, first_asked, after, heard_in_step, told_by_task, is_played, left_by, task_after_all, AllFit, play_behind, plays_of, plays_behind, Plays}
use Rattle.net_base.proofs.Shared.{append_one}

-- Replies.

-- The play of the steps is the script's.

-- a play goes on from where a script stands
record Ties (at : Position) (p : Play) : Type 0 where
  next_is : at.next ≡ head p
  left_is : nat_lt 0 (length at.left) ≡ is_some (head p)

rest_ended : (names : Names) (rs : List Reply) → head (rest (Ends names) rs) ≡ None
rest_ended names [] = refl
rest_ended names (r ∷ rs) = rest_ended names rs

ended : (names : Names) (rs : List Reply) → Ties (record { next = None; left = [] }) (rest (Ends names) rs)
ended names rs = record { next_is = sym (rest_ended names rs); left_is = ap is_some (sym (rest_ended names rs)) }

-- where the steps behind a step stand that was told these replies, and so their plays
abbrev behind_at : ℕ → List Step → Left → Step → List Reply → Names → List Reply → Position
behind_at h behind left s said names later = position h behind (record { names = names; left = left_after left s said }) later

-- a step's play, which was told these replies, before these
step_ties : (h : ℕ) (left : Left) (s : Step) (ss : List Step) → ((k : Holds) (rs : List Reply) → Ties (position h ss k rs) (rest (plays_of h ss k) rs))
    → (said : List Reply) (p : Play) (rs : List Reply)
    → Ties (position_by (stands p rs) (s ∷ ss) (behind_at h ss left s (said ++ first_replies p rs))) (rest (play_behind said p (plays_behind h ss left s)) rs)
step_ties h left s ss later said (Ends names) rs =
    subst (λ (xs : List Reply). Ties (behind_at h ss left s xs names rs) (rest (plays_behind h ss left s names said) rs)) (sym (append-nil said))
    (later (record { names = names; left = left_after left s said }) rs)
step_ties h left s ss later said (Asks a e next) [] = record { next_is = refl; left_is = lt-ltb 0 (suc (length ss)) (omega arith) }
step_ties h left s ss later said (Asks a e next) (r ∷ rs) =
    subst (λ (xs : List Reply). Ties (position_by (stands (next r) rs) (s ∷ ss) (behind_at h ss left s xs)) (rest (play_behind (said ++ r ∷ []) (next r) (plays_behind h ss left s)) rs))
    (append_one said r (first_replies (next r) rs))
    (step_ties h left s ss later (said ++ r ∷ []) (next r) rs)

ties : (h : ℕ) (ss : List Step) (k : Holds) (rs : List Reply) → Ties (position h ss k rs) (rest (plays_of h ss k) rs)
ties h [] k rs = ended k.names rs
ties h (s ∷ ss) k rs = step_ties h k.left s ss (ties h ss) [] (step_play h k s) rs

-- Steps that are finished.

-- what is finished and what is left make up the script, whatever replies come
abbrev AddsUp : ℕ → List Reply → Type 0
AddsUp h rs = (n : ℕ) (names : Names) (left : Left) (t : StepTask) (behind : List Step) (s : Step) (said : List Reply) (p : Play) → step.StandsFor h names t p
    → t ≡ step.after_all (step.begun left s) said → is_none (step.asks t names) ≡ false → AllFit (play_behind said p (plays_behind h behind left s)) rs
    → finished_in (task_after_all (AtStep n left t behind) rs) + length (position_by (stands p rs) (s ∷ behind) (behind_at h behind left s (said ++ first_replies p rs))).left ≡ n + suc (length behind)

ended_adds : (n : ℕ) (left : Left) (rs : List Reply) → finished_in (task_after_all (AtEnd n left) rs) ≡ n
ended_adds n left [] = refl
ended_adds n left (r ∷ rs) = ended_adds n left rs

some_request : (o : Option Request) → is_none o ≡ false → (q : Request) × (o ≡ Some q)
some_request None is = absurd (true≢false is)
some_request (Some q) is = (q, refl)

-- a step that isn't through has no play that has ended
not_ended : (h : ℕ) (names ns : Names) (t : StepTask) → step.StandsFor h names t (Ends ns) → is_none (step.asks t names) ≡ false → ⊥
not_ended h names ns t stands on =
    let found = some_request (step.asks t names) on in
    let heads : Heads h names (Some found.0) (Ends ns) = step_heads h names t (Ends ns) found.0 stands found.1 in
    none-some heads.0 heads.1

adds_none : (h : ℕ) → AddsUp h []
adds_none h n names left t behind s said (Asks a e next) at told on fit = refl
adds_none h n names left t behind s said (Ends ns) at told on fit = absurd (not_ended h names ns t at on)

-- where the first of these begins
begun_adds : (h : ℕ) (rs : List Reply) → AddsUp h rs → (n : ℕ) (names : Names) (left : Left) (steps : List Step) → HaveSlots names
    → AllFit (plays_of h steps (record { names = names; left = left })) rs
    → finished_in (task_after_all (begun_at n left steps) rs) + length (position h steps (record { names = names; left = left }) rs).left ≡ n + length steps
begun_adds h rs more n names left [] slots fit = ap (λ (k : ℕ). k + 0) (ended_adds n left rs)
begun_adds h rs more n names left (s ∷ ss) slots fit =
    more n names left (step.begun left s) ss s [] (step_play h (record { names = names; left = left }) s) (step_laws.begun_stands (step.begun left s) left s refl h names slots) refl
    (step_laws.begun_asks left s names) fit

-- the step goes on, or the next one begins
adds_by : (h : ℕ) (rs : List Reply) → AddsUp h rs → (n : ℕ) (names : Names) (left : Left) (t : StepTask) (behind : List Step) (s : Step) (said : List Reply) (p : Play)
    → step.StandsFor h names t p → t ≡ step.after_all (step.begun left s) said → step.leaves t left ≡ left_after left s said
    → (through : Bool) → is_none (step.asks t names) ≡ through → AllFit (play_behind said p (plays_behind h behind left s)) rs
    → finished_in (task_after_all (step_goes_on n left t behind through) rs) + length (position_by (stands p rs) (s ∷ behind) (behind_at h behind left s (said ++ first_replies p rs))).left ≡ n + suc (length behind)
adds_by h rs more n names left t behind s said p at told leaves false is fit = more n names left t behind s said p at told is fit
adds_by h rs more n names left t behind s said p at told leaves true is fit =
    let over : p ≡ Ends names = ended_play h names t p at is in
    let fit_there : AllFit (plays_behind h behind left s names said) rs = subst (λ (x : Play). AllFit (play_behind said x (plays_behind h behind left s)) rs) over fit in
    let fit_next : AllFit (plays_of h behind (record { names = names; left = step.leaves t left })) rs =
    subst (λ (l : Left). AllFit (plays_of h behind (record { names = names; left = l })) rs) (sym leaves) fit_there in
    let next : finished_in (task_after_all (begun_at (n + 1) (step.leaves t left) behind) rs) + length (position h behind (record { names = names; left = step.leaves t left }) rs).left ≡ (n + 1) + length behind =
    begun_adds h rs more (n + 1) names (step.leaves t left) behind at.0 fit_next in
    let there : finished_in (task_after_all (begun_at (n + 1) (step.leaves t left) behind) rs) + length (behind_at h behind left s said names rs).left ≡ (n + 1) + length behind =
    subst (λ (l : Left). finished_in (task_after_all (begun_at (n + 1) (step.leaves t left) behind) rs) + length (position h behind (record { names = names; left = l }) rs).left ≡ (n + 1) + length behind) leaves next in
    let all : finished_in (task_after_all (begun_at (n + 1) (step.leaves t left) behind) rs) + length (behind_at h behind left s (said ++ []) names rs).left ≡ (n + 1) + length behind =
    subst (λ (xs : List Reply). finished_in (task_after_all (begun_at (n + 1) (step.leaves t left) behind) rs) + length (behind_at h behind left s xs names rs).left ≡ (n + 1) + length behind) (sym (append-nil said)) there in
    let same : (n + 1) + length behind ≡ n + suc (length behind) = omega arith in
    subst (λ (x : Play).
    finished_in (task_after_all (begun_at (n + 1) (step.leaves t left) behind) rs) + length (position_by (stands x rs) (s ∷ behind) (behind_at h behind left s (said ++ first_replies x rs))).left ≡ n + suc (length behind)) (sym over)
    (all ∙ same)

adds_more : (h : ℕ) (r : Reply) (rs : List Reply) → AddsUp h rs → AddsUp h (r ∷ rs)
adds_more h r rs more n names left t behind s said (Ends ns) at told on fit = absurd (not_ended h names ns t at on)
adds_more h r rs more n names left t behind s said (Asks a e next) at told on fit =
    let found = some_request (step.asks t names) on in
    let through : Bool = is_none (step.asks (step.after t r) (no_names [])) in
    subst (λ (xs : List Reply).
    finished_in (task_after_all (step_goes_on n left (step.after t r) behind through) rs) + length (position_by (stands (next r) rs) (s ∷ behind) (behind_at h behind left s xs)).left ≡ n + suc (length behind))
    (append_one said r (first_replies (next r) rs))
    (adds_by h rs more n (settled names found.0 r) left (step.after t r) behind s (said ++ r ∷ []) (next r)
    (step_laws.moves_so h names t (Asks a e next) found.0 r at found.1 fit.0)
    (ap (λ (u : StepTask). step.after u r) told ∙ after_one (step.begun left s) said r)
    (leaves_so left s said r t told (sym (step_laws.asks_alike t names (no_names [])) ∙ on))
    through (step_laws.asks_alike (step.after t r) (settled names found.0 r) (no_names [])) fit.1)

adds_up : (h : ℕ) (rs : List Reply) → AddsUp h rs
adds_up h [] = adds_none h
adds_up h (r ∷ rs) = adds_more h r rs (adds_up h rs)

-- The beginning.

counts_from : (zone : Tuples) (s : Script) (rs : List Reply) → AllFit (plays_of s.host s.steps (at_first zone)) rs
    → finished_in (task_after_all (begun_at 0 nothing_left s.steps) rs) ≡ finished_by zone rs s
counts_from zone s rs fit =
    let all : finished_in (task_after_all (begun_at 0 nothing_left s.steps) rs) + length (position s.host s.steps (at_first zone) rs).left ≡ 0 + length s.steps =
    begun_adds s.host rs (adds_up s.host rs) 0 (no_names zone) nothing_left s.steps refl fit in
    omega (arith, all)

starts_at : (zone : Tuples) (s : Script) → Plays zone s [] (no_names zone) (begun_at 0 nothing_left s.steps)
starts_at zone s =
    record {
      play = plays_of s.host s.steps (at_first zone);
      stands_for = begins s.host 0 (no_names zone) nothing_left s.steps refl;
      continues = record { next_is = λ more. (ties s.host s.steps (at_first zone) more).next_is; left_is = λ more. (ties s.host s.steps (at_first zone) more).left_is };
      counts = λ more fit. counts_from zone s more fit;
    }

pub starts : (zone : Tuples) (s : Script) (ss : List Step) (left : Left) → ss ≡ s.steps → left ≡ nothing_left → Plays zone s [] (no_names zone) (begun_at 0 left ss)
starts zone s ss left is none =
    subst (λ (l : Left). Plays zone s [] (no_names zone) (begun_at 0 l ss)) (sym none)
    (subst (λ (xs : List Step). Plays zone s [] (no_names zone) (begun_at 0 nothing_left xs)) (sym is) (starts_at zone s))

pub finished_right : (zone : Tuples) (s : Script) (rs : List Reply) (names : Names) (t : Scripting) → Plays zone s rs names t → finished_in t ≡ finished_by zone rs s
finished_right zone s rs names t at = subst (λ (xs : List Reply). finished_in t ≡ finished_by zone xs s) (append-nil rs) (at.counts [] tt)

-- What the fields stand for.

begun_finished : (n : ℕ) (left : Left) (steps : List Step) → finished_in (begun_at n left steps) ≡ n
begun_finished n left [] = refl
begun_finished n left (s ∷ ss) = refl

pub progress_finished : (n : ℕ) (left : Left) (t : Option StepTask) (steps : List Step) → finished_in (progress n left t steps) ≡ n
progress_finished n left None steps = begun_finished n left steps
progress_finished n left (Some t) steps = refl

le_nothing : (n : ℕ) → nat_le 0 n ≡ true
le_nothing n = search (rules, tests)

le_more : (m n : ℕ) → nat_le (suc m) (suc n) ≡ nat_le m n
le_more m n = grind (arith, nat_tests)

-- no step is left exactly where nothing is asked
none_left : (n : ℕ) (left : Left) (ss : List Step) (names : Names) → nat_le (length ss) n ≡ is_none (asks (begun_at 0 left (drop n ss)) names)
none_left zero left [] names = le_nothing 0
none_left zero left (s ∷ ss) names = lt-leb (suc (length ss)) 0 (omega arith) ∙ sym (step_laws.begun_asks left s names)
none_left (suc n) left [] names = le_nothing (suc n)
none_left (suc n) left (s ∷ ss) names = le_more (length ss) n ∙ none_left n left ss names

begun_alike : (m n : ℕ) (left : Left) (steps : List Step) (names : Names) → asks (begun_at m left steps) names ≡ asks (begun_at n left steps) names
begun_alike m n left [] names = refl
begun_alike m n left (s ∷ ss) names = refl

pub through_right : (n : ℕ) (left : Left) (t : Option StepTask) (ss : List Step) → KeptStep n t ss
    → (names : Names) → nat_le (length ss) n ≡ is_none (asks (progress n left t (drop n ss)) names)
through_right n left None ss kept names = none_left n left ss names ∙ ap is_none (begun_alike 0 n left (drop n ss) names)
through_right n left (Some t) ss kept names = lt-leb (length ss) n kept.0 ∙ sym (kept.1 names)

-- the step that begins is the first of those that are to come
begun_left : (n : ℕ) (ss : List Step) (o : Option Step) → slice_get ss n ≡ o → (m : ℕ) (left : Left) → progress m left (option_map (step.begun left) o) (drop n ss) ≡ begun_at m left (drop n ss)
begun_left zero [] o is m left = subst (λ (x : Option Step). progress m left (option_map (step.begun left) x) [] ≡ begun_at m left []) is refl
begun_left zero (s ∷ ss) o is m left = subst (λ (x : Option Step). progress m left (option_map (step.begun left) x) (s ∷ ss) ≡ begun_at m left (s ∷ ss)) is refl
begun_left (suc n) [] o is m left = subst (λ (x : Option Step). progress m left (option_map (step.begun left) x) [] ≡ begun_at m left []) is refl
begun_left (suc n) (s ∷ ss) o is m left = begun_left n ss o is m left

-- whether it has begun or not, it stands for the same
pub begun_same : (n : ℕ) (left : Left) (t : Option StepTask) (ss : List Step) → progress n left (begun_by left t (slice_get ss n)) (drop n ss) ≡ progress n left t (drop n ss)
begun_same n left None ss = begun_left n ss (slice_get ss n) refl n left
begun_same n left (Some t) ss = refl

-- The first of the steps that are to come.

drop_none : (n : ℕ) (ss : List Step) → slice_get ss n ≡ None → drop n ss ≡ []
drop_none zero [] is = refl
drop_none (suc n) [] is = refl
drop_none zero (x ∷ ss) is = absurd (none-some x (sym is))
drop_none (suc n) (x ∷ ss) is = drop_none n ss is

drop_more : (n : ℕ) (ss : List Step) → drop (n + 1) ss ≡ drop 1 (drop n ss)
drop_more n ss = ap (λ (k : ℕ). drop k ss) next ∙ by n ss
  where
    next : n + 1 ≡ suc n
    next = omega arith

    by : (n : ℕ) (ss : List Step) → drop (suc n) ss ≡ drop 1 (drop n ss)
    by zero ss = refl
    by (suc n) [] = refl
    by (suc n) (x ∷ ss) = by n ss

in_range : (n : ℕ) (ss : List Step) (s : Step) → slice_get ss n ≡ Some s → n < length ss
in_range n [] s is = absurd (none-some s is)
in_range zero (x ∷ ss) s is = omega arith
in_range (suc n) (x ∷ ss) s is = omega (arith, in_range n ss s is)

first_by : (n m : ℕ) (left : Left) (ss : List Step) (names : Names) → first_asked left (slice_get ss n) names ≡ asks (begun_at m left (drop n ss)) names
first_by zero m left [] names = refl
first_by (suc n) m left [] names = refl
first_by zero m left (s ∷ ss) names = refl
first_by (suc n) m left (s ∷ ss) names = first_by n m left ss names

-- where none has begun, the script's task asks as the first of them does
pub asks_first : (n : ℕ) (left : Left) (t : Option StepTask) (ss : List Step) → t ≡ None → (names : Names)
    → first_asked left (slice_get ss n) names ≡ asks (progress n left t (drop n ss)) names
asks_first n left t ss none names = first_by n n left ss names ∙ ap (λ (u : Option StepTask). asks (progress n left u (drop n ss)) names) (sym none)

-- A reply.

kept_first : (n : ℕ) (left : Left) (ss : List Step) (o : Option Step) → slice_get ss n ≡ o → KeptStep n (option_map (step.begun left) o) ss
kept_first n left ss None is = tt
kept_first n left ss (Some s) is = (in_range n ss s is, step_laws.begun_asks left s)

kept_by : (n : ℕ) (left : Left) (t : Option StepTask) (ss : List Step) → KeptStep n t ss → KeptStep n (begun_by left t (slice_get ss n)) ss
kept_by n left None ss kept = kept_first n left ss (slice_get ss n) refl
kept_by n left (Some t) ss kept = kept

-- begun as it was, it is kept
pub kept_same : (n : ℕ) (left later : Left) (t u : Option StepTask) (ss : List Step) → KeptStep n t ss → begun_by later u (slice_get ss n) ≡ begun_by left t (slice_get ss n) → KeptStep n u ss
kept_same n left later t None ss kept is = tt
kept_same n left later t (Some x) ss kept is = subst (λ (y : Option StepTask). KeptStep n y ss) (sym is) (kept_by n left t ss kept)

-- and stands for the same
pub still_same : (n : ℕ) (left later : Left) (t u : Option StepTask) (ss : List Step) → begun_by later u (slice_get ss n) ≡ begun_by left t (slice_get ss n) → later ≡ left
    → progress n later u (drop n ss) ≡ progress n left t (drop n ss)
still_same n left later t u ss is same =
    sym (begun_same n later u ss)
    ∙ (ap (λ (x : Option StepTask). progress n later x (drop n ss)) is
    ∙ (ap (λ (l : Left). progress n l (begun_by left t (slice_get ss n)) (drop n ss)) same ∙ begun_same n left t ss))

pub kept_none : (n : ℕ) (t : Option StepTask) (ss : List Step) → t ≡ None → KeptStep n t ss
kept_none n t ss is = subst (λ (x : Option StepTask). KeptStep n x ss) (sym is) tt

heard_kept : (n : ℕ) (u : Option StepTask) (ss : List Step) (r : Reply) → KeptStep n u ss → ((names : Names) → false ≡ is_played (heard_in_step u r) names) → KeptStep n (heard_in_step u r) ss
heard_kept n None ss r kept on = tt
heard_kept n (Some t) ss r kept on = (kept.0, λ names. sym (on names))

room_by : (n : ℕ) (u : Option StepTask) (ss : List Step) (r : Reply) → KeptStep n u ss → true ≡ is_played (heard_in_step u r) (no_names []) → n < length ss
room_by n None ss r kept over = absurd (true≢false over)
room_by n (Some t) ss r kept over = kept.0

-- a step that goes on leaves nothing yet
left_on : (x : Option StepTask) (left : Left) → false ≡ is_played x (no_names []) → left_by x left ≡ left
left_on None left on = refl
left_on (Some t) left on = ap (λ (b : Bool). if b then step.leaves t left else left) (sym on)

-- the step goes on
on_by : (n : ℕ) (left : Left) (u : Option StepTask) (ss : List Step) (r : Reply) → u ≡ begun_by left u (slice_get ss n) → (x : Option StepTask) → heard_in_step u r ≡ x → false ≡ is_played x (no_names [])
    → progress n left x (drop n ss) ≡ after (progress n left u (drop n ss)) r
on_by n left None ss r is x told on = ap (λ (y : Option StepTask). progress n left y (drop n ss)) (sym told) ∙ ended_after (slice_get ss n) refl
  where
    ended_after : (o : Option Step) → slice_get ss n ≡ o → begun_at n left (drop n ss) ≡ after (begun_at n left (drop n ss)) r
    ended_after None none = subst (λ (steps : List Step). begun_at n left steps ≡ after (begun_at n left steps) r) (sym (drop_none n ss none)) refl
    ended_after (Some s) some = absurd (none-some (step.begun left s) (is ∙ ap (option_map (step.begun left)) some))
on_by n left (Some t) ss r is x told on =
    ap (λ (y : Option StepTask). progress n left y (drop n ss)) (sym told)
    ∙ ap (step_goes_on n left (step.after t r) (drop 1 (drop n ss))) (on ∙ sym (ap (λ (y : Option StepTask). is_played y (no_names [])) told))

twice : (left : Left) (t : Option StepTask) (o : Option Step) → begun_by left t o ≡ begun_by left (begun_by left t o) o
twice left None None = refl
twice left None (Some s) = refl
twice left (Some t) o = refl

-- the step is finished, and the next one begins
through_is : (n : ℕ) (left : Left) (t : StepTask) (steps : List Step) (b : Bool) → true ≡ b → begun_at (n + 1) (if b then step.leaves t left else left) steps ≡ step_goes_on n left t steps b
through_is n left t steps true is = refl
through_is n left t steps false is = absurd (true≢false is)

through_by : (n : ℕ) (left : Left) (u : Option StepTask) (ss : List Step) (r : Reply) → true ≡ is_played (heard_in_step u r) (no_names [])
    → begun_at (n + 1) (left_by (heard_in_step u r) left) (drop (n + 1) ss) ≡ after (progress n left u (drop n ss)) r
through_by n left None ss r over = absurd (true≢false over)
through_by n left (Some t) ss r over =
    ap (begun_at (n + 1) (left_by (heard_in_step (Some t) r) left)) (drop_more n ss)
    ∙ through_is n left (step.after t r) (drop 1 (drop n ss)) (is_none (step.asks (step.after t r) (no_names []))) over

-- `through` tells whether the step is through after the reply; where it isn't, `v` is its task then, and `later` is what is left.
module _ (n : ℕ) (left later : Left) (t v : Option StepTask) (ss : List Step) (r : Reply) (through : Bool)
    (tells : (names : Names) → through ≡ is_played (told_by_task left t (slice_get ss n) r) names) where
  -- the step that is through is one of the script
  pub has_room : KeptStep n t ss → through ≡ true → n < length ss
  has_room kept over = room_by n (begun_by left t (slice_get ss n)) ss r (kept_by n left t ss kept) (sym over ∙ tells (no_names []))

  pub told_through : later ≡ left_by (told_by_task left t (slice_get ss n) r) left → through ≡ true → progress (n + 1) later None (drop (n + 1) ss) ≡ after (progress n left t (drop n ss)) r
  told_through leaves over =
      ap (λ (l : Left). begun_at (n + 1) l (drop (n + 1) ss)) leaves
      ∙ (through_by n left (begun_by left t (slice_get ss n)) ss r (sym over ∙ tells (no_names [])) ∙ ap (λ (x : Scripting). after x r) (begun_same n left t ss))

  module _ (on : through ≡ false → v ≡ told_by_task left t (slice_get ss n) r) (no : through ≡ false) where
    pub kept_told : KeptStep n t ss → KeptStep n v ss
    kept_told kept =
        subst (λ (x : Option StepTask). KeptStep n x ss) (sym (on no))
        (heard_kept n (begun_by left t (slice_get ss n)) ss r (kept_by n left t ss kept) (λ names. sym no ∙ tells names))

    pub told_on : later ≡ left_by (told_by_task left t (slice_get ss n) r) left → progress n later v (drop n ss) ≡ after (progress n left t (drop n ss)) r
    told_on leaves =
        ap (λ (l : Left). progress n l v (drop n ss)) (leaves ∙ left_on (told_by_task left t (slice_get ss n) r) left (sym no ∙ tells (no_names [])))
        ∙ (on_by n left (begun_by left t (slice_get ss n)) ss r (twice left t (slice_get ss n)) v (sym (on no))
        (sym no ∙ (tells (no_names []) ∙ ap (λ (x : Option StepTask). is_played x (no_names [])) (sym (on no))))
        ∙ ap (λ (x : Scripting). after x r) (begun_same n left t ss))

-- What a reply makes of the step.

-- it begins and isn't told: begun, it is the same
pub begun_again : (left later : Left) (t u v : Option StepTask) (o : Option Step) → u ≡ begun_by left t o → v ≡ u → later ≡ left → begun_by later v o ≡ begun_by left t o
begun_again left later t u v o is same stays =
    ap (λ (l : Left). begun_by l v o) stays ∙ (ap (λ (x : Option StepTask). begun_by left x o) (same ∙ is) ∙ sym (twice left t o))

-- it begins and is told
pub begun_told : (left : Left) (t u v : Option StepTask) (o : Option Step) (r : Reply) → u ≡ begun_by left t o → v ≡ heard_in_step u r → v ≡ told_by_task left t o r
begun_told left t u v o r is told = told ∙ ap (λ (x : Option StepTask). heard_in_step x r) is

pub tells_told : (left : Left) (t u v : Option StepTask) (o : Option Step) (r : Reply) (b : Bool) → u ≡ begun_by left t o → v ≡ heard_in_step u r
    → ((names : Names) → b ≡ is_played v names) → (names : Names) → b ≡ is_played (told_by_task left t o r) names
tells_told left t u v o r b is told tells names = tells names ∙ ap (λ (x : Option StepTask). is_played x names) (begun_told left t u v o r is told)

-- and leaves what it leaves
pub left_told : (left later : Left) (t u : Option StepTask) (o : Option Step) (r : Reply) → u ≡ begun_by left t o → later ≡ left_by (heard_in_step u r) left
    → later ≡ left_by (told_by_task left t o r) left
left_told left later t u o r is leaves = leaves ∙ ap (λ (x : Option StepTask). left_by (heard_in_step x r) left) is

-- no task is made of it
pub ends_step : (o : Option Step) (s : Step) (r : Reply) (b : Bool) → o ≡ Some s
    → (b ≡ true → (left : Left) (names : Names) → step.asks (step.after (step.begun left s) r) names ≡ None)
    → b ≡ true → (left : Left) (names : Names) → is_played (told_by_task left None o r) names ≡ true
ends_step o s r b is ends over left names = ap (λ (x : Option Step). is_played (told_by_task left None x r) names) is ∙ ap is_none (ends over left names)

-- and it leaves nothing
pub ends_keep : (o : Option Step) (s : Step) (r : Reply) (b : Bool) → o ≡ Some s → (b ≡ true → (left : Left) → step.leaves (step.after (step.begun left s) r) left ≡ left)
    → b ≡ true → (left : Left) → left_by (told_by_task left None o r) left ≡ left
ends_keep o s r b is keeps over left =
    ap (λ (x : Option Step). left_by (told_by_task left None x r) left) is ∙ by (is_none (step.asks (step.after (step.begun left s) r) (no_names [])))
  where
    by : (c : Bool) → (if c then step.leaves (step.after (step.begun left s) r) left else left) ≡ left
    by true = keeps over left
    by false = refl
