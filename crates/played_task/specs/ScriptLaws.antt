-- The task of a script asks and moves as the plays of its steps do, one after another.
use Rattle.std.proofs.Common.{◌≡◌, ℕ, ◌+◌, ◌∙◌, Bool, true, false, List, [], ◌∷◌, ◌++◌, Option, Some, None, is_none, is_some, length, nat_lt, refl, sym, ap, subst}
use Rattle.std.proofs.lemmas.Bool.{true≢false}
use Rattle.std.proofs.lemmas.List.{append-nil}
use Rattle.std.proofs.lemmas.Option.{none-some, same_Some}
use Rattle.net_base.specs.declared.left.Left.{Left}
use Rattle.net_base.specs.declared.reply.Reply.{Reply}
use Rattle.net_base.specs.declared.world.Script.{Script}
use Rattle.net_base.specs.declared.world.Step.{Step}
use Rattle.net_base.specs.Next.{finished_by, place_next}
use Rattle.net_base.specs.Scripts.{at_first, left_after, position, step_play}
use Rattle.net_base.specs.Steps.{Ask, Names, Play, Asks, Ends, no_names}
use Rattle.net_base.specs.Tasks.{Asking}
use Rattle.net_base.specs.Versions.{Tuples}
use Rattle.net_base.specs.declared.request.Request.{Request}
use Rattle.script_task.specs.Fitting.{fits}
use Rattle.net_base.specs.Requests.{head, planned, settled}
use Rattle.script_task.specs.Rest.{Continues, rest}
use Rattle.script_task.specs.Task.{Heads, AsksSo, MovesSo, follow, fits_play}
use Rattle.played_task.specs.declared.step.StepTask.{StepTask}
use Rattle.dial_lib.specs.Slots.{HaveSlots}
use Rattle.played_task.specs.Leaving as leaving
use Rattle.played_task.specs.StepLaws as step_laws
use Rattle.played_task.specs.StepTasks as step
use Rattle.played_task.specs.ScriptTasks.{Scripting, finished_in, AtStep, AtEnd, begun_at, step_goes_on, asks, after, task_after_all, play_behind, plays_behind, plays_of, StandsFor, Plays, GoesScripting}
use Rattle.played_task.specs.Wholes.{AsksThere, Comes, GoesThere, PlaysThere}
use Rattle.net_base.proofs.Shared.{append_one, none_is}

-- Plays, one after another.

abbrev Later : Type 0
Later = Names → List Reply → Play

head_then : (said : List Reply) (p : Play) (later : Later) (ask : Ask) → head p ≡ Some ask → head (play_behind said p later) ≡ Some ask
head_then said (Asks a e next) later ask is = is
head_then said (Ends names) later ask is = absurd (none-some ask is)

fits_then : (said : List Reply) (p : Play) (later : Later) (ask : Ask) (r : Reply) → head p ≡ Some ask → fits_play (play_behind said p later) r ≡ true → fits_play p r ≡ true
fits_then said (Asks a e next) later ask r is fit = fit
fits_then said (Ends names) later ask r is fit = absurd (none-some ask is)

follow_then : (said : List Reply) (p : Play) (later : Later) (ask : Ask) (r : Reply) → head p ≡ Some ask → follow (play_behind said p later) r ≡ play_behind (said ++ r ∷ []) (follow p r) later
follow_then said (Asks a e next) later ask r is = refl
follow_then said (Ends names) later ask r is = absurd (none-some ask is)

-- The next request.

asks_then : (h : ℕ) (names : Names) (o : Option Request) (said : List Reply) (p : Play) (later : Later) → is_none o ≡ false → Heads h names o p → Heads h names o (play_behind said p later)
asks_then h names None said p later is heads = absurd (true≢false is)
asks_then h names (Some q) said p later is heads = (heads.0, head_then said p later heads.0 heads.1, heads.2)

pub asks_so : AsksSo Scripting asks StandsFor
asks_so h names (AtStep n left t behind) p at =
    subst (λ (x : Play). Heads h names (step.asks t names) x) (sym at.play_is)
    (asks_then h names (step.asks t names) at.said at.step_play (plays_behind h behind left at.step_is) at.asks_on (step_laws.asks_so h names t at.step_play at.stands_for))
asks_so h names (AtEnd n left) p at = at

-- After a reply.

-- what is to come stands for the plays of the steps that are to come
pub begins : (h n : ℕ) (names : Names) (left : Left) (steps : List Step) → HaveSlots names → StandsFor h names (begun_at n left steps) (plays_of h steps (record { names = names; left = left }))
begins h n names left [] slots = refl
begins h n names left (s ∷ ss) slots =
    record {
      step_is = s;
      said = [];
      told = refl;
      step_play = step_play h (record { names = names; left = left }) s;
      stands_for = step_laws.begun_stands (step.begun left s) left s refl h names slots;
      asks_on = step_laws.begun_asks left s names;
      play_is = refl;
    }

-- a step that is through has played its play to the end
pub ended_play : (h : ℕ) (names : Names) (t : StepTask) (p : Play) → step.StandsFor h names t p → is_none (step.asks t names) ≡ true → p ≡ Ends names
ended_play h names t p stands is = subst (λ (o : Option Request). Heads h names o p) (none_is (step.asks t names) is) (step_laws.asks_so h names t p stands)

-- the step goes on, or the next one begins
moves_by : (h n : ℕ) (names : Names) (left : Left) (t : StepTask) (behind : List Step) (p : Play) (s : Step) (said : List Reply) → step.StandsFor h names t p
    → t ≡ step.after_all (step.begun left s) said → step.leaves t left ≡ left_after left s said
    → (through : Bool) → is_none (step.asks t names) ≡ through
    → StandsFor h names (step_goes_on n left t behind through) (play_behind said p (plays_behind h behind left s))
moves_by h n names left t behind p s said stands told leaves false is =
    record { step_is = s; said = said; told = told; step_play = p; stands_for = stands; asks_on = is; play_is = refl }
moves_by h n names left t behind p s said stands told leaves true is =
    subst (λ (x : Play). StandsFor h names (begun_at (n + 1) (step.leaves t left) behind) (play_behind said x (plays_behind h behind left s))) (sym (ended_play h names t p stands is))
    (subst (λ (l : Left). StandsFor h names (begun_at (n + 1) (step.leaves t left) behind) (plays_of h behind (record { names = names; left = l }))) leaves
    (begins h (n + 1) names (step.leaves t left) behind stands.0))

-- the request of a step and the event of its play
pub step_heads : (h : ℕ) (names : Names) (t : StepTask) (p : Play) (q : Request) → step.StandsFor h names t p → step.asks t names ≡ Some q → Heads h names (Some q) p
step_heads h names t p q stands asked = subst (λ (o : Option Request). Heads h names o p) asked (step_laws.asks_so h names t p stands)

pub moves_so : MovesSo Scripting asks after StandsFor
moves_so h names (AtStep n left t behind) p q r at asked fit =
    let later = plays_behind h behind left at.step_is in
    let heads : Heads h names (Some q) at.step_play = step_heads h names t at.step_play q at.stands_for asked in
    let fits_step : fits_play at.step_play r ≡ true = fits_then at.said at.step_play later heads.0 r heads.1 (subst (λ (x : Play). fits_play x r ≡ true) at.play_is fit) in
    let is : follow p r ≡ play_behind (at.said ++ r ∷ []) (follow at.step_play r) later = ap (λ (x : Play). follow x r) at.play_is ∙ follow_then at.said at.step_play later heads.0 r heads.1 in
    let told : step.after t r ≡ step.after_all (step.begun left at.step_is) (at.said ++ r ∷ []) = ap (λ (u : StepTask). step.after u r) at.told ∙ leaving.after_one (step.begun left at.step_is) at.said r in
    subst (λ (x : Play). StandsFor h (settled names q r) (after (AtStep n left t behind) r) x) (sym is)
    (moves_by h n (settled names q r) left (step.after t r) behind (follow at.step_play r) at.step_is (at.said ++ r ∷ [])
    (step_laws.moves_so h names t at.step_play q r at.stands_for asked fits_step) told
    (leaving.leaves_so left at.step_is at.said r t at.told (sym (step_laws.asks_alike t names (no_names [])) ∙ at.asks_on))
    (is_none (step.asks (step.after t r) (no_names []))) (step_laws.asks_alike (step.after t r) (settled names q r) (no_names [])))
moves_so h names (AtEnd n left) p q r at asked fit = absurd (none-some q asked)

-- The script goes on.

continues_on : (zone : Tuples) (s : Script) (rs : List Reply) (p : Play) (r : Reply) → Continues zone s rs p → Continues zone s (rs ++ r ∷ []) (follow p r)
continues_on zone s rs p r goes =
    record {
      next_is = λ more. subst (λ (xs : List Reply). (position s.host s.steps (at_first zone) xs).next ≡ head (rest p (r ∷ more))) (sym (append_one rs r more)) (goes.next_is (r ∷ more));
      left_is = λ more. subst (λ (xs : List Reply). nat_lt 0 (length (position s.host s.steps (at_first zone) xs).left) ≡ is_some (head (rest p (r ∷ more)))) (sym (append_one rs r more)) (goes.left_is (r ∷ more));
    }

same_ask : (p : Play) (ask : Ask) (r : Reply) → head p ≡ Some ask → fits ask.event r ≡ true → fits_play p r ≡ true
same_ask (Asks a e next) ask r is fit = subst (λ (x : Ask). fits x.event r ≡ true) (sym (same_Some (record { actor = a; event = e }) ask is)) fit
same_ask (Ends names) ask r is fit = absurd (none-some ask is)

-- after a reply that the event of its request can have, it plays the script on
pub plays_on : (zone : Tuples) (s : Script) (rs : List Reply) (names : Names) (t : Scripting) (q : Request) (ask : Ask) (r : Reply) → Plays zone s rs names t
    → asks t names ≡ Some q → planned s.host names q ≡ Some ask → fits ask.event r ≡ true → Plays zone s (rs ++ r ∷ []) (settled names q r) (after t r)
plays_on zone s rs names t q ask r at asked is fit =
    let heads : Heads s.host names (Some q) at.play = subst (λ (o : Option Request). Heads s.host names o at.play) asked (asks_so s.host names t at.play at.stands_for) in
    let fits_it : fits_play at.play r ≡ true = same_ask at.play ask r (heads.1 ∙ sym heads.2 ∙ is) fit in
    record {
      play = follow at.play r;
      stands_for = moves_so s.host names t at.play q r at.stands_for asked fits_it;
      continues = continues_on zone s rs at.play r at.continues;
      counts = λ more fit_more. subst (λ (xs : List Reply). finished_in (task_after_all (after t r) more) ≡ finished_by zone xs s) (sym (append_one rs r more)) (at.counts (r ∷ more) (fits_it, fit_more));
    }

-- where the script is played, it goes on there
pub plays_there : PlaysThere Scripting GoesScripting Plays
plays_there zone s rs names t at = (refl, at)

-- what it asks is what comes next in its place
pub asks_there : AsksThere Scripting asks GoesScripting
asks_there own zone s rs names t goes =
    subst (λ (o : Option Asking). Comes s.host names (asks t names) (place_next o zone s rs)) (sym goes.0)
    (by_heads (asks t names) (asks_so s.host names t goes.1.play goes.1.stands_for))
  where
    next_is : (position s.host s.steps (at_first zone) rs).next ≡ head goes.1.play
    next_is = ap (λ (xs : List Reply). (position s.host s.steps (at_first zone) xs).next) (sym (append-nil rs)) ∙ goes.1.continues.next_is []

    by_heads : (o : Option Request) → Heads s.host names o goes.1.play → Comes s.host names o (position s.host s.steps (at_first zone) rs).next
    by_heads None ends = next_is ∙ ap head ends
    by_heads (Some q) heads = next_is ∙ (heads.1 ∙ sym heads.2)

-- and it goes on there
pub goes_there : GoesThere Scripting asks after GoesScripting
goes_there own zone s rs names t q ask r goes asked is fit = (goes.0, plays_on zone s rs names t q ask r goes.1 asked is fit)
