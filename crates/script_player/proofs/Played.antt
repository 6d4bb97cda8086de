-- A player goes from reply to reply and from step to step.
use Rattle.std.proofs.Common.{◌≡◌, ℕ, zero, suc, ◌+◌, ◌<◌, ◌≤◌, ◌∙◌, ◌&&◌, nat_lt, Bool, true, false, List, [], ◌∷◌, ◌++◌, drop, take, length, Option, Some, None, slice_get, is_none, refl, sym, ap, subst, arith, length-append, if◌then◌else◌}
use Rattle.std.proofs.lemmas.Bool.{true≢false, false≢true, lt-ltb}
use Rattle.std.proofs.lemmas.Bool.Decides.{nat_tests}
use Rattle.std.proofs.lemmas.Option.{none-some, same_Some}
use Rattle.std.proofs.lemmas.List.{append-nil, append_assoc, drop-append-le, take-append-drop, take-append-le, take_all}
use Rattle.net_base.specs.declared.left.Left.{Left}
use Rattle.net_base.specs.declared.reply.Reply.{Reply}
use Rattle.net_base.specs.declared.world.Script.{Script}
use Rattle.net_base.specs.declared.world.Step.{Step}
use Rattle.net_base.specs.declared.world.Step.TheVariants as steps
use Rattle.net_base.specs.Next.{finished_by}
use Rattle.net_base.specs.Remotes.{nothing_left}
use Rattle.net_base.specs.Scripts.{Kept, at_first, heard_replies as first_replies, left_after, position, step_play}
use Rattle.net_base.specs.Steps.{Ask, Names, Play, Asks, Ends, Position, no_names, position_by, stands}
use Rattle.net_base.specs.Versions.{Tuples}
use Rattle.script_task.specs.Holdings.{Holdings, holdings}
use Rattle.script_task.specs.declared.effect.Effect.{Effect}
use Rattle.script_task.specs.declared.effect.Effect.TheVariants.{Opens, Closes, Hears, Keeps}
use Rattle.net_base.specs.declared.request.Request.{Request}
use Rattle.script_task.specs.Effects.{effect_of, opened_file, settles_effect}
use Rattle.script_task.specs.Fitting.{fits}
use Rattle.net_base.specs.Requests.{head, settled}
use Rattle.script_task.specs.Task.{Heads, follow, fits_play}
use Rattle.script_task.proofs.Shared.{settles_so}
use Rattle.played_task.specs.declared.step.StepTask.{StepTask}
use Rattle.played_task.specs.Leaving.{after_one, leaves_so}
use Rattle.played_task.specs.StepTasks.{StandsFor, asks, after, after_all, begun, leaves, left_by as left_by_task}
use Rattle.played_task.specs.StepLaws.{asks_alike, asks_so, begun_asks, begun_stands, moves_so}
use Rattle.script_player.specs.Players.{AreStepsFinished, LeavesSteps, Playing, playing_kept, position_after, next_after, PlaysLeft, KnowsPlaying, IsInStep, Between, IsAtBy, IsAt, playing_begun_by, begun_in, request_by, request_of, asked_as, asked_at, with_room, prepared_by, prepared, expected_by, expected_in, heard_by, playing_heard, left_by_playing, left, position_with, unbegun, with_steps}
use Rattle.net_base.proofs.Shared.{append_one, none_is}

-- Lists.

drop_at : (k : ℕ) (ss : List Step) (s : Step) → slice_get ss k ≡ Some s → drop k ss ≡ s ∷ drop (suc k) ss
drop_at k [] s is = absurd (none-some s is)
drop_at zero (x ∷ ss) s is = ap (λ (y : Step). y ∷ ss) (same_Some x s is)
drop_at (suc k) (x ∷ ss) s is = drop_at k ss s is

drop_none : (k : ℕ) (ss : List Step) → slice_get ss k ≡ None → drop k ss ≡ []
drop_none zero [] is = refl
drop_none (suc k) [] is = refl
drop_none zero (x ∷ ss) is = absurd (none-some x (sym is))
drop_none (suc k) (x ∷ ss) is = drop_none k ss is

behind_suc : (k : ℕ) (ss : List Step) (s : Step) (rest : List Step) → drop k ss ≡ s ∷ rest → (k < length ss) × (drop (suc k) ss ≡ rest)
behind_suc zero [] s rest is = absurd (omega (arith, ap length is))
behind_suc (suc k) [] s rest is = absurd (omega (arith, ap length is))
behind_suc zero (x ∷ ss) s rest is = (omega arith, ap (drop 1) is)
behind_suc (suc k) (x ∷ ss) s rest is = let more = behind_suc k ss s rest is in (omega (arith, more.0), more.1)

-- the steps behind, where one stands there
behind_more : (k : ℕ) (ss : List Step) (s : Step) (rest : List Step) → drop k ss ≡ s ∷ rest → (k < length ss) × (drop (k + 1) ss ≡ rest)
behind_more k ss s rest is =
    let more = behind_suc k ss s rest is in
    let next : k + 1 ≡ suc k = omega arith in
    (more.0, ap (λ (n : ℕ). drop n ss) next ∙ more.1)

length_drop : (k : ℕ) (ss : List Step) → k ≤ length ss → length (drop k ss) + k ≡ length ss
length_drop zero ss le = omega arith
length_drop (suc k) [] le = absurd (omega (arith, le))
length_drop (suc k) (x ∷ ss) le = omega (arith, length_drop k ss (omega (arith, le)))

-- one step more of the first ones
take_one : (k : ℕ) (ss : List Step) (s : Step) (rest : List Step) → drop k ss ≡ s ∷ rest → take (suc k) ss ≡ take k ss ++ s ∷ []
take_one zero [] s rest is = absurd (omega (arith, ap length is))
take_one (suc k) [] s rest is = absurd (omega (arith, ap length is))
take_one zero (x ∷ ss) s rest is = ap (λ (ys : List Step). take 1 ys) is
take_one (suc k) (x ∷ ss) s rest is = ap (λ (ys : List Step). x ∷ ys) (take_one k ss s rest is)

-- so that others follow them
take_more : (k : ℕ) (ss : List Step) (s : Step) (rest later : List Step) → drop k ss ≡ s ∷ rest → take (k + 1) ss ++ later ≡ take k ss ++ s ∷ later
take_more k ss s rest later is =
    let next : k + 1 ≡ suc k = omega arith in
    ap (λ (n : ℕ). take n ss ++ later) next ∙ ap (λ (ys : List Step). ys ++ later) (take_one k ss s rest is) ∙ append_assoc (take k ss) (s ∷ []) later

-- the script is its first steps, and those that follow them
alone : (zone : Tuples) (s : Script) (n : ℕ) (rs : List Reply) → position_after zone s rs ≡ position_with zone s n (drop n s.steps) (rs ++ [])
alone zone s n rs =
    ap (λ (ss : List Step). position s.host ss (at_first zone) rs) (sym (take-append-drop n s.steps)) ∙ ap (λ (xs : List Reply). position_with zone s n (drop n s.steps) xs) (sym (append-nil rs))

-- A step begins.

begins : (zone : Tuples) (s : Script) (rs : List Reply) (p : Playing) (at : Step) → slice_get s.steps p.finished ≡ Some at → Between zone s rs p
    → IsInStep zone s rs (record p { task = Some (begun p.left at); effect = None }) (begun p.left at)
begins zone s rs p at is between =
    let behind : drop p.finished s.steps ≡ at ∷ drop (suc p.finished) s.steps = drop_at p.finished s.steps at is in
    record {
      play = step_play s.host (playing_kept p) at;
      step = at;
      rest = drop (suc p.finished) s.steps;
      before = rs;
      said = [];
      replies_are = sym (append-nil rs);
      names = p.holdings.names;
      began = between.leaves;
      unheard = λ none. refl;
      told = refl;
      behind = behind;
      plays = λ later more. between.leaves (at ∷ later) more;
      stands_for = begun_stands (begun p.left at) p.left at refl s.host p.holdings.names between.slots;
      goes_on = begun_asks p.left at p.holdings.names;
      knows = tt;
    }

-- as `IsAt`
abbrev AtIts : Tuples → Script → List Reply → Playing → Type 0
AtIts zone s rs p = IsAtBy zone s rs p p.task

begun_is : (zone : Tuples) (s : Script) (rs : List Reply) (p : Playing) (t : Option StepTask) (o : Option Step) → p.task ≡ t → slice_get s.steps p.finished ≡ o → IsAtBy zone s rs p t → AtIts zone s rs (playing_begun_by p t o)
begun_is zone s rs p (Some t) o task is at = subst (λ (u : Option StepTask). IsAtBy zone s rs p u) (sym task) at
begun_is zone s rs p None None task is at = subst (λ (u : Option StepTask). IsAtBy zone s rs p u) (sym task) at
begun_is zone s rs p None (Some step) task is at = begins zone s rs p step is at

pub begun_at : (zone : Tuples) (s : Script) (rs : List Reply) (p : Playing) → IsAt zone s rs p → IsAt zone s rs (begun_in s p)
unfolding IsAt
begun_at zone s rs p at = begun_is zone s rs p p.task (slice_get s.steps p.finished) refl refl at

-- The next event.

heads : (zone : Tuples) (s : Script) (rs : List Reply) (p : Playing) (t : StepTask) (q : Request) (step : IsInStep zone s rs p t) → asks t p.holdings.names ≡ Some q → Heads s.host p.holdings.names (Some q) step.play
heads zone s rs p t q step is = subst (λ (o : Option Request). Heads s.host p.holdings.names o step.play) is (asks_so s.host p.holdings.names t step.play step.stands_for)

-- a play that asks stands at its event, and its step is left
at_event : (zone : Tuples) (s : Script) (n : ℕ) (rs said : List Reply) (l : Left) (play : Play) (at : Step) (rest : List Step) (ask : Ask) → drop n s.steps ≡ at ∷ rest → head play ≡ Some ask
    → PlaysLeft zone s n rs said l play at → position_after zone s rs ≡ record { next = Some ask; left = at ∷ rest }
at_event zone s n rs said l (Asks a e next) at rest ask behind is plays =
    alone zone s n rs
    ∙ ap (λ (ss : List Step). position_with zone s n ss (rs ++ [])) behind
    ∙ plays rest []
    ∙ ap (λ (o : Option Ask). record { next = o; left = at ∷ rest }) is
at_event zone s n rs said l (Ends names) at rest ask behind is plays = absurd (none-some ask is)

-- there is a request where it isn't through
some_request : (o : Option Request) → is_none o ≡ false → (q : Request) × (o ≡ Some q)
some_request None is = absurd (true≢false is)
some_request (Some q) is = (q, refl)

step_next : (zone : Tuples) (s : Script) (rs : List Reply) (p : Playing) (t : StepTask) → IsInStep zone s rs p t → asked_as s.host p.holdings.names (asks t p.holdings.names) ≡ next_after zone s rs
step_next zone s rs p t step =
    let found = some_request (asks t p.holdings.names) step.goes_on in
    let heading = heads zone s rs p t found.0 step found.1 in
    ap (λ (o : Option Request). asked_as s.host p.holdings.names o) found.1 ∙ heading.2 ∙ sym (ap (λ (at : Position). at.next) (at_event zone s p.finished rs step.said p.left step.play step.step step.rest heading.0 step.behind heading.1 step.plays))

-- no step is left
none_left : (zone : Tuples) (s : Script) (rs : List Reply) (p : Playing) → Between zone s rs p → slice_get s.steps p.finished ≡ None → position_after zone s rs ≡ record { next = None; left = [] }
none_left zone s rs p between is =
    alone zone s p.finished rs ∙ ap (λ (ss : List Step). position_with zone s p.finished ss (rs ++ [])) (drop_none p.finished s.steps is) ∙ between.leaves [] []

next_is : (zone : Tuples) (s : Script) (rs : List Reply) (p : Playing) (t : Option StepTask) (o : Option Step) → p.task ≡ t → slice_get s.steps p.finished ≡ o → IsAtBy zone s rs p t → asked_at s.host (playing_begun_by p t o) ≡ next_after zone s rs
next_is zone s rs p (Some t) o task is at = ap (λ (u : Option StepTask). asked_as s.host p.holdings.names (request_by p.holdings.names u)) task ∙ step_next zone s rs p t at
next_is zone s rs p None None task is at =
    ap (λ (u : Option StepTask). asked_as s.host p.holdings.names (request_by p.holdings.names u)) task ∙ sym (ap (λ (at : Position). at.next) (none_left zone s rs p at is))
next_is zone s rs p None (Some step) task is at = step_next zone s rs (record p { task = Some (begun p.left step); effect = None }) (begun p.left step) (begins zone s rs p step is at)

pub next_right : (zone : Tuples) (s : Script) (rs : List Reply) (p : Playing) → IsAt zone s rs p → asked_at s.host (begun_in s p) ≡ next_after zone s rs
unfolding IsAt
next_right zone s rs p at = next_is zone s rs p p.task (slice_get s.steps p.finished) refl refl at

-- It is ready for a reply.

same_names : (e : Effect) (b : Holdings) → (with_room e b).names ≡ b.names
same_names (Opens called n m) b = refl
same_names (Closes called) b = refl
same_names (Hears playing_heard) b = refl
same_names Keeps b = refl

step_prepared : (zone : Tuples) (s : Script) (rs : List Reply) (p : Playing) (t : StepTask) (q : Request) → IsInStep zone s rs p t → asks t p.holdings.names ≡ Some q → (names : Names) (b : Holdings) → p.holdings.names ≡ names → b.names ≡ names
    → IsInStep zone s rs (record p { holdings = b; effect = Some (effect_of p.holdings.names q) }) t
step_prepared zone s rs p t q step is names b old new =
    let back : p.holdings.names ≡ b.names = old ∙ sym new in
    record {
      play = step.play;
      step = step.step;
      rest = step.rest;
      before = step.before;
      said = step.said;
      replies_are = step.replies_are;
      names = step.names;
      began = step.began;
      unheard = λ none. sym back ∙ step.unheard none;
      told = step.told;
      behind = step.behind;
      plays = step.plays;
      stands_for = subst (λ (ns : Names). StandsFor s.host ns t step.play) back step.stands_for;
      goes_on = subst (λ (ns : Names). is_none (asks t ns) ≡ false) back step.goes_on;
      knows = (q, subst (λ (ns : Names). asks t ns ≡ Some q) back is, ap (λ (ns : Names). effect_of ns q) back);
    }

prepared_is : (zone : Tuples) (s : Script) (rs : List Reply) (p : Playing) (t : Option StepTask) (o : Option Request) → p.task ≡ t → request_by p.holdings.names t ≡ o → IsAtBy zone s rs p t → AtIts zone s rs (prepared_by p o)
prepared_is zone s rs p t None task is at = subst (λ (u : Option StepTask). IsAtBy zone s rs p u) (sym task) at
prepared_is zone s rs p None (Some q) task is at = absurd (none-some q is)
prepared_is zone s rs p (Some t) (Some q) task is at =
    subst (λ (u : Option StepTask). IsAtBy zone s rs (prepared_by p (Some q)) u) (sym task) (step_prepared zone s rs p t q at is p.holdings.names (with_room (effect_of p.holdings.names q) p.holdings) refl (same_names (effect_of p.holdings.names q) p.holdings))

pub prepared_at : (zone : Tuples) (s : Script) (rs : List Reply) (p : Playing) → IsAt zone s rs p → IsAt zone s rs (prepared p)
unfolding IsAt
prepared_at zone s rs p at = prepared_is zone s rs p p.task (request_by p.holdings.names p.task) refl refl at

-- where the effect isn't known it is got ready
pub expected_none : (s : Script) (p : Playing) → p.effect ≡ None → expected_in s p ≡ prepared (begun_in s p)
expected_none s p is = ap (λ (o : Option Effect). expected_by s p o) is

pub expected_some : (s : Script) (p : Playing) (e : Effect) → p.effect ≡ Some e → expected_in s p ≡ p
expected_some s p e is = ap (λ (o : Option Effect). expected_by s p o) is

pub expected_at : (zone : Tuples) (s : Script) (rs : List Reply) (p : Playing) → IsAt zone s rs p → IsAt zone s rs (expected_in s p)
expected_at zone s rs p at = by p.effect
  where
    by : (o : Option Effect) → IsAt zone s rs (expected_by s p o)
    by None = prepared_at zone s rs (begun_in s p) (begun_at zone s rs p at)
    by (Some e) = at

-- where there is an event its effect is known
prepared_knows : (h : ℕ) (p : Playing) (o : Option Request) (ask : Ask) → asked_as h p.holdings.names o ≡ Some ask → (e : Effect) × ((prepared_by p o).effect ≡ Some e)
prepared_knows h p None ask is = absurd (none-some ask is)
prepared_knows h p (Some q) ask is = (effect_of p.holdings.names q, refl)

expected_knows : (zone : Tuples) (s : Script) (rs : List Reply) (p : Playing) (ask : Ask) → IsAt zone s rs p → next_after zone s rs ≡ Some ask → (e : Effect) × ((expected_in s p).effect ≡ Some e)
expected_knows zone s rs p ask at is = by p.effect refl
  where
    by : (o : Option Effect) → p.effect ≡ o → (e : Effect) × ((expected_by s p o).effect ≡ Some e)
    by None none = prepared_knows s.host (begun_in s p) (request_of (begun_in s p)) ask (next_right zone s rs p at ∙ is)
    by (Some e) some = (e, some)

-- A reply.

plays_on : (zone : Tuples) (s : Script) (n : ℕ) (rs said : List Reply) (l : Left) (play : Play) (at : Step) (ask : Ask) (r : Reply) → head play ≡ Some ask → PlaysLeft zone s n rs said l play at
    → PlaysLeft zone s n (rs ++ r ∷ []) (said ++ r ∷ []) l (follow play r) at
plays_on zone s n rs said l (Asks a e next) at ask r is plays = λ later more.
    ap (λ (xs : List Reply). position_with zone s n (at ∷ later) xs) (append_one rs r more)
    ∙ (plays later (r ∷ more)
    ∙ ap (λ (xs : List Reply). position_by (stands (next r) more) (at ∷ later) (λ (names : Names) (replies : List Reply). position s.host later (record { names = names; left = left_after l at xs }) replies))
    (sym (append_one said r (first_replies (next r) more))))
plays_on zone s n rs said l (Ends names) at ask r is plays = absurd (none-some ask is)

play_fits : (play : Play) (ask : Ask) (r : Reply) → head play ≡ Some ask → fits ask.event r ≡ true → fits_play play r ≡ true
play_fits (Asks a e next) ask r is fit = subst (λ (x : Ask). fits x.event r ≡ true) (sym (same_Some (record { actor = a; event = e }) ask is)) fit
play_fits (Ends names) ask r is fit = refl

-- what holds of the task and the play after a reply
record Moved (zone : Tuples) (s : Script) (rs : List Reply) (p : Playing) (t : StepTask) (step : IsInStep zone s rs p t) (r : Reply) (names : Names) : Type 0 where
  stands_for : StandsFor s.host names (after t r) (follow step.play r)
  told : after t r ≡ after_all (begun p.left step.step) (step.said ++ r ∷ [])
  leaving_so : leaves (after t r) p.left ≡ left_after p.left step.step (step.said ++ r ∷ [])
  plays : PlaysLeft zone s p.finished (rs ++ r ∷ []) (step.said ++ r ∷ []) p.left (follow step.play r) step.step

moved : (zone : Tuples) (s : Script) (rs : List Reply) (p : Playing) (t : StepTask) (step : IsInStep zone s rs p t) (e : Effect) (ask : Ask) (r : Reply) → KnowsPlaying p.holdings.names t (Some e) → next_after zone s rs ≡ Some ask → fits ask.event r ≡ true
    → Moved zone s rs p t step r (settles_effect e (opened_file e r) p.holdings).names
moved zone s rs p t step e ask r knows is fit =
    let q : Request = knows.0 in
    let heading = heads zone s rs p t q step knows.1 in
    let same : heading.0 ≡ ask = same_Some heading.0 ask (sym (ap (λ (at : Position). at.next) (at_event zone s p.finished rs step.said p.left step.play step.step step.rest heading.0 step.behind heading.1 step.plays)) ∙ is) in
    let fits_it : fits_play step.play r ≡ true = play_fits step.play heading.0 r heading.1 (subst (λ (x : Ask). fits x.event r ≡ true) (sym same) fit) in
    let names_are : settled p.holdings.names q r ≡ (settles_effect e (opened_file e r) p.holdings).names =
    sym (ap (λ (x : Effect). (settles_effect x (opened_file x r) p.holdings).names) knows.2 ∙ settles_so p.holdings q r) in
    record {
      stands_for = subst (λ (ns : Names). StandsFor s.host ns (after t r) (follow step.play r)) names_are (moves_so s.host p.holdings.names t step.play q r step.stands_for knows.1 fits_it);
      told = ap (λ (u : StepTask). after u r) step.told ∙ after_one (begun p.left step.step) step.said r;
      leaving_so = leaves_so p.left step.step step.said r t step.told (sym (asks_alike t p.holdings.names (no_names [])) ∙ step.goes_on);
      plays = plays_on zone s p.finished rs step.said p.left step.play step.step heading.0 r heading.1 step.plays;
    }

some_reply : (rs : List Reply) (r : Reply) → rs ++ r ∷ [] ≡ [] → ⊥
some_reply rs r none = omega (arith, ap length none, length-append rs (r ∷ []))

-- the step goes on, or the next one comes
goes_on : (zone : Tuples) (s : Script) (rs : List Reply) (p : Playing) (t : StepTask) (step : IsInStep zone s rs p t) (r : Reply) (b : Holdings) → Moved zone s rs p t step r b.names
    → (through : Bool) → is_none (asks (after t r) b.names) ≡ through → (l : Left) → l ≡ (if through then leaves (after t r) p.left else p.left)
    → AtIts zone s (rs ++ r ∷ [])
    (if through && nat_lt p.finished (length s.steps)
    then record p { holdings = b; effect = None; left = l; finished = p.finished + 1; task = None }
    else record p { holdings = b; task = Some (after t r); effect = None; left = l })
goes_on zone s rs p t step r b moves false is l same =
    subst (λ (x : Left). IsInStep zone s (rs ++ r ∷ []) (record p { holdings = b; task = Some (after t r); effect = None; left = x }) (after t r)) (sym same)
    (record {
      play = follow step.play r;
      step = step.step;
      rest = step.rest;
      before = step.before;
      said = step.said ++ r ∷ [];
      replies_are = ap (λ (xs : List Reply). xs ++ r ∷ []) step.replies_are ∙ append_assoc step.before step.said (r ∷ []);
      names = step.names;
      began = step.began;
      unheard = λ none. absurd (some_reply step.said r none);
      told = moves.told;
      behind = step.behind;
      plays = moves.plays;
      stands_for = moves.stands_for;
      goes_on = is;
      knows = tt;
    })
goes_on zone s rs p t step r b moves true is l same =
    let more = behind_more p.finished s.steps step.step step.rest step.behind in
    let said : List Reply = step.said ++ r ∷ [] in
    let ends : follow step.play r ≡ Ends b.names =
    subst (λ (o : Option Request). Heads s.host b.names o (follow step.play r)) (none_is (asks (after t r) b.names) is) (asks_so s.host b.names (after t r) (follow step.play r) moves.stands_for) in
    let left_is_so : left_after p.left step.step said ≡ l = sym moves.leaving_so ∙ sym same in
    let next : Between zone s (rs ++ r ∷ []) (record p { holdings = b; effect = None; left = l; finished = p.finished + 1; task = None }) =
    record {
      slots = moves.stands_for.0;
      leaves = λ later rest. ap (λ (ss : List Step). position s.host ss (at_first zone) ((rs ++ r ∷ []) ++ rest)) (take_more p.finished s.steps step.step step.rest later step.behind)
          ∙ (moves.plays later rest
          ∙ (ap (λ (x : Play). position_by (stands x rest) (step.step ∷ later)
          (λ (names : Names) (replies : List Reply). position s.host later (record { names = names; left = left_after p.left step.step (said ++ first_replies x rest) }) replies)) ends
          ∙ (ap (λ (xs : List Reply). position s.host later (record { names = b.names; left = left_after p.left step.step xs }) rest) (append-nil said)
          ∙ ap (λ (x : Left). position s.host later (record { names = b.names; left = x }) rest) left_is_so)));
      within = omega (arith, more.0);
      unknown = refl;
    } in
    chosen (nat_lt p.finished (length s.steps)) (lt-ltb p.finished (length s.steps) more.0) next
  where
    chosen : (c : Bool) → c ≡ true → Between zone s (rs ++ r ∷ []) (record p { holdings = b; effect = None; left = l; finished = p.finished + 1; task = None })
        → AtIts zone s (rs ++ r ∷ [])
        (if c
        then record p { holdings = b; effect = None; left = l; finished = p.finished + 1; task = None }
        else record p { holdings = b; task = Some (after t r); effect = None; left = l })
    chosen true is next = next
    chosen false is next = absurd (false≢true is)

told_is : (zone : Tuples) (s : Script) (rs : List Reply) (p : Playing) (t : Option StepTask) (e : Effect) (ask : Ask) (r : Reply) → p.effect ≡ Some e → IsAtBy zone s rs p t → next_after zone s rs ≡ Some ask → fits ask.event r ≡ true
    → AtIts zone s (rs ++ r ∷ []) (left_by_playing (length s.steps) (heard_by p t (Some e) r) (heard_by p t (Some e) r).task)
told_is zone s rs p None e ask r known at is fit = absurd (none-some e (sym at.unknown ∙ known))
told_is zone s rs p (Some t) e ask r known step is fit =
    let b : Holdings = settles_effect e (opened_file e r) p.holdings in
    goes_on zone s rs p t step r b (moved zone s rs p t step e ask r (subst (λ (o : Option Effect). KnowsPlaying p.holdings.names t o) known step.knows) is fit) (is_none (asks (after t r) b.names)) refl
    (left_by_task (after t r) p.left) (ap (λ (c : Bool). if c then leaves (after t r) p.left else p.left) (asks_alike (after t r) (no_names []) b.names))

told_at : (zone : Tuples) (s : Script) (rs : List Reply) (p : Playing) (e : Effect) (ask : Ask) (r : Reply) → p.effect ≡ Some e → AtIts zone s rs p → next_after zone s rs ≡ Some ask → fits ask.event r ≡ true → AtIts zone s (rs ++ r ∷ []) (left (length s.steps) (playing_heard p r))
told_at zone s rs p e ask r known at is fit =
    subst (λ (o : Option Effect). AtIts zone s (rs ++ r ∷ []) (left_by_playing (length s.steps) (heard_by p p.task o r) (heard_by p p.task o r).task)) (sym known) (told_is zone s rs p p.task e ask r known at is fit)

-- where it is after a reply
pub told_right : (zone : Tuples) (s : Script) (rs : List Reply) (p : Playing) (ask : Ask) (r : Reply) → IsAt zone s rs p → next_after zone s rs ≡ Some ask → fits ask.event r ≡ true → IsAt zone s (rs ++ r ∷ []) (left (length s.steps) (playing_heard (expected_in s p) r))
unfolding IsAt
told_right zone s rs p ask r at is fit =
    let knows = expected_knows zone s rs p ask at is in
    told_at zone s rs (expected_in s p) knows.0 ask r knows.1 (expected_at zone s rs p at) is fit

-- Steps that are finished.

step_left : (zone : Tuples) (s : Script) (rs : List Reply) (p : Playing) (t : StepTask) → IsInStep zone s rs p t → length (position_after zone s rs).left + p.finished ≡ length s.steps
step_left zone s rs p t step =
    let found = some_request (asks t p.holdings.names) step.goes_on in
    let heading = heads zone s rs p t found.0 step found.1 in
    let left_are : (position_after zone s rs).left ≡ drop p.finished s.steps =
    ap (λ (at : Position). at.left) (at_event zone s p.finished rs step.said p.left step.play step.step step.rest heading.0 step.behind heading.1 step.plays) ∙ sym step.behind in
    ap (λ (ss : List Step). length ss + p.finished) left_are ∙ length_drop p.finished s.steps (omega (arith, (behind_more p.finished s.steps step.step step.rest step.behind).0))

left_is : (zone : Tuples) (s : Script) (rs : List Reply) (p : Playing) (t : Option StepTask) (o : Option Step) → slice_get s.steps p.finished ≡ o → IsAtBy zone s rs p t → length (position_after zone s rs).left + p.finished ≡ length s.steps
left_is zone s rs p (Some t) o is step = step_left zone s rs p t step
left_is zone s rs p None (Some at) is between = step_left zone s rs (record p { task = Some (begun p.left at); effect = None }) (begun p.left at) (begins zone s rs p at is between)
left_is zone s rs p None None is between =
    ap (λ (ss : List Step). length ss + p.finished) (ap (λ (at : Position). at.left) (none_left zone s rs p between is) ∙ sym (drop_none p.finished s.steps is)) ∙ length_drop p.finished s.steps between.within

sum_at : (zone : Tuples) (s : Script) (rs : List Reply) (p : Playing) → IsAt zone s rs p → length (position_after zone s rs).left + p.finished ≡ length s.steps
unfolding IsAt
sum_at zone s rs p at = left_is zone s rs p p.task (slice_get s.steps p.finished) refl at

pub finished_right : (zone : Tuples) (s : Script) (rs : List Reply) (p : Playing) → IsAt zone s rs p → p.finished ≡ finished_by zone rs s
finished_right zone s rs p at = omega (arith, sum_at zone s rs p at)

unfinished : (a b n : ℕ) → a + b ≡ n → nat_lt b n ≡ nat_lt 0 a
unfinished zero b n is = grind (arith, nat_tests)
unfinished (suc a) b n is = grind (arith, nat_tests)

pub unfinished_right : (zone : Tuples) (s : Script) (rs : List Reply) (p : Playing) → IsAt zone s rs p → nat_lt p.finished (length s.steps) ≡ nat_lt 0 (length (position_after zone s rs).left)
unfinished_right zone s rs p at = unfinished (length (position_after zone s rs).left) p.finished (length s.steps) (sum_at zone s rs p at)

-- nothing is recorded
pub starts : (zone : Tuples) (s : Script) (l : Left) → l ≡ nothing_left → IsAt zone s [] (record { holdings = holdings (no_names zone) None; finished = 0; task = None; effect = None; left = l })
unfolding IsAt
starts zone s l is =
    subst (λ (x : Left). Between zone s [] (record { holdings = holdings (no_names zone) None; finished = 0; task = None; effect = None; left = x })) (sym is)
    (record { slots = refl; leaves = λ later more. refl; within = omega arith; unknown = refl })

-- More steps at the end of the script.

get_more : (k : ℕ) (ss more : List Step) (s : Step) → slice_get ss k ≡ Some s → slice_get (ss ++ more) k ≡ Some s
get_more k [] more s is = absurd (none-some s is)
get_more zero (x ∷ ss) more s is = is
get_more (suc k) (x ∷ ss) more s is = get_more k ss more s is

step_in_longer : (zone : Tuples) (s : Script) (more : List Step) (rs : List Reply) (p : Playing) (t : StepTask) → IsInStep zone s rs p t → IsInStep zone (with_steps s more) rs p t
step_in_longer zone s more rs p t step =
    let within : p.finished ≤ length s.steps = omega (arith, (behind_more p.finished s.steps step.step step.rest step.behind).0) in
    let first : take p.finished (s.steps ++ more) ≡ take p.finished s.steps = take-append-le p.finished s.steps more within in
    record {
      play = step.play;
      step = step.step;
      rest = step.rest ++ more;
      before = step.before;
      said = step.said;
      replies_are = step.replies_are;
      names = step.names;
      began = λ later replies. ap (λ (ss : List Step). position s.host (ss ++ later) (at_first zone) (step.before ++ replies)) first ∙ step.began later replies;
      unheard = step.unheard;
      told = step.told;
      behind = drop-append-le p.finished s.steps more within ∙ ap (λ (ss : List Step). ss ++ more) step.behind;
      plays = λ later replies. ap (λ (ss : List Step). position s.host (ss ++ step.step ∷ later) (at_first zone) (rs ++ replies)) first ∙ step.plays later replies;
      stands_for = step.stands_for;
      goes_on = step.goes_on;
      knows = step.knows;
    }

between_in_longer : (zone : Tuples) (s : Script) (more : List Step) (rs : List Reply) (p : Playing) → Between zone s rs p → Between zone (with_steps s more) rs p
between_in_longer zone s more rs p between =
    record {
      slots = between.slots;
      leaves = λ later replies. ap (λ (ss : List Step). position s.host (ss ++ later) (at_first zone) (rs ++ replies)) (take-append-le p.finished s.steps more between.within) ∙ between.leaves later replies;
      within = omega (arith, between.within, length-append s.steps more);
      unknown = between.unknown;
    }

at_in_longer : (zone : Tuples) (s : Script) (more : List Step) (rs : List Reply) (p : Playing) (t : Option StepTask) → IsAtBy zone s rs p t → IsAtBy zone (with_steps s more) rs p t
at_in_longer zone s more rs p None between = between_in_longer zone s more rs p between
at_in_longer zone s more rs p (Some t) step = step_in_longer zone s more rs p t step

pub fits_longer : (zone : Tuples) (s : Script) (more : List Step) (rs : List Reply) (p : Playing) → IsAt zone s rs p → IsAt zone (with_steps s more) rs p
unfolding IsAt
fits_longer zone s more rs p at = at_in_longer zone s more rs p p.task at

-- if the script has a next event, the longer script begins the same step
begins_alike : (h : ℕ) (p : Playing) (t : Option StepTask) (o q : Option Step) (a : Ask) → p.task ≡ t → ((x : Step) → o ≡ Some x → q ≡ Some x) → asked_at h (playing_begun_by p t o) ≡ Some a
    → playing_begun_by p t q ≡ playing_begun_by p t o
begins_alike h p (Some t) o q a task keeps is = refl
begins_alike h p None (Some x) q a task keeps is = ap (playing_begun_by p None) (keeps x refl)
begins_alike h p None None q a task keeps is = absurd (none-some a (sym (ap (λ (u : Option StepTask). asked_as h p.holdings.names (request_by p.holdings.names u)) task) ∙ is))

pub next_in_longer : (zone : Tuples) (s : Script) (more : List Step) (rs : List Reply) (p : Playing) (a : Ask) → IsAt zone s rs p → next_after zone s rs ≡ Some a
    → next_after zone (with_steps s more) rs ≡ Some a
next_in_longer zone s more rs p a at is =
    let here : asked_at s.host (begun_in s p) ≡ Some a = next_right zone s rs p at ∙ is in
    sym (next_right zone (with_steps s more) rs p (fits_longer zone s more rs p at))
    ∙ ap (asked_at s.host) (begins_alike s.host p p.task (slice_get s.steps p.finished) (slice_get (s.steps ++ more) p.finished) a refl (get_more p.finished s.steps more) here)
    ∙ here

-- The step that it is at is forgotten.

-- after the steps that are finished, a step that waits for a moment is the one that is left, if it has no reply
waits_alone : (h : ℕ) (k : Kept) (r : Reply) (said : List Reply) → length (position h (steps.Until 1 ∷ []) k (r ∷ said)).left ≡ 0
waits_alone h k r said = refl

none_said : (zone : Tuples) (s : Script) (later : List Step) (rs before said : List Reply) (n : ℕ) (k : Kept) → n ≡ length s.steps → rs ≡ before ++ said
    → LeavesSteps zone (with_steps s later) n before k → AreStepsFinished zone s rs → said ≡ []
none_said zone s later rs before [] n k at is leaves finished = refl
none_said zone s later rs before (r ∷ said) n k at is leaves finished =
    let all : take n (s.steps ++ later) ≡ s.steps = ap (λ (m : ℕ). take m (s.steps ++ later)) at ∙ take-append-le (length s.steps) s.steps later (omega arith) ∙ take_all (length s.steps) s.steps (omega arith) in
    let there : position_after zone (with_steps s (steps.Until 1 ∷ [])) rs ≡ position s.host (steps.Until 1 ∷ []) k (r ∷ said) =
    ap (λ (xs : List Reply). position_after zone (with_steps s (steps.Until 1 ∷ [])) xs) is
    ∙ ap (λ (ss : List Step). position s.host (ss ++ steps.Until 1 ∷ []) (at_first zone) (before ++ r ∷ said)) (sym all)
    ∙ leaves (steps.Until 1 ∷ []) (r ∷ said) in
    absurd (omega (arith, finished (steps.Until 1 ∷ []), ap (λ (at : Position). length at.left) there ∙ waits_alone s.host k r said, length-append s.steps (steps.Until 1 ∷ [])))

forgotten_by : (zone : Tuples) (s : Script) (later : List Step) (rs : List Reply) (p : Playing) (t : Option StepTask) → p.finished ≡ length s.steps → AreStepsFinished zone s rs → IsAtBy zone (with_steps s later) rs p t
    → Between zone s rs (unbegun p)
forgotten_by zone s later rs p None at finished between =
    record {
      slots = between.slots;
      leaves = λ more replies. ap (λ (ss : List Step). position s.host (ss ++ more) (at_first zone) (rs ++ replies)) (sym (take-append-le p.finished s.steps later (omega (arith, at)))) ∙ between.leaves more replies;
      within = omega (arith, at);
      unknown = refl;
    }
forgotten_by zone s later rs p (Some t) at finished step =
    let none : step.said ≡ [] = none_said zone s later rs step.before step.said p.finished (record { names = step.names; left = p.left }) at step.replies_are step.began finished in
    let replies_are : rs ≡ step.before = step.replies_are ∙ ap (λ (xs : List Reply). step.before ++ xs) none ∙ append-nil step.before in
    record {
      slots = step.stands_for.0;
      leaves = λ more replies. ap (λ (ss : List Step). position s.host (ss ++ more) (at_first zone) (rs ++ replies)) (sym (take-append-le p.finished s.steps later (omega (arith, at))))
          ∙ (ap (λ (xs : List Reply). position_with zone (with_steps s later) p.finished more (xs ++ replies)) replies_are
          ∙ (step.began more replies
          ∙ ap (λ (names : Names). position s.host more (record { names = names; left = p.left }) replies) (sym (step.unheard none))));
      within = omega (arith, at);
      unknown = refl;
    }

pub forgotten : (zone : Tuples) (s : Script) (later : List Step) (rs : List Reply) (p : Playing) → IsAt zone (with_steps s later) rs p → AreStepsFinished zone s rs → IsAt zone s rs (unbegun p)
unfolding IsAt
forgotten zone s later rs p at finished = forgotten_by zone s later rs p p.task (finished_right zone (with_steps s later) rs p at ∙ finished later) finished at
