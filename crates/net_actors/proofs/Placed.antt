-- All actors of a world, each at its number.
use Rattle.std.proofs.Common.{◌≡◌, ℕ, zero, suc, ◌+◌, ◌<◌, ◌⊎◌, inl, inr, Result, Ok, Err, IfOk, OnErr, IfSome, MatchResult, Bool, true, false, List, [], ◌∷◌, ◌++◌, length, Option, Some, None, slice_get, slice_set, is_some, if◌then◌else◌, refl, ap, sym, subst, ◌∙◌, arith, length-append}
use Rattle.std.specs.Option.{option_map_or}
use Rattle.std.proofs.lemmas.Bool.Decides.{eqb_tells}
use Rattle.std.proofs.lemmas.Option.{none-some, same_Some, slice_get_within}
use Rattle.net_base.specs.declared.actor.ActorName.{ActorName}
use Rattle.net_base.specs.declared.history.Outcome.{Outcome}
use Rattle.net_base.specs.declared.history.Work.{Work}
use Rattle.net_base.specs.declared.world.World.{World}
use Rattle.net_base.specs.Actors.{Actor, IsPlain, actor_step, has_actor, opening_actor}
use Rattle.net_base.specs.Net.{actors_after}
use Rattle.net_base.specs.Stamped.{same_actor}
use Rattle.net_actors.specs.Kept.{IsActorOf, kept_state}
use Rattle.net_actors.specs.Numbers.{actor_count, count_in, is_actor_among, number_in_world, number_of}
use Rattle.net_actors.specs.Stepping.{ActorMayWant, StepsKept as StepsOne}
use Rattle.net_actors.specs.Together.{AreActors, AreFirst, CanStep, IsAtActor, MayWantAt, Numbered, StepsTogether, StepsIn, has_name, state_at_actor}
use Rattle.net_actors.specs.declared.actor.Actor.{Actor as Kept}
use Rattle.net_actors.proofs.Numbering.{among_is, below, below_in, same_in}
use Rattle.net_base.proofs.Shared.{there_at, get_set, get_set_other, same_actor_is, same_itself}

-- what stands at a name's number is the actor of that name
record Found (w : World) (states : ActorName → Actor) (a : ActorName) (x : Kept) : Type 0 where
  of_world : IsActorOf w x
  called : x.name ≡ a
  in_state : kept_state x ≡ states a

same_place : (w : World) (v : Numbered) (states : ActorName → Actor) (a : ActorName) → AreActors w v states → number_of v.hosts v.media a ≡ number_in_world w a
same_place w v states a are = ap (λ (h : ℕ). number_of h v.media a) are.hosts_are ∙ ap (λ (m : ℕ). number_of (length w.hosts) m a) are.media_are

has_both : (w : World) (v : Numbered) (states : ActorName → Actor) (a : ActorName) → AreActors w v states → has_name v a ≡ has_actor w a
has_both w v states a are =
    ap (λ (h : ℕ). is_actor_among h v.media a) are.hosts_are ∙ (ap (λ (m : ℕ). is_actor_among (length w.hosts) m a) are.media_are ∙ sym (among_is w a))

-- an actor of a world is one of all its actors
pub named : (w : World) (v : Numbered) (states : ActorName → Actor) (a : ActorName) → AreActors w v states → has_actor w a ≡ true → has_name v a ≡ true
named w v states a are has = has_both w v states a are ∙ has

found_at : (w : World) (states : ActorName → Actor) (a : ActorName) (x : Kept) (o : Option Kept) → o ≡ Some x → IsAtActor w a (states a) o → Found w states a x
found_at w states a x None is at = absurd at
found_at w states a x (Some y) is at =
    let same = same_Some y x is in
    record {
      of_world = subst (λ (z : Kept). IsActorOf w z) same at.0;
      called = subst (λ (z : Kept). z.name ≡ a) same at.1;
      in_state = subst (λ (z : Kept). kept_state z ≡ states a) same at.2;
    }

found : (w : World) (v : Numbered) (states : ActorName → Actor) (a : ActorName) (x : Kept) → AreActors w v states → has_name v a ≡ true → slice_get v.actors (number_of v.hosts v.media a) ≡ Some x → Found w states a x
found w v states a x are has is =
    found_at w states a x (slice_get v.actors (number_in_world w a)) (ap (slice_get v.actors) (sym (same_place w v states a are)) ∙ is) (are.each a (sym (has_both w v states a are) ∙ has))

-- an actor that isn't among them answers nothing
pub absent_at : (v : Numbered) (a : ActorName) (now : ℕ) (work : Work) → has_name v a ≡ false → (w : World) (states : ActorName → Actor) → AreActors w v states → false ≡ is_some (actor_step w a (states a) now work)
absent_at v a now work not w states are = rw (sym (has_both w v states a are) ∙ not) refl

pub told_at : (v : Numbered) (a : ActorName) (x : Kept) (now : ℕ) (work : Work) (told : Bool) → has_name v a ≡ true → slice_get v.actors (number_of v.hosts v.media a) ≡ Some x
    → ((w : World) → IsActorOf w x → told ≡ is_some (actor_step w x.name (kept_state x) now work))
    → (w : World) (states : ActorName → Actor) → AreActors w v states → told ≡ is_some (actor_step w a (states a) now work)
told_at v a x now work told has is tells w states are =
    let f = found w v states a x are has is in
    tells w f.of_world
    ∙ (ap (λ (b : ActorName). is_some (actor_step w b (kept_state x) now work)) f.called ∙ ap (λ (s : Actor). is_some (actor_step w a s now work)) f.in_state)

-- the state of what stands at a name's number
pub state_at : {A : Type 0} (ask : Actor → A) (v : Numbered) (a : ActorName) (x : Kept) (told : A) → has_name v a ≡ true → slice_get v.actors (number_of v.hosts v.media a) ≡ Some x
    → told ≡ ask (kept_state x) → (w : World) (states : ActorName → Actor) → AreActors w v states → told ≡ ask (states a)
state_at ask v a x told has is tells w states are = tells ∙ ap ask (found w v states a x are has is).in_state

state_in_is : (o : Option Kept) (x : Kept) → o ≡ Some x → option_map_or kept_state o IsPlain ≡ kept_state x
state_in_is None x is = absurd (none-some x is)
state_in_is (Some y) x is = ap kept_state (same_Some y x is)

-- so the states are those of the actors
pub stands_in : (v : Numbered) (a : ActorName) (x : Kept) → slice_get v.actors (number_of v.hosts v.media a) ≡ Some x → state_at_actor v a ≡ kept_state x
stands_in v a x is = state_in_is (slice_get v.actors (number_of v.hosts v.media a)) x is

some_at : (w : World) (s : Actor) (a : ActorName) (o : Option Kept) → IsAtActor w a s o → (x : Kept) × (o ≡ Some x)
some_at w s a None at = absurd at
some_at w s a (Some x) at = (x, refl)

pub states_are : (w : World) (v : Numbered) (states : ActorName → Actor) (a : ActorName) → AreActors w v states → has_actor w a ≡ true → state_at_actor v a ≡ states a
states_are w v states a are has =
    let some = some_at w (states a) a (slice_get v.actors (number_in_world w a)) (are.each a has) in
    let there = ap (slice_get v.actors) (same_place w v states a are) ∙ some.1 in
    stands_in v a some.0 there ∙ (found w v states a some.0 are (named w v states a are has) there).in_state

-- Steps.

apart_is : (a b : ActorName) (n : ℕ) (at : ActorName → ℕ) → at a ≡ n → (n ≡ at b → ⊥) → same_actor a b ≡ false
apart_is a b n at is apart = by_test (same_actor a b) refl
  where
    by_test : (t : Bool) → same_actor a b ≡ t → same_actor a b ≡ false
    by_test true same = absurd (apart (sym is ∙ ap at (same_actor_is a b same)))
    by_test false other = other

after_itself : (w : World) (states : ActorName → Actor) (a : ActorName) (y : Kept) → IsActorOf w y → y.name ≡ a → IsAtActor w a (actors_after states a (kept_state y) a) (Some y)
after_itself w states a y of is = (of, is, ap (λ (t : Bool). if t then kept_state y else states a) (sym (same_itself a)))

after_other : (w : World) (states : ActorName → Actor) (a b : ActorName) (s : Actor) (o : Option Kept) → same_actor a b ≡ false → IsAtActor w b (states b) o → IsAtActor w b (actors_after states a s b) o
after_other w states a b s o apart at = subst (λ (t : Bool). IsAtActor w b (if t then s else states b) o) (sym apart) at

-- after the step of one actor, each stands at its number
each_after : (w : World) (v : Numbered) (states : ActorName → Actor) (a : ActorName) (y : Kept) → AreActors w v states → has_actor w a ≡ true → number_in_world w a < length v.actors → IsActorOf w y → y.name ≡ a
    → (b : ActorName) → has_actor w b ≡ true → IsAtActor w b (actors_after states a (kept_state y) b) (slice_get (slice_set v.actors (number_in_world w a) y) (number_in_world w b))
each_after w v states a y are has within of called b has_b = elim (eqb_tells (number_in_world w a) (number_in_world w b)) [
  | inl same ↦
      let one = same_in w a b has has_b same.1 in
      subst (λ (c : ActorName). IsAtActor w c (actors_after states a (kept_state y) c) (slice_get (slice_set v.actors (number_in_world w a) y) (number_in_world w c))) one
      (subst (IsAtActor w a (actors_after states a (kept_state y) a)) (sym (get_set v.actors (number_in_world w a) y within)) (after_itself w states a y of called))
  | inr other ↦
      after_other w states a b (kept_state y) _ (apart_is a b (number_in_world w a) (number_in_world w) refl other.1)
      (subst (IsAtActor w b (states b)) (sym (get_set_other v.actors (number_in_world w a) (number_in_world w b) y other.1)) (are.each b has_b))
]

steps_at_number : (w : World) (v : Numbered) (states : ActorName → Actor) (a : ActorName) (x y : Kept) (now : ℕ) (work : Work) (o : Outcome) → AreActors w v states → has_actor w a ≡ true
    → slice_get v.actors (number_in_world w a) ≡ Some x → StepsOne x y now work o → y.name ≡ x.name
    → StepsIn w states (record { hosts = v.hosts; media = v.media; actors = slice_set v.actors (number_in_world w a) y }) a now work o
steps_at_number w v states a x y now work o are has is steps called =
    let f = found_at w states a x (slice_get v.actors (number_in_world w a)) is (are.each a has) in
    let s = steps w f.of_world in
    record {
      state = kept_state y;
      step =
          ap (λ (b : ActorName). actor_step w b (states a) now work) (sym f.called)
          ∙ (ap (λ (t : Actor). actor_step w x.name t now work) (sym f.in_state) ∙ s.step);
      are = record {
        hosts_are = are.hosts_are;
        media_are = are.media_are;
        each = each_after w v states a y are has (slice_get_within v.actors (number_in_world w a) x is) s.of_world (called ∙ f.called);
      };
    }

-- the step of what stands at a name's number
pub steps_at : (v : Numbered) (a : ActorName) (x y : Kept) (now : ℕ) (work : Work) (o : Outcome) → slice_get v.actors (number_of v.hosts v.media a) ≡ Some x → StepsOne x y now work o → y.name ≡ x.name
    → StepsTogether v (record { hosts = v.hosts; media = v.media; actors = slice_set v.actors (number_of v.hosts v.media a) y }) a now work o
steps_at v a x y now work o is steps called w states are has =
    let same = same_place w v states a are in
    subst (λ (n : ℕ). StepsIn w states (record { hosts = v.hosts; media = v.media; actors = slice_set v.actors n y }) a now work o) (sym same)
    (steps_at_number w v states a x y now work o are has (ap (slice_get v.actors) (sym same) ∙ is) steps called)

-- What the step of one needs.

pub within : (v : Numbered) (a : ActorName) (now : ℕ) (work : Work) → CanStep v a now work → length v.actors ≡ actor_count v.hosts v.media → number_of v.hosts v.media a < length v.actors
within v a now work can count =
    let lt = below v.hosts v.media a (named can.world v can.states a can.are can.has) in omega (arith, lt, count)

pub want_at : {E : Type 0} (r : Result Outcome E) (v : Numbered) (a : ActorName) (now : ℕ) (work : Work) (x : Kept) → slice_get v.actors (number_of v.hosts v.media a) ≡ Some x
    → OnErr r (ActorMayWant x.kind now work) → OnErr r (MayWantAt v a now work)
want_at (Ok o) v a now work x is wants = tt
want_at (Err e) v a now work x is wants = subst (λ (o : Option Kept). IfSome o (λ (y : Kept). ActorMayWant y.kind now work)) (sym is) wants

-- At first.

get_push : {A : Type 0} (xs : List A) (y x : A) (k : ℕ) → slice_get (xs ++ y ∷ []) k ≡ Some x → (slice_get xs k ≡ Some x) ⊎ ((k ≡ length xs) × (y ≡ x))
get_push [] y x zero is = inr (refl, same_Some y x is)
get_push [] y x (suc k) is = absurd (none-some x is)
get_push (z ∷ xs) y x zero is = inl is
get_push (z ∷ xs) y x (suc k) is = elim (get_push xs y x k is) [ inl there ↦ inl there | inr here ↦ inr (ap suc here.0, here.1) ]

pub one_more : (w : World) (n : ℕ) (xs : List Kept) (y : Kept) → AreFirst w n xs → IsActorOf w y → has_actor w y.name ≡ true → number_in_world w y.name ≡ n → kept_state y ≡ opening_actor w.timers y.name
    → AreFirst w (n + 1) (xs ++ y ∷ [])
one_more w n xs y all of has number opening = record {
  count = let more = length-append xs (y ∷ []) in let so_far = all.count in omega (arith, more, so_far);
  place = λ k x is. elim (get_push xs y x k is) [
    | inl there ↦ all.place k x there
    | inr here ↦ subst (λ (z : Kept). IsActorOf w z × (has_actor w z.name ≡ true) × (number_in_world w z.name ≡ k) × (kept_state z ≡ opening_actor w.timers z.name)) here.1
        (of, has, number ∙ (sym all.count ∙ sym here.0), opening)
  ];
}

-- the actor of a number is one of the world
pub at_number : (w : World) (hosts media : ℕ) (a : ActorName) → hosts ≡ length w.hosts → media ≡ length w.media → is_actor_among hosts media a ≡ true → has_actor w a ≡ true
at_number w hosts media a hosts_are media_are is =
    among_is w a ∙ (ap (λ (h : ℕ). is_actor_among h (length w.media) a) (sym hosts_are) ∙ (ap (λ (m : ℕ). is_actor_among hosts m a) (sym media_are) ∙ is))

pub number_at : (w : World) (hosts media : ℕ) (a : ActorName) (n : ℕ) → hosts ≡ length w.hosts → media ≡ length w.media → number_of hosts media a ≡ n → number_in_world w a ≡ n
number_at w hosts media a n hosts_are media_are is =
    ap (λ (h : ℕ). number_of h (length w.media) a) (sym hosts_are) ∙ (ap (λ (m : ℕ). number_of hosts m a) (sym media_are) ∙ is)

pub all_first : (w : World) (hosts media : ℕ) (xs : List Kept) → hosts ≡ length w.hosts → media ≡ length w.media → AreFirst w (count_in w) xs
    → AreActors w (record { hosts = hosts; media = media; actors = xs }) (opening_actor w.timers)
all_first w hosts media xs hosts_are media_are all = record { hosts_are = hosts_are; media_are = media_are; each = each }
  where
    each : (a : ActorName) → has_actor w a ≡ true → IsAtActor w a (opening_actor w.timers a) (slice_get xs (number_in_world w a))
    each a has =
        let lt = below_in w a has in
        let count = all.count in
        let some = there_at xs (number_in_world w a) (omega (arith, lt, count)) in
        let x = some.0 in
        let at = all.place (number_in_world w a) x some.1 in
        let same = same_in w x.name a at.1 has at.2 in
        subst (IsAtActor w a (opening_actor w.timers a)) (sym some.1) (at.0, same, at.3 ∙ ap (opening_actor w.timers) same)

pub map_ok : {T E : Type 0} (r : Result T E) (P Q : T → Type 0) (R : E → Type 0) → ((x : T) → P x → Q x) → MatchResult r P R → IfOk r Q
map_ok (Ok x) P Q R give is = give x is
map_ok (Err e) P Q R give is = tt
