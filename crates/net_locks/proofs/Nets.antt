-- The net after noted entries: what one entry more changes, and that an actor's state is the fold of its own book.
use Rattle.std.proofs.Common.{◌≡◌, ℕ, ◌+◌, Bool, true, false, List, [], ◌∷◌, ◌++◌, Option, Some, None, if◌then◌else◌, refl, ap, sym, ◌∙◌, append_assoc}
use Rattle.std.proofs.lemmas.List.{append-nil}
use Rattle.std.specs.Option.{option_map}
use Rattle.net_base.specs.declared.actor.ActorName.{ActorName}
use Rattle.net_base.specs.declared.actor.ActorName.TheVariants as name
use Rattle.net_base.specs.declared.event.Event.{Event}
use Rattle.net_base.specs.declared.event.Event.TheVariants as event
use Rattle.net_base.specs.declared.history.Entry.{Entry}
use Rattle.net_base.specs.declared.noted.Noted.{Noted}
use Rattle.net_base.specs.declared.noted.Number.TheVariants as number
use Rattle.net_base.specs.declared.world.World.{World}
use Rattle.net_base.specs.ActorStep.{Step}
use Rattle.net_base.specs.Actors.{Actor, actor_step}
use Rattle.net_base.specs.Net.{Net, opening_net, moment_after, stepped_to}
use Rattle.net_base.specs.Stamped as stamped
use Rattle.net_base.specs.Stamped.{same_actor, at_from, clock, latest}
use Rattle.locked.specs.Acts.{left_by, state, state_at}
use Rattle.net_locks.specs.Named.{Named, named, named_step, named_opening, answer_in}
use Rattle.net_locks.specs.Works.{step_by, moment_by, noted_after, next_noted, noted_from, noted_net, entries}

pub named_left : (a : ActorName) (s : Actor) (t : Option (Step Actor)) → left_by (named a s) (option_map (named_step a) t) ≡ named a (stepped_to s t)
named_left a s None = refl
named_left a s (Some t) = refl

module _ (w : World) (equal : (a b : ActorName) → same_actor a b ≡ true → a ≡ b) where
  pub moved : (net : Net) (x : Noted) (a : ActorName) (t : Option (Step Actor)) → same_actor x.entry.actor a ≡ true
      → (noted_after w net x t).actors a ≡ stepped_to (net.actors a) t
  moved net x a None same = refl
  moved net x a (Some s) same = ap (λ (b : Bool). if b then s.state else net.actors a) same

  pub unmoved : (net : Net) (x : Noted) (a : ActorName) (t : Option (Step Actor)) → same_actor x.entry.actor a ≡ false
      → (noted_after w net x t).actors a ≡ net.actors a
  unmoved net x a None other = refl
  unmoved net x a (Some s) other = ap (λ (b : Bool). if b then s.state else net.actors a) other

  -- the entry's actor after it
  named_moved : (net : Net) (x : Noted) (a : ActorName) → same_actor x.entry.actor a ≡ true
      → left_by (named a (net.actors a)) (answer_in w (named a (net.actors a)) x.entry.moment x.work) ≡ named a ((next_noted w net x).actors a)
  named_moved net x a same =
      let is : x.entry.actor ≡ a = equal x.entry.actor a same in
      let step : actor_step w a (net.actors a) x.entry.moment x.work ≡ step_by w net x =
      ap (λ (b : ActorName). actor_step w b (net.actors b) x.entry.moment x.work) (sym is) in
      named_left a (net.actors a) (actor_step w a (net.actors a) x.entry.moment x.work)
      ∙ ap (named a) (ap (λ (t : Option (Step Actor)). stepped_to (net.actors a) t) step ∙ sym (moved net x a (step_by w net x) same))

  state_more : (net : Net) (n : ℕ) (x : Noted) (rest : List (ℕ × Noted)) (a : ActorName) (end : Named) (b : Bool) → same_actor x.entry.actor a ≡ b
      → state (named_opening w) (answer_in w) (named a ((next_noted w net x).actors a)) rest ≡ end
      → state (named_opening w) (answer_in w) (named a (net.actors a)) (if b then (n, x) ∷ rest else rest) ≡ end
  state_more net n x rest a end true same rec = ap (λ (s : Named). state (named_opening w) (answer_in w) s rest) (named_moved net x a same) ∙ rec
  state_more net n x rest a end false other rec =
      ap (λ (s : Actor). state (named_opening w) (answer_in w) (named a s) rest) (sym (unmoved net x a (step_by w net x) other)) ∙ rec

  state_from : (net : Net) (n : ℕ) (xs : List Noted) (a : ActorName)
      → state (named_opening w) (answer_in w) (named a (net.actors a)) (at_from (number.Actor a) n xs) ≡ named a ((noted_from w net xs).actors a)
  state_from net n [] a = refl
  state_from net n (x ∷ xs) a =
      state_more net n x (at_from (number.Actor a) (n + 1) xs) a (named a ((noted_from w (next_noted w net x) xs).actors a)) (same_actor x.entry.actor a) refl
      (state_from (next_noted w net x) (n + 1) xs a)

  -- what lies under an actor's lock is that actor of the net
  pub state_is : (log : List Noted) (a : ActorName) → state_at (named_opening w) (answer_in w) a log ≡ named a ((noted_net w log).actors a)
  state_is log a = state_from (opening_net w) 0 log a

module _ (w : World) where
  pub noted_from-append : (net : Net) (xs ys : List Noted) → noted_from w net (xs ++ ys) ≡ noted_from w (noted_from w net xs) ys
  noted_from-append net [] ys = refl
  noted_from-append net (x ∷ xs) ys = noted_from-append (next_noted w net x) xs ys

  pub noted_push : (log : List Noted) (x : Noted) → noted_net w (log ++ x ∷ []) ≡ next_noted w (noted_net w log) x
  noted_push log x = noted_from-append (opening_net w) log (x ∷ [])

  past_from : (net : Net) (xs : List Noted) → (noted_from w net xs).past ≡ net.past ++ entries xs
  past_from net [] = sym (append-nil net.past)
  past_from net (x ∷ xs) =
      past_from (next_noted w net x) xs
      ∙ (ap (λ (l : List Entry). l ++ entries xs) (after_one (step_by w net x)) ∙ append_assoc net.past (x.entry ∷ []) (entries xs))
    where
      after_one : (t : Option (Step Actor)) → (noted_after w net x t).past ≡ net.past ++ x.entry ∷ []
      after_one None = refl
      after_one (Some s) = refl

  -- the net has these entries
  pub past_is : (log : List Noted) → (noted_net w log).past ≡ entries log
  past_is log = past_from (opening_net w) log

  moment_one : (net : Net) (x : Noted) (t : Option (Step Actor)) → (noted_after w net x t).moment ≡ moment_by net.moment x
  moment_one net x None = refl
  moment_one net x (Some s) = refl

  same_moment_after : (m : ℕ) (x : Noted) → stamped.moment_after_noted m x ≡ moment_after m x.entry.event
  same_moment_after m x = by_event x.entry.event x refl
    where
      by_event : (e : Event) (y : Noted) → y.entry.event ≡ e → stamped.moment_after_noted m y ≡ moment_after m y.entry.event
      by_event (event.Move at) y is = rw is refl
      by_event e y is = rw is refl

  moment_from : (net : Net) (n : ℕ) (xs : List Noted) → (noted_from w net xs).moment ≡ latest net.moment (at_from clock n xs)
  moment_from net n [] = refl
  moment_from net n (x ∷ xs) =
      moment_from (next_noted w net x) (n + 1) xs
      ∙ (ap (λ (m : ℕ). latest m (at_from clock (n + 1) xs)) (moment_one net x (step_by w net x)) ∙ by_clock (same_actor x.entry.actor name.Clock) refl)
    where
      by_clock : (b : Bool) → same_actor x.entry.actor name.Clock ≡ b
          → latest (if b then moment_after net.moment x.entry.event else net.moment) (at_from clock (n + 1) xs) ≡ latest net.moment
          (if b then (n, x) ∷ at_from clock (n + 1) xs else at_from clock (n + 1) xs)
      by_clock true is = ap (λ (m : ℕ). latest m (at_from clock (n + 1) xs)) (sym (same_moment_after net.moment x))
      by_clock false is = refl

  -- and its moment is theirs
  pub moment_is : (log : List Noted) → (noted_net w log).moment ≡ stamped.moment_noted log
  moment_is log = moment_from (opening_net w) 0 log
