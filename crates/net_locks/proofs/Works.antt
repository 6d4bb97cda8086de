-- What works led an actor's machine to is what they lead the actor of the definitions to.
use Rattle.std.proofs.Common.{◌≡◌, ℕ, suc, List, [], ◌∷◌, length, map, Some, is_some, refl, ap, sym, ◌∙◌}
use Rattle.std.specs.Option.{option_map}
use Rattle.net_base.specs.declared.actor.ActorName.{ActorName}
use Rattle.net_base.specs.declared.history.Outcome.{Outcome}
use Rattle.net_base.specs.declared.history.Work.{Work}
use Rattle.net_base.specs.declared.noted.Noted.{Noted}
use Rattle.net_base.specs.declared.world.World.{World}
use Rattle.net_base.specs.Actors.{Actor, actor_step, opening_actor}
use Rattle.net_base.specs.Net.{WorkAt, played, stepped_to}
use Rattle.locked.specs.Acts.{state}
use Rattle.net_locks.specs.Named.{Named, named, named_step, named_opening, answer_in}
use Rattle.net_locks.proofs.Nets.{named_left}
use Rattle.net_locks.proofs.Views.{some_under}

abbrev pub plays : List (ℕ × Noted) → List WorkAt
plays works = map (λ (x : ℕ × Noted). record { moment = x.1.entry.moment; work = x.1.work }) works

pub as_many : (works : List (ℕ × Noted)) → length (plays works) ≡ length works
as_many [] = refl
as_many (x ∷ xs) = ap suc (as_many xs)

state_from : (w : World) (a : ActorName) (s : Actor) (works : List (ℕ × Noted)) → state (named_opening w) (answer_in w) (named a s) works ≡ named a (played w a s (plays works))
state_from w a s [] = refl
state_from w a s (x ∷ xs) =
    ap (λ (n : Named). state (named_opening w) (answer_in w) n xs) (named_left a s (actor_step w a s x.1.entry.moment x.1.work))
    ∙ state_from w a (stepped_to s (actor_step w a s x.1.entry.moment x.1.work)) xs

-- the state of the machine that works led to
pub led_to : (w : World) (a : ActorName) (works : List (ℕ × Noted)) (s : Named) → s ≡ state (named_opening w) (answer_in w) (named_opening w a) works → s.actor ≡ played w a (opening_actor w.timers a) (plays works)
led_to w a works s is = ap (λ (n : Named). n.actor) (is ∙ state_from w a (opening_actor w.timers a) works)

-- a step of the actor is one of the machine
pub answers : (w : World) (a : ActorName) (s t : Actor) (now : ℕ) (work : Work) (o : Outcome) → actor_step w a s now work ≡ Some (record { state = t; outcome = o })
    → answer_in w (named a s) now work ≡ Some (record { state = named a t; outcome = o })
answers w a s t now work o is = ap (option_map (named_step a)) is

-- what is ready for the actor is ready for the machine
pub ready_named : (w : World) (a : ActorName) (s : Actor) (now : ℕ) (work : Work) (q : Named) → named a s ≡ q → is_some (actor_step w a s now work) ≡ is_some (answer_in w q now work)
ready_named w a s now work q is = sym (some_under a (actor_step w a s now work)) ∙ ap (λ (n : Named). is_some (answer_in w n now work)) is
