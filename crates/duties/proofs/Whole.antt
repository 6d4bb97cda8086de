-- All that an entry owes, by its outcome.
use Rattle.std.proofs.Common.{◌≡◌, ℕ, ◌++◌, List, [], append-nil, append_assoc, refl, sym, ap, ◌∙◌}
use Rattle.net_base.specs.declared.actor.ActorName.{ActorName}
use Rattle.net_base.specs.declared.actor.ActorName.TheVariants as name
use Rattle.net_base.specs.declared.event.Event.{Event}
use Rattle.net_base.specs.declared.event.Event.TheVariants as event
use Rattle.net_base.specs.declared.history.Outcome.{Outcome}
use Rattle.net_base.specs.declared.history.Work.{Work}
use Rattle.net_base.specs.declared.world.World.{World}
use Rattle.net_base.specs.ActorStep.{Step}
use Rattle.net_base.specs.Actors.{Actor, has_actor}
use Rattle.net_base.specs.Duties.{Duty, courier_duty, duties, emitted_put, follow_up, release, owed_ticks}
use Rattle.net_base.specs.Legal.{IsMove}
use Rattle.duties.proofs.Ends.{given_when, release_is}
use Rattle.duties.specs.Owing.{GivesStep}
use Rattle.duties.specs.Releasing.{released}

-- what is no move owes no ticks
no_ticks : (w : World) (actors : ActorName → Actor) (a : ActorName) (s : ℕ) (e : Event) → (IsMove a e → ⊥) → owed_ticks w actors a s e ≡ []
no_ticks w actors name.Clock s (event.Move now) none = absurd (none tt)
no_ticks w actors _ s _ none = refl

-- the parts of what an outcome owes, its release by the event
abbrev pub parts : World → ActorName → ℕ → Work → Outcome → List Duty
parts w a s work o =
    emitted_put w a s o.emit ++ follow_up a s work.event work.with o.reply ++ courier_duty w a s o.taken ++ released a s work.event o.ended

-- all but the release
abbrev before_release : World → ActorName → ℕ → Work → Outcome → List Duty
before_release w a s work o = emitted_put w a s o.emit ++ follow_up a s work.event work.with o.reply ++ courier_duty w a s o.taken

-- they are all that the step owes
pub parts_are : (w : World) (actors : ActorName → Actor) (a : ActorName) (s : ℕ) (work : Work) (o : Outcome) (step : Step Actor)
    → GivesStep w a work o step → (IsMove a work.event → ⊥) → parts w a s work o ≡ duties w actors a s work step
parts_are w actors a s work o step gives none =
    ap (λ (p : Outcome). parts w a s work p) (sym gives.outcome)
    ∙ (ap (λ (ds : List Duty). before_release w a s work step.outcome ++ ds) (sym (release_is w a s gives.before gives.now work step (given_when (has_actor w a) _ step gives.gives)))
    ∙ ap (λ (ds : List Duty). ds ++ release a s step.state step.outcome.ended)
    (sym (append-nil (before_release w a s work step.outcome))
    ∙ ap (λ (ds : List Duty). before_release w a s work step.outcome ++ ds) (sym (no_ticks w actors a s work.event none))))

-- behind what was owed before, in turn
pub in_turn : (w : World) (actors : ActorName → Actor) (a : ActorName) (s : ℕ) (work : Work) (o : Outcome) (step : Step Actor) (old put followed copied new : List Duty)
    → GivesStep w a work o step → (IsMove a work.event → ⊥) → put ≡ old ++ emitted_put w a s o.emit → followed ≡ put ++ follow_up a s work.event work.with o.reply
    → copied ≡ followed ++ courier_duty w a s o.taken → new ≡ copied ++ released a s work.event o.ended → new ≡ old ++ duties w actors a s work step
in_turn w actors a s work o step old put followed copied new gives none one two three four =
    four
    ∙ (ap (λ (ds : List Duty). ds ++ released a s work.event o.ended)
    (three ∙ ap (λ (ds : List Duty). ds ++ courier_duty w a s o.taken) (two ∙ ap (λ (ds : List Duty). ds ++ follow_up a s work.event work.with o.reply) one))
    ∙ (nested (emitted_put w a s o.emit) (follow_up a s work.event work.with o.reply) (courier_duty w a s o.taken) (released a s work.event o.ended)
    ∙ ap (λ (ds : List Duty). old ++ ds) (parts_are w actors a s work o step gives none)))
  where
    nested : (p f c r : List Duty) → (((old ++ p) ++ f) ++ c) ++ r ≡ old ++ (((p ++ f) ++ c) ++ r)
    nested p f c r = simp append_assoc refl
