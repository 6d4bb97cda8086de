-- Only the clock answers a move.
use Rattle.std.proofs.Common.{◌≡◌, ℕ, Bool, true, false, Option, Some, None, slice_get, if◌then◌else◌, refl, ap, sym, ◌∙◌}
use Rattle.std.specs.Option.{option_and_then}
use Rattle.std.proofs.lemmas.Option.{none-some}
use Rattle.std.proofs.lemmas.Bool.{true≢false}
use Rattle.net_base.specs.declared.actor.ActorName.{ActorName}
use Rattle.net_base.specs.declared.actor.ActorName.TheVariants as name
use Rattle.net_base.specs.declared.event.Event.{Event}
use Rattle.net_base.specs.declared.event.Event.TheVariants as event
use Rattle.net_base.specs.declared.history.With.{With}
use Rattle.net_base.specs.declared.history.Work.{Work}
use Rattle.net_base.specs.declared.noted.Noted.{Noted}
use Rattle.net_base.specs.declared.world.HostSpec.{HostSpec}
use Rattle.net_base.specs.declared.world.MediumSpec.{MediumSpec}
use Rattle.net_base.specs.declared.world.World.{World}
use Rattle.net_base.specs.ActorStep.{Step, when}
use Rattle.net_base.specs.Actors.{Actor, IsDesk, IsDir, IsConv, IsMedium, has_actor, actor_step, table_step, step_as}
use Rattle.net_base.specs.Desk.{desk_step}
use Rattle.net_base.specs.Legal.{IsInTimeBy}
use Rattle.net_base.specs.Medium.{medium_step}
use Rattle.net_base.specs.Net.{Net, moment_after}
use Rattle.net_base.specs.Stamped.{same_actor}
use Rattle.net_base.specs.Tasks.{Tasks}
use Rattle.net_locks.specs.Works.{step_by, moment_by}

module _ (w : World) where
  no_move : (a : ActorName) (s : Actor) (now m : ℕ) (g : With) → same_actor a name.Clock ≡ false
      → table_step w a s now (record { event = event.Move m; with = g }) ≡ None
  no_move (name.Desk h) (IsDesk d) now m g other = by_host (slice_get w.hosts h)
    where
      by_host : (host : Option HostSpec) → option_and_then (λ (host : HostSpec). step_as IsDesk (desk_step w.dbs host (event.Move m) now d)) host ≡ None
      by_host None = refl
      by_host (Some host) = refl
  no_move (name.Dir h p) (IsDir d) now m g other = refl
  no_move (name.Conv h p n) (IsConv c) now m g other = refl
  no_move (name.Medium k) (IsMedium q) now m g other = by_spec (slice_get w.media k)
    where
      by_spec : (spec : Option MediumSpec) → option_and_then (λ (spec : MediumSpec). step_as IsMedium (medium_step spec w.seed (event.Move m) g q)) spec ≡ None
      by_spec None = refl
      by_spec (Some spec) = refl
  no_move name.Clock s now m g other = absurd (true≢false other)
  no_move (name.Desk h) _ now m g other = refl
  no_move (name.Dir h p) _ now m g other = refl
  no_move (name.Conv h p n) _ now m g other = refl
  no_move (name.Medium k) _ now m g other = refl

  when_none : (b : Bool) → when {A = Step Actor} b None ≡ None
  when_none true = refl
  when_none false = refl

  still : (a : ActorName) (s : Actor) (now m : ℕ) (e : Event) (g : With) (t : Step Actor) → same_actor a name.Clock ≡ false
      → actor_step w a s now (record { event = e; with = g }) ≡ Some t → moment_after m e ≡ m
  still a s now m (event.Move k) g t other is =
      absurd (none-some t (sym (ap (when (has_actor w a)) (no_move a s now k g other) ∙ when_none (has_actor w a)) ∙ is))
  still a s now m e g t other is = refl

  -- what is ready elsewhere than at the clock is no move
  pub never_moves : (a : ActorName) (s : Actor) (now : ℕ) (work : Work) (t : Step Actor) (ts : Tasks) (net : Net) → same_actor a name.Clock ≡ false
      → actor_step w a s now work ≡ Some t → IsInTimeBy ts net w work.event
  never_moves a s now work t ts net other is = by_event work.event work.with is
    where
      by_event : (e : Event) (g : With) → actor_step w a s now (record { event = e; with = g }) ≡ Some t → IsInTimeBy ts net w e
      by_event (event.Move k) g is = absurd (none-some t (sym (ap (when (has_actor w a)) (no_move a s now k g other) ∙ when_none (has_actor w a)) ∙ is))
      by_event e g is = tt

  pub moment_same : (net : Net) (x : Noted) (s : Step Actor) → x.entry.event ≡ x.work.event → step_by w net x ≡ Some s
      → moment_by net.moment x ≡ moment_after net.moment x.entry.event
  moment_same net x s e step = by_clock (same_actor x.entry.actor name.Clock) refl
    where
      by_clock : (b : Bool) → same_actor x.entry.actor name.Clock ≡ b
          → (if b then moment_after net.moment x.entry.event else net.moment) ≡ moment_after net.moment x.entry.event
      by_clock true is = refl
      by_clock false is = sym (ap (moment_after net.moment) e
          ∙ still x.entry.actor (net.actors x.entry.actor) x.entry.moment net.moment x.work.event x.work.with s is step)
