-- Which events are turns.
use Rattle.std.proofs.Common.{◌≡◌, ℕ, List, [], ◌∷◌, Some, None, refl, sym, subst}
use Rattle.net_base.specs.declared.actor.ActorName.{ActorName}
use Rattle.net_base.specs.declared.actor.ActorName.TheVariants as name
use Rattle.net_base.specs.declared.event.Event.TheVariants as event
use Rattle.net_base.specs.declared.history.With.TheVariants as given
use Rattle.net_base.specs.declared.history.Work.{Work}
use Rattle.net_base.specs.declared.world.Script.{Script}
use Rattle.net_base.specs.declared.world.World.{World}
use Rattle.net_base.specs.Callers.{Caller, IsScript, IsCourier, IsClock, caller_of}
use Rattle.net_base.specs.Duties.{Duty}
use Rattle.net_base.specs.Next.{next_recorded, next_of}
use Rattle.journal.specs.declared.tokens.Sight.{Sight}
use Rattle.locked.specs.Acts.{made}
use Rattle.net_locks.specs.Works.{entries}
use Rattle.net_locks.specs.Own.{IsAskedButOfScripts}
use Rattle.net_locks.specs.Guests.{IsGuestTurn}

-- any event of a script that owes nothing
pub script_turn : (w : World) (c : ℕ) (p : Sight) (s : Script) (a : ActorName) (work : Work) → caller_of w c ≡ IsScript s → work.with ≡ given.Nothing
    → IsGuestTurn w c p [] a work None
script_turn w c p s a work is nothing = record {
  given = nothing;
  cites_it = refl;
  asked = λ now o. subst (λ (k : Caller). IsAskedButOfScripts [] k (next_recorded w (entries p.seen) c) (made a c now work None o).entry) (sym is) tt;
}

-- the first duty
pub duty_turn : (w : World) (c : ℕ) (p : Sight) (d : Duty) (ds : List Duty)
    → IsGuestTurn w c p (d ∷ ds) d.actor (record { event = d.event; with = d.with }) (Some d.cites)
duty_turn w c p d ds = record { given = refl; cites_it = refl; asked = λ now o. refl }

-- a copy that a courier takes of its medium
pub courier_turn : (w : World) (c : ℕ) (p : Sight) (m : ℕ) → caller_of w c ≡ IsCourier m
    → IsGuestTurn w c p [] (name.Medium m) (record { event = event.Take; with = given.Nothing }) None
courier_turn w c p m is = record {
  given = refl;
  cites_it = refl;
  asked = λ now o. subst (λ (k : Caller). IsAskedButOfScripts [] k (next_of w k (entries p.seen) c)
      (made (name.Medium m) c now (record { event = event.Take; with = given.Nothing }) None o).entry) (sym is) refl;
}

-- a move of the clock
pub clock_turn : (w : World) (c : ℕ) (p : Sight) (m : ℕ) → caller_of w c ≡ IsClock
    → IsGuestTurn w c p [] name.Clock (record { event = event.Move m; with = given.Nothing }) None
clock_turn w c p m is = record {
  given = refl;
  cites_it = refl;
  asked = λ now o. subst (λ (k : Caller). IsAskedButOfScripts [] k (next_recorded w (entries p.seen) c)
      (made name.Clock c now (record { event = event.Move m; with = given.Nothing }) None o).entry) (sym is) tt;
}
