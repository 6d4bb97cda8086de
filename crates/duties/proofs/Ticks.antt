-- The ticks by due moments are those of the definitions.
use Rattle.std.proofs.Common.{◌≡◌, ℕ, List, [], ◌∷◌, ◌++◌, length, map, flat_map, filter_map, Option, Some, None, append-nil, refl, sym, ap, subst, ◌∙◌}
use Rattle.std.specs.List.{range_with_len}
use Rattle.std.proofs.lemmas.Grind.{flat_map-append}
use Rattle.std.proofs.lemmas.List.Elements.{filter_map-append}
use Rattle.std.proofs.lemmas.Option.{none-some, same_Some}
use Rattle.net_base.specs.declared.actor.ActorName.{ActorName}
use Rattle.net_base.specs.declared.actor.ActorName.TheVariants as name
use Rattle.net_base.specs.declared.address.Proto.{Proto}
use Rattle.net_base.specs.declared.address.Proto.TheVariants as proto
use Rattle.net_base.specs.declared.event.Event.TheVariants as event
use Rattle.net_base.specs.declared.history.With.{With}
use Rattle.net_base.specs.declared.world.World.{World}
use Rattle.net_base.specs.ActorStep.{Step}
use Rattle.net_base.specs.Actors.{Actor, IsPlain, actor_step, has_actor, slot_count, table_step}
use Rattle.net_base.specs.Duties.{Duty, due_of, duties, generation_of, slots_of, tick_at, owed_ticks}
use Rattle.duties.proofs.Ends.{given_when}
use Rattle.duties.specs.Ticking.{due_at, dues_of, tick_of, ticks_of}

module _ (actors : ActorName → Actor) (s now : ℕ) where
  -- of these conversations, by either
  abbrev by_dues : List ActorName → List Duty
  by_dues xs = ticks_of s now (filter_map (due_at actors) xs)

  abbrev by_actors : List ActorName → List Duty
  by_actors xs = flat_map (tick_at actors s now) xs

  one : (h : ℕ) (p : Proto) (n : ℕ) (xs : List ActorName) (o : Option ℕ) → due_of (actors (name.Conv h p n)) ≡ o → by_dues xs ≡ by_actors xs
      → by_dues (name.Conv h p n ∷ xs) ≡ by_actors (name.Conv h p n ∷ xs)
  one h p n xs None is rest = rw is rest
  one h p n xs (Some due) is rest =
      rw is (ap (λ (ds : List Duty). tick_of s now (record { host = h; proto = p; slot = n; generation = generation_of (actors (name.Conv h p n)); due = due }) ++ ds) rest)

  of_slots : (h : ℕ) (p : Proto) (ns : List ℕ) → by_dues (map (λ (n : ℕ). name.Conv h p n) ns) ≡ by_actors (map (λ (n : ℕ). name.Conv h p n) ns)
  of_slots h p [] = refl
  of_slots h p (n ∷ ns) = one h p n (map (λ (n : ℕ). name.Conv h p n) ns) (due_of (actors (name.Conv h p n))) refl (of_slots h p ns)

  both : (xs ys : List ActorName) → by_dues xs ≡ by_actors xs → by_dues ys ≡ by_actors ys → by_dues (xs ++ ys) ≡ by_actors (xs ++ ys)
  both xs ys first second =
      ap (ticks_of s now) (filter_map-append (due_at actors) xs ys)
      ∙ (flat_map-append (tick_of s now) (filter_map (due_at actors) xs) (filter_map (due_at actors) ys)
      ∙ (ap (λ (ds : List Duty). ds ++ by_dues ys) first
      ∙ (ap (λ (ds : List Duty). by_actors xs ++ ds) second ∙ sym (flat_map-append (tick_at actors s now) xs ys))))

  of_hosts : (hs : List ℕ) → by_dues (flat_map (λ (h : ℕ). slots_of h proto.Il ++ slots_of h proto.Udp) hs) ≡ by_actors (flat_map (λ (h : ℕ). slots_of h proto.Il ++ slots_of h proto.Udp) hs)
  of_hosts [] = refl
  of_hosts (h ∷ hs) =
      both (slots_of h proto.Il ++ slots_of h proto.Udp) (flat_map (λ (h : ℕ). slots_of h proto.Il ++ slots_of h proto.Udp) hs)
      (both (slots_of h proto.Il) (slots_of h proto.Udp) (of_slots h proto.Il (range_with_len 0 slot_count)) (of_slots h proto.Udp (range_with_len 0 slot_count)))
      (of_hosts hs)

-- the ticks of a move
pub ticks_are : (w : World) (actors : ActorName → Actor) (s now : ℕ) → ticks_of s now (dues_of w actors) ≡ owed_ticks w actors name.Clock s (event.Move now)
ticks_are w actors s now = of_hosts actors s now (range_with_len 0 (length w.hosts))

plain_owes : (w : World) (actors : ActorName → Actor) (s now : ℕ) (with : With) (before : Actor) (moment : ℕ) (step : Step Actor)
    → table_step w name.Clock before moment (record { event = event.Move now; with = with }) ≡ Some step
    → duties w actors name.Clock s (record { event = event.Move now; with = with }) step ≡ owed_ticks w actors name.Clock s (event.Move now)
plain_owes w actors s now with IsPlain moment step gives =
    subst (λ (t : Step Actor). duties w actors name.Clock s (record { event = event.Move now; with = with }) t ≡ owed_ticks w actors name.Clock s (event.Move now))
    (same_Some _ step gives) (append-nil (owed_ticks w actors name.Clock s (event.Move now)))
plain_owes w actors s now with _ moment step gives = absurd (none-some step gives)

-- a move owes its ticks alone
pub move_owes : (w : World) (actors : ActorName → Actor) (s now : ℕ) (with : With) (before : Actor) (moment : ℕ) (step : Step Actor)
    → actor_step w name.Clock before moment (record { event = event.Move now; with = with }) ≡ Some step
    → duties w actors name.Clock s (record { event = event.Move now; with = with }) step ≡ owed_ticks w actors name.Clock s (event.Move now)
move_owes w actors s now with before moment step gives =
    plain_owes w actors s now with before moment step (given_when (has_actor w name.Clock) _ step gives)
