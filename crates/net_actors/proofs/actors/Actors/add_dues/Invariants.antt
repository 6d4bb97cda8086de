use Rattle.std.proofs.Common.{◌≡◌, ℕ, ◌++◌, map, filter_map}
use Rattle.std.specs.List.{range_with_len}
use Rattle.net_base.specs.declared.actor.ActorName.TheVariants as name
use Rattle.duties.specs.Ticking.{due_at}
use Rattle.net_actors.specs.Together.{state_at_actor}
use Rattle.net_actors.proofs.actors.Actors.add_dues.Given as goal

abbrev pub invariant-loop-slot : goal.invariant-loop-slot
invariant-loop-slot l =
    l.dues.items ≡ l.initial.dues.items ++ filter_map (due_at (state_at_actor l.self)) (map (λ (k : ℕ). name.Conv l.host l.proto k) (range_with_len 0 l.slot))
