use Rattle.std.proofs.Common.{◌≡◌, ℕ, ◌<◌, Bool, [], None, length, vec_len}
use Rattle.net_base.specs.declared.world.World.{World}
use Rattle.turn_orders.specs.Orders.{too_many}
use Rattle.order_search.specs.Choices.{AreForks}
use Rattle.order_search.proofs.Forking.{IsBack}
use Rattle.order_search.proofs.path.Path.go_back.Given as goal

abbrev pub invariant-loop-fork : goal.invariant-loop-fork
invariant-loop-fork l =
    (w : World) (p : ℕ) (r : Bool) → AreForks w [] p r l.initial.self.forks.items → l.initial.self.pending ≡ None
    → length l.initial.self.forks.items < too_many → IsBack w p r l.initial.self l.self

abbrev pub decreases-loop-fork : goal.decreases-loop-fork
decreases-loop-fork l = vec_len l.self.forks
