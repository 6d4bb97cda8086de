use Rattle.std.proofs.Common.{◌≡◌, length}
use Rattle.host_net.proofs.Seating.{AreEmpty}
use Rattle.host_net.proofs.players.Players.new.Given as goal

abbrev pub invariant-loop : goal.invariant-loop
invariant-loop g l = (length l.all.items ≡ l.counter) × AreEmpty l.all.items
