use Rattle.std.proofs.Common.{◌≡◌, ◌-◌}
use Rattle.net_base.specs.NinepReading.{counted_at, list_at}
use Rattle.ninep_wire.proofs.Loop.{with_front}
use Rattle.ninep_wire.proofs.fields.strings_in.Given as goal

abbrev pub invariant-loop : goal.invariant-loop
invariant-loop l = with_front l.texts (list_at (counted_at 2) (l.count - l.counter) l.rest) ≡ list_at (counted_at 2) l.count l.bytes
