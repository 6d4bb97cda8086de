use Rattle.std.proofs.Common.{◌≡◌, ◌-◌}
use Rattle.net_base.specs.NinepReading.{qid_at, list_at}
use Rattle.ninep_wire.proofs.Loop.{with_front}
use Rattle.ninep_wire.proofs.fields.qids_in.Given as goal

abbrev pub invariant-loop : goal.invariant-loop
invariant-loop l = with_front l.qids (list_at qid_at (l.count - l.counter) l.rest) ≡ list_at qid_at l.count l.bytes
