use Rattle.std.proofs.Common.{◌+◌, ◌≤◌, length}
use Rattle.std.specs.Prelude.{IfSome}
use Rattle.std.specs.Option.{option_map_or}
use Rattle.ndb_dns.proofs.Reading.{Follows}
use Rattle.ndb_dns.proofs.name.add_pointed.Given as goal

abbrev pub invariant-loop-next : goal.invariant-loop-next
invariant-loop-next l = record {
  follows : Follows l.bytes l.fn.target l.next l.initial.text l.text;
  within : IfSome l.next (λ place. place ≤ length l.bytes);
  short : length l.text ≤ 253;
}

abbrev pub decreases-loop-next : goal.decreases-loop-next
decreases-loop-next l = option_map_or (λ place. place + 1) l.next 0
