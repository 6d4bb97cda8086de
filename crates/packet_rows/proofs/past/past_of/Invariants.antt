use Rattle.std.proofs.Common.{◌≡◌, drop}
use Rattle.packet_rows.specs.Past.{past_from, past_of}
use Rattle.packet_rows.proofs.past.past_of.Given as goal

-- the entries that are left make the same past
abbrev pub invariant-loop-stamp : goal.invariant-loop-stamp
invariant-loop-stamp l = past_from l.world l.entries l.past l.stamp (drop l.stamp l.entries) ≡ past_of l.world l.entries
