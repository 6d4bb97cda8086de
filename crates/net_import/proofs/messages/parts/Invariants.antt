use Rattle.std.proofs.Common.{◌≡◌, ◌++◌, length}
use Rattle.net_base.specs.Addresses.{parts_at}
use Rattle.net_import.proofs.messages.parts.Given as goal

-- the parts so far stand before those of what is left
abbrev pub invariant-loop-names : goal.invariant-loop-names
invariant-loop-names l = l.names ++ parts_at 47 l.rest ≡ parts_at 47 l.text

abbrev pub decreases-loop-names : goal.decreases-loop-names
decreases-loop-names l = length (parts_at 47 l.rest)
