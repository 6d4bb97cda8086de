use Rattle.std.proofs.Common.{◌≡◌}
use Rattle.net_base.specs.Addresses.{parts_at}
use Rattle.world_words.proofs.RemotePaths.{are_few}
use Rattle.world_words.proofs.remote_paths.are_few_names.Given as goal

-- with the names so far, those that are left decide it
abbrev pub invariant-loop-i : goal.invariant-loop-i
invariant-loop-i l = are_few 0 (parts_at 47 l.names) ≡ are_few l._i (parts_at 47 l.rest)
