use Rattle.std.proofs.Common.{◌≡◌, ◌+◌, length, take}
use Rattle.net_import.specs.Marks.{marks}
use Rattle.net_import.proofs.remotes.taken_fids.Given as goal

-- the fids of the remote files before this one are marked
abbrev pub invariant-loop-remote : goal.invariant-loop-remote
invariant-loop-remote l = l.taken.items ≡ marks (take l.remote-index l.remotes) l.call (length l.remotes + 1)
