use Rattle.std.proofs.Common.{◌≡◌, drop}
use Rattle.net_base.specs.SessionFiles.{reached}
use Rattle.session_script.proofs.files.reached.Given as goal

-- the names that are left lead to where all of them do
abbrev pub invariant-loop-name : goal.invariant-loop-name
invariant-loop-name l = reached l.at (drop l.name-index l.names) ≡ reached l.fn.node l.names
