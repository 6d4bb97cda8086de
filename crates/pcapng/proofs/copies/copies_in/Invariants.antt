use Rattle.std.proofs.Common.{◌≡◌, drop}
use Rattle.pcapng.specs.Copies.{copies_from, copies_in}
use Rattle.pcapng.proofs.copies.copies_in.Given as goal

-- the entries that are left make the same copies
abbrev pub invariant-loop-entry : goal.invariant-loop-entry
invariant-loop-entry l = copies_from l.copies.entries (drop l.entry-index l.entries) ≡ copies_in l.entries
