-- The numbers of refusals.
use Rattle.std.specs.Prelude.{ℕ}
use Rattle.net_tree.specs.declared.fault.TreeError.{TreeError}
use Rattle.net_tree.specs.declared.fault.TreeError.TheVariants.{NoFile, BadMode, BadFid, Memory}

-- the number of a refusal, and 0 for want of memory
abbrev pub tree_fault_number : TreeError → ℕ
tree_fault_number NoFile = 1
tree_fault_number BadMode = 2
tree_fault_number BadFid = 3
tree_fault_number Memory = 0
