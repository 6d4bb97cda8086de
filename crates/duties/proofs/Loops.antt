-- Loops that owe one after the other.
use Rattle.std.proofs.Common.{◌≡◌, ℕ, ◌+◌, ◌≤◌, List, ◌++◌}
use Rattle.duties.specs.Queue.{Queue}
use Rattle.net_base.specs.Duties.{Duty}

-- what was owed before, with what the rest of a loop adds, is what was owed at first with what the whole loop adds
pub record Owing (first now : Queue) (left whole : List Duty) (done most : ℕ) : Type 0 where
  pub list : now.list ++ left ≡ first.list ++ whole
  pub spent : first.room ≤ now.room + done
  pub room : most ≤ now.room + done
