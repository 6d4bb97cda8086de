use Rattle.std.proofs.Common.{ℕ, List, ap}
use Rattle.dial_lib.proofs.Tried.{drop_more}
use Rattle.dial_lib.proofs.dial.Dial.leave_line.Goals as goal

pub returns-then-self-len : goal.returns-then-self-len
returns-then-self-len c = rw (← c.self.view_is)
    (ap (λ (xs : List (List ℕ)). record { called = c.self.inside.name; address = c.self.inside.address; phase = c.self.inside.phase; lines = xs }) (drop_more c.self.inside.tried c.self.inside.lines))
