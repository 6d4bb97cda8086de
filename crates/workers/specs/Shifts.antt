-- What a worker counts: its rounds that recorded something, of how many of them the others know nothing, and its waits.
use Rattle.std.specs.Prelude.{ℕ, ◌+◌, ◌*◌, ◌<◌, ◌≤◌, min}
use Rattle.workers.specs.declared.crew.Shift.{Shift}

-- a number of rounds that counts as many
abbrev pub many_rounds : ℕ
many_rounds = 64

-- a number of waits by which it is judged
abbrev pub many_waits : ℕ
many_waits = 8

-- a round or a wait more
abbrev pub one_more : ℕ → ℕ
one_more rounds = min (rounds + 1) 4294967295

-- the others know nothing of it
abbrev pub untold_round : Shift → Shift
untold_round s = record s { all = one_more s.all; untold = one_more s.untold }

-- a worker waits for others most of the time: many times, and after fewer than four rounds on the average
abbrev pub WaitsMuch : Shift → Type 0
WaitsMuch s = (many_waits ≤ s.waits) × (s.all < 4 * s.waits)

-- it had many rounds, and at least four of them for each wait
abbrev pub IsBusy : Shift → Type 0
IsBusy s = (many_rounds ≤ s.all) × (4 * s.waits ≤ s.all)
