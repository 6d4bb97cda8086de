-- A machine that counts, for the tests: it counts each take and each move, and an await once it has counted so often.
use Rattle.std.specs.Prelude.{ℕ, ◌+◌, ◌%◌, ◌^◌, nat_lt, if◌then◌else◌, Option, Some, None}
use Rattle.net_base.specs.declared.event.Event.{Event}
use Rattle.net_base.specs.declared.event.Event.TheVariants as event
use Rattle.net_base.specs.declared.history.Work.{Work}
use Rattle.net_base.specs.declared.reply.Reply.TheVariants as reply
use Rattle.net_base.specs.ActorStep.{Step, replies}

abbrev pub step_counted : ℕ → Option (Step ℕ)
step_counted n = Some record { state = (n + 1) % 2 ^ 32; outcome = replies (reply.Count ((n + 1) % 2 ^ 32)) None }

abbrev pub count_event : ℕ → Event → Option (Step ℕ)
count_event n event.Take = step_counted n
count_event n (event.Move moment) = step_counted n
count_event n (event.Await generation) = if nat_lt n generation then None else step_counted n
count_event n _ = None

abbrev pub count_work : ℕ → Work → Option (Step ℕ)
count_work n work = count_event n work.event
