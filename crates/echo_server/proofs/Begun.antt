-- What is claimed of each task holds as it is given.
use Rattle.std.proofs.Common.{◌≡◌, ℕ, zero, suc, ◌+◌, ◌==◌, Bool, true, false, List, [], ◌∷◌, ◌++◌, Option, Some, None, IfSome, codes, if◌then◌else◌, refl, subst, arith}
use Rattle.std.proofs.lemmas.Option.{none-some, same_Some}
use Rattle.agenda.specs.Given.{AreBegun}
use Rattle.played_task.specs.declared.either.EitherTask.{EitherTask}
use Rattle.played_task.specs.declared.either.EitherTask.TheVariants as either
use Rattle.echo_server.specs.declared.client.EchoClient.{EchoClient}
use Rattle.echo_server.specs.declared.server.EchoServer.{EchoServer}
use Rattle.echo_server.specs.Calling as client
use Rattle.echo_server.specs.Serving as server
use Rattle.echo_server.specs.Echoes.{claimed, sent}
use Rattle.echo_server.specs.Giving.{task_given, tasks_given}

abbrev EchoTask : Type 0
EchoTask = EitherTask EchoServer EchoClient

here : (x : Option EchoTask) (t : EchoTask) → IfSome x (λ (u : EchoTask). claimed u []) → x ≡ Some t → claimed t []
here None t is same = absurd (none-some t same)
here (Some u) t is same = subst (λ (v : EchoTask). claimed v []) (same_Some u t same) is

-- one more
begun_push : (xs : List (Option EchoTask)) (x : Option EchoTask) → AreBegun claimed xs → IfSome x (λ (t : EchoTask). claimed t []) → AreBegun claimed (xs ++ x ∷ [])
begun_push [] x are is zero t there = here x t is there
begun_push [] x are is (suc c) t there = absurd (none-some t there)
begun_push (y ∷ ys) x are is zero t there = are zero t there
begun_push (y ∷ ys) x are is (suc c) t there = begun_push ys x (λ d u it. are (suc d) u it) is c t there

pub given_push : (n : ℕ) → tasks_given n ++ Some (task_given n) ∷ [] ≡ tasks_given (n + 1)
given_push n =
    let one : suc n ≡ n + 1 = omega arith in
    subst (λ (k : ℕ). tasks_given (suc n) ≡ tasks_given k) one refl

begins : (place : ℕ) → claimed (task_given place) []
begins place = by_first (place == 0)
  where
    by_first : (b : Bool) → claimed (if b then either.One (server.begun (codes "net!*!echo")) else either.Other (client.begun (codes "net!helix!echo") sent)) []
    by_first true = tt
    by_first false = (refl, tt)

pub begun_given : (n : ℕ) → AreBegun claimed (tasks_given n)
begun_given zero c t there = absurd (none-some t there)
begun_given (suc n) c t there = begun_push (tasks_given n) (Some (task_given n)) (begun_given n) (begins n) c t there
