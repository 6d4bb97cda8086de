-- The tasks that a run is given: the server, and clients that call it.
use Rattle.std.specs.Prelude.{ℕ, zero, suc, ◌==◌, List, [], ◌∷◌, ◌++◌, length, Option, Some, codes, if◌then◌else◌}
use Rattle.net_base.specs.declared.history.Entry.{Entry}
use Rattle.net_base.specs.declared.world.World.{World}
use Rattle.agenda.specs.Given.{AskInOrder}
use Rattle.played_task.specs.declared.either.EitherTask.{EitherTask}
use Rattle.played_task.specs.declared.either.EitherTask.TheVariants as either
use Rattle.played_task.specs.Eithers as eithers
use Rattle.echo_server.specs.declared.client.EchoClient.{EchoClient}
use Rattle.echo_server.specs.declared.server.EchoServer.{EchoServer}
use Rattle.echo_server.specs.Calling as client
use Rattle.echo_server.specs.Serving as server
use Rattle.echo_server.specs.Echoes.{sent}

-- the server in the first place, and a client in each other
abbrev pub task_given : ℕ → EitherTask EchoServer EchoClient
task_given place = if place == 0 then either.One (server.begun (codes "net!*!echo")) else either.Other (client.begun (codes "net!helix!echo") sent)

-- those of so many places
abbrev pub tasks_given : ℕ → List (Option (EitherTask EchoServer EchoClient))
tasks_given zero = []
tasks_given (suc n) = tasks_given n ++ Some (task_given n) ∷ []

-- what is recorded in the place of each script of a world is what these tasks ask, in order
abbrev pub AskAs : List (Option (EitherTask EchoServer EchoClient)) → World → List Entry → Type 0
AskAs given w h = AskInOrder (eithers.asks server.asks client.asks) (eithers.after server.after client.after) w given h

-- and so where the server and the clients are given
abbrev pub AskAsGiven : World → List Entry → Type 0
AskAsGiven w h = AskAs (tasks_given (length w.scripts)) w h
