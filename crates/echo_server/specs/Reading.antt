-- What the clients of a run have read.
use Rattle.std.specs.Prelude.{◌≡◌, ℕ, Bool, true, false, List, Option, Some}
use Rattle.net_base.specs.declared.history.Entry.{Entry}
use Rattle.net_base.specs.Next.{own_replies}
use Rattle.agenda.specs.Given.{task_at}
use Rattle.played_task.specs.declared.either.EitherTask.{EitherTask}
use Rattle.played_task.specs.declared.either.EitherTask.TheVariants as either
use Rattle.echo_server.specs.declared.client.EchoClient.{EchoClient}
use Rattle.echo_server.specs.declared.server.EchoServer.{EchoServer}
use Rattle.echo_server.specs.Calling.{is_well}
use Rattle.echo_server.specs.Echoes.{AreEchoesAmong, echo_texts, sent}

-- a client read what it wrote
abbrev pub is_well_client : Option (EitherTask EchoServer EchoClient) → Bool
is_well_client (Some (either.Other client)) = is_well client
is_well_client _ = false

-- each client that ended well has read what it was to send, in order, in the replies to its own entries
abbrev pub HaveRead : List Entry → List (Option (EitherTask EchoServer EchoClient)) → Type 0
HaveRead h tasks =
    (c : ℕ) (client : EchoClient) → task_at tasks c ≡ Some (either.Other client) → is_well client ≡ true
    → AreEchoesAmong sent (echo_texts (own_replies h c))
