-- A client: what it asks, and what a reply makes of it.
use Rattle.std.specs.Prelude.{ℕ, ◌+◌, Bool, true, false, List, [], length, Option, Some, None, codes, is_none, slice_get, bytes_eq, nat_le, if◌then◌else◌}
use Rattle.std.specs.Option.{option_map}
use Rattle.net_base.specs.declared.reply.Reply.{Reply}
use Rattle.net_base.specs.declared.reply.Reply.TheVariants as reply
use Rattle.net_base.specs.declared.request.Request.{Request}
use Rattle.net_base.specs.declared.request.Request.TheVariants as request
use Rattle.net_base.specs.Steps.{Names, is_bound, no_names}
use Rattle.dial_lib.specs.Dials as dial
use Rattle.echo_server.specs.declared.client.EchoClient.{EchoClient}
use Rattle.echo_server.specs.declared.client.Stage.{Stage}
use Rattle.echo_server.specs.declared.client.Stage.TheVariants as stage
use Rattle.echo_server.specs.Serving.{closes_echo, reads_call, writes_back}

-- a client of this address, with these messages, that has asked for nothing yet
abbrev pub begun : List ℕ → List (List ℕ) → EchoClient
begun address messages = record { stage = stage.Wait; dial = dial.begun (codes "d") address; messages = messages; echoed = 0 }

-- what it sends next
abbrev pub sent_next : EchoClient → Option (List ℕ)
sent_next c = slice_get c.messages c.echoed

-- where nobody answered, or all is closed, nothing more is asked
abbrev pub asks_at : Stage → EchoClient → Names → Option Request
asks_at stage.Wait c names = Some (request.Until 10)
asks_at stage.Dial c names = dial.asks c.dial names
asks_at stage.Write c names = if is_bound names (codes "d") then option_map writes_back (sent_next c) else None
asks_at stage.Read c names = Some reads_call
asks_at stage.Close c names = if is_bound names (codes "d") then Some (closes_echo (codes "d")) else None

abbrev pub asks : EchoClient → Names → Option Request
asks c names = asks_at c.stage c names

abbrev pub is_well : EchoClient → Bool
is_well c = nat_le (length c.messages) c.echoed

-- the message came back
abbrev pub came_back : Option (List ℕ) → List ℕ → Bool
came_back None bytes = false
came_back (Some text) bytes = bytes_eq text bytes

abbrev pub is_echo : EchoClient → Reply → Bool
is_echo c (reply.Bytes bytes) = came_back (sent_next c) bytes
is_echo c _ = false

abbrev pub is_counted : Reply → Bool
is_counted (reply.Count n) = true
is_counted _ = false

abbrev pub at_stage : EchoClient → Stage → EchoClient
at_stage c s = record c { stage = s }

-- the next message, if there is one
abbrev pub echoed : EchoClient → EchoClient
echoed c = at_stage c (if is_well c then stage.Close else stage.Write)

abbrev pub after_at : Stage → EchoClient → Reply → EchoClient
after_at stage.Wait c r = at_stage c stage.Dial
after_at stage.Dial c r =
    let d = dial.after c.dial r in record c { dial = d; stage = if is_none (dial.asks d (no_names [])) then stage.Write else stage.Dial }
after_at stage.Write c r = at_stage c (if is_counted r then stage.Read else stage.Close)
after_at stage.Read c r = if is_echo c r then echoed (record c { echoed = c.echoed + 1 }) else at_stage c stage.Close
after_at stage.Close c r = at_stage c stage.Close

abbrev pub after : EchoClient → Reply → EchoClient
after c r = after_at c.stage c r
