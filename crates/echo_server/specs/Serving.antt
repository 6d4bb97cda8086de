-- The server: what it asks, and what a reply makes of it.
use Rattle.std.specs.Prelude.{ℕ, ◌==◌, List, [], length, Option, Some, None, codes, is_none, if◌then◌else◌}
use Rattle.net_base.specs.declared.names.FileName.TheVariants as file
use Rattle.net_base.specs.declared.reply.Reply.{Reply}
use Rattle.net_base.specs.declared.reply.Reply.TheVariants as reply
use Rattle.net_base.specs.declared.request.Request.{Request}
use Rattle.net_base.specs.declared.request.Request.TheVariants as request
use Rattle.net_base.specs.Steps.{Names, is_bound, no_names}
use Rattle.dial_lib.specs.declared.announce.Announce.{Announce}
use Rattle.dial_lib.specs.Announce as announce
use Rattle.dial_lib.specs.Beside as beside
use Rattle.echo_server.specs.declared.server.EchoServer.{EchoServer}
use Rattle.echo_server.specs.declared.server.EchoServer.TheVariants as server

abbrev pub reads_call : Request
reads_call = request.Read (codes "d") 8192

abbrev pub writes_back : List ℕ → Request
writes_back text = request.Write (codes "d") text

abbrev pub closes_echo : List ℕ → Request
closes_echo called = request.Close called

-- a server of this address that has announced nothing yet
abbrev pub begun : List ℕ → EchoServer
begun address = server.Announce (announce.begun (codes "a") address)

-- its next request; where nothing was announced, or no call was taken, there is none
abbrev pub asks : EchoServer → Names → Option Request
asks (server.Announce t) names = announce.asks t names
asks (server.Listen t) names = if is_bound names (codes "a") then beside.asks t names else None
asks (server.Accept t) names = if is_bound names (codes "c") then beside.asks t names else None
asks server.Read names = Some reads_call
asks (server.Echo text) names = Some (writes_back text)
asks server.CloseData names = Some (closes_echo (codes "d"))
asks server.CloseCall names = Some (closes_echo (codes "c"))

-- it waits for the next call
abbrev pub listening : EchoServer
listening = server.Listen (beside.begun file.Listen (codes "c") (codes "a"))

-- bytes are written as they were read; no bytes are the end of the call
abbrev pub after_text : List ℕ → EchoServer
after_text text = if length text == 0 then server.CloseData else server.Echo text

abbrev pub after_read : Reply → EchoServer
after_read (reply.Bytes bytes) = after_text bytes
after_read _ = server.CloseData

abbrev pub after_echo : Reply → EchoServer
after_echo (reply.Count n) = server.Read
after_echo _ = server.CloseData

-- it announces until that is through, which doesn't hang on the names
abbrev pub announced : Announce → EchoServer
announced t = if is_none (announce.asks t (no_names [])) then listening else server.Announce t

abbrev pub after : EchoServer → Reply → EchoServer
after (server.Announce t) r = announced (announce.after t r)
after (server.Listen t) r = server.Accept (beside.begun file.Data (codes "d") (codes "c"))
after (server.Accept t) r = server.Read
after server.Read r = after_read r
after (server.Echo text) r = after_echo r
after server.CloseData r = server.CloseCall
after server.CloseCall r = listening
