-- A message that came back is one of those that were sent.
use Rattle.std.proofs.Common.{◌≡◌, ◌<◌, ℕ, true, List, length, Option, Some, None, refl, sym}
use Rattle.std.proofs.lemmas.Bool.{true≢false}
use Rattle.std.proofs.lemmas.Option.{slice_get_within}
use Rattle.net_base.specs.declared.reply.Reply.{Reply}
use Rattle.net_base.specs.declared.reply.Reply.TheVariants as reply
use Rattle.echo_server.specs.declared.client.EchoClient.{EchoClient}
use Rattle.echo_server.specs.Calling.{is_echo, came_back, sent_next}

by_message : (c : EchoClient) (bytes : List ℕ) (o : Option (List ℕ)) → sent_next c ≡ o → came_back o bytes ≡ true → c.echoed < length c.messages
by_message c bytes None at is = absurd (true≢false (sym is))
by_message c bytes (Some text) at is = slice_get_within c.messages c.echoed text at

pub echo_within : (c : EchoClient) (r : Reply) → is_echo c r ≡ true → c.echoed < length c.messages
echo_within c (reply.Bytes bytes) is = by_message c bytes (sent_next c) refl is
echo_within c _ is = absurd (true≢false (sym is))
