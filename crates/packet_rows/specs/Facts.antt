-- What rows need of a whole history: the copies of each frame, the first of equal messages, the first id of each sender, and which
-- conversation has a pair.
use Rattle.std.specs.Prelude.{ℕ, ◌+◌, ◌-◌, ◌%◌, ◌^◌, ◌==◌, ◌&&◌, Bool, false, List, [], ◌∷◌, ◌++◌, Option, Some, None, is_some, unwrap_or, if◌then◌else◌}
use Rattle.std.specs.Map.{lookup}
use Rattle.indexmap.specs.IndexMap.{insert_entry}
use Rattle.net_base.specs.declared.actor.ActorName.{ActorName}
use Rattle.net_base.specs.declared.actor.ActorName.TheVariants as name
use Rattle.net_base.specs.declared.address.Addr.{Addr}
use Rattle.net_base.specs.declared.address.Pair.{Pair}
use Rattle.net_base.specs.declared.address.Proto.{Proto}
use Rattle.net_base.specs.declared.address.Proto.TheVariants as proto
use Rattle.net_base.specs.declared.event.Event.{Event}
use Rattle.net_base.specs.declared.event.Event.TheVariants as event
use Rattle.net_base.specs.declared.history.Entry.{Entry}
use Rattle.net_base.specs.declared.il.IlKind.{IlKind}
use Rattle.net_base.specs.declared.il.IlKind.TheVariants as kind
use Rattle.net_base.specs.declared.packet.BodyHeader.{BodyHeader}
use Rattle.net_base.specs.declared.packet.BodyHeader.TheVariants as body
use Rattle.net_base.specs.declared.packet.Header.{Header}
use Rattle.net_base.specs.declared.reply.Reply.{Reply}
use Rattle.net_base.specs.declared.reply.Reply.TheVariants as reply
use Rattle.packet_rows.specs.declared.deed.Deed.{Deed}
use Rattle.packet_rows.specs.declared.deed.Deed.TheVariants.{Put, Took, Sent, Nothing}
use Rattle.packet_rows.specs.declared.facts.Talk.{Talk}
use Rattle.packet_rows.specs.declared.frame.Passage.{Passage}
use Rattle.packet_rows.specs.Deeds.{deed_of}
use Rattle.packet_rows.specs.Passages.{same_two}

-- Keys.

-- where a packet comes from, and where it goes: an IP address and a port each
abbrev pub Places : Type 0
Places = (ℕ × ℕ) × (ℕ × ℕ)

abbrev pub same_places : Places → Places → Bool
same_places a b = same_two a.0 b.0 && same_two a.1 b.1

-- a message: between which places, and its type and its id
abbrev pub Message : Type 0
Message = Places × (ℕ × ℕ)

abbrev pub same_message : Message → Message → Bool
same_message a b = same_places a.0 b.0 && same_two a.1 b.1

-- a pair of a protocol
abbrev pub Holding : Type 0
Holding = Places × ℕ

abbrev pub same_holding : Holding → Holding → Bool
same_holding a b = same_places a.0 b.0 && (a.1 == b.1)

abbrev pub place_of : Addr → ℕ × ℕ
place_of a = (a.ip, a.port)

abbrev pub between : Addr → Addr → Places
between a b = (place_of a, place_of b)

abbrev pub proto_number : Proto → ℕ
proto_number proto.Il = 40
proto_number proto.Udp = 17

abbrev pub proto_in : BodyHeader → Proto
proto_in (body.Il k spec id ack length) = proto.Il
proto_in (body.Udp length) = proto.Udp

-- the type of a message that is sent again where nothing answers it; a dataquery counts as data
abbrev pub type_again : IlKind → Option ℕ
type_again kind.Sync = Some 0
type_again kind.Data = Some 1
type_again kind.DataQuery = Some 1
type_again kind.Ack = None
type_again kind.Query = None
type_again kind.State = None
type_again kind.Close = Some 6

abbrev pub message_by : Option ℕ → Places → ℕ → Option Message
message_by (Some k) places id = Some (places, (k, id))
message_by None places id = None

abbrev pub message_of : Places → BodyHeader → Option Message
message_of places (body.Il k spec id ack length) = message_by (type_again k) places id
message_of places (body.Udp length) = None

abbrev pub message_in : Header → Option Message
message_in h = message_of (between h.src h.dst) h.body

-- Facts.

pub record Facts : Type 0 where
  -- the stamps at which copies of a frame were taken, oldest first
  pub copies : List ((ℕ × ℕ) × List ℕ)
  -- the first entry that emitted a message
  pub firsts : List (Message × ℕ)
  -- the id of the first sync between two places
  pub starts : List (Places × ℕ)
  -- the conversation to which a pair was given
  pub holders : List (Holding × Talk)

abbrev pub no_facts : Facts
no_facts = record { copies = []; firsts = []; starts = []; holders = [] }

abbrev pub copies_at : List ((ℕ × ℕ) × List ℕ) → ℕ × ℕ → List ℕ
copies_at copies key = unwrap_or (lookup (same_two key) copies) []

abbrev pub with_copy : List ((ℕ × ℕ) × List ℕ) → ℕ × ℕ → ℕ → List ((ℕ × ℕ) × List ℕ)
with_copy copies key s = insert_entry same_two copies key (copies_at copies key ++ s ∷ [])

abbrev pub with_first : List (Message × ℕ) → Option Message → ℕ → List (Message × ℕ)
with_first firsts None s = firsts
with_first firsts (Some m) s = if is_some (lookup (same_message m) firsts) then firsts else insert_entry same_message firsts m s

-- the id of a sync
abbrev pub sync_id : IlKind → ℕ → Option ℕ
sync_id kind.Sync id = Some id
sync_id _ id = None

abbrev pub start_in : BodyHeader → Option ℕ
start_in (body.Il k spec id ack length) = sync_id k id
start_in (body.Udp length) = None

abbrev pub with_start_at : List (Places × ℕ) → Places → ℕ → List (Places × ℕ)
with_start_at starts places id = if is_some (lookup (same_places places) starts) then starts else insert_entry same_places starts places id

abbrev pub with_start_by : List (Places × ℕ) → Places → Option ℕ → List (Places × ℕ)
with_start_by starts places None = starts
with_start_by starts places (Some id) = with_start_at starts places id

abbrev pub with_start : List (Places × ℕ) → Header → List (Places × ℕ)
with_start starts h = with_start_by starts (between h.src h.dst) (start_in h.body)

-- the slot and the pair that a directory grants, and those that it bears from a packet
abbrev pub granted_pair : ℕ → Reply → Option (ℕ × Pair)
granted_pair n (reply.Granted pair start limit) = Some (n, pair)
granted_pair n _ = None

abbrev pub pair_of_birth : ℕ → Option Passage → Option (ℕ × Pair)
pair_of_birth n (Some p) = Some (n, record { local = p.header.dst; remote = p.header.src })
pair_of_birth n None = None

abbrev pub born_pair : Reply → Option Passage → Option (ℕ × Pair)
born_pair (reply.Born n g start limit) packet = pair_of_birth n packet
born_pair _ packet = None

abbrev pub pair_given : Event → Reply → Option Passage → Option (ℕ × Pair)
pair_given (event.Grant n g remote lport) r packet = granted_pair n r
pair_given event.Arrive r packet = born_pair r packet
pair_given _ r packet = None

-- a pair of a protocol, by its local and its remote address
abbrev pub holding : Proto → Addr → Addr → Holding
holding p local remote = (between local remote, proto_number p)

abbrev pub with_talk : List (Holding × Talk) → Holding → Talk → List (Holding × Talk)
with_talk holders key t = if is_some (lookup (same_holding key) holders) then holders else insert_entry same_holding holders key t

abbrev pub with_holder : List (Holding × Talk) → ℕ → Proto → Option (ℕ × Pair) → List (Holding × Talk)
with_holder holders h p None = holders
with_holder holders h p (Some given) = with_talk holders (holding p given.1.local given.1.remote) (record { host = h; proto = p; slot = given.0 })

abbrev pub facts_of_message : Facts → ℕ → Header → Facts
facts_of_message f s h = record f { firsts = with_first f.firsts (message_in h) s; starts = with_start f.starts h }

abbrev pub facts_by : Facts → ℕ → Deed → Facts
facts_by f s (Took m k) = record f { copies = with_copy f.copies (m, k) s }
facts_by f s (Sent from header) = facts_of_message f s header
facts_by f s (Put m to fate) = f
facts_by f s Nothing = f

abbrev pub facts_at : Facts → ActorName → Event → Reply → Option Passage → Facts
facts_at f (name.Dir h p) e r packet = record f { holders = with_holder f.holders h p (pair_given e r packet) }
facts_at f (name.Desk h) e r packet = f
facts_at f (name.Conv h p n) e r packet = f
facts_at f (name.Medium m) e r packet = f
facts_at f name.Clock e r packet = f

-- with the entry of this stamp, to which this packet was given
abbrev pub facts_with : Facts → ℕ → Entry → Option Passage → Facts
facts_with f s x packet = facts_by (facts_at f x.actor x.event x.reply packet) s (deed_of x)

-- What they say.

abbrev pub copies_of : Facts → Option (ℕ × ℕ) → List ℕ
copies_of f None = []
copies_of f (Some key) = copies_at f.copies key

abbrev pub talk_in : List (Holding × Talk) → Holding → Option Talk
talk_in holders key = lookup (same_holding key) holders

-- the conversation that has the pair of a packet's destination and source
abbrev pub peer_of : Facts → Header → Option Talk
peer_of f h = talk_in f.holders (holding (proto_in h.body) h.dst h.src)

abbrev pub first_at : List (Message × ℕ) → Option Message → Option ℕ
first_at firsts None = None
first_at firsts (Some m) = lookup (same_message m) firsts

abbrev pub first_of : Facts → Header → Option ℕ
first_of f h = first_at f.firsts (message_in h)

abbrev pub start_at : List (Places × ℕ) → Places → Option ℕ
start_at starts places = lookup (same_places places) starts

-- the distance of an id from a first one, mod 2^32
abbrev pub behind_start : ℕ → Option ℕ → Option ℕ
behind_start id None = None
behind_start id (Some start) = Some ((id + 2 ^ 32 - start) % 2 ^ 32)

abbrev pub id_in : Facts → Header → BodyHeader → Option ℕ
id_in f h (body.Il k spec id ack length) = behind_start id (start_at f.starts (between h.src h.dst))
id_in f h (body.Udp length) = None

abbrev pub relative_id : Facts → Header → Option ℕ
relative_id f h = id_in f h h.body

-- the ack of a sync that answers none is 0
abbrev pub answers_none : IlKind → ℕ → Bool
answers_none kind.Sync ack = ack == 0
answers_none _ ack = false

abbrev pub ack_in : Facts → Header → BodyHeader → Option ℕ
ack_in f h (body.Il k spec id ack length) = if answers_none k ack then None else behind_start ack (start_at f.starts (between h.dst h.src))
ack_in f h (body.Udp length) = None

abbrev pub relative_ack : Facts → Header → Option ℕ
relative_ack f h = ack_in f h h.body
