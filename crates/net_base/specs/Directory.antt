-- The steps of the directory of a host and protocol.
use Rattle.std.specs.Prelude.{ℕ, zero, suc, ◌+◌, ◌-◌, ◌==◌, Bool, true, false, not, ◌&&◌, List, [], ◌∷◌, ◌++◌, length, Option, Some, None, is_none, unwrap_or, slice_get, slice_set, nat_eq, nat_lt, min, if◌then◌else◌}
use Rattle.std.specs.List.{list_any}
use Rattle.std.specs.Option.{option_map_or, option_and_then}
use Rattle.net_base.specs.declared.actor.Call.{Call}
use Rattle.net_base.specs.declared.address.Addr.{Addr}
use Rattle.net_base.specs.declared.address.Pair.{Pair}
use Rattle.net_base.specs.declared.address.Proto.{Proto}
use Rattle.net_base.specs.declared.address.Proto.TheVariants as proto
use Rattle.net_base.specs.declared.event.Event.{Event}
use Rattle.net_base.specs.declared.event.Event.TheVariants as event
use Rattle.net_base.specs.declared.history.With.{With}
use Rattle.net_base.specs.declared.history.With.TheVariants as given
use Rattle.net_base.specs.declared.il.IlKind.TheVariants.{Close}
use Rattle.net_base.specs.declared.il.IlMsg.{IlMsg}
use Rattle.net_base.specs.declared.il.StateName.{StateName}
use Rattle.net_base.specs.declared.il.StateName.TheVariants as name
use Rattle.net_base.specs.declared.names.Node.TheVariants as node
use Rattle.net_base.specs.declared.packet.Body.{Body}
use Rattle.net_base.specs.declared.packet.Body.TheVariants as body
use Rattle.net_base.specs.declared.packet.Packet.{Packet}
use Rattle.net_base.specs.declared.reply.Reply.{Reply}
use Rattle.net_base.specs.declared.reply.Reply.TheVariants as reply
use Rattle.net_base.specs.declared.world.HostSpec.{HostSpec}
use Rattle.net_base.specs.declared.world.World.{World}
use Rattle.net_base.specs.ActorStep.{Step, replies, when}
use Rattle.net_base.specs.Conversation.{is_sync}
use Rattle.net_base.specs.Draws.{drawn_word}
use Rattle.net_base.specs.Mirror.{mirror}
use Rattle.net_base.specs.Paths.{names}
use Rattle.net_base.specs.Routes.{Way, way}
use Rattle.net_base.specs.Same.{same_addr, same_pair, same_option}

-- what a slot announces: any address or one, and any port or one
pub record Key : Type 0 where
  pub ip : Option ℕ
  pub port : Option ℕ

-- a slot
pub record Slot : Type 0 where
  -- Free, Reserved, Announced, Granted or Withdrawn
  pub kind : StateName
  pub generation : ℕ
  pub bound : Option ℕ
  pub key : Option Key
  pub pair : Option Pair
  -- the calls that wait, oldest first
  pub calls : List Call

-- a directory
pub record Dir : Type 0 where
  -- 32 slots
  pub slots : List Slot
  -- every pair that was ever granted or born here, in order
  pub pairs : List Pair
  -- every port that was ever drawn, bound, announced or named, each once, in order
  pub ports : List ℕ
  -- how many starts were given out
  pub starts : ℕ

-- where a directory stands
pub record Home : Type 0 where
  pub world : World
  pub host : ℕ
  pub proto : Proto

abbrev pub home_at : World → ℕ → Proto → Home
home_at w h p = record { world = w; host = h; proto = p }

abbrev pub free_slot : Slot
free_slot = record { kind = name.Free; generation = 0; bound = None; key = None; pair = None; calls = [] }

-- Slots.

abbrev pub is_free : Slot → Bool
is_free s = is_free_kind s.kind
  where
    is_free_kind : StateName → Bool
    is_free_kind name.Free = true
    is_free_kind _ = false

abbrev pub is_reserved : StateName → Bool
is_reserved name.Reserved = true
is_reserved _ = false

abbrev pub is_announced : StateName → Bool
is_announced name.Announced = true
is_announced _ = false

-- the first slot that passes, with its number, where the first of the list is slot n
abbrev pub first_slot : (Slot → Bool) → ℕ → List Slot → Option (ℕ × Slot)
first_slot test n [] = None
first_slot test n (s ∷ ss) = if test s then Some (n, s) else first_slot test (n + 1) ss

-- the numbers of the slots that are taken, where the first of the list is slot n
abbrev pub taken_from : ℕ → List Slot → List ℕ
taken_from n [] = []
taken_from n (s ∷ ss) = if is_free s then taken_from (n + 1) ss else n ∷ taken_from (n + 1) ss

-- Leaving a step.

-- the directory after a step
abbrev pub dir_leaves : Reply → Option Packet → Dir → Step Dir
dir_leaves answer emits d = record { state = d; outcome = replies answer emits }

-- nothing changes
abbrev pub dir_answers : Reply → Dir → Step Dir
dir_answers answer d = dir_leaves answer None d

-- an event at a slot, which is stale where its generation isn't the slot's; none for a slot above 31
abbrev pub in_found_slot : Option Slot → ℕ → Dir → (Slot → Step Dir) → Option (Step Dir)
in_found_slot None g d step = None
in_found_slot (Some s) g d step = Some (if s.generation == g then step s else dir_answers reply.Stale d)

abbrev pub in_slot : ℕ → ℕ → Dir → (Slot → Step Dir) → Option (Step Dir)
in_slot n g d step = in_found_slot (slice_get d.slots n) g d step

-- Reserve: the lowest free slot; noslot where all are taken.

abbrev pub reserves : Option (ℕ × Slot) → Dir → Step Dir
reserves None d = dir_answers reply.NoSlot d
reserves (Some found) d =
    dir_leaves (reply.Slot found.0 (found.1.generation + 1)) None
    (record d { slots = slice_set d.slots found.0 (record free_slot { kind = name.Reserved; generation = found.1.generation + 1 }) })

-- Starts, limits and ports.

-- the k-th start of a host, from 1: its k-th start line, and after those the next drawn word, where 0 becomes 1
abbrev pub host_start : World → ℕ → List ℕ → ℕ → ℕ
host_start w h lines k =
    if nat_lt (length lines) k
    then nonzero (drawn_word w.seed h (k - length lines))
    else unwrap_or (slice_get lines (k - 1)) 0
  where
    nonzero : ℕ → ℕ
    nonzero n = if n == 0 then 1 else n

-- the start that is given out next; 0 for UDP
abbrev pub start_of : Home → Dir → ℕ
start_of at d = start_for at.proto at.world at.host d.starts
  where
    start_for : Proto → World → ℕ → ℕ → ℕ
    start_for proto.Il w h given = host_start w h (option_map_or (λ (s : HostSpec). s.starts) (slice_get w.hosts h) []) (given + 1)
    start_for proto.Udp w h given = 0

-- how many starts are then given out; none for UDP
abbrev pub starts_after : Proto → ℕ → ℕ
starts_after proto.Il n = n + 1
starts_after proto.Udp n = n

-- the longest message over a way of this mtu
abbrev pub limit_of : Proto → ℕ → ℕ
limit_of proto.Il mtu = min 8192 (mtu - 38)
limit_of proto.Udp mtu = min 8192 (mtu - 28)

-- the least port from here on that isn't used, among so many
abbrev pub drawn_port : ℕ → ℕ → List ℕ → Option ℕ
drawn_port zero port used = None
drawn_port (suc n) port used = if list_any (nat_eq port) used then drawn_port n (port + 1) used else Some port

-- the ports that are used, with one more
abbrev pub with_port : ℕ → List ℕ → List ℕ
with_port port used = if list_any (nat_eq port) used then used else used ++ port ∷ []

-- the port that was named, or the bound one, or a drawn one, from 5000 to 65535
abbrev pub port_for : Option ℕ → Option ℕ → Dir → Option ℕ
port_for (Some port) bound d = Some port
port_for None (Some port) d = Some port
port_for None None d = drawn_port 60536 5000 d.ports

-- the place of a pair among those that were ever granted or born, where the first of the list has place k
abbrev pub pair_place : Pair → ℕ → List Pair → Option ℕ
pair_place p k [] = None
pair_place p k (q ∷ qs) = if same_pair p q then Some k else pair_place p (k + 1) qs

-- Grant: wrong, noroute, noport, selfpair, pairused, in this order.

-- the slot is Granted with the pair; pairused where it was granted or born before
abbrev pub grants_pair : Option ℕ → Home → ℕ → Slot → Pair → ℕ → Dir → Step Dir
grants_pair (Some k) at n s pair mtu d = dir_answers (reply.PairUsed k) d
grants_pair None at n s pair mtu d =
    dir_leaves (reply.Granted pair (start_of at d) (limit_of at.proto mtu)) None
    (record d {
      slots = slice_set d.slots n (record s { kind = name.Granted; pair = Some pair });
      pairs = d.pairs ++ pair ∷ [];
      ports = with_port pair.local.port d.ports;
      starts = starts_after at.proto d.starts;
    })

-- by this way, if there is one, and from this port, if there is one
abbrev pub grants_by : Option Way → Option ℕ → Home → ℕ → Slot → Addr → Dir → Step Dir
grants_by None port at n s remote d = dir_answers reply.NoRoute d
grants_by (Some out) None at n s remote d = dir_answers reply.NoPort d
grants_by (Some out) (Some port) at n s remote d =
    let pair : Pair = record { local = record { ip = out.source; port = port }; remote = remote } in
    if same_addr pair.local remote
    then dir_answers reply.SelfPair d
    else grants_pair (pair_place pair 1 d.pairs) at n s pair out.mtu d

-- of a Reserved slot
abbrev pub grants : Home → ℕ → Addr → Option ℕ → Dir → Slot → Step Dir
grants at n remote port d s =
    if is_reserved s.kind
    then grants_by (way at.world at.host remote.ip) (port_for port s.bound d) at n s remote d
    else dir_answers (reply.WrongState s.kind) d

-- Announce and bind.

-- the slot announces this
abbrev pub same_key : Key → Key → Bool
same_key a b = same_option a.ip b.ip && same_option a.port b.port

abbrev pub is_keyed : Key → Slot → Bool
is_keyed k s = is_announced s.kind && option_map_or (same_key k) s.key false

-- the live slot is bound to the port
abbrev pub is_slot_bound : ℕ → Slot → Bool
is_slot_bound port s = not (is_free s) && same_option s.bound (Some port)

-- the slot changes and the ports with it; taken where a slot has what it asks for
abbrev pub gets : Option (ℕ × Slot) → ℕ → Slot → List ℕ → Dir → Step Dir
gets (Some holder) n new ports d = dir_answers (reply.PortTaken holder.0) d
gets None n new ports d = dir_leaves reply.Ok None (record d { slots = slice_set d.slots n new; ports = ports })

abbrev pub ports_with : Option ℕ → List ℕ → List ℕ
ports_with None ports = ports
ports_with (Some port) ports = with_port port ports

-- a Reserved slot becomes Announced
abbrev pub announces : ℕ → Option ℕ → Option ℕ → Dir → Slot → Step Dir
announces n ip port d s =
    let key : Key = record { ip = ip; port = port } in
    if is_reserved s.kind
    then gets (first_slot (is_keyed key) 0 d.slots) n (record s { kind = name.Announced; key = Some key }) (ports_with port d.ports) d
    else dir_answers (reply.WrongState s.kind) d

-- a Reserved slot is bound to the port
abbrev pub slot_binds : ℕ → ℕ → Dir → Slot → Step Dir
slot_binds n port d s =
    if is_reserved s.kind
    then gets (first_slot (is_slot_bound port) 0 d.slots) n (record s { bound = Some port }) (with_port port d.ports) d
    else dir_answers (reply.WrongState s.kind) d

-- Listen: the oldest call of an Announced slot, once there is one; nofile where the slot is Free.

abbrev pub next_call : List Call → ℕ → Dir → Slot → Option (Step Dir)
next_call [] n d s = None
next_call (c ∷ calls) n d s = Some (dir_leaves (reply.Call c.slot c.generation) None (record d { slots = slice_set d.slots n (record s { calls = calls }) }))

abbrev pub listens_at : StateName → ℕ → Dir → Slot → Option (Step Dir)
listens_at name.Announced n d s = next_call s.calls n d s
listens_at name.Free n d s = Some (dir_answers reply.NoFile d)
listens_at kind n d s = Some (dir_answers (reply.WrongState kind) d)

-- none for a slot above 31
abbrev pub slot_listens : Option Slot → ℕ → Dir → Option (Step Dir)
slot_listens None n d = None
slot_listens (Some s) n d = listens_at s.kind n d s

-- Withdraw and release: the waiting calls, oldest first.

-- the slot is Withdrawn
abbrev pub withdraws : ℕ → Dir → Slot → Step Dir
withdraws n d s = dir_leaves (reply.Calls s.calls) None (record d { slots = slice_set d.slots n (record s { kind = name.Withdrawn; calls = [] }) })

-- the slot is Free
abbrev pub frees : ℕ → Dir → Slot → Step Dir
frees n d s = dir_leaves (reply.Calls s.calls) None (record d { slots = slice_set d.slots n (record free_slot { generation = s.generation }) })

-- Arrive.

-- how much of an address an announcement names
pub data Match : Type 0 where
  -- the address and the port
  Exactly : Match
  -- `*` and the port
  ByPort : Match
  -- `*` alone
  ByAny : Match

-- what is announced for this address in this way
abbrev pub key_at : Match → Addr → Key
key_at Exactly a = record { ip = Some a.ip; port = Some a.port }
key_at ByPort a = record { ip = None; port = Some a.port }
key_at ByAny a = record { ip = None; port = None }

abbrev pub or_else : {A : Type 0} → Option A → Option A → Option A
or_else (Some x) other = Some x
or_else None other = other

-- the announcing slot that matches: first by address and port, then by `*` and the port, then by `*` alone
abbrev pub match_of : Addr → List Slot → Option (ℕ × Slot)
match_of a slots =
    or_else (first_slot (is_keyed (key_at Exactly a)) 0 slots)
    (or_else (first_slot (is_keyed (key_at ByPort a)) 0 slots) (first_slot (is_keyed (key_at ByAny a)) 0 slots))

-- UDP, or an IL sync with ack 0
abbrev pub is_first_packet : Body → Bool
is_first_packet (body.Udp text) = true
is_first_packet (body.Il m) = is_sync m.kind && (m.ack == 0)

-- who takes a packet that no slot has: a free slot becomes its own, and its call waits at the listener
pub record Taker : Type 0 where
  pub free : ℕ × Slot
  pub listener : ℕ × Slot

-- the pair was never granted or born here and isn't its own mirror, the packet may bear, and fewer than 10 calls wait at the listener
abbrev pub may_take : Pair → Packet → Slot → Dir → Bool
may_take pair packet listener d =
    is_none (pair_place pair 1 d.pairs)
    && (not (same_pair pair (mirror pair))
    && (is_first_packet packet.body
    && nat_lt (length listener.calls) 10))

-- the taker, where a slot is free and an announcement matches whose slot may take the packet
abbrev pub taker_of : Pair → Packet → Dir → Option Taker
taker_of pair packet d =
    option_and_then (λ (free : ℕ × Slot). option_and_then (λ (listener : ℕ × Slot).
    if may_take pair packet listener.1 d
    then Some (record { free = free; listener = listener })
    else None)
    (match_of packet.dst d.slots)) (first_slot is_free 0 d.slots)

-- the longest message to the pair's remote address; 8,192 without a way
abbrev pub limit_to : Option Way → Proto → ℕ
limit_to (Some out) p = limit_of p out.mtu
limit_to None p = 8192

-- the lowest free slot is Granted, and its call waits at the listener
abbrev pub bears : Home → Pair → Taker → Dir → Step Dir
bears at pair t d =
    let generation : ℕ = t.free.1.generation + 1 in
    dir_leaves (reply.Born t.free.0 generation (start_of at d) (limit_to (way at.world at.host pair.remote.ip) at.proto)) None
    (record d {
      slots =
          slice_set
          (slice_set d.slots t.free.0 (record free_slot { kind = name.Granted; generation = generation; pair = Some pair }))
          t.listener.0
          (record t.listener.1 { calls = t.listener.1.calls ++ record { slot = t.free.0; generation = generation } ∷ [] });
      pairs = d.pairs ++ pair ∷ [];
      starts = starts_after at.proto d.starts;
    })

-- a close with spec 1, the sync's ack as id and the sync's id as ack
abbrev pub refusal : IlMsg → Packet → Packet
refusal m packet =
    record { src = packet.dst; dst = packet.src; ttl = 255; tos = 0; body = body.Il (record { kind = Close; spec = 1; id = m.ack; ack = m.id; text = [] }) }

-- an IL sync is refused, and all else is dropped
abbrev pub refused_or_dropped : Body → Packet → Dir → Step Dir
refused_or_dropped (body.Il m) packet d =
    if is_sync m.kind then dir_leaves reply.Refused (Some (refusal m packet)) d else dir_answers reply.Dropped d
refused_or_dropped (body.Udp text) packet d = dir_answers reply.Dropped d

-- with the taker, if there is one
abbrev pub born_or_not : Option Taker → Home → Pair → Packet → Dir → Step Dir
born_or_not (Some t) at pair packet d = bears at pair t d
born_or_not None at pair packet d = refused_or_dropped packet.body packet d

-- with the live slot that has the pair, if there is one
abbrev pub arrives_at : Option (ℕ × Slot) → Home → Pair → Packet → Dir → Step Dir
arrives_at (Some found) at pair packet d = dir_answers (reply.To found.0 found.1.generation) d
arrives_at None at pair packet d = born_or_not (taker_of pair packet d) at pair packet d

abbrev pub is_live_with : Pair → Slot → Bool
is_live_with pair s = not (is_free s) && option_map_or (same_pair pair) s.pair false

-- the pair of a packet that comes is its destination and its source
abbrev pub packet_pair : Packet → Pair
packet_pair packet = record { local = packet.dst; remote = packet.src }

-- the packet is of the protocol
abbrev pub is_of : Proto → Body → Bool
is_of proto.Il (body.Il m) = true
is_of proto.Udp (body.Udp text) = true
is_of _ _ = false

-- the table of the directory of a host and protocol; none where no row answers
abbrev pub dir_step : World → ℕ → Proto → Event → With → Dir → Option (Step Dir)
dir_step w h p event.Reserve with d = Some (reserves (first_slot is_free 0 d.slots) d)
dir_step w h p (event.Grant n g remote port) with d = in_slot n g d (grants (home_at w h p) n remote port d)
dir_step w h p (event.Announce n g ip port) with d = in_slot n g d (announces n ip port d)
dir_step w h p (event.Bind n g port) with d = in_slot n g d (slot_binds n port d)
dir_step w h p (event.Listen n) with d = slot_listens (slice_get d.slots n) n d
dir_step w h p (event.Withdraw n g) with d = in_slot n g d (withdraws n d)
dir_step w h p (event.Release n g) with d = in_slot n g d (frees n d)
dir_step w h p event.Arrive (given.Packet packet) d =
    when (is_of p packet.body)
    (Some (arrives_at (first_slot (is_live_with (packet_pair packet)) 0 d.slots) (home_at w h p) (packet_pair packet) packet d))
dir_step w h p event.Ls with d = Some (dir_answers (reply.Names (names (node.Proto p) (taken_from 0 d.slots))) d)
dir_step w h p _ _ d = None
