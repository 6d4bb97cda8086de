-- What each row of a directory's table leaves.
use Rattle.std.specs.Prelude.{◌≡◌, ℕ, ◌+◌, ◌==◌, true, false, List, [], ◌∷◌, ◌++◌, Option, Some, None, slice_get, slice_set}
use Rattle.net_base.specs.declared.actor.Call.{Call}
use Rattle.net_base.specs.declared.address.Addr.{Addr}
use Rattle.net_base.specs.declared.address.Pair.{Pair}
use Rattle.net_base.specs.declared.address.Proto.{Proto}
use Rattle.net_base.specs.declared.event.Event.{Event}
use Rattle.net_base.specs.declared.event.Event.TheVariants as event
use Rattle.net_base.specs.declared.history.With.{With}
use Rattle.net_base.specs.declared.history.With.TheVariants as given
use Rattle.net_base.specs.declared.il.IlMsg.{IlMsg}
use Rattle.net_base.specs.declared.il.StateName.TheVariants as name
use Rattle.net_base.specs.declared.names.Node.TheVariants as node
use Rattle.net_base.specs.declared.packet.Body.TheVariants as body
use Rattle.net_base.specs.declared.packet.Packet.{Packet}
use Rattle.net_base.specs.declared.reply.Reply.TheVariants as reply
use Rattle.net_base.specs.declared.world.World.{World}
use Rattle.net_base.specs.ActorStep.{Step}
use Rattle.net_base.specs.Conversation.{is_sync}
use Rattle.net_base.specs.Directory.{Dir, Slot, Taker, bears, dir_answers, dir_leaves, first_slot, free_slot, frees, home_at, is_free, is_live_with, is_of, is_reserved, limit_of, packet_pair, pair_place, port_for, ports_with, refusal, start_of, starts_after, taken_from, taker_of, with_port, withdraws}
use Rattle.net_base.specs.Paths.{names}
use Rattle.net_base.specs.Routes.{Way, way}
use Rattle.net_base.specs.Same.{same_addr}

-- the slot that an event names, with its generation
abbrev pub slot_in : Event → Option (ℕ × ℕ)
slot_in (event.Grant n g remote port) = Some (n, g)
slot_in (event.Announce n g ip port) = Some (n, g)
slot_in (event.Bind n g port) = Some (n, g)
slot_in (event.Withdraw n g) = Some (n, g)
slot_in (event.Release n g) = Some (n, g)
slot_in _ = None

-- the directory with a slot put in the place of one
abbrev pub with_slot : ℕ → Slot → Dir → Dir
with_slot n s d = record d { slots = slice_set d.slots n s }

-- the pair by this way and from this port
abbrev pub pair_by : Way → ℕ → Addr → Pair
pair_by out own remote = record { local = record { ip = out.source; port = own }; remote = remote }

-- the steps of the directory of a host and protocol: each with its event, what that is given, and where it is so
pub data DirRow (w : World) (h : ℕ) (p : Proto) (d : Dir) : Event → With → Step Dir → Type 0 where
  -- another generation
  Stale : {e : Event} {gift : With} {n g : ℕ} {s : Slot} → slot_in e ≡ Some (n, g) → slice_get d.slots n ≡ Some s → (s.generation == g) ≡ false
      → DirRow w h p d e gift (dir_answers reply.Stale d)
  -- reserve
  Full : {gift : With} → DirRow w h p d event.Reserve gift (dir_answers reply.NoSlot d)
  Reserves : {gift : With} {n : ℕ} {s : Slot} → first_slot is_free 0 d.slots ≡ Some (n, s)
      → DirRow w h p d event.Reserve gift
      (dir_leaves (reply.Slot n (s.generation + 1)) None (with_slot n (record free_slot { kind = name.Reserved; generation = s.generation + 1 }) d))
  -- grant
  GrantsWrong : {gift : With} {n : ℕ} {remote : Addr} {port : Option ℕ} {s : Slot} → slice_get d.slots n ≡ Some s
      → DirRow w h p d (event.Grant n s.generation remote port) gift (dir_answers (reply.WrongState s.kind) d)
  NoRoute : {gift : With} {n : ℕ} {remote : Addr} {port : Option ℕ} {s : Slot} → slice_get d.slots n ≡ Some s
      → DirRow w h p d (event.Grant n s.generation remote port) gift (dir_answers reply.NoRoute d)
  NoPort : {gift : With} {n : ℕ} {remote : Addr} {port : Option ℕ} {s : Slot} → slice_get d.slots n ≡ Some s
      → DirRow w h p d (event.Grant n s.generation remote port) gift (dir_answers reply.NoPort d)
  SelfPair : {gift : With} {n : ℕ} {remote : Addr} {port : Option ℕ} {s : Slot} → slice_get d.slots n ≡ Some s
      → DirRow w h p d (event.Grant n s.generation remote port) gift (dir_answers reply.SelfPair d)
  PairUsed : {gift : With} {n : ℕ} {remote : Addr} {port : Option ℕ} {s : Slot} {k : ℕ} → slice_get d.slots n ≡ Some s
      → DirRow w h p d (event.Grant n s.generation remote port) gift (dir_answers (reply.PairUsed k) d)
  Grants : {gift : With} {n : ℕ} {remote : Addr} {port : Option ℕ} {s : Slot} {out : Way} {own : ℕ} → slice_get d.slots n ≡ Some s
      → is_reserved s.kind ≡ true → way w h remote.ip ≡ Some out → port_for port s.bound d ≡ Some own
      → same_addr (pair_by out own remote).local remote ≡ false → pair_place (pair_by out own remote) 1 d.pairs ≡ None
      → DirRow w h p d (event.Grant n s.generation remote port) gift
      (dir_leaves (reply.Granted (pair_by out own remote) (start_of (home_at w h p) d) (limit_of p out.mtu)) None
      (record (with_slot n (record s { kind = name.Granted; pair = Some (pair_by out own remote) }) d) {
        pairs = d.pairs ++ pair_by out own remote ∷ [];
        ports = with_port own d.ports;
        starts = starts_after p d.starts;
      }))
  -- announce and bind
  AnnouncesWrong : {gift : With} {n : ℕ} {ip port : Option ℕ} {s : Slot} → slice_get d.slots n ≡ Some s
      → DirRow w h p d (event.Announce n s.generation ip port) gift (dir_answers (reply.WrongState s.kind) d)
  AnnouncesTaken : {gift : With} {n : ℕ} {ip port : Option ℕ} {s : Slot} {m : ℕ} → slice_get d.slots n ≡ Some s
      → DirRow w h p d (event.Announce n s.generation ip port) gift (dir_answers (reply.PortTaken m) d)
  Announces : {gift : With} {n : ℕ} {ip port : Option ℕ} {s : Slot} → slice_get d.slots n ≡ Some s
      → DirRow w h p d (event.Announce n s.generation ip port) gift
      (dir_leaves reply.Ok None
      (record (with_slot n (record s { kind = name.Announced; key = Some (record { ip = ip; port = port }) }) d) { ports = ports_with port d.ports }))
  BindsWrong : {gift : With} {n port : ℕ} {s : Slot} → slice_get d.slots n ≡ Some s
      → DirRow w h p d (event.Bind n s.generation port) gift (dir_answers (reply.WrongState s.kind) d)
  BindsTaken : {gift : With} {n port m : ℕ} {s : Slot} → slice_get d.slots n ≡ Some s
      → DirRow w h p d (event.Bind n s.generation port) gift (dir_answers (reply.PortTaken m) d)
  Binds : {gift : With} {n port : ℕ} {s : Slot} → slice_get d.slots n ≡ Some s
      → DirRow w h p d (event.Bind n s.generation port) gift
      (dir_leaves reply.Ok None (record (with_slot n (record s { bound = Some port }) d) { ports = with_port port d.ports }))
  -- listen
  ListensNone : {gift : With} {n : ℕ} {s : Slot} → slice_get d.slots n ≡ Some s
      → DirRow w h p d (event.Listen n) gift (dir_answers reply.NoFile d)
  ListensWrong : {gift : With} {n : ℕ} {s : Slot} → slice_get d.slots n ≡ Some s
      → DirRow w h p d (event.Listen n) gift (dir_answers (reply.WrongState s.kind) d)
  Listens : {gift : With} {n : ℕ} {s : Slot} {c : Call} {calls : List Call} → slice_get d.slots n ≡ Some s → s.calls ≡ c ∷ calls
      → DirRow w h p d (event.Listen n) gift (dir_leaves (reply.Call c.slot c.generation) None (with_slot n (record s { calls = calls }) d))
  -- withdraw and release
  Withdraws : {gift : With} {n : ℕ} {s : Slot} → slice_get d.slots n ≡ Some s
      → DirRow w h p d (event.Withdraw n s.generation) gift (withdraws n d s)
  Frees : {gift : With} {n : ℕ} {s : Slot} → slice_get d.slots n ≡ Some s
      → DirRow w h p d (event.Release n s.generation) gift (frees n d s)
  -- arrive
  To : {packet : Packet} {n : ℕ} {s : Slot} → is_of p packet.body ≡ true → first_slot (is_live_with (packet_pair packet)) 0 d.slots ≡ Some (n, s)
      → DirRow w h p d event.Arrive (given.Packet packet) (dir_answers (reply.To n s.generation) d)
  Bears : {packet : Packet} {t : Taker} → is_of p packet.body ≡ true → taker_of (packet_pair packet) packet d ≡ Some t
      → DirRow w h p d event.Arrive (given.Packet packet) (bears (home_at w h p) (packet_pair packet) t d)
  Refuses : {packet : Packet} {m : IlMsg} → packet.body ≡ body.Il m → is_sync m.kind ≡ true
      → DirRow w h p d event.Arrive (given.Packet packet) (dir_leaves reply.Refused (Some (refusal m packet)) d)
  Drops : {packet : Packet} → DirRow w h p d event.Arrive (given.Packet packet) (dir_answers reply.Dropped d)
  -- ls
  Lists : {gift : With} → DirRow w h p d event.Ls gift (dir_answers (reply.Names (names (node.Proto p) (taken_from 0 d.slots))) d)
