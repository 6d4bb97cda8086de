-- What each row of a conversation's table leaves.
use Rattle.std.specs.Prelude.{◌≡◌, ℕ, suc, ◌+◌, ◌==◌, true, false, List, [], ◌∷◌, length, take, Option, Some, None, nat_lt}
use Rattle.net_base.specs.declared.address.Pair.{Pair}
use Rattle.net_base.specs.declared.event.Event.{Event}
use Rattle.net_base.specs.declared.event.Event.TheVariants as event
use Rattle.net_base.specs.declared.history.With.{With}
use Rattle.net_base.specs.declared.history.With.TheVariants as given
use Rattle.net_base.specs.declared.il.Cause.{Cause}
use Rattle.net_base.specs.declared.il.IlMsg.{IlMsg}
use Rattle.net_base.specs.declared.il.IlState.TheVariants as state
use Rattle.net_base.specs.declared.names.FileName.{FileName}
use Rattle.net_base.specs.declared.names.Mode.{Mode}
use Rattle.net_base.specs.declared.packet.Body.TheVariants as body
use Rattle.net_base.specs.declared.packet.Packet.{Packet}
use Rattle.net_base.specs.declared.reply.Reply.TheVariants as reply
use Rattle.net_base.specs.ActorStep.{Step}
use Rattle.net_base.specs.Conversation.{Conv, Il, Udp, Unused, Listening, Connected, only_replies, begun, born_to, core_announced, core_name, file_text, is_sync, leaves, may_connect, packet_of, turned}
use Rattle.net_base.specs.IlEnd.{End, fresh_end}
use Rattle.net_base.specs.IlTable.{arrives, connects, first_unread, has_unread, hangs_up, is_born, reads, ticks, writes}
use Rattle.net_base.specs.Paths.{file_names}
use Rattle.net_base.specs.UdpEnd.{UdpEnd, datagram_comes, datagram_read, fresh_udp, takes_datagram, udp_connects, udp_hangs_up}

-- the generation that an event of a conversation names
abbrev pub generation_in : Event → Option ℕ
generation_in (event.Begin g) = Some g
generation_in (event.Born g) = Some g
generation_in (event.Claim g) = Some g
generation_in (event.Connect g) = Some g
generation_in (event.Announced g) = Some g
generation_in (event.Bound g) = Some g
generation_in (event.Await g) = Some g
generation_in (event.File g file count) = Some g
generation_in (event.Read g count) = Some g
generation_in (event.Write g text) = Some g
generation_in (event.Hangup g) = Some g
generation_in (event.Ttl g n) = Some g
generation_in (event.Tos g n) = Some g
generation_in (event.Ctl g text) = Some g
generation_in (event.Close g) = Some g
generation_in (event.ArriveAt g) = Some g
generation_in (event.Tick g) = Some g
generation_in _ = None

-- the steps of the conversation in a slot at a moment: each with its event, what that is given, and where it is so
pub data ConvRow (slot now : ℕ) (c : Conv) : Event → With → Step Conv → Type 0 where
  -- an older generation
  Stale : {e : Event} {gift : With} {g : ℕ} → generation_in e ≡ Some g → nat_lt g c.generation ≡ true
      → ConvRow slot now c e gift (only_replies c reply.Stale)
  -- begin and born
  Begins : {gift : With}
      → ConvRow slot now c (event.Begin (c.generation + 1)) gift (leaves c reply.Ok (begun (c.generation + 1) c) None)
  BornIl : {p : Packet} {start limit : ℕ} {e : End} {m : IlMsg} → c.core ≡ Il e → p.body ≡ body.Il m → is_sync m.kind ≡ true
      → may_connect (Il e) start limit ≡ true
      → ConvRow slot now c (event.Born (c.generation + 1)) (given.Birth p start limit)
      (turned c reply.Ok (is_born now start m.id (fresh_end e.timer.timers)) (born_to (c.generation + 1) limit p c))
  BornUdp : {p : Packet} {start limit : ℕ} {e : UdpEnd} {text : List ℕ} → c.core ≡ Udp e → p.body ≡ body.Udp text
      → may_connect (Udp e) start limit ≡ true
      → ConvRow slot now c (event.Born (c.generation + 1)) (given.Birth p start limit)
      (leaves c reply.Ok (record (born_to (c.generation + 1) limit p c) { core = Udp (datagram_comes text (udp_connects fresh_udp)) }) None)
  -- claim, connect, announced, bound and await
  Claims : {gift : With} → ConvRow slot now c (event.Claim c.generation) gift (only_replies c reply.Ok)
  JoinsIl : {pair : Pair} {start limit : ℕ} {e : End} → c.stage ≡ Unused → c.core ≡ Il e → may_connect (Il e) start limit ≡ true
      → ConvRow slot now c (event.Connect c.generation) (given.Grant pair start limit)
      (turned c reply.Ok (connects now start e) (record c { pair = pair; limit = limit; stage = Connected }))
  JoinsUdp : {pair : Pair} {start limit : ℕ} {e : UdpEnd} → c.stage ≡ Unused → c.core ≡ Udp e → may_connect (Udp e) start limit ≡ true
      → ConvRow slot now c (event.Connect c.generation) (given.Grant pair start limit)
      (leaves c reply.Ok (record c { pair = pair; limit = limit; stage = Connected; core = Udp (udp_connects e) }) None)
  JoinsNot : {pair : Pair} {start limit : ℕ} → ConvRow slot now c (event.Connect c.generation) (given.Grant pair start limit) (only_replies c reply.Ok)
  Listens : {ip port : ℕ} → c.stage ≡ Unused
      → ConvRow slot now c (event.Announced c.generation) (given.Key ip port)
      (leaves c reply.Ok
      (record c { pair = record c.pair { local = record { ip = ip; port = port } }; stage = Listening; core = core_announced c.core })
      None)
  ListensNot : {ip port : ℕ} → ConvRow slot now c (event.Announced c.generation) (given.Key ip port) (only_replies c reply.Ok)
  Binds : {ip port : ℕ} → c.stage ≡ Unused
      → ConvRow slot now c (event.Bound c.generation) (given.Key ip port)
      (leaves c reply.Ok (record c { pair = record c.pair { local = record c.pair.local { port = port } } }) None)
  BindsNot : {ip port : ℕ} → ConvRow slot now c (event.Bound c.generation) (given.Key ip port) (only_replies c reply.Ok)
  Awaited : {gift : With} → ConvRow slot now c (event.Await c.generation) gift (only_replies c reply.Ok)
  AwaitsNone : {gift : With} {why : Cause} → ConvRow slot now c (event.Await c.generation) gift (only_replies c (reply.Hungup why))
  -- open and file
  OpensNot : {gift : With} {f : FileName} {m : Mode} → c.opens ≡ 0 → ConvRow slot now c (event.Open f m) gift (only_replies c reply.NotOpen)
  Opens : {gift : With} {f : FileName} {m : Mode} {n : ℕ} → c.opens ≡ suc n
      → ConvRow slot now c (event.Open f m) gift (leaves c (reply.Opened c.generation) (record c { opens = suc n + 1 }) None)
  Files : {gift : With} {f : FileName} {count : ℕ}
      → ConvRow slot now c (event.File c.generation f count) gift (only_replies c (reply.Bytes (take count (file_text f slot c))))
  -- read
  ReadsIl : {gift : With} {count : ℕ} {e : End} → nat_lt 0 count ≡ true → c.stage ≡ Connected → c.core ≡ Il e → has_unread e ≡ true
      → ConvRow slot now c (event.Read c.generation count) gift
      (leaves c (reply.Bytes (take count (first_unread e))) (record c { core = Il (reads count e) }) None)
  ReadsEnd : {gift : With} {count : ℕ} {e : End} → nat_lt 0 count ≡ true → c.stage ≡ Connected → c.core ≡ Il e → has_unread e ≡ false → e.closed_by_peer ≡ true
      → ConvRow slot now c (event.Read c.generation count) gift (only_replies c (reply.Bytes []))
  ReadsUdp : {gift : With} {count : ℕ} {e : UdpEnd} {text : List ℕ} {texts : List (List ℕ)} → nat_lt 0 count ≡ true → c.stage ≡ Connected → c.core ≡ Udp e
      → e.unread ≡ text ∷ texts
      → ConvRow slot now c (event.Read c.generation count) gift
      (leaves c (reply.Bytes (take count text)) (record c { core = Udp (datagram_read e) }) None)
  ReadsNone : {gift : With} {count : ℕ} {why : Cause}
      → ConvRow slot now c (event.Read c.generation count) gift (only_replies c (reply.Hungup why))
  ReadsWrong : {gift : With} {count : ℕ}
      → ConvRow slot now c (event.Read c.generation count) gift (only_replies c (reply.WrongState (core_name c.core)))
  -- write
  WritesZero : {gift : With} {text : List ℕ} → ConvRow slot now c (event.Write c.generation text) gift (only_replies c reply.ZeroWrite)
  WritesLong : {gift : With} {text : List ℕ}
      → ConvRow slot now c (event.Write c.generation text) gift (only_replies c (reply.TooLong (length text) c.limit))
  WritesIl : {gift : With} {text : List ℕ} {e : End} → (length text == 0) ≡ false → nat_lt c.limit (length text) ≡ false → c.stage ≡ Connected
      → c.core ≡ Il e → e.state ≡ state.Established
      → ConvRow slot now c (event.Write c.generation text) gift (turned c (reply.Count (length text)) (writes now text e) c)
  WritesUdp : {gift : With} {text : List ℕ} {e : UdpEnd} → (length text == 0) ≡ false → nat_lt c.limit (length text) ≡ false → c.stage ≡ Connected
      → c.core ≡ Udp e
      → ConvRow slot now c (event.Write c.generation text) gift (leaves c (reply.Count (length text)) c (Some (packet_of c (body.Udp text))))
  WritesNone : {gift : With} {text : List ℕ} {why : Cause}
      → ConvRow slot now c (event.Write c.generation text) gift (only_replies c (reply.Hungup why))
  WritesWrong : {gift : With} {text : List ℕ}
      → ConvRow slot now c (event.Write c.generation text) gift (only_replies c (reply.WrongState (core_name c.core)))
  -- hangup and close
  HangsIl : {gift : With} {e : End} → c.core ≡ Il e
      → ConvRow slot now c (event.Hangup c.generation) gift (turned c reply.Ok (hangs_up now e) c)
  LeavesIl : {gift : With} {e : End} → c.core ≡ Il e
      → ConvRow slot now c (event.Hangup c.generation) gift (turned c reply.Left (hangs_up now e) c)
  HangsUdp : {gift : With} {e : UdpEnd} → c.core ≡ Udp e
      → ConvRow slot now c (event.Hangup c.generation) gift (leaves c reply.Ok (record c { core = Udp (udp_hangs_up e) }) None)
  LeavesUdp : {gift : With} {e : UdpEnd} → c.core ≡ Udp e
      → ConvRow slot now c (event.Hangup c.generation) gift (leaves c reply.Left (record c { core = Udp (udp_hangs_up e) }) None)
  ClosesNone : {gift : With} → c.opens ≡ 0 → ConvRow slot now c (event.Close c.generation) gift (only_replies c reply.Ok)
  ClosesIl : {gift : With} {e : End} → c.opens ≡ 1 → c.core ≡ Il e
      → ConvRow slot now c (event.Close c.generation) gift (turned c reply.Ok (hangs_up now e) (record c { opens = 0 }))
  ClosesUdp : {gift : With} {e : UdpEnd} → c.opens ≡ 1 → c.core ≡ Udp e
      → ConvRow slot now c (event.Close c.generation) gift (leaves c reply.Ok (record c { opens = 0; core = Udp (udp_hangs_up e) }) None)
  ClosesOne : {gift : With} {n : ℕ} → c.opens ≡ suc (suc n)
      → ConvRow slot now c (event.Close c.generation) gift (leaves c reply.Ok (record c { opens = suc n }) None)
  -- controls
  TtlSet : {gift : With} {n : ℕ} → ConvRow slot now c (event.Ttl c.generation n) gift (leaves c reply.Ok (record c { ttl = n }) None)
  TosSet : {gift : With} {n : ℕ} → ConvRow slot now c (event.Tos c.generation n) gift (leaves c reply.Ok (record c { tos = n }) None)
  Misread : {gift : With} {text : List ℕ} {n : ℕ} → ConvRow slot now c (event.Ctl c.generation text) gift (only_replies c (reply.BadCtl n))
  -- arrive and tick
  ArrivesIl : {p : Packet} {e : End} {m : IlMsg} → c.core ≡ Il e → p.body ≡ body.Il m
      → ConvRow slot now c (event.ArriveAt c.generation) (given.Packet p) (turned c reply.Took (arrives now m e) c)
  ArrivesUdp : {p : Packet} {e : UdpEnd} {text : List ℕ} → c.core ≡ Udp e → p.body ≡ body.Udp text
      → takes_datagram e.state (length e.unread) ≡ true
      → ConvRow slot now c (event.ArriveAt c.generation) (given.Packet p) (leaves c reply.Took (record c { core = Udp (datagram_comes text e) }) None)
  ArrivesNot : {p : Packet} {e : UdpEnd} {text : List ℕ} → c.core ≡ Udp e → p.body ≡ body.Udp text
      → takes_datagram e.state (length e.unread) ≡ false
      → ConvRow slot now c (event.ArriveAt c.generation) (given.Packet p) (leaves c reply.Full (record c { core = Udp (datagram_comes text e) }) None)
  TicksIl : {gift : With} {e : End} → c.core ≡ Il e
      → ConvRow slot now c (event.Tick c.generation) gift (turned c reply.Ticked (ticks now e) c)
  TicksEarly : {gift : With} {e : End} → c.core ≡ Il e
      → ConvRow slot now c (event.Tick c.generation) gift (turned c reply.NotDue (ticks now e) c)
  TicksUdp : {gift : With} {e : UdpEnd} → c.core ≡ Udp e → ConvRow slot now c (event.Tick c.generation) gift (only_replies c reply.NotDue)
  -- ls
  ListsNot : {gift : With} → ConvRow slot now c event.Ls gift (only_replies c reply.NotOpen)
  Lists : {gift : With} → ConvRow slot now c event.Ls gift (only_replies c (reply.Names file_names))
