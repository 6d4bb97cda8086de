-- Each step of a conversation is that of a row.
use Rattle.std.proofs.Common.{◌≡◌, ℕ, zero, suc, ◌+◌, ◌==◌, nat_lt, ◌&&◌, Bool, true, false, cond, List, [], ◌∷◌, length, Option, Some, None, refl, sym, subst}
use Rattle.std.specs.Prelude.{IfSome}
use Rattle.std.proofs.lemmas.Bool.{and_parts, cond_both, eqb-true}
use Rattle.net_base.specs.declared.address.Pair.{Pair}
use Rattle.net_base.specs.declared.event.Event.{Event}
use Rattle.net_base.specs.declared.event.Event.TheVariants as event
use Rattle.net_base.specs.declared.history.With.{With}
use Rattle.net_base.specs.declared.history.With.TheVariants as given
use Rattle.net_base.specs.declared.il.Cause.{Cause}
use Rattle.net_base.specs.declared.il.Cause.TheVariants as cause
use Rattle.net_base.specs.declared.il.IlState.{IlState}
use Rattle.net_base.specs.declared.il.IlState.TheVariants as state
use Rattle.net_base.specs.declared.il.StateName.{StateName}
use Rattle.net_base.specs.declared.il.StateName.TheVariants as state_name
use Rattle.net_base.specs.declared.names.FileName.{FileName}
use Rattle.net_base.specs.declared.names.Mode.{Mode}
use Rattle.net_base.specs.declared.packet.Body.{Body}
use Rattle.net_base.specs.declared.packet.Body.TheVariants as body
use Rattle.net_base.specs.declared.packet.Packet.{Packet}
use Rattle.net_base.specs.declared.reply.Reply.TheVariants as reply
use Rattle.net_base.specs.declared.timer.Tick.{Tick}
use Rattle.net_base.specs.declared.timer.Tick.TheVariants as tick
use Rattle.net_base.specs.ActorStep.{Step}
use Rattle.net_base.specs.ControlWords as control
use Rattle.net_base.specs.Conversation as conv
use Rattle.net_base.specs.Conversation.{Conv, Core, Il, Udp, Stage, Unused, Listening, Connected, conv_step}
use Rattle.net_base.specs.IlEnd.{End}
use Rattle.net_base.specs.IlTable.{has_unread, is_closed, may_go_on, may_write, ticks}
use Rattle.net_base.specs.Timer as timer
use Rattle.net_base.specs.UdpEnd.{UdpEnd, datagram_comes, is_hung_up, takes_datagram, udp_state_name}
use Rattle.history_laws.specs.ConvRows.{ConvRow, generation_in}
use Rattle.history_laws.specs.ConvRows as row

-- what is so of a value that there is, and what follows
pub map_some : {A : Type 0} (o : Option A) (P Q : A → Type 0) → IfSome o P → ((x : A) → P x → Q x) → IfSome o Q
map_some None P Q is then = tt
map_some (Some x) P Q is then = then x is

module _ (slot now : ℕ) (c : Conv) where
  abbrev Is : Event → With → Step Conv → Type 0
  Is e gift s = ConvRow slot now c e gift s

  abbrev Are : Event → With → Option (Step Conv) → Type 0
  Are e gift step = IfSome step (λ (s : Step Conv). Is e gift s)

  either : (e : Event) (gift : With) (b : Bool) (x y : Option (Step Conv)) → (b ≡ true → Are e gift x) → (b ≡ false → Are e gift y) → Are e gift (cond b x y)
  either e gift b x y f g = cond_both b x y (λ (o : Option (Step Conv)). Are e gift o) f g

  -- Generations.

  own : (e : ℕ → Event) (gift : With) (g : ℕ) (o : Option (Step Conv)) → generation_in (e g) ≡ Some g → Are (e c.generation) gift o
      → Are (e g) gift (conv.in_generation g c o)
  own e gift g o names is =
      either (e g) gift (g == c.generation) o _
      (λ same. subst (λ (n : ℕ). Are (e n) gift o) (sym (eqb-true g c.generation same)) is)
      (λ other. either (e g) gift (nat_lt g c.generation) (Some (conv.only_replies c reply.Stale)) None (λ old. row.Stale names old) (λ new. tt))

  raised : (e : ℕ → Event) (gift : With) (g : ℕ) (o : ℕ → Option (Step Conv)) → generation_in (e g) ≡ Some g
      → Are (e (c.generation + 1)) gift (o (c.generation + 1)) → Are (e g) gift (conv.raises g c (o g))
  raised e gift g o names is =
      either (e g) gift (g == c.generation + 1) (o g) _
      (λ same. subst (λ (n : ℕ). Are (e n) gift (o n)) (sym (eqb-true g (c.generation + 1) same)) is)
      (λ other. either (e g) gift (nat_lt g c.generation) (Some (conv.only_replies c reply.Stale)) None (λ old. row.Stale names old) (λ new. tt))

  -- Rows that look at more than the generation.

  born : (k : Core) → c.core ≡ k → (p : Packet) (start limit : ℕ) (b : Body) → p.body ≡ b → conv.may_bear k b ≡ true → conv.may_connect k start limit ≡ true
      → Are (event.Born (c.generation + 1)) (given.Birth p start limit) (conv.brought_forth k now (c.generation + 1) start limit p b c)
  born (Il e) is p start limit (body.Il m) said bears may = row.BornIl is said bears may
  born (Udp e) is p start limit (body.Udp text) said bears may = row.BornUdp is said may
  born (Il e) is p start limit (body.Udp text) said bears may = tt
  born (Udp e) is p start limit (body.Il m) said bears may = tt

  joined : (s : Stage) → c.stage ≡ s → (k : Core) → c.core ≡ k → (pair : Pair) (start limit : ℕ) → conv.may_connect k start limit ≡ true
      → Is (event.Connect c.generation) (given.Grant pair start limit) (conv.joined s k now pair start limit c)
  joined Unused at (Il e) is pair start limit may = row.JoinsIl at is may
  joined Unused at (Udp e) is pair start limit may = row.JoinsUdp at is may
  joined Listening at k is pair start limit may = row.JoinsNot
  joined Connected at k is pair start limit may = row.JoinsNot

  listens : (s : Stage) → c.stage ≡ s → (ip port : ℕ) → Is (event.Announced c.generation) (given.Key ip port) (conv.listens s ip port c)
  listens Unused at ip port = row.Listens at
  listens Listening at ip port = row.ListensNot
  listens Connected at ip port = row.ListensNot

  binds : (s : Stage) → c.stage ≡ s → (ip port : ℕ) → Is (event.Bound c.generation) (given.Key ip port) (conv.binds s port c)
  binds Unused at ip port = row.Binds at
  binds Listening at ip port = row.BindsNot
  binds Connected at ip port = row.BindsNot

  hungup_or_ok : (gift : With) (o : Option Cause) → Is (event.Await c.generation) gift (conv.only_replies c (conv.hungup_or_ok o))
  hungup_or_ok gift None = row.Awaited
  hungup_or_ok gift (Some why) = row.AwaitsNone

  il_awaited : (gift : With) (b : Bool) (o : Option Cause)
      → Is (event.Await c.generation) gift (conv.only_replies c (cond b (conv.hungup_or_ok o) reply.Ok))
  il_awaited gift true o = hungup_or_ok gift o
  il_awaited gift false o = row.Awaited

  awaited : (gift : With) (k : Core) → Are (event.Await c.generation) gift (conv.awaited k c)
  awaited gift (Il e) =
      either (event.Await c.generation) gift (may_go_on e.state) (Some _) None (λ may. il_awaited gift (is_closed e.state) e.cause) (λ waits. tt)
  awaited gift (Udp e) = hungup_or_ok gift (conv.core_cause (Udp e))

  opened : (gift : With) (f : FileName) (m : Mode) (n : ℕ) → c.opens ≡ n → Is (event.Open f m) gift (conv.opened n c)
  opened gift f m zero are = row.OpensNot are
  opened gift f m (suc n) are = row.Opens are

  listed : (gift : With) (n : ℕ) → Is event.Ls gift (conv.listed n c)
  listed gift zero = row.ListsNot
  listed gift (suc n) = row.Lists

  il_read : (gift : With) (count : ℕ) (e : End) → nat_lt 0 count ≡ true → c.stage ≡ Connected → c.core ≡ Il e → Are (event.Read c.generation count) gift (conv.il_read count e c)
  il_read gift count e some at is =
      let ev : Event = event.Read c.generation count in
      either ev gift (has_unread e) (Some _) _ (λ unread. row.ReadsIl some at is unread)
      (λ none. either ev gift e.closed_by_peer (Some _) _ (λ ended. row.ReadsEnd some at is none ended)
      (λ goes. either ev gift (is_closed e.state) (Some _) None (λ closed. row.ReadsNone) (λ waits. tt)))

  udp_read : (gift : With) (count : ℕ) (e : UdpEnd) (texts : List (List ℕ)) → nat_lt 0 count ≡ true → e.unread ≡ texts → c.stage ≡ Connected → c.core ≡ Udp e
      → Are (event.Read c.generation count) gift (conv.udp_read texts count e c)
  udp_read gift count e (text ∷ texts) some are at is = row.ReadsUdp some at is are
  udp_read gift count e [] some are at is =
      either (event.Read c.generation count) gift (is_hung_up e.state) (Some _) None (λ hung. row.ReadsNone) (λ waits. tt)

  read : (gift : With) (count : ℕ) → nat_lt 0 count ≡ true → (s : Stage) → c.stage ≡ s → (k : Core) → c.core ≡ k
      → Are (event.Read c.generation count) gift (conv.read_at s k count c)
  read gift count some Connected at (Il e) is = il_read gift count e some at is
  read gift count some Connected at (Udp e) is = udp_read gift count e e.unread some refl at is
  read gift count some Unused at k is = subst (λ (x : Core). Is (event.Read c.generation count) gift (conv.only_replies c (reply.WrongState (conv.core_name x)))) is row.ReadsWrong
  read gift count some Listening at k is = subst (λ (x : Core). Is (event.Read c.generation count) gift (conv.only_replies c (reply.WrongState (conv.core_name x)))) is row.ReadsWrong

  il_written : (gift : With) (text : List ℕ) (e : End) → (length text == 0) ≡ false → nat_lt c.limit (length text) ≡ false → c.stage ≡ Connected → c.core ≡ Il e → (s : IlState) → e.state ≡ s
      → Is (event.Write c.generation text) gift (conv.il_written s now text e c)
  il_written gift text e some fits at is state.Established stands = row.WritesIl some fits at is stands
  il_written gift text e some fits at is _ stands = row.WritesNone

  udp_written : (gift : With) (text : List ℕ) (e : UdpEnd) (b : Bool) → (length text == 0) ≡ false → nat_lt c.limit (length text) ≡ false → c.stage ≡ Connected → c.core ≡ Udp e
      → Is (event.Write c.generation text) gift
      (cond b (conv.only_replies c (reply.Hungup cause.Hungup)) (conv.leaves c (reply.Count (length text)) c (Some (conv.packet_of c (body.Udp text)))))
  udp_written gift text e true some fits at is = row.WritesNone
  udp_written gift text e false some fits at is = row.WritesUdp some fits at is

  core_written : (gift : With) (text : List ℕ) (k : Core) → (length text == 0) ≡ false → nat_lt c.limit (length text) ≡ false → c.stage ≡ Connected → c.core ≡ k
      → Are (event.Write c.generation text) gift (conv.core_written k now text c)
  core_written gift text (Il e) some fits at is =
      either (event.Write c.generation text) gift (may_write e.state e) (Some _) None (λ may. il_written gift text e some fits at is e.state refl) (λ waits. tt)
  core_written gift text (Udp e) some fits at is = udp_written gift text e (conv.is_closed_name (udp_state_name e.state)) some fits at is

  written : (gift : With) (text : List ℕ) (s : Stage) → c.stage ≡ s → (k : Core) → c.core ≡ k
      → Are (event.Write c.generation text) gift (conv.write_at s k now text c)
  written gift text Connected at k is =
      let ev : Event = event.Write c.generation text in
      either ev gift (length text == 0) (Some _) _ (λ none. row.WritesZero)
      (λ some. either ev gift (nat_lt c.limit (length text)) (Some _) _ (λ long. row.WritesLong) (λ fits. core_written gift text k some fits at is))
  written gift text Unused at k is = subst (λ (x : Core). Is (event.Write c.generation text) gift (conv.only_replies c (reply.WrongState (conv.core_name x)))) is row.WritesWrong
  written gift text Listening at k is = subst (λ (x : Core). Is (event.Write c.generation text) gift (conv.only_replies c (reply.WrongState (conv.core_name x)))) is row.WritesWrong

  hung_up : (gift : With) (k : Core) → c.core ≡ k → (s : StateName) → Is (event.Hangup c.generation) gift (conv.hung_up k now (conv.left_or_ok s) c c)
  hung_up gift (Il e) is state_name.Listening = row.LeavesIl is
  hung_up gift (Il e) is _ = row.HangsIl is
  hung_up gift (Udp e) is state_name.Listening = row.LeavesUdp is
  hung_up gift (Udp e) is _ = row.HangsUdp is

  closed_last : (gift : With) → c.opens ≡ 1 → (k : Core) → c.core ≡ k
      → Is (event.Close c.generation) gift (conv.hung_up k now reply.Ok c (record c { opens = 0 }))
  closed_last gift are (Il e) is = row.ClosesIl are is
  closed_last gift are (Udp e) is = row.ClosesUdp are is

  closed : (gift : With) (n : ℕ) → c.opens ≡ n → Is (event.Close c.generation) gift (conv.closed n now c)
  closed gift zero are = row.ClosesNone are
  closed gift (suc zero) are = closed_last gift are c.core refl
  closed gift (suc (suc n)) are = row.ClosesOne are

  misread : (gift : With) (g : ℕ) (text : List ℕ) (o : Option ℕ) → Are (event.Ctl g text) gift (conv.bad_control o g c)
  misread gift g text None = own (λ (n : ℕ). event.Ctl n text) gift g None refl tt
  misread gift g text (Some n) = own (λ (n : ℕ). event.Ctl n text) gift g (Some (conv.only_replies c (reply.BadCtl n))) refl row.Misread

  udp_arrived : (p : Packet) (e : UdpEnd) (text : List ℕ) → c.core ≡ Udp e → p.body ≡ body.Udp text → (b : Bool) → takes_datagram e.state (length e.unread) ≡ b
      → Is (event.ArriveAt c.generation) (given.Packet p)
      (conv.leaves c (conv.full_or_took b) (record c { core = Udp (datagram_comes text e) }) None)
  udp_arrived p e text is said true takes = row.ArrivesUdp is said takes
  udp_arrived p e text is said false takes = row.ArrivesNot is said takes

  arrived : (p : Packet) (k : Core) → c.core ≡ k → (b : Body) → p.body ≡ b → Are (event.ArriveAt c.generation) (given.Packet p) (conv.arrived k b now c)
  arrived p (Il e) is (body.Il m) said = row.ArrivesIl is said
  arrived p (Udp e) is (body.Udp text) said = udp_arrived p e text is said (takes_datagram e.state (length e.unread)) refl
  arrived p (Il e) is (body.Udp text) said = tt
  arrived p (Udp e) is (body.Il m) said = tt

  il_ticked : (gift : With) (e : End) → c.core ≡ Il e → (t : Tick) → Is (event.Tick c.generation) gift (conv.turned c (conv.tick_reply t) (ticks now e) c)
  il_ticked gift e is tick.NotDue = row.TicksEarly is
  il_ticked gift e is _ = row.TicksIl is

  ticked : (gift : With) (k : Core) → c.core ≡ k → Is (event.Tick c.generation) gift (conv.ticked k now c)
  ticked gift (Il e) is = il_ticked gift e is (timer.timer_ticks now e.timer).says
  ticked gift (Udp e) is = row.TicksUdp is

  -- The table.

  pub conv_rows : (e : Event) (gift : With) → Are e gift (conv_step slot e gift now c)
  conv_rows (event.Begin g) gift = raised (λ n. event.Begin n) gift g (λ n. Some (conv.leaves c reply.Ok (conv.begun n c) None)) refl row.Begins
  conv_rows (event.Born g) (given.Birth p start limit) =
      either (event.Born g) (given.Birth p start limit) (conv.may_bear c.core p.body && conv.may_connect c.core start limit) _ None
      (λ may. let both = and_parts (conv.may_bear c.core p.body) (conv.may_connect c.core start limit) may in
      raised (λ n. event.Born n) (given.Birth p start limit) g (λ n. conv.brought_forth c.core now n start limit p p.body c) refl
      (born c.core refl p start limit p.body refl both.0 both.1))
      (λ other. tt)
  conv_rows (event.Claim g) gift = own (λ n. event.Claim n) gift g (Some _) refl row.Claims
  conv_rows (event.Connect g) (given.Grant pair start limit) =
      either (event.Connect g) (given.Grant pair start limit) (conv.may_connect c.core start limit) _ None
      (λ may. own (λ n. event.Connect n) (given.Grant pair start limit) g (Some _) refl (joined c.stage refl c.core refl pair start limit may)) (λ other. tt)
  conv_rows (event.Announced g) (given.Key ip port) = own (λ n. event.Announced n) (given.Key ip port) g (Some _) refl (listens c.stage refl ip port)
  conv_rows (event.Bound g) (given.Key ip port) = own (λ n. event.Bound n) (given.Key ip port) g (Some _) refl (binds c.stage refl ip port)
  conv_rows (event.Await g) gift = own (λ n. event.Await n) gift g _ refl (awaited gift c.core)
  conv_rows (event.Open f m) gift = opened gift f m c.opens refl
  conv_rows (event.File g f count) gift = own (λ n. event.File n f count) gift g (Some _) refl row.Files
  conv_rows (event.Read g count) gift =
      either (event.Read g count) gift (nat_lt 0 count) _ None
      (λ some. own (λ n. event.Read n count) gift g _ refl (read gift count some c.stage refl c.core refl)) (λ none. tt)
  conv_rows (event.Write g text) gift = own (λ n. event.Write n text) gift g _ refl (written gift text c.stage refl c.core refl)
  conv_rows (event.Hangup g) gift = own (λ n. event.Hangup n) gift g (Some _) refl (hung_up gift c.core refl (conv.core_name c.core))
  conv_rows (event.Ttl g n) gift = own (λ k. event.Ttl k n) gift g (Some _) refl row.TtlSet
  conv_rows (event.Tos g n) gift = own (λ k. event.Tos k n) gift g (Some _) refl row.TosSet
  conv_rows (event.Ctl g text) gift = misread gift g text (conv.refused_control (control.read text))
  conv_rows (event.Close g) gift = own (λ n. event.Close n) gift g (Some _) refl (closed gift c.opens refl)
  conv_rows (event.ArriveAt g) (given.Packet p) =
      either (event.ArriveAt g) (given.Packet p) (conv.has_protocol c.core p.body) _ None
      (λ of. own (λ n. event.ArriveAt n) (given.Packet p) g _ refl (arrived p c.core refl p.body refl)) (λ other. tt)
  conv_rows (event.Tick g) gift = own (λ n. event.Tick n) gift g (Some _) refl (ticked gift c.core refl)
  conv_rows event.Ls gift = listed gift c.opens
  conv_rows _ _ = tt
