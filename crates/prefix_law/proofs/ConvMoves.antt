-- What a conversation with an IL end may do in one step.
use Rattle.std.proofs.Common.{◌≡◌, ℕ, zero, suc, ◌+◌, ◌-◌, ◌<◌, ◌≤◌, ◌==◌, ◌&&◌, nat_lt, nat_le, Bool, true, false, cond, List, [], length, take, Option, Some, None, refl, sym, ap, ◌∙◌, arith}
use Rattle.std.specs.Option.{option_map}
use Rattle.std.specs.Prelude.{IfSome}
use Rattle.std.proofs.lemmas.Bool.{and_parts, cond_both, eqb-true, ltb-true, ne_eqb, true≢false, ltb-false, eqb-false, leb-true}
use Rattle.net_base.specs.declared.address.Pair.{Pair}
use Rattle.net_base.specs.declared.event.Event.{Event}
use Rattle.net_base.specs.declared.event.Event.TheVariants as event
use Rattle.net_base.specs.declared.reply.Reply.{Reply}
use Rattle.net_base.specs.declared.reply.Reply.TheVariants as reply
use Rattle.net_base.specs.declared.il.IlMsg.{IlMsg}
use Rattle.net_base.specs.declared.il.IlState.{IlState}
use Rattle.net_base.specs.declared.il.IlState.TheVariants as state
use Rattle.net_base.specs.declared.packet.Body.{Body}
use Rattle.net_base.specs.declared.packet.Body.TheVariants as body
use Rattle.net_base.specs.declared.packet.Packet.{Packet}
use Rattle.net_base.specs.declared.history.With.{With}
use Rattle.net_base.specs.declared.history.With.TheVariants as given
use Rattle.prefix_law.proofs.Pairs.{is_sync}
use Rattle.net_base.specs.declared.names.FileName.{FileName}
use Rattle.net_base.specs.declared.names.Mode.{Mode}
use Rattle.net_base.specs.IlEnd.{End, Turn, fresh_end, silent, cause_of}
use Rattle.net_base.specs.IlTable.{arrives, connects, is_born, announced, writes, reads, hangs_up, ticks, may_write, may_go_on, is_closed}
use Rattle.net_base.specs.Timer as timer
use Rattle.net_base.specs.ControlWords as control
use Rattle.net_base.specs.Paths.{file_names}
use Rattle.net_base.specs.ActorStep.{Step}
use Rattle.net_base.specs.Conversation.{Il, Stage, Unused, Listening, Connected, Conv, born_to, only_replies, leaves, packet_of, turned, in_generation, raises, may_bear, may_connect, has_protocol, joined, brought_forth, listens, binds, arrived, il_read, read_at, core_name, il_written, write_at, left_or_ok, closed, il_awaited, awaited, opened, listed, file_text, refused_control, bad_control, tick_reply, conv_step}
use Rattle.prefix_law.proofs.Untouched.{leaves_itself, arrives_leaves, hangs_leaves, ticks_leaves}
use Rattle.prefix_law.proofs.Accounts.{IsSized, Account, Silent, left_account, write_account, read_account, end_account}

abbrev pub is_connected : Stage → Bool
is_connected Connected = true
is_connected _ = false

-- a turn that an end may take of itself, or by a packet of the conversation's own generation
pub data Act (now : ℕ) (c : Conv) (e : End) (ev : Event) (gift : With) (t : Turn) : Type 0 where
  Rest : t ≡ silent e → Act now c e ev gift t
  Arrival : (p : Packet) (m : IlMsg) → ev ≡ event.ArriveAt c.generation → gift ≡ given.Packet p → p.body ≡ body.Il m → t ≡ arrives now m e → Act now c e ev gift t
  Writing : (text : List ℕ) → c.stage ≡ Connected → e.state ≡ state.Established → t ≡ writes now text e → Act now c e ev gift t
  Reading : (count : ℕ) → c.stage ≡ Connected → t ≡ silent (reads count e) → Act now c e ev gift t
  Hanging : t ≡ hangs_up now e → Act now c e ev gift t
  Ticking : t ≡ ticks now e → Act now c e ev gift t

-- what the step emits goes from the conversation's local address to its remote one
pub record Emits (pair : Pair) (emit : Option Packet) (said : Option IlMsg) : Type 0 where
  pub by : Conv
  pub pair_is : by.pair ≡ pair
  pub emit_is : emit ≡ option_map (λ (m : IlMsg). packet_of by (body.Il m)) said

pub record Stays (c : Conv) (e : End) (ev : Event) (t : Turn) (s : Step Conv) : Type 0 where
  pub generation_is : s.state.generation ≡ c.generation
  pub pair_is : is_connected c.stage ≡ true → s.state.pair ≡ c.pair
  pub stage_is : s.state.stage ≡ c.stage
  pub limit_is : s.state.limit ≡ c.limit
  pub core_is : s.state.core ≡ Il t.end
  pub emits : Emits c.pair s.outcome.emit t.emits
  pub account : Account c.generation ev s.outcome.reply e t.end

pub record Begins (c : Conv) (e : End) (ev : Event) (s : Step Conv) : Type 0 where
  pub event_is : ev ≡ event.Begin (c.generation + 1)
  pub generation_is : s.state.generation ≡ c.generation + 1
  pub stage_is : s.state.stage ≡ Unused
  pub limit_is : s.state.limit ≡ 0
  pub core_is : s.state.core ≡ Il (fresh_end e.timer.timers)
  pub emits_none : s.outcome.emit ≡ None

pub record Joins (now : ℕ) (c : Conv) (e : End) (ev : Event) (gift : With) (s : Step Conv) : Type 0 where
  pub pair : Pair
  pub start : ℕ
  pub limit : ℕ
  pub event_is : ev ≡ event.Connect c.generation
  pub given_is : gift ≡ given.Grant pair start limit
  pub was : c.stage ≡ Unused
  pub generation_is : s.state.generation ≡ c.generation
  pub pair_is : s.state.pair ≡ pair
  pub stage_is : s.state.stage ≡ Connected
  pub limited : s.state.limit ≤ 8192
  pub core_is : s.state.core ≡ Il (connects now start e).end
  pub emits : Emits pair s.outcome.emit (connects now start e).emits

pub record Comes (now : ℕ) (c : Conv) (e : End) (ev : Event) (gift : With) (s : Step Conv) : Type 0 where
  pub packet : Packet
  pub message : IlMsg
  pub start : ℕ
  pub limit : ℕ
  pub event_is : ev ≡ event.Born (c.generation + 1)
  pub given_is : gift ≡ given.Birth packet start limit
  pub body_is : packet.body ≡ body.Il message
  pub is_sync : is_sync message.kind ≡ true
  pub generation_is : s.state.generation ≡ c.generation + 1
  pub pair_is : s.state.pair ≡ record { local = packet.dst; remote = packet.src }
  pub stage_is : s.state.stage ≡ Connected
  pub limited : s.state.limit ≤ 8192
  pub core_is : s.state.core ≡ Il (is_born now start message.id (fresh_end e.timer.timers)).end
  pub emits : Emits (record { local = packet.dst; remote = packet.src }) s.outcome.emit (is_born now start message.id (fresh_end e.timer.timers)).emits

pub record Opens (c : Conv) (e : End) (ev : Event) (s : Step Conv) : Type 0 where
  pub event_is : ev ≡ event.Announced c.generation
  pub was : c.stage ≡ Unused
  pub generation_is : s.state.generation ≡ c.generation
  pub stage_is : s.state.stage ≡ Listening
  pub limit_is : s.state.limit ≡ c.limit
  pub core_is : s.state.core ≡ Il (announced e)
  pub emits_none : s.outcome.emit ≡ None

pub data Move (now : ℕ) (c : Conv) (e : End) (ev : Event) (gift : With) (s : Step Conv) : Type 0 where
  Stay : (t : Turn) → Act now c e ev gift t → Stays c e ev t s → Move now c e ev gift s
  Begin : Begins c e ev s → Move now c e ev gift s
  Join : Joins now c e ev gift s → Move now c e ev gift s
  Come : Comes now c e ev gift s → Move now c e ev gift s
  Listen : Opens c e ev s → Move now c e ev gift s

-- the conversation with this end
abbrev pub of_end : Conv → End → Conv
of_end c e = record c { core = Il e }

abbrev Moves : ℕ → Conv → End → Event → With → Option (Step Conv) → Type 0
Moves now c e ev gift step = IfSome step (λ s. Move now c e ev gift s)

-- a conversation that keeps its generation, pair and stage takes a turn
turns : (now : ℕ) (c k : Conv) (e : End) (ev : Event) (gift : With) (answer : Reply) (t : Turn) → k.generation ≡ c.generation → k.pair ≡ c.pair → k.stage ≡ c.stage → k.limit ≡ c.limit → Act now c e ev gift t → Account c.generation ev answer e t.end → Move now c e ev gift (turned (of_end c e) answer t k)
turns now c k e ev gift answer t gen pair stage limit act account =
    Stay t act (record { generation_is = gen; pair_is = λ _. pair; stage_is = stage; limit_is = limit; core_is = refl; emits = record { by = k; pair_is = pair; emit_is = refl }; account = account })

rests : (now : ℕ) (c k : Conv) (e : End) (ev : Event) (gift : With) (answer : Reply) → k.generation ≡ c.generation → k.pair ≡ c.pair → k.stage ≡ c.stage → k.limit ≡ c.limit → Account c.generation ev answer e e → Move now c e ev gift (leaves (of_end c e) answer (of_end k e) None)
rests now c k e ev gift answer gen pair stage limit account =
    Stay (silent e) (Rest refl) (record { generation_is = gen; pair_is = λ _. pair; stage_is = stage; limit_is = limit; core_is = refl; emits = record { by = c; pair_is = refl; emit_is = refl }; account = account })

same : (now : ℕ) (c : Conv) (e : End) (ev : Event) (gift : With) (answer : Reply) → Silent c.generation ev answer → Move now c e ev gift (only_replies (of_end c e) answer)
same now c e ev gift answer silent = rests now c c e ev gift answer refl refl refl refl (left_account c.generation ev answer e e (leaves_itself e) silent)

quiet_account : (g : ℕ) (ev : Event) (r : Reply) (e : End) → Silent g ev r → Account g ev r e e
quiet_account g ev r e silent = left_account g ev r e e (leaves_itself e) silent

-- a stale answer is of nothing written or read
stale_silent : (g : ℕ) (ev : Event) → Silent g ev reply.Stale
stale_silent g (event.Write g' text) = (refl, refl)
stale_silent g (event.Read g' count) = (refl, refl)
stale_silent g _ = (refl, refl)

moves_if : (now : ℕ) (c : Conv) (e : End) (ev : Event) (gift : With) (b : Bool) (x y : Option (Step Conv)) → (b ≡ true → Moves now c e ev gift x) → (b ≡ false → Moves now c e ev gift y) → Moves now c e ev gift (cond b x y)
moves_if now c e ev gift b x y f g = cond_both b x y (λ z. Moves now c e ev gift z) f g

own : (now g : ℕ) (c : Conv) (e : End) (ev : Event) (gift : With) (step : Option (Step Conv)) → (g ≡ c.generation → Moves now c e ev gift step) → Moves now c e ev gift (in_generation g (of_end c e) step)
own now g c e ev gift step f =
    moves_if now c e _ _ (g == c.generation) _ _ (λ is. f (eqb-true g c.generation is)) (λ _. moves_if now c e _ _ (nat_lt g c.generation) _ _ (λ _. same now c e ev gift reply.Stale (stale_silent c.generation ev)) (λ _. tt))

raised : (now g : ℕ) (c : Conv) (e : End) (ev : Event) (gift : With) (step : Option (Step Conv)) → (g ≡ c.generation + 1 → Moves now c e ev gift step) → Moves now c e ev gift (raises g (of_end c e) step)
raised now g c e ev gift step f =
    moves_if now c e _ _ (g == c.generation + 1) _ _ (λ is. f (eqb-true g (c.generation + 1) is)) (λ _. moves_if now c e _ _ (nat_lt g c.generation) _ _ (λ _. same now c e ev gift reply.Stale (stale_silent c.generation ev)) (λ _. tt))

small_limit : (start limit : ℕ) → (nat_lt 0 start && nat_le limit 8192) ≡ true → limit ≤ 8192
small_limit start limit may = leb-true limit 8192 (and_parts (nat_lt 0 start) (nat_le limit 8192) may).1

joins : (now g : ℕ) (pair : Pair) (start limit : ℕ) (c : Conv) (e : End) (s : Stage) → limit ≤ 8192 → c.stage ≡ s → g ≡ c.generation → Move now c e (event.Connect g) (given.Grant pair start limit) (joined s (Il e) now pair start limit (of_end c e))
joins now g pair start limit c e Unused small is mine = Join (record {
  pair = pair;
  start = start;
  limit = limit;
  event_is = ap (λ (n : ℕ). event.Connect n) mine;
  given_is = refl;
  was = is;
  generation_is = refl;
  pair_is = refl;
  stage_is = refl;
  limited = small;
  core_is = refl;
  emits = record { by = record (of_end c e) { pair = pair; limit = limit; stage = Connected }; pair_is = refl; emit_is = refl };
})
joins now g pair start limit c e Listening small is mine = same now c e _ _ reply.Ok (refl, refl)
joins now g pair start limit c e Connected small is mine = same now c e _ _ reply.Ok (refl, refl)

comes : (now g : ℕ) (p : Packet) (b : Body) (start limit : ℕ) (c : Conv) (e : End) → limit ≤ 8192 → p.body ≡ b → may_bear (Il e) b ≡ true → g ≡ c.generation + 1 → Moves now c e (event.Born g) (given.Birth p start limit) (brought_forth (Il e) now g start limit p b (of_end c e))
comes now g p (body.Il m) start limit c e small is bears mine = Come (record {
  packet = p;
  message = m;
  start = start;
  limit = limit;
  event_is = ap (λ (n : ℕ). event.Born n) mine;
  given_is = refl;
  body_is = is;
  is_sync = bears;
  generation_is = mine;
  pair_is = refl;
  stage_is = refl;
  limited = small;
  core_is = refl;
  emits = record { by = born_to g limit p (of_end c e); pair_is = refl; emit_is = refl };
})
comes now g p (body.Udp text) start limit c e small is bears mine = tt

opens : (now g ip port : ℕ) (gift : With) (c : Conv) (e : End) (s : Stage) → g ≡ c.generation → c.stage ≡ s → Move now c e (event.Announced g) gift (listens s ip port (of_end c e))
opens now g ip port gift c e Unused mine is = Listen (record { event_is = ap (λ (n : ℕ). event.Announced n) mine; was = is; generation_is = refl; stage_is = refl; limit_is = refl; core_is = refl; emits_none = refl })
opens now g ip port gift c e Listening mine is = same now c e _ gift reply.Ok (refl, refl)
opens now g ip port gift c e Connected mine is = same now c e _ gift reply.Ok (refl, refl)

unconnected : (c : Conv) (s : Stage) → c.stage ≡ s → is_connected s ≡ false → is_connected c.stage ≡ true → {A : Type 0} → A
unconnected c s is not connected = absurd (true≢false (sym connected ∙ (ap is_connected is ∙ not)))

-- a port is shown, where nothing is connected yet
shows_port : (now g port : ℕ) (gift : With) (c : Conv) (e : End) (s : Stage) → c.stage ≡ s → Move now c e (event.Bound g) gift (binds s port (of_end c e))
shows_port now g port gift c e Unused is =
    Stay (silent e) (Rest refl) (record {
      generation_is = refl;
      pair_is = λ connected. unconnected c Unused is refl connected;
      stage_is = refl;
      limit_is = refl;
      core_is = refl;
      emits = record { by = c; pair_is = refl; emit_is = refl };
      account = left_account c.generation (event.Bound g) reply.Ok e e (leaves_itself e) (refl, refl);
    })
shows_port now g port gift c e Listening is = same now c e _ gift reply.Ok (refl, refl)
shows_port now g port gift c e Connected is = same now c e _ gift reply.Ok (refl, refl)

reads_il : (now g count : ℕ) (gift : With) (c : Conv) (e : End) → 0 < count → g ≡ c.generation → c.stage ≡ Connected → Moves now c e (event.Read g count) gift (il_read count e (of_end c e))
reads_il now g count gift c e some mine is =
    let ev = event.Read g count in
    moves_if now c e _ _ (nat_lt e.read_count (length e.got)) _ _
    (λ there. Stay (silent (reads count e)) (Reading count is refl) (record { generation_is = refl; pair_is = λ _. refl; stage_is = refl; limit_is = refl; core_is = refl; emits = record { by = c; pair_is = refl; emit_is = refl }; account = read_account c.generation g count e mine some (ltb-true e.read_count (length e.got) there) }))
    (λ all. moves_if now c e _ _ e.closed_by_peer _ _ (λ closed_by_peer. rests now c c e ev gift (reply.Bytes []) refl refl refl refl (end_account c.generation g count e closed_by_peer (ltb-false e.read_count (length e.got) all)))
    (λ _. moves_if now c e _ _ (is_closed e.state) _ _ (λ _. same now c e ev gift (reply.Hungup (cause_of e)) (refl, refl)) (λ _. tt)))

reads_at : (now g count : ℕ) (gift : With) (c : Conv) (e : End) (s : Stage) → 0 < count → g ≡ c.generation → c.stage ≡ s → Moves now c e (event.Read g count) gift (read_at s (Il e) count (of_end c e))
reads_at now g count gift c e Unused some mine is = same now c e (event.Read g count) gift (reply.WrongState (core_name (Il e))) (refl, refl)
reads_at now g count gift c e Listening some mine is = same now c e (event.Read g count) gift (reply.WrongState (core_name (Il e))) (refl, refl)
reads_at now g count gift c e Connected some mine is = reads_il now g count gift c e some mine is

writes_il : (now g : ℕ) (text : List ℕ) (gift : With) (c : Conv) (e : End) (s : IlState) → IsSized text → e.state ≡ s → g ≡ c.generation → c.stage ≡ Connected → Moves now c e (event.Write g text) gift (cond (may_write s e) (Some (il_written s now text e (of_end c e))) None)
writes_il now g text gift c e state.Established some is mine stage =
    moves_if now c e _ _ (nat_lt (length e.sent - e.acked) 20) _ _
    (λ _. turns now c (of_end c e) e (event.Write g text) gift (reply.Count (length text)) (writes now text e) refl refl refl refl (Writing text stage is refl) (write_account c.generation g now text (length text) e mine some))
    (λ _. tt)
writes_il now g text gift c e state.Closed some is mine stage = same now c e _ gift (reply.Hungup (cause_of e)) (refl, refl)
writes_il now g text gift c e state.Closing some is mine stage = same now c e _ gift (reply.Hungup (cause_of e)) (refl, refl)
writes_il now g text gift c e state.Listening some is mine stage = same now c e _ gift (reply.Hungup (cause_of e)) (refl, refl)
writes_il now g text gift c e state.Syncer some is mine stage = tt
writes_il now g text gift c e state.Syncee some is mine stage = tt

writes_at : (now g : ℕ) (text : List ℕ) (gift : With) (c : Conv) (e : End) (s : Stage) → c.limit ≤ 8192 → g ≡ c.generation → c.stage ≡ s → Moves now c e (event.Write g text) gift (write_at s (Il e) now text (of_end c e))
writes_at now g text gift c e Unused small mine is = same now c e _ gift (reply.WrongState (core_name (Il e))) (refl, refl)
writes_at now g text gift c e Listening small mine is = same now c e _ gift (reply.WrongState (core_name (Il e))) (refl, refl)
writes_at now g text gift c e Connected small mine is =
    moves_if now c e _ _ (length text == 0) _ _ (λ _. same now c e _ gift reply.ZeroWrite (refl, refl))
    (λ full. moves_if now c e _ _ (nat_lt c.limit (length text)) _ _ (λ _. same now c e _ gift (reply.TooLong (length text) c.limit) (refl, refl))
    (λ fits. writes_il now g text gift c e e.state (omega (arith, eqb-false (length text) 0 full), omega (arith, ltb-false c.limit (length text) fits)) refl mine is))

closes_at : (n now g : ℕ) (gift : With) (c : Conv) (e : End) → Move now c e (event.Close g) gift (closed n now (of_end c e))
closes_at zero now g gift c e = same now c e _ gift reply.Ok (refl, refl)
closes_at (suc zero) now g gift c e = Stay (hangs_up now e) (Hanging refl) (record { generation_is = refl; pair_is = λ _. refl; stage_is = refl; limit_is = refl; core_is = refl; emits = record { by = record (of_end c e) { opens = 0 }; pair_is = refl; emit_is = refl }; account = left_account c.generation (event.Close g) reply.Ok e (hangs_up now e).end (hangs_leaves e.state now e).leaves (refl, refl) })
closes_at (suc (suc n)) now g gift c e = rests now c (record c { opens = suc n }) e _ gift reply.Ok refl refl refl refl (quiet_account c.generation (event.Close g) reply.Ok e (refl, refl))

awaits : (now g : ℕ) (gift : With) (c : Conv) (e : End) → Moves now c e (event.Await g) gift (awaited (Il e) (of_end c e))
awaits now g gift c e = moves_if now c e _ _ (may_go_on e.state) _ _ (λ _. same now c e _ gift (il_awaited e) (refl, refl)) (λ _. tt)

opens_file : (n now : ℕ) (file : FileName) (mode : Mode) (gift : With) (c : Conv) (e : End) → Move now c e (event.Open file mode) gift (opened n (of_end c e))
opens_file zero now file mode gift c e = same now c e _ gift reply.NotOpen (refl, refl)
opens_file (suc n) now file mode gift c e = rests now c (record c { opens = suc n + 1 }) e _ gift (reply.Opened c.generation) refl refl refl refl (quiet_account c.generation (event.Open file mode) (reply.Opened c.generation) e (refl, refl))

lists : (n now : ℕ) (gift : With) (c : Conv) (e : End) → Move now c e event.Ls gift (listed n (of_end c e))
lists zero now gift c e = same now c e _ gift reply.NotOpen (refl, refl)
lists (suc n) now gift c e = same now c e _ gift (reply.Names file_names) (refl, refl)

refuses_control : (found : Option ℕ) (now g : ℕ) (text : List ℕ) (gift : With) (c : Conv) (e : End) → Moves now c e (event.Ctl g text) gift (bad_control found g (of_end c e))
refuses_control None now g text gift c e = own now g c e _ _ _ (λ _. tt)
refuses_control (Some n) now g text gift c e = own now g c e _ _ _ (λ _. same now c e _ _ (reply.BadCtl n) (refl, refl))

takes_in : (now g : ℕ) (p : Packet) (b : Body) (c : Conv) (e : End) → p.body ≡ b → g ≡ c.generation → Moves now c e (event.ArriveAt g) (given.Packet p) (arrived (Il e) b now (of_end c e))
takes_in now g p (body.Il m) c e is mine =
    turns now c (of_end c e) e (event.ArriveAt g) (given.Packet p) reply.Took (arrives now m e) refl refl refl refl (Arrival p m (ap (λ (n : ℕ). event.ArriveAt n) mine) refl is refl) (left_account c.generation (event.ArriveAt g) reply.Took e (arrives now m e).end (arrives_leaves now m e).leaves (refl, refl))
takes_in now g p (body.Udp text) c e is mine = tt

-- every step is one of these moves
pub moves : (slot : ℕ) (ev : Event) (gift : With) (now : ℕ) (c : Conv) (e : End) → c.limit ≤ 8192 → Moves now c e ev gift (conv_step slot ev gift now (of_end c e))
moves slot (event.Begin g) gift now c e small =
    raised now g c e (event.Begin g) gift _ (λ mine. Begin (record { event_is = ap (λ (n : ℕ). event.Begin n) mine; generation_is = mine; stage_is = refl; limit_is = refl; core_is = refl; emits_none = refl }))
moves slot (event.Born g) (given.Birth p start limit) now c e small =
    moves_if now c e _ _ (may_bear (Il e) p.body && may_connect (Il e) start limit) _ _
    (λ may. raised now g c e _ _ _ (λ is. comes now g p p.body start limit c e (small_limit start limit (and_parts (may_bear (Il e) p.body) (may_connect (Il e) start limit) may).1) refl (and_parts (may_bear (Il e) p.body) (may_connect (Il e) start limit) may).0 is)) (λ _. tt)
moves slot (event.Claim g) gift now c e small = own now g c e _ _ _ (λ _. same now c e _ _ reply.Ok (refl, refl))
moves slot (event.Connect g) (given.Grant pair start limit) now c e small =
    moves_if now c e _ _ (may_connect (Il e) start limit) _ _ (λ may. own now g c e _ _ _ (λ is. joins now g pair start limit c e c.stage (small_limit start limit may) refl is)) (λ _. tt)
moves slot (event.Announced g) (given.Key ip port) now c e small = own now g c e _ _ _ (λ is. opens now g ip port _ c e c.stage is refl)
moves slot (event.Bound g) (given.Key ip port) now c e small = own now g c e _ _ _ (λ _. shows_port now g port _ c e c.stage refl)
moves slot (event.Await g) gift now c e small = own now g c e _ _ _ (λ _. awaits now g _ c e)
moves slot (event.Open file mode) gift now c e small = opens_file c.opens now file mode gift c e
moves slot (event.File g file count) gift now c e small = own now g c e _ _ _ (λ _. same now c e _ _ (reply.Bytes (take count (file_text file slot (of_end c e)))) (refl, refl))
moves slot (event.Read g count) gift now c e small =
    moves_if now c e _ _ (nat_lt 0 count) _ _ (λ some. own now g c e _ _ _ (λ is. reads_at now g count _ c e c.stage (ltb-true 0 count some) is refl)) (λ _. tt)
moves slot (event.Write g text) gift now c e small = own now g c e _ _ _ (λ is. writes_at now g text _ c e c.stage small is refl)
moves slot (event.Hangup g) gift now c e small =
    own now g c e _ _ _ (λ _. turns now c (of_end c e) e _ _ (left_or_ok (core_name (Il e))) (hangs_up now e) refl refl refl refl (Hanging refl) (left_account c.generation (event.Hangup g) _ e (hangs_up now e).end (hangs_leaves e.state now e).leaves (refl, refl)))
moves slot (event.Ttl g n) gift now c e small = own now g c e _ _ _ (λ _. rests now c (record c { ttl = n }) e _ _ reply.Ok refl refl refl refl (quiet_account c.generation (event.Ttl g n) reply.Ok e (refl, refl)))
moves slot (event.Tos g n) gift now c e small = own now g c e _ _ _ (λ _. rests now c (record c { tos = n }) e _ _ reply.Ok refl refl refl refl (quiet_account c.generation (event.Tos g n) reply.Ok e (refl, refl)))
moves slot (event.Ctl g text) gift now c e small = refuses_control (refused_control (control.read text)) now g text gift c e
moves slot (event.Close g) gift now c e small = own now g c e _ _ _ (λ _. closes_at c.opens now g _ c e)
moves slot (event.ArriveAt g) (given.Packet p) now c e small =
    moves_if now c e _ _ (has_protocol (Il e) p.body) _ _ (λ _. own now g c e _ _ _ (λ is. takes_in now g p p.body c e refl is)) (λ _. tt)
moves slot (event.Tick g) gift now c e small =
    own now g c e _ _ _ (λ _. turns now c (of_end c e) e _ _ (tick_reply (timer.timer_ticks now e.timer).says) (ticks now e) refl refl refl refl (Ticking refl) (left_account c.generation (event.Tick g) _ e (ticks now e).end (ticks_leaves (timer.timer_ticks now e.timer).says (timer.timer_ticks now e.timer).timer e).leaves (refl, refl)))
moves slot event.Ls gift now c e small = lists c.opens now gift c e
moves slot _ _ now c e small = tt

-- Entries of other generations.

pub record Elsewhere (c : Conv) (ev : Event) (r : Reply) : Type 0 where
  pub silent : (g : ℕ) → (g ≡ c.generation → is_connected c.stage ≡ false) → Silent g ev r

any_if : {S : Type 0} (o : Option S) (Q : S → Type 0) → ((s : S) → Q s) → IfSome o Q
any_if None Q f = tt
any_if (Some s) Q f = f s

apart_written : (g g' : ℕ) (text : List ℕ) (r : Reply) → (g' ≡ g → ⊥) → Silent g (event.Write g' text) r
apart_written g g' text (reply.Count n) apart = (rw (ne_eqb g' g apart) refl, refl)
apart_written g g' text _ apart = (refl, refl)

apart_read : (g g' count : ℕ) (r : Reply) → (g' ≡ g → ⊥) → Silent g (event.Read g' count) r
apart_read g g' count (reply.Bytes bytes) apart = (refl, rw (ne_eqb g' g apart) refl)
apart_read g g' count _ apart = (refl, refl)

abbrev Elsewheres : Conv → Event → Option (Step Conv) → Type 0
Elsewheres c ev step = IfSome step (λ s. Elsewhere c ev s.outcome.reply)

elsewhere_own : (g : ℕ) (c : Conv) (e : End) (ev : Event) (step : Option (Step Conv)) → (g ≡ c.generation → Elsewheres c ev step) → Elsewheres c ev (in_generation g (of_end c e) step)
elsewhere_own g c e ev step f =
    cond_both (g == c.generation) _ _ (λ (o : Option (Step Conv)). Elsewheres c ev o)
    (λ is. f (eqb-true g c.generation is))
    (λ _. cond_both (nat_lt g c.generation) _ _ (λ (o : Option (Step Conv)). Elsewheres c ev o) (λ _. record { silent = λ g' _. stale_silent g' ev }) (λ _. tt))

-- in the conversation's own generation, where it is connected, any other is another
other_generation : (c : Conv) (g g' : ℕ) → c.stage ≡ Connected → g' ≡ c.generation → (g ≡ c.generation → is_connected c.stage ≡ false) → g' ≡ g → ⊥
other_generation c g g' stage mine not is = true≢false (sym (ap is_connected stage) ∙ not (sym is ∙ mine))

writes_elsewhere : (now g' : ℕ) (text : List ℕ) (c : Conv) (e : End) (s : Stage) → c.stage ≡ s → g' ≡ c.generation → Elsewheres c (event.Write g' text) (write_at s (Il e) now text (of_end c e))
writes_elsewhere now g' text c e Unused is mine = record { silent = λ g _. (refl, refl) }
writes_elsewhere now g' text c e Listening is mine = record { silent = λ g _. (refl, refl) }
writes_elsewhere now g' text c e Connected is mine =
    any_if _ (λ (s : Step Conv). Elsewhere c (event.Write g' text) s.outcome.reply) (λ s. record { silent = λ g not. apart_written g g' text s.outcome.reply (other_generation c g g' is mine not) })

reads_elsewhere : (g' count : ℕ) (c : Conv) (e : End) (s : Stage) → c.stage ≡ s → g' ≡ c.generation → Elsewheres c (event.Read g' count) (read_at s (Il e) count (of_end c e))
reads_elsewhere g' count c e Unused is mine = record { silent = λ g _. (refl, refl) }
reads_elsewhere g' count c e Listening is mine = record { silent = λ g _. (refl, refl) }
reads_elsewhere g' count c e Connected is mine =
    any_if _ (λ (s : Step Conv). Elsewhere c (event.Read g' count) s.outcome.reply) (λ s. record { silent = λ g not. apart_read g g' count s.outcome.reply (other_generation c g g' is mine not) })

pub elsewhere : (slot : ℕ) (ev : Event) (gift : With) (now : ℕ) (c : Conv) (e : End) → Elsewheres c ev (conv_step slot ev gift now (of_end c e))
elsewhere slot (event.Write g text) gift now c e = elsewhere_own g c e (event.Write g text) _ (λ mine. writes_elsewhere now g text c e c.stage refl mine)
elsewhere slot (event.Read g count) gift now c e =
    cond_both (nat_lt 0 count) _ _ (λ (o : Option (Step Conv)). Elsewheres c (event.Read g count) o)
    (λ _. elsewhere_own g c e (event.Read g count) _ (λ mine. reads_elsewhere g count c e c.stage refl mine)) (λ _. tt)
elsewhere slot ev gift now c e = any_if (conv_step slot ev gift now (of_end c e)) (λ (s : Step Conv). Elsewhere c ev s.outcome.reply) (λ s. record { silent = λ g _. (refl, refl) })
