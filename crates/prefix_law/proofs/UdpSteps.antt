-- What each step keeps of UDP: states, what a step gives, sends, reads and owes.
use Rattle.std.proofs.Common.{◌≡◌, ℕ, ◌≤◌, List, [], ◌∷◌, Option, Some, None, slice_get, refl, sym, ap, subst, arith}
use Rattle.std.specs.Prelude.{IfSome}
use Rattle.std.specs.Option.{option_map, option_and_then}
use Rattle.std.proofs.lemmas.Bool.{cond_both}
use Rattle.net_base.specs.declared.actor.ActorName.{ActorName}
use Rattle.net_base.specs.declared.actor.ActorName.TheVariants as actor
use Rattle.net_base.specs.declared.address.Pair.{Pair}
use Rattle.net_base.specs.declared.address.Proto.{Proto}
use Rattle.net_base.specs.declared.address.Proto.TheVariants as proto
use Rattle.net_base.specs.declared.event.Event.{Event}
use Rattle.net_base.specs.declared.history.With.{With}
use Rattle.net_base.specs.declared.il.IlMsg.{IlMsg}
use Rattle.net_base.specs.declared.packet.Body.TheVariants as body
use Rattle.net_base.specs.declared.packet.Packet.{Packet}
use Rattle.net_base.specs.declared.reply.Reply.{Reply}
use Rattle.net_base.specs.declared.world.HostSpec.{HostSpec}
use Rattle.net_base.specs.declared.world.MediumSpec.{MediumSpec}
use Rattle.net_base.specs.declared.world.World.{World}
use Rattle.net_base.specs.ActorStep.{Step}
use Rattle.net_base.specs.Actors.{Actor, IsDesk, IsConv, IsDir, IsMedium, IsPlain, has_actor, plain_step, step_as, table_step, actor_step}
use Rattle.net_base.specs.Conversation.{Core, Il, Udp, Stage, Unused, Listening, Connected, Conv, conv_step, packet_of}
use Rattle.net_base.specs.Desk.{Desk, desk_replies, desk_reply, desk_step, clock_reply}
use Rattle.net_base.specs.Directory.{dir_step}
use Rattle.net_base.specs.Duties.{follow_up}
use Rattle.net_base.specs.IlEnd.{End}
use Rattle.net_base.specs.Medium.{medium_step}
use Rattle.net_base.specs.Written.{Given, gave}
use Rattle.history_laws.specs.ActorRows.{seen_as}
use Rattle.history_laws.proofs.Shared.{mapped}
use Rattle.prefix_law.proofs.ConvMoves.{of_end, moves, Move, Stay, Begin, Join, Come, Listen, Emits}
use Rattle.prefix_law.proofs.Copies.{OfMedium, medium_leaves, medium_more}
use Rattle.prefix_law.proofs.Trace.{HasPlaces}
use Rattle.prefix_law.proofs.UdpConvs.{EachCame, AtStage, CoreFine, ConvFine, ReadFine, SentIf, came_more, udp_steps}
use Rattle.prefix_law.proofs.UdpDirs.{with_new, DirFine, IsNew, dir_steps}
use Rattle.prefix_law.proofs.UdpDuties.{Grows, given_to, Emitted, emitted_more, TakenAt, WithFine, EachDuty, conv_follow}

-- States.

-- an IL conversation stays one
abbrev pub IlFine : Core → ℕ → Type 0
IlFine (Il e) limit = limit ≤ 8192
IlFine (Udp e) limit = ⊥

abbrev pub StateFine : (Given → Type 0) → (Pair → List ℕ → Type 0) → ActorName → Actor → Type 0
StateFine K W (actor.Conv h proto.Udp n) (IsConv c) = ConvFine K W h n c
StateFine K W (actor.Conv h proto.Il n) (IsConv c) = IlFine c.core c.limit
StateFine K W (actor.Dir h p) (IsDir d) = DirFine K h p d.slots
StateFine K W (actor.Medium m) (IsMedium s) = OfMedium (Emitted W) s
StateFine K W (actor.Desk h) s = Unit {0}
StateFine K W actor.Clock s = Unit {0}
StateFine K W _ _ = ⊥

module _ (K L : Given → Type 0) (W V : Pair → List ℕ → Type 0) (more : Grows K L W V) where
  each_came_more : (h n g : ℕ) (texts : List (List ℕ)) → EachCame K W h n g texts → EachCame L V h n g texts
  each_came_more h n g [] f = tt
  each_came_more h n g (text ∷ texts) f = (came_more K L W V h n g text more.given_stays more.written_stays f.0, each_came_more h n g texts f.1)

  at_stage_more : (h n g : ℕ) (pair : Pair) (s : Stage) → AtStage K h n g pair s → AtStage L h n g pair s
  at_stage_more h n g pair Connected f = more.given_stays _ f
  at_stage_more h n g pair Unused f = tt
  at_stage_more h n g pair Listening f = tt

  conv_more : (h n : ℕ) (c : Conv) (core : Core) → CoreFine K W h n c core → CoreFine L V h n c core
  conv_more h n c (Il e) f = absurd f
  conv_more h n c (Udp e) f = (at_stage_more h n c.generation c.pair c.stage f.0, each_came_more h n c.generation e.unread f.1)

  -- where nothing more is known of the directory's own conversations
  pub state_more : (a : ActorName) → ((g : Given) → a ≡ actor.Dir g.to.host g.to.proto → L g → K g) → (s : Actor) → StateFine K W a s → StateFine L V a s
  state_more (actor.Conv h proto.Udp n) back (IsConv c) f = conv_more h n c c.core f
  state_more (actor.Conv h proto.Il n) back (IsConv c) f = f
  state_more (actor.Dir h p) back (IsDir d) f = λ n s is.
      let slot = f n s is in
      record {
        has = λ q same. more.given_stays _ (slot.has q same);
        past = λ q g there. slot.past q g (back (given_to h p n g q) refl there);
        unused = λ r q g there. slot.unused r q g (back (given_to h p n g q) refl there);
      }
  state_more (actor.Medium m) back (IsMedium s) f = medium_more (Emitted W) (Emitted V) s (emitted_more W V more.written_stays) f
  state_more (actor.Desk h) back s f = tt
  state_more actor.Clock back s f = tt
  state_more _ back _ f = absurd f

-- One step.

pub record Next (w : World) (K : Given → Type 0) (W : Pair → List ℕ → Type 0) (stamp : ℕ) (a : ActorName) (ev : Event) (gift : With) (s : Step Actor) : Type 0 where
  pub fine : StateFine (with_new (gave a ev gift s.outcome.reply) K) W a s.state
  pub new : IfSome (gave a ev gift s.outcome.reply) (λ g. IsNew w K a g)
  pub sent : SentIf K a ev s.outcome.reply s.outcome.emit
  pub taken : TakenAt W a s.outcome.taken
  pub follow : EachDuty w (with_new (gave a ev gift s.outcome.reply) K) W (follow_up a stamp ev gift s.outcome.reply)
  pub read : ReadFine K W a ev s.outcome.reply

module _ (w : World) (world : HasPlaces w) (K : Given → Type 0) (W : Pair → List ℕ → Type 0) (stamp now : ℕ) (ev : Event) (gift : With) where
  abbrev Leaves : ActorName → Step Actor → Type 0
  Leaves a s = Next w K W stamp a ev gift s

  abbrev LeavesIf : ActorName → Actor → Type 0
  LeavesIf a s = IfSome (table_step w a s now (record { event = ev; with = gift })) (λ s. Leaves a s)

  -- An IL conversation says nothing of UDP.

  il_said : (h n : ℕ) (r : Reply) (by : Conv) (m : Option IlMsg) → SentIf K (actor.Conv h proto.Il n) ev r (option_map (λ (x : IlMsg). packet_of by (body.Il x)) m)
  il_said h n r by None = tt
  il_said h n r by (Some m) = tt

  il_sent : (h n : ℕ) (r : Reply) (pair : Pair) (emit : Option Packet) (m : Option IlMsg) → Emits pair emit m → SentIf K (actor.Conv h proto.Il n) ev r emit
  il_sent h n r pair emit m e = subst (λ (o : Option Packet). SentIf K (actor.Conv h proto.Il n) ev r o) (sym e.emit_is) (il_said h n r e.by m)

  il_silent : (h n : ℕ) (r : Reply) (emit : Option Packet) → emit ≡ None → SentIf K (actor.Conv h proto.Il n) ev r emit
  il_silent h n r emit is = subst (λ (o : Option Packet). SentIf K (actor.Conv h proto.Il n) ev r o) (sym is) tt

  il_leaves : (h n : ℕ) (s : Step Conv) → IlFine s.state.core s.state.limit → SentIf K (actor.Conv h proto.Il n) ev s.outcome.reply s.outcome.emit → Leaves (actor.Conv h proto.Il n) (seen_as IsConv s)
  il_leaves h n s fine sent = record { fine = fine; new = tt; sent = sent; taken = tt; follow = conv_follow w K W h proto.Il n stamp ev gift s.outcome.reply; read = tt }

  il_moved : (h n : ℕ) (c : Conv) (e : End) (s : Step Conv) → c.limit ≤ 8192 → Move now c e ev gift s → Leaves (actor.Conv h proto.Il n) (seen_as IsConv s)
  il_moved h n c e s small (Stay turn act st) = il_leaves h n s (rw (st.core_is, st.limit_is) small) (il_sent h n s.outcome.reply c.pair s.outcome.emit turn.emits st.emits)
  il_moved h n c e s small (Begin b) = il_leaves h n s (rw (b.core_is, b.limit_is) (omega arith)) (il_silent h n s.outcome.reply s.outcome.emit b.emits_none)
  il_moved h n c e s small (Join j) = il_leaves h n s (rw j.core_is j.limited) (il_sent h n s.outcome.reply j.pair s.outcome.emit _ j.emits)
  il_moved h n c e s small (Come x) = il_leaves h n s (rw x.core_is x.limited) (il_sent h n s.outcome.reply _ s.outcome.emit _ x.emits)
  il_moved h n c e s small (Listen o) = il_leaves h n s (rw (o.core_is, o.limit_is) small) (il_silent h n s.outcome.reply s.outcome.emit o.emits_none)

  il_next : (h n : ℕ) (a : Actor) → StateFine K W (actor.Conv h proto.Il n) a → LeavesIf (actor.Conv h proto.Il n) a
  il_next h n (IsConv c) fine = by_core c.core refl fine
    where
      by_core : (core : Core) → c.core ≡ core → IlFine core c.limit → LeavesIf (actor.Conv h proto.Il n) (IsConv c)
      by_core (Udp e) is f = absurd f
      by_core (Il e) is f =
          subst (λ (d : Conv). LeavesIf (actor.Conv h proto.Il n) (IsConv d)) (ap (λ (x : Core). record c { core = x }) (sym is))
          (mapped (seen_as IsConv) (conv_step n ev gift now (of_end c e)) _ _ (moves n ev gift now c e f) (λ s move. il_moved h n c e s f move))
  il_next h n _ fine = absurd fine

  -- A UDP conversation.

  udp_next : (h n : ℕ) (a : Actor) → StateFine K W (actor.Conv h proto.Udp n) a → WithFine w K W (actor.Conv h proto.Udp n) ev gift → LeavesIf (actor.Conv h proto.Udp n) a
  udp_next h n (IsConv c) fine got = by_core c.core refl fine
    where
      by_core : (core : Core) → c.core ≡ core → CoreFine K W h n c core → LeavesIf (actor.Conv h proto.Udp n) (IsConv c)
      by_core (Il e) is f = absurd f
      by_core (Udp e) is f =
          subst (λ (d : Conv). LeavesIf (actor.Conv h proto.Udp n) (IsConv d)) (ap (λ (x : Core). record c { core = x }) (sym is))
          (mapped (seen_as IsConv) (conv_step n ev gift now (record c { core = Udp e })) _ _ (udp_steps K W h n ev gift now c e f got)
          (λ s step. record { fine = step.fine; new = tt; sent = step.sent; taken = tt; follow = conv_follow w K W h proto.Udp n stamp ev gift s.outcome.reply; read = step.read }))
  udp_next h n _ fine got = absurd fine

  -- Directories, media and the rest.

  dir_next : (h : ℕ) (p : Proto) (a : Actor) → StateFine K W (actor.Dir h p) a → WithFine w K W (actor.Dir h p) ev gift → LeavesIf (actor.Dir h p) a
  dir_next h p (IsDir d) fine got =
      mapped (seen_as IsDir) (dir_step w h p ev gift d) _ _ (dir_steps w world K W h p stamp ev gift d fine got)
      (λ s step. record { fine = step.fine; new = step.new; sent = step.sent; taken = tt; follow = step.follow; read = tt })
  dir_next h p _ fine got = absurd fine

  medium_next : (m : ℕ) (a : Actor) → StateFine K W (actor.Medium m) a → WithFine w K W (actor.Medium m) ev gift → LeavesIf (actor.Medium m) a
  medium_next m (IsMedium x) fine got = by_spec (slice_get w.media m)
    where
      by_spec : (found : Option MediumSpec) → IfSome (option_and_then (λ (spec : MediumSpec). option_map (seen_as IsMedium) (medium_step spec w.seed ev gift x)) found) (λ s. Leaves (actor.Medium m) s)
      by_spec None = tt
      by_spec (Some spec) =
          mapped (seen_as IsMedium) (medium_step spec w.seed ev gift x) _ _ (medium_leaves (Emitted W) spec w.seed ev gift x fine got)
          (λ s step. record { fine = step.fine; new = tt; sent = subst (λ (o : Option Packet). SentIf K (actor.Medium m) ev s.outcome.reply o) (sym step.emits_none) tt; taken = step.taken; follow = tt; read = tt })
  medium_next m _ fine got = absurd fine

  plain_next : (a : ActorName) (r : Option Reply) → ((r' : Reply) → Leaves a (plain_step r')) → IfSome (option_map plain_step r) (λ s. Leaves a s)
  plain_next a None f = tt
  plain_next a (Some r) f = f r

  desk_answers : (h : ℕ) (d : Desk) (r : Option Reply) → IfSome (step_as IsDesk (option_map (desk_replies d) r)) (λ s. Leaves (actor.Desk h) s)
  desk_answers h d None = tt
  desk_answers h d (Some r) = record { fine = tt; new = tt; sent = tt; taken = tt; follow = tt; read = tt }

  desk_next : (h : ℕ) (d : Desk) (found : Option HostSpec) → IfSome (option_and_then (λ (host : HostSpec). step_as IsDesk (desk_step w.dbs host ev now d)) found) (λ s. Leaves (actor.Desk h) s)
  desk_next h d None = tt
  desk_next h d (Some host) = desk_answers h d (desk_reply w.dbs host ev now d)

  table_next : (a : ActorName) (s : Actor) → StateFine K W a s → WithFine w K W a ev gift → LeavesIf a s
  table_next (actor.Conv h proto.Il n) s fine got = il_next h n s fine
  table_next (actor.Conv h proto.Udp n) s fine got = udp_next h n s fine got
  table_next (actor.Dir h p) s fine got = dir_next h p s fine got
  table_next (actor.Medium m) s fine got = medium_next m s fine got
  table_next (actor.Desk h) (IsDesk d) fine got = desk_next h d (slice_get w.hosts h)
  table_next (actor.Desk h) IsPlain fine got = tt
  table_next (actor.Desk h) (IsDir d) fine got = tt
  table_next (actor.Desk h) (IsConv c) fine got = tt
  table_next (actor.Desk h) (IsMedium m) fine got = tt
  table_next actor.Clock IsPlain fine got = plain_next actor.Clock (clock_reply ev) (λ r. record { fine = tt; new = tt; sent = tt; taken = tt; follow = tt; read = tt })
  table_next actor.Clock (IsDesk d) fine got = tt
  table_next actor.Clock (IsDir d) fine got = tt
  table_next actor.Clock (IsConv c) fine got = tt
  table_next actor.Clock (IsMedium m) fine got = tt

  pub next : (a : ActorName) (s : Actor) → StateFine K W a s → WithFine w K W a ev gift → IfSome (actor_step w a s now (record { event = ev; with = gift })) (λ s. Leaves a s)
  next a s fine got = cond_both (has_actor w a) (table_step w a s now (record { event = ev; with = gift })) None (λ (o : Option (Step Actor)). IfSome o (λ t. Leaves a t)) (λ _. table_next a s fine got) (λ _. tt)
