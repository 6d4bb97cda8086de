-- What a step leaves of the moment at which a conversation is due.
use Rattle.std.proofs.Common.{◌≡◌, ℕ, ◌≤◌, ◌==◌, false, Option, Some, None, ◌⊎◌, inl, inr, refl, sym, ap, subst, ◌∙◌, arith}
use Rattle.std.specs.Prelude.{IfSome}
use Rattle.std.proofs.lemmas.Bool.{cond_both, eq-eqb}
use Rattle.net_base.specs.declared.timer.Timers.{Timers}
use Rattle.net_base.specs.declared.actor.ActorName.{ActorName}
use Rattle.net_base.specs.declared.actor.ActorName.TheVariants as name
use Rattle.net_base.specs.declared.address.Proto.{Proto}
use Rattle.net_base.specs.declared.address.Proto.TheVariants as proto
use Rattle.net_base.specs.declared.event.Event.{Event}
use Rattle.net_base.specs.declared.event.Event.TheVariants as event
use Rattle.net_base.specs.declared.history.With.{With}
use Rattle.net_base.specs.declared.history.Work.{Work}
use Rattle.net_base.specs.declared.world.World.{World}
use Rattle.net_base.specs.ActorStep.{Step}
use Rattle.net_base.specs.Actors.{Actor, IsDesk, IsDir, IsConv, IsMedium, IsPlain, actor_step, has_actor, opening_actor, opening_core, table_step}
use Rattle.net_base.specs.Conversation.{Conv, Core, Il, Udp, conv_step, ticked}
use Rattle.net_base.specs.Duties.{due_of, due_of_core, generation_of}
use Rattle.net_base.specs.IlEnd.{End, Turn}
use Rattle.history_laws.specs.ActorRows.{ActorRow, AtDesk, AtDir, AtConv, AtMedium, AtClock, seen_as}
use Rattle.history_laws.proofs.Shared.{map_some, mapped, table_rows}
use Rattle.prefix_law.proofs.ConvMoves.{Act, Rest, Arrival, Writing, Reading, Hanging, Ticking, Move, Stay, Begin, Join, Come, Listen, of_end, moves}
use Rattle.prefix_law.proofs.Deeds.{both_ways}
use Rattle.prefix_law.proofs.OtherSteps.{IsUdp, udp_steps}
use Rattle.prefix_law.proofs.Waits.{Beyond, Runs, EndLater, end_kept, arrives_later, hangs_up_later, writes_later, reads_later, waits_later, ticks_wait, some_base}

-- an IL conversation's limit is small, and what it waits for it has waited for a while
abbrev pub Timed : Core → ℕ → Type 0
Timed (Il e) limit = (limit ≤ 8192) × Runs e.timer.due e.timer.interval
Timed (Udp e) limit = Unit {0}

-- a conversation after a step at this moment: its due moment is as it was, in the same generation, or beyond now
pub record ConvLater (now : ℕ) (c d : Conv) : Type 0 where
  pub timed : Timed d.core d.limit
  pub due : ((due_of_core d.core ≡ due_of_core c.core) × (d.generation ≡ c.generation)) ⊎ Beyond now (due_of_core d.core)

act_later : (now : ℕ) (c : Conv) (e : End) (ev : Event) (gift : With) (t : Turn) → Runs e.timer.due e.timer.interval → Act now c e ev gift t → EndLater now e t.end
act_later now c e ev gift t runs (Rest is) = subst (λ (u : Turn). EndLater now e u.end) (sym is) (end_kept now e)
act_later now c e ev gift t runs (Arrival p m a b d is) = subst (λ (u : Turn). EndLater now e u.end) (sym is) (arrives_later now m e)
act_later now c e ev gift t runs (Writing text a b is) = subst (λ (u : Turn). EndLater now e u.end) (sym is) (writes_later now text e)
act_later now c e ev gift t runs (Reading count a is) = subst (λ (u : Turn). EndLater now e u.end) (sym is) (reads_later now count e)
act_later now c e ev gift t runs (Hanging is) = subst (λ (u : Turn). EndLater now e u.end) (sym is) (hangs_up_later now e)
act_later now c e ev gift t runs (Ticking is) = subst (λ (u : Turn). EndLater now e u.end) (sym is) (waits_later now e.timer _ (ticks_wait now e runs))

-- the conversation has this core and this limit
timed_as : (c : Conv) (k : Core) (limit : ℕ) → c.core ≡ k → c.limit ≡ limit → Timed k limit → Timed c.core c.limit
timed_as c k limit core same t = subst (λ (l : Core). Timed l c.limit) (sym core) (subst (λ (n : ℕ). Timed k n) (sym same) t)

beyond_as : (now : ℕ) (c : Conv) (k : Core) → c.core ≡ k → Beyond now (due_of_core k) → Beyond now (due_of_core c.core)
beyond_as now c k core b = subst (λ (l : Core). Beyond now (due_of_core l)) (sym core) b

moved : (now : ℕ) (c : Conv) (e : End) (ev : Event) (gift : With) (s : Step Conv) → Timed (Il e) c.limit → Move now c e ev gift s → ConvLater now (of_end c e) s.state
moved now c e ev gift s t (Stay turn act stays) =
    let later = act_later now c e ev gift turn t.1 act in
    record {
      timed = timed_as s.state (Il turn.end) c.limit stays.core_is stays.limit_is (t.0, later.runs t.1);
      due = elim later.due [
        | inl same ↦ inl (ap due_of_core stays.core_is ∙ same, stays.generation_is)
        | inr beyond ↦ inr (beyond_as now s.state (Il turn.end) stays.core_is beyond)
      ];
    }
moved now c e ev gift s t (Begin begins) = record {
  timed = timed_as s.state _ 0 begins.core_is begins.limit_is (omega arith, tt);
  due = inr (beyond_as now s.state _ begins.core_is tt);
}
moved now c e ev gift s t (Join joins) =
    let waits = some_base e.timer.timers e.timer.measured e.timer.mean e.timer.dev in
    record {
      timed = timed_as s.state _ s.state.limit joins.core_is refl (joins.limited, waits);
      due = inr (beyond_as now s.state _ joins.core_is (omega (arith, waits)));
    }
moved now c e ev gift s t (Come comes) =
    let waits = some_base e.timer.timers false 0 0 in
    record {
      timed = timed_as s.state _ s.state.limit comes.core_is refl (comes.limited, waits);
      due = inr (beyond_as now s.state _ comes.core_is (omega (arith, waits)));
    }
moved now c e ev gift s t (Listen opens) = record {
  timed = timed_as s.state _ c.limit opens.core_is opens.limit_is t;
  due = inl (ap due_of_core opens.core_is, opens.generation_is);
}

udp_later : (now : ℕ) (c d : Conv) (k : Core) → d.core ≡ k → IsUdp k → ConvLater now c d
udp_later now c d (Il e) is udp = absurd udp
udp_later now c d (Udp e) is udp = record { timed = timed_as d (Udp e) d.limit is refl tt; due = inr (beyond_as now d (Udp e) is tt) }

conv_later : (slot : ℕ) (ev : Event) (gift : With) (now : ℕ) (c : Conv) (k : Core) → Timed k c.limit → IfSome (conv_step slot ev gift now (record c { core = k })) (λ (s : Step Conv). ConvLater now (record c { core = k }) s.state)
conv_later slot ev gift now c (Il e) t = map_some _ _ _ (moves slot ev gift now c e t.0) (λ (s : Step Conv) move. moved now c e ev gift s t move)
conv_later slot ev gift now c (Udp e) t = map_some _ _ _ (udp_steps slot ev gift now c e) (λ (s : Step Conv) udp. udp_later now (record c { core = Udp e }) s.state s.state.core refl udp.0)

-- a tick of the conversation's own generation
tick_waits : (slot g : ℕ) (gift : With) (now : ℕ) (c : Conv) (k : Core) → Timed k c.limit → g ≡ c.generation → IfSome (conv_step slot (event.Tick g) gift now (record c { core = k })) (λ (s : Step Conv). Beyond now (due_of_core s.state.core))
tick_waits slot g gift now c k t mine =
    cond_both (g == c.generation) _ _ (λ (o : Option (Step Conv)). IfSome o (λ (s : Step Conv). Beyond now (due_of_core s.state.core)))
    (λ same. by k t)
    (λ other. absurd (both_ways (eq-eqb g c.generation mine) other))
  where
    by : (l : Core) → Timed l c.limit → Beyond now (due_of_core (ticked l now (record c { core = l })).state.core)
    by (Il e) t = (ticks_wait now e t.1).1
    by (Udp e) t = tt

-- Actors.

abbrev pub TimedActor : Actor → Type 0
TimedActor (IsConv c) = Timed c.core c.limit
TimedActor _ = Unit {0}

pub record ActorLater (now : ℕ) (b after : Actor) : Type 0 where
  pub timed : TimedActor after
  pub due : ((due_of after ≡ due_of b) × (generation_of after ≡ generation_of b)) ⊎ Beyond now (due_of after)

-- no conversation waits
abbrev IsOther : ActorName → Actor → Type 0
IsOther (name.Conv h p n) (IsConv c) = ⊥
IsOther _ _ = Unit {0}

not_conv : (now : ℕ) (b after : Actor) → TimedActor after → due_of after ≡ None → ActorLater now b after
not_conv now b after t none = record { timed = t; due = inr (subst (λ (o : Option ℕ). Beyond now o) (sym none) tt) }

other_later : (w : World) (now : ℕ) (a : ActorName) (b : Actor) (e : Event) (gift : With) (s : Step Actor) → IsOther a b → ActorRow w now a b e gift s → ActorLater now b s.state
other_later w now a b e gift s other (AtConv row) = absurd other
other_later w now a b e gift s other (AtDesk {d = d} there row) = not_conv now (IsDesk d) _ tt refl
other_later w now a b e gift s other (AtDir {d = d} row) = not_conv now (IsDir d) _ tt refl
other_later w now a b e gift s other (AtMedium {m = m} there row) = not_conv now (IsMedium m) _ tt refl
other_later w now a b e gift s other AtClock = not_conv now IsPlain IsPlain tt refl

table_later : (w : World) (a : ActorName) (b : Actor) (now : ℕ) (work : Work) → TimedActor b → IfSome (table_step w a b now work) (λ (s : Step Actor). ActorLater now b s.state)
table_later w (name.Conv h p n) (IsConv c) now work t =
    mapped (seen_as IsConv) (conv_step n work.event work.with now c) _ _ (conv_later n work.event work.with now c c.core t) (λ s x. record { timed = x.timed; due = x.due })
table_later w a b now work t =
    map_some (table_step w a b now work) _ _ (table_rows w now a b work) (λ s row. other_later w now a b work.event work.with s tt row)

-- what holds of each step of its table holds of an actor's step
of_step : (w : World) (a : ActorName) (b : Actor) (now : ℕ) (work : Work) (s : Step Actor) (P : Step Actor → Type 0) → IfSome (table_step w a b now work) P
    → actor_step w a b now work ≡ Some s → P s
of_step w a b now work s P all is =
    subst (λ (o : Option (Step Actor)). IfSome o P) is
    (cond_both (has_actor w a) (table_step w a b now work) None (λ (o : Option (Step Actor)). IfSome o P) (λ _. all) (λ _. tt))

pub actor_later : (w : World) (a : ActorName) (b : Actor) (now : ℕ) (work : Work) (s : Step Actor) → TimedActor b → actor_step w a b now work ≡ Some s → ActorLater now b s.state
actor_later w a b now work s t is = of_step w a b now work s (λ (u : Step Actor). ActorLater now b u.state) (table_later w a b now work t) is

abbrev pub IsConvName : ActorName → Type 0
IsConvName (name.Conv h p n) = Unit {0}
IsConvName _ = ⊥

-- a tick at a conversation, of its own generation
pub tick_later : (w : World) (a : ActorName) (b : Actor) (now : ℕ) (with : With) (g : ℕ) (s : Step Actor) → IsConvName a → TimedActor b → g ≡ generation_of b → actor_step w a b now (record { event = event.Tick g; with = with }) ≡ Some s → Beyond now (due_of s.state)
tick_later w a b now with g s conv t mine is =
    of_step w a b now (record { event = event.Tick g; with = with }) s (λ (u : Step Actor). Beyond now (due_of u.state)) (by a b conv t mine) is
  where
    by : (a : ActorName) (b : Actor) → IsConvName a → TimedActor b → g ≡ generation_of b
        → IfSome (table_step w a b now (record { event = event.Tick g; with = with })) (λ (u : Step Actor). Beyond now (due_of u.state))
    by (name.Conv h p n) (IsConv c) conv t mine = mapped (seen_as IsConv) (conv_step n (event.Tick g) with now c) _ _ (tick_waits n g with now c c.core t mine) (λ u x. x)
    by (name.Conv h p n) _ conv t mine = tt
    by _ b conv t mine = absurd conv

core_timed : (timers : Timers) (p : Proto) → Timed (opening_core timers p) 0
core_timed timers proto.Il = (omega arith, tt)
core_timed timers proto.Udp = tt

pub timed_opening : (timers : Timers) (a : ActorName) → TimedActor (opening_actor timers a)
timed_opening timers (name.Conv h p n) = core_timed timers p
timed_opening timers (name.Dir h p) = tt
timed_opening timers (name.Medium m) = tt
timed_opening timers (name.Desk h) = tt
timed_opening timers name.Clock = tt
