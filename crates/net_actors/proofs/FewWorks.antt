-- An actor has sent, got and laid no more than works led to it.
use Rattle.std.proofs.Common.{◌≡◌, ℕ, zero, suc, ◌+◌, ◌<◌, ◌≤◌, ◌^◌, ◌==◌, Bool, true, false, nat_lt, nat_le, is_some, List, [], ◌∷◌, length, Option, Some, None, if◌then◌else◌, refl, sym, subst, ◌∙◌, arith, length-append}
use Rattle.std.specs.Prelude.{◌&&◌, ◌||◌, IfSome}
use Rattle.std.proofs.lemmas.Option.{none-some}
use Rattle.net_base.specs.declared.timer.Timers.{Timers}
use Rattle.net_base.specs.declared.actor.ActorName.{ActorName}
use Rattle.net_base.specs.declared.actor.ActorName.TheVariants as name
use Rattle.net_base.specs.declared.address.Proto.TheVariants as proto
use Rattle.net_base.specs.declared.event.Event.{Event}
use Rattle.net_base.specs.declared.history.With.{With}
use Rattle.net_base.specs.declared.history.Work.{Work}
use Rattle.net_base.specs.declared.il.IlKind.{IlKind}
use Rattle.net_base.specs.declared.il.IlKind.TheVariants as kind
use Rattle.net_base.specs.declared.il.IlMsg.{IlMsg}
use Rattle.net_base.specs.declared.il.IlState.{IlState}
use Rattle.net_base.specs.declared.il.IlState.TheVariants as state
use Rattle.net_base.specs.declared.timer.Tick.{Tick}
use Rattle.net_base.specs.declared.timer.Tick.TheVariants as tick
use Rattle.net_base.specs.declared.world.MediumSpec.{MediumSpec}
use Rattle.net_base.specs.declared.world.World.{World}
use Rattle.net_base.specs.ActorStep.{Step}
use Rattle.net_base.specs.Actors.{Actor, IsDesk, IsDir, IsConv, IsMedium, IsPlain, actor_step, opening_actor}
use Rattle.net_base.specs.Conversation.{Conv, Core, Il, Udp, core_announced, fresh_like}
use Rattle.net_base.specs.IlEnd as end
use Rattle.net_base.specs.IlEnd.{Early, End, Turn}
use Rattle.net_base.specs.IlTable as table
use Rattle.net_base.specs.Medium.{Medium}
use Rattle.net_base.specs.Net.{WorkAt, play, played, stepped_to}
use Rattle.net_base.specs.Number.{number}
use Rattle.net_base.specs.Timer as timer
use Rattle.net_base.specs.Timer.{Timer}
use Rattle.net_actors.specs.Small.{IsSmallActor}
use Rattle.history_laws.specs.ActorRows.{ActorRow, AtDesk, AtDir, AtConv, AtMedium, AtClock, Lays, MediumRow}
use Rattle.history_laws.specs.ConvRows.{ConvRow}
use Rattle.history_laws.specs.ConvRows as row
use Rattle.history_laws.proofs.Shared.{actor_rows, map_some}

either : {A : Type 0} (P : A → Type 0) (b : Bool) (x y : A) → P x → P y → P (if b then x else y)
either P true x y h k = h
either P false x y h k = k

one_more : (n : ℕ) → n ≤ n + 1
one_more n = omega arith

-- IL ends.

-- how many messages an end has sent, got, and keeps for their turn
abbrev end_size : End → ℕ
end_size e = length e.sent + (length e.got + length e.early)

acked : (now : ℕ) (k : Option ℕ) (e : End) → end_size (end.acked_to now k e) ≡ end_size e
acked now None e = refl
acked now (Some k) e = either (λ (x : End). end_size x ≡ end_size e) (nat_le k (length e.sent)) _ e refl refl

heard : (now : ℕ) (m : IlMsg) (e : End) → end_size (end.hears_ack now m e) ≡ end_size e
heard now m e = acked now (number e.start m.ack e.acked) (end.hears now e)

early_more : (k : Option ℕ) (text : List ℕ) (e : End) → end_size (end.becomes_early k text e) ≤ end_size e + 1
early_more None text e = omega arith
early_more (Some k) text e =
    either (λ (x : End). end_size x ≤ end_size e + 1) (is_some (end.early_at k e.early) || nat_le 64 (end.backlog e)) e _ (omega arith) (omega arith)

one_less : (k : ℕ) (xs : List Early) (text : List ℕ) → end.early_at k xs ≡ Some text → length (end.without_early k xs) + 1 ≡ length xs
one_less k [] text is = absurd (none-some text is)
one_less k (x ∷ xs) text is = at_head (one_less k xs text) (x.number == k) is
  where
    at_head : (end.early_at k xs ≡ Some text → length (end.without_early k xs) + 1 ≡ length xs) → (b : Bool)
        → (if b then Some x.text else end.early_at k xs) ≡ Some text → length (if b then xs else x ∷ end.without_early k xs) + 1 ≡ length (x ∷ xs)
    at_head rec true found = omega arith
    at_head rec false found = let r = rec found in omega (arith, r)

in_turn : (t : Option (List ℕ)) (e : End) → end.early_at (length e.got + 1) e.early ≡ t → end_size (end.comes_in_turn t e) ≡ end_size e
in_turn None e is = refl
in_turn (Some text) e is =
    let less = one_less (length e.got + 1) e.early text is in
    let more = length-append e.got (text ∷ []) in
    omega (arith, less, more)

all_in_turn : (n : ℕ) (e : End) → end_size (end.come_in_turn n e) ≡ end_size e
all_in_turn zero e = refl
all_in_turn (suc n) e =
    all_in_turn n (end.comes_in_turn (end.early_at (length e.got + 1) e.early) e) ∙ in_turn (end.early_at (length e.got + 1) e.early) e refl

accepted : (m : IlMsg) (e : End) → end_size (end.accepts m e) ≤ end_size e + 1
accepted m e =
    let with_it = end.becomes_early (number (end.rstart_of e) m.id (length e.got)) m.text e in
    let same = all_in_turn (length with_it.early) with_it in
    let more = early_more (number (end.rstart_of e) m.id (length e.got)) m.text e in
    omega (arith, same, more)

-- a turn of the end
abbrev Fits : End → Turn → Type 0
Fits e t = end_size t.end ≤ end_size e + 1

same_fits : (e : End) (n : ℕ) → n ≡ end_size e → n ≤ end_size e + 1
same_fits e n is = omega (arith, is)

asked : (now : ℕ) (m : IlMsg) (e : End) → end_size (end.hears_ack now m e) ≤ end_size e + 1
asked now m e = same_fits e _ (heard now m e)

got_one : (now : ℕ) (m : IlMsg) (e : End) → end_size (end.accepts m (end.hears_ack now m e)) ≤ end_size e + 1
got_one now m e = let a = accepted m (end.hears_ack now m e) in let h = heard now m e in omega (arith, a, h)

at_syncer : (k : IlKind) (now : ℕ) (m : IlMsg) (e : End) → Fits e (table.at_syncer k now m e)
at_syncer kind.Sync now m e = either (Fits e) (m.ack == e.start) _ _ (one_more (end_size e)) (one_more (end_size e))
at_syncer kind.Close now m e = either (Fits e) ((m.spec == 1) && (m.ack == e.start)) _ _ (one_more (end_size e)) (one_more (end_size e))
at_syncer kind.Data now m e = one_more (end_size e)
at_syncer kind.DataQuery now m e = one_more (end_size e)
at_syncer kind.Ack now m e = one_more (end_size e)
at_syncer kind.Query now m e = one_more (end_size e)
at_syncer kind.State now m e = one_more (end_size e)

retransmitted : (e e0 : End) (other : Turn) → end_size e ≤ end_size e0 + 1 → Fits e0 other → Fits e0 (end.retransmits e other)
retransmitted e e0 other h k = either (Fits e0) (end.has_unacked e) _ other h k

at_established : (k : IlKind) (now : ℕ) (m : IlMsg) (e : End) → Fits e (table.at_established k now m e)
at_established kind.Sync now m e = either (Fits e) (m.id == end.rstart_of e) _ _ (one_more (end_size e)) (one_more (end_size e))
at_established kind.Data now m e = got_one now m e
at_established kind.DataQuery now m e =
    either (Fits e) (is_some (number (end.rstart_of e) m.id (length (end.accepts m (end.hears_ack now m e)).got))) _ _ (got_one now m e) (got_one now m e)
at_established kind.Ack now m e = asked now m e
at_established kind.Query now m e = asked now m e
at_established kind.State now m e = retransmitted (end.hears_ack now m e) e _ (asked now m e) (asked now m e)
at_established kind.Close now m e =
    either (Fits e) (m.spec == 0) _ _ (either (Fits e) (m.id == end.recvd e) _ _ (asked now m e) (asked now m e)) (one_more (end_size e))

at_syncee : (k : IlKind) (now : ℕ) (m : IlMsg) (e : End) → Fits e (table.at_syncee k now m e)
at_syncee kind.Sync now m e = either (Fits e) (m.id == end.rstart_of e) _ _ (one_more (end_size e)) (one_more (end_size e))
at_syncee kind.Data now m e = either (Fits e) _ _ _ (at_established kind.Data now m (end.establishes (end.hears now e))) (one_more (end_size e))
at_syncee kind.DataQuery now m e = either (Fits e) _ _ _ (at_established kind.DataQuery now m (end.establishes (end.hears now e))) (one_more (end_size e))
at_syncee kind.Ack now m e = either (Fits e) _ _ _ (at_established kind.Ack now m (end.establishes (end.hears now e))) (one_more (end_size e))
at_syncee kind.Query now m e = either (Fits e) _ _ _ (at_established kind.Query now m (end.establishes (end.hears now e))) (one_more (end_size e))
at_syncee kind.State now m e = either (Fits e) _ _ _ (at_established kind.State now m (end.establishes (end.hears now e))) (one_more (end_size e))
at_syncee kind.Close now m e = either (Fits e) _ _ _ (at_established kind.Close now m (end.establishes (end.hears now e))) (one_more (end_size e))

at_closing : (k : IlKind) (now : ℕ) (m : IlMsg) (e : End) → Fits e (table.at_closing k now m e)
at_closing kind.Sync now m e = one_more (end_size e)
at_closing kind.Data now m e = asked now m e
at_closing kind.DataQuery now m e = asked now m e
at_closing kind.Query now m e = asked now m e
at_closing kind.Ack now m e = asked now m e
at_closing kind.State now m e = retransmitted (end.hears_ack now m e) e _ (asked now m e) (asked now m e)
at_closing kind.Close now m e = either (Fits e) (m.spec == 0) _ _ (asked now m e) (one_more (end_size e))

at_closed : (k : IlKind) (now : ℕ) (m : IlMsg) (e : End) → Fits e (table.at_closed k now m e)
at_closed kind.Close now m e = either (Fits e) (e.closed_by_peer && (m.spec == 0)) _ _ (one_more (end_size e)) (one_more (end_size e))
at_closed kind.Sync now m e = one_more (end_size e)
at_closed kind.Data now m e = one_more (end_size e)
at_closed kind.DataQuery now m e = one_more (end_size e)
at_closed kind.Ack now m e = one_more (end_size e)
at_closed kind.Query now m e = one_more (end_size e)
at_closed kind.State now m e = one_more (end_size e)

in_row : (s : IlState) (k : IlKind) (now : ℕ) (m : IlMsg) (e : End) → Fits e (table.row s k now m e)
in_row state.Syncer k now m e = at_syncer k now m e
in_row state.Syncee k now m e = at_syncee k now m e
in_row state.Established k now m e = at_established k now m e
in_row state.Closing k now m e = at_closing k now m e
in_row state.Closed k now m e = at_closed k now m e
in_row state.Listening k now m e = one_more (end_size e)

arrived : (now : ℕ) (m : IlMsg) (e : End) → Fits e (table.arrives now m e)
arrived now m e = either (Fits e) (table.is_sized m.kind (length m.text)) _ _ (in_row e.state m.kind now m e) (one_more (end_size e))

hung_up_at : (s : IlState) (now : ℕ) (e : End) → Fits e (table.hangs_up_at s now e)
hung_up_at state.Syncer now e = one_more (end_size e)
hung_up_at state.Syncee now e = one_more (end_size e)
hung_up_at state.Established now e = one_more (end_size e)
hung_up_at state.Listening now e = one_more (end_size e)
hung_up_at state.Closed now e = one_more (end_size e)
hung_up_at state.Closing now e = one_more (end_size e)

sent_one : (now : ℕ) (text : List ℕ) (e : End) → Fits e (table.sends now text e)
sent_one now text e = let more = length-append e.sent (text ∷ []) in omega (arith, more)

written : (now : ℕ) (text : List ℕ) (e : End) → Fits e (table.writes now text e)
written now text e = either (Fits e) (end.has_unacked e) _ _ (sent_one now text e) (sent_one now text (end.starts now e))

read_some : (count : ℕ) (e : End) → end_size (table.reads count e) ≤ end_size e + 1
read_some count e =
    either (λ (x : End). end_size x ≤ end_size e + 1) (nat_lt count (length (table.first_unread e))) _ _ (one_more (end_size e)) (one_more (end_size e))

asked_again : (s : IlState) (e : End) → Fits e (table.asks_again s e)
asked_again state.Syncer e = one_more (end_size e)
asked_again state.Syncee e = one_more (end_size e)
asked_again state.Established e = one_more (end_size e)
asked_again state.Closing e = one_more (end_size e)
asked_again state.Closed e = one_more (end_size e)
asked_again state.Listening e = one_more (end_size e)

ticked_to : (t : Tick) (left : Timer) (e : End) → Fits e (table.ticks_to t left e)
ticked_to tick.NotDue left e = one_more (end_size e)
ticked_to tick.TimedOut left e = one_more (end_size e)
ticked_to tick.Again left e = asked_again e.state (record e { timer = left })

-- Conversations.

abbrev core_size : Core → ℕ
core_size (Il e) = end_size e
core_size (Udp e) = 0

-- an end's turn, where the conversation's end had this size
il_grows : (k : Core) (e : End) (n : ℕ) → k ≡ Il e → n ≤ end_size e + 1 → n ≤ core_size k + 1
il_grows k e n is fits = rw is fits

nothing : (n : ℕ) → 0 ≤ n + 1
nothing n = omega arith

announced_is : (k : Core) → core_size (core_announced k) ≤ core_size k + 1
announced_is (Il e) = one_more (end_size e)
announced_is (Udp e) = nothing 0

fresh_is : (k : Core) → core_size (fresh_like k) ≤ core_size k + 1
fresh_is (Il e) = nothing (end_size e)
fresh_is (Udp e) = nothing 0

conv_grows : (slot now : ℕ) (c : Conv) (e : Event) (w : With) (s : Step Conv) → ConvRow slot now c e w s → core_size s.state.core ≤ core_size c.core + 1
conv_grows slot now c e w s row.Begins = fresh_is c.core
conv_grows slot now c e w s (row.BornIl {e = x} k said sync may) = nothing (core_size c.core)
conv_grows slot now c e w s (row.BornUdp k said may) = nothing (core_size c.core)
conv_grows slot now c e w s (row.JoinsIl {e = x} at k may) = il_grows c.core x (end_size x) k (one_more (end_size x))
conv_grows slot now c e w s (row.JoinsUdp at k may) = nothing (core_size c.core)
conv_grows slot now c e w s (row.Listens at) = announced_is c.core
conv_grows slot now c e w s (row.ReadsIl {count = count} {e = x} some at k there) = il_grows c.core x _ k (read_some count x)
conv_grows slot now c e w s (row.ReadsUdp some at k are) = nothing (core_size c.core)
conv_grows slot now c e w s (row.WritesIl {text = text} {e = x} some fits at k stands) = il_grows c.core x _ k (written now text x)
conv_grows slot now c e w s (row.HangsIl {e = x} k) = il_grows c.core x _ k (hung_up_at x.state now x)
conv_grows slot now c e w s (row.LeavesIl {e = x} k) = il_grows c.core x _ k (hung_up_at x.state now x)
conv_grows slot now c e w s (row.HangsUdp k) = nothing (core_size c.core)
conv_grows slot now c e w s (row.LeavesUdp k) = nothing (core_size c.core)
conv_grows slot now c e w s (row.ClosesIl {e = x} last k) = il_grows c.core x _ k (hung_up_at x.state now x)
conv_grows slot now c e w s (row.ClosesUdp last k) = nothing (core_size c.core)
conv_grows slot now c e w s (row.ArrivesIl {e = x} {m = m} k said) = il_grows c.core x _ k (arrived now m x)
conv_grows slot now c e w s (row.ArrivesUdp k said takes) = nothing (core_size c.core)
conv_grows slot now c e w s (row.ArrivesNot k said takes) = nothing (core_size c.core)
conv_grows slot now c e w s (row.TicksIl {e = x} k) = il_grows c.core x _ k (ticked_to (timer.timer_ticks now x.timer).says (timer.timer_ticks now x.timer).timer x)
conv_grows slot now c e w s (row.TicksEarly {e = x} k) = il_grows c.core x _ k (ticked_to (timer.timer_ticks now x.timer).says (timer.timer_ticks now x.timer).timer x)
conv_grows slot now c e w s _ = one_more (core_size c.core)

-- Actors.

abbrev size_of : Actor → ℕ
size_of (IsConv c) = core_size c.core
size_of (IsMedium m) = m.frames
size_of _ = 0

medium_grows : (spec : MediumSpec) (seed : ℕ) (m : Medium) (e : Event) (w : With) (s : Step Medium) → MediumRow spec seed m e w s → s.state.frames ≤ m.frames + 1
medium_grows spec seed m e w s (Lays fits) = omega arith
medium_grows spec seed m e w s _ = one_more m.frames

row_grows : (w : World) (now : ℕ) (a : ActorName) (s : Actor) (e : Event) (gift : With) (t : Step Actor) → ActorRow w now a s e gift t → size_of t.state ≤ size_of s + 1
row_grows w now a s e gift t (AtConv {n = n} {c = c} {s = x} row) = conv_grows n now c e gift x row
row_grows w now a s e gift t (AtMedium {spec = spec} {m = m} {s = x} there row) = medium_grows spec w.seed m e gift x row
row_grows w now a s e gift t (AtDesk there row) = nothing 0
row_grows w now a s e gift t (AtDir row) = nothing 0
row_grows w now a s e gift t AtClock = nothing 0

raises : (w : World) (a : ActorName) (s : Actor) (now : ℕ) (work : Work) → IfSome (actor_step w a s now work) (λ (t : Step Actor). size_of t.state ≤ size_of s + 1)
raises w a s now work = map_some (actor_step w a s now work) _ _ (actor_rows w now a s work) (λ t row. row_grows w now a s work.event work.with t row)

stepped : (s : Actor) (t : Option (Step Actor)) → IfSome t (λ (u : Step Actor). size_of u.state ≤ size_of s + 1) → size_of (stepped_to s t) ≤ size_of s + 1
stepped s None r = one_more (size_of s)
stepped s (Some t) r = r

all_raise : (w : World) (a : ActorName) (s : Actor) (ps : List WorkAt) → size_of (played w a s ps) ≤ size_of s + length ps
all_raise w a s [] = omega arith
all_raise w a s (p ∷ ps) =
    let one = stepped s (actor_step w a s p.moment p.work) (raises w a s p.moment p.work) in
    let rest = all_raise w a (play w a s p) ps in
    omega (arith, one, rest)

opens_empty : (timers : Timers) (a : ActorName) → size_of (opening_actor timers a) ≡ 0
opens_empty timers (name.Desk h) = refl
opens_empty timers (name.Dir h p) = refl
opens_empty timers (name.Conv h proto.Il n) = refl
opens_empty timers (name.Conv h proto.Udp n) = refl
opens_empty timers (name.Medium m) = refl
opens_empty timers name.Clock = refl

small_conv : (c : Conv) (k : Core) → c.core ≡ k → core_size k < 2 ^ 30 → IsSmallActor (IsConv c)
small_conv c (Il e) is few = subst (λ (k : Core). IsSmallActor (IsConv (record c { core = k }))) (sym is) (record { few_sent = omega (arith, few); few_got = omega (arith, few) })
small_conv c (Udp e) is few = subst (λ (k : Core). IsSmallActor (IsConv (record c { core = k }))) (sym is) tt

small_is : (s : Actor) → size_of s < 2 ^ 30 → IsSmallActor s
small_is (IsConv c) few = small_conv c c.core refl few
small_is (IsMedium m) few = omega (arith, few)
small_is (IsDir d) few = tt
small_is (IsDesk d) few = tt
small_is IsPlain few = tt

-- what few works led to is small
pub few_works : (w : World) (a : ActorName) (ps : List WorkAt) → length ps < 2 ^ 30 → IsSmallActor (played w a (opening_actor w.timers a) ps)
few_works w a ps few =
    let raised = all_raise w a (opening_actor w.timers a) ps in
    let empty = opens_empty w.timers a in
    small_is (played w a (opening_actor w.timers a) ps) (omega (arith, raised, empty, few))
