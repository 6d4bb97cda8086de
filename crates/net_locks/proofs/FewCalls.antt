-- At most ten calls wait at a slot, whatever works were done, so no reply tells of more.
use Rattle.std.proofs.Common.{◌≡◌, ℕ, zero, suc, ◌+◌, ◌≤◌, nat_lt, Bool, true, false, List, [], ◌∷◌, length, Option, Some, None, replicate, refl, ap, sym, subst, arith, length-append}
use Rattle.std.specs.Prelude.{IfSome}
use Rattle.std.proofs.lemmas.Bool.Decides.{nat_tests}
use Rattle.net_base.specs.declared.actor.ActorName.{ActorName}
use Rattle.net_base.specs.declared.actor.ActorName.TheVariants as name
use Rattle.net_base.specs.declared.actor.Call.{Call}
use Rattle.net_base.specs.declared.event.Event.{Event}
use Rattle.net_base.specs.declared.history.With.{With}
use Rattle.net_base.specs.declared.history.Work.{Work}
use Rattle.net_base.specs.declared.noted.Noted.{Noted}
use Rattle.net_base.specs.declared.reply.Reply.{Reply}
use Rattle.net_base.specs.declared.reply.Reply.TheVariants as reply
use Rattle.net_base.specs.declared.timer.Timers.{Timers}
use Rattle.net_base.specs.declared.world.HostSpec.{HostSpec}
use Rattle.net_base.specs.declared.world.MediumSpec.{MediumSpec}
use Rattle.net_base.specs.declared.world.Version.{Version}
use Rattle.net_base.specs.declared.world.World.{World}
use Rattle.net_base.specs.ActorStep.{Step}
use Rattle.net_base.specs.Actors.{Actor, IsDir, actor_step, opening_actor}
use Rattle.net_base.specs.Conversation.{Conv}
use Rattle.net_base.specs.Desk.{Desk}
use Rattle.net_base.specs.Directory.{free_slot}
use Rattle.net_base.specs.Medium.{Medium}
use Rattle.net_base.specs.Net.{Net, opening_net, stepped_to}
use Rattle.net_base.specs.Stamped.{same_actor}
use Rattle.net_locks.specs.Works.{step_by, next_noted, noted_from, noted_net}
use Rattle.net_locks.proofs.Nets.{moved, unmoved}
use Rattle.history_laws.specs.ActorRows.{ActorRow, AtDesk, AtDir, AtConv, AtMedium, AtClock, DeskRow, MediumRow, NoStation, Tells}
use Rattle.history_laws.specs.ConvRows.{ConvRow, Stale}
use Rattle.history_laws.specs.Waiting.{EachWaiting, IsOfWaiting, OfTold}
use Rattle.history_laws.proofs.Shared.{actor_rows, map_some, waiting_stays, waiting_told}

abbrev AreFew : List Call → Type 0
AreFew calls = length calls ≤ 10

below : (n : ℕ) → nat_lt n 10 ≡ true → n + 1 ≤ 10
below n lt = grind (arith, nat_tests)

stay_few : (count : ℕ) → IsOfWaiting AreFew count
stay_few count =
    record {
      none = omega arith;
      rest = λ c calls few. omega (arith, few);
      more = λ c calls lt room few. omega (arith, below (length calls) room, length-append calls (c ∷ []));
    }

-- One step.

abbrev FewAt : Actor → Type 0
FewAt (IsDir d) = EachWaiting AreFew d.slots
FewAt _ = Unit {0}

-- few calls wait, and few are told
abbrev Few : Step Actor → Type 0
Few t = FewAt t.state × OfTold AreFew t.outcome.reply

conv_told : (slot now : ℕ) (c : Conv) (e : Event) (with : With) (s : Step Conv) → ConvRow slot now c e with s → OfTold AreFew s.outcome.reply
conv_told slot now c e with s (Stale names old) = tt
conv_told slot now c e with s _ = tt

desk_told : (dbs : List Version) (h : HostSpec) (now : ℕ) (d : Desk) (e : Event) (r : Reply) → DeskRow dbs h now d e r → OfTold AreFew r
desk_told dbs h now d e r (Tells lines) = tt
desk_told dbs h now d e r _ = tt

medium_told : (spec : MediumSpec) (seed : ℕ) (m : Medium) (e : Event) (with : With) (s : Step Medium) → MediumRow spec seed m e with s
    → OfTold AreFew s.outcome.reply
medium_told spec seed m e with s NoStation = tt
medium_told spec seed m e with s _ = tt

row_few : (w : World) (now : ℕ) (a : ActorName) (s : Actor) (e : Event) (with : With) (t : Step Actor) → FewAt s → ActorRow w now a s e with t → Few t
row_few w now a s e with t few (AtDir {h = h} {p = p} {d = d} {s = x} row) =
    (waiting_stays AreFew w h p d (stay_few (length d.slots)) few e with x row, waiting_told AreFew w h p d (stay_few (length d.slots)) few e with x row)
row_few w now a s e with t few (AtConv {n = n} {c = c} {s = x} row) = (tt, conv_told n now c e with x row)
row_few w now a s e with t few (AtDesk {host = host} {d = d} {r = r} there row) = (tt, desk_told w.dbs host now d e r row)
row_few w now a s e with t few (AtMedium {spec = spec} {m = m} {s = x} there row) = (tt, medium_told spec w.seed m e with x row)
row_few w now a s e with t few AtClock = (tt, tt)

actor_few : (w : World) (a : ActorName) (s : Actor) (now : ℕ) (work : Work) → FewAt s → IfSome (actor_step w a s now work) Few
actor_few w a s now work few = map_some (actor_step w a s now work) _ _ (actor_rows w now a s work) (λ t row. row_few w now a s work.event work.with t few row)

stepped_few : (s : Actor) (t : Option (Step Actor)) → FewAt s → IfSome t Few → FewAt (stepped_to s t)
stepped_few s None few after = few
stepped_few s (Some t) few after = after.0

opening_few : (timers : Timers) (a : ActorName) → FewAt (opening_actor timers a)
opening_few timers (name.Dir h p) = replicated 32
  where
    replicated : (n : ℕ) → EachWaiting AreFew (replicate n free_slot)
    replicated zero = tt
    replicated (suc n) = (omega arith, replicated n)
opening_few timers (name.Desk h) = tt
opening_few timers (name.Conv h p n) = tt
opening_few timers (name.Medium m) = tt
opening_few timers name.Clock = tt

-- Nets.

module _ (equal : (a b : ActorName) → same_actor a b ≡ true → a ≡ b) (w : World) (a : ActorName) where
  next_net_few : (net : Net) (x : Noted) (b : Bool) → same_actor x.entry.actor a ≡ b → FewAt (net.actors a) → FewAt ((next_noted w net x).actors a)
  next_net_few net x false other few = subst (λ (s : Actor). FewAt s) (sym (unmoved w equal net x a (step_by w net x) other)) few
  next_net_few net x true same few =
      let step : actor_step w a (net.actors a) x.entry.moment x.work ≡ step_by w net x =
      ap (λ (b : ActorName). actor_step w b (net.actors b) x.entry.moment x.work) (sym (equal x.entry.actor a same)) in
      subst (λ (s : Actor). FewAt s) (sym (moved w equal net x a (step_by w net x) same))
      (subst (λ (t : Option (Step Actor)). FewAt (stepped_to (net.actors a) t)) step
      (stepped_few (net.actors a) (actor_step w a (net.actors a) x.entry.moment x.work) few (actor_few w a (net.actors a) x.entry.moment x.work few)))

  from_few : (net : Net) (xs : List Noted) → FewAt (net.actors a) → FewAt ((noted_from w net xs).actors a)
  from_few net [] few = few
  from_few net (x ∷ xs) few = from_few (next_noted w net x) xs (next_net_few net x (same_actor x.entry.actor a) refl few)

  -- so no actor ever tells more than ten
  pub no_more : (log : List Noted) (now : ℕ) (work : Work) (t : Step Actor) (calls : List Call)
      → actor_step w a ((noted_net w log).actors a) now work ≡ Some t
      → t.outcome.reply ≡ reply.Calls calls → length calls ≤ 10
  no_more log now work t calls gives is =
      let few = actor_few w a ((noted_net w log).actors a) now work (from_few (opening_net w) log (opening_few w.timers a)) in
      subst (OfTold AreFew) is (subst (λ (o : Option (Step Actor)). IfSome o Few) gives few).1
