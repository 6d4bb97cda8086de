-- Passes that hold the numbers of all callers, and how callers stand by them.
use Rattle.std.proofs.Common.{◌≡◌, ℕ, suc, ◌+◌, ◌-◌, ◌==◌, ◌||◌, nat_lt, not, Bool, true, false, List, [], ◌∷◌, length, Option, Some, None, is_some, slice_get, if◌then◌else◌, refl, ap, sym, subst, ◌∙◌, arith}
use Rattle.std.specs.Option.{option_map, option_map_or}
use Rattle.std.proofs.lemmas.Bool.{eqb-true}
use Rattle.std.proofs.lemmas.Bool.Decides.{nat_tests}
use Rattle.net_base.specs.declared.actor.ActorName.{ActorName}
use Rattle.net_base.specs.declared.history.Entry.{Entry}
use Rattle.net_base.specs.declared.history.Work.{Work}
use Rattle.net_base.specs.declared.noted.Noted.{Noted}
use Rattle.net_base.specs.declared.noted.Number.TheVariants as number
use Rattle.net_base.specs.declared.world.Script.{Script}
use Rattle.net_base.specs.declared.world.World.{World}
use Rattle.net_base.specs.Actors.{Actor, actor_step}
use Rattle.net_base.specs.Callers.{IsScript, IsCourier, IsClock, IsNobody, caller_of, clock_number, first_courier, other_caller}
use Rattle.net_base.specs.Calm.{can_go_on_by, is_ready, owes}
use Rattle.net_base.specs.Duties.{Duty}
use Rattle.net_base.specs.Net.{Net}
use Rattle.net_base.specs.Next.{by, next_of_by}
use Rattle.net_base.specs.Stamped.{at_from}
use Rattle.net_base.specs.Tasks.{Tasks}
use Rattle.history_laws.specs.Could.{could, is_full}
use Rattle.journal.specs.declared.law.Roster.{Roster}
use Rattle.journal.specs.declared.tokens.Sight.{Sight}
use Rattle.journal.specs.Rule.{Held}
use Rattle.journal.specs.Tokens.{HoldsPass, HoldsAll, Looked}
use Rattle.locked.specs.Acts.{state_at}
use Rattle.net_locks.specs.Named.{answer_in, named_opening}
use Rattle.net_locks.specs.Works.{entries, noted_net}
use Rattle.net_locks.specs.declared.clock.Standing.{Standing}
use Rattle.net_locks.specs.Standings.{AllStand, IsBare, StandsAt, standing_ask}
use Rattle.net_locks.specs.Turns.{bare}

-- A look shows nothing more.

abbrev sight_of : List Noted → List Held → Sight
sight_of seen held = record { seen = seen; held = held }

same_sight : (p p' : Sight) → p'.seen ≡ p.seen → p'.held ≡ p.held → p' ≡ p
same_sight p p' seen held = ap (λ (s : List Noted). sight_of s p'.held) seen ∙ ap (λ (h : List Held). sight_of p.seen h) held

pub looked_same : (r : Roster) (p : Sight) (front : ℕ) (p' : Sight) → HoldsAll r p → Looked r p front p' → p' ≡ p
looked_same r p front p' all look = same_sight p p' (look.whole all) look.held

pub holds_all : (ts : Tasks) (w : World) (r : Roster) (p : Sight) (ss : List Standing) → AllStand ts w r p ss → HoldsAll r p
holds_all ts w r p ss stand c lt =
    let there = stand.all c lt in
    let st = stand.each there.0 there.1 in
    subst (λ (k : ℕ). (es : List (ℕ × Noted)) × HoldsPass p k es) there.2 (st.guest.list, st.guest.held)

-- What is seen of an actor.

module _ (w : World) (p p' : Sight) (same : p' ≡ p) (at_lock a : ActorName) (is : at_lock ≡ a) where
  -- whether a work is ready at it
  pub ready_seen : (now : ℕ) (work : Work) (b : Bool) → b ≡ is_some (answer_in w (state_at (named_opening w) (answer_in w) at_lock p'.seen) now work)
      → is_some (answer_in w (state_at (named_opening w) (answer_in w) at_lock p'.seen) now work) ≡ is_some (actor_step w at_lock ((noted_net w p'.seen).actors at_lock) now work)
      → b ≡ is_some (actor_step w a ((noted_net w p.seen).actors a) now work)
  ready_seen now work b told law =
      told
      ∙ (law
      ∙ (ap (λ (q : Sight). is_some (actor_step w at_lock ((noted_net w q.seen).actors at_lock) now work)) same
      ∙ ap (λ (n : ActorName). is_some (actor_step w n ((noted_net w p.seen).actors n) now work)) is))

  -- what it says of its state
  pub said : {A : Type 0} (f : Actor → A) (x y : A) → x ≡ y → y ≡ f ((noted_net w p'.seen).actors at_lock) → x ≡ f ((noted_net w p.seen).actors a)
  said f x y told law =
      told
      ∙ (law
      ∙ (ap (λ (q : Sight). f ((noted_net w q.seen).actors at_lock)) same ∙ ap (λ (n : ActorName). f ((noted_net w p.seen).actors n)) is))

-- The clock's number.

by_number : (w : World) (c : ℕ) (b : Bool) → (c == clock_number w) ≡ b → (if b then IsClock else IsNobody) ≡ IsClock → c ≡ clock_number w
by_number w c true same is = eqb-true c (clock_number w) same
by_number w c false same is = absurd (cc)

by_other : (w : World) (c : ℕ) (b : Bool) → (if b then IsCourier (c - first_courier w) else (if c == clock_number w then IsClock else IsNobody)) ≡ IsClock → c ≡ clock_number w
by_other w c true is = absurd (cc)
by_other w c false is = by_number w c (c == clock_number w) refl is

by_script : (w : World) (c : ℕ) (o : Option Script) → option_map_or (λ (s : Script). IsScript s) o (other_caller w c) ≡ IsClock → c ≡ clock_number w
by_script w c None is = by_other w c (nat_lt c (clock_number w)) is
by_script w c (Some s) is = absurd (cc)

pub clock_at : (w : World) (c : ℕ) → caller_of w c ≡ IsClock → c ≡ clock_number w
clock_at w c is = by_script w c (slice_get w.scripts c) is

-- How many entries a caller has.

pub counted : (c n : ℕ) (log : List Noted) → length (by (entries log) c) ≡ length (at_from (number.Caller c) n log)
counted c n [] = refl
counted c n (x ∷ log) = by_caller (x.entry.caller == c) (counted c (n + 1) log)
  where
    by_caller : (b : Bool) → length (by (entries log) c) ≡ length (at_from (number.Caller c) (n + 1) log)
        → length (if b then x.entry ∷ by (entries log) c else by (entries log) c) ≡ length (if b then (n, x) ∷ at_from (number.Caller c) (n + 1) log else at_from (number.Caller c) (n + 1) log)
    by_caller true rest = ap suc rest
    by_caller false rest = rest

-- What a caller could record.

positive : (n : ℕ) → nat_lt 0 n ≡ not (n == 0)
positive n = grind (arith, nat_tests)

or_left : (a b : Bool) → a ≡ true → true ≡ (a || b)
or_left a b is = sym (ap (λ (x : Bool). x || b) is)

or_right : (a b c : Bool) → a ≡ false → c ≡ b → c ≡ (a || b)
or_right a b c is same = same ∙ sym (ap (λ (x : Bool). x || b) is)

module _ (ts : Tasks) (w : World) (r : Roster) (p : Sight) (s : Standing) (st : StandsAt ts w r p s) where
  abbrev net : Net
  net = noted_net w p.seen

  owes_so : owes net s.caller ≡ s.owes
  owes_so = ap (λ (ds : List Duty). nat_lt 0 (length ds)) st.guest.owed ∙ (positive (length st.owed) ∙ sym st.owes_is)

  goes_so : net.past ≡ entries p.seen → can_go_on_by ts w net s.caller ≡ is_ready w net (option_map standing_ask s.next)
  goes_so past = ap (λ (h : List Entry). is_ready w net (next_of_by ts w (caller_of w s.caller) h s.caller)) past ∙ ap (is_ready w net) (sym st.next_is)

  pub full_so : net.past ≡ entries p.seen → s.full ≡ is_full net s.caller
  full_so past =
      st.full_is
      ∙ (ap (λ (n : ℕ). n == 131072) (sym (counted s.caller 0 p.seen)) ∙ ap (λ (h : List Entry). length (by h s.caller) == 131072) (sym past))

  -- it owes a duty
  pub goes_owing : s.owes ≡ true → true ≡ could ts w net s.caller
  goes_owing owing = or_left (owes net s.caller) (can_go_on_by ts w net s.caller) (owes_so ∙ owing)

  -- or the work that comes next is ready
  pub goes_next : net.past ≡ entries p.seen → s.owes ≡ false → (a : ActorName) (work : Work) → s.next ≡ Some (a, work) → (now : ℕ) → now ≡ net.moment
      → (b : Bool) → b ≡ is_some (actor_step w a (net.actors a) now work) → b ≡ could ts w net s.caller
  goes_next past free a work comes now here b is =
      let given : work ≡ bare work.event = subst (λ (o : Option (ActorName × Work)). IsBare o) comes st.given in
      let ready : b ≡ is_ready w net (option_map standing_ask s.next) =
      is
      ∙ (ap (λ (m : ℕ). is_some (actor_step w a (net.actors a) m work)) here
      ∙ (ap (λ (x : Work). is_some (actor_step w a (net.actors a) net.moment x)) given
      ∙ ap (λ (o : Option (ActorName × Work)). is_ready w net (option_map standing_ask o)) (sym comes))) in
      or_right (owes net s.caller) (can_go_on_by ts w net s.caller) b (owes_so ∙ free) (ready ∙ sym (goes_so past))

  -- or nothing comes next
  pub goes_none : net.past ≡ entries p.seen → s.owes ≡ false → s.next ≡ None → false ≡ could ts w net s.caller
  goes_none past free none =
      or_right (owes net s.caller) (can_go_on_by ts w net s.caller) false (owes_so ∙ free)
      (ap (λ (o : Option (ActorName × Work)). is_ready w net (option_map standing_ask o)) (sym none) ∙ sym (goes_so past))
