-- Actors to which so many works led.
use Rattle.std.proofs.Common.{◌≡◌, ℕ, ◌+◌, ◌<◌, ◌^◌, Bool, true, false, is_some, List, [], ◌∷◌, ◌++◌, Some, if◌then◌else◌, refl, ap, sym, subst, ◌∙◌, arith, length-append}
use Rattle.std.proofs.lemmas.List.Elements.{All-from_recursion}
use Rattle.net_base.specs.declared.actor.ActorName.{ActorName}
use Rattle.net_base.specs.declared.history.Outcome.{Outcome}
use Rattle.net_base.specs.declared.history.Work.{Work}
use Rattle.net_base.specs.declared.world.Version.{Version}
use Rattle.net_base.specs.declared.world.World.{World}
use Rattle.net_base.specs.Actors.{Actor, actor_step, has_actor, opening_actor}
use Rattle.net_base.specs.Net.{WorkAt, actors_after, play, played, stepped_to}
use Rattle.net_base.specs.Stamped.{same_actor}
use Rattle.net_base.specs.World.{IsDatabase, IsWorld}
use Rattle.net_actors.specs.Numbers.{is_actor_among}
use Rattle.net_actors.specs.Small.{IsSmallActor}
use Rattle.net_actors.specs.Together.{AreActors, CanStep, Numbered, StepsTogether}
use Rattle.host_tests.specs.Tried.{AreLedTo, IsLedTo, tried_world}
use Rattle.net_actors.proofs.Shared.{few_works, among_is}
use Rattle.net_base.proofs.Shared.{same_actor_is}

pub none_led : (w : World) (v : Numbered) → AreActors w v (opening_actor w.timers) → AreLedTo w v 0
none_led w v are = record { states = opening_actor w.timers; are = are; led = λ a. record { works = []; led = refl; few = omega arith } }

pub can_step : (w : World) (v : Numbered) (n : ℕ) (a : ActorName) (now : ℕ) (work : Work) (told : Bool) → AreLedTo w v n → n < 2 ^ 20 → has_actor w a ≡ true → told ≡ true
    → ((u : World) (states : ActorName → Actor) → AreActors u v states → told ≡ is_some (actor_step u a (states a) now work)) → CanStep v a now work
can_step w v n a now work told led few has is tells =
    let one = led.led a in
    let count = one.few in
    record {
      world = w;
      states = led.states;
      are = led.are;
      has = has;
      small = subst IsSmallActor (sym one.led) (few_works w a one.works (omega (arith, count, few)));
      ready = sym (tells w led.states led.are) ∙ is;
    }

played_more : (w : World) (a : ActorName) (s : Actor) (ps : List WorkAt) (p : WorkAt) → played w a s (ps ++ p ∷ []) ≡ play w a (played w a s ps) p
played_more w a s [] p = refl
played_more w a s (q ∷ ps) p = played_more w a (play w a s q) ps p

one_more : (w : World) (a : ActorName) (s t : Actor) (n now : ℕ) (work : Work) (o : Outcome) → IsLedTo w a s n → actor_step w a s now work ≡ Some (record { state = t; outcome = o }) → IsLedTo w a t (n + 1)
one_more w a s t n now work o led step =
    let p : WorkAt = record { moment = now; work = work } in
    let more = length-append led.works (p ∷ []) in
    let count = led.few in
    record {
      works = led.works ++ p ∷ [];
      led =
          sym (ap (stepped_to s) step)
          ∙ (ap (λ (x : Actor). play w a x p) led.led ∙ sym (played_more w a (opening_actor w.timers a) led.works p));
      few = omega (arith, more, count);
    }

kept : (w : World) (a : ActorName) (s : Actor) (n : ℕ) → IsLedTo w a s n → IsLedTo w a s (n + 1)
kept w a s n led = let count = led.few in record { works = led.works; led = led.led; few = omega (arith, count) }

pub led_more : (w : World) (old new : Numbered) (n : ℕ) (a : ActorName) (now : ℕ) (work : Work) (o : Outcome) → AreLedTo w old n → has_actor w a ≡ true → StepsTogether old new a now work o → AreLedTo w new (n + 1)
led_more w old new n a now work o led has steps =
    let s = steps w led.states led.are has in
    record { states = actors_after led.states a s.state; are = s.are; led = λ b. by_test s.state s.step b (same_actor a b) refl }
  where
    by_test : (t : Actor) → actor_step w a (led.states a) now work ≡ Some (record { state = t; outcome = o }) → (b : ActorName) (test : Bool) → same_actor a b ≡ test
        → IsLedTo w b (if test then t else led.states b) (n + 1)
    by_test t step b true same =
        subst (λ (c : ActorName). IsLedTo w c t (n + 1)) (same_actor_is a b same) (one_more w a (led.states a) t n now work o (led.led a) step)
    by_test t step b false other = kept w b (led.states b) n (led.led b)

tried_world_is : IsWorld tried_world
tried_world_is = record {
  end = refl;
  seed = refl;
  some_media = refl;
  media = refl;
  media_named = refl;
  some_hosts = refl;
  hosts = refl;
  hosts_named = refl;
  hosts_addressed = refl;
  few_scripts = refl;
  scripts = refl;
  versions_timed = refl;
  versions = All-from_recursion (λ (v : Version). IsDatabase v.db) tried_world.dbs (([], refl, refl), tt);
}

pub tried_is_world : (w : World) → w ≡ tried_world → IsWorld w
tried_is_world w is = subst IsWorld (sym is) tried_world_is

pub tried_has : (a : ActorName) → is_actor_among 2 1 a ≡ true → has_actor tried_world a ≡ true
tried_has a is = among_is tried_world a ∙ is
