-- After each legal history what is owed is as it should be.
use Rattle.std.proofs.Common.{◌≡◌, ℕ, zero, suc, ◌<◌, nat_lt, true, false, List, [], ◌∷◌, ◌++◌, length, Option, Some, None, slice_get, replicate, refl, sym, ap, subst, ◌∙◌, arith, length-append}
use Rattle.std.specs.Prelude.{IsSome}
use Rattle.std.proofs.lemmas.List.{length-replicate}
use Rattle.std.specs.Option.{option_map}
use Rattle.std.proofs.lemmas.Bool.{false≢true, ltb-true}
use Rattle.std.proofs.lemmas.Option.{none-some, same_Some}
use Rattle.net_base.specs.declared.actor.ActorName.{ActorName}
use Rattle.net_base.specs.declared.actor.ActorName.TheVariants as name
use Rattle.net_base.specs.declared.address.Proto.TheVariants as proto
use Rattle.net_base.specs.declared.event.Event.{Event}
use Rattle.net_base.specs.declared.event.Event.TheVariants as event
use Rattle.net_base.specs.declared.history.Entry.{Entry}
use Rattle.net_base.specs.declared.reply.Reply.{Reply}
use Rattle.net_base.specs.declared.world.Step.{Step as ScriptStep}
use Rattle.net_base.specs.declared.world.Step.TheVariants as step
use Rattle.net_base.specs.declared.world.World.{World}
use Rattle.net_base.specs.ActorStep.{Step}
use Rattle.net_base.specs.Actors.{Actor, actor_step, opening_actor, slot_count}
use Rattle.net_base.specs.Callers.{Caller, IsScript, IsCourier, IsClock, IsNobody, caller_of, caller_count}
use Rattle.net_base.specs.Calm.{owes}
use Rattle.net_base.specs.Directory.{Slot, free_slot}
use Rattle.net_base.specs.Duties.{Duty}
use Rattle.net_base.specs.Legal.{IsAsked, IsLegal, IsNext, MayFollow, asked_by}
use Rattle.net_base.specs.Net.{after, net_after, opening_net, owed, step_of, with_of}
use Rattle.net_base.specs.Next.{next_recorded, next_of, own_replies, zone_of}
use Rattle.net_base.specs.Scripts.{at_first, position}
use Rattle.net_base.specs.Steps.{Ask, call_names, clone_path, reply_lines}
use Rattle.net_base.specs.Versions.{Tuples}
use Rattle.net_base.specs.World.{IsWorld}
use Rattle.history_laws.proofs.Histories.{after_push, by_entries}
use Rattle.history_laws.proofs.Ordered.{Each, each_any}
use Rattle.history_laws.proofs.CallEvents.{next_event}
use Rattle.history_laws.proofs.StepEvents.{Fits, IsNextEvent, IsNamed, IsOpened, IsOwn, Says}
use Rattle.history_laws.proofs.Duties.{Steady, IsActorOf, IsCallIn, bears, generation_in}
use Rattle.history_laws.proofs.Entries.{changes}
use Rattle.history_laws.proofs.Keeping.{steady_on}
use Rattle.history_laws.proofs.Least.{some_ready}

-- No script records a birth.

abbrev Silent : ActorName → Event → Type 0
Silent a e = bears e ≡ false

own_silent : (a : ActorName) (e : Event) → IsOwn e → Silent a e
own_silent a (event.Begin g) own = absurd own
own_silent a (event.Born g) own = absurd own
own_silent a _ own = refl

fits_silent : Fits Silent (λ (r : Reply). Unit {0})
fits_silent = record {
  other = own_silent;
  dialled = λ r fine. each_any (λ (line : List ℕ). IsOpened Silent (clone_path line)) (λ line a m. refl) (reply_lines r);
}

says_silent : (h : ℕ) (s : ScriptStep) → Says h Silent s
says_silent h (step.Open called path m) = ((refl, refl), λ a m. refl)
says_silent h (step.Until moment) = refl
says_silent h step.Refresh = tt
says_silent h (step.Ls path) = tt
says_silent h (step.Cs query) = tt
says_silent h (step.Dial called address) = ((refl, refl), (refl, refl))
says_silent h (step.Listen called from) = ((refl, refl), (refl, refl))
says_silent h (step.Accept called from) = ((refl, refl), (refl, refl))
says_silent h (step.Hread called count) = ((refl, refl), each_any (λ (called : List ℕ). IsNamed h (Silent) called) (λ called. (refl, refl)) call_names)
says_silent h (step.Hwrite called bytes) = ((refl, refl), each_any (λ (called : List ℕ). IsNamed h (Silent) called) (λ called. (refl, refl)) call_names)
says_silent h (step.Dns called times) = ((refl, refl), each_any (λ (called : List ℕ). IsNamed h (Silent) called) (λ called. (refl, refl)) call_names)
-- imports
says_silent h (step.Export called) = ((refl, refl), record { named = λ n. (refl, refl); opened = λ at a m. refl })
says_silent h (step.Ropen called call path m) = ((refl, refl), (refl, refl))
says_silent h _ = (refl, refl)

silent_position : (h : ℕ) (steps : List ScriptStep) (zone : Tuples) (rs : List Reply) → IsNextEvent Silent (position h steps (at_first zone) rs).next
silent_position h steps zone rs =
    next_event h Silent (λ (r : Reply). Unit {0}) fits_silent steps (at_first zone) rs tt
    (each_any (λ (s : ScriptStep). Says h Silent s) (says_silent h) steps)
    (each_any (λ (r : Reply). Unit {0}) (λ r. tt) rs)

silent_next : (w : World) (k : Caller) (h : List Entry) (c : ℕ) (x : Entry) → IsNext k (next_of w k h c) x → bears x.event ≡ false
silent_next w (IsScript s) h c x is = by (position s.host s.steps (at_first (zone_of w)) (own_replies h c)).next (silent_position s.host s.steps (zone_of w) (own_replies h c)) is
  where
    by : (o : Option Ask) → IsNextEvent Silent o → o ≡ Some (asked_by x) → bears x.event ≡ false
    by None fine is = absurd (none-some _ is)
    by (Some ask) fine is = ap (λ (a : Ask). bears a.event) (sym (same_Some ask (asked_by x) is)) ∙ fine
silent_next w (IsCourier m) h c x is = ap (λ (a : Ask). bears a.event) (sym (same_Some _ (asked_by x) is))
silent_next w IsClock h c x is = moves x.actor x.event is
  where
    moves : (a : ActorName) (e : Event) → IsNext IsClock None (record x { actor = a; event = e }) → bears e ≡ false
    moves name.Clock (event.Move m) is = refl
    moves _ _ is = absurd is
silent_next w IsNobody h c x is = absurd (none-some _ is)

-- At the beginning.

free_at : (n k : ℕ) (s : Slot) → slice_get (replicate n free_slot) k ≡ Some s → free_slot ≡ s
free_at zero k s is = absurd (none-some s is)
free_at (suc n) zero s is = same_Some free_slot s is
free_at (suc n) (suc k) s is = free_at n k s is

free_generation : (n k : ℕ) → generation_in (replicate n free_slot) k ≡ 0
free_generation zero k = refl
free_generation (suc n) zero = refl
free_generation (suc n) (suc k) = free_generation n k

opening_of : (w : World) (a : ActorName) → IsActorOf w a (opening_actor w.timers a)
opening_of w (name.Dir h p) = record {
  count = length-replicate slot_count free_slot;
  calls = λ k s is. subst (λ (t : Slot). Each (IsCallIn (replicate slot_count free_slot)) t.calls) (free_at slot_count k s is) tt;
}
opening_of w (name.Conv h proto.Il n) = tt
opening_of w (name.Conv h proto.Udp n) = tt
opening_of w (name.Medium m) = (tt, tt)
opening_of w (name.Desk h) = tt
opening_of w name.Clock = tt

steady_first : (w : World) → Steady w (opening_net w)
steady_first w = record {
  actors = opening_of w;
  known = λ c far. refl;
  kinds = λ c. tt;
  sorted = λ c. tt;
  cited = λ c. tt;
  below = λ c d h p n there at. absurd there;
  behind = λ h p n. omega arith;
  births = λ h p n g lt le. absurd (omega (arith, lt, le, free_generation slot_count n));
  unborn = λ c d h p n there at is. absurd there;
  once = λ c. tt;
  elsewhere = λ b c d e apart one two. absurd one;
}

-- An entry more.

some_step : (o : Option (Step Actor)) → IsSome (option_map (λ (s : Step Actor). s.outcome) o) → (t : Step Actor) × (o ≡ Some t)
some_step None is = absurd (false≢true is)
some_step (Some t) is = (t, refl)

push : (w : World) → IsWorld w → (h : List Entry) (x : Entry) → IsLegal w h → MayFollow w h x → Steady w (after w h) → Steady w (after w (h ++ x ∷ []))
push w world h x legal may steady =
    let some = some_step (step_of w (after w h) x) may.is_ready in
    let next_recorded : after w (h ++ x ∷ []) ≡ net_after w (after w h) x (Some some.0) = after_push w h x ∙ ap (net_after w (after w h) x) some.1 in
    subst (Steady w) (sym next_recorded) (steady_on w (after w h) (net_after w (after w h) x (Some some.0)) x.caller _ steady
    (changes w (after w h) (net_after w (after w h) x (Some some.0)) x.caller x.actor x.event (with_of ((after w h).owed x.caller)) some.0 record {
      world = world;
      steady = steady;
      known = may.is_known.1;
      step = some.1;
      asked = record {
        own = λ none. (ap with_of none, silent_next w (caller_of w x.caller) h x.caller x (own ((after w h).owed x.caller) none may.is_asked));
        duty = λ d ds is.
            let same = owing ((after w h).owed x.caller) d ds is may.is_asked in
            (ap (λ (a : Ask). a.actor) same, ap (λ (a : Ask). a.event) same, sym (ap with_of is));
      };
      past = length-append (after w h).past (x ∷ []);
      owed = λ k. refl;
      actors = λ b. refl;
    }))
  where
    own : (ds : List Duty) → ds ≡ [] → IsAsked ds (caller_of w x.caller) (next_recorded w h x.caller) x → IsNext (caller_of w x.caller) (next_recorded w h x.caller) x
    own [] is asked = asked
    own (d ∷ ds) is asked = absurd (omega (arith, ap length is))

    owing : (es : List Duty) (d : Duty) (ds : List Duty) → es ≡ d ∷ ds → IsAsked es (caller_of w x.caller) (next_recorded w h x.caller) x → record { actor = d.actor; event = d.event } ≡ asked_by x
    owing es d ds is asked = subst (λ (fs : List Duty). IsAsked fs (caller_of w x.caller) (next_recorded w h x.caller) x) is asked

pub steady_after : (w : World) (h : List Entry) → IsWorld w → IsLegal w h → Steady w (after w h)
steady_after w h world legal = by_entries w (λ (k : List Entry). Steady w (after w k)) (steady_first w) (push w world) h legal

pub owed_is_ready : (w : World) (h : List Entry) (c : ℕ) → IsWorld w → IsLegal w h → owes (after w h) c ≡ true
    → (b : ℕ) × (d : Duty) × (ds : List Duty) × (b < caller_count w) × (owed w h b ≡ d ∷ ds)
    × IsSome (actor_step w d.actor ((after w h).actors d.actor) (after w h).moment (record { event = d.event; with = d.with }))
owed_is_ready w h c world legal owing = by (owed w h c) refl owing
  where
    by : (ds : List Duty) → owed w h c ≡ ds → nat_lt 0 (length ds) ≡ true → (b : ℕ) × (d : Duty) × (ds : List Duty) × (b < caller_count w) × (owed w h b ≡ d ∷ ds)
        × IsSome (actor_step w d.actor ((after w h).actors d.actor) (after w h).moment (record { event = d.event; with = d.with }))
    by [] is owing = absurd (omega (arith, ltb-true 0 0 owing))
    by (d ∷ ds) is owing =
        let r = some_ready w (after w h) c d ds (steady_after w h world legal) is in
        (r.caller, r.duty, r.rest, r.below, r.owed, r.ready)
