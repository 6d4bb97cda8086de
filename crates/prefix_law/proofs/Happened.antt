-- What each entry of a legal history did, and what holds after it.
use Rattle.std.proofs.Common.{◌≡◌, ◌^◌, ◌<◌, List, [], ◌∷◌, ◌++◌, length, Option, Some, None, refl, sym, ap, subst, ◌∙◌}
use Rattle.std.specs.Prelude.{IfSome, IsSome, option_to_list}
use Rattle.std.specs.Option.{option_map}
use Rattle.net_base.specs.declared.address.Pair.{Pair}
use Rattle.net_base.specs.declared.history.Entry.{Entry}
use Rattle.net_base.specs.declared.world.World.{World}
use Rattle.net_base.specs.ActorStep.{Step}
use Rattle.net_base.specs.Actors.{Actor}
use Rattle.net_base.specs.Callers.{caller_of}
use Rattle.net_base.specs.Headers.{header}
use Rattle.net_base.specs.Legal.{IsLegalBy, MayFollowBy, Shows, Shown}
use Rattle.net_base.specs.Net.{after, step_of, work_of, net_after, with_of}
use Rattle.net_base.specs.Tasks.{Tasks}
use Rattle.net_base.specs.World.{IsWorld}
use Rattle.net_base.specs.Written.{Given, gave, given_in}
use Rattle.net_base.specs.declared.reply.Reply.{Reply}
use Rattle.prefix_law.proofs.Deeds.{both_ways}
use Rattle.history_laws.proofs.Shared.{after_push, by_entries, legal_short}
use Rattle.prefix_law.proofs.Linked.{Linked, step_linked, given_push}
use Rattle.prefix_law.proofs.Places.{places}
use Rattle.prefix_law.proofs.Trace.{Owner, Trace, opening_trace, actor_trace, trace_after, trace}
use Rattle.prefix_law.proofs.Whole.{Next, Kept, all_kept, next, work_fine, trace_push}

-- what the entry x did after these
pub record Happened (w : World) (h : List Entry) (x : Entry) : Type 0 where
  pub step : Step Actor
  pub step_is : step_of w (after w h) x ≡ Some step
  pub reply_is : x.reply ≡ step.outcome.reply
  pub emits_is : x.emits ≡ option_map header step.outcome.emit
  pub net_is : after w (h ++ x ∷ []) ≡ net_after w (after w h) x (Some step)
  pub trace_is : trace w (h ++ x ∷ []) ≡ actor_trace x.actor step.state (work_of (after w h) x) step.outcome (trace w h)
  pub leaves : Next w (length h) (after w h).actors (length (after w h).past) (trace w h) (actor_trace x.actor step.state (work_of (after w h) x) step.outcome (trace w h)) x.actor (work_of (after w h) x) step

module _ (w : World) (world : IsWorld w) where
  pub kept_at : {ts : Tasks} (h : List Entry) → IsLegalBy ts w h → Kept w (length h) (after w h) (trace w h) h
  kept_at h legal = all_kept w (places w world) h legal (legal_short w world h legal)

  pub happened : {ts : Tasks} (h : List Entry) (x : Entry) → IsLegalBy ts w h → MayFollowBy ts w h x → Happened w h x
  happened h x legal may = go (step_of w (after w h) x) refl leaves may.is_ready may.answers
    where
      few : length h < 2 ^ 31
      few = legal_short w world h legal

      kept : Kept w (length h) (after w h) (trace w h) h
      kept = kept_at h legal

      leaves : IfSome (step_of w (after w h) x) (λ s. Next w (length h) (after w h).actors (length (after w h).past) (trace w h) (actor_trace x.actor s.state (work_of (after w h) x) s.outcome (trace w h)) x.actor (work_of (after w h) x) s)
      leaves =
          next w (places w world) (length h) few (after w h) (trace w h) kept.fine x.event (with_of ((after w h).owed x.caller)) x.actor
          (work_fine w (trace w h) x ((after w h).owed x.caller) (caller_of w x.caller) _ (kept.fine.owed x.caller) may.is_asked)

      go : (o : Option (Step Actor)) → step_of w (after w h) x ≡ o
          → IfSome o (λ s. Next w (length h) (after w h).actors (length (after w h).past) (trace w h) (actor_trace x.actor s.state (work_of (after w h) x) s.outcome (trace w h)) x.actor (work_of (after w h) x) s)
          → IsSome (option_map (λ (s : Step Actor). s.outcome) o) → Shows (option_map (λ (s : Step Actor). s.outcome) o) x → Happened w h x
      go None is n ready shows = absurd (both_ways ready refl)
      go (Some s) is n ready shows = record {
        step = s;
        step_is = is;
        reply_is = ap (λ (z : Shown). z.reply) shows;
        emits_is = ap (λ (z : Shown). z.emits) shows;
        net_is = after_push w h x ∙ ap (λ (o : Option (Step Actor)). net_after w (after w h) x o) is;
        trace_is = trace_push w h x ∙ ap (λ (o : Option (Step Actor)). trace_after x.actor (work_of (after w h) x) o (trace w h)) is;
        leaves = n;
      }

  -- who was given a pair has it
  pub linked : {ts : Tasks} (h : List Entry) → IsLegalBy ts w h → Linked (trace w h) (given_in w h)
  linked h legal =
      by_entries w (λ (k : List Entry). Linked (trace w k) (given_in w k))
      (record { on = λ g there il. absurd there; back = λ p o is. absurd (nobody p o is) })
      (λ k x legal' may l.
      let d = happened k x legal' may in
      let u = actor_trace x.actor d.step.state (work_of (after w k) x) d.step.outcome (trace w k) in
      let gift = (work_of (after w k) x).with in
      let stepped : Linked u (given_in w k ++ option_to_list (gave x.actor x.event gift d.step.outcome.reply)) =
      step_linked x.actor d.step.state x.event gift d.step.outcome (trace w k) (given_in w k) d.leaves.later l in
      subst (λ (t : Trace). Linked t (given_in w (k ++ x ∷ []))) (sym d.trace_is)
      (subst (λ (gs : List Given). Linked u gs) (sym (given_push w k x))
      (subst (λ (r : Reply). Linked u (given_in w k ++ option_to_list (gave x.actor x.event gift r))) (sym d.reply_is) stepped)))
      h legal
    where
      nobody : (p : Pair) (o : Owner) → opening_trace.owner p ≡ Some o → ⊥
      nobody p o is = cc is
