-- What a script, or the task in its place, records next, by what is asked.
use Rattle.std.proofs.Common.{◌≡◌, ℕ, List, Option, Some, None, ap, sym, subst, ◌∙◌}
use Rattle.net_base.specs.declared.reply.Reply.{Reply}
use Rattle.net_base.specs.declared.request.Request.{Request}
use Rattle.net_base.specs.declared.world.Script.{Script}
use Rattle.net_base.specs.declared.world.World.{World}
use Rattle.net_base.specs.Callers.{IsScript, caller_of}
use Rattle.net_base.specs.Next.{next_by, own_replies, place_next, zone_of}
use Rattle.net_base.specs.Requests.{planned}
use Rattle.net_base.specs.Steps.{Ask, Names}
use Rattle.net_base.specs.Tasks.{Asking, Tasks}
use Rattle.net_base.specs.Versions.{Tuples}
use Rattle.played_task.specs.Wholes.{AsksThere, Comes}
use Rattle.net_locks.specs.Works.{entries}
use Rattle.host_net.specs.Playing.{GoesOn}
use Rattle.net_guests.specs.Visits.{Visit}
use Rattle.host_net.proofs.Continuing.{script_next}

module _ {T : Type 0} (asks : T → Names → Option Request) (Goes : Option Asking → Tuples → Script → List Reply → Names → T → Type 0)
    (asks_there : AsksThere T asks Goes) (ts : Tasks) (w : World) (v : Visit) (s : Script) (t : T) (script : caller_of w v.caller ≡ IsScript s)
    (goes : GoesOn Goes (ts v.caller) (zone_of w) s v t) where
  comes : Comes s.host v.names (asks t v.names) (place_next (ts v.caller) (zone_of w) s (own_replies (entries v.sight.seen) v.caller))
  comes = asks_there (ts v.caller) (zone_of w) s (own_replies (entries v.sight.seen) v.caller) v.names t goes

  next_is : next_by ts w (entries v.sight.seen) v.caller ≡ place_next (ts v.caller) (zone_of w) s (own_replies (entries v.sight.seen) v.caller)
  next_is = script_next ts w v.caller v.sight.seen s script

  by_request : (o : Option Request) → asks t v.names ≡ o → Comes s.host v.names o (place_next (ts v.caller) (zone_of w) s (own_replies (entries v.sight.seen) v.caller))
  by_request o is =
      subst (λ (x : Option Request). Comes s.host v.names x (place_next (ts v.caller) (zone_of w) s (own_replies (entries v.sight.seen) v.caller))) is comes

  -- the task is through
  pub nothing_next : asks t v.names ≡ None → None ≡ next_by ts w (entries v.sight.seen) v.caller
  nothing_next none = sym (next_is ∙ by_request None none)

  -- its next request records this event
  pub something_next : (h : ℕ) (q : Request) (ask : Ask) → s.host ≡ h → asks t v.names ≡ Some q → planned h v.names q ≡ Some ask
      → Some ask ≡ next_by ts w (entries v.sight.seen) v.caller
  something_next h q ask home is plans =
      sym (next_is ∙ (by_request (Some q) is ∙ (ap (λ (n : ℕ). planned n v.names q) home ∙ plans)))
