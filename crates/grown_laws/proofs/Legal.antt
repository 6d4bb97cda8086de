-- An entry that may follow a history may still follow it if a script gets more steps.
use Rattle.std.proofs.Common.{◌≡◌, ℕ, List, [], ◌∷◌, take, Option, sym, ap, subst, ◌∙◌, arith}
use Rattle.std.specs.Prelude.{IsSome}
use Rattle.std.specs.Option.{option_map}
use Rattle.net_base.specs.declared.history.Entry.{Entry}
use Rattle.net_base.specs.declared.history.Outcome.{Outcome}
use Rattle.net_base.specs.declared.world.Script.{Script}
use Rattle.net_base.specs.declared.world.Step.{Step}
use Rattle.net_base.specs.declared.world.World.{World}
use Rattle.net_base.specs.ActorStep.{Step as ActorStep}
use Rattle.net_base.specs.Actors.{Actor}
use Rattle.net_base.specs.Callers.{Caller, IsScript, caller_of}
use Rattle.net_base.specs.Duties.{Duty}
use Rattle.net_base.specs.Legal.{FollowsBy, IsAsked, IsLegalBy, MayFollowBy, Shows, asked_by}
use Rattle.net_base.specs.Net.{Net, after, outcome_in, work_of}
use Rattle.net_base.specs.Next.{next_by, next_of_by, own_replies, zone_of}
use Rattle.net_base.specs.Steps.{Ask}
use Rattle.net_base.specs.Tasks.{Tasks}
use Rattle.net_base.proofs.Shared.{script_is}
use Rattle.grown_laws.specs.Grown.{grown, grown_scripts, longer}
use Rattle.grown_laws.proofs.Nets.{same_after, same_known, same_step}
use Rattle.grown_laws.proofs.Scripts.{Longer, Same, Stays, next_alike, placed, same_caller, same_count, stays}

module _ (ts : Tasks) (w : World) (c : ℕ) (more : List Step) where
  abbrev big : World
  big = grown w c more

  -- an event that is asked for is still asked for
  asked : (past : List Entry) (ds : List Duty) (i : ℕ) (x : Entry) → IsAsked ds (caller_of w i) (next_by ts w past i) x → IsAsked ds (caller_of big i) (next_by ts big past i) x
  asked past ds i x is = by_script (stays w.scripts c more i)
    where
      by_duties : (s : Script) (ds : List Duty) → IsAsked ds (IsScript s) (next_of_by ts w (IsScript s) past i) x
          → IsAsked ds (IsScript (longer s more)) (next_of_by ts big (IsScript (longer s more)) past i) x
      by_duties s [] is = placed (zone_of w) s more (ts i) (own_replies past i) (asked_by x) is
      by_duties s (d ∷ ds) is = is

      by_script : Stays w.scripts c more i → IsAsked ds (caller_of big i) (next_by ts big past i) x
      by_script (Same same) =
          subst (λ (k : Caller). IsAsked ds k (next_of_by ts big k past i) x) (sym (same_caller ts w c more i same))
          (subst (λ (n : Option Ask). IsAsked ds (caller_of w i) n x) (sym (next_alike ts w c more (caller_of w i) past i)) is)
      by_script (Longer s at here grew) =
          subst (λ (k : Caller). IsAsked ds k (next_of_by ts big k past i) x) (sym (script_is big i (longer s more) grew))
          (by_duties s ds (subst (λ (k : Caller). IsAsked ds k (next_of_by ts w k past i) x) (script_is w i s here) is))

  pub same_outcome : (net : Net) (x : Entry) → outcome_in big net x ≡ outcome_in w net x
  same_outcome net x =
      ap (option_map (λ (s : ActorStep Actor). s.outcome)) (same_step w (grown_scripts w.scripts c more) x.actor (net.actors x.actor) net.moment (work_of net x))

  follows : (past : List Entry) (net : Net) (x : Entry) → FollowsBy ts w past net x → FollowsBy ts big past net x
  follows past net x may =
      record {
        answers = subst (λ (o : Option Outcome). Shows o x) (sym (same_outcome net x)) may.answers;
        at_moment = may.at_moment;
        cites = may.cites;
        is_asked = asked past (net.owed x.caller) x.caller x may.is_asked;
        is_ready = subst (λ (o : Option Outcome). IsSome o) (sym (same_outcome net x)) may.is_ready;
        is_known = (same_known w (grown_scripts w.scripts c more) x.actor ∙ may.is_known.0, omega (arith, may.is_known.1, same_count ts w c more));
        has_room = may.has_room;
      }

  pub may_follow : (past : List Entry) (x : Entry) → MayFollowBy ts w past x → MayFollowBy ts big past x
  may_follow past x may =
      subst (λ (net : Net). FollowsBy ts big past net x) (sym (same_after w (grown_scripts w.scripts c more) past)) (follows past (after w past) x may)

  pub grown_legal : (h : List Entry) → IsLegalBy ts w h → IsLegalBy ts big h
  grown_legal h legal k x is = may_follow (take k h) x (legal k x is)
