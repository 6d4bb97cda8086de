-- What is played in the place of a script asks what comes next there, and goes on.
use Rattle.std.proofs.Common.{◌≡◌, List, [], ◌∷◌, ◌++◌, Option, Some, None, refl, sym, ap, subst, ◌∙◌}
use Rattle.std.specs.Option.{option_and_then}
use Rattle.net_base.specs.declared.reply.Reply.{Reply}
use Rattle.net_base.specs.declared.request.Request.{Request}
use Rattle.net_base.specs.declared.world.Script.{Script}
use Rattle.net_base.specs.Next.{place_next}
use Rattle.net_base.specs.Requests.{planned, settled, settles}
use Rattle.net_base.specs.Steps.{Names, no_names}
use Rattle.net_base.specs.Tasks.{Asking, asking_of, asks_after, names_told, told_all}
use Rattle.net_base.specs.Versions.{Tuples}
use Rattle.played_task.specs.declared.place.PlaceTask.{PlaceTask}
use Rattle.played_task.specs.declared.place.PlaceTask.TheVariants as place
use Rattle.played_task.specs.Places as spec
use Rattle.played_task.specs.ScriptLaws as script
use Rattle.played_task.specs.Wholes.{AsksThere, Comes, GoesThere, PlaysOn, PlaysThere}

-- one reply more
names_push : (asks : Asking) (names : Names) (rs : List Reply) (r : Reply)
    → names_told asks names (rs ++ r ∷ []) ≡ settles (names_told asks names rs) (asks rs (names_told asks names rs)) r
names_push asks names [] r = refl
names_push asks names (x ∷ rs) r = names_push (asks_after asks x) (settles names (asks [] names) x) rs r

told_push : {T : Type 0} (after : T → Reply → T) (t : T) (rs : List Reply) (r : Reply) → told_all after t (rs ++ r ∷ []) ≡ after (told_all after t rs) r
told_push after t [] r = refl
told_push after t (x ∷ rs) r = told_push after (after t x) rs r

module _ {T : Type 0} (asks : T → Names → Option Request) (after : T → Reply → T) (Keeps : T → List Reply → Type 0)
    (keeps_on : (t : T) (rs : List Reply) (r : Reply) → Keeps t rs → Keeps (after t r) (rs ++ r ∷ [])) where
  asks_own : (own : Option Asking) (zone : Tuples) (s : Script) (rs : List Reply) (names : Names) (t : T)
      → spec.GoesOwn asks after Keeps own zone rs names t → Comes s.host names (asks t names) (place_next own zone s rs)
  asks_own own zone s rs names t goes =
      subst (λ (o : Option Asking). Comes s.host names (asks t names) (place_next o zone s rs)) (sym goes.own_is)
      (by_request (asks t names)
      (ap (λ (ns : Names). asks (told_all after goes.begun rs) ns) (sym goes.names_are) ∙ ap (λ (u : T). asks u names) (sym goes.task_is)))
    where
      own_is : Asking
      own_is = asking_of after asks goes.begun

      by_request : (o : Option Request) → asks (told_all after goes.begun rs) (names_told own_is (no_names zone) rs) ≡ o
          → Comes s.host names o (place_next (Some own_is) zone s rs)
      by_request None is = ap (option_and_then (planned s.host (names_told own_is (no_names zone) rs))) is
      by_request (Some q) is =
          ap (option_and_then (planned s.host (names_told own_is (no_names zone) rs))) is
          ∙ ap (λ (ns : Names). planned s.host ns q) (sym goes.names_are)

  pub asks_there : AsksThere (PlaceTask T) (spec.asks asks) (spec.Goes asks after Keeps)
  asks_there own zone s rs names (place.Script t) goes = script.asks_there own zone s rs names t goes
  asks_there own zone s rs names (place.Own t) goes = asks_own own zone s rs names t goes

  goes_own : (own : Option Asking) (zone : Tuples) (rs : List Reply) (names : Names) (t : T) (q : Request) (r : Reply)
      → spec.GoesOwn asks after Keeps own zone rs names t → asks t names ≡ Some q
      → spec.GoesOwn asks after Keeps own zone (rs ++ r ∷ []) (settled names q r) (after t r)
  goes_own own zone rs names t q r goes asked =
      let a : Asking = asking_of after asks goes.begun in
      let last : Names = names_told a (no_names zone) rs in
      let asked_last : asks (told_all after goes.begun rs) last ≡ Some q =
      ap (λ (ns : Names). asks (told_all after goes.begun rs) ns) (sym goes.names_are) ∙ (ap (λ (u : T). asks u names) (sym goes.task_is) ∙ asked) in
      record {
        begun = goes.begun;
        own_is = goes.own_is;
        task_is = ap (λ (u : T). after u r) goes.task_is ∙ sym (told_push after goes.begun rs r);
        keeps = keeps_on t rs r goes.keeps;
        names_are =
            ap (λ (ns : Names). settled ns q r) goes.names_are
            ∙ (ap (λ (o : Option Request). settles last o r) (sym asked_last) ∙ sym (names_push a (no_names zone) rs r));
      }

  pub goes_there : GoesThere (PlaceTask T) (spec.asks asks) (spec.after after) (spec.Goes asks after Keeps)
  goes_there own zone s rs names (place.Script t) q ask r goes asked is fit = script.goes_there own zone s rs names t q ask r goes asked is fit
  goes_there own zone s rs names (place.Own t) q ask r goes asked is fit = goes_own own zone rs names t q r goes asked

  pub plays_there : PlaysThere (PlaceTask T) (spec.Goes asks after Keeps) spec.PlaysPlace
  plays_there zone s rs names (place.Script t) at = script.plays_there zone s rs names t at
  plays_there zone s rs names (place.Own t) at = absurd at

  pub plays_on : PlaysOn (PlaceTask T) (spec.asks asks) (spec.after after) spec.PlaysPlace
  plays_on zone s rs names (place.Script t) q ask r at asked is fit = script.plays_on zone s rs names t q ask r at asked is fit
  plays_on zone s rs names (place.Own t) q ask r at asked is fit = absurd at
