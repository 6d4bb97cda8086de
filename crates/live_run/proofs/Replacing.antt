-- A step without events is withdrawn: the run forgets the step, and `until` or nothing replaces it.
use Rattle.std.proofs.Common.{◌≡◌, ℕ, ◌<◌, true, Bool, List, [], ◌∷◌, length, Option, Some, None, slice_get, refl, sym, ap, subst, ◌∙◌}
use Rattle.std.specs.Prelude.{slice_set}
use Rattle.std.specs.List.{list_all}
use Rattle.net_base.specs.declared.history.Entry.{Entry}
use Rattle.net_base.specs.declared.world.Step.{Step}
use Rattle.net_base.specs.declared.world.Step.TheVariants as step
use Rattle.net_base.specs.declared.world.World.{World}
use Rattle.net_base.specs.Legal.{IsTimed}
use Rattle.net_base.specs.Net.{after}
use Rattle.net_base.specs.StepWords.{is_step}
use Rattle.net_base.specs.World.{IsWorld}
use Rattle.grown_laws.specs.Grown.{HasNextAtMoves, IsTimedTill, IsWithinSteps, StaysBeforeMoves, grown}
use Rattle.plain_runner.specs.Resting.{IsScriptFinished, Rests}
use Rattle.plain_runner.specs.declared.resting.Resting.{Resting}
use Rattle.live_run.specs.Deadlines.{AreWaiting, MovesTo, Waits}
use Rattle.live_run.specs.LiveRuns.{IsRest}
use Rattle.live_run.specs.LiveWorlds.{ArePlaces, Begins, Gone, GrownFrom, HadNext, Late}
use Rattle.live_run.specs.declared.playing.Rest.{Rest}
use Rattle.live_run.proofs.Late.{next_replaced, waiting_replaced, world_replaced}
use Rattle.live_run.proofs.Waits.{Base, Rising, base_is, late_is_timed, still_next, still_timed}

-- What the theorems say.

abbrev pub NetsAlike : Type 0
NetsAlike = (w : World) (c : ℕ) (more : List Step) (h : List Entry) → after (grown w c more) h ≡ after w h

abbrev pub Unbegun : Type 0
Unbegun = (w : World) (c : ℕ) (s : Step) (more : List Step) (h : List Entry) → c < length w.scripts → IsWithinSteps w c h → HasNextAtMoves (grown w c (s ∷ more)) c h

abbrev pub Waiting : Type 0
Waiting = (w : World) (c : ℕ) (more : List Step) (last : ℕ) (h : List Entry) → c < length w.scripts → IsTimed (grown w c more) h → StaysBeforeMoves w c more last h
    → IsTimedTill w c more last h

abbrev pub Deadlines : Type 0
Deadlines = (w : World) (c : ℕ) (more : List Step) (last : ℕ) (h : List Entry) → c < length w.scripts → IsWithinSteps w c h → IsTimedTill w c more last h
    → IsTimed (grown w c (step.Until last ∷ [])) h

-- the run forgot the step of script c
abbrev pub HasForgotten : ℕ → Resting → Resting → Type 0
HasForgotten c old new = (w : World) (later others : List Step) → Rests (grown w c later) old → IsScriptFinished w c old.history.entries
    → IsWorld (grown w c others) → IsTimed (grown w c others) old.history.entries → Rests (grown w c others) new

-- this world has another last step of script c
abbrev pub HasOther : World → ℕ → Step → World → Type 0
HasOther old c s new = (base : World) (last : Step) → old ≡ grown base c (last ∷ []) → c < length base.scripts → new ≡ grown base c (s ∷ [])

all_one : (s : Step) → is_step s ≡ true → list_all is_step (s ∷ []) ≡ true
all_one s is = rw is refl

module _ (nets : NetsAlike) (w v : World) (h : List Entry) (c last : ℕ) (s : Step) (until_is : s ≡ step.Until last) (waits : Waits w h c last) (other : HasOther w c s v) where
  based : Base w h c last
  based = base_is nets w h c last waits

  replaced : v ≡ grown based.base c (step.Until last ∷ [])
  replaced = other based.base based.step based.is based.known ∙ ap (λ (t : Step). grown based.base c (t ∷ [])) until_is

  pub late_begins : (places : List Bool) → slice_get places c ≡ Some true → Begins w places v
  late_begins places among first from are =
      subst (GrownFrom first) (sym replaced) (Late based.base c based.step last (subst (GrownFrom first) based.is from) (are c among))

  module _ (unbegun : Unbegun) (waiting : Waiting) (deadlines : Deadlines) (is : is_step s ≡ true) where
    pub late_rests : (old new : Rest) → h ≡ old.run.history.entries → IsRest w old → HasForgotten c old.run new.run
        → new.run.history.entries ≡ old.run.history.entries → new.history ≡ old.history → new.places.grows.items ≡ old.places.grows.items
        → new.places.deadlines.items ≡ slice_set old.places.deadlines.items c None → new.moved ≡ old.moved → IsRest v new
    late_rests old new here rest forgot same same_entries grows cleared moved =
        let base : World = based.base in
        let until : Step = step.Until last in
        let past : List Entry = old.run.history.entries in
        let rests : Rests (grown base c (based.step ∷ [])) old.run = subst (λ (u : World). Rests u old.run) based.is rest.resting.rests in
        let timed : IsTimed (grown base c (until ∷ [])) past =
        subst (IsTimed (grown base c (until ∷ []))) here
        (late_is_timed waiting deadlines w h c last based (subst (IsTimed w) (sym here) rest.resting.rests.history.timed)) in
        let finished : IsScriptFinished base c past = subst (IsScriptFinished base c) here (record { is_script = based.known; within = based.within; finished = based.finished }) in
        let world : IsWorld (grown base c (until ∷ [])) =
        world_replaced base c (based.step ∷ []) (until ∷ []) rests.history.world (all_one until (ap is_step (sym until_is) ∙ is)) in
        let had : HadNext (grown base c (until ∷ [])) past old.places.grows.items =
        next_replaced unbegun base c based.step until past old.places.grows.items based.known (subst (IsWithinSteps base c) here based.within)
        (subst (λ (u : World). HadNext u past old.places.grows.items) based.is rest.resting.next) in
        let waits_on : AreWaiting (grown base c (until ∷ [])) past (slice_set old.places.deadlines.items c None) =
        waiting_replaced nets base past c (based.step ∷ []) (until ∷ []) old.places.deadlines.items
        (subst (λ (u : World). AreWaiting u past old.places.deadlines.items) based.is rest.waits) in
        let made : IsRest (grown base c (until ∷ [])) new =
        record {
          resting =
              record {
                rests = forgot base (based.step ∷ []) (until ∷ []) rests finished world timed;
                history_is = same_entries ∙ (rest.resting.history_is ∙ sym same);
                next = subst (λ (k : List Entry). HadNext (grown base c (until ∷ [])) k new.places.grows.items) (sym same)
                    (subst (λ (bs : List Bool). HadNext (grown base c (until ∷ [])) past bs) (sym grows) had);
              };
          waits = subst (λ (k : List Entry). AreWaiting (grown base c (until ∷ [])) k new.places.deadlines.items) (sym same)
              (subst (λ (ds : List (Option ℕ)). AreWaiting (grown base c (until ∷ [])) past ds) (sym cleared) waits_on);
          moved = subst (λ (k : List Entry). MovesTo k new.moved) (sym same) (subst (MovesTo past) (sym moved) rest.moved);
        } in
        subst (λ (u : World). IsRest u new) (sym replaced) made

-- this world lacks the last step of script c
abbrev pub HasLess : World → ℕ → World → Type 0
HasLess old c new = (base : World) (last : Step) → old ≡ grown base c (last ∷ []) → c < length base.scripts → new ≡ grown base c []

module _ (nets : NetsAlike) (w v : World) (h : List Entry) (c last : ℕ) (waits : Waits w h c last) (other : HasLess w c v) where
  bare : Base w h c last
  bare = base_is nets w h c last waits

  removed : v ≡ grown bare.base c []
  removed = other bare.base bare.step bare.is bare.known

  pub gone_begins : (places : List Bool) → slice_get places c ≡ Some true → Begins w places v
  gone_begins places among first from are =
      subst (GrownFrom first) (sym removed) (Gone bare.base c bare.step (subst (GrownFrom first) bare.is from) (are c among))

  pub gone_rests : Rising → (old new : Rest) → h ≡ old.run.history.entries → IsRest w old → HasForgotten c old.run new.run
      → new.run.history.entries ≡ old.run.history.entries → new.history ≡ old.history → new.places.grows.items ≡ old.places.grows.items
      → new.places.deadlines.items ≡ slice_set old.places.deadlines.items c None → old.moved ≡ 0 → new.moved ≡ old.moved → IsRest v new
  gone_rests rising old new here rest forgot same same_entries grows cleared still moved =
      let base : World = bare.base in
      let past : List Entry = old.run.history.entries in
      let known = rest.resting.rests.history in
      let moves : MovesTo past 0 = subst (MovesTo past) still rest.moved in
      let rests : Rests (grown base c (bare.step ∷ [])) old.run = subst (λ (u : World). Rests u old.run) bare.is rest.resting.rests in
      let timed : IsTimed (grown base c []) past = still_timed rising w past known.world known.legal known.timed (grown base c []) moves in
      let finished : IsScriptFinished base c past = subst (IsScriptFinished base c) here (record { is_script = bare.known; within = bare.within; finished = bare.finished }) in
      let world : IsWorld (grown base c []) = world_replaced base c (bare.step ∷ []) [] rests.history.world refl in
      let had : HadNext (grown base c []) past old.places.grows.items =
      λ d there. still_next rising w past known.world known.legal known.timed (grown base c []) moves d in
      let waits_on : AreWaiting (grown base c []) past (slice_set old.places.deadlines.items c None) =
      waiting_replaced nets base past c (bare.step ∷ []) [] old.places.deadlines.items
      (subst (λ (u : World). AreWaiting u past old.places.deadlines.items) bare.is rest.waits) in
      let made : IsRest (grown base c []) new =
      record {
        resting =
            record {
              rests = forgot base (bare.step ∷ []) [] rests finished world timed;
              history_is = same_entries ∙ (rest.resting.history_is ∙ sym same);
              next = subst (λ (k : List Entry). HadNext (grown base c []) k new.places.grows.items) (sym same)
                  (subst (λ (bs : List Bool). HadNext (grown base c []) past bs) (sym grows) had);
            };
        waits = subst (λ (k : List Entry). AreWaiting (grown base c []) k new.places.deadlines.items) (sym same)
            (subst (λ (ds : List (Option ℕ)). AreWaiting (grown base c []) past ds) (sym cleared) waits_on);
        moved = subst (λ (k : List Entry). MovesTo k new.moved) (sym same) (subst (MovesTo past) (sym moved) rest.moved);
      } in
      subst (λ (u : World). IsRest u new) (sym removed) made
