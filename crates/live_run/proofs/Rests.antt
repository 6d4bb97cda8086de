-- A run rests and resumes, and its places get fewer.
use Rattle.std.proofs.Common.{◌≡◌, ℕ, ◌<◌, ◌++◌, Vec, Global, not, true, false, Bool, List, [], ◌∷◌, Option, Some, None, slice_get, refl, sym, ap, subst, ◌∙◌}
use Rattle.std.specs.Prelude.{slice_set}
use Rattle.std.specs.List.{list_all}
use Rattle.std.proofs.lemmas.Bool.{true≢false}
use Rattle.std.proofs.lemmas.Option.{none-some}
use Rattle.net_base.specs.declared.history.Entry.{Entry}
use Rattle.net_base.specs.declared.world.Step.{Step}
use Rattle.net_base.specs.declared.world.World.{World}
use Rattle.net_base.specs.Legal.{IsLegal}
use Rattle.net_base.specs.Net.{after}
use Rattle.net_base.specs.StepWords.{is_step}
use Rattle.net_base.specs.World.{IsWorld}
use Rattle.grown_laws.specs.Grown.{HasNextAtMoves, IsWithinSteps, grown}
use Rattle.plain_runner.specs.Resting.{Rests}
use Rattle.plain_runner.specs.Tracks.{Tracks}
use Rattle.plain_runner.specs.declared.resting.Resting.{Resting}
use Rattle.plain_runner.specs.declared.runner.Runner.{Runner}
use Rattle.live_run.specs.Deadlines.{AreNone, AreWaiting, MovesTo}
use Rattle.live_run.specs.LiveRuns.{IsFreeScript, IsRest, IsResting, IsRunning}
use Rattle.live_run.specs.LiveWorlds.{Begins, HadNext, Narrows}
use Rattle.live_run.specs.declared.places.Places.{Places}
use Rattle.live_run.specs.declared.playing.Rest.{Rest}
use Rattle.live_run.specs.declared.round.Round.{Round}
use Rattle.live_run.proofs.Late.{waiting_begun}
use Rattle.live_run.proofs.PlaceLists.{begun_grown, rests_grown}

-- the places of a run get fewer
pub running_narrowed : (w : World) (old new : Round) → IsRunning w old → new.runner ≡ old.runner → new.history ≡ old.history
    → Narrows old.places.grows.items new.places.grows.items → new.places.deadlines.items ≡ old.places.deadlines.items → new.moved ≡ old.moved → IsRunning w new
running_narrowed w old new s runner history narrows kept moved =
    record {
      tracks = subst (Tracks w) (sym runner) s.tracks;
      history_is = history ∙ (s.history_is ∙ ap (λ (r : Runner). r.history.entries) (sym runner));
      next = λ d is. subst (λ (r : Runner). HasNextAtMoves w d r.history.entries) (sym runner) (s.next d (narrows d is));
      waits = subst (λ (r : Runner). AreWaiting w r.history.entries new.places.deadlines.items) (sym runner)
          (subst (AreWaiting w old.runner.history.entries) (sym kept) s.waits);
      moved = subst (λ (r : Runner). MovesTo r.history.entries new.moved) (sym runner) (subst (MovesTo old.runner.history.entries) (sym moved) s.moved);
    }

-- so of one that rests
pub rest_narrowed : (w : World) (old new : Rest) → IsRest w old → new.run ≡ old.run → new.history ≡ old.history
    → Narrows old.places.grows.items new.places.grows.items → new.places.deadlines.items ≡ old.places.deadlines.items → new.moved ≡ old.moved → IsRest w new
rest_narrowed w old new s run history narrows kept moved =
    record {
      resting =
          record {
            rests = subst (Rests w) (sym run) s.resting.rests;
            history_is = history ∙ (s.resting.history_is ∙ ap (λ (r : Resting). r.history.entries) (sym run));
            next = λ d is. subst (λ (r : Resting). HasNextAtMoves w d r.history.entries) (sym run) (s.resting.next d (narrows d is));
          };
      waits = subst (λ (r : Resting). AreWaiting w r.history.entries new.places.deadlines.items) (sym run)
          (subst (AreWaiting w old.run.history.entries) (sym kept) s.waits);
      moved = subst (λ (r : Resting). MovesTo r.history.entries new.moved) (sym run) (subst (MovesTo old.run.history.entries) (sym moved) s.moved);
    }

-- a run that rested resumes
pub resumes : (w : World) (old : Rest) (new : Round) → IsRest w old → Tracks w new.runner → new.runner.history.entries ≡ old.run.history.entries
    → new.history ≡ old.history → new.places ≡ old.places → new.moved ≡ old.moved → IsRunning w new
resumes w old new s tracks entries history places moved =
    record {
      tracks = tracks;
      history_is = history ∙ (s.resting.history_is ∙ sym entries);
      next = subst (λ (h : List Entry). HadNext w h new.places.grows.items) (sym entries)
          (subst (λ (p : Places). HadNext w old.run.history.entries p.grows.items) (sym places) s.resting.next);
      waits = subst (λ (h : List Entry). AreWaiting w h new.places.deadlines.items) (sym entries)
          (subst (λ (p : Places). AreWaiting w old.run.history.entries p.deadlines.items) (sym places) s.waits);
      moved = subst (λ (h : List Entry). MovesTo h new.moved) (sym entries) (subst (MovesTo old.run.history.entries) (sym moved) s.moved);
    }

-- a run rests
pub comes_to_rest : (w : World) (old : Round) (new : Rest) → IsRunning w old → Rests w new.run → new.run.history.entries ≡ old.runner.history.entries
    → new.history ≡ old.history → new.places ≡ old.places → new.moved ≡ old.moved → IsRest w new
comes_to_rest w old new s rests entries history places moved =
    record {
      resting =
          record {
            rests = rests;
            history_is = history ∙ (s.history_is ∙ sym entries);
            next = subst (λ (h : List Entry). HadNext w h new.places.grows.items) (sym entries)
                (subst (λ (p : Places). HadNext w old.runner.history.entries p.grows.items) (sym places) s.next);
          };
      waits = subst (λ (h : List Entry). AreWaiting w h new.places.deadlines.items) (sym entries)
          (subst (λ (p : Places). AreWaiting w old.runner.history.entries p.deadlines.items) (sym places) s.waits);
      moved = subst (λ (h : List Entry). MovesTo h new.moved) (sym entries) (subst (MovesTo old.runner.history.entries) (sym moved) s.moved);
    }

-- at the beginning
pub first_rest : (w : World) (r : Rest) → Rests w r.run → r.run.history.entries ≡ [] → r.history ≡ [] → AreNone r.places.deadlines.items → IsRest w r
first_rest w r rests none empty no_deadline =
    record {
      resting =
          record {
            rests = rests;
            history_is = empty ∙ sym none;
            next = λ d is. subst (HasNextAtMoves w d) (sym none) (λ k x there. absurd (none-some x there));
          };
      waits = λ c last is. absurd (no_deadline c last is);
      moved = λ k m x there. absurd (none-some x (ap (λ (h : List Entry). slice_get h k) (sym none) ∙ there));
    }

-- A step begins.

abbrev pub NetsAlike : Type 0
NetsAlike = (w : World) (c : ℕ) (more : List Step) (h : List Entry) → after (grown w c more) h ≡ after w h

abbrev pub IsWithin : Type 0
IsWithin = (w : World) (c : ℕ) (h : List Entry) → IsLegal w h → IsWithinSteps w c h

-- the places of a run before and after their next step begins: taken, begun, and with its deadline
pub record StepBegins (old taken begun new : Places) (c : ℕ) : Type 0 where
  pub deadline : Option ℕ
  pub took : taken.grows ≡ old.grows
  pub took_late : taken.deadlines ≡ old.deadlines
  pub narrows : Narrows taken.grows.items begun.grows.items
  pub begun_late : begun.deadlines ≡ taken.deadlines
  pub grows : new.grows ≡ begun.grows
  pub set : new.deadlines.items ≡ slice_set begun.deadlines.items c deadline

pub begins_narrow : (old taken begun new : Places) (c : ℕ) → StepBegins old taken begun new c → Narrows old.grows.items new.grows.items
begins_narrow old taken begun new c b d is =
    ap (λ (v : Vec Bool Global). slice_get v.items d) (sym b.took) ∙ b.narrows d (ap (λ (v : Vec Bool Global). slice_get v.items d) (sym b.grows) ∙ is)

begins_late : (old taken begun new : Places) (c : ℕ) → (b : StepBegins old taken begun new c) → new.deadlines.items ≡ slice_set old.deadlines.items c b.deadline
begins_late old taken begun new c b = b.set ∙ ap (λ (v : Vec (Option ℕ) Global). slice_set v.items c b.deadline) (b.begun_late ∙ b.took_late)

module _ (nets : NetsAlike) (within : IsWithin) (stay : (w : World) (c d : ℕ) (more : List Step) (h : List Entry) → HasNextAtMoves w c h → HasNextAtMoves (grown w d more) c h)
    (worlds : (w : World) (c : ℕ) (more : List Step) → IsWorld w → list_all is_step more ≡ true → IsWorld (grown w c more))
    (runs : (w : World) (c : ℕ) (more : List Step) (r : Resting) → Rests w r → IsWorld (grown w c more) → HasNextAtMoves w c r.history.entries → Rests (grown w c more) r) where
  -- a step of a place begins
  pub begun_rest : (w : World) (c : ℕ) (s : Step) (old new : Rest) (taken begun : Places) → IsRest w old → IsFreeScript w old.run.history.entries c
      → slice_get old.places.grows.items c ≡ Some true → is_step s ≡ true → StepBegins old.places taken begun new.places c
      → new.run ≡ old.run → new.history ≡ old.history → new.moved ≡ old.moved → IsRest (grown w c (s ∷ [])) new
  begun_rest w c s old new taken begun rest free can is begins run history moved =
      let h : List Entry = old.run.history.entries in
      let here : new.run.history.entries ≡ h = ap (λ (r : Resting). r.history.entries) run in
      let narrows : Narrows old.places.grows.items new.places.grows.items = begins_narrow old.places taken begun new.places c begins in
      let had : HadNext (grown w c (s ∷ [])) h new.places.grows.items = λ d there. stay w d c (s ∷ []) h (rest.resting.next d (narrows d there)) in
      let rests : Rests (grown w c (s ∷ [])) old.run = rests_grown worlds stay runs w c s old.run old.places.grows.items rest.resting.rests rest.resting.next can is in
      let late : AreWaiting (grown w c (s ∷ [])) h (slice_set old.places.deadlines.items c begins.deadline) =
      waiting_begun nets within w h c s old.places.deadlines.items begins.deadline free.0 rest.resting.rests.history.legal (rest.resting.next c can) free.1 rest.waits in
      record {
        resting =
            record {
              rests = subst (Rests (grown w c (s ∷ []))) (sym run) rests;
              history_is = history ∙ (rest.resting.history_is ∙ sym here);
              next = subst (λ (k : List Entry). HadNext (grown w c (s ∷ [])) k new.places.grows.items) (sym here) had;
            };
        waits = subst (λ (k : List Entry). AreWaiting (grown w c (s ∷ [])) k new.places.deadlines.items) (sym here)
            (subst (AreWaiting (grown w c (s ∷ [])) h) (sym (begins_late old.places taken begun new.places c begins)) late);
        moved = subst (λ (k : List Entry). MovesTo k new.moved) (sym here) (subst (MovesTo h) (sym moved) rest.moved);
      }

  -- a step that did not begin is added at the end
  pub added_rests : (w : World) (c : ℕ) (s : Step) (old new : Rest) → IsResting w old → slice_get old.places.grows.items c ≡ Some true → is_step s ≡ true
      → new.run ≡ old.run → new.history ≡ old.history → new.places.grows ≡ old.places.grows → IsResting (grown w c (s ∷ [])) new
  added_rests w c s old new rest can is run history grows =
      let h : List Entry = old.run.history.entries in
      let here : new.run.history.entries ≡ h = ap (λ (r : Resting). r.history.entries) run in
      let had : HadNext (grown w c (s ∷ [])) h new.places.grows.items = λ d there.
      stay w d c (s ∷ []) h (rest.next d (ap (λ (v : Vec Bool Global). slice_get v.items d) (sym grows) ∙ there)) in
      record {
        rests = subst (Rests (grown w c (s ∷ []))) (sym run) (rests_grown worlds stay runs w c s old.run old.places.grows.items rest.rests rest.next can is);
        history_is = history ∙ (rest.history_is ∙ sym here);
        next = subst (λ (k : List Entry). HadNext (grown w c (s ∷ [])) k new.places.grows.items) (sym here) had;
      }

-- the first world is the same
pub begins_where : (w v : World) (c : ℕ) (s : Step) (grows : List Bool) → v ≡ grown w c (s ∷ []) → slice_get grows c ≡ Some true → is_step s ≡ true → Begins w grows v
begins_where w v c s grows is can valid = subst (Begins w grows) (sym is) (begun_grown w c s grows can valid)

pub begins_on : (u v w : World) (grows : List Bool) → Begins u grows v → Begins v grows w → Begins u grows w
begins_on u v w grows first then_ start from places = then_ start (first start from places) places

pub not_true : (b : Bool) → not b ≡ true → b ≡ false
not_true true is = absurd (true≢false (sym is))
not_true false is = refl

-- the rest with another run and other places
abbrev pub rest_with : Rest → Resting → Places → Rest
rest_with old run places = record old { run = run; places = places }
