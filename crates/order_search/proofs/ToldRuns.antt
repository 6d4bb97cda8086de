-- What the program reports of the histories of a world.
use Rattle.std.proofs.Common.{◌≡◌, ℕ, zero, suc, ◌+◌, ◌<◌, ◌≤◌, Bool, true, false, List, [], ◌∷◌, ◌++◌, length, Option, Some, None, refl, sym, ap, subst, ◌∙◌, arith}
use Rattle.std.specs.Prelude.{All, IfSome, slice_index_or}
use Rattle.std.specs.List.{list_all}
use Rattle.std.proofs.lemmas.List.Elements.{All-append}
use Rattle.std.proofs.lemmas.Option.{IfSome_then}
use Rattle.net_base.specs.declared.end.RunEnd.{RunEnd}
use Rattle.net_base.specs.declared.history.Entry.{Entry}
use Rattle.net_base.specs.declared.world.World.{World}
use Rattle.net_base.specs.Legal.{IsLegal, IsTimed}
use Rattle.net_base.specs.Net.{after}
use Rattle.net_base.specs.World.{IsWorld}
use Rattle.net_base.specs.Summary.{answered_steps, end_word, summary}
use Rattle.plain_runner.specs.declared.runner.Runner.{Runner}
use Rattle.transcript.specs.RunStatus.{IsRunStatusOf, run_end_word}
use Rattle.transcript.specs.declared.summary.RunStatus.{RunStatus}
use Rattle.turn_orders.specs.Preemptions.{IsWithin, preemptions}
use Rattle.turn_orders.specs.Results.{outcome_of}
use Rattle.turn_orders.specs.Turns.{IsEnded}
use Rattle.order_search.specs.Losses.{AreFrames, is_laid, without}
use Rattle.order_search.specs.Marks.{results_text}
use Rattle.order_search.specs.Tellings.{IsEndedOf, IsEndedRun, IsKin, IsPassOf, IsSearched, IsSound, IsTelling, IsTellingOf, IsWitness, IsWorldOf, most_losses, told_losses}
use Rattle.order_search.specs.Walks.{IsWalk}
use Rattle.order_search.specs.declared.ended.Ended.{Ended}
use Rattle.order_search.specs.declared.losses.Frame.{Frame}
use Rattle.order_search.specs.declared.search.Found.{Found}
use Rattle.order_search.specs.declared.search.Pass.{Pass}
use Rattle.order_search.specs.declared.search.Sought.{Sought}
use Rattle.order_search.specs.declared.tellings.Telling.{Telling}
use Rattle.order_search.specs.declared.walk.Walk.{Walk}
use Rattle.order_search.proofs.Losing.{without_again, world_without}

-- one element more
pub all_more : {X : Type 0} (P : X → Type 0) (xs : List X) (x : X) → All P xs → P x → All P (xs ++ x ∷ [])
all_more P xs x all is = All-append P xs (x ∷ []) all one
  where
    one : All P (x ∷ [])
    one zero d lt = is
    one (suc k) d lt = absurd (omega (arith, lt))

pub all_none : {X : Type 0} (P : X → Type 0) (xs : List X) → xs ≡ [] → All P xs
all_none P xs is = subst (All P) (sym is) (λ k d lt. absurd (omega (arith, lt)))

-- By a run.

pub status_is : (w : World) (walk : Walk) (s : RunStatus) → IsWalk w walk → s.answered ≡ answered_steps w walk.runner.history.entries
    → run_end_word s.end ≡ end_word w (after w walk.runner.history.entries) → IsRunStatusOf w walk.history s
status_is w walk s is answered end = record {
  legal = subst (IsLegal w) (sym is.history_is) is.tracks.history.legal;
  answered = answered ∙ ap (answered_steps w) (sym is.history_is);
  end = end ∙ ap (λ (h : List Entry). end_word w (after w h)) (sym is.history_is);
}

pub end_is : (w : World) (walk : Walk) (end : Option RunEnd) → IsWalk w walk → run_end_word end ≡ end_word w (after w walk.runner.history.entries)
    → run_end_word end ≡ end_word w (after w walk.history)
end_is w walk end is told = told ∙ ap (λ (h : List Entry). end_word w (after w h)) (sym is.history_is)

pub at_end : (w : World) (walk : Walk) → IsWalk w walk → IsEnded w walk.runner.history.entries → IsEnded w walk.history
at_end w walk is ended = subst (IsEnded w) (sym is.history_is) ended

pub telling_is : (w : World) (walk : Walk) (t : Telling) → IsWalk w walk → IsEnded w walk.history → t.preemptions ≡ walk.preemptions
    → t.summary ≡ summary w walk.history → t.results ≡ results_text (outcome_of w walk.history) → run_end_word t.end ≡ end_word w (after w walk.history)
    → IsTellingOf w walk.preemptions walk.history t
telling_is w walk t is ended count text results end = record {
  within = record {
    legal = subst (IsLegal w) (sym is.history_is) is.tracks.history.legal;
    timed = subst (IsTimed w) (sym is.history_is) is.tracks.history.timed;
    bounded = omega (arith, count_of);
    ended = ended;
  };
  preemptions_are = count ∙ sym count_of;
  summary_is = text;
  results_are = results;
  end_is = end;
}
  where
    count_of : preemptions w walk.history ≡ walk.preemptions
    count_of = ap (preemptions w) is.history_is ∙ is.count_is

pub ended_is : (w : World) (walk : Walk) (lost : List Frame) (e : Ended) → IsWalk w walk → IsEnded w walk.history → e.history ≡ walk.history
    → e.summary ≡ summary w walk.history → run_end_word e.end ≡ end_word w (after w walk.history) → e.lost.items ≡ lost
    → IsEndedOf w walk.preemptions walk.history lost e
ended_is w walk lost e is ended same text end lost_is = record {
  run = record {
    legal = subst (IsLegal w) (sym whole) is.tracks.history.legal;
    timed = subst (IsTimed w) (sym whole) is.tracks.history.timed;
    ended = subst (IsEnded w) (sym same) ended;
    summary_is = text ∙ ap (summary w) (sym same);
    end_is = end ∙ ap (λ (h : List Entry). end_word w (after w h)) (sym same);
  };
  bounded = omega (arith, ap (preemptions w) whole, is.count_is);
  history_is = same;
  lost_is = lost_is;
}
  where
    whole : e.history ≡ walk.runner.history.entries
    whole = same ∙ is.history_is

-- Worlds of a search.

pub lost_is_world : (v w : World) (lost : List Frame) → v ≡ without w lost → IsWorld w → AreFrames lost → IsWorld v
lost_is_world v w lost is world frames = subst IsWorld (sym is) (world_without w lost world frames)

kin_some : (v u : World) (k : ℕ) (lost : List Frame) → u ≡ without v lost → (w : World) → IsKin w (Some k) v → IsKin w (Some k) u
kin_some v u k lost is w kin = λ next. ap (λ (x : World). without x next) is ∙ (without_again v lost next ∙ kin next)

pub kin_lost : (v u : World) (losses : Option ℕ) (k : ℕ) (lost : List Frame) → losses ≡ Some k → u ≡ without v lost → (w : World)
    → IsKin w losses v → IsKin w losses u
kin_lost v u losses k lost some is w kin =
    subst (λ (l : Option ℕ). IsKin w l u) (sym some) (kin_some v u k lost is w (subst (λ (l : Option ℕ). IsKin w l v) some kin))

pub kin_itself : (w : World) (losses : Option ℕ) → IsKin w losses w
kin_itself w None = refl
kin_itself w (Some k) = λ lost. refl

-- With a greater bound.

pub telling_within : (w : World) (p q : ℕ) (h : List Entry) (t : Telling) → p ≤ q → IsTellingOf w p h t → IsTellingOf w q h t
telling_within w p q h t le is = record {
  within = record {
    legal = is.within.legal;
    timed = is.within.timed;
    bounded = omega (arith, is.within.bounded, le);
    ended = is.within.ended;
  };
  preemptions_are = is.preemptions_are;
  summary_is = is.summary_is;
  results_are = is.results_are;
  end_is = is.end_is;
}

-- What was found.

pub same_sound : (w : World) (losses : Option ℕ) (p : ℕ) (old new : Found) → IsSound w losses p old → new.told.items ≡ old.told.items
    → new.witness ≡ old.witness → IsSound w losses p new
same_sound w losses p old new is told witness = record {
  told = subst (All (IsTelling w losses p)) (sym told) is.told;
  witness = subst (λ (o : Option Ended). IfSome o (IsWitness w losses p)) (sym witness) is.witness;
}

pub nothing_sound : (w : World) (losses : Option ℕ) (p : ℕ) (f : Found) → f.told.items ≡ [] → f.witness ≡ None → IsSound w losses p f
nothing_sound w losses p f told witness = record {
  told = all_none (IsTelling w losses p) f.told.items told;
  witness = subst (λ (o : Option Ended). IfSome o (IsWitness w losses p)) (sym witness) tt;
}

-- a history of a world of the search: with at most the losses and the preemptions that are sought, and it lays each lost frame
pub record IsSeen (v : World) (losses : Option ℕ) (p q : ℕ) (h : List Entry) (lost : List Frame) : Type 0 where
  pub bound : q ≤ p
  pub frames : AreFrames lost
  pub few : length lost ≤ most_losses losses
  pub laid : list_all (is_laid h) lost ≡ true

seen_telling : (v w : World) (losses : Option ℕ) (p q : ℕ) (h : List Entry) (lost : List Frame) (t : Telling) → IsSeen v losses p q h lost
    → IsWorldOf w losses lost v → IsTellingOf v q h t → t.losses ≡ told_losses losses lost → IsTelling w losses p t
seen_telling v w losses p q h lost t seen of is count = record {
  world = v;
  lost = lost;
  searched = record { world_is = of; frames = seen.frames; few = seen.few };
  history = h;
  is = telling_within v q p h t seen.bound is;
  laid = seen.laid;
  losses_are = count;
}

seen_witness : (v w : World) (losses : Option ℕ) (p q : ℕ) (h : List Entry) (lost : List Frame) (e : Ended) → IsSeen v losses p q h lost
    → IsWorldOf w losses lost v → IsEndedOf v q h lost e → IsWitness w losses p e
seen_witness v w losses p q h lost e seen of is = record {
  world = v;
  searched = subst (λ (l : List Frame). IsSearched w losses l v) (sym is.lost_is) (record { world_is = of; frames = seen.frames; few = seen.few });
  run = is.run;
  bounded = omega (arith, is.bounded, seen.bound);
  laid = ap (λ (g : List Entry). list_all (is_laid g) e.lost.items) is.history_is ∙ (ap (list_all (is_laid h)) is.lost_is ∙ seen.laid);
}

-- one outcome more
pub more_sound : (v w : World) (losses : Option ℕ) (p q : ℕ) (h : List Entry) (lost : List Frame) (old new : Found) (t : Telling) → IsSeen v losses p q h lost
    → IsTellingOf v q h t → t.losses ≡ told_losses losses lost → new.told.items ≡ old.told.items ++ t ∷ [] → new.witness ≡ old.witness
    → IsWorldOf w losses lost v → IsSound w losses p old → IsSound w losses p new
more_sound v w losses p q h lost old new t seen telling count told witness of is = record {
  told = subst (All (IsTelling w losses p)) (sym told)
      (all_more (IsTelling w losses p) old.told.items t is.told (seen_telling v w losses p q h lost t seen of telling count));
  witness = subst (λ (o : Option Ended). IfSome o (IsWitness w losses p)) (sym witness) is.witness;
}

-- which was sought
pub sought_sound : (v w : World) (losses : Option ℕ) (p q : ℕ) (h : List Entry) (lost : List Frame) (old new : Found) (t : Telling) (e : Ended)
    → IsSeen v losses p q h lost → IsTellingOf v q h t → t.losses ≡ told_losses losses lost → IsEndedOf v q h lost e
    → new.told.items ≡ old.told.items ++ t ∷ [] → new.witness ≡ Some e → IsWorldOf w losses lost v → IsSound w losses p old → IsSound w losses p new
sought_sound v w losses p q h lost old new t e seen telling count ended told witness of is = record {
  told = subst (All (IsTelling w losses p)) (sym told)
      (all_more (IsTelling w losses p) old.told.items t is.told (seen_telling v w losses p q h lost t seen of telling count));
  witness = subst (λ (o : Option Ended). IfSome o (IsWitness w losses p)) (sym witness) (seen_witness v w losses p q h lost e seen of ended);
}
