-- A run that forgets a step of which the history has no event.
use Rattle.std.proofs.Common.{◌≡◌, ℕ, zero, suc, ◌+◌, ◌-◌, ◌<◌, ◌==◌, nat_lt, Bool, true, false, List, [], ◌∷◌, length, Option, Some, None, IsSome, is_some, slice_get, slice_set, refl, sym, ap, subst, ◌∙◌, arith}
use Rattle.std.proofs.lemmas.Bool.{eqb-true, eqb-false, false≢true, lt-ltb}
use Rattle.std.proofs.lemmas.List.{length-set}
use Rattle.std.proofs.lemmas.Option.{none-some, same_Some, slice_get_within}
use Rattle.net_base.specs.declared.history.Entry.{Entry}
use Rattle.net_base.specs.declared.reply.Reply.{Reply}
use Rattle.net_base.specs.declared.world.Script.{Script}
use Rattle.net_base.specs.declared.world.Step.{Step}
use Rattle.net_base.specs.declared.world.World.{World}
use Rattle.net_base.specs.Callers.{IsCourier, IsClock, caller_of, caller_count}
use Rattle.net_base.specs.Legal.{IsLegal, IsTimed}
use Rattle.net_base.specs.Net.{Net, after}
use Rattle.net_base.specs.Next.{finished_by, is_unfinished, next_recorded, own_replies, zone_of}
use Rattle.net_base.specs.Scripts.{at_first, position}
use Rattle.net_base.specs.Steps.{Ask}
use Rattle.net_base.specs.World.{IsWorld}
use Rattle.net_base.proofs.Shared.{get_set, get_set_other, script_is, there_at}
use Rattle.grown_laws.specs.Grown.{IsWithinSteps, grown, grown_scripts, longer}
use Rattle.script_player.specs.Players.{AreStepsFinished, IsAt, Playing}
use Rattle.duties.specs.WaysOf.{AreWaysOfWorld}
use Rattle.net_actors.specs.Together.{AreActors, Numbered}
use Rattle.plain_runner.specs.Recording.{IsHistory}
use Rattle.plain_runner.specs.Resting.{AreCallersResting, Forgets, ForgetsRole, HasRestingNext, HasRestingRole, IsCallerResting, IsScriptFinished, Rests}
use Rattle.plain_runner.specs.Turns.{AreOwn}
use Rattle.plain_runner.specs.declared.resting.Resting.{Resting}
use Rattle.plain_runner.specs.declared.resting.RestingCaller.{RestingCaller}
use Rattle.plain_runner.specs.declared.resting.RestingRole.{RestingRole}
use Rattle.plain_runner.specs.declared.resting.RestingRole.TheVariants as role
use Rattle.plain_runner.specs.declared.turn.Turn.{Turn}
use Rattle.plain_runner.proofs.Longer.{FinishedStay, FitsLonger, NetsAlike, StaysLegal, actors_are, as_many, before, before_stays, kept_same, no_clock, no_courier, ways_of_world}

-- The scripts.

grew_at : (ss : List Script) (c : ℕ) (more : List Step) (s : Script) → slice_get ss c ≡ Some s → slice_get (grown_scripts ss c more) c ≡ Some (longer s more)
grew_at [] c more s is = absurd (none-some s is)
grew_at (t ∷ ss) zero more s is = ap (λ (u : Script). Some (longer u more)) (same_Some t s is)
grew_at (t ∷ ss) (suc c) more s is = grew_at ss c more s is

elsewhere : (ss : List Script) (c : ℕ) (more : List Step) (d : ℕ) → (c ≡ d → ⊥) → slice_get (grown_scripts ss c more) d ≡ slice_get ss d
elsewhere [] c more d not_there = refl
elsewhere (s ∷ ss) zero more zero not_there = absurd (not_there refl)
elsewhere (s ∷ ss) zero more (suc d) not_there = refl
elsewhere (s ∷ ss) (suc c) more zero not_there = refl
elsewhere (s ∷ ss) (suc c) more (suc d) not_there = elsewhere ss c more d (λ is. not_there (ap suc is))

-- The laws of steps of which a history has no event.

abbrev pub StepsCanGo : Type 0
StepsCanGo = (w : World) (c : ℕ) (more : List Step) (h : List Entry) → IsWithinSteps w c h → IsLegal (grown w c more) h → IsLegal w h

abbrev pub AsksIfUnfinished : Type 0
AsksIfUnfinished = (w : World) (h : List Entry) (c : ℕ) (s : Script) → slice_get w.scripts c ≡ Some s → is_some (next_recorded w h c) ≡ is_unfinished w h c s

none_left : (n : ℕ) → nat_lt 0 n ≡ false → n ≡ 0
none_left zero is = refl
none_left (suc n) is = absurd (false≢true (sym is ∙ lt-ltb 0 (suc n) (omega arith)))

module _ (finished : FinishedStay) (fits : FitsLonger) (asks : AsksIfUnfinished) (w : World) (c : ℕ) (later others : List Step) (h : List Entry)
    (legal : IsLegal w h) (done : IsScriptFinished w c h) (script : Script) (here : slice_get w.scripts c ≡ Some script)
  where
    abbrev old_world : World
    old_world = grown w c later

    abbrev new_world : World
    new_world = grown w c others

    was_longer : slice_get old_world.scripts c ≡ Some (longer script later)
    was_longer = grew_at w.scripts c later script here

    all_finished : finished_by (zone_of w) (own_replies h c) script ≡ length script.steps
    all_finished =
        let unfinished : is_unfinished w h c script ≡ false = sym (asks w h c script here) ∙ ap is_some done.finished in
        let none : length (position script.host script.steps (at_first (zone_of w)) (own_replies h c)).left ≡ 0 = none_left _ unfinished in
        omega (arith, none)

    are_finished : AreStepsFinished (zone_of w) script (own_replies h c)
    are_finished = λ more. finished w c script more h here legal ∙ all_finished

    role_forgets : (r s : RestingRole) (o : Option Turn) (last : ℕ) → ForgetsRole r s o → HasRestingRole old_world h c r last → HasRestingRole new_world h c s last
    role_forgets (role.Script p) (role.Script q) o last forgets is =
        let same : is.0 ≡ longer script later = same_Some is.0 (longer script later) (sym is.1.is ∙ was_longer) in
        let now : IsAt (zone_of w) script (own_replies h c) q =
        forgets.1 (zone_of w) script later (own_replies h c) (subst (λ (t : Script). IsAt (zone_of w) t (own_replies h c) p) same is.1.at) are_finished in (
          longer script others,
          record {
            is = grew_at w.scripts c others script here;
            at = fits (zone_of w) script others (own_replies h c) q now;
            before_is = is.1.before_is
                ∙ ap (λ (t : Script). finished_by (zone_of w) (before (own_replies h c)) t) same
                ∙ before_stays finished w c script later h legal here
                ∙ sym (before_stays finished w c script others h legal here);
          },
        )
    role_forgets (role.Script p) (role.Courier m) o last forgets is = absurd forgets
    role_forgets (role.Script p) role.Clock o last forgets is = absurd forgets
    role_forgets (role.Courier m) s o last forgets is = absurd (no_courier (longer script later) m (sym (script_is old_world c (longer script later) was_longer) ∙ is))
    role_forgets role.Clock s o last forgets is = absurd (no_clock (longer script later) (sym (script_is old_world c (longer script later) was_longer) ∙ is))

    nothing_next : (r s : RestingRole) (o : Option Turn) (last : ℕ) → ForgetsRole r s o → HasRestingRole old_world h c r last → HasRestingNext new_world h c s o × AreOwn o
    nothing_next (role.Script p) (role.Script q) o last forgets is = (
      λ some. absurd (false≢true (subst (λ (n : Option Turn). IsSome n) forgets.0 some)),
      subst (λ (n : Option Turn). AreOwn n) (sym forgets.0) tt,
    )
    nothing_next (role.Script p) (role.Courier m) o last forgets is = absurd forgets
    nothing_next (role.Script p) role.Clock o last forgets is = absurd forgets
    nothing_next (role.Courier m) s o last forgets is = absurd (no_courier (longer script later) m (sym (script_is old_world c (longer script later) was_longer) ∙ is))
    nothing_next role.Clock s o last forgets is = absurd (no_clock (longer script later) (sym (script_is old_world c (longer script later) was_longer) ∙ is))

    caller_forgets : (k l : RestingCaller) → after new_world h ≡ after old_world h → Forgets k l → IsCallerResting old_world h c k → IsCallerResting new_world h c l
    caller_forgets k l nets forgets is =
        let next = nothing_next k.role l.role l.next k.before forgets.role_is is.role_is in
        record {
          role_is = subst (λ (n : ℕ). HasRestingRole new_world h c l.role n) (sym forgets.before_stays) (role_forgets k.role l.role l.next k.before forgets.role_is is.role_is);
          next_is = next.0;
          own = next.1;
          owes = ap (λ (q : _). q.list) forgets.owed_stays ∙ is.owes ∙ ap (λ (n : Net). n.owed c) (sym nets);
          entries_is = forgets.entries_stay ∙ is.entries_is;
        }

    callers_kept : (ks : List RestingCaller) (k l : RestingCaller) → after new_world h ≡ after old_world h → slice_get ks c ≡ Some k → Forgets k l → AreCallersResting old_world h ks
        → AreCallersResting new_world h (slice_set ks c l)
    callers_kept ks k l nets at forgets are =
        record {
          count = length-set ks c l ∙ are.count ∙ ap (λ (n : ℕ). n + length w.media + 1) (as_many w.scripts c later ∙ sym (as_many w.scripts c others));
          each = λ d x there. by_place d x (c == d) refl there;
        }
      where
        by_place : (d : ℕ) (x : RestingCaller) (same : Bool) → (c == d) ≡ same → slice_get (slice_set ks c l) d ≡ Some x → IsCallerResting new_world h d x
        by_place d x true is there =
            let this : c ≡ d = eqb-true c d is in
            let new : l ≡ x = same_Some l x (sym (get_set ks c l (slice_get_within ks c k at)) ∙ ap (slice_get (slice_set ks c l)) this ∙ there) in
            subst (λ (n : ℕ). IsCallerResting new_world h n x) this (subst (λ (y : RestingCaller). IsCallerResting new_world h c y) new (caller_forgets k l nets forgets (are.each c k at)))
        by_place d x false is there =
            let apart : c ≡ d → ⊥ = eqb-false c d is in
            kept_same old_world (grown_scripts w.scripts c others) h d (as_many w.scripts c others ∙ sym (as_many w.scripts c later))
            (elsewhere w.scripts c others d apart ∙ sym (elsewhere w.scripts c later d apart)) x nets (are.each d x (sym (get_set_other ks c d l apart) ∙ there))

pub callers_forget : NetsAlike → FinishedStay → FitsLonger → AsksIfUnfinished → (w : World) (c : ℕ) (later others : List Step) (h : List Entry) → IsLegal w h → IsScriptFinished w c h
    → (ks : List RestingCaller) (k l : RestingCaller) → slice_get ks c ≡ Some k → Forgets k l → AreCallersResting (grown w c later) h ks
    → AreCallersResting (grown w c others) h (slice_set ks c l)
callers_forget nets finished fits asks w c later others h legal done ks k l at forgets are =
    let there = there_at w.scripts c done.is_script in
    callers_kept finished fits asks w c later others h legal done there.0 there.1 ks k l (nets w c others h ∙ sym (nets w c later h)) at forgets are

pub rests_forgotten : NetsAlike → FinishedStay → FitsLonger → AsksIfUnfinished → StepsCanGo → StaysLegal → (w : World) (c : ℕ) (later others : List Step) (old new : Resting) (k l : RestingCaller)
    → new.history.entries ≡ old.history.entries → new.count ≡ old.count → new.moment ≡ old.moment → new.net ≡ old.net → new.ways ≡ old.ways
    → slice_get old.callers.items c ≡ Some k → Forgets k l → new.callers.items ≡ slice_set old.callers.items c l
    → Rests (grown w c later) old → IsScriptFinished w c old.history.entries → IsWorld (grown w c others) → IsTimed (grown w c others) old.history.entries → Rests (grown w c others) new
rests_forgotten nets finished fits asks gone stays_legal w c later others old new k l history count now net ways at forgets callers rests done world timed =
    let h : List Entry = old.history.entries in
    let legal : IsLegal w h = gone w c later h done.within rests.history.legal in
    let same : after (grown w c others) h ≡ after (grown w c later) h = nets w c others h ∙ sym (nets w c later h) in
    let before_it : World = grown w c later in
    record {
      history = subst (IsHistory (grown w c others)) (sym history) (record { world = world; legal = stays_legal w c others h legal; timed = timed });
      count_is = count ∙ rests.count_is ∙ ap length (sym history);
      callers_are = subst (λ (l : List Entry). AreCallersResting (grown w c others) l new.callers.items) (sym history)
          (subst (AreCallersResting (grown w c others) h) (sym callers)
          (callers_forget nets finished fits asks w c later others h legal done old.callers.items k l at forgets rests.callers_are));
      are = subst (λ (l : List Entry). AreActors (grown w c others) new.net (after (grown w c others) l).actors) (sym history)
          (subst (λ (v : Numbered). AreActors (grown w c others) v (after (grown w c others) h).actors) (sym net)
          (subst (λ (n : Net). AreActors (grown w c others) old.net n.actors) (sym same)
          (actors_are before_it (grown_scripts w.scripts c others) old.net (after before_it h).actors rests.are)));
      ways_are = subst (AreWaysOfWorld (grown w c others)) (sym ways) (ways_of_world before_it (grown_scripts w.scripts c others) old.ways rests.ways_are);
      moment_is = now ∙ rests.moment_is ∙ ap (λ (n : Net). n.moment) (sym same) ∙ ap (λ (l : List Entry). (after (grown w c others) l).moment) (sym history);
    }
