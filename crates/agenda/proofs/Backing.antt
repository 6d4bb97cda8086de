-- Tasks come back, each to its place.
use Rattle.std.proofs.Common.{◌≡◌, ◌≢◌, ◌⊎◌, inl, inr, ℕ, zero, suc, ◌<◌, ◌+◌, ◌==◌, Bool, true, false, List, [], ◌∷◌, ◌++◌, append_assoc, length, Option, Some, None, IfNone, IfSome, option_map, slice_get, refl, sym, ap, subst, ◌∙◌, arith}
use Rattle.std.specs.Option.{option_and_then}
use Rattle.std.proofs.lemmas.Bool.{eq-eqb, eqb-true, true≢false}
use Rattle.std.proofs.lemmas.List.{append-nil}
use Rattle.std.proofs.lemmas.Option.{none-some, same_Some, slice_get_within}
use Rattle.net_base.specs.declared.history.Entry.{Entry}
use Rattle.net_base.specs.declared.reply.Reply.{Reply}
use Rattle.net_base.specs.declared.request.Request.{Request}
use Rattle.net_base.specs.declared.world.Script.{Script}
use Rattle.net_base.specs.declared.world.World.{World}
use Rattle.net_base.specs.Callers.{IsScript, caller_of}
use Rattle.net_base.specs.Next.{own_replies, zone_of}
use Rattle.net_base.specs.Stamped.{In}
use Rattle.net_base.specs.Steps.{Names, no_names}
use Rattle.net_base.specs.Tasks.{Asking, Tasks, asking_of, asks_after, told_all}
use Rattle.agenda.specs.Given.{AreBack, AreBegun, AreTheirs, IsBack, NoneElse, WereTold, own_task, task_at, tasks_of}
use Rattle.host_net.specs.Answering.{AreAfter}
use Rattle.host_net.specs.Playing.{AreGoing, guests_of, replies_of}
use Rattle.host_net.proofs.Shared.{replies_after}
use Rattle.net_guests.specs.Visits.{HasGuest, Visit}
use Rattle.played_task.specs.declared.place.PlaceTask.{PlaceTask}
use Rattle.played_task.specs.declared.place.PlaceTask.TheVariants as place
use Rattle.played_task.specs.Places as places
use Rattle.net_base.proofs.Shared.{in_front, script_is}
use Rattle.history_laws.proofs.Shared.{in_last}

in_either : {A : Type 0} (x y : A) (xs : List A) → In x (xs ++ y ∷ []) → In x xs ⊎ (x ≡ y)
in_either x y [] (inl same) = inr same
in_either x y [] (inr none) = absurd none
in_either x y (z ∷ zs) (inl same) = inl (inl same)
in_either x y (z ∷ zs) (inr there) = elim (in_either x y zs there) [ inl first ↦ inl (inr first) | inr last ↦ inr last ]

pub script_at : (w : World) (c : ℕ) → c < length w.scripts → (s : Script) × (slice_get w.scripts c ≡ Some s)
script_at w c lt = found w.scripts c lt
  where
    found : (ss : List Script) (k : ℕ) → k < length ss → (s : Script) × (slice_get ss k ≡ Some s)
    found [] k lt = absurd (omega (arith, lt))
    found (s ∷ ss) zero lt = (s, refl)
    found (s ∷ ss) (suc k) lt = found ss k (omega (arith, lt))

pub task_within : {T : Type 0} (xs : List (Option T)) (c : ℕ) (t : T) → task_at xs c ≡ Some t → c < length xs
task_within {T = T} xs c t is = by_place (slice_get xs c) refl is
  where
    by_place : (o : Option (Option T)) → slice_get xs c ≡ o → option_and_then (λ q. q) o ≡ Some t → c < length xs
    by_place None at none = absurd (none-some t none)
    by_place (Some q) at there = slice_get_within xs c q at

-- one place more in which there is none
pub none_push : {T : Type 0} (xs : List (Option T)) → ((c : ℕ) → task_at xs c ≡ None) → (c : ℕ) → task_at (xs ++ None ∷ []) c ≡ None
none_push [] none zero = refl
none_push [] none (suc c) = refl
none_push (x ∷ xs) none zero = none zero
none_push (x ∷ xs) none (suc c) = none_push xs (λ d. none (suc d)) c

module _ {T : Type 0} (asks : T → Names → Option Request) (after : T → Reply → T) (Keeps : T → List Reply → Type 0) where
  -- two that ask alike do so after the same replies
  told_alike : (t u : T) (rs : List Reply) → asking_of after asks t ≡ asking_of after asks u
      → asking_of after asks (told_all after t rs) ≡ asking_of after asks (told_all after u rs)
  told_alike t u [] same = same
  told_alike t u (r ∷ rs) same = told_alike (after t r) (after u r) rs (ap (λ (a : Asking). asks_after a r) same)

  -- what comes back was told the replies of the history
  pub were_told : (ts : Tasks) (w : World) (given back : List (Option T)) (vs : List Visit) (h : List Entry)
      → ((c : ℕ) → ts c ≡ tasks_of asks after given c) → AreAfter w vs h → ((c : ℕ) → c < length w.scripts → HasGuest c vs)
      → AreBack asks after Keeps ts w vs back → WereTold asks after Keeps w given h back
  were_told ts w given back vs h is are all backs c s t there given_it =
      let asking : Asking = asking_of after asks t in
      let own : ts c ≡ Some asking = is c ∙ ap (option_map (asking_of after asks)) given_it in
      let b : IsBack asks after Keeps ts w vs c (task_at back c) = backs c s asking there own (all c (slice_get_within w.scripts c s there)) in
      let same : own_replies h c ≡ replies_of b.visit = ap (own_replies h) (sym b.caller) ∙ replies_after w vs h b.visit are b.played in
      let alike : asking_of after asks b.goes.begun ≡ asking = same_Some (asking_of after asks b.goes.begun) asking (sym b.goes.own_is ∙ own) in
      record {
        back = b.task;
        back_is = b.back_is;
        keeps = subst (λ (rs : List Reply). Keeps b.task rs) (sym same) b.goes.keeps;
        asks_on =
            ap (asking_of after asks) b.goes.task_is
            ∙ (told_alike b.goes.begun t (replies_of b.visit) alike
            ∙ ap (λ (rs : List Reply). asking_of after asks (told_all after t rs)) (sym same));
      }

  -- What is given for a place is played there at first.

  pub begun_own : (given : List (Option T)) (own : Option T) (c : ℕ) → AreBegun Keeps given → own ≡ task_at given c → IfSome own (λ t. Keeps t [])
  begun_own given None c are is = tt
  begun_own given (Some t) c are is = are c t (sym is)

  pub goes_at_first : (ts : Tasks) (v w : World) (given now : List (Option T)) (own : Option T) (c d : ℕ) (p : PlaceTask T) → w ≡ v → d ≡ c → own ≡ task_at now d
      → task_at now c ≡ task_at given c → ts c ≡ tasks_of asks after given c
      → ((s : Script) → caller_of w d ≡ IsScript s
      → places.Goes asks after Keeps (option_map (asking_of after asks) own) (zone_of w) s [] (no_names (zone_of w)) p)
      → (s : Script) → caller_of v c ≡ IsScript s → places.Goes asks after Keeps (ts c) (zone_of v) s [] (no_names (zone_of v)) p
  goes_at_first ts v w given now own c d p world caller own_is still given_is plays s is =
      let same : own ≡ task_at given c = own_is ∙ (ap (task_at now) caller ∙ still) in
      subst (λ (o : Option Asking). places.Goes asks after Keeps o (zone_of v) s [] (no_names (zone_of v)) p)
      (ap (option_map (asking_of after asks)) same ∙ sym given_is)
      (subst (λ (u : World). places.Goes asks after Keeps (option_map (asking_of after asks) own) (zone_of u) s [] (no_names (zone_of u)) p) world
      (plays s (ap (λ (u : World). caller_of u d) world ∙ (ap (caller_of v) caller ∙ is))))

  -- the guests so far, and the tasks that are back; these parts are left
  pub record Backing (ts : Tasks) (w : World) (all : List Visit) (left : List (Visit × PlaceTask T)) (len : ℕ) (vs : List Visit) (back : List (Option T)) : Type 0 where
    pub same : vs ++ guests_of left ≡ all
    pub going : AreGoing (places.Goes asks after Keeps) ts w left
    pub many : length back ≡ length w.scripts
    pub are_back : AreBack asks after Keeps ts w vs back
    pub theirs : AreTheirs ts back
    pub len_is : len ≡ length left

  -- at first none is back
  pub backing_none : (ts : Tasks) (w : World) (all : List Visit) (parts left : List (Visit × PlaceTask T)) (len : ℕ) (vs : List Visit) (back : List (Option T))
      → len ≡ length left → vs ≡ [] → left ≡ parts → guests_of parts ≡ all → AreGoing (places.Goes asks after Keeps) ts w parts → length back ≡ length w.scripts
      → ((c : ℕ) → task_at back c ≡ None) → Backing ts w all left len vs back
  backing_none ts w all parts left len vs back len_is none is same going many empty =
      record {
        same = ap (λ (us : List Visit). us ++ guests_of left) none ∙ (ap guests_of is ∙ same);
        going = subst (λ (l : List (Visit × PlaceTask T)). AreGoing (places.Goes asks after Keeps) ts w l) (sym is) going;
        many = many;
        are_back = λ c s asking there own guest. absurd (subst (λ (us : List Visit). In guest.0 us) none guest.1);
        theirs = λ c t there. absurd (none-some t (sym (empty c) ∙ there));
        len_is = len_is;
      }

  -- at last all are
  pub backing_all : (ts : Tasks) (w : World) (all : List Visit) (left : List (Visit × PlaceTask T)) (len : ℕ) (vs : List Visit) (back : List (Option T))
      → Backing ts w all left len vs back → len ≡ 0 → vs ≡ all
  backing_all ts w all [] len vs back so_far none = sym (append-nil vs) ∙ so_far.same
  backing_all ts w all (x ∷ xs) len vs back so_far none = absurd (omega (arith, none, so_far.len_is))

  -- one part more
  module _ (ts : Tasks) (w : World) (all : List Visit) (x : Visit × PlaceTask T) (left : List (Visit × PlaceTask T)) (len len' : ℕ) (vs : List Visit) (back after_it : List (Option T))
      (so_far : Backing ts w all (x ∷ left) len vs back) (shorter : len' + 1 ≡ len) (many : length after_it ≡ length back)
      (own : (t : T) → x.1 ≡ place.Own t → x.0.caller < length back → task_at after_it x.0.caller ≡ Some t)
      (none : IfNone (own_task x.1) (after_it ≡ back)) (rest : (c : ℕ) → c ≢ x.0.caller → task_at after_it c ≡ task_at back c) where
    here : (s : Script) (asking : Asking) → slice_get w.scripts x.0.caller ≡ Some s → ts x.0.caller ≡ Some asking → (p : PlaceTask T) → x.1 ≡ p
        → places.Goes asks after Keeps (ts x.0.caller) (zone_of w) s (replies_of x.0) x.0.names p
        → IsBack asks after Keeps ts w (vs ++ x.0 ∷ []) x.0.caller (task_at after_it x.0.caller)
    here s asking there is (place.Script t) same goes = absurd (none-some asking (sym goes.0 ∙ is))
    here s asking there is (place.Own t) same goes =
        let below : x.0.caller < length back = omega (arith, slice_get_within w.scripts x.0.caller s there, so_far.many) in
        record { visit = x.0; played = in_last x.0 vs; caller = refl; task = t; back_is = own t same below; goes = goes }

    -- another's is as it was
    elsewhere : (c : ℕ) → c ≢ x.0.caller → IsBack asks after Keeps ts w vs c (task_at back c)
        → IsBack asks after Keeps ts w (vs ++ x.0 ∷ []) c (task_at after_it c)
    elsewhere c other b =
        record {
          visit = b.visit;
          played = in_front b.visit vs (x.0 ∷ []) b.played;
          caller = b.caller;
          task = b.task;
          back_is = rest c other ∙ b.back_is;
          goes = b.goes;
        }

    had_guest : (c : ℕ) → c ≢ x.0.caller → HasGuest c (vs ++ x.0 ∷ []) → HasGuest c vs
    had_guest c other (v, there, is) =
        elim (in_either v x.0 vs there) [
          | inl first ↦ (v, first, is)
          | inr last ↦ absurd (other (sym is ∙ ap (λ (u : Visit). u.caller) last))
        ]

    one_more : AreBack asks after Keeps ts w (vs ++ x.0 ∷ []) after_it
    one_more c s asking there is guest = by_caller (c == x.0.caller) refl
      where
        by_caller : (b : Bool) → (c == x.0.caller) ≡ b → IsBack asks after Keeps ts w (vs ++ x.0 ∷ []) c (task_at after_it c)
        by_caller true e =
            let same : x.0.caller ≡ c = sym (eqb-true c x.0.caller e) in
            let at : slice_get w.scripts x.0.caller ≡ Some s = ap (slice_get w.scripts) same ∙ there in
            subst (λ (k : ℕ). IsBack asks after Keeps ts w (vs ++ x.0 ∷ []) k (task_at after_it k)) same
            (here s asking at (ap ts same ∙ is) x.1 refl (so_far.going x (inl refl) s (script_is w x.0.caller s at)))
        by_caller false e =
            let other : c ≢ x.0.caller = λ same. true≢false (sym (eq-eqb c x.0.caller same) ∙ e) in
            elsewhere c other (so_far.are_back c s asking there is (had_guest c other guest))

    theirs_more : AreTheirs ts after_it
    theirs_more c t there = by_caller (c == x.0.caller) refl
      where
        by_part : x.0.caller ≡ c → (p : PlaceTask T) → x.1 ≡ p → (asking : Asking) × (ts c ≡ Some asking)
        by_part same (place.Script u) part =
            let still : after_it ≡ back = subst (λ (p : PlaceTask T). IfNone (own_task p) (after_it ≡ back)) part none in
            so_far.theirs c t (sym (ap (λ (l : List (Option T)). task_at l c) still) ∙ there)
        by_part same (place.Own u) part =
            let s = script_at w x.0.caller (omega (arith, same, task_within after_it c t there, many, so_far.many)) in
            let goes : places.GoesOwn asks after Keeps (ts x.0.caller) (zone_of w) (replies_of x.0) x.0.names u =
            subst (λ (p : PlaceTask T). places.Goes asks after Keeps (ts x.0.caller) (zone_of w) s.0 (replies_of x.0) x.0.names p) part
            (so_far.going x (inl refl) s.0 (script_is w x.0.caller s.0 s.1)) in
            (asking_of after asks goes.begun, ap ts (sym same) ∙ goes.own_is)

        by_caller : (b : Bool) → (c == x.0.caller) ≡ b → (asking : Asking) × (ts c ≡ Some asking)
        by_caller true e = by_part (sym (eqb-true c x.0.caller e)) x.1 refl
        by_caller false e =
            let other : c ≢ x.0.caller = λ same. true≢false (sym (eq-eqb c x.0.caller same) ∙ e) in
            so_far.theirs c t (sym (rest c other) ∙ there)

    pub backing_more : Backing ts w all left len' (vs ++ x.0 ∷ []) after_it
    backing_more = record {
      same = append_assoc vs (x.0 ∷ []) (guests_of left) ∙ so_far.same;
      going = λ y there. so_far.going y (inr there);
      many = many ∙ so_far.many;
      are_back = one_more;
      theirs = theirs_more;
      len_is = omega (arith, shorter, so_far.len_is);
    }

  -- a player more is back, from what the calls of a round say
  pub backing_step : (ts : Tasks) (w : World) (all : List Visit) (x : Visit × PlaceTask T) (old new : List (Visit × PlaceTask T)) (len len' : ℕ) (vs vs' : List Visit)
      (back back' : List (Option T)) (c : ℕ) → Backing ts w all old len vs back → old ≡ x ∷ new → len' + 1 ≡ len → c ≡ x.0.caller → length back' ≡ length back
      → IfSome (own_task x.1) (λ t. c < length back → task_at back' c ≡ Some t) → IfNone (own_task x.1) (back' ≡ back)
      → ((k : ℕ) → k ≢ c → task_at back' k ≡ task_at back k) → vs' ≡ vs ++ x.0 ∷ [] → Backing ts w all new len' vs' back'
  backing_step ts w all x old new len len' vs vs' back back' c so_far first shorter caller many own none rest adds =
      subst (λ (us : List Visit). Backing ts w all new len' us back') (sym adds)
      (backing_more ts w all x new len len' vs back back' (subst (λ (l : List (Visit × PlaceTask T)). Backing ts w all l len vs back) first so_far) shorter many
      (λ t same below. ap (task_at back') (sym caller) ∙ own_there t same (omega (arith, below, caller)))
      none (λ k other. rest k (λ same. other (same ∙ caller))))
    where
      own_there : (t : T) → x.1 ≡ place.Own t → c < length back → task_at back' c ≡ Some t
      own_there t same below = (subst (λ (p : PlaceTask T). IfSome (own_task p) (λ u. c < length back → task_at back' c ≡ Some u)) same own) below

  -- where none was given none comes back
  pub none_else : (ts : Tasks) (given back : List (Option T)) → ((c : ℕ) → ts c ≡ tasks_of asks after given c) → AreTheirs ts back → NoneElse given back
  none_else ts given back is theirs c none = by_task (task_at back c) refl
    where
      by_task : (o : Option T) → task_at back c ≡ o → o ≡ None
      by_task None at = refl
      by_task (Some t) at =
          let own = theirs c t at in
          absurd (none-some own.0 (sym (is c ∙ ap (option_map (asking_of after asks)) none) ∙ own.1))
