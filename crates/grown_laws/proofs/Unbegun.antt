-- Steps of which the history has no event.
use Rattle.std.proofs.Common.{◌≡◌, ℕ, zero, suc, ◌==◌, Bool, true, false, List, [], ◌∷◌, ◌++◌, map, filter, take, drop, Option, Some, None, is_none, slice_get, refl, sym, ap, subst, ◌∙◌, arith}
use Rattle.std.specs.Prelude.{IsSome}
use Rattle.std.proofs.lemmas.Bool.{eq-eqb, true≢false}
use Rattle.std.proofs.lemmas.List.{map-append}
use Rattle.std.proofs.lemmas.List.Elements.{filter-append}
use Rattle.std.proofs.lemmas.Option.{none-some, same_Some}
use Rattle.net_base.specs.declared.actor.ActorName.TheVariants as name
use Rattle.net_base.specs.declared.event.Event.TheVariants as event
use Rattle.net_base.specs.declared.history.Entry.{Entry}
use Rattle.net_base.specs.declared.history.Outcome.{Outcome}
use Rattle.net_base.specs.declared.reply.Reply.{Reply}
use Rattle.net_base.specs.declared.world.Script.{Script}
use Rattle.net_base.specs.declared.world.Step.{Step}
use Rattle.net_base.specs.declared.world.Step.TheVariants as step
use Rattle.net_base.specs.declared.world.World.{World}
use Rattle.net_base.specs.Callers.{Caller, IsScript, caller_of}
use Rattle.net_base.specs.Duties.{Duty}
use Rattle.net_base.specs.Legal.{FollowsBy, IsAsked, IsLegal, Shows, cites_of}
use Rattle.net_base.specs.Net.{Net, after}
use Rattle.net_base.specs.Next.{by, next_by, next_of_by, own_replies, place_next, zone_of}
use Rattle.net_base.specs.Scripts.{Kept, at_first, heard_replies, kept_after, position, step_play}
use Rattle.net_base.specs.Steps.{Ask, Asking, Asks, Ends, Finished, Names, Play, Stand, position_by, stands}
use Rattle.net_base.specs.Tasks.{nobody}
use Rattle.net_base.proofs.Shared.{no_cons, script_is}
use Rattle.grown_laws.specs.Grown.{IsWithinSteps, behind, behind_by, grown, grown_scripts, longer}
use Rattle.grown_laws.proofs.Legal.{grown_legal, same_outcome}
use Rattle.grown_laws.proofs.Nets.{same_after, same_known}
use Rattle.grown_laws.proofs.Scripts.{Longer, Same, Stays, next_alike, placed_same, same_caller, same_count, stays}

-- One play.

abbrev names_in : Names → Stand → Names
names_in d (Asking a) = d
names_in d (Finished names later) = names

abbrev pub replies_in : Stand → List Reply
replies_in (Asking a) = []
replies_in (Finished names later) = later

abbrev pub is_asking : Stand → Bool
is_asking (Asking a) = true
is_asking (Finished names later) = false

-- a finished play stays finished with the same names if more replies follow
pub finished_more : (p : Play) (rs more : List Reply) (names : Names) (later : List Reply) → stands p rs ≡ Finished names later
    → (stands p (rs ++ more) ≡ Finished names (later ++ more)) × (heard_replies p (rs ++ more) ≡ heard_replies p rs)
finished_more (Ends ends) rs more names later is =
    (ap (λ (t : Stand). Finished (names_in ends t) (replies_in t ++ more)) is, refl)
finished_more (Asks a e next) [] more names later is = absurd (asks_on is)
  where
    asks_on : Asking (record { actor = a; event = e }) ≡ Finished names later → ⊥
    asks_on same = true≢false (ap is_asking same)
finished_more (Asks a e next) (r ∷ rs) more names later is =
    let rest = finished_more (next r) rs more names later is in (rest.0, ap (λ (l : List Reply). r ∷ l) rest.1)

-- One script.

module _ (h : ℕ) where
  abbrev then_kept : Kept → Step → List Reply → Names → Kept
  then_kept k s rs names = kept_after k s names (heard_replies (step_play h k s) rs)

  -- if a script leaves no reply of a longer list, it had a next event after a shorter list
  next_before : (ss : List Step) (k : Kept) (rs : List Reply) (r : Reply) (more : List Reply) → behind h ss k (rs ++ r ∷ more) ≡ [] → IsSome (position h ss k rs).next
  next_before [] k [] r more none = absurd (no_cons r more none)
  next_before [] k (q ∷ rs) r more none = absurd (no_cons q (rs ++ r ∷ more) none)
  next_before (s ∷ ss) k rs r more none = by_stand (stands (step_play h k s) rs) refl (λ kept later there. next_before ss kept later r more there)
    where
      by_stand : (t : Stand) → stands (step_play h k s) rs ≡ t
          → ((kept : Kept) (later : List Reply) → behind h ss kept (later ++ r ∷ more) ≡ [] → IsSome (position h ss kept later).next)
          → IsSome (position_by t (s ∷ ss) (λ (names : Names) (later : List Reply). position h ss (then_kept k s rs names) later)).next
      by_stand (Asking a) is on = refl
      by_stand (Finished names later) is on =
          let both = finished_more (step_play h k s) rs (r ∷ more) names later is in
          on (then_kept k s rs names) later
          (subst (λ (heard : List Reply). behind h ss (kept_after k s names heard) (later ++ r ∷ more) ≡ []) both.1
          (subst (λ (t : Stand). behind_by t (λ (l : Names) (rest : List Reply). behind h ss (then_kept k s (rs ++ r ∷ more) l) rest) ≡ []) both.0 none))

  -- a script that leaves no reply of a list leaves none of a shorter list
  pub behind_less : (ss : List Step) (k : Kept) (rs more : List Reply) → behind h ss k (rs ++ more) ≡ [] → behind h ss k rs ≡ []
  behind_less [] k [] more none = refl
  behind_less [] k (q ∷ rs) more none = absurd (no_cons q (rs ++ more) none)
  behind_less (s ∷ ss) k rs more none = by_stand (stands (step_play h k s) rs) refl (λ kept later there. behind_less ss kept later more there)
    where
      by_stand : (t : Stand) → stands (step_play h k s) rs ≡ t
          → ((kept : Kept) (later : List Reply) → behind h ss kept (later ++ more) ≡ [] → behind h ss kept later ≡ [])
          → behind_by t (λ (names : Names) (later : List Reply). behind h ss (then_kept k s rs names) later) ≡ []
      by_stand (Asking a) is on = refl
      by_stand (Finished names later) is on =
          let both = finished_more (step_play h k s) rs more names later is in
          on (then_kept k s rs names) later
          (subst (λ (heard : List Reply). behind h ss (kept_after k s names heard) (later ++ more) ≡ []) both.1
          (subst (λ (t : Stand). behind_by t (λ (l : Names) (rest : List Reply). behind h ss (then_kept k s (rs ++ more) l) rest) ≡ []) both.0 none))

  -- if a script has no next event and leaves no reply, an `until` at its end is the next step
  pub until_next : (last : ℕ) (ss : List Step) (k : Kept) (rs : List Reply) → behind h ss k rs ≡ [] → (position h ss k rs).next ≡ None
      → (position h (ss ++ step.Until last ∷ []) k rs).next ≡ Some (record { actor = name.Desk h; event = event.Until last })
  until_next last [] k [] none through = refl
  until_next last [] k (q ∷ rs) none through = absurd (no_cons q rs none)
  until_next last (s ∷ ss) k rs none through =
      by_stand (stands (step_play h k s) rs) none through (λ kept later nothing there. until_next last ss kept later nothing there)
    where
      by_stand : (t : Stand) → behind_by t (λ (names : Names) (later : List Reply). behind h ss (then_kept k s rs names) later) ≡ []
          → (position_by t (s ∷ ss) (λ (names : Names) (later : List Reply). position h ss (then_kept k s rs names) later)).next ≡ None
          → ((kept : Kept) (later : List Reply) → behind h ss kept later ≡ [] → (position h ss kept later).next ≡ None
          → (position h (ss ++ step.Until last ∷ []) kept later).next ≡ Some (record { actor = name.Desk h; event = event.Until last }))
          → (position_by t (s ∷ ss ++ step.Until last ∷ []) (λ (names : Names) (later : List Reply). position h (ss ++ step.Until last ∷ []) (then_kept k s rs names) later)).next
          ≡ Some (record { actor = name.Desk h; event = event.Until last })
      by_stand (Asking a) nothing there on = absurd (none-some a (sym there))
      by_stand (Finished names later) nothing there on = on (then_kept k s rs names) later nothing there

-- Histories.

pub own_append : (xs ys : List Entry) (c : ℕ) → own_replies (xs ++ ys) c ≡ own_replies xs c ++ own_replies ys c
own_append xs ys c =
    ap (λ (l : List Entry). map (λ (x : Entry). x.reply) (filter (λ (x : Entry). is_none x.cites) l)) (filter-append (λ (x : Entry). x.caller == c) xs ys)
    ∙ (ap (map (λ (x : Entry). x.reply)) (filter-append (λ (x : Entry). is_none x.cites) (by xs c) (by ys c))
    ∙ map-append (λ (x : Entry). x.reply) (filter (λ (x : Entry). is_none x.cites) (by xs c)) (filter (λ (x : Entry). is_none x.cites) (by ys c)))

own_cons : (x : Entry) (xs : List Entry) (c : ℕ) → x.caller ≡ c → x.cites ≡ None → own_replies (x ∷ xs) c ≡ x.reply ∷ own_replies xs c
own_cons x xs c of_c none = rw (eq-eqb x.caller c of_c, none) refl

cut : (h : List Entry) (k : ℕ) (x : Entry) → slice_get h k ≡ Some x → h ≡ take k h ++ x ∷ drop (suc k) h
cut [] k x is = absurd (none-some x is)
cut (y ∷ h) zero x is = ap (λ (z : Entry). z ∷ h) (same_Some y x is)
cut (y ∷ h) (suc k) x is = ap (λ (l : List Entry). y ∷ l) (cut h k x is)

module _ (w : World) (c : ℕ) (more : List Step) where
  abbrev big : World
  big = grown w c more

  -- at each own event, the script had a next event of its own steps
  own_there : (h : List Entry) → IsWithinSteps w c h → (k : ℕ) (x : Entry) → slice_get h k ≡ Some x → x.caller ≡ c → x.cites ≡ None
      → (s : Script) → slice_get w.scripts c ≡ Some s → IsSome (place_next None (zone_of w) s (own_replies (take k h) c))
  own_there h within k x is of_c none s here =
      let rest : List Entry = drop (suc k) h in
      let parts : own_replies h c ≡ own_replies (take k h) c ++ x.reply ∷ own_replies rest c =
      ap (λ (l : List Entry). own_replies l c) (cut h k x is)
      ∙ (own_append (take k h) (x ∷ rest) c ∙ ap (λ (l : List Reply). own_replies (take k h) c ++ l) (own_cons x rest c of_c none)) in
      next_before s.host s.steps (at_first (zone_of w)) (own_replies (take k h) c) x.reply (own_replies rest c)
      (subst (λ (l : List Reply). behind s.host s.steps (at_first (zone_of w)) l ≡ []) parts (within s here))

  asked_back : (past : List Entry) (ds : List Duty) (i : ℕ) (x : Entry) → x.cites ≡ cites_of ds
      → (i ≡ c → x.cites ≡ None → (s : Script) → slice_get w.scripts c ≡ Some s → IsSome (place_next None (zone_of w) s (own_replies past c)))
      → IsAsked ds (caller_of big i) (next_by nobody big past i) x → IsAsked ds (caller_of w i) (next_by nobody w past i) x
  asked_back past ds i x cites there is = by_script (stays w.scripts c more i)
    where
      by_duties : (s : Script) (ds : List Duty) → x.cites ≡ cites_of ds → i ≡ c → slice_get w.scripts i ≡ Some s
          → IsAsked ds (IsScript (longer s more)) (next_of_by nobody big (IsScript (longer s more)) past i) x
          → IsAsked ds (IsScript s) (next_of_by nobody w (IsScript s) past i) x
      by_duties s (d ∷ ds) cites at here is = is
      by_duties s [] cites at here is =
          let some : IsSome (place_next None (zone_of w) s (own_replies past i)) =
          subst (λ (j : ℕ). IsSome (place_next None (zone_of w) s (own_replies past j))) (sym at)
          (there at cites s (subst (λ (j : ℕ). slice_get w.scripts j ≡ Some s) at here)) in
          sym (placed_same (zone_of w) s more None (own_replies past i) some) ∙ is

      by_script : Stays w.scripts c more i → IsAsked ds (caller_of w i) (next_by nobody w past i) x
      by_script (Same same) =
          subst (λ (n : Option Ask). IsAsked ds (caller_of w i) n x) (next_alike nobody w c more (caller_of w i) past i)
          (subst (λ (k : Caller). IsAsked ds k (next_of_by nobody big k past i) x) (same_caller nobody w c more i same) is)
      by_script (Longer s at here grew) =
          subst (λ (k : Caller). IsAsked ds k (next_of_by nobody w k past i) x) (sym (script_is w i s here))
          (by_duties s ds cites at here (subst (λ (k : Caller). IsAsked ds k (next_of_by nobody big k past i) x) (script_is big i (longer s more) grew) is))

  follows_back : (past : List Entry) (net : Net) (x : Entry)
      → (x.caller ≡ c → x.cites ≡ None → (s : Script) → slice_get w.scripts c ≡ Some s → IsSome (place_next None (zone_of w) s (own_replies past c)))
      → FollowsBy nobody big past net x → FollowsBy nobody w past net x
  follows_back past net x there may =
      record {
        answers = subst (λ (o : Option Outcome). Shows o x) (same_outcome nobody w c more net x) may.answers;
        at_moment = may.at_moment;
        cites = may.cites;
        is_asked = asked_back past (net.owed x.caller) x.caller x may.cites there may.is_asked;
        is_ready = subst (λ (o : Option Outcome). IsSome o) (same_outcome nobody w c more net x) may.is_ready;
        is_known = (sym (same_known w (grown_scripts w.scripts c more) x.actor) ∙ may.is_known.0, omega (arith, may.is_known.1, same_count nobody w c more));
        has_room = may.has_room;
      }

  pub gone : (h : List Entry) → IsWithinSteps w c h → IsLegal big h → IsLegal w h
  gone h within legal k x is =
      follows_back (take k h) (after w (take k h)) x (own_there h within k x is)
      (subst (λ (net : Net). FollowsBy nobody big (take k h) net x) (same_after w (grown_scripts w.scripts c more) (take k h)) (legal k x is))

-- if a history is within the steps, so is each prefix of it
pub within_take : (w : World) (c : ℕ) (h : List Entry) (k : ℕ) (x : Entry) → slice_get h k ≡ Some x → IsWithinSteps w c h → IsWithinSteps w c (take k h)
within_take w c h k x is within s here =
    behind_less s.host s.steps (at_first (zone_of w)) (own_replies (take k h) c) (own_replies (x ∷ drop (suc k) h) c)
    (subst (λ (l : List Reply). behind s.host s.steps (at_first (zone_of w)) l ≡ [])
    (ap (λ (l : List Entry). own_replies l c) (cut h k x is) ∙ own_append (take k h) (x ∷ drop (suc k) h) c)
    (within s here))

pub replaced : (w : World) (c : ℕ) (more others : List Step) (h : List Entry) → IsWithinSteps w c h → IsLegal (grown w c more) h → IsLegal (grown w c others) h
replaced w c more others h within legal = grown_legal nobody w c others h (gone w c more h within legal)
