-- In a legal history a script has no events except those of its own steps, and more steps do not change which steps are finished.
use Rattle.std.proofs.Common.{◌≡◌, ℕ, ◌==◌, Bool, true, false, List, [], ◌∷◌, ◌++◌, length, Option, Some, None, slice_get, refl, sym, ap, subst, ◌∙◌, append-nil, length-append, arith}
use Rattle.std.proofs.lemmas.Bool.{eqb-true, true≢false}
use Rattle.std.proofs.lemmas.Option.{none-some}
use Rattle.net_base.specs.declared.history.Entry.{Entry}
use Rattle.net_base.specs.declared.reply.Reply.{Reply}
use Rattle.net_base.specs.declared.world.Script.{Script}
use Rattle.net_base.specs.declared.world.Step.{Step}
use Rattle.net_base.specs.declared.world.World.{World}
use Rattle.net_base.specs.Callers.{Caller, IsScript, caller_of}
use Rattle.net_base.specs.Duties.{Duty}
use Rattle.net_base.specs.Legal.{IsAsked, IsLegal, MayFollow, asked_by, cites_of}
use Rattle.net_base.specs.Net.{owed}
use Rattle.net_base.specs.Next.{finished_by, next_of_by, next_recorded, own_replies, zone_of}
use Rattle.net_base.specs.Scripts.{Kept, at_first, heard_replies, kept_after, position, step_play}
use Rattle.net_base.specs.Steps.{Ask, Asking, Asks, Ends, Finished, Names, Play, Stand, position_by, stands}
use Rattle.net_base.specs.Tasks.{nobody}
use Rattle.net_base.specs.Versions.{Tuples}
use Rattle.net_base.proofs.Shared.{no_cons, script_is}
use Rattle.history_laws.proofs.Shared.{by_entries}
use Rattle.grown_laws.specs.Grown.{IsWithinSteps, behind, behind_by, longer}
use Rattle.grown_laws.proofs.Begins.{step_begins}
use Rattle.grown_laws.proofs.Unbegun.{finished_more, is_asking, own_append, replies_in}

none_left : (p : Play) → replies_in (stands p []) ≡ []
none_left (Ends names) = refl
none_left (Asks a e next) = refl

-- a play that asks leaves no reply if one reply follows
one_reply : (p : Play) (rs : List Reply) (r : Reply) → is_asking (stands p rs) ≡ true → replies_in (stands p (rs ++ r ∷ [])) ≡ []
one_reply (Ends names) rs r asks = absurd (true≢false (sym asks))
one_reply (Asks a e next) [] r asks = none_left (next r)
one_reply (Asks a e next) (q ∷ rs) r asks = one_reply (next q) rs r asks

module _ (h : ℕ) where
  behind_none : (ss : List Step) (k : Kept) → behind h ss k [] ≡ []
  behind_none [] k = refl
  behind_none (s ∷ ss) k = by_stand (stands (step_play h k s) []) (none_left (step_play h k s)) (λ kept. behind_none ss kept)
    where
      by_stand : (t : Stand) → replies_in t ≡ [] → ((kept : Kept) → behind h ss kept [] ≡ [])
          → behind_by t (λ (names : Names) (later : List Reply). behind h ss (kept_after k s names (heard_replies (step_play h k s) [])) later) ≡ []
      by_stand (Asking a) none on = refl
      by_stand (Finished names later) none on =
          subst (λ (l : List Reply). behind h ss (kept_after k s names (heard_replies (step_play h k s) [])) l ≡ []) (sym none)
          (on (kept_after k s names (heard_replies (step_play h k s) [])))

  -- a script that has a next event leaves no reply if one reply follows
  behind_push : (ss : List Step) (k : Kept) (rs : List Reply) (r : Reply) (a : Ask) → (position h ss k rs).next ≡ Some a → behind h ss k (rs ++ r ∷ []) ≡ []
  behind_push [] k rs r a next = absurd (none-some a next)
  behind_push (s ∷ ss) k rs r a next = by_stand (stands (step_play h k s) rs) refl next (λ kept later there. behind_push ss kept later r a there)
    where
      at_end : (u : Stand) → replies_in u ≡ [] → behind_by u (λ (names : Names) (later : List Reply). behind h ss (kept_after k s names (heard_replies (step_play h k s) (rs ++ r ∷ []))) later) ≡ []
      at_end (Asking b) none = refl
      at_end (Finished names later) none =
          subst (λ (l : List Reply). behind h ss (kept_after k s names (heard_replies (step_play h k s) (rs ++ r ∷ []))) l ≡ []) (sym none)
          (behind_none ss (kept_after k s names (heard_replies (step_play h k s) (rs ++ r ∷ []))))

      by_stand : (t : Stand) → stands (step_play h k s) rs ≡ t
          → (position_by t (s ∷ ss) (λ (names : Names) (later : List Reply). position h ss (kept_after k s names (heard_replies (step_play h k s) rs)) later)).next ≡ Some a
          → ((kept : Kept) (later : List Reply) → (position h ss kept later).next ≡ Some a → behind h ss kept (later ++ r ∷ []) ≡ [])
          → behind h (s ∷ ss) k (rs ++ r ∷ []) ≡ []
      by_stand (Asking b) is next on = at_end (stands (step_play h k s) (rs ++ r ∷ [])) (one_reply (step_play h k s) rs r (ap is_asking is))
      by_stand (Finished names later) is next on =
          let both = finished_more (step_play h k s) rs (r ∷ []) names later is in
          subst (λ (t : Stand). behind_by t (λ (l : Names) (rest : List Reply). behind h ss (kept_after k s l (heard_replies (step_play h k s) (rs ++ r ∷ []))) rest) ≡ []) (sym both.0)
          (subst (λ (heard : List Reply). behind h ss (kept_after k s names heard) (later ++ r ∷ []) ≡ []) (sym both.1)
          (on (kept_after k s names (heard_replies (step_play h k s) rs)) later next))

  -- the unfinished steps of a script with more steps
  left_grows : (ss more : List Step) (k : Kept) (rs : List Reply) → behind h ss k rs ≡ [] → (position h (ss ++ more) k rs).left ≡ (position h ss k rs).left ++ more
  left_grows [] [] k rs none = refl
  left_grows [] (s ∷ more) k (r ∷ rs) none = absurd (no_cons r rs none)
  left_grows [] (s ∷ more) k [] none = by_stand (stands (step_play h k s) []) (ap is_asking (step_begins h k s).1)
    where
      by_stand : (t : Stand) → is_asking t ≡ true
          → (position_by t (s ∷ more) (λ (names : Names) (later : List Reply). position h more (kept_after k s names (heard_replies (step_play h k s) [])) later)).left ≡ s ∷ more
      by_stand (Asking a) asks = refl
      by_stand (Finished names later) asks = absurd (true≢false (sym asks))
  left_grows (s ∷ ss) more k rs none = by_stand (stands (step_play h k s) rs) none (λ kept later nothing. left_grows ss more kept later nothing)
    where
      by_stand : (t : Stand) → behind_by t (λ (names : Names) (later : List Reply). behind h ss (kept_after k s names (heard_replies (step_play h k s) rs)) later) ≡ []
          → ((kept : Kept) (later : List Reply) → behind h ss kept later ≡ [] → (position h (ss ++ more) kept later).left ≡ (position h ss kept later).left ++ more)
          → (position_by t (s ∷ ss ++ more) (λ (names : Names) (later : List Reply). position h (ss ++ more) (kept_after k s names (heard_replies (step_play h k s) rs)) later)).left
          ≡ (position_by t (s ∷ ss) (λ (names : Names) (later : List Reply). position h ss (kept_after k s names (heard_replies (step_play h k s) rs)) later)).left ++ more
      by_stand (Asking a) nothing on = refl
      by_stand (Finished names later) nothing on = on (kept_after k s names (heard_replies (step_play h k s) rs)) later nothing

pub finished_stay : (zone : Tuples) (rs : List Reply) (s : Script) (more : List Step) → behind s.host s.steps (at_first zone) rs ≡ []
    → finished_by zone rs (longer s more) ≡ finished_by zone rs s
finished_stay zone rs s more none =
    omega (arith, ap length (left_grows s.host s.steps more (at_first zone) rs none), length-append s.steps more, length-append (position s.host s.steps (at_first zone) rs).left more)

-- Histories.

module _ (w : World) (c : ℕ) (s : Script) (here : slice_get w.scripts c ≡ Some s) where
  abbrev Inside : List Entry → Type 0
  Inside h = behind s.host s.steps (at_first (zone_of w)) (own_replies h c) ≡ []

  asked_now : (past : List Entry) (ds : List Duty) (k : Caller) (x : Entry) → None ≡ cites_of ds → k ≡ IsScript s → IsAsked ds k (next_of_by nobody w k past c) x
      → (position s.host s.steps (at_first (zone_of w)) (own_replies past c)).next ≡ Some (asked_by x)
  asked_now past [] k x none is asked = subst (λ (l : Caller). IsAsked [] l (next_of_by nobody w l past c) x) is asked
  asked_now past (d ∷ ds) k x none is asked = absurd (none-some d.cites none)

  push : (h : List Entry) (x : Entry) → IsLegal w h → MayFollow w h x → Inside h → Inside (h ++ x ∷ [])
  push h x legal may inside = subst (λ (l : List Reply). behind s.host s.steps (at_first (zone_of w)) l ≡ []) (sym (own_append h (x ∷ []) c)) (by_caller (x.caller == c) refl)
    where
      unmoved : behind s.host s.steps (at_first (zone_of w)) (own_replies h c ++ []) ≡ []
      unmoved = subst (λ (l : List Reply). behind s.host s.steps (at_first (zone_of w)) l ≡ []) (sym (append-nil (own_replies h c))) inside

      by_cites : (o : Option ℕ) → x.cites ≡ o → (x.caller == c) ≡ true → x.caller ≡ c
          → behind s.host s.steps (at_first (zone_of w)) (own_replies h c ++ own_replies (x ∷ []) c) ≡ []
      by_cites (Some n) is of_c same = rw (of_c, is) unmoved
      by_cites None is of_c same =
          rw (of_c, is)
          (behind_push s.host s.steps (at_first (zone_of w)) (own_replies h c) x.reply (asked_by x)
          (asked_now h (owed w h c) (caller_of w c) x (sym is ∙ subst (λ (d : ℕ). x.cites ≡ cites_of (owed w h d)) same may.cites) (script_is w c s here)
          (subst (λ (d : ℕ). IsAsked (owed w h d) (caller_of w d) (next_recorded w h d) x) same may.is_asked)))

      by_caller : (b : Bool) → (x.caller == c) ≡ b → behind s.host s.steps (at_first (zone_of w)) (own_replies h c ++ own_replies (x ∷ []) c) ≡ []
      by_caller false is = rw is unmoved
      by_caller true is = by_cites x.cites refl is (eqb-true x.caller c is)

  pub inside : (h : List Entry) → IsLegal w h → Inside h
  inside h legal = by_entries {ts = nobody} w Inside (behind_none s.host s.steps (at_first (zone_of w))) push h legal

pub legal_within : (w : World) (c : ℕ) (h : List Entry) → IsLegal w h → IsWithinSteps w c h
legal_within w c h legal s here = inside w c s here h legal

pub finished_same : (w : World) (c : ℕ) (s : Script) (more : List Step) (h : List Entry) → slice_get w.scripts c ≡ Some s → IsLegal w h
    → finished_by (zone_of w) (own_replies h c) (longer s more) ≡ finished_by (zone_of w) (own_replies h c) s
finished_same w c s more h here legal = finished_stay (zone_of w) (own_replies h c) s more (legal_within w c h legal s here)
