-- What a caller owes cites its last own entry, or what stands after it.
use Rattle.std.proofs.Common.{◌≡◌, ℕ, ◌≤◌, ◌==◌, Bool, true, false, List, [], ◌∷◌, ◌++◌, length, drop, Option, Some, None, ◌⊎◌, inl, inr, refl, sym, ap, subst, ◌∙◌, arith}
use Rattle.std.specs.Prelude.{if◌then◌else◌, IsSome}
use Rattle.std.specs.Option.{option_map}
use Rattle.std.proofs.lemmas.Bool.{eqb-true, false≢true, eq-eqb}
use Rattle.std.proofs.lemmas.Option.{none-some, slice_get_within}
use Rattle.net_base.specs.declared.history.Entry.{Entry}
use Rattle.net_base.specs.declared.world.World.{World}
use Rattle.net_base.specs.ActorStep.{Step}
use Rattle.net_base.specs.Actors.{Actor}
use Rattle.net_base.specs.Duties.{Duty, duties}
use Rattle.net_base.specs.Legal.{IsLegal, MayFollow, cites_of}
use Rattle.net_base.specs.Net.{Net, after, net_after, opening_net, owed, step_of, work_of}
use Rattle.net_base.specs.Stamped.{In}
use Rattle.net_model.specs.ScriptOrder.{IsLastOwn, IsOfLastStep}
use Rattle.history_laws.proofs.Shared.{after_push, at_push, before_push, by_entries, in_pushed, Each, each_append, each_weaker, duties_each, past_after}

-- these duties cite entries from the stamp on
abbrev CiteFrom : ℕ → List Duty → Type 0
CiteFrom k ds = Each (λ (d : Duty). k ≤ d.cites) ds

-- the caller owes nothing, or what it owes cites entries from its last own entry on
abbrev FromLast : List Entry → ℕ → List Duty → Type 0
FromLast h c ds = (ds ≡ []) ⊎ ((k : ℕ) × IsLastOwn h c k × CiteFrom k ds)

rest_from : (k : ℕ) (ds : List Duty) → CiteFrom k ds → CiteFrom k (drop 1 ds)
rest_from k [] from = tt
rest_from k (d ∷ ds) from = from.1

each_in : (k : ℕ) (ds : List Duty) (d : Duty) → CiteFrom k ds → In d ds → k ≤ d.cites
each_in k [] d from there = absurd there
each_in k (b ∷ ds) d from (inl is) = subst (λ (e : Duty). k ≤ e.cites) (sym is) from.0
each_in k (b ∷ ds) d from (inr there) = each_in k ds d from.1 there

-- the last own entry stays where the entry isn't one
last_stays : (h : List Entry) (c k : ℕ) (x : Entry) → (x.caller ≡ c → x.cites ≡ None → ⊥) → IsLastOwn h c k → IsLastOwn (h ++ x ∷ []) c k
last_stays h c k x other l = record {
  entry = l.entry;
  stands = before_push h x l.entry k l.stands;
  caller_is = l.caller_is;
  cites_is = l.cites_is;
  last = λ j y is caller own.
      elim (in_pushed h x j y is) [
        | inl there ↦ l.last j y there.1 caller own
        | inr here ↦ absurd (other (subst (λ (z : Entry). z.caller ≡ c) (sym here.1) caller) (subst (λ (z : Entry). z.cites ≡ None) (sym here.1) own))
      ];
}

-- an own entry is the last
last_is : (h : List Entry) (x : Entry) → x.cites ≡ None → IsLastOwn (h ++ x ∷ []) x.caller (length h)
last_is h x own = record {
  entry = x;
  stands = at_push h x;
  caller_is = refl;
  cites_is = own;
  last = λ j y is caller none. elim (in_pushed h x j y is) [ inl there ↦ omega (arith, there.0) | inr here ↦ omega (arith, here.0) ];
}

last_within : (h : List Entry) (c k : ℕ) → IsLastOwn h c k → k ≤ length h
last_within h c k l = let lt = slice_get_within h k l.entry l.stands in omega (arith, lt)

nothing : (ds : List Duty) → None ≡ cites_of ds → ds ≡ []
nothing [] is = refl
nothing (d ∷ ds) is = absurd (none-some d.cites is)

-- the entry is the caller's: its own with nothing owed, or one that was owed
mine : (h : List Entry) (x : Entry) (ds new : List Duty) → CiteFrom (length h) new → x.cites ≡ cites_of ds → FromLast h x.caller ds
    → FromLast (h ++ x ∷ []) x.caller (drop 1 ds ++ new)
mine h x ds new all cites before = by x.cites refl before
  where
    with_new : (k : ℕ) → k ≤ length h → CiteFrom k ds → CiteFrom k (drop 1 ds ++ new)
    with_new k le from =
        each_append (λ (d : Duty). k ≤ d.cites) (drop 1 ds) new (rest_from k ds from)
        (each_weaker (λ (d : Duty). length h ≤ d.cites) (λ (d : Duty). k ≤ d.cites) (λ d far. omega (arith, far, le)) new all)

    by : (o : Option ℕ) → x.cites ≡ o → FromLast h x.caller ds → FromLast (h ++ x ∷ []) x.caller (drop 1 ds ++ new)
    by None own from =
        inr (length h, last_is h x own, with_new (length h) (omega arith) (subst (CiteFrom (length h)) (sym (nothing ds (sym own ∙ cites))) tt))
    by (Some s) is (inl none) = absurd (none-some s (sym (ap cites_of none) ∙ (sym cites ∙ is)))
    by (Some s) is (inr from) =
        inr (
          from.0,
          last_stays h x.caller from.0 x (λ same own. none-some s (sym own ∙ is)) from.1,
          with_new from.0 (last_within h x.caller from.0 from.1) from.2,
        )

another : (h : List Entry) (c : ℕ) (x : Entry) (ds : List Duty) → (x.caller ≡ c → ⊥) → FromLast h c ds → FromLast (h ++ x ∷ []) c ds
another h c x ds other (inl none) = inl none
another h c x ds other (inr from) = inr (from.0, last_stays h c from.0 x (λ same own. other same) from.1, from.2)

from_next : (w : World) (h : List Entry) (net : Net) (x : Entry) (o : Option (Step Actor)) (c : ℕ) → net.past ≡ h → IsSome o → x.cites ≡ cites_of (net.owed x.caller)
    → FromLast h c (net.owed c) → FromLast (h ++ x ∷ []) c ((net_after w net x o).owed c)
from_next w h net x None c past ready cites from = absurd (false≢true ready)
from_next w h net x (Some s) c past ready cites from = by (x.caller == c) refl
  where
    new : List Duty
    new = duties w net.actors x.actor (length net.past) (work_of net x) s

    cite : CiteFrom (length h) new
    cite =
        subst (λ (p : List Entry). CiteFrom (length p) new) past
        (duties_each (λ (d : Duty). length net.past ≤ d.cites) (length net.past) (λ a e gift other. omega arith) w net.actors x.actor (work_of net x) s)

    same_caller : (d : ℕ) → x.caller ≡ d → FromLast h d (net.owed d) → FromLast (h ++ x ∷ []) d (drop 1 (net.owed d) ++ new)
    same_caller d is before =
        subst (λ (e : ℕ). FromLast (h ++ x ∷ []) e (drop 1 (net.owed e) ++ new)) is
        (mine h x (net.owed x.caller) new cite cites (subst (λ (e : ℕ). FromLast h e (net.owed e)) (sym is) before))

    by : (b : Bool) → (x.caller == c) ≡ b → FromLast (h ++ x ∷ []) c (if b then drop 1 (net.owed c) ++ new else net.owed c)
    by false is = another h c x (net.owed c) (λ same. false≢true (sym is ∙ eq-eqb x.caller c same)) from
    by true is = same_caller c (eqb-true x.caller c is) from

is_ready : (o : Option (Step Actor)) → IsSome (option_map (λ (s : Step Actor). s.outcome) o) → IsSome o
is_ready None ready = ready
is_ready (Some s) ready = refl

from_last : (w : World) (c : ℕ) (h : List Entry) → IsLegal w h → FromLast h c (owed w h c)
from_last w c h legal = by_entries w (λ (k : List Entry). FromLast k c (owed w k c)) (inl refl) push h legal
  where
    push : (k : List Entry) (x : Entry) → IsLegal w k → MayFollow w k x → FromLast k c (owed w k c) → FromLast (k ++ x ∷ []) c (owed w (k ++ x ∷ []) c)
    push k x before may from =
        subst (λ (n : Net). FromLast (k ++ x ∷ []) c (n.owed c)) (sym (after_push w k x))
        (from_next w k (after w k) x (step_of w (after w k) x) c (past_after w (opening_net w) k) (is_ready (step_of w (after w k) x) may.is_ready) may.cites from)

pub of_last_step : (w : World) (h : List Entry) (c : ℕ) → IsLegal w h → (d : Duty) → In d (owed w h c) → IsOfLastStep h c d
of_last_step w h c legal d there =
    elim (from_last w c h legal) [
      | inl none ↦ absurd (subst (λ (ds : List Duty). In d ds) none there)
      | inr from ↦ record { stamp = from.0; is_last = from.1; cites = each_in from.0 (owed w h c) d from.2 there }
    ]
