-- The own entries of a script's caller stand in order: so many of its steps are finished.
use Rattle.std.proofs.Common.{◌≡◌, ℕ, ◌==◌, Bool, true, false, List, [], ◌∷◌, ◌++◌, Option, Some, None, refl, sym, ap, subst, ◌∙◌, arith, append-nil}
use Rattle.std.specs.Prelude.{filter, is_none}
use Rattle.std.proofs.lemmas.Bool.{eqb-true}
use Rattle.std.proofs.lemmas.Option.{none-some}
use Rattle.net_base.specs.declared.history.Entry.{Entry}
use Rattle.net_base.specs.declared.world.Script.{Script}
use Rattle.net_base.specs.declared.world.World.{World}
use Rattle.net_base.specs.Callers.{Caller, IsScript, caller_of}
use Rattle.net_base.specs.Duties.{Duty}
use Rattle.net_base.specs.Legal.{IsAsked, IsLegal, MayFollow, asked_by, cites_of}
use Rattle.net_base.specs.Net.{owed}
use Rattle.net_base.specs.Next.{finished_by, next_recorded, next_of, own_entries, own_replies, standing, zone_of}
use Rattle.net_base.specs.Scripts.{at_first}
use Rattle.history_laws.proofs.Shared.{by_entries, own_push, one_own}
use Rattle.prefix_law.specs.ImportLaw.{StandsInOrder}
use Rattle.prefix_law.specs.Order.{StandInOrder}
use Rattle.prefix_law.specs.Scripted.{scripted}
use Rattle.prefix_law.proofs.Plays.{Stood, counted, none_stood, replies, stood_push}

-- what a script records where it owes nothing is its next event
pub asks_next : (w : World) (past : List Entry) (ds : List Duty) (k : Caller) (c : ℕ) (s : Script) (x : Entry)
    → None ≡ cites_of ds → k ≡ IsScript s → IsAsked ds k (next_of w k past c) x → (standing w past c s).next ≡ Some (asked_by x)
asks_next w past [] k c s x none is asked = subst (λ (l : Caller). IsAsked [] l (next_of w l past c) x) is asked
asks_next w past (d ∷ ds) k c s x none is asked = absurd (none-some d.cites none)

module _ (w : World) (c : ℕ) (s : Script) (caller_is : caller_of w c ≡ IsScript s) where
  abbrev pub HasStood : List Entry → Type 0
  HasStood xs = Stood (zone_of w) s (at_first (zone_of w)) s.steps xs

  push : (h : List Entry) (x : Entry) → IsLegal w h → MayFollow w h x → HasStood (own_entries h c) → HasStood (own_entries (h ++ x ∷ []) c)
  push h x legal may there = subst HasStood (sym (own_push h c x)) (by_caller (x.caller == c) refl)
    where
      unmoved : HasStood (own_entries h c ++ [])
      unmoved = subst HasStood (sym (append-nil (own_entries h c))) there

      by_cites : (o : Option ℕ) → x.cites ≡ o → x.caller ≡ c → HasStood (own_entries h c ++ filter (λ (y : Entry). is_none y.cites) (x ∷ []))
      by_cites (Some k) is same = rw is unmoved
      by_cites None is same =
          subst HasStood (ap (λ (xs : List Entry). own_entries h c ++ xs) (sym (one_own x is)))
          (stood_push (zone_of w) s (at_first (zone_of w)) s.steps there.0 (own_entries h c) x there.1
          (asks_next w h (owed w h c) (caller_of w c) c s x (sym is ∙ subst (λ (d : ℕ). x.cites ≡ cites_of (owed w h d)) same may.cites) caller_is
          (subst (λ (d : ℕ). IsAsked (owed w h d) (caller_of w d) (next_recorded w h d) x) same may.is_asked)))

      by_caller : (b : Bool) → (x.caller == c) ≡ b → HasStood (own_entries h c ++ own_entries (x ∷ []) c)
      by_caller false is = rw is unmoved
      by_caller true is = rw is (by_cites x.cites refl (eqb-true x.caller c is))

  pub stood : (h : List Entry) → IsLegal w h → HasStood (own_entries h c)
  stood h legal = by_entries w (λ (k : List Entry). HasStood (own_entries k c)) (none_stood (zone_of w) s (at_first (zone_of w)) s.steps) push h legal

  -- so many steps are finished
  pub finished : (xs : List Entry) → HasStood xs → StandInOrder (scripted (zone_of w) s) (at_first (zone_of w)) s.steps (finished_by (zone_of w) (replies xs) s) xs
  finished xs there =
      let count = counted (zone_of w) s (at_first (zone_of w)) s.steps there.0 xs there.1 in
      let is : there.0 ≡ finished_by (zone_of w) (replies xs) s = omega (arith, count) in
      subst (λ (n : ℕ). StandInOrder (scripted (zone_of w) s) (at_first (zone_of w)) s.steps n xs) is there.1

  pub in_steps : (h : List Entry) → IsLegal w h → StandsInOrder (scripted (zone_of w) s) h c
  in_steps h legal = (finished_by (zone_of w) (own_replies h c) s, finished (own_entries h c) (stood h legal))
