-- Each caller by itself.
use Rattle.std.proofs.Common.{◌≡◌, ℕ, ◌+◌, ◌==◌, Bool, true, false, List, [], ◌∷◌, ◌++◌, length, map, filter, drop, Option, Some, None, is_none, if◌then◌else◌, refl, sym, ap, subst, ◌∙◌, append-nil, length-append, arith}
use Rattle.std.proofs.lemmas.Bool.{eqb-true}
use Rattle.std.proofs.lemmas.List.Elements.{filter-append}
use Rattle.std.proofs.lemmas.List.{nil_from_length}
use mathlib.Core.List.{IsPrefix}
use Rattle.net_base.specs.declared.history.Entry.{Entry}
use Rattle.net_base.specs.declared.noted.Number.TheVariants as number
use Rattle.net_base.specs.declared.world.World.{World}
use Rattle.net_base.specs.ActorStep.{Step}
use Rattle.net_base.specs.Actors.{Actor}
use Rattle.net_base.specs.Callers.{Caller, IsScript, IsCourier, IsClock, IsNobody, caller_of}
use Rattle.net_base.specs.Duties.{Duty, duties}
use Rattle.net_base.specs.Net.{Net, opening_net, net_after, next_net, net_of, after, owed, step_of, with_of}
use Rattle.net_base.specs.Next.{by, next_of_by, place_next, zone_of}
use Rattle.net_base.specs.Stamped.{entries_from, of_caller}
use Rattle.net_base.specs.Tasks.{Tasks}
use Rattle.history_laws.specs.Apart.{StandsStill, step_in, own_steps_from, own_steps, owed_then, owed_by}
use Rattle.history_laws.proofs.Histories.{net_of-append}
use Rattle.net_base.proofs.Shared.{no_cons}

module _ (w : World) (c : ℕ) where
  -- an entry of another caller
  by_other : (net : Net) (x : Entry) (s : Option (Step Actor)) → (x.caller == c) ≡ false → (net_after w net x s).owed c ≡ net.owed c
  by_other net x None other = refl
  by_other net x (Some s) other = rw other refl

  -- one of its own
  by_itself : (net : Net) (x : Entry) (s : Option (Step Actor)) → (x.caller == c) ≡ true → (net_after w net x s).owed c ≡ owed_then w (net.owed c) (step_in w net x) s
  by_itself net x None own = refl
  by_itself net x (Some s) own =
      rw own (ap (λ (d : ℕ). drop 1 (net.owed c) ++ duties w net.actors x.actor (length net.past) (record { event = x.event; with = with_of (net.owed d) }) s) (eqb-true x.caller c own))

  -- what it owes is the fold of its own steps
  folds : (net : Net) (h : List Entry) → (net_of w net h).owed c ≡ owed_by w (net.owed c) (own_steps_from w c net h)
  folds net [] = refl
  folds net (x ∷ xs) = test (x.caller == c) refl (folds (next_net w net x) xs)
    where
      test : (b : Bool) → (x.caller == c) ≡ b
          → (net_of w (next_net w net x) xs).owed c ≡ owed_by w ((next_net w net x).owed c) (own_steps_from w c (next_net w net x) xs)
          → (net_of w net (x ∷ xs)).owed c ≡ owed_by w (net.owed c) (own_steps_from w c net (x ∷ xs))
      test true own rest = rw own (rest ∙ ap (λ (ds : List Duty). owed_by w ds (own_steps_from w c (next_net w net x) xs)) (by_itself net x (step_of w net x) own))
      test false other rest = rw other (rest ∙ ap (λ (ds : List Duty). owed_by w ds (own_steps_from w c (next_net w net x) xs)) (by_other net x (step_of w net x) other))

  -- entries of others leave it
  left : (net : Net) (more : List Entry) → by more c ≡ [] → (net_of w net more).owed c ≡ net.owed c
  left net [] none = refl
  left net (x ∷ xs) none = test (x.caller == c) refl none (left (next_net w net x) xs)
    where
      test : (b : Bool) → (x.caller == c) ≡ b → (if b then x ∷ by xs c else by xs c) ≡ []
          → (by xs c ≡ [] → (net_of w (next_net w net x) xs).owed c ≡ (next_net w net x).owed c)
          → (net_of w net (x ∷ xs)).owed c ≡ net.owed c
      test true own none rest = absurd (no_cons x (by xs c) none)
      test false other none rest = rest none ∙ by_other net x (step_of w net x) other

  next_alike : (ts : Tasks) (k : Caller) (h later : List Entry) → by later c ≡ by h c → next_of_by ts w k later c ≡ next_of_by ts w k h c
  next_alike ts (IsScript s) h later same =
      ap (λ (xs : List Entry). place_next (ts c) (zone_of w) s (map (λ (x : Entry). x.reply) (filter (λ (x : Entry). is_none x.cites) xs))) same
  next_alike ts (IsCourier m) h later same = refl
  next_alike ts IsClock h later same = refl
  next_alike ts IsNobody h later same = refl

  by_append : (h more : List Entry) → by (h ++ more) c ≡ by h c ++ by more c
  by_append h more = filter-append (λ (x : Entry). x.caller == c) h more

  pub owed_is_fold : (h : List Entry) → owed w h c ≡ owed_by w [] (own_steps w h c)
  owed_is_fold h = folds (opening_net w) h

  pub stands_still : (h more : List Entry) → by more c ≡ [] → StandsStill w c h (h ++ more)
  stands_still h more none =
      let same : by (h ++ more) c ≡ by h c = by_append h more ∙ (ap (λ (xs : List Entry). by h c ++ xs) none ∙ append-nil (by h c)) in
      record {
        recorded = same;
        owes = ap (λ (net : Net). net.owed c) (net_of-append w (opening_net w) h more) ∙ left (after w h) more none;
        comes_next = λ ts. next_alike ts (caller_of w c) h (h ++ more) same;
      }

  pub stands_later : (h later : List Entry) → IsPrefix h later → by later c ≡ by h c → StandsStill w c h later
  stands_later h later front same =
      let both : by h c ++ by front.0 c ≡ by h c = sym (by_append h front.0) ∙ (ap (λ (xs : List Entry). by xs c) front.1 ∙ same) in
      let none : by front.0 c ≡ [] = nil_from_length (by front.0 c) (omega (arith, sym (ap length both) ∙ length-append (by h c) (by front.0 c))) in
      subst (λ (xs : List Entry). StandsStill w c h xs) front.1 (stands_still h front.0 none)

-- the entries of a caller are those that have stamps
stamped_from : (n c : ℕ) (h : List Entry) → by h c ≡ map (λ (y : ℕ × Entry). y.1) (entries_from (number.Caller c) n h)
stamped_from n c [] = refl
stamped_from n c (x ∷ xs) = test (x.caller == c) (stamped_from (n + 1) c xs)
  where
    test : (b : Bool) → by xs c ≡ map (λ (y : ℕ × Entry). y.1) (entries_from (number.Caller c) (n + 1) xs)
        → (if b then x ∷ by xs c else by xs c)
        ≡ map (λ (y : ℕ × Entry). y.1) (if b then (n, x) ∷ entries_from (number.Caller c) (n + 1) xs else entries_from (number.Caller c) (n + 1) xs)
    test true rest = ap (λ (ys : List Entry). x ∷ ys) rest
    test false rest = rest

pub stamped : (h : List Entry) (c : ℕ) → by h c ≡ map (λ (y : ℕ × Entry). y.1) (of_caller c h)
stamped h c = stamped_from 0 c h
