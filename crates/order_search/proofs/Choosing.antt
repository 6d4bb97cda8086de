-- The choice of the next entry's caller, and a run along a path.
use Rattle.std.proofs.Common.{◌≡◌, ℕ, zero, suc, ◌+◌, ◌-◌, ◌<◌, ◌≤◌, inl, inr, Bool, true, false, List, [], ◌∷◌, ◌++◌, drop, length, take, Option, Some, None, refl, sym, ap, subst, ◌∙◌, append-nil, length-append, take_all, slice_get, arith}
use Rattle.std.specs.Prelude.{IfNone, IfSome, option_to_list}
use Rattle.std.proofs.lemmas.Bool.{cases_lt, true≢false, false≢true}
use Rattle.std.proofs.lemmas.List.{map-append, take-append-drop}
use Rattle.std.proofs.lemmas.Option.{none-some, same_Some}
use Rattle.net_base.specs.declared.history.Entry.{Entry}
use Rattle.net_base.specs.declared.world.World.{World}
use Rattle.net_base.specs.Legal.{IsLegal, IsTimed}
use Rattle.net_base.specs.Net.{after}
use Rattle.net_base.specs.Stamped.{In}
use Rattle.net_base.specs.World.{IsWorld}
use Rattle.net_base.proofs.Shared.{length_map, next_one}
use Rattle.turn_orders.specs.Orders.{too_many}
use Rattle.turn_orders.specs.Paths.{IsFirst, IsLowest, IsNone, beginning, left, left_of, refused_to_come, to_come}
use Rattle.turn_orders.specs.Preemptions.{cost, cost_in, last_caller, preemptions}
use Rattle.turn_orders.specs.Turns.{callers_of, comes, goes, with_turns}
use Rattle.turn_orders.proofs.Shared.{comes_only, comes_there, cost_early, cost_first, cost_free, cost_same, cost_waits, is_its_callers, is_short, left_is, lowest_first, preempts_push, refusals_go_on, search_goes_on}
use Rattle.order_search.specs.declared.path.Fork.{Fork}
use Rattle.order_search.specs.declared.path.Path.{Path}
use Rattle.order_search.specs.declared.walk.Walk.{Walk}
use Rattle.order_search.specs.Choices.{AreForks, IsFork, IsForkAt, IsFree, IsNextChoice, IsPath, IsPending, KeepsToCome, NoForkGoes, NobodyFrom, callers_in, choices, fork_kept}
use Rattle.order_search.specs.Exact.{ChosenBy, Chooses, EndsPath, IsAtPlace}
use Rattle.order_search.specs.Walks.{GoesAlone, IsBound, IsGoer, IsLowestGoer, IsWalk, NextGoes, NobodyGoes, NoneGoes, WalksOn}
use Rattle.order_search.proofs.Forking.{callers_push, forks_behind, forks_push, forks_weaker}

-- ---- places

take_one : {A : Type 0} (xs : List A) (n : ℕ) (x : A) → slice_get xs n ≡ Some x → take (n + 1) xs ≡ take n xs ++ x ∷ []
take_one {A} xs n x is = let e : suc n ≡ n + 1 = omega arith in subst (λ (k : ℕ). take k xs ≡ take n xs ++ x ∷ []) e (by xs n is)
  where
    by : (ys : List A) (k : ℕ) → slice_get ys k ≡ Some x → take (suc k) ys ≡ take k ys ++ x ∷ []
    by [] k e = absurd (none-some x e)
    by (y ∷ ys) zero e = ap (λ (z : A). z ∷ []) (same_Some y x e)
    by (y ∷ ys) (suc k) e = ap (λ (zs : List A). y ∷ zs) (by ys k e)

past_end : {A : Type 0} (xs : List A) (n : ℕ) → slice_get xs n ≡ None → length xs ≤ n
past_end [] n is = omega arith
past_end (x ∷ xs) zero is = absurd (none-some x (sym is))
past_end (x ∷ xs) (suc n) is = omega (arith, past_end xs n is)

-- ---- the same is to come

pub keeps_itself : (w : World) (p : ℕ) (r : Bool) (path : Path) → KeepsToCome w p r path r path
keeps_itself w p r path = record { to_come_stays = refl; no_refusal = λ e. e; refusals_stay = λ e. refl }

pub keeps_on : (w : World) (p : ℕ) (a b c : Bool) (x y z : Path) → KeepsToCome w p a x b y → KeepsToCome w p b y c z → KeepsToCome w p a x c z
keeps_on w p a b c x y z first then_ = record {
  to_come_stays = then_.to_come_stays ∙ first.to_come_stays;
  no_refusal = λ e. first.no_refusal (then_.no_refusal e);
  refusals_stay = λ e. then_.refusals_stay e ∙ first.refusals_stay (then_.no_refusal e);
}

-- ---- a run at a place of a path

-- the path has no choice from this place on
pub record IsAtEnd (path : Path) (place : ℕ) (h : List Entry) : Type 0 where
  pub callers_are : callers_in path.forks.items ≡ callers_of h
  pub taken : take place path.forks.items ≡ path.forks.items
  pub count : length path.forks.items ≡ place

module _ (w : World) (p : ℕ) (walk : Walk) (is : IsWalk w walk) where
  short : length (callers_of walk.runner.history.entries) < too_many
  short = omega (arith, is_short w walk.runner.history.entries is.tracks.history.world is.tracks.history.legal, length_map (λ (x : Entry). x.caller) walk.runner.history.entries)

  pub begins_so : with_turns w [] (callers_of walk.runner.history.entries) ≡ walk.runner.history.entries
  begins_so = is_its_callers w walk.runner.history.entries is.tracks.history.legal is.tracks.history.timed

  pub left_so : preemptions w walk.runner.history.entries ≤ p → left_of w [] p (callers_of walk.runner.history.entries) ≡ p - preemptions w walk.runner.history.entries
  left_so within = left_is w p walk.runner.history.entries is.tracks.history.legal is.tracks.history.timed within

  -- callers

  goer_of : (c : ℕ) → In c (comes w walk.runner.history.entries) → IsGoer w walk.runner.history.entries (length walk.runner.callers.items) c
  goer_of c there =
      let so = comes_only w walk.runner.history.entries c there in
      record { known = omega (arith, so.0, is.tracks.callers_are.count); can = so.1 }

  there_of : (c : ℕ) → IsGoer w walk.runner.history.entries (length walk.runner.callers.items) c → In c (comes w walk.runner.history.entries)
  there_of c goer = comes_there w walk.runner.history.entries c (omega (arith, goer.known, is.tracks.callers_are.count)) goer.can

  not_among : {A : Type 0} (from to d : ℕ) → NobodyGoes w walk.runner.history.entries from to → In d (comes w walk.runner.history.entries) → from ≤ d → d < to → A
  not_among from to d nobody there above below = absurd (true≢false (sym (goer_of d there).can ∙ nobody d above below))

  lowest_of : (q from c : ℕ) → IsFree w walk.runner.history.entries q → IsLowestGoer w walk.runner.history.entries (length walk.runner.callers.items) from c
      → IsLowest w walk.runner.history.entries q from c
  lowest_of q from c free low = record {
    there = there_of c low.goer;
    from = low.from_is;
    paid = free c (there_of c low.goer);
    lowest = λ d there above. elim (cases_lt d c) [ inl lt ↦ not_among from c d low.lower there above lt | inr le ↦ le ];
  }

  next_choice : (q : ℕ) (r : Bool) (c : ℕ) (o : Option ℕ) → IsFree w walk.runner.history.entries q
      → NextGoes w walk.runner.history.entries (length walk.runner.callers.items) (c + 1) o → IsNextChoice w walk.runner.history.entries q r c o
  next_choice q r c None free nobody = (
    record { none = λ d there above. not_among (c + 1) (length walk.runner.callers.items) d nobody there above (goer_of d there).known },
    λ unrefused d there above. not_among (c + 1) (length walk.runner.callers.items) d nobody there above (goer_of d there).known,
  )
  next_choice q r c (Some d) free low = (free, lowest_of q (c + 1) d free low)

  -- a choice of the path at this place

  fork_at : (r : Bool) (path : Path) (place : ℕ) (f : Fork) → IsPath w p r path → IsAtPlace w p path place walk.runner.history.entries
      → slice_get path.forks.items place ≡ Some f → IsFork w walk.runner.history.entries (p - preemptions w walk.runner.history.entries) r f
  fork_at r path place f paths at there =
      let split : path.forks.items ≡ take place path.forks.items ++ f ∷ drop (place + 1) path.forks.items =
      sym (take-append-drop place path.forks.items) ∙ ap (λ (fs : List Fork). take place path.forks.items ++ fs) (next_one path.forks.items place f there) in
      let whole : AreForks w [] p r (take place path.forks.items ++ f ∷ drop (place + 1) path.forks.items) = subst (AreForks w [] p r) split paths.forks in
      let here = (forks_behind w [] p r (take place path.forks.items) (f ∷ drop (place + 1) path.forks.items) whole).0 in
      subst (λ (q : ℕ). IsFork w walk.runner.history.entries q r f) (ap (left_of w [] p) at.front ∙ left_so at.within)
      (subst (λ (g : List Entry). IsFork w g (left_of w [] p (callers_in (take place path.forks.items))) r f) (ap (with_turns w []) at.front ∙ begins_so) here)

  pub chooses_played : (r : Bool) (path : Path) (place c : ℕ) → IsForkAt path.forks.items place c → IsPath w p r path
      → IsAtPlace w p path place walk.runner.history.entries → Chooses w p r path r path place walk.runner.history.entries c
  chooses_played r path place c fork paths at =
      let f = fork_at r path place fork.0 paths at fork.1 in record {
        path = paths;
        front =
            ap callers_in (take_one path.forks.items place fork.0 fork.1)
            ∙ (callers_push (take place path.forks.items) fork.0
            ∙ (ap (λ (cs : List ℕ). cs ++ fork.0.caller ∷ []) at.front ∙ ap (λ (d : ℕ). callers_of walk.runner.history.entries ++ d ∷ []) fork.2));
        paid = subst (λ (d : ℕ). cost w walk.runner.history.entries d ≤ p - preemptions w walk.runner.history.entries) fork.2 f.paid;
        keeps = keeps_itself w p r path;
      }

  -- without one, it is at the end of the path
  pub at_end : (r : Bool) (path : Path) (place : ℕ) → IsPath w p r path → IsAtPlace w p path place walk.runner.history.entries
      → NoForkGoes w walk.runner.history.entries (length walk.runner.callers.items) (slice_get path.forks.items place) → IsAtEnd path place walk.runner.history.entries
  at_end r path place paths at none =
      let taken : take place path.forks.items ≡ path.forks.items = take_all place path.forks.items le in
      let callers_are : callers_in path.forks.items ≡ callers_of walk.runner.history.entries = ap callers_in (sym taken) ∙ at.front in record {
        callers_are = callers_are;
        taken = taken;
        count = omega (
          arith,
          at.place_is,
          sym (length_map (λ (f : Fork). f.caller) path.forks.items),
          ap (λ (cs : List ℕ). length cs) callers_are,
          length_map (λ (x : Entry). x.caller) walk.runner.history.entries,
        );
      }
    where
      by : (o : Option Fork) → slice_get path.forks.items place ≡ o → NoForkGoes w walk.runner.history.entries (length walk.runner.callers.items) o → length path.forks.items ≤ place
      by None here no_ = past_end path.forks.items place here
      by (Some f) here no_ = absurd (no_ (goer_of f.caller (fork_at r path place f paths at here).there))

      le : length path.forks.items ≤ place
      le = by (slice_get path.forks.items place) refl none

  -- a further choice

  module _ (r s : Bool) (old new : Path) (place c : ℕ) (next : Option ℕ) (at : IsAtPlace w p old place walk.runner.history.entries)
      (end : IsAtEnd old place walk.runner.history.entries) (forks : new.forks.items ≡ take place old.forks.items ++ fork_kept c next ∷ []) (none : new.pending ≡ None) where
    forks_are : new.forks.items ≡ old.forks.items ++ fork_kept c next ∷ []
    forks_are = forks ∙ ap (λ (fs : List Fork). fs ++ fork_kept c next ∷ []) end.taken

    callers_now : callers_in new.forks.items ≡ callers_of walk.runner.history.entries ++ c ∷ []
    callers_now =
        ap callers_in forks_are
        ∙ (callers_push old.forks.items (fork_kept c next) ∙ ap (λ (cs : List ℕ). cs ++ c ∷ []) end.callers_are)

    pub choices_now : choices new ≡ callers_of walk.runner.history.entries ++ c ∷ []
    choices_now =
        ap (λ (o : Option ℕ). callers_in new.forks.items ++ option_to_list o) none
        ∙ (append-nil (callers_in new.forks.items) ∙ callers_now)

    front_now : callers_in (take (place + 1) new.forks.items) ≡ callers_of walk.runner.history.entries ++ c ∷ []
    front_now =
        ap callers_in (take_all (place + 1) new.forks.items
        (omega (arith, end.count, ap (λ (fs : List Fork). length fs) forks_are, length-append old.forks.items (fork_kept c next ∷ []))))
        ∙ callers_now

    path_now : (s ≡ false → r ≡ false) → AreForks w [] p r old.forks.items
        → IsFork w walk.runner.history.entries (p - preemptions w walk.runner.history.entries) s (fork_kept c next) → IsPath w p s new
    path_now weaker are fork = record {
      forks =
          subst (AreForks w [] p s) (sym forks_are)
          (forks_push w [] p s old.forks.items (fork_kept c next) (forks_weaker w [] p r s old.forks.items weaker are)
          (subst (λ (q : ℕ). IsFork w (with_turns w [] (callers_in old.forks.items)) q s (fork_kept c next))
          (sym (ap (left_of w [] p) end.callers_are ∙ left_so at.within))
          (subst (λ (g : List Entry). IsFork w g (p - preemptions w walk.runner.history.entries) s (fork_kept c next))
          (sym (ap (with_turns w []) end.callers_are ∙ begins_so)) fork)));
      pending = subst (IsPending w (beginning w (callers_in new.forks.items)) (left w p (callers_in new.forks.items))) (sym none) tt;
    }

    pub chooses_so : (s ≡ false → r ≡ false) → AreForks w [] p r old.forks.items
        → IsFork w walk.runner.history.entries (p - preemptions w walk.runner.history.entries) s (fork_kept c next) → KeepsToCome w p r old s new
        → Chooses w p r old s new place walk.runner.history.entries c
    chooses_so weaker are fork keeps = record { path = path_now weaker are fork; front = front_now; paid = fork.paid; keeps = keeps }

  -- the pending choice

  pub chooses_pending : (r : Bool) (old new : Path) (place c : ℕ) (next : Option ℕ) → IsPath w p r old → IsAtPlace w p old place walk.runner.history.entries
      → NoForkGoes w walk.runner.history.entries (length walk.runner.callers.items) (slice_get old.forks.items place) → old.pending ≡ Some c
      → NextGoes w walk.runner.history.entries (length walk.runner.callers.items) (c + 1) next
      → new.forks.items ≡ take place old.forks.items ++ fork_kept c next ∷ [] → new.pending ≡ None → Chooses w p r old r new place walk.runner.history.entries c
  chooses_pending r old new place c next paths at no_fork some goes_next forks none =
      let end = at_end r old place paths at no_fork in
      let pending : In c (comes w walk.runner.history.entries) × IsFree w walk.runner.history.entries (p - preemptions w walk.runner.history.entries) =
      subst (λ (q : ℕ). IsPending w walk.runner.history.entries q (Some c)) (ap (left_of w [] p) end.callers_are ∙ left_so at.within)
      (subst (λ (g : List Entry). IsPending w g (left w p (callers_in old.forks.items)) (Some c)) (ap (with_turns w []) end.callers_are ∙ begins_so)
      (subst (IsPending w (beginning w (callers_in old.forks.items)) (left w p (callers_in old.forks.items))) some paths.pending)) in
      let same : choices new ≡ choices old =
      choices_now r r old new place c next at end forks none
      ∙ (ap (λ (cs : List ℕ). cs ++ c ∷ []) (sym end.callers_are) ∙ ap (λ (o : Option ℕ). callers_in old.forks.items ++ option_to_list o) (sym some)) in
      chooses_so r r old new place c next at end forks none (λ e. e) paths.forks
      (record {
        there = pending.0;
        paid = pending.1 c pending.0;
        kept = refl;
        next_is = next_choice (p - preemptions w walk.runner.history.entries) r c next pending.1 goes_next;
      })
      (record { to_come_stays = ap (to_come w p) same; no_refusal = λ e. e; refusals_stay = λ e. ap (refused_to_come w p) same })

  no_pending : (r : Bool) (path : Path) (place : ℕ) → IsPath w p r path → IsAtPlace w p path place walk.runner.history.entries → IsAtEnd path place walk.runner.history.entries
      → NoneGoes w walk.runner.history.entries (length walk.runner.callers.items) path.pending → path.pending ≡ None
  no_pending r path place paths at end none = by path.pending refl none
    where
      by : (o : Option ℕ) → path.pending ≡ o → NoneGoes w walk.runner.history.entries (length walk.runner.callers.items) o → path.pending ≡ None
      by None e no_ = e
      by (Some c) e no_ =
          absurd (no_ (goer_of c
          (subst (λ (g : List Entry). In c (comes w g)) (ap (with_turns w []) end.callers_are ∙ begins_so)
          (subst (IsPending w (beginning w (callers_in path.forks.items)) (left w p (callers_in path.forks.items))) e paths.pending).0)))

  choices_before : (path : Path) (place : ℕ) → IsAtEnd path place walk.runner.history.entries → path.pending ≡ None → choices path ≡ callers_of walk.runner.history.entries
  choices_before path place end none =
      ap (λ (o : Option ℕ). callers_in path.forks.items ++ option_to_list o) none ∙ (append-nil (callers_in path.forks.items) ∙ end.callers_are)

  -- a new first choice

  first_stays : (r s : Bool) (old new : Path) (c : ℕ) → choices old ≡ callers_of walk.runner.history.entries → choices new ≡ callers_of walk.runner.history.entries ++ c ∷ []
      → preemptions w walk.runner.history.entries ≤ p → (s ≡ false → r ≡ false)
      → IsFirst w walk.runner.history.entries (p - preemptions w walk.runner.history.entries) 0 c
      → (s ≡ false → IsLowest w walk.runner.history.entries (p - preemptions w walk.runner.history.entries) 0 c) → KeepsToCome w p r old s new
  first_stays r s old new c before now within weaker first lowest = record {
    to_come_stays =
        ap (to_come w p) now
        ∙ (sym (search_goes_on w p (callers_of walk.runner.history.entries) c short
        (subst (λ (q : ℕ). IsFirst w (beginning w (callers_of walk.runner.history.entries)) q 0 c) (sym (left_so within))
        (subst (λ (g : List Entry). IsFirst w g (p - preemptions w walk.runner.history.entries) 0 c) (sym begins_so) first)))
        ∙ ap (to_come w p) (sym before));
    no_refusal = weaker;
    refusals_stay = λ unrefused.
        ap (refused_to_come w p) now
        ∙ (sym (refusals_go_on w p (callers_of walk.runner.history.entries) c short
        (subst (λ (q : ℕ). IsLowest w (beginning w (callers_of walk.runner.history.entries)) q 0 c) (sym (left_so within))
        (subst (λ (g : List Entry). IsLowest w g (p - preemptions w walk.runner.history.entries) 0 c) (sym begins_so) (lowest unrefused))))
        ∙ ap (refused_to_come w p) (sym before));
  }

  pub chooses_first : (r : Bool) (old new : Path) (place c : ℕ) (next : Option ℕ) → IsPath w p r old → IsAtPlace w p old place walk.runner.history.entries
      → NoForkGoes w walk.runner.history.entries (length walk.runner.callers.items) (slice_get old.forks.items place)
      → (length old.forks.items ≡ place → NoneGoes w walk.runner.history.entries (length walk.runner.callers.items) old.pending)
      → IsFree w walk.runner.history.entries (p - walk.preemptions) → IsGoer w walk.runner.history.entries (length walk.runner.callers.items) c
      → NobodyGoes w walk.runner.history.entries 0 c → NextGoes w walk.runner.history.entries (length walk.runner.callers.items) (c + 1) next
      → new.forks.items ≡ take place old.forks.items ++ fork_kept c next ∷ [] → new.pending ≡ None → Chooses w p r old r new place walk.runner.history.entries c
  chooses_first r old new place c next paths at no_fork no_next free_by goer lower goes_next forks none =
      let end = at_end r old place paths at no_fork in
      let free : IsFree w walk.runner.history.entries (p - preemptions w walk.runner.history.entries) =
      subst (λ (k : ℕ). IsFree w walk.runner.history.entries (p - k)) (sym is.count_is) free_by in
      let low : IsLowest w walk.runner.history.entries (p - preemptions w walk.runner.history.entries) 0 c =
      lowest_of (p - preemptions w walk.runner.history.entries) 0 c free (record { goer = goer; from_is = omega arith; lower = lower }) in
      chooses_so r r old new place c next at end forks none (λ e. e) paths.forks
      (record {
        there = low.there;
        paid = low.paid;
        kept = refl;
        next_is = next_choice (p - preemptions w walk.runner.history.entries) r c next free goes_next;
      })
      (first_stays r r old new c (choices_before old place end (no_pending r old place paths at end (no_next end.count)))
      (choices_now r r old new place c next at end forks none) at.within (λ e. e)
      (lowest_first w walk.runner.history.entries (p - preemptions w walk.runner.history.entries) 0 c low) (λ unrefused. low))

  -- the last caller, without a preemption left

  pub chooses_last : (r s : Bool) (old new : Path) (place c : ℕ) → IsPath w p r old → IsAtPlace w p old place walk.runner.history.entries
      → NoForkGoes w walk.runner.history.entries (length walk.runner.callers.items) (slice_get old.forks.items place)
      → (length old.forks.items ≡ place → NoneGoes w walk.runner.history.entries (length walk.runner.callers.items) old.pending)
      → IsGoer w walk.runner.history.entries (length walk.runner.callers.items) c → IsBound w walk.runner.history.entries p c
      → (s ≡ false → r ≡ false) → (s ≡ false → GoesAlone w walk.runner.history.entries (length walk.runner.callers.items) c)
      → new.forks.items ≡ take place old.forks.items ++ fork_kept c None ∷ [] → new.pending ≡ None → Chooses w p r old s new place walk.runner.history.entries c
  chooses_last r s old new place c paths at no_fork no_next goer bound weaker alone forks none =
      let end = at_end r old place paths at no_fork in
      chooses_so r s old new place c None at end forks none weaker paths.forks
      (record {
        there = there_of c goer;
        paid = omega (arith, cost_same w walk.runner.history.entries c bound.last_is);
        kept = refl;
        next_is = (
          record { none = λ d there above. other d there (λ e. absurd (omega (arith, e, above))) },
          λ unrefused d there above. absurd (omega (arith, above, alone_is d there (alone unrefused))),
        );
      })
      (first_stays r s old new c (choices_before old place end (no_pending r old place paths at end (no_next end.count)))
      (choices_now r s old new place c None at end forks none) at.within weaker
      (record {
        there = there_of c goer;
        from = omega arith;
        paid = omega (arith, cost_same w walk.runner.history.entries c bound.last_is);
        lower = λ d there above lt. other d there (λ e. absurd (omega (arith, e, lt)));
      })
      (λ unrefused. record {
        there = there_of c goer;
        from = omega arith;
        paid = omega (arith, cost_same w walk.runner.history.entries c bound.last_is);
        lowest = λ d there above. omega (arith, alone_is d there (alone unrefused));
      }))
    where
      other : (d : ℕ) → In d (comes w walk.runner.history.entries) → (c ≡ d → ⊥) → p - preemptions w walk.runner.history.entries < cost w walk.runner.history.entries d
      other d there apart = omega (arith, bound.spent, cost_early w walk.runner.history.entries c d bound.last_is apart goer.can)

      alone_is : (d : ℕ) → In d (comes w walk.runner.history.entries) → GoesAlone w walk.runner.history.entries (length walk.runner.callers.items) c → d ≡ c
      alone_is d there only = only d (goer_of d there).known (goer_of d there).can

  -- the end of a run

  pub ends_path : (r : Bool) (path : Path) (place : ℕ) → IsPath w p r path → IsAtPlace w p path place walk.runner.history.entries
      → NoForkGoes w walk.runner.history.entries (length walk.runner.callers.items) (slice_get path.forks.items place)
      → (length path.forks.items ≡ place → NoneGoes w walk.runner.history.entries (length walk.runner.callers.items) path.pending)
      → EndsPath w p r path r path walk.runner.history.entries
  ends_path r path place paths at no_fork no_next =
      let end = at_end r path place paths at no_fork in record {
        path = paths;
        keeps = keeps_itself w p r path;
        callers_are = end.callers_are;
        no_pending = no_pending r path place paths at end (no_next end.count);
        within = at.within;
      }

-- ---- who is free

pub free_at_first : (w : World) (walk : Walk) (q : ℕ) → IsWalk w walk → walk.last ≡ None → IsFree w walk.runner.history.entries q
free_at_first w walk q is none d there =
    let free : cost w walk.runner.history.entries d ≡ 0 = ap (λ (o : Option ℕ). cost_in w (after w walk.runner.history.entries) o d) (is.last_is ∙ none) in
    omega (arith, free)

pub free_by_room : (w : World) (walk : Walk) (p : ℕ) → walk.preemptions < p → IsFree w walk.runner.history.entries (p - walk.preemptions)
free_by_room w walk p lt d there = cost_free w walk.runner.history.entries (p - walk.preemptions) d (omega (arith, lt))

pub free_by_wait : (w : World) (walk : Walk) (q last : ℕ) (can : Bool) → IsWalk w walk → walk.last ≡ Some last → can ≡ goes w (after w walk.runner.history.entries) last → can ≡ false
    → IsFree w walk.runner.history.entries q
free_by_wait w walk q last can is some told no_ d there =
    omega (arith, cost_waits w walk.runner.history.entries last d (is.last_is ∙ some) (sym told ∙ no_))

pub is_bound : (w : World) (walk : Walk) (p last : ℕ) → IsWalk w walk → walk.last ≡ Some last → (walk.preemptions < p → ⊥) → IsBound w walk.runner.history.entries p last
is_bound w walk p last is some spent = record {
  last_is = is.last_is ∙ some;
  spent = elim (cases_lt walk.preemptions p) [ inl lt ↦ absurd (spent lt) | inr le ↦ omega (arith, le, is.count_is) ];
}

-- ---- callers that can continue

pub goer_yes : (w : World) (g : List Entry) (count c : ℕ) (b : Bool) → c < count → b ≡ goes w (after w g) c → b ≡ true → IsGoer w g count c
goer_yes w g count c b known told holds = record { known = known; can = sym told ∙ holds }

pub goer_no : (w : World) (g : List Entry) (count c : ℕ) (b : Bool) → b ≡ goes w (after w g) c → b ≡ false → IsGoer w g count c → ⊥
goer_no w g count c b told no_ goer = absurd (true≢false (sym goer.can ∙ (sym told ∙ no_)))

pub goer_past : (w : World) (g : List Entry) (count c : ℕ) → count ≤ c → IsGoer w g count c → ⊥
goer_past w g count c le goer = absurd (omega (arith, le, goer.known))

pub fork_none : (w : World) (g : List Entry) (count : ℕ) (o : Option Fork) → o ≡ None → NoForkGoes w g count o
fork_none w g count o none = subst (NoForkGoes w g count) (sym none) tt

pub fork_waits : (w : World) (g : List Entry) (count : ℕ) (o : Option Fork) (f : Fork) → o ≡ Some f → (IsGoer w g count f.caller → ⊥) → NoForkGoes w g count o
fork_waits w g count o f is no_ = subst (NoForkGoes w g count) (sym is) no_

pub none_waits : (w : World) (g : List Entry) (count : ℕ) (o : Option ℕ) → o ≡ None → NoneGoes w g count o
none_waits w g count o none = subst (NoneGoes w g count) (sym none) tt

pub one_waits : (w : World) (g : List Entry) (count : ℕ) (o : Option ℕ) (c : ℕ) → o ≡ Some c → (IsGoer w g count c → ⊥) → NoneGoes w g count o
one_waits w g count o c is no_ = subst (NoneGoes w g count) (sym is) no_

pub next_is : (w : World) (g : List Entry) (count from first : ℕ) (o : Option ℕ) → first ≡ from → IfSome o (IsGoer w g count) → IfSome o (λ (c : ℕ). first ≤ c)
    → IfSome o (NobodyGoes w g first) → IfNone o (NobodyGoes w g first count) → NextGoes w g count from o
next_is w g count from first None same goer above lower none = subst (λ (n : ℕ). NobodyGoes w g n count) same none
next_is w g count from first (Some c) same goer above lower none = record {
  goer = goer;
  from_is = omega (arith, same, above);
  lower = subst (λ (n : ℕ). NobodyGoes w g n c) same lower;
}

-- no other caller, up to one more
pub alone_more : (w : World) (g : List Entry) (n last : ℕ) (other : Bool) → GoesAlone w g n last → (other ≡ false → goes w (after w g) n ≡ true → n ≡ last) → other ≡ false
    → GoesAlone w g (n + 1) last
alone_more w g n last other before this no_ c below can = elim (cases_lt c n) [ inl lt ↦ before c lt can | inr le ↦ at (omega (arith, le, below)) ]
  where
    at : c ≡ n → c ≡ last
    at same = same ∙ this no_ (subst (λ (d : ℕ). goes w (after w g) d ≡ true) same can)

-- ---- a run along a path

pub record IsPlaying (w : World) (p : ℕ) (before : Bool) (old : Path) (refused : Bool) (path : Path) (place : ℕ) (h : List Entry) : Type 0 where
  pub path_is : IsPath w p refused path
  pub at : IsAtPlace w p path place h
  pub keeps : KeepsToCome w p before old refused path

pub begins_playing : (w : World) (p : ℕ) (r : Bool) (path : Path) (h : List Entry) → h ≡ [] → IsPath w p r path → IsPlaying w p r path r path 0 h
begins_playing w p r path h none paths = record {
  path_is = paths;
  at = record {
    front = ap callers_of (sym none);
    place_is = ap (λ (g : List Entry). length g) (sym none);
    within = omega (arith, ap (preemptions w) none);
  };
  keeps = keeps_itself w p r path;
}

-- an entry more
pub plays_on : (w : World) (p : ℕ) (a r s : Bool) (initial old mid new : Path) (walk next : Walk) (place c : ℕ) → IsPlaying w p a initial r old place walk.runner.history.entries
    → Chooses w p r old s mid place walk.runner.history.entries c → WalksOn walk next c → new ≡ mid → IsPlaying w p a initial s new (place + 1) next.runner.history.entries
plays_on w p a r s initial old mid new walk next place c playing chosen grows same =
    subst (λ (path : Path). IsPlaying w p a initial s path (place + 1) next.runner.history.entries) (sym same) (record {
      path_is = chosen.path;
      at = record {
        front = chosen.front ∙ (ap (λ (d : ℕ). callers_of walk.runner.history.entries ++ d ∷ []) (sym grows.caller_is)
            ∙ (sym (map-append (λ (x : Entry). x.caller) walk.runner.history.entries (grows.entry ∷ [])) ∙ ap callers_of (sym grows.history_is)));
        place_is = omega (arith, playing.at.place_is, ap (λ (g : List Entry). length g) grows.history_is, length-append walk.runner.history.entries (grows.entry ∷ []));
        within = omega (arith, playing.at.within, chosen.paid, paid, ap (preemptions w) grows.history_is, preempts_push w walk.runner.history.entries grows.entry);
      };
      keeps = keeps_on w p a r s initial old mid playing.keeps chosen.keeps;
    })
  where
    paid : cost w walk.runner.history.entries grows.entry.caller ≡ cost w walk.runner.history.entries c
    paid = ap (cost w walk.runner.history.entries) grows.caller_is

pub chosen_some : (w : World) (p : ℕ) (a : Bool) (old : Path) (r : Bool) (new : Path) (place : ℕ) (g : List Entry) (o : Option ℕ) (c : ℕ) → ChosenBy w p a old r new place g o → o ≡ Some c
    → Chooses w p a old r new place g c
chosen_some w p a old r new place g o c chosen is = subst (ChosenBy w p a old r new place g) is chosen

pub ends_playing : (w : World) (p : ℕ) (a r s : Bool) (initial old new : Path) (place : ℕ) (h : List Entry) → IsPlaying w p a initial r old place h → EndsPath w p r old s new h
    → EndsPath w p a initial s new h
ends_playing w p a r s initial old new place h playing end = record {
  path = end.path;
  keeps = keeps_on w p a r s initial old new playing.keeps end.keeps;
  callers_are = end.callers_are;
  no_pending = end.no_pending;
  within = end.within;
}
