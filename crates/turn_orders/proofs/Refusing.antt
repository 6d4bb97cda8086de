-- If a search refuses no turn because of its preemptions, there is no history with more preemptions.
use Rattle.std.proofs.Common.{◌≡◌, ℕ, zero, suc, ◌-◌, ◌<◌, ◌==◌, nat_le, Bool, true, false, cond, List, [], ◌∷◌, ◌++◌, refl, ap, ◌∙◌, arith}
use Rattle.std.specs.Prelude.{flat_map}
use Rattle.std.specs.List.{list_any}
use Rattle.std.proofs.lemmas.Bool.{true≢false, leb-true, ne_eqb, or_parts}
use Rattle.net_base.specs.declared.history.Entry.{Entry}
use Rattle.net_base.specs.declared.world.World.{World}
use Rattle.turn_orders.specs.Orders.{below, branch, by_comers, histories_with, if_spent, refused_at, refuses, refuses_with, too_many}
use Rattle.turn_orders.specs.Preemptions.{cost}
use Rattle.turn_orders.specs.Turns.{comes, with_turn}
use Rattle.turn_orders.proofs.Searching.{paid_so}

nothing_spent : (q : ℕ) (h : List Entry) → 0 < q → if_spent q h ≡ []
nothing_spent q h lt = let other : (q == 0) ≡ false = ne_eqb q 0 (λ same. absurd (omega (arith, same, lt))) in rw other refl

none_below : (w : World) (n : ℕ) (h : List Entry) (p q : ℕ) → refuses w n h p ≡ false → p < q → below w n h q ≡ []
none_below w zero h p q free lt = refl
none_below w (suc n) h p q free lt = by_list (λ l r s free lt. none_below w n l r s free lt) (comes w h) free
  where
    one : ((l : List Entry) (r s : ℕ) → refuses w n l r ≡ false → r < s → below w n l s ≡ []) → (c : ℕ)
        → refused_at w p h (refuses w n) c ≡ false → branch w q h (below w n) c ≡ []
    one further c = at (nat_le (cost w h c) p) refl
      where
        at : (b : Bool) → nat_le (cost w h c) p ≡ b → cond b (refuses w n (with_turn w h c) (p - cost w h c)) true ≡ false → branch w q h (below w n) c ≡ []
        at false is free = absurd (true≢false free)
        at true is free =
            let le = leb-true (cost w h c) p is in
            paid_so (cost w h c) q (below w n (with_turn w h c)) (omega (arith, le, lt))
            ∙ further (with_turn w h c) (p - cost w h c) (q - cost w h c) free (omega (arith, le, lt))

    all : ((l : List Entry) (r s : ℕ) → refuses w n l r ≡ false → r < s → below w n l s ≡ []) → (cs : List ℕ)
        → list_any (refused_at w p h (refuses w n)) cs ≡ false → flat_map (branch w q h (below w n)) cs ≡ []
    all further [] free = refl
    all further (c ∷ cs) free =
        let parts = or_parts (refused_at w p h (refuses w n) c) (list_any (refused_at w p h (refuses w n)) cs) free in
        ap (λ (hs : List (List Entry)). hs ++ flat_map (branch w q h (below w n)) cs) (one further c parts.0) ∙ all further cs parts.1

    by_list : ((l : List Entry) (r s : ℕ) → refuses w n l r ≡ false → r < s → below w n l s ≡ []) → (cs : List ℕ)
        → list_any (refused_at w p h (refuses w n)) cs ≡ false → by_comers w q h (below w n) cs ≡ []
    by_list further [] free = nothing_spent q h (omega (arith, lt))
    by_list further (c ∷ cs) free = all further (c ∷ cs) free

pub none_with_more : (w : World) (p q : ℕ) → refuses_with w p ≡ false → p < q → histories_with w q ≡ []
none_with_more w p q free lt = none_below w too_many [] p q free lt
