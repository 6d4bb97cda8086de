-- A run that plays the entries of a history, and the entry after them.
use Rattle.std.proofs.Common.{◌≡◌, ℕ, suc, ◌+◌, ◌<◌, List, [], ◌∷◌, ◌++◌, length, true, take, get_or, Option, Some, slice_get, refl, sym, ap, subst, ◌∙◌, arith}
use Rattle.std.proofs.lemmas.Option.{same_Some}
use Rattle.net_base.specs.declared.history.Entry.{Entry}
use Rattle.net_base.specs.declared.world.World.{World}
use Rattle.net_base.specs.Legal.{IsLegal, IsTimed}
use Rattle.net_base.specs.Net.{after}
use Rattle.std.specs.Option.{option_map}
use Rattle.history_laws.proofs.Shared.{one_more}
use Rattle.plain_runner.specs.Followed.{Followed}
use Rattle.plain_runner.specs.Tracks.{Grows}
use Rattle.plain_runner.specs.declared.runner.Runner.{Runner}
use Rattle.plain_runner.proofs.Shared.{got}
use Rattle.turn_orders.specs.Turns.{IsEnded, goes}
use Rattle.expected_entry.specs.Expected.{ComesNext}

-- the run of the first n entries that recorded the next one is that of n + 1 entries
pub further : (w : World) (items : List Entry) (r new : Runner) (n : ℕ) (x : Entry) → n < length items → x ≡ get_or items n x
    → Followed w (take n items) r → Followed w (r.history.entries ++ x ∷ []) new → Followed w (take (n + 1) items) new
further w items r new n x lt is before next = record {
  tracks = next.tracks;
  history_is = next.history_is ∙ ap (λ (p : List Entry). p ++ x ∷ []) before.history_is ∙ more;
}
  where
    there : (y : Entry) × (slice_get items n ≡ Some y) × (take (suc n) items ≡ take n items ++ y ∷ [])
    there = one_more items n lt

    more : take n items ++ x ∷ [] ≡ take (n + 1) items
    more =
        let y_is : there.0 ≡ x = same_Some there.0 x (sym there.1 ∙ got items n x lt is) in
        let e : suc n ≡ n + 1 = omega arith in
        ap (λ (y : Entry). take n items ++ y ∷ []) (sym y_is) ∙ sym there.2 ∙ ap (λ (k : ℕ). take k items) e

-- the entry of the caller that was found comes next
pub comes : (w : World) (past : List Entry) (old new : Runner) (wanted c : ℕ) (found : Option ℕ) (x : Entry) → Followed w past old → Grows w old new c x
    → found ≡ Some c → (wanted < length old.callers.items → goes w (after w old.history.entries) wanted ≡ true → found ≡ Some wanted)
    → ComesNext w past wanted x
comes w past old new wanted c found x before grown is own = record {
  legal = subst (IsLegal w) history grown.tracks.history.legal;
  timed = subst (IsTimed w) history grown.tracks.history.timed;
  own = λ known can. grown.caller_is ∙ same_Some c wanted (sym is ∙ own (omega (arith, known, before.tracks.callers_are.count))
      (subst (λ (p : List Entry). goes w (after w p) wanted ≡ true) (sym before.history_is) can));
}
  where
    history : new.history.entries ≡ past ++ x ∷ []
    history = grown.history_is ∙ ap (λ (p : List Entry). p ++ x ∷ []) before.history_is

-- nobody can continue after these
pub ends : (w : World) (past : List Entry) (r : Runner) → Followed w past r → IsEnded w r.history.entries → IsEnded w past
ends w past r before ended = subst (IsEnded w) before.history_is ended

-- the caller of the entry that is replaced
pub caller_is : (h : List Entry) (stamp wanted : ℕ) (x : Entry) → slice_get h stamp ≡ Some x
    → Some wanted ≡ option_map (λ (y : Entry). y.caller) (slice_get h stamp) → wanted ≡ x.caller
caller_is h stamp wanted x at is = same_Some wanted x.caller (is ∙ ap (option_map (λ (y : Entry). y.caller)) at)
