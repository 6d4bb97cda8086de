-- The slots of a directory after one of them changed.
use Rattle.std.proofs.Common.{◌≡◌, ℕ, ◌≤◌, List, Some, slice_get, slice_set, inl, inr, refl, sym, subst, ◌∙◌, arith, length-set}
use Rattle.std.proofs.lemmas.Bool.Decides.{eqb_tells}
use Rattle.std.proofs.lemmas.Option.{same_Some, slice_get_within}
use Rattle.net_base.specs.declared.actor.Call.{Call}
use Rattle.net_base.specs.Directory.{Slot}
use Rattle.history_laws.proofs.Ordered.{Each, each_weaker}
use Rattle.history_laws.proofs.Duties.{AreSlots, IsCallIn, generation_in}
use Rattle.net_base.proofs.Shared.{get_set, get_set_other}

-- the generations don't fall
abbrev pub Rise : List Slot → List Slot → Type 0
Rise slots news = (k : ℕ) → generation_in slots k ≤ generation_in news k

pub calls_stay : (slots news : List Slot) → Rise slots news → (calls : List Call) → Each (IsCallIn slots) calls → Each (IsCallIn news) calls
calls_stay slots news rise calls all =
    each_weaker (IsCallIn slots) (IsCallIn news) (λ (c : Call) is. (is.0, omega (arith, is.1, rise c.slot))) calls all

-- a slot that becomes another of no lower generation
pub rises : (slots : List Slot) (n : ℕ) (s new : Slot) → slice_get slots n ≡ Some s → s.generation ≤ new.generation → Rise slots (slice_set slots n new)
rises slots n s new is le k = elim (eqb_tells n k) [
  | inl same ↦
      let at : slice_get (slice_set slots n new) k ≡ Some new = subst (λ (j : ℕ). slice_get (slice_set slots n new) j ≡ Some new) same.1 (get_set slots n new (slice_get_within slots n s is)) in
      let was : slice_get slots k ≡ Some s = subst (λ (j : ℕ). slice_get slots j ≡ Some s) same.1 is in
      rw (at, was) le
  | inr apart ↦ rw (get_set_other slots n k new apart.1) (omega arith)
]

-- whose calls are right
pub sets : (slots : List Slot) (n : ℕ) (s new : Slot) → slice_get slots n ≡ Some s → s.generation ≤ new.generation → Each (IsCallIn (slice_set slots n new)) new.calls → AreSlots slots → AreSlots (slice_set slots n new)
sets slots n s new is le calls are = record {
  count = length-set slots n new ∙ are.count;
  calls = λ k t at. elim (eqb_tells n k) [
    | inl same ↦
        let here : slice_get (slice_set slots n new) k ≡ Some new = subst (λ (j : ℕ). slice_get (slice_set slots n new) j ≡ Some new) same.1 (get_set slots n new (slice_get_within slots n s is)) in
        subst (λ (u : Slot). Each (IsCallIn (slice_set slots n new)) u.calls) (same_Some new t (sym here ∙ at)) calls
    | inr apart ↦
        calls_stay slots (slice_set slots n new) (rises slots n s new is le) t.calls (are.calls k t (sym (get_set_other slots n k new apart.1) ∙ at))
  ];
}

-- the generation of a slot that was set
pub set_generation : (slots : List Slot) (n : ℕ) (s new : Slot) → slice_get slots n ≡ Some s → generation_in (slice_set slots n new) n ≡ new.generation
set_generation slots n s new is = rw (get_set slots n new (slice_get_within slots n s is)) refl

pub other_generation : (slots : List Slot) (n k : ℕ) (new : Slot) → (n ≡ k → ⊥) → generation_in (slice_set slots n new) k ≡ generation_in slots k
other_generation slots n k new apart = rw (get_set_other slots n k new apart) refl
