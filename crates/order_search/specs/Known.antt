-- The outcomes that are known, by their texts.
use Rattle.std.specs.Prelude.{ℕ, Bool, List, [], ◌∷◌, ◌++◌, Vec, bytes_eq, if◌then◌else◌, map, vec_items}
use Rattle.std.specs.List.{list_any}
use Rattle.turn_orders.specs.Orders.{Told}
use Rattle.turn_orders.specs.Results.{RunOutcome}
use Rattle.order_search.specs.Marks.{results_text}

module _ {Z : Type 0} where
  abbrev pub texts_in : List (Vec ℕ Z) → List (List ℕ)
  texts_in keys = map vec_items keys

abbrev pub is_among : List (List ℕ) → List ℕ → Bool
is_among texts text = list_any (λ (other : List ℕ). bytes_eq other text) texts

-- the texts with one more, unless it is among them
abbrev pub with_text : List (List ℕ) → List ℕ → List (List ℕ)
with_text texts text = if is_among texts text then texts else texts ++ text ∷ []

-- by which an outcome is known: its results, and its summary
abbrev pub text_of : RunOutcome → List ℕ
text_of o = results_text o ++ o.summary

abbrev pub text_told : Told → List ℕ
text_told t = text_of t.outcome
