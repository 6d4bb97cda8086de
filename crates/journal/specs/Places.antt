-- A history by the lists of its actors' books, and the places of its entries there.
use Rattle.std.specs.Prelude.{◌≡◌, ℕ, ◌+◌, ◌<◌, List, [], ◌∷◌, length, Option, Some, None, slice_get}
use Rattle.net_base.specs.declared.history.Entry.{Entry}
use Rattle.journal.specs.declared.places.Place.{Place}
use Rattle.journal.specs.declared.tokens.Stamped.{Stamped}
use Rattle.journal.specs.Closing.{AreAt, IsLeft}

-- what stands in a list, if there is one
abbrev pub in_list : Option (List Stamped) → ℕ → Option Stamped
in_list None at = None
in_list (Some l) at = slice_get l at

-- what stands at a place
abbrev pub there : List (List Stamped) → Place → Option Stamped
there ls p = in_list (slice_get ls p.list) p.at

-- the entry of this stamp stands at the place
pub record IsThere (ls : List (List Stamped)) (p : Place) (n : ℕ) : Type 0 where
  pub entry : Stamped
  pub stands : there ls p ≡ Some entry
  pub stamp_is : entry.stamp ≡ n

-- the place that is noted for this stamp has its entry
pub record IsPlaced (ls : List (List Stamped)) (ps : List Place) (n : ℕ) : Type 0 where
  pub place : Place
  pub noted : slice_get ps n ≡ Some place
  pub is : IsThere ls place n

-- each entry of the lists stands at its stamp's place, as far as the places reach
abbrev pub ArePlaced : List (List Stamped) → List Place → Type 0
ArePlaced ls ps = (e : Stamped) → IsLeft e ls → e.stamp < length ps → IsPlaced ls ps e.stamp

-- at these places stand the entries from the stamp n on
abbrev pub AreThereFrom : ℕ → List (List Stamped) → List Place → Type 0
AreThereFrom n ls [] = Unit {0}
AreThereFrom n ls (p ∷ ps) = IsThere ls p n × AreThereFrom (n + 1) ls ps

abbrev pub AreThere : List (List Stamped) → List Place → Type 0
AreThere ls ps = AreThereFrom 0 ls ps

abbrev pub with_stamped : Option Stamped → List Entry → List Entry
with_stamped None xs = xs
with_stamped (Some e) xs = e.entry ∷ xs

-- the entries at these places, in their order
abbrev pub entries_at : List (List Stamped) → List Place → List Entry
entries_at ls [] = []
entries_at ls (p ∷ ps) = with_stamped (there ls p) (entries_at ls ps)

-- at each stamp's place stands its entry, and the lists have none but those
pub record AreClosed (ls : List (List Stamped)) (ps : List Place) : Type 0 where
  pub all : AreThere ls ps
  pub only : AreAt (entries_at ls ps) ls
