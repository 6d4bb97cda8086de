-- What a chart tells of a history: each frame of which no copy arrives by one cross, and each copy of a frame by one arrow.
use Rattle.std.specs.Prelude.{◌≡◌, ℕ, Bool, true, false, not, List, [], ◌∷◌, ◌++◌, filter, map, if◌then◌else◌}
use Rattle.std.specs.List.{list_any}
use Rattle.net_base.specs.declared.history.Entry.{Entry}
use Rattle.net_chart.specs.declared.sight.Sight.{Sight}
use Rattle.net_chart.specs.declared.sight.Sight.TheVariants.{Laid, Came, Did, Nothing}
use Rattle.net_chart.specs.declared.thing.Thing.{Thing}
use Rattle.net_chart.specs.declared.thing.Thing.TheVariants.{Arrow, Cross, Operation}
use Rattle.net_chart.specs.Frames.{same_frame}
use Rattle.net_chart.specs.Sights.{sight_of}
use Rattle.net_chart.specs.Things.{Drawn, arrives_in, things_of}

abbrev pub is_cross : Thing → Bool
is_cross (Arrow f at) = false
is_cross (Cross f) = true
is_cross (Operation host at) = false

abbrev pub is_arrow : Thing → Bool
is_arrow (Arrow f at) = true
is_arrow (Cross f) = false
is_arrow (Operation host at) = false

-- the entries by which such things are drawn
abbrev pub drawn_at : (Thing → Bool) → List Drawn → List Entry
drawn_at test things = map (λ (d : Drawn). d.entry) (filter (λ (d : Drawn). test d.thing) things)

-- a frame is laid of which no copy arrives
abbrev pub is_lost : List Entry → Sight → Bool
is_lost h (Laid m k to) = not (arrives_in h (m, k))
is_lost h (Came m k) = false
is_lost h (Did host) = false
is_lost h Nothing = false

abbrev pub lost_in : List Entry → List Entry → List Entry
lost_in h xs = filter (λ (x : Entry). is_lost h (sight_of x)) xs

abbrev pub lays_sight : ℕ × ℕ → Sight → Bool
lays_sight key (Laid m k to) = same_frame key (m, k)
lays_sight key (Came m k) = false
lays_sight key (Did host) = false
lays_sight key Nothing = false

-- these entries laid the frame
abbrev pub was_laid : List Entry → ℕ × ℕ → Bool
was_laid past key = list_any (λ (x : Entry). lays_sight key (sight_of x)) past

-- a copy comes of a frame that these entries laid
abbrev pub is_copy_of : List Entry → Sight → Bool
is_copy_of past (Laid m k to) = false
is_copy_of past (Came m k) = was_laid past (m, k)
is_copy_of past (Did host) = false
is_copy_of past Nothing = false

-- the copies that come of frames that were laid before them
abbrev pub copies_from : List Entry → List Entry → List Entry
copies_from past [] = []
copies_from past (x ∷ xs) = if is_copy_of past (sight_of x) then x ∷ copies_from (past ++ x ∷ []) xs else copies_from (past ++ x ∷ []) xs

-- one cross for each frame of which no copy arrives, at the entry that laid it, and one arrow for each copy, at the entry that took it
pub record TellsFrames (brief : Bool) (h : List Entry) : Type 0 where
  pub crosses : drawn_at is_cross (things_of brief h) ≡ lost_in h h
  pub arrows : drawn_at is_arrow (things_of brief h) ≡ copies_from [] h
