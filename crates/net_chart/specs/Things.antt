-- What is drawn of a history: an arrow for each copy of a frame that arrived, a cross for each frame of which none did, and
-- the operations of scripts.
use Rattle.std.specs.Prelude.{◌≡◌, ℕ, Bool, true, false, List, [], ◌∷◌, ◌++◌, Option, Some, None, option_map, if◌then◌else◌}
use Rattle.std.specs.List.{list_any}
use Rattle.std.specs.Option.{option_and_then}
use Rattle.indexmap.specs.IndexMap.{insert_entry}
use Rattle.net_base.specs.declared.history.Entry.{Entry}
use Rattle.net_chart.specs.declared.frame.Frame.{Frame}
use Rattle.net_chart.specs.declared.place.Place.{Place}
use Rattle.net_chart.specs.declared.sight.Sight.{Sight}
use Rattle.net_chart.specs.declared.sight.Sight.TheVariants.{Laid, Came, Did, Nothing}
use Rattle.net_chart.specs.declared.thing.Thing.{Thing}
use Rattle.net_chart.specs.declared.thing.Thing.TheVariants.{Arrow, Cross, Operation}
use Rattle.net_chart.specs.Frames.{Laid_frames, frame_at, owner_of, same_frame, source_of}
use Rattle.net_chart.specs.Places.{above_all, place_after}
use Rattle.net_chart.specs.Sights.{sight_of}

-- a copy of the frame arrives
abbrev pub is_copy : ℕ × ℕ → Sight → Bool
is_copy key (Came m k) = same_frame (m, k) key
is_copy key _ = false

-- some copy of the frame arrives
abbrev pub arrives_in : List Entry → ℕ × ℕ → Bool
arrives_in h key = list_any (λ (x : Entry). is_copy key (sight_of x)) h

-- these are the frames of which a copy arrives
abbrev pub KnowsFrames : List Entry → List (ℕ × ℕ) → Type 0
KnowsFrames h keys = (key : ℕ × ℕ) → list_any (same_frame key) keys ≡ arrives_in h key

-- the frames so far, and the last row
pub record Past : Type 0 where
  pub frames : Laid_frames
  pub place : Place

abbrev pub no_past : Past
no_past = record { frames = []; place = above_all }

-- a frame that is laid by this entry, which stands there
abbrev pub laid_by : List Entry → Laid_frames → Entry → ℕ → ℕ → Place → Frame
laid_by h frames x k to at =
    record { number = k; source = option_and_then (source_of frames) (owner_of h x.cites); to = to; at = at; came = false }

-- the past with a frame that is laid
abbrev pub with_laid : ℕ × ℕ → Frame → Past → Past
with_laid key f past = record past { frames = insert_entry same_frame past.frames key f }

abbrev pub came_by : ℕ × ℕ → Option Frame → Past → Past
came_by key None past = past
came_by key (Some f) past = record past { frames = insert_entry same_frame past.frames key (record f { came = true }) }

-- a copy of the frame came
abbrev pub with_arrived : ℕ × ℕ → Past → Past
with_arrived key past = came_by key (frame_at past.frames key) past

-- the past with what is seen, at its last row
abbrev pub past_by : List Entry → Past → Entry → Sight → Past
past_by h past x (Laid m k to) = with_laid (m, k) (laid_by h past.frames x k to past.place) past
past_by h past x (Came m k) = with_arrived (m, k) past
past_by h past x (Did host) = past
past_by h past x Nothing = past

-- the past at the row of an entry
abbrev pub past_at : Bool → Past → Entry → Past
past_at brief past x = record past { place = place_after brief past.place x }

abbrev pub past_after : Bool → List Entry → Past → Entry → Past
past_after brief h past x = past_by h (past_at brief past x) x (sight_of x)

-- a frame of which no copy arrives ends in a cross
abbrev pub laid_thing : List Entry → ℕ × ℕ → Frame → Option Thing
laid_thing h key f = if arrives_in h key then None else Some (Cross f)

abbrev pub arrow_to : Place → Option Frame → Option Thing
arrow_to at f = option_map (λ (g : Frame). Arrow g at) f

-- what is drawn of what is seen, at the last row
abbrev pub thing_by : List Entry → Past → Entry → Sight → Option Thing
thing_by h past x (Laid m k to) = laid_thing h (m, k) (laid_by h past.frames x k to past.place)
thing_by h past x (Came m k) = arrow_to past.place (frame_at past.frames (m, k))
thing_by h past x (Did host) = Some (Operation host past.place)
thing_by h past x Nothing = None

abbrev pub thing_at : Bool → List Entry → Past → Entry → Option Thing
thing_at brief h past x = thing_by h (past_at brief past x) x (sight_of x)

-- what is drawn, and the entry by which it is
pub record Drawn : Type 0 where
  pub entry : Entry
  pub thing : Thing

abbrev pub drawn_of : Entry → Option Thing → List Drawn
drawn_of x None = []
drawn_of x (Some t) = record { entry = x; thing = t } ∷ []

abbrev pub things_from : Bool → List Entry → Past → List Entry → List Drawn
things_from brief h past [] = []
things_from brief h past (x ∷ xs) = drawn_of x (thing_at brief h past x) ++ things_from brief h (past_after brief h past x) xs

-- all that is drawn of a history, on a page of frames alone or of all
abbrev pub things_of : Bool → List Entry → List Drawn
things_of brief h = things_from brief h no_past h
