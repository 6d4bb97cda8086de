-- The ways of copies: where a frame was laid and where a copy of it came, as entries say it, and as arrows and crosses show it.
use Rattle.std.specs.Prelude.{◌≡◌, ℕ, Bool, List, [], ◌∷◌, ◌++◌, Option, Some, None, if◌then◌else◌}
use Rattle.net_base.specs.declared.history.Entry.{Entry}
use Rattle.net_chart.specs.declared.place.Place.{Place}
use Rattle.net_chart.specs.declared.sight.Sight.{Sight}
use Rattle.net_chart.specs.declared.sight.Sight.TheVariants.{Laid, Came, Did, Nothing}
use Rattle.net_chart.specs.declared.thing.Thing.{Thing}
use Rattle.net_chart.specs.declared.thing.Thing.TheVariants.{Arrow, Cross, Operation}
use Rattle.net_chart.specs.Laws.{lays_sight}
use Rattle.net_chart.specs.Places.{above_all, place_after}
use Rattle.net_chart.specs.Sights.{sight_of}
use Rattle.net_chart.specs.Things.{Drawn, arrives_in, things_of}

-- an entry with its place on the page
pub record Standing : Type 0 where
  pub entry : Entry
  pub place : Place

-- a frame where it was laid: its number on its medium, and the station that it was laid for
pub record Laying : Type 0 where
  pub number : ℕ
  pub to : ℕ
  pub at : Place

-- the way of a copy of it, to where it came
pub record Flight : Type 0 where
  pub start : Laying
  pub came : Place

-- What entries say.

abbrev pub laying_of : Sight → Place → Option Laying
laying_of (Laid m k to) at = Some (record { number = k; to = to; at = at })
laying_of (Came m k) at = None
laying_of (Did host) at = None
laying_of Nothing at = None

-- where the frame was laid last, by entries that come newest first
abbrev pub laid_in : List Standing → ℕ × ℕ → Option Laying
laid_in [] key = None
laid_in (s ∷ past) key = if lays_sight key (sight_of s.entry) then laying_of (sight_of s.entry) s.place else laid_in past key

abbrev pub flight_to : Place → Option Laying → List Flight
flight_to at None = []
flight_to at (Some laying) = record { start = laying; came = at } ∷ []

-- behind these entries a copy comes there
abbrev pub flights_by : List Standing → Sight → Place → List Flight
flights_by past (Laid m k to) at = []
flights_by past (Came m k) at = flight_to at (laid_in past (m, k))
flights_by past (Did host) at = []
flights_by past Nothing at = []

-- the ways of all copies, behind entries of which the last has this place
abbrev pub flights_from : Bool → List Standing → Place → List Entry → List Flight
flights_from brief past p [] = []
flights_from brief past p (x ∷ xs) =
    flights_by past (sight_of x) (place_after brief p x)
    ++ flights_from brief (record { entry = x; place = place_after brief p x } ∷ past) (place_after brief p x) xs

-- a frame is laid there of which no copy comes
abbrev pub losses_by : List Entry → Sight → Place → List Laying
losses_by h (Laid m k to) at = if arrives_in h (m, k) then [] else record { number = k; to = to; at = at } ∷ []
losses_by h (Came m k) at = []
losses_by h (Did host) at = []
losses_by h Nothing at = []

abbrev pub losses_from : Bool → List Entry → Place → List Entry → List Laying
losses_from brief h p [] = []
losses_from brief h p (x ∷ xs) = losses_by h (sight_of x) (place_after brief p x) ++ losses_from brief h (place_after brief p x) xs

-- What things show.

abbrev pub flight_of : Thing → List Flight
flight_of (Arrow f at) = record { start = record { number = f.number; to = f.to; at = f.at }; came = at } ∷ []
flight_of (Cross f) = []
flight_of (Operation host at) = []

abbrev pub flights_of : List Drawn → List Flight
flights_of [] = []
flights_of (d ∷ ds) = flight_of d.thing ++ flights_of ds

abbrev pub loss_of : Thing → List Laying
loss_of (Arrow f at) = []
loss_of (Cross f) = record { number = f.number; to = f.to; at = f.at } ∷ []
loss_of (Operation host at) = []

abbrev pub losses_of : List Drawn → List Laying
losses_of [] = []
losses_of (d ∷ ds) = loss_of d.thing ++ losses_of ds

-- an arrow for each copy, from where its frame was laid to where it came, and a cross where each lost frame was laid
pub record ShowsWays (brief : Bool) (h : List Entry) : Type 0 where
  pub flights : flights_of (things_of brief h) ≡ flights_from brief [] above_all h
  pub losses : losses_of (things_of brief h) ≡ losses_from brief h above_all h
