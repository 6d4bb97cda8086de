-- Where entries stand on the page: rows behind one another, in bands by moments.
use Rattle.std.specs.Prelude.{ℕ, ◌+◌, ◌-◌, ◌*◌, ◌==◌, Bool, true, false, not, ◌&&◌, ◌||◌, List, [], ◌∷◌, ◌++◌, length, min, Option, Some, None, unwrap_or, slice_get, nat_le, nat_lt, if◌then◌else◌}
use Rattle.net_base.specs.declared.history.Entry.{Entry}
use Rattle.net_chart.specs.declared.place.Place.{Place}
use Rattle.net_chart.specs.declared.place.Page.{Page}
use Rattle.net_chart.specs.Sights.{has_row, sight_of}

-- a number and the next one, but for the last number
abbrev pub next_row_number : ℕ → ℕ
next_row_number n = min (n + 1) 18446744073709551615

-- before the first row
abbrev pub above_all : Place
above_all = record { moment = 0; row = 0; band = 0; first = 0 }

-- the next row begins a band: it is at another moment
abbrev pub begins_band : Place → ℕ → Bool
begins_band p moment = (p.row == 0) || not (p.moment == moment)

abbrev pub next_place : Place → ℕ → Place
next_place p moment =
    if begins_band p moment
    then record { moment = moment; row = next_row_number p.row; band = next_row_number p.band; first = next_row_number p.row }
    else record { moment = moment; row = next_row_number p.row; band = p.band; first = p.first }

-- the place after an entry
abbrev pub place_after : Bool → Place → Entry → Place
place_after brief p x = if has_row brief (sight_of x) then next_place p x.moment else p

-- the row of an entry that has one
abbrev pub rows_of : Bool → Place → Entry → List Place
rows_of brief p x = if has_row brief (sight_of x) then next_place p x.moment ∷ [] else []

abbrev pub places_from : Bool → Place → List Entry → List Place
places_from brief p [] = []
places_from brief p (x ∷ xs) = rows_of brief p x ++ places_from brief (place_after brief p x) xs

-- the rows of a history
abbrev pub chart_places : Bool → List Entry → List Place
chart_places brief h = places_from brief above_all h

-- rows beyond these aren't drawn one by one
abbrev pub most_rows : ℕ
most_rows = 400

-- a page of all sights, or of frames alone, of which the first and the last of each moment are drawn
abbrev pub page_of : List Entry → Page
page_of h =
    if nat_le (length (chart_places false h)) most_rows
    then record { brief = false; places = chart_places false h }
    else record { brief = true; places = chart_places true h }

abbrev pub is_first_row : Place → Bool
is_first_row p = p.row == p.first

-- the row behind this one is in another band, if there is one
abbrev pub differs : Option Place → Place → Bool
differs None p = true
differs (Some q) p = not (q.band == p.band)

abbrev pub is_last : Page → Place → Bool
is_last page p = differs (slice_get page.places p.row) p

abbrev pub is_drawn : Page → Place → Bool
is_drawn page p = not page.brief || (is_first_row p || is_last page p)

-- a number on the page
abbrev pub bounded : ℕ → ℕ
bounded n = min n 4294967296

-- on a brief page a band has four rows: its first frame, the count, its last frame, and an empty one
abbrev pub place_slot : Place → ℕ
place_slot p = if is_first_row p then 0 else 2

-- how many rows stand above it
abbrev pub rows_above : Page → Place → ℕ
rows_above page p =
    if page.brief
    then 4 * bounded p.band + place_slot p
    else bounded p.row + bounded p.band

-- the distance from the top of the page, in pixels
abbrev pub height_of : Page → Place → ℕ
height_of page p = 60 + 16 * rows_above page p

-- the last row of a page
abbrev pub last_of : List Place → Place
last_of ps = unwrap_or (slice_get ps (length ps - 1)) above_all

-- frames of a band that ends with this row aren't drawn
abbrev pub hides : Page → Place → Bool
hides page p = page.brief && (is_last page p && nat_lt 1 (p.row - p.first))

-- how far the page's end is from its top
abbrev pub bottom_of : Page → ℕ
bottom_of page = height_of page (last_of page.places) + 60
