-- A column for each conversation, which is a slot of a host and protocol in all its generations: in which one the packet of a
-- frame was emitted, and to which one a copy of it was brought. What belongs to none isn't drawn.
use Rattle.std.specs.Prelude.{ℕ, ◌+◌, ◌-◌, ◌==◌, Bool, true, false, List, [], ◌∷◌, ◌++◌, min, nat_eq, Option, Some, None, option_map, position, if◌then◌else◌}
use Rattle.std.specs.Map.{lookup}
use Rattle.std.specs.Option.{option_and_then}
use Rattle.indexmap.specs.IndexMap.{insert_entry}
use Rattle.net_base.specs.declared.actor.ActorName.{ActorName}
use Rattle.net_base.specs.declared.actor.ActorName.TheVariants as name
use Rattle.net_base.specs.declared.history.Entry.{Entry}
use Rattle.net_base.specs.Stamped.{same_actor}
use Rattle.net_chart.specs.declared.frame.Frame.{Frame}
use Rattle.net_chart.specs.declared.frame.Source.{Source}
use Rattle.net_chart.specs.declared.place.Place.{Place}
use Rattle.net_chart.specs.declared.sight.Sight.{Sight}
use Rattle.net_chart.specs.declared.sight.Sight.TheVariants.{Laid, Came}
use Rattle.net_chart.specs.declared.thing.Thing.{Thing}
use Rattle.net_chart.specs.declared.thing.Thing.TheVariants.{Arrow, Cross, Operation}
use Rattle.net_chart.specs.Frames.{owner_of, same_frame}
use Rattle.net_chart.specs.Sights.{sight_of}
use Rattle.net_chart.specs.Things.{Drawn, Past, drawn_of, no_past, past_after, thing_at}

-- the conversations in the order of their first entries; the columns where frames start, by medium and number; and the columns to
-- which copies were brought, by the stamps of the entries that took them. Of a number that is laid twice, which no legal history
-- does, the last start counts
pub record Talks : Type 0 where
  pub columns : List ActorName
  pub starts : List ((ℕ × ℕ) × ℕ)
  pub ends : List (ℕ × ℕ)

abbrev pub no_talks : Talks
no_talks = record { columns = []; starts = []; ends = [] }

-- Columns.

abbrev pub is_talk : ActorName → Bool
is_talk (name.Conv h p n) = true
is_talk _ = false

-- no column has a greater number
abbrev pub column_number : ℕ → ℕ
column_number n = min n 4294967295

abbrev pub column_of : List ActorName → ActorName → Option ℕ
column_of columns a = option_map column_number (position (same_actor a) columns)

abbrev pub columns_by : List ActorName → ActorName → Option ℕ → List ActorName
columns_by columns a None = columns ++ a ∷ []
columns_by columns a (Some c) = columns

-- a conversation that had no entry yet has the next column
abbrev pub columns_with : List ActorName → ActorName → List ActorName
columns_with columns a = columns_by columns a (column_of columns a)

-- Frames and copies.

abbrev pub talk_start : List ((ℕ × ℕ) × ℕ) → ℕ × ℕ → Option ℕ
talk_start starts key = lookup (same_frame key) starts

-- a packet starts in the column of the conversation that emitted it; one that came by an earlier frame and is sent on, where
-- that one started; and one that a directory emitted in none
abbrev pub start_by : Talks → ActorName → Sight → Option ℕ
start_by t a (Came m k) = talk_start t.starts (m, k)
start_by t a _ = column_of t.columns a

abbrev pub start_of_entry : Talks → Entry → Option ℕ
start_of_entry t y = start_by t y.actor (sight_of y)

abbrev pub starts_at : List ((ℕ × ℕ) × ℕ) → ℕ × ℕ → Option ℕ → List ((ℕ × ℕ) × ℕ)
starts_at starts key None = starts
starts_at starts key (Some c) = insert_entry same_frame starts key c

-- a frame that is laid starts where its packet does, by the entry that owed it
abbrev pub starts_by : Talks → Option Entry → Sight → List ((ℕ × ℕ) × ℕ)
starts_by t owner (Laid m k to) = starts_at t.starts (m, k) (option_and_then (start_of_entry t) owner)
starts_by t owner _ = t.starts

abbrev pub end_at : List (ℕ × ℕ) → ℕ → Option ℕ
end_at ends stamp = lookup (nat_eq stamp) ends

abbrev pub talk_ends_at : List (ℕ × ℕ) → Option ℕ → Option ℕ → List (ℕ × ℕ)
talk_ends_at ends (Some stamp) (Some c) = insert_entry nat_eq ends stamp c
talk_ends_at ends (Some stamp) None = ends
talk_ends_at ends None column = ends

-- the entry that owed the owner of an entry, by its stamp
abbrev pub cited_by : Option Entry → Option ℕ
cited_by owner = option_and_then (λ (y : Entry). y.cites) owner

-- with the column of a frame that is laid
abbrev pub talks_started : Talks → Option Entry → Entry → Talks
talks_started t owner x = record t { starts = starts_by t owner (sight_of x) }

-- at an entry of this conversation: the entry of this stamp took a copy, which owed one at a directory, which owed this one
abbrev pub entered : Talks → Option ℕ → ActorName → Talks
entered t stamp a = record t { columns = columns_with t.columns a; ends = talk_ends_at t.ends stamp (column_of (columns_with t.columns a) a) }

abbrev pub talks_by : Talks → Option Entry → Entry → Talks
talks_by t owner x = if is_talk x.actor then entered (talks_started t owner x) (cited_by owner) x.actor else talks_started t owner x

abbrev pub talks_with : List Entry → Talks → Entry → Talks
talks_with h t x = talks_by t (owner_of h x.cites) x

abbrev pub talks_from : List Entry → Talks → List Entry → Talks
talks_from h t [] = t
talks_from h t (x ∷ xs) = talks_from h (talks_with h t x) xs

abbrev pub talks_of : List Entry → Talks
talks_of h = talks_from h no_talks h

-- Things between columns.

-- where no emission of the packet is known its arrow is drawn at its end alone, as on the chart of hosts
abbrev pub source_in : ℕ → Option Source → Option Source
source_in column None = None
source_in column (Some s) = Some (record s { host = column })

-- a frame from one column to another
abbrev pub talks_moved : ℕ → ℕ → Frame → Frame
talks_moved from to f = record f { source = source_in from f.source; to = to }

abbrev pub arrow_between : Frame → Place → Option ℕ → Option ℕ → Option Thing
arrow_between f at (Some from) (Some to) = Some (Arrow (talks_moved from to f) at)
arrow_between f at (Some from) None = None
arrow_between f at None to = None

-- a copy has an arrow where it was brought to a conversation and its packet started in one: a stray has none, nor has a copy
-- that is sent on
abbrev pub arrow_by : Talks → ℕ → Frame → Place → Sight → Option Thing
arrow_by t stamp f at (Came m k) = arrow_between f at (talk_start t.starts (m, k)) (end_at t.ends stamp)
arrow_by t stamp f at _ = None

-- the column beside one, to which half an arrow goes: the one on its left, but for the first
abbrev pub column_beside : ℕ → ℕ
column_beside column = if column == 0 then 1 else column - 1

abbrev pub cross_from : Frame → Option ℕ → Option Thing
cross_from f None = None
cross_from f (Some from) = Some (Cross (talks_moved from (column_beside from) f))

-- a lost frame has a cross where its packet started in a column
abbrev pub cross_by : Talks → Frame → Sight → Option Thing
cross_by t f (Laid m k to) = cross_from f (talk_start t.starts (m, k))
cross_by t f _ = None

-- an operation of a desk or a directory stands in no column, and its row is empty
abbrev pub operation_in : Place → Option ℕ → Option Thing
operation_in at None = None
operation_in at (Some c) = Some (Operation c at)

-- a thing of the chart of hosts as it stands between the columns of conversations, if it has to do with any
abbrev pub talked : Talks → ℕ → Entry → Sight → Thing → Option Thing
talked t stamp x s (Arrow f at) = arrow_by t stamp f at s
talked t stamp x s (Cross f) = cross_by t f s
talked t stamp x s (Operation host at) = operation_in at (column_of t.columns x.actor)

abbrev pub talked_by : Talks → ℕ → Entry → Sight → Option Thing → Option Thing
talked_by t stamp x s thing = option_and_then (talked t stamp x s) thing

abbrev pub talks_drawn_from : Bool → List Entry → Talks → Past → ℕ → List Entry → List Drawn
talks_drawn_from brief h t past stamp [] = []
talks_drawn_from brief h t past stamp (x ∷ xs) =
    drawn_of x (talked_by t stamp x (sight_of x) (thing_at brief h past x)) ++ talks_drawn_from brief h t (past_after brief h past x) (stamp + 1) xs

-- all that is drawn of the conversations of a history
abbrev pub talks_drawn : Bool → List Entry → Talks → List Drawn
talks_drawn brief h t = talks_drawn_from brief h t no_past 0 h
