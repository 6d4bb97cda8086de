-- What a chart of conversations tells of a history: each lost frame that starts in a column by one cross, and each copy between two
-- columns by one arrow.
use Rattle.std.specs.Prelude.{◌≡◌, ℕ, ◌+◌, ◌&&◌, Bool, false, not, List, [], ◌∷◌, ◌++◌, filter, is_some, nat_eq, Option, Some, None, if◌then◌else◌}
use Rattle.std.specs.Option.{option_and_then}
use Rattle.net_base.specs.declared.actor.ActorName.{ActorName}
use Rattle.net_base.specs.declared.history.Entry.{Entry}
use Rattle.net_chart.specs.declared.sight.Sight.{Sight}
use Rattle.net_chart.specs.declared.sight.Sight.TheVariants.{Laid, Came, Did, Nothing}
use Rattle.net_chart.specs.Frames.{owner_of}
use Rattle.net_chart.specs.Laws.{drawn_at, is_arrow, is_cross, was_laid}
use Rattle.net_chart.specs.Sights.{sight_of}
use Rattle.net_chart.specs.Talks.{Talks, cited_by, column_of, end_at, is_talk, talk_start, talks_drawn, talks_of}
use Rattle.net_chart.specs.Things.{arrives_in}

-- a frame is laid that starts in a column, and of which no copy arrives
abbrev pub is_lost_talk : List Entry → Talks → Sight → Bool
is_lost_talk h t (Laid m k to) = not (arrives_in h (m, k)) && is_some (talk_start t.starts (m, k))
is_lost_talk h t (Came m k) = false
is_lost_talk h t (Did host) = false
is_lost_talk h t Nothing = false

abbrev pub lost_talks : List Entry → Talks → List Entry → List Entry
lost_talks h t xs = filter (λ (x : Entry). is_lost_talk h t (sight_of x)) xs

-- a copy comes of a frame that these entries laid, from a column to a column
abbrev pub is_between : List Entry → Talks → ℕ → Sight → Bool
is_between past t stamp (Laid m k to) = false
is_between past t stamp (Came m k) = was_laid past (m, k) && (is_some (talk_start t.starts (m, k)) && is_some (end_at t.ends stamp))
is_between past t stamp (Did host) = false
is_between past t stamp Nothing = false

-- the entries that take such copies, of which the first has this stamp, behind other entries
abbrev pub between_from : List Entry → Talks → ℕ → List Entry → List Entry
between_from past t stamp [] = []
between_from past t stamp (x ∷ xs) =
    if is_between past t stamp (sight_of x)
    then x ∷ between_from (past ++ x ∷ []) t (stamp + 1) xs
    else between_from (past ++ x ∷ []) t (stamp + 1) xs

-- what is drawn has one cross for each such frame, and one arrow for each such copy, and no others
pub record TellsTalks (brief : Bool) (h : List Entry) : Type 0 where
  pub crosses : drawn_at is_cross (talks_drawn brief h (talks_of h)) ≡ lost_talks h (talks_of h) h
  pub arrows : drawn_at is_arrow (talks_drawn brief h (talks_of h)) ≡ between_from [] (talks_of h) 0 h

-- Where arrows end.

abbrev pub is_taken_at : ℕ → Option ℕ → Bool
is_taken_at stamp None = false
is_taken_at stamp (Some taken) = nat_eq stamp taken

-- the entry brings a copy to its conversation, which the entry of this stamp took
abbrev pub brings : List Entry → ℕ → Entry → Bool
brings h stamp x = is_talk x.actor && is_taken_at stamp (cited_by (owner_of h x.cites))

-- the conversation to which the copy is brought last, if these entries bring it to none
abbrev pub brought_from : List Entry → ℕ → Option ActorName → List Entry → Option ActorName
brought_from h stamp a [] = a
brought_from h stamp a (x ∷ xs) = brought_from h stamp (if brings h stamp x then Some x.actor else a) xs

-- a copy ends in the column of the conversation to which it is brought, and in none where it is brought to none
abbrev pub EndsThere : List Entry → ℕ → Type 0
EndsThere h stamp = end_at (talks_of h).ends stamp ≡ option_and_then (column_of (talks_of h).columns) (brought_from h stamp None h)
