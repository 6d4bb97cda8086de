-- Which entries of a history are the last ones of each step, and the text of the results of steps.
--     result_at        the result of step n, by the replies to its script's own entries
--     AreMarks         the last two own entries of each step
--     results_text     the results of all steps, a line each
use Rattle.std.specs.Prelude.{◌≡◌, ℕ, ◌<◌, ◌==◌, Bool, List, [], ◌∷◌, ◌++◌, flat_map, length, map, Option, Some, None, nat_lt, replicate, slice_get, unwrap_or, if◌then◌else◌}
use Rattle.std.specs.List.{slice_set}
use Rattle.net_base.specs.declared.history.Entry.{Entry}
use Rattle.net_base.specs.declared.reply.Reply.{Reply}
use Rattle.net_base.specs.declared.world.Script.{Script}
use Rattle.net_base.specs.declared.world.World.{World}
use Rattle.net_base.specs.Next.{finished_by, own_replies, zone_of}
use Rattle.net_base.specs.Steps.{is_accepted}
use Rattle.net_base.specs.Transcript.{as_lines}
use Rattle.net_base.specs.Versions.{Tuples}
use Rattle.turn_orders.specs.Results.{RunOutcome, result_text, script_results, step_result}
use Rattle.order_search.specs.declared.marks.Latest.{Latest}

-- Replies of a step.

abbrev pub reply_if : Bool → Reply → List Reply → List Reply
reply_if own r rs = if own then r ∷ rs else rs

-- the replies at which n steps are finished, of those after the replies `before`
abbrev pub replies_from : (List Reply → ℕ) → ℕ → List Reply → List Reply → List Reply
replies_from finished n before [] = []
replies_from finished n before (r ∷ rs) = reply_if (finished before == n) r (replies_from finished n (before ++ r ∷ []) rs)

-- the replies to the events of step n of a script
abbrev pub replies_of : Tuples → Script → ℕ → List Reply → List Reply
replies_of zone s n rs = replies_from (λ (before : List Reply). finished_by zone before s) n [] rs

-- the result of step n
abbrev pub result_at : Tuples → Script → List Reply → ℕ → Option Reply
result_at zone s rs n = if nat_lt n (finished_by zone rs s) then step_result (replies_of zone s n rs) else None

-- Marks.

abbrev pub joined : Option (Option Latest) → Option Latest
joined None = None
joined (Some o) = o

abbrev pub latest_of : List (Option Latest) → ℕ → Option Latest
latest_of row n = joined (slice_get row n)

abbrev pub row_of : List (List (Option Latest)) → ℕ → List (Option Latest)
row_of rows c = unwrap_or (slice_get rows c) []

-- the last entries of step n of script c
abbrev pub latest_at : List (List (Option Latest)) → ℕ → ℕ → Option Latest
latest_at rows c n = latest_of (row_of rows c) n

abbrev pub last_in : Option Latest → Option ℕ
last_in None = None
last_in (Some l) = Some l.last

abbrev pub noted : ℕ → Option Latest → Latest
noted stamp o = record { last = stamp; before = last_in o }

-- a step recorded an entry
abbrev pub row_noted : List (Option Latest) → ℕ → ℕ → List (Option Latest)
row_noted row n stamp = slice_set row n (Some (noted stamp (latest_of row n)))

abbrev pub rows_noted : List (List (Option Latest)) → ℕ → ℕ → ℕ → List (List (Option Latest))
rows_noted rows c n stamp = slice_set rows c (row_noted (row_of rows c) n stamp)

-- the entry with a stamp has the last of these replies
pub record IsLast (h : List Entry) (stamp : ℕ) (rs : List Reply) : Type 0 where
  pub front : List Reply
  pub entry : Entry
  pub there : slice_get h stamp ≡ Some entry
  pub replies_are : rs ≡ front ++ entry.reply ∷ []

abbrev pub IsLastOf : List Entry → Option ℕ → List Reply → Type 0
IsLastOf h None rs = rs ≡ []
IsLastOf h (Some stamp) rs = IsLast h stamp rs

-- the last entry, and the one before it
pub record HasLatest (h : List Entry) (l : Latest) (rs : List Reply) : Type 0 where
  pub last_is : IsLast h l.last rs
  pub before_is : IsLastOf h l.before last_is.front

abbrev pub IsLatest : List Entry → Option Latest → List Reply → Type 0
IsLatest h None rs = rs ≡ []
IsLatest h (Some l) rs = HasLatest h l rs

-- the marks of script c, of which these are the replies
pub record IsRow (zone : Tuples) (s : Script) (h : List Entry) (rs : List Reply) (row : List (Option Latest)) : Type 0 where
  pub count : length row ≡ length s.steps
  pub each : (n : ℕ) → n < length s.steps → IsLatest h (latest_of row n) (replies_of zone s n rs)

pub record AreMarks (w : World) (h : List Entry) (rows : List (List (Option Latest))) : Type 0 where
  pub count : length rows ≡ length w.scripts
  pub each : (c : ℕ) (s : Script) → slice_get w.scripts c ≡ Some s → IsRow (zone_of w) s h (own_replies h c) (row_of rows c)

-- an entry of a script's step n, if nothing caused it
abbrev pub rows_with : List (List (Option Latest)) → Option ℕ → ℕ → ℕ → ℕ → List (List (Option Latest))
rows_with rows None c n stamp = rows_noted rows c n stamp
rows_with rows (Some cited) c n stamp = rows

-- no entries of a script's steps
abbrev pub blank_row : Script → List (Option Latest)
blank_row s = replicate (length s.steps) None

-- Texts.

abbrev pub results_text : RunOutcome → List ℕ
results_text o = flat_map as_lines o.results

-- a step that isn't finished has no result
abbrev pub result_if : Bool → Option Reply → Option Reply
result_if finished r = if finished then r else None

-- the line of a step
abbrev pub line_of : Bool → List Reply → List ℕ
line_of finished rs = result_text (result_if finished (step_result rs)) ++ 10 ∷ []

abbrev pub script_lines : World → List Entry → ℕ × Script → List ℕ
script_lines w h cs = as_lines (map result_text (script_results w h cs))

-- By the last entries.

abbrev pub refusal_in : Option Entry → Option Reply
refusal_in None = None
refusal_in (Some x) = if is_accepted x.reply then None else Some x.reply

-- the reply of an entry, if it is a refusal
abbrev pub refusal_at : List Entry → Option ℕ → Option Reply
refusal_at h None = None
refusal_at h (Some stamp) = refusal_in (slice_get h stamp)

abbrev pub or_refusal : Option Reply → Reply → Reply
or_refusal None last = last
or_refusal (Some refused) last = if is_accepted last then refused else last

abbrev pub last_result : List Entry → Option ℕ → Option Entry → Option Reply
last_result h before None = None
last_result h before (Some x) = Some (or_refusal (refusal_at h before) x.reply)

abbrev pub latest_result : List Entry → Option Latest → Option Reply
latest_result h None = None
latest_result h (Some l) = last_result h l.before (slice_get h l.last)
