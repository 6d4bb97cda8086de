-- The lines of outcomes.
use Rattle.std.specs.Prelude.{ℕ, ◌+◌, ◌&&◌, ◌≡◌, Bool, true, false, List, [], ◌∷◌, ◌++◌, All, Option, Some, None, bytes_eq, codes, decimal, slice_get, unwrap_or, if◌then◌else◌}
use Rattle.std.specs.List.{list_all, list_any}
use Rattle.net_base.specs.declared.end.RunEnd.{RunEnd}
use Rattle.net_base.specs.declared.end.RunEnd.TheVariants as ended
use Rattle.net_base.specs.Numeral.{numeral}
use Rattle.order_search.specs.declared.tellings.Telling.{Telling}

-- a word with a number after it
unfoldable pub labelled : List ℕ → ℕ → List ℕ
labelled label number = label ++ numeral number

-- the number of losses, if there is one
abbrev pub losses_words : Option ℕ → List ℕ
losses_words None = []
losses_words (Some losses) = labelled (codes " losses ") losses

-- the line in front of an outcome
unfoldable pub head_line : ℕ → Option ℕ → ℕ → List ℕ
head_line number losses preemptions =
    labelled (codes "outcome ") number ++ (losses_words losses ++ (labelled (codes " preemptions ") preemptions ++ 10 ∷ []))

-- what comes after the summary of an outcome
abbrev pub lines_at : List (List ℕ) → ℕ → List ℕ
lines_at lines number = unwrap_or (slice_get lines number) []

-- an outcome: a line, the four lines of its summary, and these lines
abbrev pub telling_text : ℕ → Telling → List ℕ → List ℕ
telling_text number t lines = head_line number t.losses t.preemptions ++ (t.summary ++ lines)

-- outcomes from a number on: for each a line, the four lines of its summary, and these lines
abbrev pub tellings_text : List (List ℕ) → ℕ → List Telling → List ℕ
tellings_text lines number [] = []
tellings_text lines number (t ∷ ts) = telling_text number t (lines_at lines number) ++ tellings_text lines (number + 1) ts

abbrev pub whole_word : Bool → List ℕ
whole_word whole = if whole then codes " all\n" else codes " some\n"

-- the last line
abbrev pub last_line : ℕ → ℕ → Bool → List ℕ
last_line histories entries whole =
    codes "histories " ++ decimal histories ++ codes " entries " ++ numeral entries ++ whole_word whole

-- Statuses.

abbrev pub is_stopped : Option RunEnd → Bool
is_stopped (Some ended.Stopped) = true
is_stopped _ = false

abbrev pub is_done : Option RunEnd → Bool
is_done (Some ended.Done) = true
is_done _ = false

-- 3 if an outcome is stopped, 0 if the list is whole and each outcome is done, and otherwise 4
abbrev pub told_status : Bool → List Telling → ℕ
told_status whole ts =
    if list_any (λ (t : Telling). is_stopped t.end) ts
    then 3
    else (if whole && list_all (λ (t : Telling). is_done t.end) ts then 0 else 4)

-- the status of a history by the word of its end: done, stopped, or at the limit
abbrev pub word_status : List ℕ → ℕ
word_status word = if bytes_eq word (codes "done") then 0 else (if bytes_eq word (codes "stopped") then 3 else 4)
