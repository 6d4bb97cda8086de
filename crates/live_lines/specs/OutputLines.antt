-- The first line of standard output, the line of an invalid line, and the last line.
use Rattle.std.specs.Prelude.{ℕ, List, [], ◌∷◌, ◌++◌, map, codes}
use Rattle.live_lines.specs.declared.cause.LiveCause.{LiveCause}
use Rattle.net_base.specs.declared.end.RunEnd.{RunEnd}
use Rattle.net_base.specs.declared.end.RunEnd.TheVariants as ends
use Rattle.live_lines.specs.Causes.{cause_number_of}
use Rattle.net_base.specs.Numeral.{numeral}
use Rattle.net_base.specs.Summary.{end_line}
use Rattle.net_base.specs.Transcript.{spaced}

-- the version of the format, and the numbers of the places
abbrev pub places_line : List ℕ → List ℕ
places_line places = codes "netlive 1" ++ spaced (map numeral places) ++ 10 ∷ []

-- an invalid line, by its number and its cause
abbrev pub bad_line : ℕ → LiveCause → List ℕ
bad_line line c = codes "! line " ++ numeral line ++ codes " cause " ++ numeral (cause_number_of c) ++ 10 ∷ []

abbrev pub end_word : RunEnd → List ℕ
end_word ends.Done = codes "done"
end_word ends.Stopped = codes "stopped"
end_word ends.Limit = codes "limit"

-- the end of the run: as the last line of a summary
abbrev pub end_text : RunEnd → ℕ → List ℕ
end_text e moment = end_line (end_word e) moment
