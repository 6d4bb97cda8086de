-- The grammar of standard input: what a line says, or its smallest cause among 9, 12 and 13.
use Rattle.std.specs.Prelude.{ℕ, ◌==◌, Bool, true, ◌||◌, List, [], ◌∷◌, length, bytes_eq, codes, nat_lt, Option, Some, None, Result, Ok, Err, if◌then◌else◌}
use Rattle.std.specs.Borrow.{Bor}
use Rattle.std.specs.Option.{option_map_or}
use Rattle.net_base.specs.declared.world.Step.{Step}
use Rattle.live_lines.specs.declared.action.Action.{Action}
use Rattle.live_lines.specs.declared.action.Action.TheVariants as action
use Rattle.live_lines.specs.declared.cause.LiveCause.{LiveCause}
use Rattle.live_lines.specs.declared.cause.LiveCause.TheVariants as cause
use Rattle.live_lines.specs.declared.line.LiveLine.{LiveLine}
use Rattle.net_base.specs.Addresses.{number_in}
use Rattle.world_text.specs.declared.line.LineCause.{LineCause}
use Rattle.world_text.specs.declared.line.LineCause.TheVariants as line
use Rattle.world_text.specs.declared.line.WorldLine.{WorldLine}
use Rattle.world_text.specs.declared.line.WorldLine.TheVariants as written
use Rattle.world_text.specs.LineReading.{step_in_line}
use Rattle.world_text.specs.WorldWords.{words_in_line}

-- Numbers.

-- the number of a place: 0 to 31
abbrev pub place_in : List ℕ → Option ℕ
place_in word = number_in 0 31 word

-- a deadline, in ms
abbrev pub deadline_in : List ℕ → Option ℕ
deadline_in word = number_in 1 1000000000 word

-- the words of a text, or none
abbrev pub words_after : Option (Bor (List ℕ)) → List (List ℕ)
words_after text = option_map_or (λ (t : Bor (List ℕ)). words_in_line t.now) text []

-- Steps.

abbrev pub step_result : Option (Option Step) → Result Step LiveCause
step_result None = Err cause.UnknownWord
step_result (Some None) = Err cause.WrongArgument
step_result (Some (Some s)) = Ok s

-- a step, as a line of a world file gives it
abbrev pub step_of : List (List ℕ) → Result Step LiveCause
step_of [] = Err cause.UnknownWord
step_of (word ∷ args) = step_result (step_in_line word args)

-- Actions.

-- `cancel` and `end` have no argument
abbrev pub alone : List (List ℕ) → Action → Result Action LiveCause
alone [] a = Ok a
alone (word ∷ words) a = Err cause.WrongArgument

abbrev pub stepped : Result Step LiveCause → Result Action LiveCause
stepped (Err c) = Err c
stepped (Ok s) = Ok (action.Step None s)

-- an unknown word of the step comes before an invalid deadline
abbrev pub deadlined : Result Step LiveCause → Option ℕ → Result Action LiveCause
deadlined (Err c) m = Err c
deadlined (Ok s) None = Err cause.WrongArgument
deadlined (Ok s) (Some m) = Ok (action.Step (Some m) s)

-- the words after `by`: a deadline and a step
abbrev pub by_of : List (List ℕ) → Result Action LiveCause
by_of [] = Err cause.UnknownWord
by_of (m ∷ words) = deadlined (step_of words) (deadline_in m)

abbrev pub word_action : List ℕ → List (List ℕ) → Result Action LiveCause
word_action word args =
    if bytes_eq word (codes "by") then by_of args
    else (if bytes_eq word (codes "cancel") then alone args action.Cancel
    else (if bytes_eq word (codes "end") then alone args action.End
    else stepped (step_of (word ∷ args))))

-- the words after the number of the place
abbrev pub action_of : List (List ℕ) → Result Action LiveCause
action_of [] = Err cause.UnknownWord
action_of (word ∷ args) = word_action word args

-- Lines.

-- an unknown word comes before an invalid number of a place
abbrev pub placed : Result Action LiveCause → Option ℕ → Result LiveLine LiveCause
placed (Err c) p = Err c
placed (Ok a) None = Err cause.WrongArgument
placed (Ok a) (Some p) = Ok (record { place = p; action = a })

abbrev pub line_of : List (List ℕ) → Result LiveLine LiveCause
line_of [] = Err cause.UnknownWord
line_of (p ∷ words) = placed (action_of words) (place_in p)

abbrev pub some_line : Result LiveLine LiveCause → Result (Option LiveLine) LiveCause
some_line (Err c) = Err c
some_line (Ok l) = Ok (Some l)

-- an empty line, or a comment: its first byte is `#`
abbrev pub is_ignored : List ℕ → Bool
is_ignored [] = true
is_ignored (b ∷ bs) = b == 35

-- a line without its newline
abbrev pub read_line : List ℕ → Result (Option LiveLine) LiveCause
read_line line =
    if nat_lt 65536 (length line) then Err cause.TooLong
    else (if is_ignored line then Ok None else some_line (line_of (words_in_line line)))

-- Words of world files that are not steps.

abbrev pub is_part_word : List ℕ → Bool
is_part_word word =
    bytes_eq word (codes "ndb") || (bytes_eq word (codes "networld") || (bytes_eq word (codes "end") || (bytes_eq word (codes "seed")
    || (bytes_eq word (codes "medium") || (bytes_eq word (codes "rates") || bytes_eq word (codes "fate"))))))

abbrev pub is_host_word : List ℕ → Bool
is_host_word word =
    bytes_eq word (codes "host") || (bytes_eq word (codes "if") || (bytes_eq word (codes "route")
    || (bytes_eq word (codes "start") || bytes_eq word (codes "script"))))

abbrev pub is_world_word : List ℕ → Bool
is_world_word word = is_part_word word || is_host_word word

-- the step of a line of a world file, if the line is a step
abbrev pub script_result : WorldLine → Result Step LiveCause
script_result (written.OfScript s) = Ok s
script_result _ = Err cause.UnknownWord

-- the cause of an invalid step line
abbrev pub live_cause : LineCause → LiveCause
live_cause line.WrongArgument = cause.WrongArgument
live_cause _ = cause.UnknownWord
