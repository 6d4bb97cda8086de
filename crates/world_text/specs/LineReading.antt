-- A line of a world by itself: what its words say, whatever stands before it.
--     *_of          a line by its first word, of its arguments
--     step_in_line  the step of a word and its arguments
--     read_line     any line
use Rattle.std.specs.Prelude.{ℕ, ◌&&◌, List, [], ◌∷◌, map, codes, bytes_eq, Option, Some, None, Result, Ok, Err, nat_le, option_map, if◌then◌else◌}
use Rattle.std.specs.Option.{option_and_then}
use Rattle.net_base.specs.declared.names.Mode.{Mode}
use Rattle.net_base.specs.declared.timer.Timers.{Timers}
use Rattle.net_base.specs.declared.timer.Timers.TheVariants as timers
use Rattle.net_base.specs.declared.world.Fate.{Fate}
use Rattle.net_base.specs.declared.world.Fate.TheVariants as fate
use Rattle.net_base.specs.declared.world.Step.{Step}
use Rattle.net_base.specs.Addresses.{parts_at}
use Rattle.net_base.specs.Paths.{mode_named}
use Rattle.net_base.specs.StepWords.{WordKind, AMode, ANumber, ADatagram, HexBytes, PerhapsMode, TheRest, TheRestOf, Value, value_fits, StepMaker, StepRow, step_row, sample_steps}
use Rattle.net_base.specs.World.{is_name, is_nets}
use Rattle.world_text.specs.declared.line.Frames.{Frames}
use Rattle.world_text.specs.declared.line.Frames.TheVariants as frames
use Rattle.world_text.specs.declared.line.HostLine.TheVariants as host
use Rattle.world_text.specs.declared.line.LineCause.{LineCause}
use Rattle.world_text.specs.declared.line.LineCause.TheVariants as cause
use Rattle.world_text.specs.declared.line.MediumLine.TheVariants as medium
use Rattle.world_text.specs.declared.line.WorldLine.{WorldLine}
use Rattle.world_text.specs.declared.line.WorldLine.TheVariants as line
use Rattle.world_text.specs.WorldWords.{single_word, Two, two, Three, three, Four, four, words_in_line, words_left, number_in, address_in, nets_named, hex_text}

-- what is read behind a word that has to be a name
abbrev pub if_named : {X : Type 0} → List ℕ → Option X → Option X
if_named word read = if is_name word then read else None

-- The first lines.

-- the kind of timers that a number names
abbrev pub timers_named : List ℕ → Option Timers
timers_named word =
    if bytes_eq word (codes "1") then Some timers.Fixed
    else (if bytes_eq word (codes "2") then Some timers.Measured
    else None)

abbrev pub networld_of : List (List ℕ) → Option WorldLine
networld_of args = option_map (λ (kind : Timers). line.Networld kind) (option_and_then timers_named (single_word args))

abbrev pub read_end_line : List (List ℕ) → Option WorldLine
read_end_line args = option_map (λ moment. line.End moment) (option_and_then (number_in 1 1000000000) (single_word args))

abbrev pub seed_of : List (List ℕ) → Option WorldLine
seed_of args = option_map (λ seed. line.Seed seed) (option_and_then (number_in 0 18446744073709551615) (single_word args))

-- Media.

abbrev pub medium_line_of : List (List ℕ) → Option WorldLine
medium_line_of args =
    option_and_then (λ (w : Two). if_named w.first
    (option_map (λ mtu. line.OfMedium (medium.Medium w.first mtu)) (number_in 576 16384 w.second))) (two args)

-- a rate: any number below 2^32, alone or in the sum not above 1000
abbrev pub rate_in : List ℕ → Option ℕ
rate_in word = number_in 0 4294967295 word

abbrev pub rates_from : List ℕ → Option ℕ → Option ℕ → Option ℕ → Option WorldLine
rates_from called (Some loss) (Some twice) (Some later) = Some (line.OfMedium (medium.Rates called loss twice later))
rates_from called (Some loss) (Some twice) None = None
rates_from called (Some loss) None later = None
rates_from called None twice later = None

abbrev pub rates_of : List (List ℕ) → Option WorldLine
rates_of args =
    option_and_then (λ (w : Four). if_named w.first (rates_from w.first (rate_in w.second) (rate_in w.third) (rate_in w.fourth))) (four args)

-- the number of a frame, from 1
abbrev pub frame_in : List ℕ → Option ℕ
frame_in word = number_in 1 18446744073709551615 word

-- the last isn't below the first
abbrev pub range_from : Option ℕ → Option ℕ → Option Frames
range_from (Some first) (Some last) = if nat_le first last then Some (frames.Range first last) else None
range_from (Some first) None = None
range_from None last = None

abbrev pub frames_of : List (List ℕ) → Option Frames
frames_of (k ∷ []) = option_map (λ n. frames.One n) (frame_in k)
frames_of (k ∷ l ∷ []) = range_from (frame_in k) (frame_in l)
frames_of _ = None

-- K, or K-L
abbrev pub frames_in : List ℕ → Option Frames
frames_in word = frames_of (parts_at 45 word)

abbrev pub fate_named : List ℕ → Option Fate
fate_named word =
    if bytes_eq word (codes "deliver") then Some fate.Deliver
    else (if bytes_eq word (codes "lose") then Some fate.Lose
    else (if bytes_eq word (codes "twice") then Some fate.Twice
    else (if bytes_eq word (codes "later") then Some fate.Later
    else None)))

abbrev pub fate_from : List ℕ → Option Frames → Option Fate → Option WorldLine
fate_from called (Some f) (Some x) = Some (line.OfMedium (medium.Fate called f x))
fate_from called (Some f) None = None
fate_from called None x = None

abbrev pub read_fate_line : List (List ℕ) → Option WorldLine
read_fate_line args = option_and_then (λ (w : Three). if_named w.first (fate_from w.first (frames_in w.second) (fate_named w.third))) (three args)

-- Hosts.

abbrev pub host_line_of : List (List ℕ) → Option WorldLine
host_line_of (called ∷ nets) = if is_name called && is_nets (nets_named nets) then Some (line.Host called (nets_named nets)) else None
host_line_of [] = None

abbrev pub if_from : List ℕ → Option ℕ → Option ℕ → Option WorldLine
if_from called (Some ip) (Some mask) = Some (line.OfHost (host.If called ip mask))
if_from called (Some ip) None = None
if_from called None mask = None

abbrev pub if_of : List (List ℕ) → Option WorldLine
if_of args = option_and_then (λ (w : Three). if_named w.first (if_from w.first (address_in w.second) (address_in w.third))) (three args)

abbrev pub route_from : Option ℕ → Option ℕ → Option ℕ → Option WorldLine
route_from (Some net) (Some mask) (Some gateway) = Some (line.OfHost (host.Route (record { net = net; mask = mask; gateway = gateway })))
route_from (Some net) (Some mask) None = None
route_from (Some net) None gateway = None
route_from None mask gateway = None

abbrev pub route_of : List (List ℕ) → Option WorldLine
route_of args = option_and_then (λ (w : Three). route_from (address_in w.first) (address_in w.second) (address_in w.third)) (three args)

abbrev pub start_line : List (List ℕ) → Option WorldLine
start_line args = option_map (λ start. line.OfHost (host.Start start)) (option_and_then (number_in 1 4294967295) (single_word args))

-- Scripts.

abbrev pub script_of : List (List ℕ) → Option WorldLine
script_of args = option_and_then (λ called. if_named called (Some (line.Script called))) (single_word args)

-- the value that a word spells, whether it fits or not
abbrev pub value_guessed : (k : WordKind) → List ℕ → Option (Value k)
value_guessed AMode word = mode_named word
value_guessed PerhapsMode word = option_map (λ (m : Mode). Some m) (mode_named word)
value_guessed (ANumber least most) word = number_in least most word
value_guessed HexBytes word = hex_text word
value_guessed ADatagram word = hex_text word
value_guessed _ word = Some word

-- .. and with the words behind it, where it fits
abbrev pub value_kept : (k : WordKind) → List (List ℕ) → Value k → Option (Value k × List (List ℕ))
value_kept k behind value = if value_fits k value then Some (value, behind) else None

abbrev pub read_word : (k : WordKind) → List ℕ → List (List ℕ) → Option (Value k × List (List ℕ))
read_word k word behind = option_and_then (value_kept k behind) (value_guessed k word)

-- a value of the first word, or of all words, and those behind it
abbrev pub read_value : (k : WordKind) → List (List ℕ) → Option (Value k × List (List ℕ))
read_value PerhapsMode [] = Some (None, [])
read_value _ [] = None
read_value TheRest (word ∷ words) = read_word TheRest (words_left (word ∷ words)) []
read_value (TheRestOf least most) (word ∷ words) = read_word (TheRestOf least most) (words_left (word ∷ words)) []
read_value k (word ∷ words) = read_word k word words

-- the step of the values of the first words, and the words behind those
abbrev pub read_values : (ks : List WordKind) → StepMaker ks → List (List ℕ) → Option (Step × List (List ℕ))
read_values [] made words = Some (made, words)
read_values (k ∷ ks) make words = option_and_then (λ (read : Value k × List (List ℕ)). read_values ks (make read.0) read.1) (read_value k words)

abbrev pub step_where_none : Step → List (List ℕ) → Option Step
step_where_none s [] = Some s
step_where_none s (word ∷ words) = None

-- the step, where no word is left
abbrev pub whole_step : Option (Step × List (List ℕ)) → Option Step
whole_step read = option_and_then (λ (r : Step × List (List ℕ)). step_where_none r.0 r.1) read

abbrev pub row_by_word : List ℕ → List StepRow → Option StepRow
row_by_word word [] = None
row_by_word word (row ∷ rows) = if bytes_eq word row.word then Some row else row_by_word word rows

-- the step that a row makes of the first words, and the words behind those
abbrev pub row_read : List (List ℕ) → StepRow → Option (Step × List (List ℕ))
row_read words row = read_values row.kinds row.make words

-- .. by a word that the row of one of these steps has
abbrev pub step_begun : List Step → List ℕ → List (List ℕ) → Option (Option (Step × List (List ℕ)))
step_begun samples word words = option_map (row_read words) (row_by_word word (map step_row samples))

-- the step of a word and its arguments, which are wrong where there is none
abbrev pub step_in_line : List ℕ → List (List ℕ) → Option (Option Step)
step_in_line word args = option_map whole_step (step_begun sample_steps word args)

-- Lines.

-- what is read of a line whose word is known
abbrev pub argued : Option WorldLine → Result WorldLine LineCause
argued None = Err cause.WrongArgument
argued (Some l) = Ok l

abbrev pub step_read : Option (Option Step) → Result WorldLine LineCause
step_read None = Err cause.UnknownWord
step_read (Some None) = Err cause.WrongArgument
step_read (Some (Some s)) = Ok (line.OfScript s)

-- a line under a host, a script or a step
abbrev pub other_line : List ℕ → List (List ℕ) → Result WorldLine LineCause
other_line word args =
    if bytes_eq word (codes "host") then argued (host_line_of args)
    else (if bytes_eq word (codes "if") then argued (if_of args)
    else (if bytes_eq word (codes "route") then argued (route_of args)
    else (if bytes_eq word (codes "start") then argued (start_line args)
    else (if bytes_eq word (codes "script") then argued (script_of args)
    else step_read (step_in_line word args)))))

abbrev pub ndb_of : List (List ℕ) → Option WorldLine
ndb_of [] = Some line.Ndb
ndb_of _ = None

-- a line by its first word and the others
abbrev pub word_line : List ℕ → List (List ℕ) → Result WorldLine LineCause
word_line word args =
    if bytes_eq word (codes "ndb") then argued (ndb_of args)
    else (if bytes_eq word (codes "networld") then argued (networld_of args)
    else (if bytes_eq word (codes "end") then argued (read_end_line args)
    else (if bytes_eq word (codes "seed") then argued (seed_of args)
    else (if bytes_eq word (codes "medium") then argued (medium_line_of args)
    else (if bytes_eq word (codes "rates") then argued (rates_of args)
    else (if bytes_eq word (codes "fate") then argued (read_fate_line args)
    else other_line word args))))))

abbrev pub words_line : List (List ℕ) → Result WorldLine LineCause
words_line [] = Err cause.UnknownWord
words_line (word ∷ args) = word_line word args

-- what a line says, or the least cause for which it is bad wherever it stands
abbrev pub read_line : List ℕ → Result WorldLine LineCause
read_line text = words_line (words_in_line text)
