-- Each step of each script: its line in the world, and whether it was answered, was refused, or waits. A line for people, or a row of words
-- for programs.
use Rattle.std.specs.Prelude.{ℕ, ◌==◌, Bool, true, false, List, [], ◌∷◌, ◌++◌, drop, flat_map, length, Option, Some, None, codes, slice_get, nat_lt, if◌then◌else◌}
use Rattle.std.specs.List.{enumerate_from, range_with_len}
use Rattle.net_base.specs.declared.history.Entry.{Entry}
use Rattle.net_base.specs.declared.world.Script.{Script}
use Rattle.net_base.specs.declared.world.World.{World}
use Rattle.net_base.specs.Calm.{owes}
use Rattle.net_base.specs.Net.{after}
use Rattle.net_base.specs.Next.{next_recorded}
use Rattle.net_base.specs.Numeral.{numeral}
use Rattle.net_base.specs.Steps.{Ask}
use Rattle.net_base.specs.Summary.{answered_by}
use Rattle.net_base.specs.Transcript.{actor_word, dash, number_or_dash, spaced}
use Rattle.history_words.specs.Labels.{event_label, reply_label}
use Rattle.replay_views.specs.declared.ending.Ending.{Ending}
use Rattle.replay_views.specs.declared.recorded.Latest.{Latest}
use Rattle.replay_views.specs.declared.steps.Form.{Form}
use Rattle.replay_views.specs.declared.steps.Form.TheVariants as form
use Rattle.replay_views.specs.declared.world_steps.StepLine.{StepLine}
use Rattle.replay_views.specs.Endings.{ending_of, kind_of}
use Rattle.replay_views.specs.Recorded.{latest_of, stamps_of}
use Rattle.replay_views.specs.WorldSteps.{step_lines}

-- What became of a step that is answered.

abbrev pub verdict : Bool → List ℕ
verdict refused = if refused then codes "refused" else codes "answered"

abbrev pub reply_text : Option Entry → List ℕ
reply_text None = []
reply_text (Some x) = reply_label x.reply

-- the moment of its last entry, and the reply that answers or refuses it
abbrev pub ending_text : List Entry → Option Ending → List ℕ
ending_text h None = codes "answered"
ending_text h (Some e) = verdict e.refused ++ codes " at " ++ numeral e.moment ++ codes ", " ++ reply_text (slice_get h e.reply)

-- What the step waits for that isn't.

abbrev pub asked_text : Option Ask → List ℕ
asked_text None = codes "waits"
asked_text (Some ask) = codes "waits for " ++ actor_word ask.actor ++ codes " " ++ event_label ask.event

-- what its last event owes isn't recorded yet, or the event that it records next isn't
abbrev pub waiting_text : Bool → Option Ask → List ℕ
waiting_text true ask = codes "owes"
waiting_text false ask = asked_text ask

-- The number of the line, that of the script, and the text of the step.

abbrev pub place_text : Option StepLine → ℕ → List ℕ
place_text None c = codes "- " ++ numeral c
place_text (Some l) c = numeral l.number ++ codes " " ++ numeral c ++ codes " " ++ l.text

-- The words of a row: LINE SCRIPT WORD MOMENT FIRST LAST REPLY.

abbrev pub first_in : Option Latest → Option ℕ
first_in None = None
first_in (Some l) = Some l.first

abbrev pub last_in : Option Latest → Option ℕ
last_in None = None
last_in (Some l) = Some l.last

abbrev pub state_words : List ℕ → Option ℕ → Option Latest → Option ℕ → List ℕ
state_words word moment l reply =
    spaced (word ∷ [])
    ++ spaced (number_or_dash moment ∷ [])
    ++ spaced (number_or_dash (first_in l) ∷ [])
    ++ spaced (number_or_dash (last_in l) ∷ [])
    ++ spaced (number_or_dash reply ∷ [])

abbrev pub ending_words : Option Latest → Option Ending → List ℕ
ending_words l None = state_words (codes "answered") None l None
ending_words l (Some e) = state_words (verdict e.refused) (Some e.moment) l (Some e.reply)

abbrev pub waiting_word : Bool → List ℕ
waiting_word owing = if owing then codes "owes" else codes "waits"

abbrev pub waiting_words : Bool → Option Latest → List ℕ
waiting_words owing l = state_words (waiting_word owing) None l None

abbrev pub ahead_words : List ℕ
ahead_words = state_words (codes "ahead") None None None

abbrev pub line_word : Option StepLine → List ℕ
line_word None = dash
line_word (Some l) = numeral l.number

abbrev pub place_words : Option StepLine → ℕ → List ℕ
place_words l c = line_word l ++ spaced (numeral c ∷ [])

-- The steps, as lines or as rows.

abbrev pub ended_step : Form → List Entry → Option Latest → Option Ending → List ℕ
ended_step form.Line h l e = ending_text h e
ended_step form.Row h l e = ending_words l e

abbrev pub waiting_step : Form → World → List Entry → ℕ → Option Latest → List ℕ
waiting_step form.Line w h c l = waiting_text (owes (after w h) c) (next_recorded w h c)
waiting_step form.Row w h c l = waiting_words (owes (after w h) c) l

abbrev pub ahead_step : Form → List ℕ
ahead_step form.Line = codes "ahead"
ahead_step form.Row = ahead_words

-- the n-th step of a script where so many are answered: those are told with their entries, the next one waits, and the others are ahead
abbrev pub state_by : Form → ℕ → World → List Entry → ℕ × Script → ℕ → Option Latest → List ℕ
state_by f answered w h cs n l =
    if nat_lt n answered
    then ended_step f h l (ending_of (kind_of (slice_get cs.1.steps n)) h l)
    else (if n == answered then waiting_step f w h cs.0 l else ahead_step f)

abbrev pub state_text : Form → World → List Entry → ℕ × Script → ℕ → List ℕ
state_text f w h cs n = state_by f (answered_by w h cs) w h cs n (latest_of h (stamps_of w h cs.0 cs.1 n))

abbrev pub place_of : Form → Option StepLine → ℕ → List ℕ
place_of form.Line l c = place_text l c ++ codes ": "
place_of form.Row l c = place_words l c

abbrev pub step_text : Form → World → List Entry → List StepLine → ℕ × Script → ℕ → List ℕ
step_text f w h lines cs n = place_of f (slice_get lines n) cs.0 ++ state_text f w h cs n ++ 10 ∷ []

-- a script whose steps stand first among these lines
abbrev pub script_text : Form → World → List Entry → List StepLine → ℕ × Script → List ℕ
script_text f w h lines cs = flat_map (step_text f w h lines cs) (range_with_len 0 (length cs.1.steps))

abbrev pub scripts_text : Form → World → List Entry → List StepLine → List (ℕ × Script) → List ℕ
scripts_text f w h lines [] = []
scripts_text f w h lines (cs ∷ more) = script_text f w h lines cs ++ scripts_text f w h (drop (length cs.1.steps) lines) more

-- all steps of a world with this text, after a history, in the order of the world
abbrev pub steps_in : Form → List ℕ → World → List Entry → List ℕ
steps_in f text w h = scripts_text f w h (step_lines text) (enumerate_from 0 w.scripts)

abbrev pub steps_text : List ℕ → World → List Entry → List ℕ
steps_text text w h = steps_in form.Line text w h

abbrev pub step_rows : List ℕ → World → List Entry → List ℕ
step_rows text w h = steps_in form.Row text w h
