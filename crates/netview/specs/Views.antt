-- What a command answers to its input.
--     asking        what is asked of the program: its bad lines, and what is found in a good input
--     IsFirstBad    the first bad line of an input
--     view          what is shown of an input with a world and a legal and timed history of it
--     IsAnswer      an answer to a command and its input
-- Of a bundle nothing is said of what is noted, but that its bad lines are told.
use Rattle.std.specs.Prelude.{◌≡◌, ℕ, ◌⊎◌, true, List, [], ◌∷◌, bytes_eq, Option, Some, None, if◌then◌else◌}
use Rattle.net_base.specs.declared.history.Entry.{Entry}
use Rattle.net_base.specs.declared.world.MediumSpec.{MediumSpec}
use Rattle.net_base.specs.declared.world.World.{World}
use Rattle.net_base.specs.Legal.{IsLegal, IsTimed}
use Rattle.netcheck.specs.Judged.{HasFault}
use Rattle.net_model.specs.Asking as calls
use Rattle.net_model.specs.Asking.{Asking}
use Rattle.net_model.specs.Answers.{Answer, lines_answer, rule_broken}
use Rattle.netcheck.specs.Input.{Handed, IsBadHanded, parts_of}
use Rattle.history_json.specs.HistoryJson.{history_json}
use Rattle.history_words.specs.HistoryWords.{history_words}
use Rattle.replay_views.specs.Capture.{capture}
use Rattle.pcapng.specs.Frames.{pcapng}
use Rattle.net_chart.specs.Chart.{chart}
use Rattle.net_chart.specs.TalkChart.{talk_chart}
use Rattle.replay_views.specs.Steps.{steps_text}
use Rattle.net_page.specs.Page.{page}
use Rattle.net_base.specs.NdbBundle.{bad_line}
use Rattle.netview.specs.Words.{Command, Lint, Show, View, Chart, ChartOfTalks, Json, Page, Pcap, Pcapng, Steps, Words}

-- Bad lines.

-- the most bytes that an input may have: 64 MiB of a world with a history, 16 MiB for a page, and 4 MiB of a bundle
abbrev pub view_limit : View → ℕ
view_limit (Page head tail) = 16777216
view_limit _ = 67108864

abbrev pub input_limit : Command → ℕ
input_limit (Show asked) = view_limit asked
input_limit Lint = 4194304

-- the first bad line of an input within the limit, and its least cause, if a line is bad
abbrev pub IsBadLine : Command → List ℕ → Option (ℕ × ℕ) → Type 0
IsBadLine (Show asked) input found = IsBadHanded (parts_of input) input found
IsBadLine Lint input found = found ≡ bad_line input

-- Views.

-- a text that is shown
abbrev pub whole_view : List ℕ → Answer
whole_view text = record { status = 0; text = text }

-- the world has no medium of the name
abbrev pub no_medium : Answer
no_medium = lines_answer []

-- the number of the medium with a name, if there is one
abbrev pub medium_named : List ℕ → List MediumSpec → Option ℕ
medium_named name [] = None
medium_named name (s ∷ ss) = if bytes_eq s.name name then Some s.number else medium_named name ss

-- the capture of one medium, if there is one
abbrev pub capture_on : Option ℕ → World → List Entry → Answer
capture_on None w h = no_medium
capture_on (Some medium) w h = whole_view (capture w h (Some medium))

-- of steps it is where they stand in the text of the world, too
abbrev pub command_view : View → List ℕ → World → List Entry → Answer
command_view (Pcap None) input w h = whole_view (capture w h None)
command_view (Pcap (Some name)) input w h = capture_on (medium_named name w.media) w h
command_view Pcapng input w h = whole_view (pcapng w h)
command_view Json input w h = whole_view (history_json h)
command_view (Page head tail) input w h = whole_view (page head tail input w h)
command_view Chart input w h = whole_view (chart w h)
command_view ChartOfTalks input w h = whole_view (talk_chart w h)
command_view Steps input w h = whole_view (steps_text input w h)
command_view Words input w h = whole_view (history_words w h)

-- Answers.

-- what is shown of a legal and timed history, or the first stamp that breaks a rule and the least rule there
pub record IsShown (asked : View) (input : List ℕ) (w : World) (h : List Entry) (answer : Answer) : Type 0 where
  pub kept : IsLegal w h → IsTimed w h → answer ≡ command_view asked input w h
  pub broken : (stamp rule : ℕ) → HasFault w h stamp rule → answer ≡ rule_broken stamp rule
  -- and one of both it is
  pub judged : (IsLegal w h × IsTimed w h) ⊎ ((stamp : ℕ) × (rule : ℕ) × HasFault w h stamp rule)

-- so of what an input hands in
abbrev pub IsShownOf : View → List ℕ → Answer → Type 0
IsShownOf asked input answer = (handed : Handed input) → IsShown asked input handed.world handed.history answer

-- an answer to an input without a bad line: what is shown of what it hands in, or some notes
abbrev pub IsGood : Command → List ℕ → Answer → Type 0
IsGood (Show asked) input answer = Handed input × IsShownOf asked input answer
IsGood Lint input answer = (notes : List ℕ) × (answer ≡ whole_view notes)

-- what is asked of the program
abbrev pub asking : Asking Command
asking = record { reads = λ asked. true; limit = input_limit; IsBadLine = IsBadLine; IsFound = IsGood }

-- the first bad line of any input
abbrev pub IsFirstBad : Command → List ℕ → Option (ℕ × ℕ) → Type 0
IsFirstBad asked input found = calls.IsFirstBad asking asked input found

-- an answer to a command and its input
abbrev pub IsAnswer : Command → List ℕ → Answer → Type 0
IsAnswer asked input answer = calls.IsAnswer asking asked input answer
