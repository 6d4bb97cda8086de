-- The words of the command line.
use Rattle.std.specs.Prelude.{◌&&◌, ℕ, List, [], ◌∷◌, Option, Some, None, bytes_eq, codes, if◌then◌else◌}

-- what is shown of a history
pub data View : Type 0 where
  -- `pcap`, or `pcap MEDIUM`: a capture of all media, or of one
  Pcap : Option (List ℕ) → View
  -- `pcapng`: a capture of all media, with their names and with stamps
  Pcapng : View
  -- `json`: the history as JSON
  Json : View
  -- `page`: a page on which a reader steps through the history, with its head and its tail
  Page : List ℕ → List ℕ → View
  -- `chart`: the history as a picture, with a column for each host
  Chart : View
  -- `chart conversations`: the same with a column for each conversation
  ChartOfTalks : View
  -- `steps`: how far each script came
  Steps : View
  -- `words`: the history in words
  Words : View

pub data Command : Type 0 where
  Show : View → Command
  -- `lint`: notes on a bundle of files of a network database
  Lint : Command

-- the name of a medium is no empty word
abbrev pub one_medium : List ℕ → Option Command
one_medium [] = None
one_medium (b ∷ name) = Some (Show (Pcap (Some (b ∷ name))))

-- the command of one word, with the head and the tail of a page
abbrev pub one_word : List ℕ → List ℕ → List ℕ → Option Command
one_word head tail name =
    if bytes_eq name (codes "pcap") then Some (Show (Pcap None))
    else if bytes_eq name (codes "pcapng") then Some (Show Pcapng)
    else if bytes_eq name (codes "json") then Some (Show Json)
    else if bytes_eq name (codes "page") then Some (Show (Page head tail))
    else if bytes_eq name (codes "chart") then Some (Show Chart)
    else if bytes_eq name (codes "steps") then Some (Show Steps)
    else if bytes_eq name (codes "words") then Some (Show Words)
    else if bytes_eq name (codes "lint") then Some Lint
    else None

-- the command of two words
abbrev pub two_words : List ℕ → List ℕ → Option Command
two_words name word =
    if bytes_eq name (codes "pcap") then one_medium word
    else if bytes_eq name (codes "chart") && bytes_eq word (codes "conversations") then Some (Show ChartOfTalks)
    else None

-- the command of words, if they are in a row, with the head and the tail of a page
abbrev pub command_of : List ℕ → List ℕ → List (List ℕ) → Option Command
command_of head tail (name ∷ []) = one_word head tail name
command_of head tail (name ∷ word ∷ []) = two_words name word
command_of head tail _ = None
