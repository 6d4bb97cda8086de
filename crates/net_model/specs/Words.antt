-- The words of a command line and the commands that they give.
use Rattle.std.specs.Prelude.{ℕ, Bool, true, false, ◌&&◌, nat_le, List, [], ◌∷◌, length, Option, Some, None, is_some, if◌then◌else◌, bytes_eq, codes}
use Rattle.std.specs.Option.{option_map}
use Rattle.net_base.specs.Addresses.{number_in}
use Rattle.net_base.specs.Hexadecimal.{hex_text}

-- a command
pub data Command : Type 0 where
  -- what a host is answered to a query, by its name
  Cs : List ℕ → List ℕ → Command
  -- the tuples with a pair of attribute and value, or the values of another attribute beside the pair
  Query : List ℕ → List ℕ → Option (List ℕ) → Command
  -- what a message of the domain name system, in hexadecimal, is answered from a database
  Dns : List ℕ → Command
  -- the run of a world on so many workers
  Run : ℕ → Command
  -- the text of the made world of so many messages
  Make : ℕ → Command
  -- the summary of a run of the made world of so many messages
  Big : ℕ → Command
  -- the judgement of a history that is handed in with its world
  Check : Command
  -- the run of a world with sessions on so many workers, and their answers
  Export : ℕ → Command
  -- the world that a world with sessions is translated to
  Translate : Command

-- a word that has bytes
abbrev pub is_any_word : List ℕ → Bool
is_any_word [] = false
is_any_word (byte ∷ bytes) = true

-- the number of messages that a word says: 1 to 9000, without leading zeros
unfoldable pub messages_in_words : List ℕ → Option ℕ
messages_in_words word = number_in 1 9000 word

-- the number of workers that a word says: 1 to 16, without leading zeros
unfoldable pub workers_in : List ℕ → Option ℕ
workers_in word = number_in 1 16 word

-- a message: two digits in lower case for each byte, of which there are 1 to 1024
unfoldable pub is_message : List ℕ → Bool
is_message word = nat_le 2 (length word) && nat_le (length word) 2048 && is_some (hex_text word)

-- the command that words give, where they are in a row: `check`, `translate`, `run WORKERS`, `export WORKERS`, `make N`, `big N`, `dns HEX`, `cs SYS QUERY`,
-- `query ATTR VALUE`, or `query ATTR VALUE RATTR`
abbrev pub command_of : List (List ℕ) → Option Command
command_of (name ∷ []) = if bytes_eq name (codes "check") then Some Check else (if bytes_eq name (codes "translate") then Some Translate else None)
command_of (name ∷ number ∷ []) =
    if bytes_eq name (codes "run")
    then option_map Run (workers_in number)
    else (if bytes_eq name (codes "make")
    then option_map Make (messages_in_words number)
    else (if bytes_eq name (codes "big")
    then option_map Big (messages_in_words number)
    else (if bytes_eq name (codes "export")
    then option_map Export (workers_in number)
    else (if bytes_eq name (codes "dns") && is_message number then Some (Dns number) else None))))
command_of (name ∷ sys ∷ query ∷ []) =
    if is_any_word sys && is_any_word query
    then (if bytes_eq name (codes "cs") then Some (Cs sys query) else (if bytes_eq name (codes "query") then Some (Query sys query None) else None))
    else None
command_of (name ∷ attr ∷ value ∷ other ∷ []) =
    if bytes_eq name (codes "query") && is_any_word attr && is_any_word value && is_any_word other then Some (Query attr value (Some other)) else None
command_of _ = None

-- whether a command may wait for threads
abbrev pub may_wait : Command → Bool
may_wait (Cs sys query) = false
may_wait (Query attr value other) = false
may_wait (Dns word) = false
may_wait (Run workers) = true
may_wait (Make messages) = false
may_wait (Big messages) = true
may_wait Check = false
may_wait (Export workers) = true
may_wait Translate = false

-- whether words give a command that may wait
abbrev pub words_wait : Option Command → Bool
words_wait None = false
words_wait (Some command) = may_wait command

-- whether a command has an input
abbrev pub reads_input : Command → Bool
reads_input (Cs sys query) = true
reads_input (Query attr value other) = true
reads_input (Dns word) = true
reads_input (Run workers) = true
reads_input (Make messages) = false
reads_input (Big messages) = false
reads_input Check = true
reads_input (Export workers) = true
reads_input Translate = true

-- whether words give a command that has an input
abbrev pub words_read : Option Command → Bool
words_read None = false
words_read (Some command) = reads_input command
