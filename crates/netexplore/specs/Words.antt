-- The words of the command line.
use Rattle.std.specs.Prelude.{ℕ, List, [], ◌∷◌, Option, Some, None, bytes_eq, codes, if◌then◌else◌}
use Rattle.std.specs.Option.{option_map}
use Rattle.net_base.specs.Addresses.{number_in, parts_at}

-- a part of the histories, and the number of parts
pub record Part : Type 0 where
  pub number : ℕ
  pub count : ℕ

-- which histories are looked at: with at most p preemptions, the first ones up to a limit, of one part or all
pub record Span : Type 0 where
  pub preemptions : ℕ
  pub limit : ℕ
  pub part : Option Part

pub data Command : Type 0 where
  -- `schedule SEED`: a run whose order of turns is drawn
  Schedule : ℕ → Command
  -- `outcomes P LIMIT`: how the histories end
  Outcomes : Span → Command
  -- `witness P LIMIT N`: a history with one outcome
  Witness : Span → ℕ → Command
  -- `losses K P LIMIT`: how the histories end in which at most k frames are lost
  Losses : ℕ → Span → Command
  -- `lost K P LIMIT N`: a history with one outcome of these, after its world
  Lost : ℕ → Span → ℕ → Command

-- Numbers.

-- 0 to 18,446,744,073,709,551,615
unfoldable pub seed_in : List ℕ → Option ℕ
seed_in word = number_in 0 18446744073709551615 word

-- 0 to 99
unfoldable pub bound_in : List ℕ → Option ℕ
bound_in word = number_in 0 99 word

-- 1 to 1,000,000,000
unfoldable pub limit_in : List ℕ → Option ℕ
limit_in word = number_in 1 1000000000 word

-- 0 to 999,999,999
unfoldable pub outcome_in : List ℕ → Option ℕ
outcome_in word = number_in 0 999999999 word

-- Parts.

abbrev pub part_of : ℕ → ℕ → Part
part_of count number = record { number = number; count = count }

-- 1 to the number of parts, which is 1 to 1000
abbrev pub part_with : List ℕ → Option ℕ → Option Part
part_with word None = None
part_with word (Some count) = option_map (part_of count) (number_in 1 count word)

abbrev pub part_in : List (List ℕ) → Option Part
part_in (number ∷ count ∷ []) = part_with number (number_in 1 1000 count)
part_in _ = None

-- `PART/PARTS`
unfoldable pub part_word : List ℕ → Option Part
part_word word = part_in (parts_at 47 word)

-- how many parts there are
abbrev pub parts_in : Option Part → ℕ
parts_in None = 1
parts_in (Some part) = part.count

-- or no word, which is no part
abbrev pub part_words : List (List ℕ) → Option (Option Part)
part_words [] = Some None
part_words (word ∷ []) = option_map Some (part_word word)
part_words _ = None

-- Commands.

abbrev pub span_of : Option ℕ → Option ℕ → Option (Option Part) → Option Span
span_of None limit part = None
span_of (Some p) None part = None
span_of (Some p) (Some limit) None = None
span_of (Some p) (Some limit) (Some part) = Some (record { preemptions = p; limit = limit; part = part })

abbrev pub witness_of : Option Span → Option ℕ → Option Command
witness_of None number = None
witness_of (Some span) None = None
witness_of (Some span) (Some number) = Some (Witness span number)

abbrev pub losses_of : Option ℕ → Option Span → Option Command
losses_of None span = None
losses_of (Some k) None = None
losses_of (Some k) (Some span) = Some (Losses k span)

abbrev pub lost_of : Option ℕ → Option Span → Option ℕ → Option Command
lost_of None span number = None
lost_of (Some k) None number = None
lost_of (Some k) (Some span) None = None
lost_of (Some k) (Some span) (Some number) = Some (Lost k span number)

abbrev pub schedule_in : List (List ℕ) → Option Command
schedule_in (seed ∷ []) = option_map Schedule (seed_in seed)
schedule_in _ = None

abbrev pub outcomes_in : List (List ℕ) → Option Command
outcomes_in (p ∷ limit ∷ part) = option_map Outcomes (span_of (bound_in p) (limit_in limit) (part_words part))
outcomes_in _ = None

abbrev pub witness_in : List (List ℕ) → Option Command
witness_in (p ∷ limit ∷ number ∷ part) = witness_of (span_of (bound_in p) (limit_in limit) (part_words part)) (outcome_in number)
witness_in _ = None

abbrev pub losses_in : List (List ℕ) → Option Command
losses_in (k ∷ p ∷ limit ∷ part) = losses_of (bound_in k) (span_of (bound_in p) (limit_in limit) (part_words part))
losses_in _ = None

abbrev pub lost_in : List (List ℕ) → Option Command
lost_in (k ∷ p ∷ limit ∷ number ∷ part) =
    lost_of (bound_in k) (span_of (bound_in p) (limit_in limit) (part_words part)) (outcome_in number)
lost_in _ = None

abbrev pub named_command : List ℕ → List (List ℕ) → Option Command
named_command name words =
    if bytes_eq name (codes "schedule") then schedule_in words
    else if bytes_eq name (codes "outcomes") then outcomes_in words
    else if bytes_eq name (codes "witness") then witness_in words
    else if bytes_eq name (codes "losses") then losses_in words
    else if bytes_eq name (codes "lost") then lost_in words
    else None

-- the command of words, where they are in a row
abbrev pub command_of : List (List ℕ) → Option Command
command_of [] = None
command_of (name ∷ words) = named_command name words
