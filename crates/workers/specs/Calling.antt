-- When a run calls its workers: where several groups go on round after round, and the later, the more calls were in vain.
use Rattle.std.specs.Prelude.{◌≡◌, ◌≢◌, ◌≤◌, ◌<◌, ◌^◌, ◌*◌, ◌+◌, ◌-◌, ℕ, Bool, true, false, List, [], ◌∷◌, length, min, nat_lt, Option, Some, None, if◌then◌else◌}
use Rattle.workers.specs.declared.pace.Pace.{Pace}

-- what a run has seen, the latest first
pub record Story : Type 0 where
  -- of each round since the phase began or workers were called, in how many groups something was recorded
  pub rounds : List ℕ
  -- of each call of the workers, whether it paid
  pub calls : List Bool
  -- whether threads can be had, where that was asked
  pub threads : Option Bool

-- a run that begins
abbrev pub nothing_yet : Story
nothing_yet = record { rounds = []; calls = []; threads = None }

-- a phase begins
abbrev pub at_a_phase : Story → Story
at_a_phase s = record s { rounds = [] }

-- a round more, in so many groups
abbrev pub after_round : ℕ → Story → Story
after_round groups s = record s { rounds = groups ∷ s.rounds }

-- a call more, which paid or was in vain
abbrev pub after_call : Bool → Story → Story
after_call paid s = record s { rounds = []; calls = paid ∷ s.calls }

-- threads were asked for
abbrev pub after_asking : Bool → Story → Story
after_asking there s = record s { threads = Some there }

-- the last so many rounds in a row went on in several groups
abbrev pub in_a_row : List ℕ → ℕ
in_a_row [] = 0
in_a_row (groups ∷ before) = if nat_lt 1 groups then in_a_row before + 1 else 0

-- so many calls were in vain, where each that paid makes up for one before it
abbrev pub in_vain : List Bool → ℕ
in_vain [] = 0
in_vain (true ∷ before) = in_vain before - 1
in_vain (false ∷ before) = in_vain before + 1

-- so many rounds in a row are waited for: two, doubled for each call in vain after the eighth, twelve times at most
abbrev pub rounds_after : ℕ → ℕ
rounds_after vain = 2 * 2 ^ min (vain - 8) 12

abbrev pub patience : List Bool → ℕ
patience calls = rounds_after (in_vain calls)

-- the workers are to be called: nothing says that threads can't be had, and there were enough rounds in a row
abbrev pub IsTime : Story → Type 0
IsTime s = (s.threads ≢ Some false) × (patience s.calls ≤ in_a_row s.rounds)

-- a pace has counted what was seen, as far as its numbers go
pub record IsPaceOf (s : Story) (p : Pace) : Type 0 where
  pub together : p.together ≡ min (in_a_row s.rounds) 4294967295
  pub vain : length s.calls < 2 ^ 32 → p.vain ≡ in_vain s.calls
  pub asked : p.threads ≡ s.threads
