-- The lines of a world's text that are steps, and the steps of the world.
use Rattle.std.specs.Prelude.{◌≡◌, ℕ, ◌⊎◌, List, [], ◌∷◌, ◌++◌, flat_map, map}
use Rattle.net_base.specs.declared.world.Script.{Script}
use Rattle.net_base.specs.declared.world.World.{World}
use Rattle.world_text.specs.WorldSpelling.{line_of_step}
use Rattle.replay_views.specs.declared.world_steps.StepLine.{StepLine}

abbrev pub texts_of : List StepLine → List (List ℕ)
texts_of lines = map (λ (l : StepLine). l.text) lines

abbrev pub steps_spelled : Script → List (List ℕ)
steps_spelled s = map line_of_step s.steps

-- the text of each step of a world, in the order of the world
abbrev pub step_spellings : World → List (List ℕ)
step_spellings w = flat_map steps_spelled w.scripts

-- nothing follows a text, or its last line ends with a newline
abbrev pub EndsLine : List ℕ → List ℕ → Type 0
EndsLine text behind = (behind ≡ []) ⊎ ((front : List ℕ) × (text ≡ front ++ 10 ∷ []))
