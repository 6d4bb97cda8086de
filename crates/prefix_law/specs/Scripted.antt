-- A script of a world whose `dns` answers from this database, for the law: its plays, and what is kept between them.
use Rattle.std.specs.Prelude.{Bool, true, false}
use Rattle.net_base.specs.declared.world.Script.{Script}
use Rattle.net_base.specs.declared.world.Step.{Step}
use Rattle.net_base.specs.declared.world.Step.TheVariants as step
use Rattle.net_base.specs.Scripts.{Kept, at_first, kept_after, step_play}
use Rattle.net_base.specs.Versions.{Tuples}
use Rattle.prefix_law.specs.Spans.{Scripted}

abbrev pub scripted : Tuples → Script → Scripted Kept Step
scripted zone s = record { start = at_first zone; play = step_play s.host; after = kept_after; steps = s.steps }

-- the steps that talk over a call to an exporting step
abbrev pub is_importing : Step → Bool
is_importing (step.Import call) = true
is_importing (step.Ropen called call path m) = true
is_importing (step.Rread called count) = true
is_importing (step.Rwrite called text) = true
is_importing (step.Rclose called) = true
is_importing _ = false
