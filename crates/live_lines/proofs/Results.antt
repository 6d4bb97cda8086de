-- The results of the reader, part by part.
use Rattle.std.proofs.Common.{◌≡◌, ℕ, ◌<◌, true, false, List, [], ◌∷◌, length, refl, sym, ap, ◌∙◌, subst, arith, Option, Some, None, Ok, Err}
use Rattle.std.specs.Prelude.{Result}
use Rattle.net_base.specs.declared.world.Step.{Step}
use Rattle.net_base.proofs.Shared.{some_part}
use Rattle.world_text.specs.LineReading as line
use Rattle.world_text.specs.LineReading.{step_in_line, step_read, words_line}
use Rattle.world_text.specs.WorldWords.{words_in_line}
use Rattle.world_text.specs.declared.line.LineCause.{LineCause}
use Rattle.world_text.specs.declared.line.WorldLine.{WorldLine}
use Rattle.world_words.specs.declared.fault.LineFault.{LineFault}
use Rattle.world_words.specs.Told.{Tells}
use Rattle.live_lines.specs.declared.action.Action.{Action}
use Rattle.live_lines.specs.declared.cause.LiveCause.{LiveCause}
use Rattle.live_lines.specs.declared.cause.LiveCause.TheVariants as cause
use Rattle.live_lines.specs.declared.cause.LiveFault.{LiveFault}
use Rattle.live_lines.specs.declared.cause.LiveFault.TheVariants as fault
use Rattle.live_lines.specs.declared.line.LiveLine.{LiveLine}
use Rattle.live_lines.specs.LiveLines.{alone, deadlined, is_world_word, live_cause, placed, script_result, some_line, step_of, step_result, stepped}
use Rattle.live_lines.specs.Results.{TellsAs}
use Rattle.live_lines.proofs.Steps.{line_is_step, no_step}

-- A fault of a part is the fault of the whole.

pub some_err : (e : LiveFault) (read : Result LiveLine LiveCause) → TellsAs (Err e) read → TellsAs (Err e) (some_line read)
some_err fault.Memory read is = tt
some_err (fault.Cause c) read is = ap some_line is

pub placed_err : (e : LiveFault) (read : Result Action LiveCause) (p : Option ℕ) → TellsAs (Err e) read → TellsAs (Err e) (placed read p)
placed_err fault.Memory read p is = tt
placed_err (fault.Cause c) read p is = ap (λ (r : Result Action LiveCause). placed r p) is

pub placed_ok : (result : Result LiveLine LiveFault) (read : Result Action LiveCause) (a : Action) (p : Option ℕ) → read ≡ Ok a → TellsAs result (placed (Ok a) p) → TellsAs result (placed read p)
placed_ok result read a p e is = subst (λ (r : Result Action LiveCause). TellsAs result (placed r p)) (sym e) is

pub stepped_err : (e : LiveFault) (read : Result Step LiveCause) → TellsAs (Err e) read → TellsAs (Err e) (stepped read)
stepped_err fault.Memory read is = tt
stepped_err (fault.Cause c) read is = ap stepped is

pub deadlined_err : (e : LiveFault) (read : Result Step LiveCause) (m : Option ℕ) → TellsAs (Err e) read → TellsAs (Err e) (deadlined read m)
deadlined_err fault.Memory read m is = tt
deadlined_err (fault.Cause c) read m is = ap (λ (r : Result Step LiveCause). deadlined r m) is

-- A word follows.

alone-by : (words : List (List ℕ)) (a : Action) → 0 < length words → alone words a ≡ Err cause.WrongArgument
alone-by [] a some = absurd (omega (arith, some))
alone-by (word ∷ words) a some = refl

pub alone_not : (text : List ℕ) (a : Action) → alone (words_in_line text) a ≡ Err cause.WrongArgument
alone_not text a = alone-by (words_in_line text) a (some_part 32 text)

-- Step lines.

pub no_step_of : (words : List (List ℕ)) (word : List ℕ) (args : List (List ℕ)) → words ≡ word ∷ args → is_world_word word ≡ true → step_of words ≡ Err cause.UnknownWord
no_step_of words word args are is = ap step_of are ∙ ap step_result (no_step args word is)

line-read : (text word : List ℕ) (args : List (List ℕ)) → words_in_line text ≡ word ∷ args → is_world_word word ≡ false → line.read_line text ≡ step_read (step_in_line word args)
line-read text word args are is = ap words_line are ∙ line_is_step args word is

pub tells_step : (result : Result WorldLine LineFault) (text word : List ℕ) (args : List (List ℕ)) → words_in_line text ≡ word ∷ args → is_world_word word ≡ false
    → Tells result (line.read_line text) → Tells result (step_read (step_in_line word args))
tells_step result text word args are is tells = subst (λ (r : Result WorldLine LineCause). Tells result r) (line-read text word args are is) tells

pub step_of_line : (result : Result Step LiveFault) (text word : List ℕ) (args : List (List ℕ)) → words_in_line text ≡ word ∷ args → TellsAs result (step_result (step_in_line word args)) → TellsAs result (step_of (words_in_line text))
step_of_line result text word args are is = subst (λ (ws : List (List ℕ)). TellsAs result (step_of ws)) (sym are) is

abbrev script_of_read : Result WorldLine LineCause → Result Step LiveCause
script_of_read (Err c) = Err (live_cause c)
script_of_read (Ok l) = script_result l

-- the step of a line, or its cause
same-step : (step : Option (Option Step)) → script_of_read (step_read step) ≡ step_result step
same-step None = refl
same-step (Some None) = refl
same-step (Some (Some s)) = refl

pub told_line : (result : Result Step LiveFault) (l : WorldLine) (step : Option (Option Step)) → step_read step ≡ Ok l → TellsAs result (script_result l) → TellsAs result (step_result step)
told_line result l step e is = subst (λ (r : Result Step LiveCause). TellsAs result r) (ap script_of_read (sym e) ∙ same-step step) is

pub told_cause : (c : LineCause) (step : Option (Option Step)) → step_read step ≡ Err c → step_result step ≡ Err (live_cause c)
told_cause c step e = sym (same-step step) ∙ ap script_of_read e
