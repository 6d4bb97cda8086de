-- How the parts of a call make its end.
use Rattle.std.proofs.Common.{◌≡◌, ◌≢◌, ℕ, ◌+◌, ◌<◌, true, List, ◌++◌, length, Option, Some, None, Result, Ok, Err, refl, sym, subst, inr, arith}
use Rattle.std.proofs.lemmas.List.{length-append}
use Rattle.std.specs.Fmt.{digits}
use Rattle.std.specs.Io.KnownBytes.{Consumes}
use Rattle.std.specs.Prelude.{codes}
use Rattle.outside.specs.Streams.{ConsumedToEnd, Rose}
use Rattle.outside.specs.declared.fault.TakeError.{TakeError}
use Rattle.outside.specs.declared.fault.TakeError.TheVariants as error
use Rattle.net_model.specs.Answers.{Answer, bad_input}
use Rattle.net_model.specs.Asking.{Asking}
use Rattle.net_model.specs.Calls.{Intake, IsInput, Output, Told}
use Rattle.net_model.specs.Ends.{Answers, Ends, IsAnswered, IsInputRead, IsTold, Took, TookSome, answered, no_memory, unread}
use Rattle.net_model.proofs.BadLines.{answer_too_long, too_long_is_over}

-- what was taken past a limit begins an input that is over it
input_too_long : (limit : ℕ) (left rest : Option (List ℕ)) (bytes : List ℕ) → Consumes left rest bytes → length bytes ≡ limit + 1
    → (input : List ℕ) × IsInput left input × (limit < length input)
input_too_long limit None rest bytes taken long = (bytes, tt, omega (arith, long))
input_too_long limit (Some left) None bytes taken long = absurd taken
input_too_long limit (Some left) (Some rest) bytes taken long =
    (bytes ++ rest, sym taken, omega (arith, length-append bytes rest, long))

-- what reading gave, where it failed
abbrev pub failing : TakeError → Result (List ℕ) TakeError
failing fault = Err fault

large_is_no_fault : failing error.TooLarge ≡ failing error.Failed → ⊥
large_is_no_fault same = cc

memory_is_no_fault : failing error.Memory ≡ failing error.Failed → ⊥
memory_is_no_fault same = cc

-- the text of an input over the limit
too_long_text : codes "! line 0 cause 9\n" ≡ (bad_input 0 9).text
unfolding digits
too_long_text = refl

-- how what became of a command is told
pub told_too_long : (status : ℕ) (output : Output) → Told (record { status = 2; text = codes "! line 0 cause 9\n" }) status output
    → Told (bad_input 0 9) status output
told_too_long status output told = subst (λ (t : List ℕ). Told (record { status = 2; text = t }) status output) too_long_text told

pub told_so : (fault other : TakeError) → fault ≡ other → (status : ℕ) (output : Output) → IsTold (Err other) status output
    → IsTold (Err fault) status output
told_so fault other is status output told = subst (λ (e : TakeError). IsTold (Err e) status output) (sym is) told

module _ (C : Type 0) (asking : Asking C) (asked : C) (intake : Intake) where
  -- what a command with an input took
  took_input : (input : List ℕ) → asking.reads asked ≡ true → IsInputRead asking asked intake input → Took asking (asking.reads asked) asked intake input
  took_input input has read = rw has read

  -- want of memory of a command with an input
  took_some : asking.reads asked ≡ true → intake.after ≡ intake.before → TookSome (asking.reads asked) intake
  took_some has same = rw has same

  -- an input of which more was taken than the limit
  answers_too_long : asking.reads asked ≡ true → ConsumedToEnd intake.left intake.rest (asking.limit asked) (Err error.TooLarge)
      → intake.after ≡ intake.before → Answers asking asked (bad_input 0 9) intake
  answers_too_long has taken same =
      let input = input_too_long (asking.limit asked) intake.left intake.rest taken.bytes taken.consumed (taken.too_large.0 refl)
      in record {
        input = input.0;
        read = took_input input.0 has (input.1, inr input.2);
        same = same;
        right = answer_too_long C asking asked input.0 (too_long_is_over C asking asked input.0 has input.2);
      }

  -- so the command is answered
  reading_failed : (fault : TakeError) → asking.reads asked ≡ true → ConsumedToEnd intake.left intake.rest (asking.limit asked) (failing fault)
      → (failing fault ≡ failing error.Failed → Rose intake.before intake.after)
      → (failing fault ≢ failing error.Failed → intake.after ≡ intake.before)
      → IsAnswered asking asked intake (Err fault)
  reading_failed error.TooLarge has taken failed same = answers_too_long has taken (same large_is_no_fault)
  reading_failed error.Failed has taken failed same = (has, failed refl)
  reading_failed error.Memory has taken failed same = took_some has (same memory_is_no_fault)

  pub answered_failed : (limit : ℕ) (fault : TakeError) (result : Result Answer TakeError) → limit ≡ asking.limit asked → result ≡ Err fault
      → asking.reads asked ≡ true → ConsumedToEnd intake.left intake.rest limit (failing fault)
      → (failing fault ≡ failing error.Failed → Rose intake.before intake.after)
      → (failing fault ≢ failing error.Failed → intake.after ≡ intake.before)
      → IsAnswered asking asked intake result
  answered_failed limit fault result limit_is is has taken failed same =
      subst (λ (r : Result Answer TakeError). IsAnswered asking asked intake r) (sym is)
      (reading_failed fault has (subst (λ (n : ℕ). ConsumedToEnd intake.left intake.rest n (failing fault)) limit_is taken) failed same)

  -- a call ends so that told what became of its command
  pub ends_told : (became : Result Answer TakeError) (status : ℕ) (output : Output) → IsAnswered asking asked intake became → IsTold became status output
      → Ends asking (Some asked) status intake output
  ends_told (Ok answer) status output is told = answered asked answer refl is told
  ends_told (Err error.TooLarge) status output is told = answered asked (bad_input 0 9) refl is told
  ends_told (Err error.Failed) status output is told = unread asked refl is.0 is.1 told
  ends_told (Err error.Memory) status output is told = no_memory asked refl told.0 is told.1
