-- What the statuses say, from how a call ends.
use Rattle.std.proofs.Common.{◌≡◌, ℕ, ◌⊎◌, ◌&&◌, Bool, true, false, List, Option, Some, None, if◌then◌else◌, refl, sym, ◌∙◌, ap, subst, inl, inr}
use Rattle.std.specs.Prelude.{bytes_eq, codes}
use Rattle.std.specs.List.{list_all, list_any}
use Rattle.net_base.specs.declared.world.World.{World}
use Rattle.net_base.specs.Net.{after}
use Rattle.net_base.specs.Summary.{end_word}
use Rattle.net_model.specs.Answers.{Answer}
use Rattle.net_model.specs.Calls.{Intake, Output}
use Rattle.net_model.proofs.Shared.{IsGood, Sound}
use Rattle.net_model.proofs.Shared as calls
use Rattle.order_search.specs.Losses.{without}
use Rattle.order_search.specs.declared.tellings.Telling.{Telling}
use Rattle.netexplore.specs.Answers.{IsAnswerOf, IsOutcomesAnswer, asking}
use Rattle.netexplore.specs.Ends.{Causes, Ends}
use Rattle.netexplore.specs.Lines.{is_done, is_stopped, told_status, word_status}
use Rattle.netexplore.specs.Words.{Command, Losses, Lost, Outcomes, Schedule, Witness}

-- words that gave the command
pub words_ended : (asked : Command) (command : Option Command) (status : ℕ) (intake : Intake) (output : Output) → Some asked ≡ command
    → Ends (Some asked) status intake output → Ends command status intake output
words_ended asked command status intake output is ends = subst (λ (k : Option Command). Ends k status intake output) is ends

one_of_three : (a b : Bool) → IsGood (if a then 0 else (if b then 3 else 4))
one_of_three true b = inl refl
one_of_three false true = inr (inl refl)
one_of_three false false = inr (inr (inl refl))

word_good : (word : List ℕ) → IsGood (word_status word)
word_good word = one_of_three (bytes_eq word (codes "done")) (bytes_eq word (codes "stopped"))

one_of_lists : (a b : Bool) → IsGood (if a then 3 else (if b then 0 else 4))
one_of_lists true b = inr (inl refl)
one_of_lists false true = inl refl
one_of_lists false false = inr (inr (inl refl))

told_good : (whole : Bool) (ts : List Telling) → IsGood (told_status whole ts)
told_good whole ts = one_of_lists (list_any (λ (t : Telling). is_stopped t.end) ts) (whole && list_all (λ (t : Telling). is_done t.end) ts)

good_from : (n m : ℕ) → n ≡ m → IsGood m → IsGood n
good_from n m is good = subst IsGood (sym is) good

good_of : (asked : Command) (w : World) (answer : Answer) → IsAnswerOf asked w answer → IsGood answer.status
good_of (Schedule seed) w answer is = good_from answer.status (word_status (end_word w (after w is.history))) is.status (word_good (end_word w (after w is.history)))
good_of (Outcomes span) w answer is = good_from answer.status (told_status is.found.whole is.found.told.items) is.status (told_good is.found.whole is.found.told.items)
good_of (Witness span number) w answer (inl is) = good_from answer.status (word_status (end_word w (after w is.history))) is.status (word_good (end_word w (after w is.history)))
good_of (Witness span number) w answer (inr none) = inr (inr (inr (ap (λ (a : Answer). a.status) none)))
good_of (Losses k span) w answer is = good_from answer.status (told_status is.found.whole is.found.told.items) is.status (told_good is.found.whole is.found.told.items)
good_of (Lost k span number) w answer (inl is) =
    let v = without w is.lost in
    good_from answer.status (word_status (end_word v (after v is.history))) is.status (word_good (end_word v (after v is.history)))
good_of (Lost k span number) w answer (inr none) = inr (inr (inr (ap (λ (a : Answer). a.status) none)))

sound : Sound asking
sound = record {
  good = λ asked input answer good found. good_of asked found.0 answer found.2;
  reads = λ asked input bad is. refl;
}

-- what the statuses say
pub causes_of : (command : Option Command) (status : ℕ) (intake : Intake) (output : Output) → Ends command status intake output → Causes command status intake output
causes_of command status intake output ends = calls.causes_of Command asking sound command status intake output ends
