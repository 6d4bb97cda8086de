-- What check answers to what is printed of a history.
use Rattle.std.proofs.Common.{◌≡◌, ℕ, ◌<◌, ◌≤◌, ◌^◌, ◌↔◌, Bool, List, [], ◌∷◌, ◌++◌, length, length-append, Option, Some, None, Result, Ok, refl, sym, ap, subst, ◌∙◌, arith}
use Rattle.std.specs.Prelude.{codes}
use Rattle.net_base.specs.declared.history.Entry.{Entry}
use Rattle.net_base.specs.declared.world.World.{World}
use Rattle.net_base.specs.Legal.{IsLegal, IsTimed}
use Rattle.net_base.specs.Plain.{IsPlain}
use Rattle.net_base.specs.Summary.{summary}
use Rattle.net_base.specs.Transcript.{history_text}
use Rattle.net_base.specs.World.{IsWorld}
use Rattle.history_reader.specs.Wide.{IsWide}
use Rattle.world_text.specs.WorldSpelling.{IsWorldText}
use Rattle.world_text.specs.WorldText.{world_reading}
use Rattle.net_model.specs.Answers.{Answer, all_kept, input_limit}
use Rattle.net_model.specs.Words.{Command, Check, Run}
use Rattle.net_model.specs.Asking.{IsBadOf}
use Rattle.net_model.proofs.Shared.{given_good, within_limit}
use Rattle.netcheck.specs.Input.{bad_world, with_printed}
use Rattle.netcheck.specs.Told.{HandsIn}
use Rattle.netsh.specs.Built.{asking, IsAnswer, IsBadLine, IsFirstBad, IsJudged, IsRunAnswer}
use Rattle.netsh.specs.Checked.{IsChecked}
use Rattle.netsh.proofs.Judging.{all_hold, judges}

-- The calls that are made.

abbrev pub ArePlain : Type 0
ArePlain = (w : World) → IsWorld w → (h : List Entry) → IsLegal w h → IsPlain h

abbrev pub AreHandedIn : Type 0
AreHandedIn =
    (w : World) (h : List Entry) (text : List ℕ) → IsWorldText (text ++ 10 ∷ []) w → IsWide h → IsPlain h
    → length (history_text h ++ summary w h) < 2 ^ 64
    → HandsIn (with_printed (text ++ 10 ∷ []) (history_text h ++ summary w h)) w h (Some (summary w h))

abbrev pub IsRead : Type 0
IsRead = (text : List ℕ) (w : World) → IsWorldText text w → world_reading text ≡ Ok w

-- The answer.

-- what is told of an input within the limit
told_within : (asked : Command) (input : List ℕ) (found : Option (ℕ × ℕ)) → length input ≤ input_limit asked → IsBadLine asked input found
    → IsFirstBad asked input found
told_within asked input found fits told = subst (λ (over : Bool). IsBadOf asking over asked input found) (sym (within_limit _ asking asked input fits)) told

module _ (input : List ℕ) (w : World) (h : List Entry) (fits : length input ≤ input_limit Check) (hands : HandsIn input w h (Some (summary w h)))
    (legal : IsLegal w h) (timed : IsTimed w h) where
  is_accepted : IsAnswer Check input (all_kept (length h))
  is_accepted = judges input (all_kept (length h)) fits w h (Some (summary w h)) hands (all_hold w h (Some (summary w h)) (all_kept (length h)) legal timed refl refl)

  good : IsFirstBad Check input None
  good = told_within Check input None fits hands.good.is

  only_accepted : (answer : Answer) → IsAnswer Check input answer → answer ≡ all_kept (length h)
  only_accepted answer is =
      let judged : IsJudged input answer = given_good _ asking Check input answer is good in
      let same = hands.only hands.handed in
      let checked : IsChecked w h (Some (summary w h)) answer =
      subst (λ (v : World). IsChecked v h (Some (summary w h)) answer) same.0
      (subst (λ (k : List Entry). IsChecked hands.handed.world k (Some (summary w h)) answer) same.1
      (subst (λ (s : Option (List ℕ)). IsChecked hands.handed.world hands.handed.history s answer) same.2 (judged hands.handed))) in
      checked.kept (record { legal = legal; timed = timed; own = refl })

  pub answers_ok : (answer : Answer) → IsAnswer Check input answer ↔ (answer ≡ all_kept (length h))
  answers_ok answer = (only_accepted answer, λ is. subst (IsAnswer Check input) (sym is) is_accepted)

-- so much stands behind the world
short : (world printed : List ℕ) → length (with_printed world printed) ≤ input_limit Check → length printed < 2 ^ 64
short world printed fits =
    let most : length (with_printed world printed) ≤ 67108864 = fits in
    omega (arith, most, length-append world (codes "%history\n" ++ printed), length-append (codes "%history\n") printed)

pub accepted : ArePlain → AreHandedIn → (h : List Entry) → IsWide h → (w : World) (text : List ℕ) (answer : Answer) → IsWorldText (text ++ 10 ∷ []) w
    → IsLegal w h → IsTimed w h → length (with_printed (text ++ 10 ∷ []) (history_text h ++ summary w h)) ≤ input_limit Check
    → IsAnswer Check (with_printed (text ++ 10 ∷ []) (history_text h ++ summary w h)) answer ↔ (answer ≡ all_kept (length h))
accepted plain handed h wide w text answer says legal timed fits =
    let printed = history_text h ++ summary w h in
    answers_ok (with_printed (text ++ 10 ∷ []) printed) w h fits
    (handed w h text says wide (plain w says.world h legal) (short (text ++ 10 ∷ []) printed fits)) legal timed answer

-- What run prints.

same_ok : (v w : World) → (◌≡◌ {A = Result World (ℕ × ℕ)} (Ok v) (Ok w)) → v ≡ w
same_ok v w e = cc

run_good : (workers : ℕ) (input : List ℕ) (w : World) → length input ≤ input_limit (Run workers) → world_reading input ≡ Ok w → IsFirstBad (Run workers) input None
run_good workers input w fits is = told_within (Run workers) input None fits (sym (ap bad_world is))

pub run_accepted : ArePlain → AreHandedIn → IsRead → (workers : ℕ) (text : List ℕ) (w : World) (printed : Answer) → IsWorldText (text ++ 10 ∷ []) w
    → length (text ++ 10 ∷ []) ≤ input_limit (Run workers) → IsAnswer (Run workers) (text ++ 10 ∷ []) printed
    → length (with_printed (text ++ 10 ∷ []) printed.text) ≤ input_limit Check
    → (h : List Entry) × (printed.text ≡ history_text h ++ summary w h)
    × ((answer : Answer) → IsAnswer Check (with_printed (text ++ 10 ∷ []) printed.text) answer ↔ (answer ≡ all_kept (length h)))
run_accepted plain handed read workers text w printed says limit ran fits =
    let is = read (text ++ 10 ∷ []) w says in
    let found = given_good _ asking (Run workers) (text ++ 10 ∷ []) printed ran (run_good workers (text ++ 10 ∷ []) w limit is) in
    let same : found.0 ≡ w = same_ok found.0 w (sym found.1 ∙ is) in
    let run : IsRunAnswer w printed = subst (λ (v : World). IsRunAnswer v printed) same found.2 in (
      run.history,
      run.text,
      subst
          (λ (t : List ℕ). (answer : Answer) → IsAnswer Check (with_printed (text ++ 10 ∷ []) t) answer ↔ (answer ≡ all_kept (length run.history)))
          (sym run.text)
          (λ answer. accepted plain handed run.history run.wide w text answer says run.legal run.timed
          (subst (λ (t : List ℕ). length (with_printed (text ++ 10 ∷ []) t) ≤ input_limit Check) run.text fits)),
    )
