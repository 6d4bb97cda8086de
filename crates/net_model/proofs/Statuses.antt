-- What the statuses say, from how a call ends.
use Rattle.std.proofs.Common.{◌≡◌, ◌≢◌, ℕ, ◌⊎◌, Bool, true, false, List, Option, Some, None, unwrap_or, refl, sym, ◌∙◌, ap, subst, inl, inr, arith}
use Rattle.std.proofs.lemmas.Bool.{false≢true}
use Rattle.outside.specs.Streams.{Rose}
use Rattle.net_model.specs.Answers.{Answer, usage, read_fault}
use Rattle.net_model.specs.Asking.{Asking, IsAnswer, IsFirstBad, IsGiven, words_asked}
use Rattle.net_model.specs.Calls.{Intake, IsInput, IsUnread, IsUnwritten, Output, Told}
use Rattle.net_model.specs.Ends.{Answers, Causes, Ends, IsBad, IsHanded, IsInputRead, IsStatusOf, Took, TookAll, TookSome, answered, no_memory, no_row, unread}
use Rattle.net_model.proofs.BadLines.{given_bad, not_too_long, told_of}

-- the status of an answer to a good input: no other end of a call has it
abbrev pub IsGood : ℕ → Type 0
IsGood n = (n ≡ 0) ⊎ (n ≡ 3) ⊎ (n ≡ 4) ⊎ (n ≡ 5)

-- a program whose answers to good inputs have such a status; where a line is bad there is an input
pub record Sound {C : Type 0} (asking : Asking C) : Type 0 where
  pub good : (asked : C) (input : List ℕ) (answer : Answer) → IsFirstBad asking asked input None → asking.IsFound asked input answer → IsGood answer.status
  pub reads : (asked : C) (input : List ℕ) (bad : ℕ × ℕ) → asking.IsBadLine asked input (Some bad) → asking.reads asked ≡ true

some_none : {C : Type 0} (asked : C) → Some asked ≡ None → ⊥
some_none asked h = cc

-- none of these statuses is an answer's
abbrev Apart : ℕ → Type 0
Apart n = (n ≡ 0 → ⊥) × (n ≡ 2 → ⊥) × (n ≡ 3 → ⊥) × (n ≡ 4 → ⊥) × (n ≡ 5 → ⊥)

apart_1 : Apart 1
apart_1 = (λ e. omega (arith, e), λ e. omega (arith, e), λ e. omega (arith, e), λ e. omega (arith, e), λ e. omega (arith, e))

apart_6 : Apart 6
apart_6 = (λ e. omega (arith, e), λ e. omega (arith, e), λ e. omega (arith, e), λ e. omega (arith, e), λ e. omega (arith, e))

apart_7 : Apart 7
apart_7 = (λ e. omega (arith, e), λ e. omega (arith, e), λ e. omega (arith, e), λ e. omega (arith, e), λ e. omega (arith, e))

apart_8 : Apart 8
apart_8 = (λ e. omega (arith, e), λ e. omega (arith, e), λ e. omega (arith, e), λ e. omega (arith, e), λ e. omega (arith, e))

module _ (C : Type 0) (asking : Asking C) (sound : Sound asking) where
  -- a command with a bad line has an input
  pub bad_reads : (asked : C) (input : List ℕ) (bad : ℕ × ℕ) → IsFirstBad asking asked input (Some bad) → asking.reads asked ≡ true
  bad_reads asked input bad is = by (asking.reads asked) refl
    where
      by : (has : Bool) → asking.reads asked ≡ has → asking.reads asked ≡ true
      by true has = has
      by false none = sound.reads asked input bad (told_of C asking asked input false (rw none refl) (Some bad) is)

  -- an answer's status is none of the others
  no_answer : (asked : C) (input : List ℕ) (answer : Answer) (n : ℕ) → IsAnswer asking asked input answer → answer.status ≡ n → Apart n → ⊥
  no_answer asked input answer n is same apart = by is.found is.first is.given
    where
      by_good : IsGood answer.status → ⊥
      by_good (inl zero) = apart.0 (sym same ∙ zero)
      by_good (inr (inl three)) = apart.2 (sym same ∙ three)
      by_good (inr (inr (inl four))) = apart.3 (sym same ∙ four)
      by_good (inr (inr (inr five))) = apart.4 (sym same ∙ five)

      by : (found : Option (ℕ × ℕ)) → IsFirstBad asking asked input found → IsGiven asking found asked input answer → ⊥
      by None good given = by_good (sound.good asked input answer good given)
      by (Some bad) told given = apart.1 (sym same ∙ ap (λ (a : Answer). a.status) given)

  not_of : (asked : C) (answer : Answer) (intake : Intake) (status n : ℕ) → Answers asking asked answer intake → status ≡ answer.status → status ≡ n
      → Apart n → ⊥
  not_of asked answer intake status n answers same is apart = no_answer asked answers.input answer n answers.right (sym same ∙ is) apart

  -- what a command took, by whether it has an input
  read_input : (asked : C) (intake : Intake) (input : List ℕ) → asking.reads asked ≡ true → Took asking (asking.reads asked) asked intake input
      → IsInputRead asking asked intake input
  read_input asked intake input has took = subst (λ (b : Bool). Took asking b asked intake input) has took

  read_nothing : (asked : C) (intake : Intake) (input : List ℕ) → asking.reads asked ≡ false → Took asking (asking.reads asked) asked intake input → IsUnread intake
  read_nothing asked intake input none took = subst (λ (b : Bool). Took asking b asked intake input) none took

  -- a good input was read to its end
  pub took_all : (asked : C) (input : List ℕ) (intake : Intake) → Took asking (asking.reads asked) asked intake input → IsFirstBad asking asked input None
      → TookAll (asking.reads asked) intake input
  took_all asked input intake took good = by (asking.reads asked) refl took
    where
      by : (has : Bool) → asking.reads asked ≡ has → Took asking has asked intake input → TookAll has intake input
      by true has (is, inl end) = (is, end)
      by true has (is, inr long) = absurd (not_too_long C asking asked input has long good)
      by false has none = none

  -- another status than 2 is of a good input, and of what was found in it
  pub good_of : (command : Option C) (intake : Intake) (n : ℕ) → (n ≡ 2 → ⊥) → (of : IsStatusOf asking command n intake)
      → IsFirstBad asking of.asked of.answers.input None × asking.IsFound of.asked of.answers.input of.answer
  good_of command intake n no_two of = by of.answers.right.found of.answers.right.first of.answers.right.given
    where
      by : (found : Option (ℕ × ℕ)) → IsFirstBad asking of.asked of.answers.input found → IsGiven asking found of.asked of.answers.input of.answer
          → IsFirstBad asking of.asked of.answers.input None × asking.IsFound of.asked of.answers.input of.answer
      by None good given = (good, given)
      by (Some bad) told given = absurd (no_two (of.right ∙ ap (λ (a : Answer). a.status) given))

  no_fault : (asked : C) (intake : Intake) → TookSome (asking.reads asked) intake → intake.after ≡ intake.before
  no_fault asked intake took = by (asking.reads asked) took
    where
      by : (has : Bool) → TookSome has intake → intake.after ≡ intake.before
      by true same = same
      by false none = none.1

  module _ (command : Option C) (status : ℕ) (intake : Intake) (output : Output) where
    usage_only : Ends asking command status intake output → status ≡ 1 → command ≡ None
    usage_only (no_row none unread_source told) one = none
    usage_only (answered asked answer is answers (inl t)) one = absurd (not_of asked answer intake status 1 answers t.0 one apart_1)
    usage_only (answered asked answer is answers (inr t)) one = absurd (omega (arith, t.0, one))
    usage_only (unread asked is has rose (inl t)) one = absurd (omega (arith, t.0, one))
    usage_only (unread asked is has rose (inr t)) one = absurd (omega (arith, t.0, one))
    usage_only (no_memory asked is eight took kept) one = absurd (omega (arith, eight, one))

    only_usage : Ends asking command status intake output → command ≡ None → (status ≡ 1) ⊎ (status ≡ 7)
    only_usage (no_row none unread_source (inl t)) is_none = inl t.0
    only_usage (no_row none unread_source (inr t)) is_none = inr t.0
    only_usage (answered asked answer is answers told) is_none = absurd (some_none asked (sym is ∙ is_none))
    only_usage (unread asked is has rose told) is_none = absurd (some_none asked (sym is ∙ is_none))
    only_usage (no_memory asked is eight took kept) is_none = absurd (some_none asked (sym is ∙ is_none))

    -- what was read by a call without an input
    reads_nothing : Ends asking command status intake output → words_asked asking command ≡ false → IsUnread intake
    reads_nothing (no_row none unread_source told) not = unread_source
    reads_nothing (answered asked answer is answers told) not =
        read_nothing asked intake answers.input (ap (words_asked asking) (sym is) ∙ not) answers.read
    reads_nothing (unread asked is has rose told) not = absurd (false≢true (sym not ∙ ap (words_asked asking) is ∙ has))
    reads_nothing (no_memory asked is eight took kept) not =
        subst (λ (b : Bool). TookSome b intake) (ap (words_asked asking) (sym is) ∙ not) took

    only_read_fault : Ends asking command status intake output → status ≡ 6 → (words_asked asking command ≡ true) × Rose intake.before intake.after
    only_read_fault (no_row none unread_source (inl t)) six = absurd (omega (arith, t.0, six))
    only_read_fault (no_row none unread_source (inr t)) six = absurd (omega (arith, t.0, six))
    only_read_fault (answered asked answer is answers (inl t)) six = absurd (not_of asked answer intake status 6 answers t.0 six apart_6)
    only_read_fault (answered asked answer is answers (inr t)) six = absurd (omega (arith, t.0, six))
    only_read_fault (unread asked is has rose told) six = (ap (words_asked asking) is ∙ has, rose)
    only_read_fault (no_memory asked is eight took kept) six = absurd (omega (arith, eight, six))

    only_write_fault : Ends asking command status intake output → status ≡ 7 → Rose output.before output.after
    only_write_fault (no_row none unread_source (inl t)) seven = absurd (omega (arith, t.0, seven))
    only_write_fault (no_row none unread_source (inr t)) seven = t.1
    only_write_fault (answered asked answer is answers (inl t)) seven = absurd (not_of asked answer intake status 7 answers t.0 seven apart_7)
    only_write_fault (answered asked answer is answers (inr t)) seven = t.1
    only_write_fault (unread asked is has rose (inl t)) seven = absurd (omega (arith, t.0, seven))
    only_write_fault (unread asked is has rose (inr t)) seven = t.1
    only_write_fault (no_memory asked is eight took kept) seven = absurd (omega (arith, eight, seven))

    only_memory : Ends asking command status intake output → status ≡ 8 → (intake.after ≡ intake.before) × IsUnwritten output
    only_memory (no_row none unread_source (inl t)) is_eight = absurd (omega (arith, t.0, is_eight))
    only_memory (no_row none unread_source (inr t)) is_eight = absurd (omega (arith, t.0, is_eight))
    only_memory (answered asked answer is answers (inl t)) is_eight = absurd (not_of asked answer intake status 8 answers t.0 is_eight apart_8)
    only_memory (answered asked answer is answers (inr t)) is_eight = absurd (omega (arith, t.0, is_eight))
    only_memory (unread asked is has rose (inl t)) is_eight = absurd (omega (arith, t.0, is_eight))
    only_memory (unread asked is has rose (inr t)) is_eight = absurd (omega (arith, t.0, is_eight))
    only_memory (no_memory asked is eight took kept) is_eight = (no_fault asked intake took, kept)

    -- a count that rose was told
    told_read_fault : Ends asking command status intake output → intake.after ≢ intake.before → (status ≡ 6) ⊎ (status ≡ 7)
    told_read_fault (no_row none unread_source told) rose = absurd (rose unread_source.1)
    told_read_fault (answered asked answer is answers told) rose = absurd (rose answers.same)
    told_read_fault (unread asked is has rising (inl t)) rose = inl t.0
    told_read_fault (unread asked is has rising (inr t)) rose = inr t.0
    told_read_fault (no_memory asked is eight took kept) rose = absurd (rose (no_fault asked intake took))

    told_in : (answer : Answer) → Told answer status output → output.after ≢ output.before → status ≡ 7
    told_in answer (inl t) rose = absurd (rose t.2)
    told_in answer (inr t) rose = t.0

    told_write_fault : Ends asking command status intake output → output.after ≢ output.before → status ≡ 7
    told_write_fault (no_row none unread_source told) rose = told_in usage told rose
    told_write_fault (answered asked answer is answers told) rose = told_in answer told rose
    told_write_fault (unread asked is has rising told) rose = told_in read_fault told rose
    told_write_fault (no_memory asked is eight took kept) rose = absurd (rose kept.1)

    -- a status that only answers have
    pub status_of : (n : ℕ) → Ends asking command status intake output → status ≡ n → (n ≡ 1 → ⊥) → (n ≡ 6 → ⊥) → (n ≡ 7 → ⊥) → (n ≡ 8 → ⊥)
        → IsStatusOf asking command n intake
    status_of n (no_row none unread_source (inl t)) is_n no_one no_six no_seven no_eight = absurd (no_one (sym is_n ∙ t.0))
    status_of n (no_row none unread_source (inr t)) is_n no_one no_six no_seven no_eight = absurd (no_seven (sym is_n ∙ t.0))
    status_of n (answered asked answer is answers (inl t)) is_n no_one no_six no_seven no_eight =
        record { asked = asked; answer = answer; is_asked = is; answers = answers; right = sym is_n ∙ t.0 }
    status_of n (answered asked answer is answers (inr t)) is_n no_one no_six no_seven no_eight = absurd (no_seven (sym is_n ∙ t.0))
    status_of n (unread asked is has rose (inl t)) is_n no_one no_six no_seven no_eight = absurd (no_six (sym is_n ∙ t.0))
    status_of n (unread asked is has rose (inr t)) is_n no_one no_six no_seven no_eight = absurd (no_seven (sym is_n ∙ t.0))
    status_of n (no_memory asked is eight took kept) is_n no_one no_six no_seven no_eight = absurd (no_eight (sym is_n ∙ eight))

    bad_of : IsStatusOf asking command 2 intake → IsBad asking command intake
    bad_of of = by of.answers.right.found of.answers.right.first of.answers.right.given
      where
        by : (found : Option (ℕ × ℕ)) → IsFirstBad asking of.asked of.answers.input found → IsGiven asking found of.asked of.answers.input of.answer
            → IsBad asking command intake
        by (Some bad) told given = record {
          asked = of.asked;
          input = of.answers.input;
          bad = bad;
          is_asked = of.is_asked;
          read = read_input of.asked intake of.answers.input (bad_reads of.asked of.answers.input bad told) of.answers.read;
          is_bad = told;
        }
        by None good given = elim (sound.good of.asked of.answers.input of.answer good given) [
          | inl e ↦ absurd (omega (arith, of.right, e))
          | inr (inl e) ↦ absurd (omega (arith, of.right, e))
          | inr (inr (inl e)) ↦ absurd (omega (arith, of.right, e))
          | inr (inr (inr e)) ↦ absurd (omega (arith, of.right, e))
        ]

    pub complete : Ends asking command status intake output → ¬ Rose intake.before intake.after → ¬ Rose output.before output.after → command ≢ None
        → (status ≡ 8) ⊎ IsStatusOf asking command status intake
    complete (no_row none unread_source told) no_read no_write some = absurd (some none)
    complete (answered asked answer is answers (inl t)) no_read no_write some =
        inr (record { asked = asked; answer = answer; is_asked = is; answers = answers; right = t.0 })
    complete (answered asked answer is answers (inr t)) no_read no_write some = absurd (no_write t.1)
    complete (unread asked is has rose told) no_read no_write some = absurd (no_read rose)
    complete (no_memory asked is eight took kept) no_read no_write some = inl eight

    -- words give one command
    pub same_command : (asked other : C) → command ≡ Some asked → command ≡ Some other → other ≡ asked
    same_command asked other one two = ap (λ (o : Option C). unwrap_or o other) (sym two ∙ one)

    -- an answer that a call without a fault gave is to what the source had left, or memory ran out
    pub told_input : Ends asking command status intake output → ¬ Rose intake.before intake.after → ¬ Rose output.before output.after
        → (asked : C) (input : List ℕ) → asking.reads asked ≡ true → command ≡ Some asked → intake.left ≡ Some input
        → (status ≡ 8) ⊎ ((answer : Answer) × IsAnswer asking asked input answer × (status ≡ answer.status))
    told_input ends no_read no_write asked input has is left = elim (complete ends no_read no_write (λ none. some_none asked (sym is ∙ none))) [
      | inl eight ↦ inl eight
      | inr of ↦ inr (of.answer, answers_it of, of.right)
    ]
      where
        answers_it : (of : IsStatusOf asking command status intake) → IsAnswer asking asked input of.answer
        answers_it of =
            let same = same_command asked of.asked is of.is_asked in
            let read = read_input of.asked intake of.answers.input (ap asking.reads same ∙ has) of.answers.read in
            let same_input : of.answers.input ≡ input = subst (λ (o : Option (List ℕ)). IsInput o of.answers.input) left read.0 in
            subst (λ (c : C). IsAnswer asking c input of.answer) same
            (subst (λ (i : List ℕ). IsAnswer asking of.asked i of.answer) same_input of.answers.right)

    -- .. where no line of it is bad
    pub told_good : Ends asking command status intake output → (asked : C) (input : List ℕ) → asking.reads asked ≡ true
        → IsHanded asking command asked intake output input
        → (status ≡ 8) ⊎ ((answer : Answer) × IsAnswer asking asked input answer × (status ≡ answer.status))
    told_good ends asked input has is = told_input ends is.no_read_fault is.no_write_fault asked input has is.is_asked is.left

    tells_bad : Ends asking command status intake output → ¬ Rose intake.before intake.after → ¬ Rose output.before output.after
        → (asked : C) (input : List ℕ) (bad : ℕ × ℕ)
        → command ≡ Some asked → intake.left ≡ Some input → IsFirstBad asking asked input (Some bad) → (status ≡ 2) ⊎ (status ≡ 8)
    tells_bad ends no_read no_write asked input bad is left told =
        elim (told_input ends no_read no_write asked input (bad_reads asked input bad told) is left) [
          | inl eight ↦ inr eight
          | inr (answer, right, same) ↦ inl (same ∙ given_bad C asking asked input answer bad right told)
        ]

    -- what the statuses say
    pub causes_of : Ends asking command status intake output → Causes asking command status intake output
    causes_of ends = record {
      usage_only = usage_only ends;
      no_row = only_usage ends;
      bad_input = λ is. bad_of (status_of 2 ends is (λ e. omega (arith, e)) (λ e. omega (arith, e)) (λ e. omega (arith, e)) (λ e. omega (arith, e)));
      reads_nothing = reads_nothing ends;
      read_fault = only_read_fault ends;
      write_fault = only_write_fault ends;
      memory = only_memory ends;
      read_faults = told_read_fault ends;
      write_faults = told_write_fault ends;
      answered = status_of status ends refl;
      complete = complete ends;
      tells_bad = tells_bad ends;
    }
