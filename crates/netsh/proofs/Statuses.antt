-- What the statuses say, from how a call ends.
use Rattle.std.proofs.Common.{◌≡◌, ℕ, ◌⊎◌, Bool, true, false, List, [], ◌∷◌, Option, Some, None, refl, sym, ◌∙◌, ap, subst, inl, inr, arith}
use Rattle.std.specs.Io.KnownBytes.{IsAtEnd}
use Rattle.outside.specs.Streams.{Rose}
use Rattle.net_base.specs.declared.history.Entry.{Entry}
use Rattle.net_base.specs.declared.world.World.{World}
use Rattle.net_model.specs.Answers.{Answer, lines_answer, cs_answer}
use Rattle.net_base.specs.Calm as calm
use Rattle.net_base.specs.Cs.{CsAnswer, Lines, Refused}
use Rattle.net_base.specs.Legal.{IsLegal, IsTimed}
use Rattle.net_base.specs.Net.{Net, after}
use Rattle.net_model.specs.Words.{Command, Cs, Query, Dns, Run, Make, Big, Check, Export, Translate, may_wait, reads_input, words_read, words_wait}
use Rattle.netsh.specs.Built.{asking, made, IsBadLine, IsStatus, IsWorldOf, IsFound, IsFirstBad, IsAnswer}
use Rattle.netcheck.specs.Input.{Handed}
use Rattle.netsh.specs.Checked.{BreaksOne, IsChecked, KeepsAll}
use Rattle.net_model.specs.Asking.{IsGiven}
use Rattle.net_model.specs.Calls.{Intake, Output}
use Rattle.net_model.specs.Ends.{Answers, TookAll, no_row, answered, unread, no_memory}
use Rattle.net_model.proofs.Shared.{given_good, IsGood, Sound}
use Rattle.net_model.proofs.Shared as calls
use Rattle.netsh.specs.Ends.{IsStatusOf, IsHanded, HasChecked, HasGood, HasRun, Ends, EndsIll, EndsWell, Causes}
use Rattle.std.proofs.lemmas.Bool.{false≢true}
use Rattle.netsh.proofs.Checks.{broken_so, checked_0, checked_5, handed_in, judges, kept_so}

some_none : (asked : Command) → Some asked ≡ None → ⊥
some_none asked h = cc

some_not_none : (bad : ℕ × ℕ) → Some bad ≡ None → ⊥
some_not_none bad h = cc

-- whether the command that words gave may wait
asked_waits : (command : Option Command) (asked : Command) (b : Bool) → command ≡ Some asked → words_wait command ≡ b → may_wait asked ≡ b
asked_waits command asked b is waits = ap words_wait (sym is) ∙ waits

no_wait : (asked : Command) → may_wait asked ≡ false → may_wait asked ≡ true → ⊥
no_wait asked not waits = false≢true (sym not ∙ waits)

-- a run over the world of the command ended so
pub record Ran (asked : Command) (input : List ℕ) (answer : Answer) : Type 0 where
  pub world : World
  pub history : List Entry
  pub is_world : IsWorldOf asked input world
  pub legal : IsLegal world history
  pub timed : IsTimed world history
  pub status : IsStatus world (after world history) answer.status

-- what the status of an answer to a good input says of the command
pub data Of (asked : Command) (input : List ℕ) (answer : Answer) : Type 0 where
  of_lines : answer.status ≡ 0 → may_wait asked ≡ false → Of asked input answer
  of_refusal : answer.status ≡ 5 → may_wait asked ≡ false → Of asked input answer
  of_run : Ran asked input answer → Of asked input answer

of_cs : (sys query input : List ℕ) (answer : Answer) (found : CsAnswer) → answer ≡ cs_answer found → Of (Cs sys query) input answer
of_cs sys query input answer (Lines lines) is = of_lines (ap (λ (a : Answer). a.status) is) refl
of_cs sys query input answer (Refused number) is = of_refusal (ap (λ (a : Answer). a.status) is) refl

of_found_lines : (asked : Command) (input : List ℕ) (answer : Answer) (lines : List (List ℕ)) → may_wait asked ≡ false → answer ≡ lines_answer lines
    → Of asked input answer
of_found_lines asked input answer [] not is = of_refusal (ap (λ (a : Answer). a.status) is) not
of_found_lines asked input answer (line ∷ lines) not is = of_lines (ap (λ (a : Answer). a.status) is) not

made_status : (messages : ℕ) (answer : Answer) → answer ≡ made messages → answer.status ≡ 0
unfolding made
made_status messages answer is = ap (λ (a : Answer). a.status) is

of_found : (asked : Command) (input : List ℕ) (answer : Answer) → IsFirstBad asked input None → IsFound asked input answer → Of asked input answer
of_found (Cs sys query) input answer good found = of_cs sys query input answer _ found
of_found (Query attr value other) input answer good found = of_found_lines (Query attr value other) input answer _ refl found
of_found (Dns word) input answer good found = of_found_lines (Dns word) input answer _ refl found
of_found (Run workers) input answer good found =
    of_run (record {
      world = found.0;
      history = found.2.history;
      is_world = found.1;
      legal = found.2.legal;
      timed = found.2.timed;
      status = found.2.status;
    })
of_found (Make messages) input answer good found = of_lines (made_status messages answer found) refl
of_found (Big messages) input answer good found =
    of_run (record {
      world = found.0;
      history = found.2.history;
      is_world = found.1;
      legal = found.2.legal;
      timed = found.2.timed;
      status = found.2.status;
    })
of_found (Export workers) input answer good found =
    of_run (record {
      world = found.2;
      history = found.4.history;
      is_world = (found.0, found.1, found.3);
      legal = found.4.legal;
      timed = found.4.timed;
      status = found.4.status;
    })
of_found Translate input answer good found = of_lines (ap (λ (a : Answer). a.status) found.4) refl
of_found Check input answer good found = of_checked (handed_in input good) (found (handed_in input good))
  where
    of_checked : (handed : Handed input) → IsChecked handed.world handed.history handed.told answer → Of Check input answer
    of_checked handed checked = elim checked.judged [
      | inl keeps ↦ of_lines (ap (λ (a : Answer). a.status) (checked.kept keeps)) refl
      | inr (stamp, rule, broken) ↦ of_refusal (ap (λ (a : Answer). a.status) (checked.broken stamp rule broken)) refl
    ]

-- How a command ends.

cs_well : (answer : Answer) (found : CsAnswer) → answer ≡ cs_answer found → (answer.status ≡ 0) ⊎ (answer.status ≡ 5)
cs_well answer (Lines lines) is = inl (ap (λ (a : Answer). a.status) is)
cs_well answer (Refused number) is = inr (ap (λ (a : Answer). a.status) is)

query_well : (answer : Answer) (lines : List (List ℕ)) → answer ≡ lines_answer lines → (answer.status ≡ 0) ⊎ (answer.status ≡ 5)
query_well answer [] is = inr (ap (λ (a : Answer). a.status) is)
query_well answer (line ∷ lines) is = inl (ap (λ (a : Answer). a.status) is)

check_well : (w : World) (h : List Entry) (told : Option (List ℕ)) (answer : Answer) → IsChecked w h told answer → (answer.status ≡ 0) ⊎ (answer.status ≡ 5)
check_well w h told answer checked = elim checked.judged [
  | inl keeps ↦ inl (ap (λ (a : Answer). a.status) (checked.kept keeps))
  | inr (stamp, rule, broken) ↦ inr (ap (λ (a : Answer). a.status) (checked.broken stamp rule broken))
]

-- with what is found in a good input
found_well : (asked : Command) (input : List ℕ) (answer : Answer) → IsFirstBad asked input None → IsFound asked input answer → EndsWell asked answer.status
found_well (Cs sys query) input answer good found = cs_well answer _ found
found_well (Query attr value other) input answer good found = query_well answer _ found
found_well (Dns word) input answer good found = query_well answer _ found
found_well (Run workers) input answer good found = found.2.status.ended
found_well (Make messages) input answer good found = made_status messages answer found
found_well (Big messages) input answer good found = found.2.status.ended
found_well (Export workers) input answer good found = found.4.status.ended
found_well Translate input answer good found = ap (λ (a : Answer). a.status) found.4
found_well Check input answer good found =
    let handed = handed_in input good in check_well handed.world handed.history handed.told answer (found handed)

two_ill : (has : Bool) (n : ℕ) → has ≡ true → n ≡ 2 → EndsIll has n
two_ill true n is two = inl two
two_ill false n is two = absurd (false≢true is)

six_ill : (has : Bool) (n : ℕ) → has ≡ true → n ≡ 6 → EndsIll has n
six_ill true n is six = inr (inl six)
six_ill false n is six = absurd (false≢true is)

seven_ill : (has : Bool) (n : ℕ) → n ≡ 7 → EndsIll has n
seven_ill true n seven = inr (inr (inl seven))
seven_ill false n seven = inl seven

eight_ill : (has : Bool) (n : ℕ) → n ≡ 8 → EndsIll has n
eight_ill true n eight = inr (inr (inr eight))
eight_ill false n eight = inr eight

-- a command with a bad line has an input
bad_reads : (asked : Command) (input : List ℕ) (bad : ℕ × ℕ) → IsBadLine asked input (Some bad) → reads_input asked ≡ true
bad_reads (Cs sys query) input bad is = refl
bad_reads (Query attr value other) input bad is = refl
bad_reads (Dns word) input bad is = refl
bad_reads (Run workers) input bad is = refl
bad_reads (Make messages) input bad is = absurd (some_not_none bad is)
bad_reads (Big messages) input bad is = absurd (some_not_none bad is)
bad_reads (Export workers) input bad is = refl
bad_reads Translate input bad is = refl
bad_reads Check input bad is = refl

-- an answer to a good input has a status of its own
of_good : (asked : Command) (input : List ℕ) (answer : Answer) → Of asked input answer → IsGood answer.status
of_good asked input answer (of_lines zero not) = inl zero
of_good asked input answer (of_refusal five not) = inr (inr (inr five))
of_good asked input answer (of_run ran) = elim ran.status.ended [
  | inl zero ↦ inl zero
  | inr (inl three) ↦ inr (inl three)
  | inr (inr four) ↦ inr (inr (inl four))
]

sound : Sound asking
sound = record {
  good = λ asked input answer good found. of_good asked input answer (of_found asked input answer good found);
  reads = bad_reads;
}

-- an answer ends well, or with its first bad line
given_ends : (asked : Command) (input : List ℕ) (answer : Answer) (bad : Option (ℕ × ℕ)) → IsFirstBad asked input bad → IsGiven asking bad asked input answer
    → EndsWell asked answer.status ⊎ EndsIll (reads_input asked) answer.status
given_ends asked input answer None is given = inl (found_well asked input answer is given)
given_ends asked input answer (Some bad) is given =
    inr (two_ill (reads_input asked) answer.status (calls.bad_reads Command asking sound asked input bad is) (ap (λ (a : Answer). a.status) given))

-- without an input it ends well
unread_well : (asked : Command) (input : List ℕ) (answer : Answer) → reads_input asked ≡ false → IsAnswer asked input answer → EndsWell asked answer.status
unread_well asked input answer none is = by is.found is.first is.given
  where
    by : (bad : Option (ℕ × ℕ)) → IsFirstBad asked input bad → IsGiven asking bad asked input answer → EndsWell asked answer.status
    by None good given = found_well asked input answer good given
    by (Some bad) told given = absurd (false≢true (sym none ∙ calls.bad_reads Command asking sound asked input bad told))

-- What the status of an answer says.

module _ (command : Option Command) (intake : Intake) where
  -- what was found in a good input
  it_of : (n : ℕ) → (n ≡ 2 → ⊥) → (of : IsStatusOf command n intake) → Of of.asked of.answers.input of.answer
  it_of n no_two of =
      let good = calls.good_of Command asking sound command intake n no_two of in of_found of.asked of.answers.input of.answer good.0 good.1

  took_all : (n : ℕ) → (n ≡ 2 → ⊥) → (of : IsStatusOf command n intake) → TookAll (reads_input of.asked) intake of.answers.input
  took_all n no_two of =
      calls.took_all Command asking sound of.asked of.answers.input intake of.answers.read (calls.good_of Command asking sound command intake n no_two of).0

  -- another status than 2 is of a whole input, where the command has one
  end_of : (n : ℕ) → (n ≡ 2 → ⊥) → words_read command ≡ true → IsStatusOf command n intake → IsAtEnd intake.rest
  end_of n no_two has of =
      let took : TookAll true intake of.answers.input =
      subst (λ (b : Bool). TookAll b intake of.answers.input) (ap words_read (sym of.is_asked) ∙ has) (took_all n no_two of)
      in took.1

  ran_of : (so : World → Net → Bool) (n : ℕ) → (n ≡ 2 → ⊥) → (of : IsStatusOf command n intake) (ran : Ran of.asked of.answers.input of.answer)
      → so ran.world (after ran.world ran.history) ≡ true → HasRun command so intake
  ran_of so n no_two of ran right = record {
    asked = of.asked;
    input = of.answers.input;
    world = ran.world;
    history = ran.history;
    is_asked = of.is_asked;
    took = took_all n no_two of;
    is_world = ran.is_world;
    legal = ran.legal;
    timed = ran.timed;
    right = right;
  }

  stopped_of : (of : IsStatusOf command 3 intake) → Of of.asked of.answers.input of.answer → HasRun command calm.stopped intake
  stopped_of of (of_lines zero not) = absurd (omega (arith, of.right, zero))
  stopped_of of (of_refusal five not) = absurd (omega (arith, of.right, five))
  stopped_of of (of_run ran) = ran_of calm.stopped 3 (λ e. omega (arith, e)) of ran (ran.status.stopped.0 (sym of.right))

  limited_of : (of : IsStatusOf command 4 intake) → Of of.asked of.answers.input of.answer → HasRun command calm.limited intake
  limited_of of (of_lines zero not) = absurd (omega (arith, of.right, zero))
  limited_of of (of_refusal five not) = absurd (omega (arith, of.right, five))
  limited_of of (of_run ran) = ran_of calm.limited 4 (λ e. omega (arith, e)) of ran (ran.status.limited.0 (sym of.right))

  done_of : words_wait command ≡ true → (of : IsStatusOf command 0 intake) → Of of.asked of.answers.input of.answer → HasRun command calm.done intake
  done_of waits of (of_lines zero not) = absurd (no_wait of.asked not (asked_waits command of.asked true of.is_asked waits))
  done_of waits of (of_refusal five not) = absurd (omega (arith, of.right, five))
  done_of waits of (of_run ran) = ran_of calm.done 0 (λ e. omega (arith, e)) of ran (ran.status.done.0 (sym of.right))

module _ (command : Option Command) (status : ℕ) (intake : Intake) (output : Output) (ends : Ends command status intake output) where
  -- how a call with a command ends
  each : (asked : Command) → command ≡ Some asked → Ends command status intake output → EndsWell asked status ⊎ EndsIll (reads_input asked) status
  each asked is (no_row none unread_source told) = absurd (some_none asked (sym is ∙ none))
  each asked is (answered other answer is_other answers (inl t)) =
      subst (λ (c : Command). EndsWell c status ⊎ EndsIll (reads_input c) status)
      (calls.same_command Command asking sound command status intake output asked other is is_other)
      (subst (λ (n : ℕ). EndsWell other n ⊎ EndsIll (reads_input other) n) (sym t.0)
      (given_ends other answers.input answer answers.right.found answers.right.first answers.right.given))
  each asked is (answered other answer is_other answers (inr t)) = inr (seven_ill (reads_input asked) status t.0)
  each asked is (unread other is_other has rose (inl t)) = inr (six_ill (reads_input asked) status (ap words_read (sym is ∙ is_other) ∙ has) t.0)
  each asked is (unread other is_other has rose (inr t)) = inr (seven_ill (reads_input asked) status t.0)
  each asked is (no_memory other is_other eight took kept) = inr (eight_ill (reads_input asked) status eight)

  of_status : (n : ℕ) → status ≡ n → (n ≡ 1 → ⊥) → (n ≡ 6 → ⊥) → (n ≡ 7 → ⊥) → (n ≡ 8 → ⊥) → IsStatusOf command n intake
  of_status n is = calls.status_of Command asking sound command status intake output n ends is

  as_0 : status ≡ 0 → IsStatusOf command 0 intake
  as_0 is = of_status 0 is (λ e. omega (arith, e)) (λ e. omega (arith, e)) (λ e. omega (arith, e)) (λ e. omega (arith, e))

  as_3 : status ≡ 3 → IsStatusOf command 3 intake
  as_3 is = of_status 3 is (λ e. omega (arith, e)) (λ e. omega (arith, e)) (λ e. omega (arith, e)) (λ e. omega (arith, e))

  as_4 : status ≡ 4 → IsStatusOf command 4 intake
  as_4 is = of_status 4 is (λ e. omega (arith, e)) (λ e. omega (arith, e)) (λ e. omega (arith, e)) (λ e. omega (arith, e))

  as_5 : status ≡ 5 → IsStatusOf command 5 intake
  as_5 is = of_status 5 is (λ e. omega (arith, e)) (λ e. omega (arith, e)) (λ e. omega (arith, e)) (λ e. omega (arith, e))

  whole_at_end : words_read command ≡ true → (status ≡ 0) ⊎ (status ≡ 3) ⊎ (status ≡ 4) ⊎ (status ≡ 5) → IsAtEnd intake.rest
  whole_at_end has (inl is) = end_of command intake 0 (λ e. omega (arith, e)) has (as_0 is)
  whole_at_end has (inr (inl is)) = end_of command intake 3 (λ e. omega (arith, e)) has (as_3 is)
  whole_at_end has (inr (inr (inl is))) = end_of command intake 4 (λ e. omega (arith, e)) has (as_4 is)
  whole_at_end has (inr (inr (inr is))) = end_of command intake 5 (λ e. omega (arith, e)) has (as_5 is)

  -- an answer is to the command
  answers_it : (asked : Command) → command ≡ Some asked → (of : IsStatusOf command status intake) → IsAnswer asked of.answers.input of.answer
  answers_it asked is of =
      subst (λ (c : Command). IsAnswer c of.answers.input of.answer)
      (calls.same_command Command asking sound command status intake output asked of.asked is of.is_asked) of.answers.right

  -- without a fault a call ends well, where its input is good
  well : ¬ Rose intake.before intake.after → ¬ Rose output.before output.after → (asked : Command) → command ≡ Some asked
      → HasGood (reads_input asked) asked intake → EndsWell asked status ⊎ (status ≡ 8)
  well no_read no_write asked is good = by (reads_input asked) refl good
    where
      by : (has : Bool) → reads_input asked ≡ has → HasGood has asked intake → EndsWell asked status ⊎ (status ≡ 8)
      by true has (input, left, none) =
          elim (calls.told_input Command asking sound command status intake output ends no_read no_write asked input has is left) [
            | inl eight ↦ inr eight
            | inr (answer, right, same) ↦
                inl (subst (EndsWell asked) (sym same) (found_well asked input answer none (given_good Command asking asked input answer right none)))
          ]
      by false has any = elim (calls.complete Command asking sound command status intake output ends no_read no_write (λ none. some_none asked (sym is ∙ none))) [
        | inl eight ↦ inr eight
        | inr of ↦ inl (subst (EndsWell asked) (sym of.right) (unread_well asked of.answers.input of.answer has (answers_it asked is of)))
      ]

  -- an answer of check judged what was handed in, from a source that was read to its end
  has_checked : (So : World → List Entry → Option (List ℕ) → Type 0) (n : ℕ) → (n ≡ 2 → ⊥) → command ≡ Some Check → (of : IsStatusOf command n intake)
      → ((input : List ℕ) → IsAnswer Check input of.answer → (handed : Handed input) → So handed.world handed.history handed.told)
      → HasChecked command So intake
  has_checked So n no_two is of so =
      let answers : Answers asking Check of.answer intake =
      subst (λ (c : Command). Answers asking c of.answer intake)
      (calls.same_command Command asking sound command status intake output Check of.asked is of.is_asked) of.answers in
      let good = (judges answers.input of.answer n no_two answers.right (sym of.right)).0 in
      let handed = handed_in answers.input good in
      record {
        input = answers.input;
        is_asked = is;
        took = calls.took_all Command asking sound Check answers.input intake answers.read good;
        handed = handed;
        right = so answers.input answers.right handed;
      }

  check_kept : command ≡ Some Check → status ≡ 0 → HasChecked command KeepsAll intake
  check_kept is zero =
      let of = as_0 zero in
      has_checked KeepsAll 0 (λ e. omega (arith, e)) is of (λ input right handed. checked_0 input of.answer right (sym of.right) handed)

  check_broken : command ≡ Some Check → status ≡ 5 → HasChecked command BreaksOne intake
  check_broken is five =
      let of = as_5 five in
      has_checked BreaksOne 5 (λ e. omega (arith, e)) is of (λ input right handed. checked_5 input of.answer right (sym of.right) handed)

  keeps : (input : List ℕ) → IsHanded command intake output input → (handed : Handed input) → KeepsAll handed.world handed.history handed.told
      → (status ≡ 0) ⊎ (status ≡ 8)
  keeps input is handed kept = elim (calls.told_good Command asking sound command status intake output ends Check input refl is) [
    | inl eight ↦ inr eight
    | inr (answer, right, same) ↦ inl (same ∙ kept_so input answer right is.good handed kept)
  ]

  breaks : (input : List ℕ) → IsHanded command intake output input → (handed : Handed input) → BreaksOne handed.world handed.history handed.told
      → (status ≡ 5) ⊎ (status ≡ 8)
  breaks input is handed broken = elim (calls.told_good Command asking sound command status intake output ends Check input refl is) [
    | inl eight ↦ inr eight
    | inr (answer, right, same) ↦ inl (same ∙ broken_so input answer right is.good handed broken)
  ]

  -- what the statuses say
  pub causes_of : Causes command status intake output
  causes_of = record {
    called = calls.causes_of Command asking sound command status intake output ends;
    done = as_0;
    refused = as_5;
    run_done = λ waits is. done_of command intake waits (as_0 is) (it_of command intake 0 (λ e. omega (arith, e)) (as_0 is));
    stopped = λ is. stopped_of command intake (as_3 is) (it_of command intake 3 (λ e. omega (arith, e)) (as_3 is));
    limited = λ is. limited_of command intake (as_4 is) (it_of command intake 4 (λ e. omega (arith, e)) (as_4 is));
    check_kept = check_kept;
    check_broken = check_broken;
    each = λ asked is. each asked is ends;
    end = whole_at_end;
    well = well;
    keeps = keeps;
    breaks = breaks;
  }
