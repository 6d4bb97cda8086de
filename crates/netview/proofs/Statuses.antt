-- What the statuses say, from how a call ends.
use Rattle.std.proofs.Common.{◌≡◌, ℕ, ◌⊎◌, true, List, Option, Some, None, refl, ◌∙◌, ap, subst, inl, inr, arith}
use Rattle.net_base.specs.declared.history.Entry.{Entry}
use Rattle.net_base.specs.declared.world.World.{World}
use Rattle.net_base.specs.Legal.{IsLegal, IsTimed}
use Rattle.net_model.specs.Answers.{Answer}
use Rattle.netcheck.specs.Input.{Handed}
use Rattle.netview.specs.Views.{asking, capture_on, medium_named, command_view, IsAnswer, IsFirstBad, IsGood as IsGoodOf, IsShown, IsShownOf}
use Rattle.netview.specs.Words.{Command, Lint, Show, View, Chart, ChartOfTalks, Json, Page, Pcap, Pcapng, Steps, Words}
use Rattle.net_model.specs.Calls.{Intake, Output}
use Rattle.net_model.specs.Ends.{IsStatusOf, TookAll}
use Rattle.net_model.proofs.Shared.{given_good, IsGood, Sound}
use Rattle.net_model.proofs.Shared as calls
use Rattle.netview.specs.Ends.{HasBundle, HasHanded, IsBroken, IsHanded, IsRefused, IsShownWith, Ends, Causes}

-- words that gave the command
pub words_ended : (asked : Command) (command : Option Command) (status : ℕ) (intake : Intake) (output : Output) → Some asked ≡ command
    → Ends (Some asked) status intake output
    → Ends command status intake output
words_ended asked command status intake output is ends = subst (λ (k : Option Command). Ends k status intake output) is ends

-- What an answer says.

-- what is shown has the status 0 or 5
shown_status : (asked : View) (input : List ℕ) (w : World) (h : List Entry) → ((command_view asked input w h).status ≡ 0) ⊎ ((command_view asked input w h).status ≡ 5)
shown_status (Pcap None) input w h = inl refl
shown_status (Pcap (Some name)) input w h = by (medium_named name w.media)
  where
    by : (medium : Option ℕ) → ((capture_on medium w h).status ≡ 0) ⊎ ((capture_on medium w h).status ≡ 5)
    by None = inr refl
    by (Some m) = inl refl
shown_status Chart input w h = inl refl
shown_status ChartOfTalks input w h = inl refl
shown_status Pcapng input w h = inl refl
shown_status Json input w h = inl refl
shown_status (Page head tail) input w h = inl refl
shown_status Steps input w h = inl refl
shown_status Words input w h = inl refl

-- what the status of an answer to a good input says of the command
pub data Of (asked : Command) (input : List ℕ) (answer : Answer) : Type 0 where
  of_view : (command_view : View) (handed : Handed input) → asked ≡ Show command_view → answer.status ≡ 0 → IsShownWith 0 command_view input handed → Of asked input answer
  of_refusal : (command_view : View) (handed : Handed input) → asked ≡ Show command_view → answer.status ≡ 5 → IsRefused command_view input handed → Of asked input answer
  of_notes : asked ≡ Lint → answer.status ≡ 0 → Of asked input answer

of_shown : (asked : View) (input : List ℕ) (answer : Answer) (handed : Handed input) → IsShown asked input handed.world handed.history answer
    → Of (Show asked) input answer
of_shown asked input answer handed shown = elim shown.judged [
  | inl kept ↦ by_status kept.0 kept.1 (shown_status asked input handed.world handed.history)
  | inr (stamp, rule, fault) ↦ of_refusal asked handed refl (ap (λ (a : Answer). a.status) (shown.broken stamp rule fault)) (inl (stamp, rule, fault))
]
  where
    by_status : IsLegal handed.world handed.history → IsTimed handed.world handed.history
        → ((command_view asked input handed.world handed.history).status ≡ 0) ⊎ ((command_view asked input handed.world handed.history).status ≡ 5) → Of (Show asked) input answer
    by_status legal timed (inl zero) =
        of_view asked handed refl (ap (λ (a : Answer). a.status) (shown.kept legal timed) ∙ zero) (record { legal = legal; timed = timed; status_is = zero })
    by_status legal timed (inr five) =
        of_refusal asked handed refl (ap (λ (a : Answer). a.status) (shown.kept legal timed) ∙ five) (inr (record { legal = legal; timed = timed; status_is = five }))

of_found : (asked : Command) (input : List ℕ) (answer : Answer) → IsGoodOf asked input answer → Of asked input answer
of_found (Show asked) input answer given = of_shown asked input answer given.0 (given.1 given.0)
of_found Lint input answer given = of_notes refl (ap (λ (a : Answer). a.status) given.1)

of_good : (asked : Command) (input : List ℕ) (answer : Answer) → Of asked input answer → IsGood answer.status
of_good asked input answer (of_view command_view handed is zero shown) = inl zero
of_good asked input answer (of_refusal command_view handed is five refused) = inr (inr (inr five))
of_good asked input answer (of_notes is zero) = inl zero

sound : Sound asking
sound = record {
  good = λ asked input answer good found. of_good asked input answer (of_found asked input answer found);
  reads = λ asked input bad is. refl;
}

-- An answer to an input that is known.

shows_it : (asked : View) (input : List ℕ) (answer : Answer) → IsAnswer (Show asked) input answer → IsFirstBad (Show asked) input None
    → IsShownOf asked input answer
shows_it asked input answer is good = (given_good Command asking (Show asked) input answer is good).1

notes_it : (input : List ℕ) (answer : Answer) → IsAnswer Lint input answer → IsFirstBad Lint input None → answer.status ≡ 0
notes_it input answer is good = ap (λ (a : Answer). a.status) (given_good Command asking Lint input answer is good).1

module _ (command : Option Command) (status : ℕ) (intake : Intake) (output : Output) (ends : Ends command status intake output) where
  -- a good input was read to its end
  good_it : (n : ℕ) → (n ≡ 2 → ⊥) → (of : IsStatusOf asking command n intake) → IsFirstBad of.asked of.answers.input None
  good_it n no_two of = (calls.good_of Command asking sound command intake n no_two of).0

  took_it : (n : ℕ) → (n ≡ 2 → ⊥) → (of : IsStatusOf asking command n intake) → TookAll true intake of.answers.input
  took_it n no_two of = calls.took_all Command asking sound of.asked of.answers.input intake of.answers.read (good_it n no_two of)

  of_it : (n : ℕ) → (n ≡ 2 → ⊥) → (of : IsStatusOf asking command n intake) → Of of.asked of.answers.input of.answer
  of_it n no_two of = of_found of.asked of.answers.input of.answer (calls.good_of Command asking sound command intake n no_two of).1

  done_of : (of : IsStatusOf asking command 0 intake) → Of of.asked of.answers.input of.answer → HasHanded command (IsShownWith 0) intake ⊎ HasBundle command intake
  done_of of (of_view command_view handed is zero shown) = inl (record {
    asked = command_view;
    input = of.answers.input;
    is_asked = of.is_asked ∙ ap Some is;
    took = took_it 0 (λ e. omega (arith, e)) of;
    handed = handed;
    right = shown;
  })
  done_of of (of_refusal command_view handed is five refused) = absurd (omega (arith, of.right, five))
  done_of of (of_notes is zero) = inr (record {
    input = of.answers.input;
    is_asked = of.is_asked ∙ ap Some is;
    took = took_it 0 (λ e. omega (arith, e)) of;
    good = subst (λ (c : Command). IsFirstBad c of.answers.input None) is (good_it 0 (λ e. omega (arith, e)) of);
  })

  refused_of : (of : IsStatusOf asking command 5 intake) → Of of.asked of.answers.input of.answer → HasHanded command IsRefused intake
  refused_of of (of_view command_view handed is zero shown) = absurd (omega (arith, of.right, zero))
  refused_of of (of_notes is zero) = absurd (omega (arith, of.right, zero))
  refused_of of (of_refusal command_view handed is five refused) = record {
    asked = command_view;
    input = of.answers.input;
    is_asked = of.is_asked ∙ ap Some is;
    took = took_it 5 (λ e. omega (arith, e)) of;
    handed = handed;
    right = refused;
  }

  -- An input that the source told.

  -- without a fault a good one is answered, or memory ran out
  told_good : (asked : Command) (input : List ℕ) → IsHanded command asked intake output input
      → (status ≡ 8) ⊎ ((answer : Answer) × IsAnswer asked input answer × (status ≡ answer.status))
  told_good asked input is = calls.told_good Command asking sound command status intake output ends asked input refl is

  shows : (asked : View) (input : List ℕ) (n : ℕ) → IsHanded command (Show asked) intake output input → (handed : Handed input)
      → IsShownWith n asked input handed → (status ≡ n) ⊎ (status ≡ 8)
  shows asked input n is handed shown = elim (told_good (Show asked) input is) [
    | inl eight ↦ inr eight
    | inr (answer, right, same) ↦
        inl (same ∙ (ap (λ (a : Answer). a.status) ((shows_it asked input answer right is.good handed).kept shown.legal shown.timed) ∙ shown.status_is))
  ]

  breaks : (asked : View) (input : List ℕ) → IsHanded command (Show asked) intake output input → (handed : Handed input)
      → IsBroken asked input handed → (status ≡ 5) ⊎ (status ≡ 8)
  breaks asked input is handed (stamp, rule, fault) = elim (told_good (Show asked) input is) [
    | inl eight ↦ inr eight
    | inr (answer, right, same) ↦
        inl (same ∙ ap (λ (a : Answer). a.status) ((shows_it asked input answer right is.good handed).broken stamp rule fault))
  ]

  notes : (input : List ℕ) → IsHanded command Lint intake output input → (status ≡ 0) ⊎ (status ≡ 8)
  notes input is = elim (told_good Lint input is) [
    | inl eight ↦ inr eight
    | inr (answer, right, same) ↦ inl (same ∙ notes_it input answer right is.good)
  ]

  of_status : (n : ℕ) → status ≡ n → (n ≡ 1 → ⊥) → (n ≡ 6 → ⊥) → (n ≡ 7 → ⊥) → (n ≡ 8 → ⊥) → IsStatusOf asking command n intake
  of_status n is = calls.status_of Command asking sound command status intake output n ends is

  -- what the statuses say
  pub causes_of : Causes command status intake output
  causes_of = record {
    called = calls.causes_of Command asking sound command status intake output ends;
    done = λ is.
        let of = of_status 0 is (λ e. omega (arith, e)) (λ e. omega (arith, e)) (λ e. omega (arith, e)) (λ e. omega (arith, e)) in
        done_of of (of_it 0 (λ e. omega (arith, e)) of);
    refused = λ is.
        let of = of_status 5 is (λ e. omega (arith, e)) (λ e. omega (arith, e)) (λ e. omega (arith, e)) (λ e. omega (arith, e)) in
        refused_of of (of_it 5 (λ e. omega (arith, e)) of);
    shows = shows;
    breaks = breaks;
    notes = notes;
  }
