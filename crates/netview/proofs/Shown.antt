-- What is answered to an input, from what is reported of it.
use Rattle.std.proofs.Common.{◌≡◌, ℕ, ◌≤◌, ◌<◌, ◌^◌, List, length, Option, Some, None, sym, ◌∙◌, ap, subst, inl, inr, arith}
use Rattle.net_base.specs.declared.history.Entry.{Entry}
use Rattle.net_base.specs.declared.world.World.{World}
use Rattle.net_base.specs.Legal.{IsFault, IsLegal, IsTimed, Rule, rule_number}
use Rattle.net_model.specs.Answers.{Answer, bad_input, rule_broken}
use Rattle.netcheck.specs.Judged.{HasFault}
use Rattle.netcheck.specs.Told.{HandsIn, IsFirstTold, RefusesInput}
use Rattle.netcheck.specs.declared.fault.InputError.TheVariants as error
use Rattle.net_base.specs.NdbBundle.{bad_line}
use Rattle.netview.specs.Views.{asking, input_limit, command_view, whole_view, IsAnswer, IsShown}
use Rattle.netview.specs.Words.{Lint, Show, View, Chart, ChartOfTalks, Json, Page, Pcap, Pcapng, Steps, Words}
use Rattle.net_model.specs.Asking.{IsGiven}
use Rattle.net_model.proofs.Shared.{answer_within, within_limit}

-- a history with a fault isn't both legal and timed, and has no other fault
abbrev pub NotLegal : Type 0
NotLegal = (w : World) (h : List Entry) (stamp : ℕ) (rule : Rule) → IsFault w h stamp rule → IsLegal w h → IsTimed w h → ⊥

abbrev pub OneFault : Type 0
OneFault = (w : World) (h : List Entry) (s t : ℕ) (r q : Rule) → IsFault w h s r → IsFault w h t q → (s ≡ t) × (r ≡ q)

module _ (asked : View) (input : List ℕ) (w : World) (h : List Entry) (answer : Answer) (not_legal : NotLegal) where
  shown_kept : IsLegal w h → IsTimed w h → answer ≡ command_view asked input w h → IsShown asked input w h answer
  shown_kept legal timed is = record {
    kept = λ l t. is;
    broken = λ stamp rule fault. absurd (not_legal w h stamp fault.0 fault.2 legal timed);
    judged = inl (legal, timed);
  }

  shown_broken : OneFault → (stamp rule : ℕ) → HasFault w h stamp rule → answer ≡ rule_broken stamp rule → IsShown asked input w h answer
  shown_broken one stamp rule fault is = record {
    kept = λ legal timed. absurd (not_legal w h stamp fault.0 fault.2 legal timed);
    broken = λ s r other.
        let same = one w h stamp s fault.0 other.0 fault.2 other.2 in
        is ∙ (ap (λ (k : ℕ). rule_broken k rule) same.0
        ∙ ap (rule_broken s) (sym fault.1 ∙ (ap rule_number same.1 ∙ other.1)));
    judged = inr (stamp, rule, fault);
  }

-- an input within the limit of a view has fewer than 2^32 bytes
pub view_fits : (asked : View) (input : List ℕ) → length input ≤ input_limit (Show asked) → length input < 2 ^ 32
view_fits (Pcap medium) input fits = omega (arith, fits)
view_fits Pcapng input fits = omega (arith, fits)
view_fits Json input fits = omega (arith, fits)
view_fits (Page head tail) input fits = omega (arith, fits)
view_fits Chart input fits = omega (arith, fits)
view_fits ChartOfTalks input fits = omega (arith, fits)
view_fits Steps input fits = omega (arith, fits)
view_fits Words input fits = omega (arith, fits)

-- an answer to an input within the limit, of which no line is bad
answer_good : (asked : View) (input : List ℕ) (w : World) (h : List Entry) (told : Option (List ℕ)) (answer : Answer) → length input ≤ input_limit (Show asked)
    → HandsIn input w h told → IsShown asked input w h answer → IsAnswer (Show asked) input answer
answer_good asked input w h told answer fits hands shown =
    answer_within _ asking (Show asked) input answer None (within_limit _ asking (Show asked) input fits) hands.good.is hands.good.only (
      hands.handed,
      λ handed.
          let same = hands.only handed in
          subst (λ (v : World). IsShown asked input v handed.history answer) (sym same.0)
          (subst (λ (k : List Entry). IsShown asked input w k answer) (sym same.1) shown),
    )

pub answers_view : (asked : View) (input : List ℕ) (w : World) (h : List Entry) (told : Option (List ℕ)) (answer : Answer) → NotLegal
    → length input ≤ input_limit (Show asked) → HandsIn input w h told → IsLegal w h → IsTimed w h → answer ≡ command_view asked input w h → IsAnswer (Show asked) input answer
answers_view asked input w h told answer not_legal fits hands legal timed is =
    answer_good asked input w h told answer fits hands (shown_kept asked input w h answer not_legal legal timed is)

pub answers_bad : (asked : View) (input : List ℕ) (line cause : ℕ) (answer : Answer) → length input ≤ input_limit (Show asked)
    → IsFirstTold input (Some (line, cause))
    → answer ≡ bad_input line cause → IsAnswer (Show asked) input answer
answers_bad asked input line cause answer fits first is =
    answer_within _ asking (Show asked) input answer (Some (line, cause)) (within_limit _ asking (Show asked) input fits) first.is first.only is

pub answers_fault : (asked : View) (input : List ℕ) (stamp rule : ℕ) (answer : Answer) → NotLegal → OneFault → length input ≤ input_limit (Show asked)
    → RefusesInput input (error.Fault stamp rule) → answer ≡ rule_broken stamp rule → IsAnswer (Show asked) input answer
answers_fault asked input stamp rule answer not_legal one fits (w, h, told, hands, fault) is =
    answer_good asked input w h told answer fits hands (shown_broken asked input w h answer not_legal one stamp rule fault is)

-- Notes on a bundle.

-- one that is read has no bad line, and one that is refused is known by its bad line
bundle_told : (input : List ℕ) (found : Option (ℕ × ℕ)) (answer : Answer) → length input ≤ input_limit Lint → bad_line input ≡ found
    → IsGiven asking found Lint input answer
    → IsAnswer Lint input answer
bundle_told input found answer fits is given =
    answer_within _ asking Lint input answer found (within_limit _ asking Lint input fits) (sym is) (λ other told. told ∙ is) given

pub answers_notes : (input notes : List ℕ) (answer : Answer) → length input ≤ input_limit Lint → bad_line input ≡ None → answer ≡ whole_view notes
    → IsAnswer Lint input answer
answers_notes input notes answer fits good is = bundle_told input None answer fits good (notes, is)

pub answers_bad_bundle : (input : List ℕ) (line cause : ℕ) (answer : Answer) → length input ≤ input_limit Lint → bad_line input ≡ Some (line, cause)
    → answer ≡ bad_input line cause
    → IsAnswer Lint input answer
answers_bad_bundle input line cause answer fits bad is = bundle_told input (Some (line, cause)) answer fits bad is
