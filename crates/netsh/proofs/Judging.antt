-- What check answers, from what the calls that it makes say.
use Rattle.std.proofs.Common.{◌≡◌, ℕ, ◌≤◌, List, length, take, Option, Some, None, refl, sym, ap, subst, ◌∙◌, inl, inr}
use Rattle.net_base.specs.declared.history.Entry.{Entry}
use Rattle.net_base.specs.declared.world.World.{World}
use Rattle.net_base.specs.Legal.{Answers, Asked, AtMoment, Cites, HasRoom, InTime, IsFault, IsInTime, IsLegal, IsTimed, Keeps, Known, MayFollow, Ready, Rule, rule_number}
use Rattle.net_base.specs.Net.{after}
use Rattle.net_model.specs.Answers.{Answer, all_kept, input_limit, rule_broken}
use Rattle.net_model.specs.Words.{Check}
use Rattle.netcheck.specs.Judged.{HasFault}
use Rattle.netcheck.specs.Told.{HandsIn, RefusesInput}
use Rattle.netcheck.specs.declared.fault.InputError.{InputError}
use Rattle.netcheck.specs.declared.fault.InputError.TheVariants as error
use Rattle.netsh.specs.Built.{asking, IsAnswer, IsJudged}
use Rattle.netsh.specs.Checked.{IsChecked, IsEntryFault, IsOwn, TellsError}
use Rattle.net_model.proofs.Shared.{answer_within, within_limit}

-- The rules.

-- a history has one fault at most
abbrev pub AFaultIsOne : Type 0
AFaultIsOne = (w : World) (h : List Entry) (s t : ℕ) (r q : Rule) → IsFault w h s r → IsFault w h t q → (s ≡ t) × (r ≡ q)

-- an entry that may follow, in time, keeps each rule
keeps_each : (w : World) (h : List Entry) (x : Entry) → MayFollow w h x → IsInTime (after w h) w x.event → (r : Rule) → Keeps r w h (after w h) x
keeps_each w h x may in_time Answers = may.answers
keeps_each w h x may in_time AtMoment = may.at_moment
keeps_each w h x may in_time Cites = may.cites
keeps_each w h x may in_time Asked = may.is_asked
keeps_each w h x may in_time Ready = may.is_ready
keeps_each w h x may in_time InTime = in_time
keeps_each w h x may in_time Known = may.is_known
keeps_each w h x may in_time HasRoom = may.has_room

module _ (w : World) (h : List Entry) (told : Option (List ℕ)) (answer : Answer) where
  no_fault : IsLegal w h → IsTimed w h → (stamp rule : ℕ) → IsEntryFault w h stamp rule → ⊥
  no_fault legal timed stamp rule f =
      f.fault.broken (keeps_each w (take stamp h) f.fault.entry (legal stamp f.fault.entry f.fault.stands) (timed stamp f.fault.entry f.fault.stands) f.broken)

  -- all rules hold
  pub all_hold : IsLegal w h → IsTimed w h → IsOwn w h told → answer ≡ all_kept (length h) → IsChecked w h told answer
  all_hold legal timed own is = record {
    kept = λ keeps. is;
    broken = λ stamp rule broken. elim broken [
      | inl f ↦ absurd (no_fault legal timed stamp rule f)
      | inr s ↦ absurd (s.another own)
    ];
    judged = inl (record { legal = legal; timed = timed; own = own });
  }

  -- all but the ninth
  pub summary_breaks : IsLegal w h → IsTimed w h → (IsOwn w h told → ⊥) → answer ≡ rule_broken (length h) 9 → IsChecked w h told answer
  summary_breaks legal timed another is = record {
    kept = λ keeps. absurd (another keeps.own);
    broken = λ stamp rule broken. elim broken [
      | inl f ↦ absurd (no_fault legal timed stamp rule f)
      | inr s ↦ is ∙ sym (ap (λ (k : ℕ). rule_broken k rule) s.place ∙ ap (rule_broken (length h)) s.number)
    ];
    judged = inr (length h, 9, inr (record { legal = legal; timed = timed; another = another; place = refl; number = refl }));
  }

  -- one of the first eight is broken
  pub entry_breaks : AFaultIsOne → (stamp rule : ℕ) → HasFault w h stamp rule → answer ≡ rule_broken stamp rule → IsChecked w h told answer
  entry_breaks one stamp rule fault given = record {
    kept = λ keeps. absurd (no_fault keeps.legal keeps.timed stamp rule own);
    broken = λ s r broken. elim broken [
      | inl f ↦ given ∙ same s r f
      | inr o ↦ absurd (no_fault o.legal o.timed stamp rule own)
    ];
    judged = inr (stamp, rule, inl own);
  }
    where
      own : IsEntryFault w h stamp rule
      own = record { broken = fault.0; fault = fault.2; number = sym fault.1 }

      same : (s r : ℕ) → IsEntryFault w h s r → rule_broken stamp rule ≡ rule_broken s r
      same s r f =
          let e = one w h stamp s fault.0 f.broken fault.2 f.fault in
          ap (λ (k : ℕ). rule_broken k rule) e.0 ∙ ap (rule_broken s) (sym fault.1 ∙ (ap rule_number e.1 ∙ sym f.number))

-- The input.

module _ (input : List ℕ) (answer : Answer) (fits : length input ≤ input_limit Check) where
  -- what was handed in is judged
  pub judges : (w : World) (h : List Entry) (told : Option (List ℕ)) → HandsIn input w h told → IsChecked w h told answer → IsAnswer Check input answer
  judges w h told hands checked = answer_within _ asking Check input answer None (within_limit _ asking Check input fits) hands.good.is hands.good.only given
    where
      given : IsJudged input answer
      given handed =
          let same = hands.only handed in
          subst (λ (v : World). IsChecked v handed.history handed.told answer) (sym same.0)
          (subst (λ (k : List Entry). IsChecked w k handed.told answer) (sym same.1)
          (subst (λ (s : Option (List ℕ)). IsChecked w h s answer) (sym same.2) checked))

  -- or what is wrong is told
  pub refuses : AFaultIsOne → (wrong : InputError) → RefusesInput input wrong → TellsError wrong answer → IsAnswer Check input answer
  refuses one (error.Bad line cause) first given = answer_within _ asking Check input answer (Some (line, cause)) (within_limit _ asking Check input fits) first.is first.only given
  refuses one (error.Fault stamp rule) (w, h, told, hands, fault) given = judges w h told hands (entry_breaks w h told answer one stamp rule fault given)
  refuses one error.Memory wants given = absurd given
