-- The name of an exporting step of a world is no name with a dot.
use Rattle.std.proofs.Common.{◌≡◌, ℕ, ◌-◌, ◌&&◌, ◌==◌, Bool, true, false, List, [], ◌∷◌, Option, Some, None, zero, suc, refl, sym, ap, subst, arith, cond}
use Rattle.std.specs.Prelude.{length, nat_lt, slice_get}
use Rattle.std.specs.List.{list_all}
use Rattle.std.specs.Option.{option_map_or}
use Rattle.std.proofs.lemmas.Bool.{and_parts}
use Rattle.std.proofs.lemmas.Bool.Decides.{nat_tests}
use Rattle.std.proofs.lemmas.Option.{none-some, same_Some}
use Rattle.net_base.specs.declared.history.Entry.{Entry}
use Rattle.net_base.specs.declared.world.Script.{Script}
use Rattle.net_base.specs.declared.world.Step.{Step}
use Rattle.net_base.specs.declared.world.World.{World}
use Rattle.net_base.specs.Callers.{Caller, IsClock, IsCourier, IsNobody, IsScript, caller_of, clock_number, other_caller}
use Rattle.net_base.specs.Exports.{is_dotted}
use Rattle.net_base.specs.Next.{zone_of}
use Rattle.net_base.specs.World.{IsWorld, is_letter, is_name, is_name_byte, is_script, is_step}
use Rattle.net_base.specs.Written.{Conversation}
use Rattle.history_laws.proofs.Shared.{all_at}
use Rattle.prefix_law.specs.Scripted.{scripted}
use Rattle.prefix_law.specs.Spans.{Scripted, Span, kept_in_span, left_by_span, own_stamped, spans_from}
use Rattle.prefix_law.specs.WorldImports.{AllExported}

-- ---- the script of a caller stands in the world

abbrev script_in : Caller → Script → Script
script_in (IsScript s) other = s
script_in _ other = other

abbrev HasScript : Caller → Type 0
HasScript (IsScript s) = Unit {0}
HasScript _ = ⊥

no_script : (w : World) (c : ℕ) → HasScript (other_caller w c) → ⊥
no_script w c = by (nat_lt c (clock_number w)) (c == clock_number w)
  where
    by : (a b : Bool) → HasScript (cond a (IsCourier (c - length w.scripts)) (cond b IsClock IsNobody)) → ⊥
    by true b is = is
    by false true is = is
    by false false is = is

stands_in : (w : World) (c : ℕ) (s : Script) → caller_of w c ≡ IsScript s → slice_get w.scripts c ≡ Some s
stands_in w c s is = by (slice_get w.scripts c) is
  where
    by : (o : Option Script) → option_map_or (λ (x : Script). IsScript x) o (other_caller w c) ≡ IsScript s → o ≡ Some s
    by (Some x) same = ap (λ (k : Caller). Some (script_in k x)) same
    by None same = absurd (no_script w c (subst HasScript (sym same) tt))

-- ---- the step of a span stands in the script

step_passes : {N T : Type 0} (script : Scripted N T) (test : T → Bool) (steps : List T) (k : N) (xs : List (ℕ × Entry)) (i : ℕ) (span : Span N T)
    → list_all test steps ≡ true → slice_get (spans_from script steps k xs) i ≡ Some span → test span.step ≡ true
step_passes script test [] k xs i span all is = absurd (none-some span is)
step_passes {N} {T} script test (s ∷ ss) k xs zero span all is =
    subst (λ (p : Span N T). test p.step ≡ true) (same_Some _ span is) (and_parts (test s) (list_all test ss) all).0
step_passes script test (s ∷ ss) k xs (suc i) span all is =
    step_passes script test ss (kept_in_span script k s xs) (left_by_span (script.play k s) xs) i span (and_parts (test s) (list_all test ss) all).1 is

-- ---- names

undotted_name : (called : List ℕ) → is_name called ≡ true → is_dotted called ≡ false
undotted_name [] is = refl
undotted_name (b ∷ bs) is =
    let letter = (and_parts (is_letter b) (list_all is_name_byte bs && nat_lt (length bs) 27) is).0 in
    grind (arith, nat_tests)

pub undotted : (w : World) (h : List Entry) (s : ℕ) (far : Script) (f : Conversation) → IsWorld w → caller_of w s ≡ IsScript far → (x : AllExported w h s far f) → is_dotted x.called ≡ false
undotted w h s far f world is_far x =
    let script = all_at (is_script (length w.hosts)) w.scripts s far world.scripts (stands_in w s far is_far) in
    let steps = (and_parts (nat_lt far.host (length w.hosts)) (list_all is_step far.steps) script).1 in
    let passes = step_passes (scripted (zone_of w) far) is_step far.steps (scripted (zone_of w) far).start (own_stamped h s) x.number x.span steps x.stands in
    undotted_name x.called (subst (λ (st : Step). is_step st ≡ true) x.exports passes)
