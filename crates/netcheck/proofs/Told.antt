-- What is told of a history: its fault, if it has one, and else what it keeps.
use Rattle.std.proofs.Common.{◌≡◌, ℕ, ◌<◌, ◌&&◌, true, List, take, Some, None, slice_get, nat_lt, refl, ap, subst, ◌∙◌}
use Rattle.std.proofs.lemmas.Bool.{and_parts, ltb-true}
use Rattle.net_base.specs.declared.event.Event.TheVariants as event
use Rattle.net_base.specs.declared.history.Entry.{Entry}
use Rattle.net_base.specs.declared.world.World.{World}
use Rattle.net_base.specs.Calm.{calm, unfinished}
use Rattle.net_base.specs.Legal.{IsFault, IsInTime, IsLegal, IsTimed, Rule as AnyRule, rule_number}
use Rattle.net_base.specs.Net.{Net, after}
use Rattle.history_laws.proofs.Shared.{fault_is_not_legal}
use Rattle.netcheck.specs.declared.checking.CheckError.{CheckError}
use Rattle.netcheck.specs.declared.checking.CheckError.TheVariants as error
use Rattle.netcheck.specs.declared.rule.Rule.{Rule}
use Rattle.netcheck.specs.Judged.{IsCalmMove, IsFirst, rule_of}
use Rattle.netcheck.proofs.Laws.{one_fault}

-- where the first fault is known
pub passes_not : (w : World) (h : List Entry) (s : ℕ) (r : Rule) → IsFirst w h (Some (s, r)) → IsLegal w h → IsTimed w h → ⊥
passes_not w h s r first legal timed = fault_is_not_legal w h s (rule_of r) first legal timed

pub told_so : (w : World) (h : List Entry) (s t n : ℕ) (r : Rule) (q : AnyRule) → IsFirst w h (Some (s, r)) → n ≡ rule_number (rule_of r) → IsFault w h t q
    → ◌≡◌ {A = CheckError} (error.Fault s n) (error.Fault t (rule_number q))
told_so w h s t n r q first number fault =
    let same : (s ≡ t) × (rule_of r ≡ q) = one_fault w h s t (rule_of r) q first fault in
    let rules : n ≡ rule_number q = number ∙ ap rule_number same.1 in
    rw (same.0, rules) refl

-- where there is none
pub told_not : (w : World) (h : List Entry) (s : ℕ) (r : AnyRule) → IsFirst w h None → IsFault w h s r → ⊥
told_not w h s r first fault = fault_is_not_legal w h s r fault first.0 first.1

pub calm_move : (w : World) (h : List Entry) (k m : ℕ) (x : Entry) → IsFirst w h None → slice_get h k ≡ Some x → x.event ≡ event.Move m → x.moment < m
    → IsCalmMove w (take k h) x m
calm_move w h k m x first at is later = record {
  calm = parts.0;
  before_end = ltb-true net.moment w.end (and_parts (unfinished w net) (nat_lt net.moment w.end) parts.1).1;
  to_target = time.1;
  ahead = later;
}
  where
    net : Net
    net = after w (take k h)

    time : IsInTime net w (event.Move m)
    time = subst (IsInTime net w) is (first.1 k x at)

    parts : (calm w net ≡ true) × ((unfinished w net && nat_lt net.moment w.end) ≡ true)
    parts = and_parts (calm w net) (unfinished w net && nat_lt net.moment w.end) time.0
