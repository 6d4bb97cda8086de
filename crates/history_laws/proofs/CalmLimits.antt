-- Whether a run is limited, by what is known of each caller and of the clock.
use Rattle.std.proofs.Common.{◌≡◌, ℕ, ◌<◌, ◌==◌, ◌&&◌, ◌||◌, Bool, true, false, length, refl, sym, ap, subst, ◌∙◌, arith}
use Rattle.std.proofs.lemmas.Bool.{eqb-true, eqb-false, or_left, or_right}
use Rattle.net_base.specs.declared.world.World.{World}
use Rattle.net_base.specs.Callers.{Caller, caller_of, caller_count, clock_number}
use Rattle.net_base.specs.Calm.{at_limit_by, can_go_on_by, could_record_by, limited_by, most_entries, movable_by, owes}
use Rattle.net_base.specs.Net.{Net}
use Rattle.net_base.specs.Next.{by}
use Rattle.net_base.specs.Tasks.{Tasks}
use Rattle.history_laws.specs.Could.{could, is_full}
use Rattle.history_laws.proofs.Calming.{Kind, OfScript, OfCourier, OfClock, clock_is, clock_only_owes, courier_is, kind_of}
use Rattle.net_base.proofs.Shared.{none_range, script_is}

-- a caller that is no clock could record where the definition of limits says so
could_is : (ts : Tasks) (w : World) (net : Net) (c : ℕ) → (c ≡ clock_number w → ⊥) → Kind w c → could_record_by ts w net (caller_of w c) c ≡ could ts w net c
could_is ts w net c other (OfScript s at) = ap (λ (k : Caller). could_record_by ts w net k c) (script_is w c s at)
could_is ts w net c other (OfCourier m lt at) = ap (λ (k : Caller). could_record_by ts w net k c) (courier_is w m c at lt)
could_is ts w net c other (OfClock at) = absurd (other at)

clock_could : (ts : Tasks) (w : World) (net : Net) → could_record_by ts w net (caller_of w (clock_number w)) (clock_number w) ≡ (owes net (clock_number w) || movable_by ts w net)
clock_could ts w net = ap (λ (k : Caller). could_record_by ts w net k (clock_number w)) (clock_is w)

neither : (full owing goes moves : Bool) → (full && (owing || goes)) ≡ false → (full && moves) ≡ false → (full && (owing || moves)) ≡ false
neither true true goes moves none still = none
neither true false goes moves none still = still
neither false owing goes moves none still = refl

pub nobody : (ts : Tasks) (w : World) (net : Net) → ((c : ℕ) → c < caller_count w → (is_full net c && could ts w net c) ≡ false)
    → (is_full net (clock_number w) && movable_by ts w net) ≡ false → limited_by ts w net ≡ false
nobody ts w net none still = none_range (at_limit_by ts w net) (caller_count w) 0 (λ c lt. by_clock c (c == clock_number w) refl (omega (arith, lt)))
  where
    clock_rests : at_limit_by ts w net (clock_number w) ≡ false
    clock_rests =
        ap (λ (b : Bool). is_full net (clock_number w) && b) (clock_could ts w net)
        ∙ neither (is_full net (clock_number w)) (owes net (clock_number w)) (can_go_on_by ts w net (clock_number w)) (movable_by ts w net)
        (none (clock_number w) (omega arith)) still

    by_clock : (c : ℕ) (b : Bool) → (c == clock_number w) ≡ b → c < caller_count w → at_limit_by ts w net c ≡ false
    by_clock c true is lt = subst (λ (k : ℕ). at_limit_by ts w net k ≡ false) (sym (eqb-true c (clock_number w) is)) clock_rests
    by_clock c false is lt =
        ap (λ (b : Bool). is_full net c && b) (could_is ts w net c (eqb-false c (clock_number w) is) (kind_of w c lt)) ∙ none c lt

-- the clock has no next event, so it owes where it could record
clock_owes : (ts : Tasks) (w : World) (net : Net) → could ts w net (clock_number w) ≡ true → could_record_by ts w net (caller_of w (clock_number w)) (clock_number w) ≡ true
clock_owes ts w net is = clock_could ts w net ∙ or_left (owes net (clock_number w)) (movable_by ts w net) (sym (clock_only_owes ts w net) ∙ is)

-- what a lower law says: a caller that has all its entries, and could record one more, limits the run
abbrev pub DoFullOnesLimit : Type 0
DoFullOnesLimit = (ts : Tasks) (w : World) (net : Net) (c : ℕ) → c < caller_count w → length (by net.past c) ≡ most_entries
    → could_record_by ts w net (caller_of w c) c ≡ true → limited_by ts w net ≡ true

pub full_caller : DoFullOnesLimit → (ts : Tasks) (w : World) (net : Net) (c : ℕ) → c < caller_count w → is_full net c ≡ true → could ts w net c ≡ true
    → limited_by ts w net ≡ true
full_caller limits ts w net c lt full goes = limits ts w net c lt (eqb-true (length (by net.past c)) most_entries full) (by_clock (c == clock_number w) refl)
  where
    by_clock : (b : Bool) → (c == clock_number w) ≡ b → could_record_by ts w net (caller_of w c) c ≡ true
    by_clock false is = could_is ts w net c (eqb-false c (clock_number w) is) (kind_of w c lt) ∙ goes
    by_clock true is =
        let at : c ≡ clock_number w = eqb-true c (clock_number w) is in
        subst (λ (k : ℕ). could_record_by ts w net (caller_of w k) k ≡ true) (sym at)
        (clock_owes ts w net (subst (λ (k : ℕ). could ts w net k ≡ true) at goes))

pub full_clock : DoFullOnesLimit → (ts : Tasks) (w : World) (net : Net) → is_full net (clock_number w) ≡ true → movable_by ts w net ≡ true → limited_by ts w net ≡ true
full_clock limits ts w net full moves = limits ts w net (clock_number w) (omega arith) (eqb-true (length (by net.past (clock_number w))) most_entries full)
    (clock_could ts w net ∙ or_right (owes net (clock_number w)) (movable_by ts w net) moves)
