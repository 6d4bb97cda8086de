-- How a run stands after a legal history: done, stopped, limited, or none of these.
use Rattle.std.proofs.Common.{◌≡◌, ℕ, ◌<◌, ◌≤◌, ◌==◌, ◌&&◌, ◌||◌, Bool, true, false, not, List, [], ◌∷◌, ◌++◌, length, take, codes, nat_lt, ◌⊎◌, inl, inr, refl, sym, ap, subst, ◌∙◌, arith, if◌then◌else◌}
use Rattle.std.proofs.Math.Seq.{take-append_seam}
use Rattle.std.proofs.lemmas.Bool.{false≢true, eq-eqb, eqb-true, eqb-false, lt-ltb, ne_eqb, and_from, or_parts, and_left, and_right}
use Rattle.net_base.specs.declared.history.Entry.{Entry}
use Rattle.net_base.specs.declared.world.World.{World}
use Rattle.net_base.specs.Callers.{Caller, caller_of, caller_count, clock_number}
use Rattle.net_base.specs.Calm.{at_limit, calm, can_go_on, could_record, done, limited, most_entries, movable, owes, stopped, unfinished}
use Rattle.net_base.specs.Legal.{IsInTime, IsLegal, IsTimed, MayFollow}
use Rattle.net_base.specs.Net.{Net, after, moment, moment_after, step_of}
use Rattle.net_base.specs.Next.{by}
use Rattle.net_base.specs.Summary.{end_word}
use Rattle.net_base.specs.Tasks.{nobody}
use Rattle.history_laws.proofs.Shared.{after_push, at_push, by_entries, timed_take}
use Rattle.history_laws.proofs.Shared.{Kind, OfScript, OfCourier, OfClock, clock_is, clock_waits, courier_is, is_calm, kind_of}
use Rattle.net_base.proofs.Shared.{none_range, not_below, some_range, script_is}
use Rattle.plain_runner.proofs.Bounds.{move_within}
use Rattle.transcript.proofs.Shared.{moment_of_ready}

-- The moment is never past the end.

pub moment_within : (w : World) (h : List Entry) → IsLegal w h → IsTimed w h → moment w h ≤ w.end
moment_within w h legal timed = by_entries w (λ (k : List Entry). IsTimed w k → moment w k ≤ w.end) (λ none. omega arith) push h legal timed
  where
    push : (k : List Entry) (x : Entry) → IsLegal w k → MayFollow w k x → (IsTimed w k → moment w k ≤ w.end) → IsTimed w (k ++ x ∷ [])
        → moment w (k ++ x ∷ []) ≤ w.end
    push k x before may f timed =
        let front : take (length k) (k ++ x ∷ []) ≡ k = take-append_seam k (x ∷ []) in
        let was : moment w k ≤ w.end = f (subst (IsTimed w) front (timed_take w (k ++ x ∷ []) (length k) timed)) in
        let comes : IsInTime (after w k) w x.event = subst (λ (p : List Entry). IsInTime (after w p) w x.event) front (timed (length k) x (at_push k x)) in
        let now : moment w (k ++ x ∷ []) ≡ moment_after (moment w k) x.event = ap (λ (net : Net). net.moment) (after_push w k x)
        ∙ moment_of_ready w (after w k) x (step_of w (after w k) x) may.is_ready in
        subst (λ (m : ℕ). m ≤ w.end) (sym now) (move_within w (after w k) x.event comes was)

-- Limits.

pub record NobodyCould (w : World) (net : Net) : Type 0 where
  pub none : (c : ℕ) → c < caller_count w → (owes net c || can_go_on w net c) ≡ false

could_is : (w : World) (net : Net) (c : ℕ) → (c ≡ clock_number w → ⊥) → Kind w c → could_record w net (caller_of w c) c ≡ (owes net c || can_go_on w net c)
could_is w net c other (OfScript s at) = ap (λ (k : Caller). could_record w net k c) (script_is w c s at)
could_is w net c other (OfCourier m lt at) = ap (λ (k : Caller). could_record w net k c) (courier_is w m c at lt)
could_is w net c other (OfClock at) = absurd (other at)

clock_could : (w : World) (net : Net) → could_record w net (caller_of w (clock_number w)) (clock_number w) ≡ (owes net (clock_number w) || movable w net)
clock_could w net = ap (λ (k : Caller). could_record w net k (clock_number w)) (clock_is w)

idle_free : (w : World) (net : Net) → NobodyCould w net → (movable w net ≡ false) ⊎ (length (by net.past (clock_number w)) ≡ most_entries → ⊥)
    → limited w net ≡ false
idle_free w net idle rests = none_range (at_limit w net) (caller_count w) 0 (λ c lt. by_clock c (c == clock_number w) refl (omega (arith, lt)))
  where
    clock_rests : (movable w net ≡ false) ⊎ (length (by net.past (clock_number w)) ≡ most_entries → ⊥) → at_limit w net (clock_number w) ≡ false
    clock_rests (inl still) =
        and_right (length (by net.past (clock_number w)) == most_entries) _
        (clock_could w net
        ∙ rw (still, (or_parts (owes net (clock_number w)) (can_go_on w net (clock_number w)) (idle.none (clock_number w) (omega arith))).0) refl)
    clock_rests (inr few) = and_left (length (by net.past (clock_number w)) == most_entries) _
        (ne_eqb (length (by net.past (clock_number w))) most_entries few)

    by_clock : (c : ℕ) (b : Bool) → (c == clock_number w) ≡ b → c < caller_count w → at_limit w net c ≡ false
    by_clock c true is lt = subst (λ (k : ℕ). at_limit w net k ≡ false) (sym (eqb-true c (clock_number w) is)) (clock_rests rests)
    by_clock c false is lt =
        and_right (length (by net.past c) == most_entries) _ (could_is w net c (eqb-false c (clock_number w) is) (kind_of w c lt) ∙ idle.none c lt)

-- a full caller that could record limits the run
pub some_limited : (w : World) (net : Net) (c : ℕ) → c < caller_count w → (length (by net.past c) == most_entries) ≡ true
    → (owes net c || can_go_on w net c) ≡ true → limited w net ≡ true
some_limited w net c lt full could = some_range (at_limit w net) (caller_count w) 0 c (omega arith) (omega (arith, lt))
    (and_from _ _ full (by_clock (c == clock_number w) refl))
  where
    by_clock : (b : Bool) → (c == clock_number w) ≡ b → could_record w net (caller_of w c) c ≡ true
    by_clock false is = could_is w net c (eqb-false c (clock_number w) is) (kind_of w c lt) ∙ could
    by_clock true is =
        let at : c ≡ clock_number w = eqb-true c (clock_number w) is in
        let owing : (owes net (clock_number w) || can_go_on w net (clock_number w)) ≡ true = subst
        (λ (k : ℕ). (owes net k || can_go_on w net k) ≡ true) at could in
        subst (λ (k : ℕ). could_record w net (caller_of w k) k ≡ true) (sym at) (clock_could w net
        ∙ owes_still (owes net (clock_number w)) (can_go_on w net (clock_number w)) (clock_waits nobody w net) owing)
      where
        owes_still : (a b : Bool) → b ≡ false → (a || b) ≡ true → (a || movable w net) ≡ true
        owes_still true b waits is = refl
        owes_still false b waits is = absurd (false≢true (sym waits ∙ is))

-- The clock at its limit, where it could move.

pub clock_limited : (w : World) (net : Net) → movable w net ≡ true → (length (by net.past (clock_number w)) == most_entries) ≡ true → limited w net ≡ true
clock_limited w net moves full =
    some_range (at_limit w net) (caller_count w) 0 (clock_number w) (omega arith) (omega arith)
    (and_from _ _ full (clock_could w net ∙ or_right (owes net (clock_number w)) (movable w net) moves))
  where
    or_right : (a b : Bool) → b ≡ true → (a || b) ≡ true
    or_right true b is = refl
    or_right false b is = is

-- Where a caller could record.

none_limited : (w : World) (net : Net) → calm w net ≡ false
    → ((c : ℕ) → c < caller_count w → ((length (by net.past c) == most_entries) && (owes net c || can_go_on w net c)) ≡ false) → limited w net ≡ false
none_limited w net busy none = none_range (at_limit w net) (caller_count w) 0 (λ c lt. by_clock c (c == clock_number w) refl (omega (arith, lt)))
  where
    at : (c : ℕ) (b : Bool) → could_record w net (caller_of w c) c ≡ b → (owes net c || can_go_on w net c) ≡ b
        → ((length (by net.past c) == most_entries) && (owes net c || can_go_on w net c)) ≡ false → at_limit w net c ≡ false
    at c b could is none = ap (λ (o : Bool). (length (by net.past c) == most_entries) && o) (could ∙ sym is) ∙ none

    clock_at : could_record w net (caller_of w (clock_number w)) (clock_number w) ≡ (owes net (clock_number w) || can_go_on w net (clock_number w))
    clock_at = clock_could w net ∙ ap (λ (b : Bool). owes net (clock_number w) || b) (and_left (calm w net) _ busy ∙ sym (clock_waits nobody w net))

    by_clock : (c : ℕ) (b : Bool) → (c == clock_number w) ≡ b → c < caller_count w → at_limit w net c ≡ false
    by_clock c true is lt =
        let same : c ≡ clock_number w = eqb-true c (clock_number w) is in
        at c _ (subst (λ (k : ℕ). could_record w net (caller_of w k) k ≡ (owes net k || can_go_on w net k)) (sym same) clock_at) refl (none c lt)
    by_clock c false is lt = at c _ (could_is w net c (eqb-false c (clock_number w) is) (kind_of w c lt)) refl (none c lt)

busy_word : (w : World) (net : Net) (b : Bool) → calm w net ≡ false → limited w net ≡ b → (if b then codes "limit" else codes "unfinished") ≡ end_word w net
busy_word w net true is limits = rw (is, limits) refl
busy_word w net false is limits = rw (is, limits) refl

pub limit_word : (w : World) (net : Net) (c : ℕ) → calm w net ≡ false → c < caller_count w → (length (by net.past c) == most_entries) ≡ true
    → (owes net c || can_go_on w net c) ≡ true → codes "limit" ≡ end_word w net
limit_word w net c busy lt full could = busy_word w net true busy (some_limited w net c lt full could)

pub busy_unfinished : (w : World) (net : Net) → calm w net ≡ false
    → ((c : ℕ) → c < caller_count w → ((length (by net.past c) == most_entries) && (owes net c || can_go_on w net c)) ≡ false)
    → codes "unfinished" ≡ end_word w net
busy_unfinished w net busy none = busy_word w net false busy (none_limited w net busy none)

-- Where nobody could.

pub idle_calm : (w : World) (net : Net) → NobodyCould w net → calm w net ≡ true
idle_calm w net idle = is_calm nobody w net idle.none

pub done_word : (w : World) (net : Net) → NobodyCould w net → unfinished w net ≡ false → codes "done" ≡ end_word w net
done_word w net idle finished =
    let calms = idle_calm w net idle in
    let free : limited w net ≡ false = idle_free w net idle (inl (rw (calms, finished) refl)) in
    let so : done w net ≡ true = rw (calms, free, finished) refl in
    rw so refl

done_not : (w : World) (net : Net) → unfinished w net ≡ true → done w net ≡ false
done_not w net more = and_right (calm w net) _ (and_right (not (limited w net)) _ (ap not more))

pub stopped_word : (w : World) (net : Net) → NobodyCould w net → unfinished w net ≡ true → net.moment ≡ w.end → codes "stopped" ≡ end_word w net
stopped_word w net idle more ends =
    let calms = idle_calm w net idle in
    let over : nat_lt net.moment w.end ≡ false = rw ends (not_below w.end) in
    let free : limited w net ≡ false = idle_free w net idle (inl (rw (calms, more, over) refl)) in
    let so : stopped w net ≡ true = rw (calms, free, more, eq-eqb net.moment w.end ends) refl in
    rw (done_not w net more, so) refl

not_stopped : (w : World) (net : Net) → (net.moment ≡ w.end → ⊥) → stopped w net ≡ false
not_stopped w net apart = and_right (calm w net) _ (and_right (not (limited w net)) _ (and_right (unfinished w net) _ (ne_eqb net.moment w.end apart)))

pub is_movable : (w : World) (net : Net) → NobodyCould w net → unfinished w net ≡ true → net.moment < w.end → movable w net ≡ true
is_movable w net idle more before = rw (idle_calm w net idle, more, lt-ltb net.moment w.end before) refl

pub full_word : (w : World) (net : Net) → NobodyCould w net → unfinished w net ≡ true → (net.moment ≡ w.end → ⊥) → net.moment ≤ w.end
    → (length (by net.past (clock_number w)) == most_entries) ≡ true → codes "limit" ≡ end_word w net
full_word w net idle more apart within full =
    let limits = clock_limited w net (is_movable w net idle more (omega (arith, apart, within))) full in
    rw (done_not w net more, not_stopped w net apart, limits) refl

pub other_word : (w : World) (net : Net) → NobodyCould w net → unfinished w net ≡ true → (net.moment ≡ w.end → ⊥)
    → (length (by net.past (clock_number w)) == most_entries) ≡ false → codes "unfinished" ≡ end_word w net
other_word w net idle more apart few =
    let free = idle_free w net idle (inr (eqb-false (length (by net.past (clock_number w))) most_entries few)) in
    rw (done_not w net more, not_stopped w net apart, free) refl
