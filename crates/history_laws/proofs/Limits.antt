-- The rules on known callers and on room, and when a run is limited.
use Rattle.std.proofs.Common.{◌≡◌, ℕ, ◌<◌, ◌≤◌, ◌==◌, ◌||◌, nat_lt, Bool, true, false, List, [], ◌∷◌, ◌++◌, length, take, Option, Some, None, slice_get, inl, inr, refl, sym, ap, subst, arith}
use Rattle.std.specs.Prelude.{IsSome}
use Rattle.std.specs.List.{list_any}
use Rattle.std.specs.Option.{option_map}
use Rattle.std.proofs.lemmas.Bool.{and_parts, and_from, eqb-true, eq-eqb, false≢true, ne_eqb, cases_lt}
use Rattle.std.proofs.lemmas.Bool.Decides.{nat_tests}
use Rattle.std.proofs.lemmas.Option.{none-some, slice_get_past}
use Rattle.net_base.specs.declared.history.Entry.{Entry}
use Rattle.net_base.specs.declared.world.World.{World}
use Rattle.net_base.specs.ActorStep.{Step, when}
use Rattle.net_base.specs.Actors.{Actor, has_actor}
use Rattle.net_base.specs.Callers.{Caller, IsScript, IsCourier, IsClock, IsNobody, caller_of, caller_count, clock_number}
use Rattle.net_base.specs.Calm.{owes, callers, most_entries, could_record_by, at_limit_by, limited_by}
use Rattle.net_base.specs.Duties.{Duty}
use Rattle.net_base.specs.Legal.{IsLegal, MayFollow, IsAsked, Asked, Ready, Known, HasRoom, Keeps, IsFault}
use Rattle.net_base.specs.Net.{Net, net_after, after, step_of}
use Rattle.net_base.specs.Next.{by, next_of}
use Rattle.net_base.specs.Stamped.{In}
use Rattle.net_base.specs.Tasks.{Tasks}
use Rattle.history_laws.proofs.Histories.{after_push, by_entries}
use Rattle.history_laws.proofs.Ordered.{in_range}
use Rattle.history_laws.proofs.Short.{few_legal}

-- Callers that the world doesn't have.

-- a caller that the world doesn't have owes nothing
abbrev Quiet : World → Net → Type 0
Quiet w net = (c : ℕ) → caller_count w ≤ c → net.owed c ≡ []

quiet_next : (w : World) (net : Net) (x : Entry) (o : Option (Step Actor)) → x.caller < caller_count w → Quiet w net → Quiet w (net_after w net x o)
quiet_next w net x None below quiet = quiet
quiet_next w net x (Some s) below quiet = λ c far.
    let other : (x.caller == c) ≡ false = ne_eqb x.caller c (λ same. absurd (omega (arith, same, below, far))) in
    rw other (quiet c far)

quiet_after : (w : World) (h : List Entry) → IsLegal w h → Quiet w (after w h)
quiet_after w h legal = by_entries w (λ (k : List Entry). Quiet w (after w k)) (λ c far. refl) push h legal
  where
    push : (k : List Entry) (x : Entry) → IsLegal w k → MayFollow w k x → Quiet w (after w k) → Quiet w (after w (k ++ x ∷ []))
    push k x before may quiet = subst (Quiet w) (sym (after_push w k x)) (quiet_next w (after w k) x (step_of w (after w k) x) may.is_known.1 quiet)

pub nobody : (w : World) (c : ℕ) → caller_count w ≤ c → caller_of w c ≡ IsNobody
nobody w c far =
    let none = slice_get_past w.scripts c (omega arith) in
    let not_courier : nat_lt c (clock_number w) ≡ false = grind (arith, nat_tests) in
    let not_clock : (c == clock_number w) ≡ false = ne_eqb c (clock_number w) (λ same. absurd (omega arith)) in
    rw (none, not_courier, not_clock) refl

abbrev is_nobody : Caller → Bool
is_nobody IsNobody = true
is_nobody _ = false

nobody_asks : (w : World) (ds : List Duty) (k : Caller) (h : List Entry) (c : ℕ) (x : Entry) → ds ≡ [] → is_nobody k ≡ true → IsAsked ds k (next_of w k h c) x → ⊥
nobody_asks w (d ∷ ds) k h c x none is asked = absurd (omega (arith, ap length none))
nobody_asks w [] IsNobody h c x none is asked = none-some _ asked
nobody_asks w [] (IsScript s) h c x none is asked = false≢true is
nobody_asks w [] (IsCourier m) h c x none is asked = false≢true is
nobody_asks w [] IsClock h c x none is asked = false≢true is

caller_known : (w : World) (h : List Entry) (x : Entry) → IsLegal w h → Keeps Asked w h (after w h) x → x.caller < caller_count w
caller_known w h x legal asked =
    elim (cases_lt x.caller (caller_count w)) [
      | inl below ↦ below
      | inr far ↦ absurd (nobody_asks w ((after w h).owed x.caller) (caller_of w x.caller) h x.caller x (quiet_after w h legal x.caller far) (ap is_nobody (nobody w x.caller far)) asked)
    ]

ready_known : (has : Bool) (o : Option (Step Actor)) → IsSome (option_map (λ (s : Step Actor). s.outcome) (when has o)) → has ≡ true
ready_known true o ready = refl
ready_known false o ready = absurd (false≢true ready)

-- what is its caller's and ready is known
pub known : (w : World) (h : List Entry) (x : Entry) → IsLegal w h → Keeps Asked w h (after w h) x → Keeps Ready w h (after w h) x → Keeps Known w h (after w h) x
known w h x legal asked ready = (ready_known (has_actor w x.actor) _ ready, caller_known w h x legal asked)

pub never_least : (w : World) (h : List Entry) (stamp : ℕ) → IsFault w h stamp Known → ⊥
never_least w h stamp fault =
    fault.broken (known w (take stamp h) fault.entry fault.legal (fault.lower Asked (omega arith)) (fault.lower Ready (omega arith)))

-- Room.

pub within : (w : World) (h : List Entry) (c : ℕ) → IsLegal w h → length (by h c) ≤ most_entries
within w h c legal = (few_legal w h legal).each c

pub full : (w : World) (past : List Entry) (net : Net) (x : Entry) → length (by past x.caller) ≡ most_entries → Keeps HasRoom w past net x → ⊥
full w past net x all room = absurd (omega (arith, all, room))

pub full_fault : (w : World) (h : List Entry) (stamp : ℕ) → IsFault w h stamp HasRoom → (x : Entry) × (slice_get h stamp ≡ Some x) × (length (by (take stamp h) x.caller) ≡ most_entries)
full_fault w h stamp fault = (
  fault.entry,
  fault.stands,
  elim (cases_lt (length (by (take stamp h) fault.entry.caller)) most_entries) [
    | inl room ↦ absurd (fault.broken room)
    | inr much ↦ omega (arith, much, within w (take stamp h) fault.entry.caller fault.legal)
  ],
)

-- Limited.

any_in : {A : Type 0} (p : A → Bool) (xs : List A) (x : A) → In x xs → p x ≡ true → list_any p xs ≡ true
any_in p [] x there pass = absurd there
any_in p (y ∷ xs) x (inl is) pass = let here : p y ≡ true = subst (λ u. p u ≡ true) is pass in rw here refl
any_in p (y ∷ xs) x (inr there) pass = or_right (p y) (any_in p xs x there pass)
  where
    or_right : (b : Bool) → list_any p xs ≡ true → (b || list_any p xs) ≡ true
    or_right true rest = refl
    or_right false rest = rest

any_found : (p : ℕ → Bool) (xs : List ℕ) → list_any p xs ≡ true → (c : ℕ) × (p c ≡ true)
any_found p [] any = absurd (false≢true any)
any_found p (x ∷ xs) any = by (p x) refl any (any_found p xs)
  where
    by : (b : Bool) → p x ≡ b → (b || list_any p xs) ≡ true → (list_any p xs ≡ true → (c : ℕ) × (p c ≡ true)) → (c : ℕ) × (p c ≡ true)
    by true is some rest = (x, is)
    by false is some rest = rest some

owing_could : (ts : Tasks) (w : World) (net : Net) (k : Caller) (c : ℕ) → owes net c ≡ true → could_record_by ts w net k c ≡ true
owing_could ts w net IsClock c owing = rw owing refl
owing_could ts w net (IsScript s) c owing = rw owing refl
owing_could ts w net (IsCourier m) c owing = rw owing refl
owing_could ts w net IsNobody c owing = rw owing refl

-- a caller that has all its entries, and could record one more
pub is_limited : (ts : Tasks) (w : World) (net : Net) (c : ℕ) → c < caller_count w → length (by net.past c) ≡ most_entries → could_record_by ts w net (caller_of w c) c ≡ true → limited_by ts w net ≡ true
is_limited ts w net c below all could =
    any_in (at_limit_by ts w net) (callers w) c (in_range 0 (caller_count w) c (omega arith) (omega (arith, below)))
    (and_from (length (by net.past c) == most_entries) (could_record_by ts w net (caller_of w c) c) (eq-eqb (length (by net.past c)) most_entries all) could)

pub owes_at_limit : (ts : Tasks) (w : World) (net : Net) (c : ℕ) (d : Duty) → c < caller_count w → length (by net.past c) ≡ most_entries → In d (net.owed c) → limited_by ts w net ≡ true
owes_at_limit ts w net c d below all there =
    is_limited ts w net c below all (owing_could ts w net (caller_of w c) c (some (net.owed c) there))
  where
    some : (ds : List Duty) → In d ds → nat_lt 0 (length ds) ≡ true
    some [] there = absurd there
    some (e ∷ ds) there = grind (arith, nat_tests)

pub found_limited : (ts : Tasks) (w : World) (net : Net) → limited_by ts w net ≡ true → (c : ℕ) × (length (by net.past c) ≡ most_entries) × (could_record_by ts w net (caller_of w c) c ≡ true)
found_limited ts w net is =
    let found = any_found (at_limit_by ts w net) (callers w) is in
    let parts = and_parts (length (by net.past found.0) == most_entries) (could_record_by ts w net (caller_of w found.0) found.0) found.1 in
    (found.0, eqb-true (length (by net.past found.0)) most_entries parts.0, parts.1)
