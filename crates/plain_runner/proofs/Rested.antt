-- A run without its world, and the run that resumes from it.
use Rattle.std.proofs.Common.{◌≡◌, ℕ, zero, suc, ◌+◌, ◌<◌, ◌⊎◌, inl, inr, List, [], ◌∷◌, ◌++◌, drop, length, map, Option, Some, None, IsSome, slice_get, refl, sym, ap, subst, ◌∙◌, arith, length-append}
use Rattle.std.specs.Option.{option_map}
use Rattle.std.proofs.lemmas.Option.{none-some, same_Some, slice_get-map, slice_get_within}
use Rattle.net_base.specs.declared.history.Entry.{Entry}
use Rattle.net_base.specs.declared.reply.Reply.{Reply}
use Rattle.net_base.specs.declared.world.Script.{Script}
use Rattle.net_base.specs.declared.world.World.{World}
use Rattle.net_base.specs.Callers.{caller_count}
use Rattle.net_base.specs.Next.{next_recorded, own_replies, zone_of}
use Rattle.net_base.specs.Versions.{Tuples}
use Rattle.net_base.proofs.Shared.{length_map}
use Rattle.script_player.specs.Players.{IsAt, Playing, next_after}
use Rattle.plain_runner.specs.Callers.{HasRole, IsCallerKept, IsScriptAt}
use Rattle.plain_runner.specs.Resting.{AreCallersResting, AreResting, HasItsScript, HasRestingNext, HasRestingRole, IsCallerResting, Resumes, resting_caller, resting_role}
use Rattle.plain_runner.specs.Tracks.{AreCallers}
use Rattle.plain_runner.specs.Turns.{asks_of}
use Rattle.plain_runner.specs.declared.caller.Caller.{Caller}
use Rattle.plain_runner.specs.declared.caller.Role.{Role}
use Rattle.plain_runner.specs.declared.caller.Role.TheVariants as role
use Rattle.plain_runner.specs.declared.resting.RestingCaller.{RestingCaller}
use Rattle.plain_runner.specs.declared.resting.RestingRole.{RestingRole}
use Rattle.plain_runner.specs.declared.resting.RestingRole.TheVariants as resting
use Rattle.plain_runner.specs.declared.turn.Turn.{Turn}
use Rattle.plain_runner.proofs.CallerLaws.{next_of_script}

-- A caller rests.

role_rests : (w : World) (h : List Entry) (c : ℕ) (r : Role) (before : ℕ) → HasRole w h c r before → HasRestingRole w h c (resting_role r) before
role_rests w h c (role.Script s p) before is = (s.now, is)
role_rests w h c (role.Courier m) before is = is
role_rests w h c role.Clock before is = is

next_rests : (w : World) (h : List Entry) (c : ℕ) (r : Role) (o : Option Turn) → asks_of o ≡ next_recorded w h c → HasRestingNext w h c (resting_role r) o
next_rests w h c (role.Script s p) o is = λ some. is
next_rests w h c (role.Courier m) o is = is
next_rests w h c role.Clock o is = is

caller_rests : (w : World) (h : List Entry) (c : ℕ) (k : Caller) → IsCallerKept w h c k → IsCallerResting w h c (resting_caller k)
caller_rests w h c k is =
    record {
      role_is = role_rests w h c k.role k.before is.stands.role_is;
      next_is = next_rests w h c k.role k.next is.stands.next_is;
      own = is.stands.own;
      owes = is.owes;
      entries_is = is.entries_is;
    }

pub callers_rest : (w : World) (h : List Entry) (ks : List Caller) → AreCallers w h ks → AreCallersResting w h (map resting_caller ks)
callers_rest w h ks are =
    record {
      count = length_map resting_caller ks ∙ are.count;
      each = λ c k at. by_caller c k (slice_get ks c) refl (sym (slice_get-map resting_caller ks c) ∙ at);
    }
  where
    by_caller : (c : ℕ) (k : RestingCaller) (o : Option Caller) → slice_get ks c ≡ o → option_map resting_caller o ≡ Some k → IsCallerResting w h c k
    by_caller c k None here is = absurd (none-some k is)
    by_caller c k (Some x) here is = subst (λ (y : RestingCaller). IsCallerResting w h c y) (same_Some (resting_caller x) k is) (caller_rests w h c x (are.each c x here))

-- A script resumes.

module _ (w : World) (h : List Entry) (c : ℕ) (old : RestingCaller) (s : Script) (p : Playing) (is : old.role ≡ resting.Script p) (here : slice_get w.scripts c ≡ Some s)
    (rests : IsCallerResting w h c old)
  where
    -- the player rests at this script
    pub rests_at : IsScriptAt w h c s p old.before
    rests_at =
        let there : HasRestingRole w h c (resting.Script p) old.before = subst (λ (r : RestingRole). HasRestingRole w h c r old.before) is rests.role_is in
        subst (λ (t : Script). IsScriptAt w h c t p old.before) (same_Some there.0 s (sym there.1.is ∙ here)) there.1

    -- its next event, if it is known
    pub rests_next : IsSome old.next → asks_of old.next ≡ next_after (zone_of w) s (own_replies h c)
    rests_next some =
        subst (λ (r : RestingRole). HasRestingNext w h c r old.next) is rests.next_is some ∙ next_of_script w h c s here

    pub script_resumes : (q : Playing) (o : Option Turn)
        → ((zone : Tuples) (rs : List Reply) → IsAt zone s rs p → IsAt zone s rs q)
        → ((zone : Tuples) (rs : List Reply) → IsAt zone s rs p → (IsSome old.next → asks_of old.next ≡ next_after zone s rs) → asks_of o ≡ next_after zone s rs)
        → IsScriptAt w h c s q old.before × (asks_of o ≡ next_recorded w h c)
    script_resumes q o same next = (
      record { is = here; at = same (zone_of w) (own_replies h c) rests_at.at; before_is = rests_at.before_is },
      next (zone_of w) (own_replies h c) rests_at.at rests_next ∙ sym (next_of_script w h c s here),
    )

-- a script that rests is in the world
role_has : (w : World) (h : List Entry) (c : ℕ) (r : RestingRole) (before : ℕ) → HasRestingRole w h c r before → HasItsScript w c r
role_has w h c (resting.Script p) before is = (is.0, is.1.is)
role_has w h c (resting.Courier m) before is = tt
role_has w h c resting.Clock before is = tt

pub has_script : (w : World) (c : ℕ) (r : RestingRole) (p : Playing) → r ≡ resting.Script p → HasItsScript w c r → (s : Script) × (slice_get w.scripts c ≡ Some s)
has_script w c r p is has = subst (λ (x : RestingRole). HasItsScript w c x) is has

pub script_within : (w : World) (c : ℕ) (r : RestingRole) (p : Playing) → r ≡ resting.Script p → HasItsScript w c r → c < length w.scripts
script_within w c r p is has = let there = has_script w c r p is has in slice_get_within w.scripts c there.0 there.1

-- The callers resume, one after the other.

-- the first callers resumed, and these are left
pub record Resuming (w : World) (all : List RestingCaller) (new : List Caller) (left : List RestingCaller) (count : ℕ) : Type 0 where
  pub left_are : drop (length new) all ≡ left
  pub many : length new + count ≡ length all
  pub each : (c : ℕ) (k : Caller) → slice_get new c ≡ Some k → (old : RestingCaller) × (slice_get all c ≡ Some old) × Resumes w c old k

first_left : (n : ℕ) (ks rest : List RestingCaller) (k : RestingCaller) → drop n ks ≡ k ∷ rest → (slice_get ks n ≡ Some k) × (drop (suc n) ks ≡ rest)
first_left zero [] rest k is = absurd (omega (arith, ap length is))
first_left (suc n) [] rest k is = absurd (omega (arith, ap length is))
first_left zero (x ∷ ks) rest k is = (ap (λ (xs : List RestingCaller). slice_get xs 0) is, ap (drop 1) is)
first_left (suc n) (x ∷ ks) rest k is = first_left n ks rest k is

pub none_resumed : (w : World) (all left : List RestingCaller) (new : List Caller) (count : ℕ) → new ≡ [] → left ≡ all → count ≡ length all → Resuming w all new left count
none_resumed w all left new count none is many =
    record {
      left_are = ap (λ (ks : List Caller). drop (length ks) all) none ∙ sym is;
      many = ap (λ (ks : List Caller). length ks + count) none ∙ omega (arith, many);
      each = λ c k at. absurd (none-some k (sym (ap (λ (ks : List Caller). slice_get ks c) none) ∙ at));
    }

module _ (w : World) (all : List RestingCaller) (new : List Caller) (left rest : List RestingCaller) (count fewer : ℕ) (x : RestingCaller)
    (so_far : Resuming w all new left count) (is : left ≡ x ∷ rest) (gone : fewer + 1 ≡ count)
  where
    at_next : (slice_get all (length new) ≡ Some x) × (drop (suc (length new)) all ≡ rest)
    at_next = first_left (length new) all rest x (so_far.left_are ∙ is)

    -- the next one has its script
    pub next_has : (n : ℕ) → n ≡ length new → AreResting w all → HasItsScript w n x.role
    next_has n at rests =
        let k : IsCallerResting w rests.0 (length new) x = rests.1.each (length new) x at_next.0 in
        subst (λ (m : ℕ). HasItsScript w m x.role) (sym at) (role_has w rests.0 (length new) x.role x.before k.role_is)

    pub one_resumed : (n : ℕ) (k : Caller) (grew : List Caller) → n ≡ length new → Resumes w n x k → grew ≡ new ++ k ∷ [] → Resuming w all grew rest fewer
    one_resumed n k grew at resumes more =
        let longer : length grew ≡ length new + 1 = ap length more ∙ length-append new (k ∷ []) in
        let next : length grew ≡ suc (length new) = omega (arith, longer) in
        record {
          left_are = ap (λ (m : ℕ). drop m all) next ∙ at_next.1;
          many = omega (arith, longer, so_far.many, gone);
          each = λ c y there. by_place c y (pushed new k c y (sym (ap (λ (ks : List Caller). slice_get ks c) more) ∙ there));
        }
      where
        pushed : (ks : List Caller) (z : Caller) (c : ℕ) (y : Caller) → slice_get (ks ++ z ∷ []) c ≡ Some y → (slice_get ks c ≡ Some y) ⊎ ((c ≡ length ks) × (z ≡ y))
        pushed [] z zero y there = inr (refl, same_Some z y there)
        pushed [] z (suc c) y there = absurd (none-some y there)
        pushed (v ∷ ks) z zero y there = inl there
        pushed (v ∷ ks) z (suc c) y there = elim (pushed ks z c y there) [ inl e ↦ inl e | inr e ↦ inr (ap suc e.0, e.1) ]

        by_place : (c : ℕ) (y : Caller) → (slice_get new c ≡ Some y) ⊎ ((c ≡ length new) × (k ≡ y)) → (old : RestingCaller) × (slice_get all c ≡ Some old) × Resumes w c old y
        by_place c y (inl there) = so_far.each c y there
        by_place c y (inr last) =
            (x, ap (slice_get all) last.0 ∙ at_next.0, subst (λ (z : Caller). Resumes w c x z) last.1 (subst (λ (m : ℕ). Resumes w m x k) (at ∙ sym last.0) resumes))

pub all_resumed : (w : World) (all left : List RestingCaller) (new : List Caller) (count : ℕ) → Resuming w all new left count → count ≡ 0 → (h : List Entry) → AreCallersResting w h all → AreCallers w h new
all_resumed w all left new count so_far none h rest =
    let as_many : length new ≡ length all = omega (arith, so_far.many, none) in
    record {
      count = as_many ∙ rest.count;
      each = λ c k at. let found = so_far.each c k at in found.2 h (rest.each c found.0 found.1);
    }
