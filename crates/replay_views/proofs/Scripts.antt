-- What a run keeps of a script.
use Rattle.std.proofs.Common.{◌≡◌, ℕ, ◌==◌, Bool, true, false, not, List, length, Option, None, Some, nat_lt, slice_get, Bor, refl, sym, ap, subst, ◌∙◌, arith}
use Rattle.std.proofs.lemmas.Bool.Decides.{nat_tests}
use Rattle.std.proofs.lemmas.Option.{same_Some}
use Rattle.net_base.specs.declared.history.Entry.{Entry}
use Rattle.net_base.specs.declared.reply.Reply.{Reply}
use Rattle.net_base.specs.declared.world.Script.{Script}
use Rattle.net_base.specs.declared.world.World.{World}
use Rattle.net_base.specs.Callers.{IsScript, IsCourier, IsClock}
use Rattle.net_base.specs.Calm.{owes}
use Rattle.net_base.specs.Duties.{Duty}
use Rattle.net_base.specs.Net.{after}
use Rattle.net_base.specs.Next.{answered, finished_by, own_replies, zone_of}
use Rattle.net_base.specs.Summary.{answered_by}
use Rattle.net_base.specs.Versions.{Tuples}
use Rattle.script_player.specs.Players.{IsAt, Playing}
use Rattle.plain_runner.specs.Callers.{HasRole, IsCallerKept, IsScriptAt}
use Rattle.plain_runner.specs.declared.caller.Caller.{Caller}
use Rattle.plain_runner.specs.declared.caller.Role.{Role}
use Rattle.plain_runner.specs.declared.caller.Role.TheVariants as role
use Rattle.net_base.proofs.Shared.{script_is}

no_courier : (s : Script) (m : ℕ) → IsScript s ≡ IsCourier m → ⊥
no_courier s m is = cc

no_clock : (s : Script) → IsScript s ≡ IsClock → ⊥
no_clock s is = cc

-- it is a script
pub script_kept : (w : World) (h : List Entry) (c : ℕ) (k : Caller) (s : Script) → IsCallerKept w h c k → slice_get w.scripts c ≡ Some s
    → (t : Bor Script) × (p : Playing) × (k.role ≡ role.Script t p) × IsScriptAt w h c s p k.before
script_kept w h c k s is at = by_role k.role refl is.stands.role_is
  where
    by_role : (x : Role) → k.role ≡ x → HasRole w h c x k.before → (t : Bor Script) × (p : Playing) × (k.role ≡ role.Script t p) × IsScriptAt w h c s p k.before
    by_role (role.Script t p) same has = (t, p, same, subst (λ (u : Script). IsScriptAt w h c u p k.before) (same_Some t.now s (sym has.is ∙ at)) has)
    by_role (role.Courier m) same has = absurd (no_courier s m (sym (script_is w c s at) ∙ has))
    by_role role.Clock same has = absurd (no_clock s (sym (script_is w c s at) ∙ has))

abbrev pub player_in : Role → Option Playing
player_in (role.Script t p) = Some p
player_in _ = None

role_players : (t u : Bor Script) (p q : Playing) → role.Script t p ≡ role.Script u q → p ≡ q
role_players t u p q same = same_Some p q (ap player_in same)

-- what its player tells of the steps that are finished
pub finished_is : (w : World) (h : List Entry) (c : ℕ) (k : Caller) (s : Script) (t : Bor Script) (p : Playing) (n : ℕ) → k.role ≡ role.Script t p
    → IsCallerKept w h c k → slice_get w.scripts c ≡ Some s → ((zone : Tuples) (u : Script) (rs : List Reply) → IsAt zone u rs p → n ≡ finished_by zone rs u)
    → n ≡ finished_by (zone_of w) (own_replies h c) s
finished_is w h c k s t p n role_is is at tells =
    let kept = script_kept w h c k s is at in
    let same : kept.1 ≡ p = role_players kept.0 t kept.1 p (sym kept.2 ∙ role_is) in
    tells (zone_of w) s (own_replies h c) (subst (λ (q : Playing). IsAt (zone_of w) s (own_replies h c) q) same kept.3.at)

other_role : (t : Bor Script) (p : Playing) (r : Role) → r ≡ role.Script t p → player_in r ≡ Some p
other_role t p r same = ap player_in same

-- no other caller is one
pub not_script : (w : World) (h : List Entry) (c : ℕ) (k : Caller) (s : Script) (r : Role) → k.role ≡ r → player_in r ≡ None
    → IsCallerKept w h c k → slice_get w.scripts c ≡ Some s → ⊥
not_script w h c k s r role_is none is at =
    let kept = script_kept w h c k s is at in
    none_some kept.1 (sym none ∙ other_role kept.0 kept.1 r (sym role_is ∙ kept.2))
  where
    none_some : (p : Playing) → None ≡ Some p → ⊥
    none_some p same = cc

-- answered steps, where something is owed and where nothing is
pub answered_owing : (w : World) (h : List Entry) (c : ℕ) (k : Caller) (s : Script) → IsCallerKept w h c k → slice_get w.scripts c ≡ Some s
    → owes (after w h) c ≡ true → k.before ≡ answered_by w h (c, s)
answered_owing w h c k s is at owing =
    let kept = script_kept w h c k s is at in
    subst (λ (b : Bool). k.before ≡ answered w h c b s) (sym owing) kept.3.before_is

pub answered_free : (w : World) (h : List Entry) (c n : ℕ) (s : Script) → owes (after w h) c ≡ false → n ≡ finished_by (zone_of w) (own_replies h c) s
    → n ≡ answered_by w h (c, s)
answered_free w h c n s free is = subst (λ (b : Bool). n ≡ answered w h c b s) (sym free) is

-- something is owed where the queue isn't empty
some_owed : (n : ℕ) → not (n == 0) ≡ nat_lt 0 n
some_owed n = grind (arith, nat_tests)

pub owes_so : (w : World) (h : List Entry) (c : ℕ) (k : Caller) (b : Bool) → b ≡ (length k.owed.list == 0) → IsCallerKept w h c k → not b ≡ owes (after w h) c
owes_so w h c k b empty is =
    ap not empty ∙ some_owed (length k.owed.list) ∙ ap (λ (ds : List Duty). nat_lt 0 (length ds)) is.owes
