-- How far the scripts of a run are.
use Rattle.std.proofs.Common.{◌≡◌, ℕ, ◌+◌, ◌<◌, ◌≤◌, ◌==◌, ◌||◌, Bool, true, false, List, [], ◌∷◌, length, drop, Some, slice_get, sum_by, Bor, refl, sym, ap, subst, ◌∙◌, arith}
use Rattle.std.specs.List.{list_any, enumerate_from}
use Rattle.std.proofs.lemmas.Bool.{true≢false, eqb-true, lt-ltb}
use Rattle.std.proofs.lemmas.Option.{same_Some}
use Rattle.std.proofs.lemmas.List.Sums.{sum_by-cons}
use Rattle.net_base.specs.declared.history.Entry.{Entry}
use Rattle.net_base.specs.declared.world.Script.{Script}
use Rattle.net_base.specs.declared.world.World.{World}
use Rattle.net_base.specs.Callers.{Caller as AnyCaller, IsScript}
use Rattle.net_base.specs.Duties.{Duty}
use Rattle.net_base.specs.Net.{after}
use Rattle.net_base.specs.Next.{finished_by, is_unfinished, own_replies, zone_of}
use Rattle.net_base.specs.Summary.{answered_by}
use Rattle.script_player.specs.Players.{Playing}
use Rattle.plain_runner.specs.Callers.{HasRole, IsScriptAt}
use Rattle.plain_runner.specs.Tracks.{Tracks}
use Rattle.plain_runner.specs.declared.caller.Caller.{Caller}
use Rattle.plain_runner.specs.declared.caller.Role.{Role}
use Rattle.plain_runner.specs.declared.caller.Role.TheVariants as role
use Rattle.plain_runner.specs.declared.runner.Runner.{Runner}
use Rattle.net_base.proofs.Shared.{there_at, next_one, past_all, script_is}

-- One script.

abbrev is_script : AnyCaller → Bool
is_script (IsScript s) = true
is_script _ = false

-- the caller of a script is one
pub script_role : (w : World) (r : Runner) (c : ℕ) (k : Caller) (s : Script) → Tracks w r → slice_get r.callers.items c ≡ Some k
    → slice_get w.scripts c ≡ Some s
    → (t : Bor Script) × (p : Playing) × (k.role ≡ role.Script t p) × IsScriptAt w r.history.entries c s p k.before
script_role w r c k s st at is = by_role k.role refl (st.callers_are.each c k at).stands.role_is
  where
    by_role : (x : Role) → k.role ≡ x → HasRole w r.history.entries c x k.before
        → (t : Bor Script) × (p : Playing) × (k.role ≡ role.Script t p) × IsScriptAt w r.history.entries c s p k.before
    by_role (role.Script t p) same has = (t, p, same, subst (λ (u : Script). IsScriptAt w r.history.entries c u p k.before) (same_Some t.now s (sym has.is ∙ is)) has)
    by_role (role.Courier m) same has = let e : true ≡ false = ap is_script (sym (script_is w c s is) ∙ has) in absurd (true≢false e)
    by_role role.Clock same has = let e : true ≡ false = ap is_script (sym (script_is w c s is) ∙ has) in absurd (true≢false e)

-- Rows of scripts.

-- the scripts from the n-th on, of which some isn't finished
abbrev pub unfinished_from : World → List Entry → ℕ → Bool
unfinished_from w h n = list_any (λ (z : ℕ × Script). is_unfinished w (after w h).past z.0 z.1) (enumerate_from n (drop n w.scripts))

abbrev pub answered_from : World → List Entry → ℕ → ℕ
answered_from w h n = sum_by (answered_by w h) (enumerate_from n (drop n w.scripts))

pub unfinished_more : (w : World) (h : List Entry) (n : ℕ) (s : Script) → slice_get w.scripts n ≡ Some s
    → unfinished_from w h n ≡ (is_unfinished w (after w h).past n s || unfinished_from w h (n + 1))
unfinished_more w h n s is = rw (next_one w.scripts n s is) refl

answered_more : (w : World) (h : List Entry) (n : ℕ) (s : Script) → slice_get w.scripts n ≡ Some s
    → answered_from w h n ≡ answered_by w h (n, s) + answered_from w h (n + 1)
answered_more w h n s is = ap (λ (xs : List Script). sum_by (answered_by w h) (enumerate_from n xs)) (next_one w.scripts n s is)
    ∙ sum_by-cons (answered_by w h) (n, s) (enumerate_from (n + 1) (drop (n + 1) w.scripts))

pub unfinished_none : (w : World) (h : List Entry) (n : ℕ) → length w.scripts ≤ n → unfinished_from w h n ≡ false
unfinished_none w h n le = ap (λ (xs : List Script). list_any (λ (z : ℕ × Script). is_unfinished w (after w h).past z.0 z.1) (enumerate_from n xs))
    (past_all w.scripts n le)

pub answered_next : (w : World) (h : List Entry) (n a x v : ℕ) → n < length w.scripts
    → ((s : Script) → slice_get w.scripts n ≡ Some s → x ≡ answered_by w h (n, s))
    → a + answered_from w h n ≡ v → (a + x) + answered_from w h (n + 1) ≡ v
answered_next w h n a x v lt is all =
    let s = there_at w.scripts n lt in
    omega (arith, all, is s.0 s.1, answered_more w h n s.0 s.1)

pub answered_all : (w : World) (h : List Entry) (n a v : ℕ) → length w.scripts ≤ n → a + answered_from w h n ≡ v → a ≡ v
answered_all w h n a v le all =
    let none : answered_from w h n ≡ 0 = ap (λ (xs : List Script). sum_by (answered_by w h) (enumerate_from n xs)) (past_all w.scripts n le) in
    omega (arith, all, none)

-- Answered steps.

pub answered_owing : (w : World) (r : Runner) (c : ℕ) (s : Script) (k : Caller) (b : Bool) → Tracks w r → slice_get r.callers.items c ≡ Some k
    → slice_get w.scripts c ≡ Some s
    → b ≡ (length k.owed.list == 0) → b ≡ false → k.before ≡ answered_by w r.history.entries (c, s)
answered_owing w r c s k b st at is empty some = by_owed (k.owed.list) refl (st.callers_are.each c k at).owes (sym empty ∙ some)
  where
    script : (t : Bor Script) × (p : Playing) × (k.role ≡ role.Script t p) × IsScriptAt w r.history.entries c s p k.before
    script = script_role w r c k s st at is

    by_owed : (ds : List Duty) → k.owed.list ≡ ds → k.owed.list ≡ (after w r.history.entries).owed c → (length k.owed.list == 0) ≡ false
        → k.before ≡ answered_by w r.history.entries (c, s)
    by_owed [] same owed some = let e : true ≡ false = sym (ap (λ (ds : List Duty). length ds == 0) same) ∙ some in absurd (true≢false e)
    by_owed (d ∷ ds) same owed some = rw (sym owed ∙ same, lt-ltb 0 (length (d ∷ ds)) (omega arith)) script.3.before_is

pub answered_free : (w : World) (r : Runner) (c n : ℕ) (s : Script) (k : Caller) (b : Bool) → Tracks w r → slice_get r.callers.items c ≡ Some k
    → slice_get w.scripts c ≡ Some s
    → b ≡ (length k.owed.list == 0) → b ≡ true → n ≡ finished_by (zone_of w) (own_replies r.history.entries c) s → n ≡ answered_by w r.history.entries (c, s)
answered_free w r c n s k b st at is empty none fin = by_owed (k.owed.list) refl (st.callers_are.each c k at).owes (sym empty ∙ none)
  where
    by_owed : (ds : List Duty) → k.owed.list ≡ ds → k.owed.list ≡ (after w r.history.entries).owed c → (length k.owed.list == 0) ≡ true
        → n ≡ answered_by w r.history.entries (c, s)
    by_owed [] same owed none = rw (sym owed ∙ same) fin
    by_owed (d ∷ ds) same owed none = absurd (omega (arith, ap (λ (ds : List Duty). length ds) same, eqb-true (length k.owed.list) 0 none))
