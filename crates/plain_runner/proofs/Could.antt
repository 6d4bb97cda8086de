-- Whether callers could record, as a run tells it.
use Rattle.std.proofs.Common.{◌≡◌, ℕ, zero, suc, ◌+◌, ◌<◌, ◌≤◌, ◌==◌, ◌&&◌, ◌||◌, Bool, true, false, not, List, [], ◌∷◌, length, Some, codes, slice_get, Bor, nat_lt, refl, sym, ap, subst, ◌∙◌, arith}
use Rattle.std.specs.List.{list_any}
use Rattle.std.proofs.lemmas.Bool.{true≢false, eqb-true, lt-ltb, and_left, and_right}
use Rattle.std.proofs.lemmas.Bool.Decides.{nat_tests}
use Rattle.std.proofs.lemmas.Option.{same_Some}
use Rattle.net_base.specs.declared.history.Entry.{Entry}
use Rattle.net_base.specs.declared.reply.Reply.{Reply}
use Rattle.net_base.specs.declared.world.Script.{Script}
use Rattle.net_base.specs.declared.world.World.{World}
use Rattle.net_base.specs.Callers.{caller_count, clock_number}
use Rattle.net_base.specs.Calm.{calm, callers, most_entries, movable, owes, unfinished}
use Rattle.net_base.specs.Duties.{Duty}
use Rattle.net_base.specs.Net.{after, opening_net}
use Rattle.net_base.specs.Next.{by, finished_by, is_unfinished, own_replies, zone_of}
use Rattle.net_base.specs.Summary.{end_word}
use Rattle.net_base.specs.Tasks.{nobody}
use Rattle.net_base.specs.Versions.{Tuples}
use Rattle.script_player.specs.Players.{IsAt, Playing, position_after}
use Rattle.history_laws.proofs.Shared.{past_after}
use Rattle.plain_runner.specs.Callers.{HasRole, IsScriptAt}
use Rattle.plain_runner.specs.Waiting.{could_go}
use Rattle.plain_runner.specs.Tracks.{Tracks}
use Rattle.plain_runner.specs.Turns.{may_turn}
use Rattle.plain_runner.specs.declared.caller.Caller.{Caller}
use Rattle.plain_runner.specs.declared.caller.Role.{Role}
use Rattle.plain_runner.specs.declared.caller.Role.TheVariants as role
use Rattle.plain_runner.specs.declared.runner.Runner.{Runner}
use Rattle.history_laws.proofs.Shared.{is_busy}
use Rattle.plain_runner.proofs.Halting.{NobodyCould, busy_unfinished, done_word, full_word, idle_calm, limit_word, moment_within, other_word, stopped_word}
use Rattle.net_base.proofs.Shared.{passed_range, unpassed, there_at}
use Rattle.plain_runner.proofs.Standing.{script_role, unfinished_from, unfinished_more, unfinished_none}

pub past_is : (w : World) (h : List Entry) → (after w h).past ≡ h
past_is w h = past_after w (opening_net w) h

-- One caller.

pub could_owing : (w : World) (r : Runner) (c : ℕ) (k : Caller) (b : Bool) → Tracks w r → slice_get r.callers.items c ≡ Some k
    → b ≡ (length k.owed.list == 0) → b ≡ false → true ≡ could_go w r.history.entries c
could_owing w r c k b s at empty some = by_owed k.owed.list refl (s.callers_are.each c k at).owes (sym empty ∙ some)
  where
    by_owed : (ds : List Duty) → k.owed.list ≡ ds → k.owed.list ≡ (after w r.history.entries).owed c → (length k.owed.list == 0) ≡ false → true ≡ could_go w r.history.entries c
    by_owed [] same owed some = let e : true ≡ false = sym (ap (λ (ds : List Duty). length ds == 0) same) ∙ some in absurd (true≢false e)
    by_owed (d ∷ ds) same owed some = rw (sym owed ∙ same, lt-ltb 0 (length (d ∷ ds)) (omega arith)) refl

-- whether it has a follow-up event
pub owes_told : (w : World) (r : Runner) (c : ℕ) (k : Caller) (b : Bool) → Tracks w r → slice_get r.callers.items c ≡ Some k → b ≡ (length k.owed.list == 0)
    → not b ≡ owes (after w r.history.entries) c
owes_told w r c k b s at empty =
    ap not empty ∙ some (length k.owed.list) ∙ ap (λ (ds : List Duty). nat_lt 0 (length ds)) (s.callers_are.each c k at).owes
  where
    some : (n : ℕ) → not (n == 0) ≡ nat_lt 0 n
    some zero = refl
    some (suc n) = grind (arith, nat_tests)

pub could_free : (w : World) (r : Runner) (c : ℕ) (k : Caller) (b may : Bool) → Tracks w r → slice_get r.callers.items c ≡ Some k
    → b ≡ (length k.owed.list == 0) → b ≡ true
    → may ≡ may_turn w r.history.entries c → may ≡ could_go w r.history.entries c
could_free w r c k b may s at empty none is = by_owed ((after w r.history.entries).owed c) refl
  where
    nothing : length ((after w r.history.entries).owed c) ≡ 0
    nothing = ap (λ (ds : List Duty). length ds) (sym (s.callers_are.each c k at).owes) ∙ eqb-true (length k.owed.list) 0 (sym empty ∙ none)

    by_owed : (ds : List Duty) → (after w r.history.entries).owed c ≡ ds → may ≡ could_go w r.history.entries c
    by_owed [] same = is ∙ rw same refl
    by_owed (d ∷ ds) same = absurd (omega (arith, ap (λ (es : List Duty). length es) same, nothing))

-- All callers.

pub busy_so : (w : World) (r : Runner) (b : Bool) → b ≡ list_any (could_go w r.history.entries) (callers w) → b ≡ true → calm w (after w r.history.entries) ≡ false
busy_so w r b is goes =
    let p = passed_range (could_go w r.history.entries) (caller_count w) 0 (sym is ∙ goes) in
    is_busy nobody w (after w r.history.entries) p.number (omega (arith, p.below)) p.passes

pub idle_so : (w : World) (r : Runner) (b : Bool) → b ≡ list_any (could_go w r.history.entries) (callers w) → b ≡ false → NobodyCould w (after w r.history.entries)
idle_so w r b is none = record { none = λ c lt. unpassed (could_go w r.history.entries) (caller_count w) c (sym is ∙ none) lt }

pub full_is : (w : World) (h : List Entry) (c : ℕ) (b : Bool) → b ≡ (length (by h c) == most_entries) → (length (by (after w h).past c) == most_entries) ≡ b
full_is w h c b is = ap (λ (p : List Entry). length (by p c) == most_entries) (past_is w h) ∙ sym is

-- The word.

pub limit_told : (w : World) (r : Runner) (c : ℕ) (full may : Bool) → Tracks w r → calm w (after w r.history.entries) ≡ false → c < length r.callers.items
    → full ≡ (length (by r.history.entries c) == most_entries) → full ≡ true → may ≡ could_go w r.history.entries c → may ≡ true → codes "limit" ≡ end_word w (after w r.history.entries)
limit_told w r c full may s busy lt full_so is_full may_so may_is =
    limit_word w (after w r.history.entries) c busy (omega (arith, lt, s.callers_are.count)) (full_is w r.history.entries c full full_so ∙ is_full) (sym may_so ∙ may_is)

pub none_told : (w : World) (r : Runner) (n : ℕ) → Tracks w r → calm w (after w r.history.entries) ≡ false → caller_count w ≤ n
    → ((c : ℕ) → c < n → ((length (by r.history.entries c) == most_entries) && could_go w r.history.entries c) ≡ false) → codes "unfinished" ≡ end_word w (after w r.history.entries)
none_told w r n s busy le none =
    busy_unfinished w (after w r.history.entries) busy (λ c lt.
    ap (λ (p : List Entry). (length (by p c) == most_entries) && could_go w r.history.entries c) (past_is w r.history.entries) ∙ none c (omega (arith, lt, le)))

pub done_told : (w : World) (r : Runner) (goes more : Bool) → goes ≡ list_any (could_go w r.history.entries) (callers w) → goes ≡ false
    → more ≡ unfinished w (after w r.history.entries) → more ≡ false
    → codes "done" ≡ end_word w (after w r.history.entries)
done_told w r goes more goes_so idle more_so none = done_word w (after w r.history.entries) (idle_so w r goes goes_so idle) (sym more_so ∙ none)

pub stopped_told : (w : World) (r : Runner) (goes more : Bool) → Tracks w r → goes ≡ list_any (could_go w r.history.entries) (callers w) → goes ≡ false
    → more ≡ unfinished w (after w r.history.entries) → more ≡ true
    → r.moment ≡ w.end → codes "stopped" ≡ end_word w (after w r.history.entries)
stopped_told w r goes more s goes_so idle more_so some ends =
    stopped_word w (after w r.history.entries) (idle_so w r goes goes_so idle) (sym more_so ∙ some) (sym s.moment_is ∙ ends)

pub full_told : (w : World) (r : Runner) (goes more full : Bool) (n : ℕ) → Tracks w r → goes ≡ list_any (could_go w r.history.entries) (callers w) → goes ≡ false
    → more ≡ unfinished w (after w r.history.entries) → more ≡ true
    → (r.moment ≡ w.end → ⊥) → n ≡ clock_number w → full ≡ (length (by r.history.entries n) == most_entries) → full ≡ true
    → codes "limit" ≡ end_word w (after w r.history.entries)
full_told w r goes more full n s goes_so idle more_so some apart at full_so is_full =
    full_word w (after w r.history.entries) (idle_so w r goes goes_so idle) (sym more_so
    ∙ some) (λ e. apart (s.moment_is ∙ e)) (moment_within w r.history.entries s.history.legal s.history.timed)
    (subst (λ (k : ℕ). (length (by (after w r.history.entries).past k) == most_entries) ≡ true) at (full_is w r.history.entries n full full_so ∙ is_full))

pub other_told : (w : World) (r : Runner) (goes more full : Bool) (n : ℕ) → Tracks w r → goes ≡ list_any (could_go w r.history.entries) (callers w) → goes ≡ false
    → more ≡ unfinished w (after w r.history.entries) → more ≡ true
    → (r.moment ≡ w.end → ⊥) → n ≡ clock_number w → full ≡ (length (by r.history.entries n) == most_entries) → full ≡ false
    → codes "unfinished" ≡ end_word w (after w r.history.entries)
other_told w r goes more full n s goes_so idle more_so some apart at full_so few =
    other_word w (after w r.history.entries) (idle_so w r goes goes_so idle) (sym more_so ∙ some) (λ e. apart (s.moment_is ∙ e))
    (subst (λ (k : ℕ). (length (by (after w r.history.entries).past k) == most_entries) ≡ false) at (full_is w r.history.entries n full full_so ∙ few))

-- Whether the clock may move.

pub moves_busy : (w : World) (r : Runner) (goes : Bool) → goes ≡ list_any (could_go w r.history.entries) (callers w) → goes ≡ true → false ≡ movable w (after w r.history.entries)
moves_busy w r goes goes_so busy = sym (and_left (calm w (after w r.history.entries)) _ (busy_so w r goes goes_so busy))

pub moves_finished : (w : World) (r : Runner) (more : Bool) → more ≡ unfinished w (after w r.history.entries) → more ≡ false → false ≡ movable w (after w r.history.entries)
moves_finished w r more more_so none =
    sym (and_right (calm w (after w r.history.entries)) _ (and_left (unfinished w (after w r.history.entries)) _ (sym more_so ∙ none)))

pub moves_told : (w : World) (r : Runner) (goes more : Bool) → Tracks w r → goes ≡ list_any (could_go w r.history.entries) (callers w) → goes ≡ false
    → more ≡ unfinished w (after w r.history.entries) → more ≡ true → nat_lt r.moment w.end ≡ movable w (after w r.history.entries)
moves_told w r goes more s goes_so idle more_so some =
    ap (λ (m : ℕ). nat_lt m w.end) s.moment_is
    ∙ sym (by_both (calm w (after w r.history.entries)) (unfinished w (after w r.history.entries)) (nat_lt (after w r.history.entries).moment w.end)
    (idle_calm w (after w r.history.entries) (idle_so w r goes goes_so idle)) (sym more_so ∙ some))
  where
    by_both : (a b c : Bool) → a ≡ true → b ≡ true → (a && (b && c)) ≡ c
    by_both a b c first second = rw (first, second) refl

-- Scripts.

abbrev is_script_role : Role → Bool
is_script_role (role.Script s p) = true
is_script_role _ = false

-- the caller of a script has no other role
pub no_courier : (w : World) (r : Runner) (c : ℕ) (k : Caller) (s : Script) (x : Role) → Tracks w r → slice_get r.callers.items c ≡ Some k
    → slice_get w.scripts c ≡ Some s → k.role ≡ x → is_script_role x ≡ false → ⊥
no_courier w r c k s x st at is same other =
    let has = script_role w r c k s st at is in
    true≢false (sym (ap is_script_role has.2) ∙ ap is_script_role same ∙ other)

pub finished_so : (w : World) (r : Runner) (c n : ℕ) (k : Caller) (s : Script) (t : Bor Script) (p : Playing) → Tracks w r
    → slice_get r.callers.items c ≡ Some k → slice_get w.scripts c ≡ Some s
    → k.role ≡ role.Script t p → ((zone : Tuples) (u : Script) (rs : List Reply) → IsAt zone u rs p → n ≡ finished_by zone rs u) → n ≡ finished_by (zone_of w) (own_replies r.history.entries c) s
finished_so w r c n k s t p st at is same tells =
    let has : IsScriptAt w r.history.entries c t.now p k.before = subst (λ (x : Role). HasRole w r.history.entries c x k.before) same
    (st.callers_are.each c k at).stands.role_is in
    tells (zone_of w) t.now (own_replies r.history.entries c) has.at ∙ ap (λ (u : Script). finished_by (zone_of w) (own_replies r.history.entries c) u) (same_Some t.now s (sym has.is ∙ is))

pub left_so : (w : World) (r : Runner) (c : ℕ) (b : Bool) (k : Caller) (s : Script) (t : Bor Script) (p : Playing) → Tracks w r
    → slice_get r.callers.items c ≡ Some k → slice_get w.scripts c ≡ Some s
    → k.role ≡ role.Script t p → ((zone : Tuples) (rs : List Reply) → IsAt zone t.now rs p → b ≡ nat_lt 0 (length (position_after zone t.now rs).left))
    → b ≡ is_unfinished w r.history.entries c s
left_so w r c b k s t p st at is same tells =
    let has : IsScriptAt w r.history.entries c t.now p k.before = subst (λ (x : Role). HasRole w r.history.entries c x k.before) same
    (st.callers_are.each c k at).stands.role_is in
    tells (zone_of w) (own_replies r.history.entries c) has.at ∙ ap (λ (u : Script). is_unfinished w r.history.entries c u) (same_Some t.now s (sym has.is ∙ is))

left_there : (w : World) (h : List Entry) (n : ℕ) (s : Script) (b : Bool) → b ≡ is_unfinished w h n s → is_unfinished w (after w h).past n s ≡ b
left_there w h n s b is = ap (λ (p : List Entry). is_unfinished w p n s) (past_is w h) ∙ sym is

pub left_here : (w : World) (h : List Entry) (n : ℕ) (b v : Bool) → n < length w.scripts
    → ((s : Script) → slice_get w.scripts n ≡ Some s → b ≡ is_unfinished w h n s)
    → unfinished_from w h n ≡ v → b ≡ true → true ≡ v
left_here w h n b v lt is all some =
    let s = there_at w.scripts n lt in
    sym (unfinished_more w h n s.0 s.1 ∙ ap (λ (c : Bool). c || unfinished_from w h (n + 1)) (left_there w h n s.0 b (is s.0 s.1) ∙ some)) ∙ all

pub left_next : (w : World) (h : List Entry) (n : ℕ) (b v : Bool) → n < length w.scripts
    → ((s : Script) → slice_get w.scripts n ≡ Some s → b ≡ is_unfinished w h n s)
    → unfinished_from w h n ≡ v → b ≡ false → unfinished_from w h (n + 1) ≡ v
left_next w h n b v lt is all none =
    let s = there_at w.scripts n lt in
    sym (unfinished_more w h n s.0 s.1 ∙ ap (λ (c : Bool). c || unfinished_from w h (n + 1)) (left_there w h n s.0 b (is s.0 s.1) ∙ none)) ∙ all

pub left_none : (w : World) (h : List Entry) (n : ℕ) (v : Bool) → length w.scripts ≤ n → unfinished_from w h n ≡ v → false ≡ v
left_none w h n v le all = sym (unfinished_none w h n le) ∙ all
