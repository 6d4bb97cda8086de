-- In a legal history each reply to a session's own event is told.
use Rattle.std.proofs.Common.{◌≡◌, ℕ, zero, suc, ◌<◌, ◌==◌, Bool, true, false, cond, List, [], ◌∷◌, take, length, get_or, Option, Some, None, slice_get, refl, sym, ap, subst, ◌∙◌, arith}
use Rattle.std.specs.Prelude.{is_none, filter, map}
use Rattle.std.specs.List.{list_all}
use Rattle.std.proofs.lemmas.Bool.{eqb-true, false≢true, and_from}
use Rattle.std.proofs.lemmas.Option.{none-some, same_Some}
use Rattle.net_base.specs.declared.history.Entry.{Entry}
use Rattle.net_base.specs.declared.world.Script.{Script}
use Rattle.net_base.specs.declared.world.World.{World}
use Rattle.net_base.specs.Callers.{Caller, IsScript, caller_of}
use Rattle.net_base.specs.Duties.{Duty}
use Rattle.net_base.specs.Legal.{IsAsked, IsLegal, MayFollow, asked_by, cites_of}
use Rattle.net_base.specs.Net.{after, owed}
use Rattle.net_base.specs.Next.{by, next_of, own_replies, standing, zone_of}
use Rattle.net_base.specs.Scripts.{at_first}
use Rattle.net_base.specs.Steps.{Ask}
use Rattle.history_laws.proofs.Shared.{Each, each_from_get, IsNextEvent}
use Rattle.net_base.specs.SessionScript as streams
use Rattle.session_script.specs.InHistory.{IsSessionOf}
use Rattle.session_answers.specs.Told.{AreTold, is_reply_told}
use Rattle.net_export.proofs.SessionEvents.{IsSessionEvent, next_of_session}
use Rattle.net_export.proofs.ToldReplies.{entry_told}
use Rattle.net_base.proofs.Shared.{script_is}

-- ---- one entry

next_is : (o : Option Ask) (x : Entry) → IsNextEvent IsSessionEvent o → o ≡ Some (asked_by x) → IsSessionEvent x.actor x.event
next_is None x is same = absurd (none-some _ same)
next_is (Some ask) x is same = subst (λ (a : Ask). IsSessionEvent a.actor a.event) (same_Some ask (asked_by x) same) is

-- nothing owed the entry, so it is the next event
asked_next : (w : World) (bytes : List ℕ) (ds : List Duty) (k : Caller) (s : Script) (h : List Entry) (c : ℕ) (x : Entry) → k ≡ IsScript s → streams.IsScript bytes s.steps
    → is_none (cites_of ds) ≡ true → IsAsked ds k (next_of w k h c) x → IsSessionEvent x.actor x.event
asked_next w bytes (d ∷ ds) k s h c x script is free asked = absurd (false≢true free)
asked_next w bytes [] k s h c x script is free asked =
    next_is (standing w h c s).next x (next_of_session s.host bytes s.steps (at_first (zone_of w)) (own_replies h c) is)
    (subst (λ (l : Caller). IsAsked [] l (next_of w l h c) x) script asked)

own_reply_told : (w : World) (bytes : List ℕ) (h : List Entry) (c : ℕ) (x : Entry) → IsSessionOf w c bytes → MayFollow w h x → (x.caller == c) ≡ true → is_none x.cites ≡ true
    → is_reply_told x.reply ≡ true
own_reply_told w bytes h c x session may own free =
    let same : x.caller ≡ c = eqb-true x.caller c own in
    let asked : IsAsked (owed w h c) (caller_of w c) (next_of w (caller_of w c) h c) x =
    subst (λ (d : ℕ). IsAsked (owed w h d) (caller_of w d) (next_of w (caller_of w d) h d) x) same may.is_asked in
    let owes_none : is_none (cites_of (owed w h c)) ≡ true = ap (λ (d : ℕ). is_none (cites_of (owed w h d))) (sym same) ∙ (ap is_none (sym may.cites) ∙ free) in
    let event : IsSessionEvent x.actor x.event =
    asked_next w bytes (owed w h c) (caller_of w c) session.as_script h c x (script_is w c session.as_script session.stands) session.plays owes_none asked in
    entry_told w (after w h) x event may.is_ready may.answers

-- ---- all of them

abbrev OwnTold : ℕ → Entry → Type 0
OwnTold c x = (x.caller == c) ≡ true → is_none x.cites ≡ true → is_reply_told x.reply ≡ true

own_more : (c : ℕ) (x : Entry) (h : List Entry) → OwnTold c x → AreTold (own_replies h c) → AreTold (own_replies (x ∷ h) c)
own_more c x h one rest = by_caller (x.caller == c) refl
  where
    by_cites : (b : Bool) → (x.caller == c) ≡ true → is_none x.cites ≡ b
        → AreTold (map (λ (y : Entry). y.reply) (cond b (x ∷ filter (λ (y : Entry). is_none y.cites) (by h c)) (filter (λ (y : Entry). is_none y.cites) (by h c))))
    by_cites true own free = and_from (is_reply_told x.reply) (list_all is_reply_told (own_replies h c)) (one own free) rest
    by_cites false own owed = rest

    by_caller : (b : Bool) → (x.caller == c) ≡ b → AreTold (map (λ (y : Entry). y.reply) (filter (λ (y : Entry). is_none y.cites) (cond b (x ∷ by h c) (by h c))))
    by_caller true own = by_cites (is_none x.cites) own refl
    by_caller false other = rest

own_told : (c : ℕ) (h : List Entry) → Each (OwnTold c) h → AreTold (own_replies h c)
own_told c [] each = refl
own_told c (x ∷ h) each = own_more c x h each.0 (own_told c h each.1)

stands_at : (h : List Entry) (k : ℕ) (d : Entry) → k < length h → slice_get h k ≡ Some (get_or h k d)
stands_at [] k d lt = absurd (omega (arith, lt))
stands_at (x ∷ h) zero d lt = refl
stands_at (x ∷ h) (suc k) d lt = stands_at h k d (omega (arith, lt))

pub session_told : (w : World) (h : List Entry) (c : ℕ) (bytes : List ℕ) → IsLegal w h → IsSessionOf w c bytes → AreTold (own_replies h c)
session_told w h c bytes legal session =
    own_told c h (each_from_get (OwnTold c) h (λ k d lt own free.
    own_reply_told w bytes (take k h) c (get_or h k d) session (legal k (get_or h k d) (stands_at h k d lt)) own free))
