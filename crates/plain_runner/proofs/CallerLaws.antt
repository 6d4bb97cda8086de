-- A caller before, while and after its turn is recorded.
use Rattle.std.proofs.Common.{◌≡◌, ℕ, ◌-◌, true, false, List, [], ◌∷◌, ◌++◌, drop, take, length, Option, Some, None, IsSome, is_some, slice_get, refl, sym, ap, subst, ◌∙◌}
use Rattle.std.proofs.lemmas.Bool.{true≢false, false≢true}
use Rattle.net_base.specs.declared.history.Entry.{Entry}
use Rattle.net_base.specs.declared.history.With.TheVariants as given
use Rattle.net_base.specs.declared.history.Work.{Work}
use Rattle.net_base.specs.declared.reply.Reply.{Reply}
use Rattle.net_base.specs.declared.world.Script.{Script}
use Rattle.net_base.specs.declared.world.World.{World}
use Rattle.net_base.specs.Actors.{actor_step}
use Rattle.net_base.specs.Callers.{Caller as Called, caller_of}
use Rattle.net_base.specs.Calm.{is_ready}
use Rattle.net_base.specs.Duties.{Duty}
use Rattle.net_base.specs.Legal.{IsNext, asked_by}
use Rattle.net_base.specs.Net.{after, owed}
use Rattle.net_base.specs.Next.{finished_by, next_recorded, next_of, own_replies, zone_of}
use Rattle.net_base.specs.Versions.{Tuples}
use Rattle.net_base.specs.Steps.{Ask}
use Rattle.script_player.specs.Players.{IsAt, Playing, next_after}
use Rattle.script_task.specs.Fitting.{fits}
use Rattle.plain_runner.specs.declared.caller.Caller.{Caller}
use Rattle.plain_runner.specs.declared.turn.Turn.{Turn}
use Rattle.plain_runner.specs.Callers.{IsCallerKept, IsEntryOf, IsScriptAt}
use Rattle.plain_runner.specs.Turns.{AreOwn, IsOwnTurn, asks_of, may_turn, may_turn_by}
use Rattle.plain_runner.proofs.Replies.{before_last, next_replies}
use Rattle.net_base.proofs.Shared.{script_is, first_of, none_first}

-- What comes next.

pub next_of_script : (w : World) (h : List Entry) (c : ℕ) (s : Script) → slice_get w.scripts c ≡ Some s → next_recorded w h c ≡ next_after (zone_of w) s (own_replies h c)
next_of_script w h c s is = ap (λ (k : Called). next_of w k h c) (script_is w c s is)

-- Whether it may record.

pub owes_first : (w : World) (h : List Entry) (c : ℕ) (k : Caller) (d : Duty) → IsCallerKept w h c k → slice_get k.owed.list 0 ≡ Some d
    → owed w h c ≡ d ∷ drop 1 k.owed.list
owes_first w h c k d kept is = sym kept.owes ∙ first_of k.owed.list d is

pub owes_none : (w : World) (h : List Entry) (c : ℕ) (k : Caller) → IsCallerKept w h c k → slice_get k.owed.list 0 ≡ None → owed w h c ≡ []
owes_none w h c k kept is = sym kept.owes ∙ none_first k.owed.list is

pub may_duty : (w : World) (h : List Entry) (c : ℕ) (k : Caller) (d : Duty) (now : ℕ) → IsCallerKept w h c k → slice_get k.owed.list 0 ≡ Some d
    → now ≡ (after w h).moment
    → is_some (actor_step w d.actor ((after w h).actors d.actor) now (record { event = d.event; with = d.with })) ≡ may_turn w h c
may_duty w h c k d now kept is now_is =
    ap (λ (m : ℕ). is_some (actor_step w d.actor ((after w h).actors d.actor) m (record { event = d.event; with = d.with }))) now_is
    ∙ sym (ap (λ (ds : List Duty). may_turn_by w (after w h) c ds) (owes_first w h c k d kept is))

may_next : (w : World) (h : List Entry) (c : ℕ) (k : Caller) → (after w h).past ≡ h → IsCallerKept w h c k → slice_get k.owed.list 0 ≡ None
    → may_turn w h c ≡ is_ready w (after w h) (asks_of k.next)
may_next w h c k past kept is =
    ap (λ (ds : List Duty). may_turn_by w (after w h) c ds) (owes_none w h c k kept is)
    ∙ ap (λ (l : List Entry). is_ready w (after w h) (next_of w (caller_of w c) l c)) past
    ∙ ap (λ (o : Option Ask). is_ready w (after w h) o) (sym kept.stands.next_is)

own_work : (t : Turn) → IsOwnTurn t → t.work ≡ record { event = t.work.event; with = given.Nothing }
own_work t own = ap (λ (g : _). record { event = t.work.event; with = g }) own.nothing

pub may_own : (w : World) (h : List Entry) (c : ℕ) (k : Caller) (t : Turn) (now : ℕ) → (after w h).past ≡ h → IsCallerKept w h c k
    → slice_get k.owed.list 0 ≡ None → k.next ≡ Some t → now ≡ (after w h).moment
    → is_some (actor_step w t.actor ((after w h).actors t.actor) now t.work) ≡ may_turn w h c
may_own w h c k t now past kept is next_recorded now_is =
    let own : IsOwnTurn t = subst (λ (o : Option Turn). AreOwn o) next_recorded kept.stands.own in
    ap (λ (m : ℕ). is_some (actor_step w t.actor ((after w h).actors t.actor) m t.work)) now_is
    ∙ ap (λ (work : Work). is_some (actor_step w t.actor ((after w h).actors t.actor) (after w h).moment work)) (own_work t own)
    ∙ sym (may_next w h c k past kept is ∙ ap (λ (o : Option Turn). is_ready w (after w h) (asks_of o)) next_recorded)

pub may_not : (w : World) (h : List Entry) (c : ℕ) (k : Caller) → (after w h).past ≡ h → IsCallerKept w h c k → slice_get k.owed.list 0 ≡ None → k.next ≡ None
    → false ≡ may_turn w h c
may_not w h c k past kept is next_recorded = sym (may_next w h c k past kept is ∙ ap (λ (o : Option Turn). is_ready w (after w h) (asks_of o)) next_recorded)

-- Its turn is taken.

-- it may record only where there is a turn
pub some_next : (w : World) (h : List Entry) (c : ℕ) (k : Caller) → (after w h).past ≡ h → IsCallerKept w h c k → slice_get k.owed.list 0 ≡ None
    → may_turn w h c ≡ true → IsSome k.next
some_next w h c k past kept is may = by_next k.next refl
  where
    by_next : (o : Option Turn) → k.next ≡ o → IsSome k.next
    by_next None none = absurd (false≢true (may_not w h c k past kept is none ∙ may))
    by_next (Some t) some = subst (λ (o : Option Turn). IsSome o) (sym some) refl

-- It goes on.

-- a player takes a reply that fits
abbrev pub Tells : Script → Playing → Playing → Reply → Type 0
Tells s p told reply = (zone : Tuples) (rs : List Reply) (ask : Ask) → IsAt zone s rs p → next_after zone s rs ≡ Some ask → fits ask.event reply ≡ true
    → IsAt zone s (rs ++ reply ∷ []) told

-- the reply of a script's event is told
script_goes : (w : World) (h : List Entry) (c : ℕ) (s : Script) (p told : Playing) (reply : Reply) (x : Entry) (earlier : ℕ)
    → Tells s p told reply → IsScriptAt w h c s p earlier → IsEntryOf w h c None reply x → IsAt (zone_of w) s (own_replies (h ++ x ∷ []) c) told
script_goes w h c s p told reply x earlier tells at is =
    let came : next_recorded w h c ≡ Some (asked_by x) = subst (λ (k : Called). IsNext k (next_recorded w h c) x) (script_is w c s at.is) (is.came_next refl) in
    let more : own_replies (h ++ x ∷ []) c ≡ own_replies h c ++ reply ∷ [] =
    next_replies h x c is.caller_is is.cites_is ∙ ap (λ (r : Reply). own_replies h c ++ r ∷ []) is.reply_is in
    subst (λ (rs : List Reply). IsAt (zone_of w) s rs told) (sym more)
    (tells (zone_of w) (own_replies h c) (asked_by x) at.at (sym (next_of_script w h c s at.is) ∙ came) is.fitting)

-- what a script goes on as
pub stands_script : (w : World) (h : List Entry) (c : ℕ) (s : Script) (p told asked : Playing) (earlier before : ℕ)
    → (event : Option Turn) (reply : Reply) (x : Entry)
    → ((zone : Tuples) (rs : List Reply) → IsAt zone s rs p → before ≡ finished_by zone rs s)
    → Tells s p told reply
    → ((zone : Tuples) (rs : List Reply) → IsAt zone s rs told → asks_of event ≡ next_after zone s rs)
    → ((zone : Tuples) (rs : List Reply) → IsAt zone s rs told → IsAt zone s rs asked)
    → IsScriptAt w h c s p earlier → IsEntryOf w h c None reply x
    → IsScriptAt w (h ++ x ∷ []) c s asked before × (asks_of event ≡ next_recorded w (h ++ x ∷ []) c)
stands_script w h c s p told asked earlier before event reply x finished tells nexts same at is =
    let there = script_goes w h c s p told reply x earlier tells at is in
    let more : own_replies (h ++ x ∷ []) c ≡ own_replies h c ++ reply ∷ [] =
    next_replies h x c is.caller_is is.cites_is ∙ ap (λ (r : Reply). own_replies h c ++ r ∷ []) is.reply_is in
    let last : take (length (own_replies (h ++ x ∷ []) c) - 1) (own_replies (h ++ x ∷ []) c) ≡ own_replies h c =
    ap (λ (rs : List Reply). take (length rs - 1) rs) more ∙ before_last (own_replies h c) reply in (
      record {
        is = at.is;
        at = same (zone_of w) (own_replies (h ++ x ∷ []) c) there;
        before_is = finished (zone_of w) (own_replies h c) at.at ∙ sym (ap (λ (rs : List Reply). finished_by (zone_of w) rs s) last);
      },
      nexts (zone_of w) (own_replies (h ++ x ∷ []) c) there ∙ sym (next_of_script w (h ++ x ∷ []) c s at.is),
    )

pub cites_none : (o : Option ℕ) → is_some o ≡ false → o ≡ None
cites_none None is = refl
cites_none (Some n) is = absurd (true≢false is)
