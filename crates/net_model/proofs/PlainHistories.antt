-- Every legal history of a world is plain.
use Rattle.std.proofs.Common.{◌≡◌, ℕ, ◌==◌, nat_lt, List, [], ◌∷◌, ◌++◌, length, Option, Some, None, slice_get, refl, sym, ap, subst}
use Rattle.std.specs.Prelude.{is_none}
use Rattle.std.specs.List.{list_all}
use Rattle.std.specs.Option.{option_map_or}
use Rattle.std.proofs.lemmas.Bool.{and_parts, cond_both}
use Rattle.net_base.specs.declared.actor.ActorName.{ActorName}
use Rattle.net_base.specs.declared.actor.ActorName.TheVariants as name
use Rattle.net_base.specs.declared.event.Event.{Event}
use Rattle.net_base.specs.declared.event.Event.TheVariants as event
use Rattle.net_base.specs.declared.history.Entry.{Entry}
use Rattle.net_base.specs.declared.world.Script.{Script}
use Rattle.net_base.specs.declared.world.World.{World}
use Rattle.net_base.specs.Callers.{Caller, IsScript, IsCourier, IsClock, IsNobody, caller_of, other_caller, clock_number}
use Rattle.net_base.specs.Duties.{Duty}
use Rattle.net_base.specs.Legal.{IsMove, IsNext, IsAsked, MayFollow, IsLegal, asked_by}
use Rattle.net_base.specs.Net.{Net, after, step_of}
use Rattle.net_base.specs.Next.{by, own_replies, next_recorded, next_of, zone_of}
use Rattle.net_base.specs.Plain.{IsPlainEvent, IsPlain}
use Rattle.net_base.specs.Steps.{Ask}
use Rattle.net_base.specs.World.{is_step, is_script, IsWorld}
use Rattle.history_laws.proofs.Shared.{after_push, by_entries, Each, all_at, each_weaker, each_append, each_map, each_filter, owed_each, next_event, IsNextEvent}
use Rattle.net_model.proofs.PlainEvents.{PlainAt, plain_other, plain_reply, fits_plain, steps_plain}
use Rattle.net_model.proofs.PlainReplies.{entry_replies}
use Rattle.net_model.proofs.PlainTexts.{ListsTexts}
use Rattle.net_base.specs.Scripts.{at_first}

-- What a caller records next.

script_next : (w : World) (h : List Entry) (c : ℕ) (s : Script) → IsWorld w → slice_get w.scripts c ≡ Some s → Each (λ (x : Entry). ListsTexts x.reply) h → IsNextEvent PlainAt (next_of w (IsScript s) h c)
script_next w h c s world is fine =
    let one = all_at (is_script (length w.hosts)) w.scripts c s world.scripts is in
    let steps = (and_parts (nat_lt s.host (length w.hosts)) (list_all is_step s.steps) one).1 in
    let replies = each_map ListsTexts (λ (x : Entry). x.reply) _ (each_filter (λ (x : Entry). ListsTexts x.reply) (λ (x : Entry). is_none x.cites) (by h c) (each_filter (λ (x : Entry). ListsTexts x.reply) (λ (x : Entry). x.caller == c) h fine)) in
    next_event s.host PlainAt ListsTexts fits_plain s.steps (at_first (zone_of w)) (own_replies h c) tt (steps_plain s.host s.steps steps) replies

caller_next : (w : World) (h : List Entry) (c : ℕ) (found : Option Script) → IsWorld w → slice_get w.scripts c ≡ found → Each (λ (x : Entry). ListsTexts x.reply) h → IsNextEvent PlainAt (next_of w (option_map_or (λ (s : Script). IsScript s) found (other_caller w c)) h c)
caller_next w h c (Some s) world is fine = script_next w h c s world is fine
caller_next w h c None world is fine =
    cond_both (nat_lt c (clock_number w)) _ _ (λ (k : Caller). IsNextEvent PlainAt (next_of w k h c))
    (λ _. tt)
    (λ _. cond_both (c == clock_number w) _ _ (λ (k : Caller). IsNextEvent PlainAt (next_of w k h c)) (λ _. tt) (λ _. tt))

-- Entries.

clock_moves : (e : Event) → IsMove name.Clock e → IsPlainEvent e
clock_moves (event.Move m) is = tt
clock_moves _ is = absurd is

moves : (a : ActorName) (e : Event) → IsMove a e → IsPlainEvent e
moves name.Clock e is = clock_moves e is
moves _ e is = absurd is

asked : (x : Entry) (ask : Option Ask) → ask ≡ Some (asked_by x) → IsNextEvent PlainAt ask → IsPlainEvent x.event
asked x ask is f = subst (IsNextEvent PlainAt) is f

comes_next : (k : Caller) (ask : Option Ask) (x : Entry) → IsNextEvent PlainAt ask → IsNext k ask x → IsPlainEvent x.event
comes_next IsClock ask x f is = moves x.actor x.event is
comes_next (IsScript s) ask x f is = asked x ask is f
comes_next (IsCourier m) ask x f is = asked x ask is f
comes_next IsNobody ask x f is = asked x ask is f

-- a duty whose event is plain
abbrev IsPlainDuty : Duty → Type 0
IsPlainDuty d = IsPlainEvent d.event

entry_event : (ds : List Duty) (k : Caller) (ask : Option Ask) (x : Entry) → Each IsPlainDuty ds → IsNextEvent PlainAt ask → IsAsked ds k ask x → IsPlainEvent x.event
entry_event [] k ask x owed f is = comes_next k ask x f is
entry_event (d ∷ ds) k ask x owed f is = subst IsPlainEvent (ap (λ (a : Ask). a.event) is) owed.0

-- Histories.

abbrev IsFine : Entry → Type 0
IsFine x = IsPlainEvent x.event × ListsTexts x.reply

-- the history so far, and what is owed after it
record Kept (w : World) (h : List Entry) : Type 0 where
  entries : Each IsFine h
  owed : (c : ℕ) → Each IsPlainDuty ((after w h).owed c)

kept_by : (w : World) (h : List Entry) (x : Entry) → IsWorld w → MayFollow w h x → Kept w h → Kept w (h ++ x ∷ [])
kept_by w h x world may kept =
    let net = after w h in
    let replies = each_weaker IsFine (λ (y : Entry). ListsTexts y.reply) (λ y fine. fine.1) h kept.entries in
    let here = entry_event (net.owed x.caller) (caller_of w x.caller) (next_recorded w h x.caller) x (kept.owed x.caller) (caller_next w h x.caller (slice_get w.scripts x.caller) world refl replies) may.is_asked in
    record {
      entries = each_append IsFine h (x ∷ []) kept.entries ((here, entry_replies w net x may.is_ready may.answers), tt);
      owed = λ c. subst (λ (n : Net). Each IsPlainDuty (n.owed c)) (sym (after_push w h x)) (owed_each IsPlainDuty w net x (step_of w net x) c (kept.owed c) (λ same a e gift other. plain_other e other));
    }

plain_of : (h : List Entry) → Each IsFine h → IsPlain h
plain_of [] all = tt
plain_of (x ∷ xs) all = (all.0.0, plain_reply x.reply all.0.1, plain_of xs all.1)

-- every legal history of a world is plain
pub legal_is_plain : (w : World) → IsWorld w → (h : List Entry) → IsLegal w h → IsPlain h
legal_is_plain w world h legal =
    plain_of h (by_entries w (Kept w) (record { entries = tt; owed = λ c. tt }) (λ k x before may kept. kept_by w k x world may kept) h legal).entries
