-- What the entry of a turn leaves of a run.
use Rattle.std.proofs.Common.{◌≡◌, ℕ, ◌+◌, ◌-◌, ◌<◌, ◌==◌, Bool, true, false, List, [], ◌∷◌, ◌++◌, length, map, filter, take, Some, is_none, get_or, Result, Ok, Err, IfOk, slice_get, slice_set, refl, sym, ap, subst, ◌∙◌, arith, length-append}
use Rattle.std.proofs.lemmas.Bool.{eqb-true, eqb-false, ne_eqb}
use Rattle.std.proofs.lemmas.List.{length-set}
use Rattle.std.proofs.lemmas.Option.{same_Some, slice_get_read}
use Rattle.net_base.specs.declared.history.Entry.{Entry}
use Rattle.net_base.specs.declared.reply.Reply.{Reply}
use Rattle.net_base.specs.declared.world.World.{World}
use Rattle.net_base.specs.Legal.{IsInTime}
use Rattle.net_base.specs.Net.{Net, after, moment, moment_after, step_of}
use Rattle.net_base.specs.Next.{by, finished_by, own_replies, zone_of}
use Rattle.net_base.specs.Tasks.{nobody}
use Rattle.duties.specs.WaysOf.{AreWaysOfWorld}
use Rattle.net_actors.specs.Together.{AreActors}
use Rattle.script_player.specs.Players.{IsAt}
use Rattle.history_laws.specs.Apart.{StandsStill}
use Rattle.history_laws.proofs.Shared.{stands_still, after_push, legal_push, timed_push}
use Rattle.plain_runner.specs.Callers.{HasRole, IsCallerKept}
use Rattle.plain_runner.specs.Recording.{ComesNext, IsHistory, Recorded}
use Rattle.plain_runner.specs.Tracks.{IsBefore, RecordedSo}
use Rattle.plain_runner.specs.declared.caller.Caller.{Caller}
use Rattle.plain_runner.specs.declared.caller.Role.{Role}
use Rattle.plain_runner.specs.declared.caller.Role.TheVariants as role
use Rattle.plain_runner.specs.declared.runner.Runner.{Runner}
use Rattle.plain_runner.specs.declared.turn.Turn.{Turn}
use Rattle.net_base.proofs.Shared.{get_set, get_set_other}
use Rattle.transcript.proofs.Shared.{moment_of_ready}

-- Lists.

-- The other callers.

abbrev replies_in : List Entry → List Reply
replies_in xs = map (λ (x : Entry). x.reply) (filter (λ (x : Entry). is_none x.cites) xs)

role_stays : (w : World) (h l : List Entry) (c : ℕ) (r : Role) (before : ℕ) → by l c ≡ by h c → HasRole w h c r before → HasRole w l c r before
role_stays w h l c (role.Courier m) before same is = is
role_stays w h l c role.Clock before same is = is
role_stays w h l c (role.Script s p) before same is =
    let replies : own_replies l c ≡ own_replies h c = ap (λ (xs : List Entry). replies_in xs) same in
    record {
      is = is.is;
      at = subst (λ (rs : List Reply). IsAt (zone_of w) s.now rs p) (sym replies) is.at;
      before_is = is.before_is ∙ ap (λ (rs : List Reply). finished_by (zone_of w) (take (length rs - 1) rs) s.now) (sym replies);
    }

pub caller_stays : (w : World) (h : List Entry) (c : ℕ) (k : Caller) (x : Entry) → (x.caller ≡ c → ⊥) → IsCallerKept w h c k → IsCallerKept w (h ++ x ∷ []) c k
caller_stays w h c k x other is = record {
  stands = record {
    role_is = role_stays w h (h ++ x ∷ []) c k.role k.before still.recorded is.stands.role_is;
    next_is = is.stands.next_is ∙ sym (still.comes_next nobody);
    own = is.stands.own;
  };
  owes = is.owes ∙ sym still.owes;
  entries_is = is.entries_is ∙ ap length (sym still.recorded);
}
  where
    still : StandsStill w c h (h ++ x ∷ [])
    still = stands_still w c h (x ∷ []) (rw (ne_eqb x.caller c other) refl)

-- The moment.

-- The run.

pub come : (w : World) (r : Runner) (c : ℕ) (t : Turn) (k : Caller) → IsBefore w r c t → slice_get r.callers.items c ≡ Some k
    → ComesNext w r.history.entries (record { caller = c; stamp = r.count; now = r.moment }) t k r.net r.ways
come w r c t k b at = record {
  history = b.history;
  turning = b.turning k at;
  ready = b.ready;
  are = b.are;
  ways_are = b.ways_are;
  stamp_is = b.count_is;
  now_is = b.moment_is;
}

pub recorded_so : (w : World) (old new : Runner) (c : ℕ) (t : Turn) (k : Caller) (x : Entry) → c < length old.callers.items → IsBefore w old c t
    → Recorded w old.history.entries c t k new.net x → new.history.entries ≡ old.history.entries ++ x ∷ [] → new.count ≡ old.count + 1 → new.callers.items ≡ slice_set old.callers.items c k → new.ways ≡ old.ways
    → new.moment ≡ moment_after old.moment x.event → RecordedSo w old new c t x
recorded_so w old new c t k x lt b rec history count callers ways now = record {
  tracks = record {
    history = subst (IsHistory w) (sym history) record {
      world = b.history.world;
      legal = legal_push w old.history.entries x b.history.legal rec.follows;
      timed = timed_push w old.history.entries x b.history.timed (subst (IsInTime (after w old.history.entries) w) (sym rec.event_is) b.ready.in_time);
    };
    count_is = omega (arith, count, b.count_is, ap length history, length-append old.history.entries (x ∷ []));
    callers_are = record {
      count = ap length callers ∙ length-set old.callers.items c k ∙ b.count;
      each = λ d e at. subst (λ (h : List Entry). IsCallerKept w h d e) (sym history) (kept d e (c == d) refl (sym (ap (λ ks. slice_get ks d) callers) ∙ at));
    };
    are = subst (λ (h : List Entry). AreActors w new.net (after w h).actors) (sym history) rec.are;
    ways_are = subst (AreWaysOfWorld w) (sym ways) b.ways_are;
    moment_is = now ∙ ap (λ (m : ℕ). moment_after m x.event) b.moment_is
        ∙ sym (moment_of_ready w (after w old.history.entries) x (step_of w (after w old.history.entries) x) rec.follows.is_ready)
        ∙ ap (λ (net : Net). net.moment) (sym (after_push w old.history.entries x)) ∙ ap (λ (h : List Entry). moment w h) (sym history);
  };
  history_is = history;
  caller_is = rec.caller_is;
  actor_is = rec.actor_is;
  event_is = rec.event_is;
}
  where
    kept : (d : ℕ) (e : Caller) (same : Bool) → (c == d) ≡ same → slice_get (slice_set old.callers.items c k) d ≡ Some e
        → IsCallerKept w (old.history.entries ++ x ∷ []) d e
    kept d e true is at =
        let here : k ≡ e = same_Some k e (sym (get_set old.callers.items c k lt) ∙ ap (slice_get (slice_set old.callers.items c k)) (eqb-true c d is)
        ∙ at) in
        subst (λ (n : ℕ). IsCallerKept w (old.history.entries ++ x ∷ []) n e) (eqb-true c d is) (subst (IsCallerKept w (old.history.entries ++ x ∷ []) c) here rec.kept)
    kept d e false is at =
        let other : c ≡ d → ⊥ = eqb-false c d is in
        caller_stays w old.history.entries d e x (λ s. other (sym rec.caller_is ∙ s)) (b.others d e other (sym (get_set_other old.callers.items c d k other) ∙ at))

-- Results.

pub if_ok : {A E : Type 0} {P Q : A → Type 0} (r : Result A E) → ((x : A) → P x → Q x) → IfOk r P → IfOk r Q
if_ok (Ok x) f is = f x is
if_ok (Err e) f is = tt

-- what stands at a place
pub got : {A : Type 0} (xs : List A) (i : ℕ) (x : A) → i < length xs → x ≡ get_or xs i x → slice_get xs i ≡ Some x
got xs i x lt is = slice_get_read xs (length xs) i x refl lt is
