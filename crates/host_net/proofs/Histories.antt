-- What the clock's guest has seen, when it has the numbers of all callers, is the one history that they can have recorded.
use Rattle.std.proofs.Common.{◌≡◌, ℕ, ◌+◌, ◌<◌, ◌==◌, Bool, true, false, List, [], ◌∷◌, map, if◌then◌else◌, Some, slice_get, refl, ap, sym, subst, ◌∙◌}
use Rattle.net_base.specs.declared.history.Entry.{Entry}
use Rattle.net_base.specs.declared.noted.Noted.{Noted}
use Rattle.net_base.specs.declared.noted.Number.TheVariants as number
use Rattle.net_base.specs.declared.world.World.{World}
use Rattle.net_base.specs.Callers.{caller_count}
use Rattle.net_base.specs.Net.{Net, after}
use Rattle.net_base.specs.Stamped.{In, at, at_from, entries_from, of_caller}
use Rattle.net_base.specs.Tasks.{Tasks}
use Rattle.journal.specs.declared.law.Roster.{Roster}
use Rattle.journal.specs.declared.tokens.Sight.{Sight}
use Rattle.journal.specs.Closing.{plain}
use Rattle.net_locks.specs.Guests.{IsOfGuests}
use Rattle.net_locks.specs.Own.{IsLegalButScripts}
use Rattle.net_locks.specs.Works.{entries, noted_net}
use Rattle.host_net.specs.Advancing.{AfterAll, IsHistoryOf}
use Rattle.net_guests.specs.Visits.{HasGuest, Visit}
use Rattle.net_locks.specs.Turns.{own_seen}

lists_from : (c n : ℕ) (log : List Noted) → entries_from (number.Caller c) n (entries log) ≡ map plain (at_from (number.Caller c) n log)
lists_from c n [] = refl
lists_from c n (x ∷ log) = by_test (lists_from c (n + 1) log) (x.entry.caller == c)
  where
    by_test : entries_from (number.Caller c) (n + 1) (entries log) ≡ map plain (at_from (number.Caller c) (n + 1) log) → (b : Bool)
        → (if b then (n, x.entry) ∷ entries_from (number.Caller c) (n + 1) (entries log) else entries_from (number.Caller c) (n + 1) (entries log))
        ≡ map plain (if b then (n, x) ∷ at_from (number.Caller c) (n + 1) log else at_from (number.Caller c) (n + 1) log)
    by_test rest true = ap (λ (l : List (ℕ × Entry)). (n, x.entry) ∷ l) rest
    by_test rest false = rest

-- the entries of a caller, with their works or without
pub lists_are : (c : ℕ) (log : List Noted) → of_caller c (entries log) ≡ map plain (at (number.Caller c) log)
lists_are c log = lists_from c 0 log

-- two histories of the same callers' lists are one
abbrev pub AreOne : Type 0
AreOne =
    (n : ℕ) (h k : List Entry) → ((i : ℕ) (x : Entry) → slice_get h i ≡ Some x → x.caller < n)
    → ((i : ℕ) (x : Entry) → slice_get k i ≡ Some x → x.caller < n) → ((c : ℕ) → c < n → of_caller c h ≡ of_caller c k) → h ≡ k

module _ (ts : Tasks) (w : World) (r : Roster) (p : Sight) (guests : IsOfGuests w r p.seen) (one : AreOne)
    (but : IsLegalButScripts w (entries p.seen)) (net : noted_net w p.seen ≡ after w (entries p.seen)) (vs : List Visit)
    (all : (c : ℕ) → c < r.callers → HasGuest c vs) (alone : (v : Visit) → In v vs → own_seen v.caller p ≡ own_seen v.caller v.sight) where
  same_lists : (h : List Entry) → IsHistoryOf ts w vs h → (c : ℕ) → c < caller_count w → of_caller c h ≡ of_caller c (entries p.seen)
  same_lists h is c lt =
      let v = all c (subst (λ (n : ℕ). c < n) (sym guests.callers_are) lt) in
      subst (λ (k : ℕ). of_caller k h ≡ of_caller k (entries p.seen)) v.2
      (is.lists v.0 v.1 ∙ (ap (map plain) (sym (alone v.0 v.1)) ∙ sym (lists_are v.0.caller p.seen)))

  pub one_history : (h : List Entry) → IsHistoryOf ts w vs h → h ≡ entries p.seen
  one_history h is =
      one (caller_count w) h (entries p.seen) (λ i x there. (is.legal i x there).is_known.1) (λ i x there. (but i x there).is_known.1)
      (same_lists h is)

  -- what holds of the net after all that was seen holds after each such history
  pub after_all : (K : Net → Type 0) → K (noted_net w p.seen) → AfterAll ts w vs K
  after_all K holds h is = subst K (net ∙ ap (after w) (sym (one_history h is))) holds
