-- A caller's turn is taken from it.
use Rattle.std.proofs.Common.{◌≡◌, ℕ, ◌<◌, List, [], ◌∷◌, ◌++◌, length, Option, Some, slice_get, slice_set, sym, ap, subst, ◌∙◌, arith}
use Rattle.std.specs.Prelude.{IsSome}
use Rattle.std.proofs.lemmas.List.{length-set}
use Rattle.std.proofs.lemmas.Option.{same_Some}
use Rattle.net_base.specs.declared.history.Entry.{Entry}
use Rattle.net_base.specs.declared.world.World.{World}
use Rattle.net_base.specs.Net.{moment}
use Rattle.plain_runner.specs.Callers.{IsCallerKept, IsTurning, Takes, TakesIf}
use Rattle.plain_runner.specs.Tracks.{Grows, IsBefore, IsCallerReady, RecordedSo, Tracks}
use Rattle.plain_runner.specs.Turns.{IsReadyTurn, IsTurn}
use Rattle.plain_runner.specs.Recording.{IsHistory}
use Rattle.plain_runner.specs.declared.caller.Caller.{Caller}
use Rattle.plain_runner.specs.declared.runner.Runner.{Runner}
use Rattle.plain_runner.specs.declared.turn.Turn.{Turn}
use Rattle.plain_runner.proofs.Unmoved.{ready_turn}
use Rattle.net_base.proofs.Shared.{get_set, get_set_other}

-- a run whose caller's turn was taken
pub record IsTaken (old mid : Runner) (c : ℕ) (k : Caller) : Type 0 where
  pub history : mid.history.entries ≡ old.history.entries
  pub counted : mid.count ≡ old.count
  pub moment : mid.moment ≡ old.moment
  pub net : mid.net ≡ old.net
  pub ways : mid.ways ≡ old.ways
  pub callers : mid.callers.items ≡ slice_set old.callers.items c k

pub taken_before : (w : World) (r mid : Runner) (c : ℕ) (old new : Caller) (t : Turn) → c < length r.callers.items → Tracks w r → IsCallerReady w r c
    → slice_get r.callers.items c ≡ Some old → Takes old new (Some t) → IsTaken r mid c new → IsBefore w mid c t
taken_before w r mid c old new t lt s ready at takes is = record {
  history = subst (IsHistory w) (sym is.history) s.history;
  count_is = is.counted ∙ s.count_is ∙ ap length (sym is.history);
  count = ap length is.callers ∙ length-set r.callers.items c new ∙ s.callers_are.count;
  others = λ d k apart there. subst (λ (h : List Entry). IsCallerKept w h d k) (sym is.history)
      (s.callers_are.each d k (sym (get_set_other r.callers.items c d new apart) ∙ sym (ap (λ ks. slice_get ks d) is.callers) ∙ there));
  turning = λ k there. subst (λ (h : List Entry). IsTurning w h c t.cites k) (sym is.history)
      (subst (λ (e : Caller). IsTurning w r.history.entries c t.cites e) (same_Some new k (sym (get_set r.callers.items c new lt)
      ∙ sym (ap (λ ks. slice_get ks c) is.callers) ∙ there)) taken.1);
  ready = subst (λ (h : List Entry). IsReadyTurn w h c t) (sym is.history)
      (ready_turn w r.history.entries c t s.history taken.0 (omega (arith, lt, s.callers_are.count)) ready.room ready.ready);
  are = rw (is.net, is.history) s.are;
  ways_are = rw is.ways s.ways_are;
  moment_is = is.moment ∙ s.moment_is ∙ ap (λ (h : List Entry). moment w h) (sym is.history);
}
  where
    taken : IsTurn w r.history.entries c t × IsTurning w r.history.entries c t.cites new
    taken = takes w r.history.entries c (s.callers_are.each c old at)

pub grows : (w : World) (old mid new : Runner) (c : ℕ) (t : Turn) (x : Entry) → mid.history.entries ≡ old.history.entries → RecordedSo w mid new c t x
    → Grows w old new c x
grows w old mid new c t x same rec = record {
  tracks = rec.tracks;
  history_is = rec.history_is ∙ ap (λ (h : List Entry). h ++ x ∷ []) same;
  caller_is = rec.caller_is;
}

-- a caller that may record has a turn
pub some_taken : (w : World) (r : Runner) (c : ℕ) (k : Caller) (t : Option Turn) → Tracks w r → IsCallerReady w r c → slice_get r.callers.items c ≡ Some k
    → TakesIf k t → IsSome t
some_taken w r c k t s ready at takes = takes w r.history.entries c (s.callers_are.each c k at) ready.ready

pub is_taken : (old mid : Runner) (c : ℕ) (k : Caller) → mid.history.entries ≡ old.history.entries → mid.count ≡ old.count → mid.moment ≡ old.moment
    → mid.net ≡ old.net → mid.ways ≡ old.ways → mid.callers.items ≡ slice_set old.callers.items c k → IsTaken old mid c k
is_taken old mid c k history counted moment net ways callers = record {
  history = history;
  counted = counted;
  moment = moment;
  net = net;
  ways = ways;
  callers = callers;
}
