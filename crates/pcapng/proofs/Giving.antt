-- What a caller's first follow-up event gives.
use Rattle.std.proofs.Common.{◌≡◌, ℕ, List, [], ◌∷◌, Option, Some, None, slice_get, refl, sym, ap, ◌∙◌}
use Rattle.net_base.specs.declared.history.Entry.{Entry}
use Rattle.net_base.specs.declared.history.With.TheVariants as given
use Rattle.net_base.specs.declared.packet.Packet.{Packet}
use Rattle.net_base.specs.declared.world.World.{World}
use Rattle.net_base.specs.Duties.{Duty}
use Rattle.net_base.specs.Net.{owed, with_of}
use Rattle.plain_runner.specs.Callers.{IsCallerKept}
use Rattle.plain_runner.specs.declared.caller.Caller.{Caller}
use Rattle.replay_views.specs.Capture.{given_packet}

with_first : (ds : List Duty) (d : Duty) → slice_get ds 0 ≡ Some d → with_of ds ≡ d.with
with_first [] d is = absurd (none_some d is)
  where
    none_some : (d : Duty) → None ≡ Some d → ⊥
    none_some d is = cc
with_first (e ∷ ds) d is = ap (λ (x : Duty). x.with) (some_is e d is)
  where
    some_is : (e d : Duty) → Some e ≡ Some d → e ≡ d
    some_is e d is = cc

with_none : (ds : List Duty) → slice_get ds 0 ≡ None → with_of ds ≡ given.Nothing
with_none [] is = refl
with_none (e ∷ ds) is = absurd (some_none e is)
  where
    some_none : (d : Duty) → Some d ≡ None → ⊥
    some_none d is = cc

module _ (w : World) (h : List Entry) (c : ℕ) (k : Caller) (kept : IsCallerKept w h c k) where
  pub given_first : (d : Duty) (p : Option Packet) → slice_get k.owed.list 0 ≡ Some d → p ≡ given_packet d.with → p ≡ given_packet (with_of (owed w h c))
  given_first d p is same = same ∙ ap given_packet (sym (with_first k.owed.list d is) ∙ ap with_of kept.owes)

  pub given_none : slice_get k.owed.list 0 ≡ None → None ≡ given_packet (with_of (owed w h c))
  given_none is = ap given_packet (sym (with_none k.owed.list is) ∙ ap with_of kept.owes)
