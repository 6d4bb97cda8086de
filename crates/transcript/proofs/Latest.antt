-- The moment of a net, where each entry was ready.
use Rattle.std.proofs.Common.{◌≡◌, ℕ, suc, List, [], ◌∷◌, refl, sym, take, Option, Some, None, IsSome, slice_get}
use Rattle.std.specs.Option.{option_map}
use Rattle.net_base.specs.declared.history.Entry.{Entry}
use Rattle.net_base.specs.declared.world.World.{World}
use Rattle.net_base.specs.Actors.{Actor}
use Rattle.net_base.specs.ActorStep.{Step}
use Rattle.net_base.specs.Legal.{IsLegal}
use Rattle.net_base.specs.Net.{Net, after, net_after, net_of, next_net, opening_net, outcome_in, step_of, moment_after}
use Rattle.transcript.specs.RunStatus.{latest_move}

-- each entry is ready, where those before it have been taken
abbrev AreReady : World → Net → List Entry → Type 0
AreReady w net xs = (k : ℕ) (x : Entry) → slice_get xs k ≡ Some x → IsSome (outcome_in w (net_of w net (take k xs)) x)

pub moment_of_ready : (w : World) (net : Net) (x : Entry) (s : Option (Step Actor)) → IsSome (option_map (λ (t : Step Actor). t.outcome) s) → (net_after w net x s).moment ≡ moment_after net.moment x.event
moment_of_ready w net x None ready = absurd (cc)
moment_of_ready w net x (Some s) ready = refl

latest_is : (w : World) (net : Net) (xs : List Entry) → AreReady w net xs → latest_move net.moment xs ≡ (net_of w net xs).moment
latest_is w net [] ready = refl
latest_is w net (x ∷ xs) ready =
    let first = moment_of_ready w net x (step_of w net x) (ready 0 x refl) in
    rw (sym first) (latest_is w (next_net w net x) xs (λ k y is. ready (suc k) y is))

pub moment_of_legal : (w : World) (h : List Entry) → IsLegal w h → latest_move 0 h ≡ (after w h).moment
moment_of_legal w h legal = latest_is w (opening_net w) h (λ k x is. (legal k x is).is_ready)
