-- Which works have an answer.
use Rattle.std.proofs.Common.{◌≡◌, ℕ, zero, suc, ◌∙◌, Bool, true, false, is_some, List, [], ◌∷◌, length, Option, Some, None, slice_get, nat_lt, refl, arith}
use Rattle.net_base.specs.declared.address.Proto.{Proto}
use Rattle.net_base.specs.declared.event.Event.{Event}
use Rattle.net_base.specs.declared.event.Event.TheVariants as event
use Rattle.net_base.specs.declared.history.With.{With}
use Rattle.net_base.specs.declared.history.With.TheVariants as given
use Rattle.net_base.specs.declared.world.World.{World}
use Rattle.net_base.specs.ActorStep.{Step, when}
use Rattle.net_base.specs.Directory.{Dir, Slot, dir_step, in_found_slot, is_of}
use Rattle.host_dir.specs.Ready.{is_row_ready}

past_none : (n : ℕ) → nat_lt n 0 ≡ false
past_none n = grind arith

both_more : (m n : ℕ) → nat_lt (suc m) (suc n) ≡ nat_lt m n
both_more m n = grind arith

in_front : (n : ℕ) → nat_lt 0 (suc n) ≡ true
in_front n = grind arith

-- there is an element exactly below the length
within_is : {A : Type 0} (xs : List A) (n : ℕ) → nat_lt n (length xs) ≡ is_some (slice_get xs n)
within_is [] n = past_none n
within_is (x ∷ xs) zero = in_front (length xs)
within_is (x ∷ xs) (suc n) = both_more n (length xs) ∙ within_is xs n

found_is : (found : Option Slot) (g : ℕ) (d : Dir) (step : Slot → Step Dir) → is_some found ≡ is_some (in_found_slot found g d step)
found_is None g d step = refl
found_is (Some s) g d step = refl

when_is : {A : Type 0} (of_kind : Bool) (x : A) → of_kind ≡ is_some (when of_kind (Some x))
when_is true x = refl
when_is false x = refl

-- the step of an event at a slot has an answer where there is the slot
at_slot : (n g : ℕ) (d : Dir) (step : Slot → Step Dir) → nat_lt n (length d.slots) ≡ is_some (in_found_slot (slice_get d.slots n) g d step)
at_slot n g d step = within_is d.slots n ∙ found_is (slice_get d.slots n) g d step

-- which works have an answer doesn't depend on the world
pub ready_is : (w : World) (h : ℕ) (p : Proto) (e : Event) (with : With) (d : Dir) → is_row_ready p e with d ≡ is_some (dir_step w h p e with d)
ready_is w h p event.Reserve with d = refl
ready_is w h p (event.Grant n g remote port) with d = at_slot n g d _
ready_is w h p (event.Announce n g ip port) with d = at_slot n g d _
ready_is w h p (event.Bind n g port) with d = at_slot n g d _
ready_is w h p (event.Listen n) with d = refl
ready_is w h p (event.Withdraw n g) with d = at_slot n g d _
ready_is w h p (event.Release n g) with d = at_slot n g d _
ready_is w h p event.Arrive (given.Packet packet) d = when_is (is_of p packet.body) _
ready_is w h p event.Arrive given.Nothing d = refl
ready_is w h p event.Arrive (given.Grant pair start limit) d = refl
ready_is w h p event.Arrive (given.Key ip port) d = refl
ready_is w h p event.Arrive (given.Birth packet start limit) d = refl
ready_is w h p event.Ls with d = refl
ready_is w h p (event.Cs q) with d = refl
ready_is w h p (event.LsPath q) with d = refl
ready_is w h p (event.OpenPath q m) with d = refl
ready_is w h p (event.Use q) with d = refl
ready_is w h p (event.Misuse q) with d = refl
ready_is w h p (event.Until m) with d = refl
ready_is w h p event.Refresh with d = refl
ready_is w h p (event.Begin g) with d = refl
ready_is w h p (event.Born g) with d = refl
ready_is w h p (event.Claim g) with d = refl
ready_is w h p (event.Connect g) with d = refl
ready_is w h p (event.Announced g) with d = refl
ready_is w h p (event.Bound g) with d = refl
ready_is w h p (event.Await g) with d = refl
ready_is w h p (event.Open f m) with d = refl
ready_is w h p (event.File g f n) with d = refl
ready_is w h p (event.Read g n) with d = refl
ready_is w h p (event.Write g t) with d = refl
ready_is w h p (event.Hangup g) with d = refl
ready_is w h p (event.Ttl g n) with d = refl
ready_is w h p (event.Tos g n) with d = refl
ready_is w h p (event.Ctl g t) with d = refl
ready_is w h p (event.Close g) with d = refl
ready_is w h p (event.ArriveAt g) with d = refl
ready_is w h p (event.Tick g) with d = refl
ready_is w h p (event.Put t) with d = refl
ready_is w h p event.Take with d = refl
ready_is w h p (event.Move m) with d = refl
