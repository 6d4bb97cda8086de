-- Rows of the table.
use Rattle.std.proofs.Common.{◌≡◌, ℕ, ◌==◌, Result, Ok, Err, true, Option, Some, None, refl, arith, slice_get}
use Rattle.std.specs.Prelude.{IfOk, OnErr}
use Rattle.net_base.specs.declared.address.Addr.{Addr}
use Rattle.net_base.specs.Directory.{Dir, Home, Slot, grants, grants_by, in_slot, is_reserved, port_for}
use Rattle.net_base.specs.Routes.{way}
use Rattle.host_dir.specs.Ports.{drawn}
use Rattle.host_dir.specs.Taking.{chosen_port}

-- the port that is chosen
chosen_is : (port bound : Option ℕ) (d : Dir) → port_for port bound d ≡ chosen_port port bound d.ports
unfolding drawn
chosen_is (Some port) bound d = refl
chosen_is None (Some port) d = refl
chosen_is None None d = refl

-- a grant to a reserved slot of its generation
pub at_reserved : (at : Home) (n g : ℕ) (remote : Addr) (port : Option ℕ) (d : Dir) (s : Slot) → slice_get d.slots n ≡ Some s → s.generation ≡ g → is_reserved s.kind ≡ true
    → in_slot n g d (grants at n remote port d) ≡ Some (grants_by (way at.world at.host remote.ip) (chosen_port port s.bound d.ports) at n s remote d)
at_reserved at n g remote port d s got same reserved =
    let twin : (s.generation == g) ≡ true = grind (arith, same) in
    rw (got, twin, reserved, chosen_is port s.bound d) (refl)

-- what holds of a value holds of another, where the one follows from the other
pub then_ok : {X E : Type 0} (r : Result X E) (P Q : X → Type 0) → ((x : X) → P x → Q x) → IfOk r P → IfOk r Q
then_ok (Ok x) P Q further holds = further x holds
then_ok (Err e) P Q further holds = holds

pub then_err : {X E : Type 0} (r : Result X E) (P Q : Type 0) → (P → Q) → OnErr r P → OnErr r Q
then_err (Ok x) P Q further holds = holds
then_err (Err e) P Q further holds = further holds
