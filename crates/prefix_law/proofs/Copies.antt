-- What holds of each packet that is put on a medium holds of each copy that is taken from it.
use Rattle.std.proofs.Common.{◌≡◌, ℕ, ◌+◌, nat_lt, List, [], ◌∷◌, ◌++◌, Option, Some, None, refl}
use Rattle.std.specs.Prelude.{IfSome}
use Rattle.std.proofs.lemmas.Bool.{cond_both}
use Rattle.net_base.specs.declared.event.Event.{Event}
use Rattle.net_base.specs.declared.event.Event.TheVariants as event
use Rattle.net_base.specs.declared.packet.Packet.{Packet}
use Rattle.net_base.specs.declared.history.Taken.{Taken}
use Rattle.net_base.specs.declared.history.With.{With}
use Rattle.net_base.specs.declared.history.With.TheVariants as given
use Rattle.net_base.specs.declared.world.Fate.{Fate}
use Rattle.net_base.specs.declared.world.Fate.TheVariants.{Deliver, Lose, Twice, Later}
use Rattle.net_base.specs.declared.world.MediumSpec.{MediumSpec}
use Rattle.net_base.specs.ActorStep.{Step}
use Rattle.net_base.specs.Medium.{Medium, datagram_length, fate_of, now_of, held_of, puts, takes, medium_step}

-- it holds of the packet of each copy
abbrev pub EachCopy : (Packet → Type 0) → List Taken → Type 0
EachCopy P [] = Unit {0}
EachCopy P (x ∷ xs) = P x.packet × EachCopy P xs

abbrev pub OfMedium : (Packet → Type 0) → Medium → Type 0
OfMedium P m = EachCopy P m.queue × EachCopy P m.held

abbrev pub OfTaken : (Packet → Type 0) → Option Taken → Type 0
OfTaken P None = Unit {0}
OfTaken P (Some x) = P x.packet

-- of the packet that is put
abbrev pub OfPut : (Packet → Type 0) → Event → With → Type 0
OfPut P (event.Put to) (given.Packet p) = P p
OfPut P _ _ = Unit {0}

pub each_copy_more : (P Q : Packet → Type 0) (xs : List Taken) → ((p : Packet) → P p → Q p) → EachCopy P xs → EachCopy Q xs
each_copy_more P Q [] more f = tt
each_copy_more P Q (x ∷ xs) more f = (more x.packet f.0, each_copy_more P Q xs more f.1)

pub medium_more : (P Q : Packet → Type 0) (m : Medium) → ((p : Packet) → P p → Q p) → OfMedium P m → OfMedium Q m
medium_more P Q m more f = (each_copy_more P Q m.queue more f.0, each_copy_more P Q m.held more f.1)

each_append : (P : Packet → Type 0) (xs ys : List Taken) → EachCopy P xs → EachCopy P ys → EachCopy P (xs ++ ys)
each_append P [] ys f g = g
each_append P (x ∷ xs) ys f g = (f.0, each_append P xs ys f.1 g)

now_each : (P : Packet → Type 0) (f : Fate) (x : Taken) → P x.packet → EachCopy P (now_of f x)
now_each P Deliver x e = (e, tt)
now_each P Twice x e = (e, (e, tt))
now_each P Lose x e = tt
now_each P Later x e = tt

held_each : (P : Packet → Type 0) (f : Fate) (x : Taken) → P x.packet → EachCopy P (held_of f x)
held_each P Later x e = (e, tt)
held_each P Deliver x e = tt
held_each P Twice x e = tt
held_each P Lose x e = tt

-- what a step of a medium leaves
pub record MediumLeaves (P : Packet → Type 0) (s : Step Medium) : Type 0 where
  pub fine : OfMedium P s.state
  pub taken : OfTaken P s.outcome.taken
  pub emits_none : s.outcome.emit ≡ None

puts_each : (P : Packet → Type 0) (spec : MediumSpec) (seed : ℕ) (to : Option ℕ) (p : Packet) (m : Medium) → OfMedium P m → P p → MediumLeaves P (puts spec seed to p m)
puts_each P spec seed None p m f e = record { fine = f; taken = tt; emits_none = refl }
puts_each P spec seed (Some to) p m f e =
    cond_both (nat_lt spec.mtu (datagram_length p.body)) _ _ (λ (s : Step Medium). MediumLeaves P s)
    (λ _. record { fine = f; taken = tt; emits_none = refl })
    (λ _.
    let x : Taken = record { frame = m.frames + 1; to = to; packet = p } in
    let fate = fate_of seed spec (m.frames + 1) in
    record { fine = (each_append P (m.queue ++ now_of fate x) m.held (each_append P m.queue (now_of fate x) f.0 (now_each P fate x e)) f.1, held_each P fate x e); taken = tt; emits_none = refl })

takes_each : (P : Packet → Type 0) (queue held : List Taken) (m : Medium) → EachCopy P queue → EachCopy P held → EachCopy P m.queue → EachCopy P m.held → IfSome (takes queue held m) (λ s. MediumLeaves P s)
takes_each P (x ∷ queue) held m f g f' g' = record { fine = (f.1, g'); taken = f.0; emits_none = refl }
takes_each P [] (x ∷ held) m f g f' g' = record { fine = (f', g.1); taken = g.0; emits_none = refl }
takes_each P [] [] m f g f' g' = tt

pub medium_leaves : (P : Packet → Type 0) (spec : MediumSpec) (seed : ℕ) (ev : Event) (gift : With) (m : Medium) → OfMedium P m → OfPut P ev gift → IfSome (medium_step spec seed ev gift m) (λ s. MediumLeaves P s)
medium_leaves P spec seed (event.Put to) (given.Packet p) m f fine = puts_each P spec seed to p m f fine
medium_leaves P spec seed event.Take gift m f fine = takes_each P m.queue m.held m f.0 f.1 f.0 f.1
medium_leaves P spec seed _ _ m f fine = tt
