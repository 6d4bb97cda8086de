-- The steps of a medium. Lengths are in bytes, rates in thousandths.
use Rattle.std.specs.Prelude.{ℕ, ◌+◌, ◌%◌, ◌&&◌, false, List, [], ◌∷◌, ◌++◌, length, find, Option, Some, None, nat_lt, nat_le, if◌then◌else◌}
use Rattle.net_base.specs.declared.event.Event.{Event}
use Rattle.net_base.specs.declared.event.Event.TheVariants as event
use Rattle.net_base.specs.declared.history.Taken.{Taken}
use Rattle.net_base.specs.declared.history.With.{With}
use Rattle.net_base.specs.declared.history.With.TheVariants as given
use Rattle.net_base.specs.declared.packet.Body.{Body}
use Rattle.net_base.specs.declared.packet.Body.TheVariants as body
use Rattle.net_base.specs.declared.packet.Packet.{Packet}
use Rattle.net_base.specs.declared.reply.Reply.{Reply}
use Rattle.net_base.specs.declared.reply.Reply.TheVariants as reply
use Rattle.net_base.specs.declared.world.Fate.{Fate}
use Rattle.net_base.specs.declared.world.Fate.TheVariants.{Deliver, Lose, Twice, Later}
use Rattle.net_base.specs.declared.world.FateRange.{FateRange}
use Rattle.net_base.specs.declared.world.MediumSpec.{MediumSpec}
use Rattle.net_base.specs.ActorStep.{Step}
use Rattle.net_base.specs.Draws.{drawn_word}

-- Fates.

-- the fate that the rates give to a number below 1,000
abbrev pub fate_by_rates : MediumSpec → ℕ → Fate
fate_by_rates s r =
    if nat_lt r s.loss
    then Lose
    else (if nat_lt r (s.loss + s.twice)
    then Twice
    else (if nat_lt r (s.loss + s.twice + s.later) then Later else Deliver))

-- the fate of the m-th frame, where the world file names it in this range or in none
abbrev pub fate_in : Option FateRange → ℕ → MediumSpec → ℕ → Fate
fate_in (Some range) seed s m = range.fate
fate_in None seed s m = fate_by_rates s (drawn_word seed (64 + s.number) m % 1000)

-- the fate of the m-th frame, from 1
abbrev pub fate_of : ℕ → MediumSpec → ℕ → Fate
fate_of seed s m = fate_in (find (λ (range : FateRange). nat_le range.first m && nat_le m range.last) s.fates) seed s m

-- The medium.

-- how many frames were laid, the copies that come next, and those that are held until a further frame is laid
pub record Medium : Type 0 where
  pub frames : ℕ
  pub queue : List Taken
  pub held : List Taken

-- a medium on which nothing was laid
abbrev pub quiet_medium : Medium
quiet_medium = record { frames = 0; queue = []; held = [] }

-- the length of the datagram that carries the body
abbrev pub datagram_length : Body → ℕ
datagram_length (body.Il m) = length m.text + 38
datagram_length (body.Udp text) = length text + 28

-- the copies that join the queue at once
abbrev pub now_of : Fate → Taken → List Taken
now_of Deliver t = t ∷ []
now_of Lose t = []
now_of Twice t = t ∷ t ∷ []
now_of Later t = []

-- the copies that are held
abbrev pub held_of : Fate → Taken → List Taken
held_of Later t = t ∷ []
held_of _ t = []

-- the medium replies, and gives this copy
abbrev pub medium_leaves : Reply → Option Taken → Medium → Step Medium
medium_leaves answer taken m = record { state = m; outcome = record { reply = answer; copy = Some answer; emit = None; taken = taken; ended = false } }

-- a further frame is laid: its own copies join the queue, and then those that were held before it
abbrev pub lays : Fate → Taken → Medium → Step Medium
lays fate t m =
    medium_leaves (reply.Laid t.frame) None (record { frames = t.frame; queue = m.queue ++ now_of fate t ++ m.held; held = held_of fate t })

-- a packet is put for a station, if there is one
abbrev pub puts : MediumSpec → ℕ → Option ℕ → Packet → Medium → Step Medium
puts s seed None p m = medium_leaves reply.NoStation None m
puts s seed (Some to) p m =
    if nat_lt s.mtu (datagram_length p.body)
    then medium_leaves reply.TooBig None m
    else lays (fate_of seed s (m.frames + 1)) (record { frame = m.frames + 1; to = to; packet = p }) m

-- the first copy of the queue, or the first that is held where the queue is empty
abbrev pub takes : List Taken → List Taken → Medium → Option (Step Medium)
takes (t ∷ rest) held m = Some (medium_leaves (reply.Copy t.frame) (Some t) (record m { queue = rest }))
takes [] (t ∷ rest) m = Some (medium_leaves (reply.Copy t.frame) (Some t) (record m { held = rest }))
takes [] [] m = None

-- the table of a medium under the world's seed; none where no row answers
abbrev pub medium_step : MediumSpec → ℕ → Event → With → Medium → Option (Step Medium)
medium_step s seed (event.Put to) (given.Packet p) m = Some (puts s seed to p m)
medium_step s seed event.Take with m = takes m.queue m.held m
medium_step s seed _ _ m = None
