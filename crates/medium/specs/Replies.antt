-- What a medium answers.
use Rattle.std.specs.Prelude.{◌≡◌, ℕ, List, [], ◌∷◌, Option, Some, None, IfSome}
use Rattle.std.specs.Option.{option_map}
use Rattle.net_base.specs.declared.history.Taken.{Taken}
use Rattle.net_base.specs.declared.reply.Reply.{Reply}
use Rattle.net_base.specs.declared.reply.Reply.TheVariants as reply
use Rattle.medium.specs.declared.frame.Frame.{Frame}
use Rattle.medium.specs.declared.medium.Laid.{Laid}
use Rattle.medium.specs.declared.medium.Laid.TheVariants as laid
use Rattle.formats.specs.Datagram.{datagram_packet}
use Rattle.medium.specs.OnMedium.{OnMedium, copy_taken, with_frame}
use Rattle.medium.specs.Spelled.{HasText}

-- the reply that is recorded
abbrev pub laid_reply_of : Laid → Reply
laid_reply_of (laid.Frame k) = reply.Laid k
laid_reply_of laid.NoStation = reply.NoStation
laid_reply_of laid.TooBig = reply.TooBig

-- a frame that was laid carries these bytes to this station; what wasn't laid changes nothing
abbrev pub PutsBytes : OnMedium → OnMedium → Option ℕ → List ℕ → Laid → Type 0
PutsBytes old new (Some to) bytes (laid.Frame k) = new ≡ with_frame (record { number = k; to = to; bytes = bytes }) old
PutsBytes old new None bytes (laid.Frame k) = ⊥
PutsBytes old new to bytes _ = new ≡ old

-- the copy that comes next: the first of the queue, or the one that is held where the queue is empty
abbrev pub first_copy : List Frame → Option Frame → Option Frame
first_copy (f ∷ rest) held = Some f
first_copy [] held = held

-- its packet carries some bytes, for which a take needs memory
abbrev pub NextHasText : OnMedium → Type 0
NextHasText m = IfSome (first_copy m.queue m.held) (λ f. HasText (datagram_packet f.bytes))

-- the medium without that copy
abbrev pub without_first : List Frame → OnMedium → OnMedium
without_first (f ∷ rest) m = record m { queue = rest }
without_first [] m = record m { held = None }

-- that copy is taken, and the others stay
pub record TakesFirst (old new : OnMedium) (taken : Taken) : Type 0 where
  pub first : Some taken ≡ option_map copy_taken (first_copy old.queue old.held)
  pub rest : new ≡ without_first old.queue old
