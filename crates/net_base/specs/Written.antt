-- What conversations have, write and read over a history.
--     given            the conversations to which pairs were granted or born, in order
--     pair_of, peer    the pair of a conversation, and the conversation with its mirror
--     writes, reads    the texts that were written and read at a conversation
--     stood            the end of a conversation as it last stood
use Rattle.std.specs.Prelude.{ℕ, ◌≡◌, ◌==◌, ◌&&◌, Bool, true, false, slice_get, List, [], ◌∷◌, ◌++◌, Option, Some, None, option_to_list, option_map, find, flat_map, if◌then◌else◌}
use Rattle.std.specs.Option.{option_and_then}
use Rattle.net_base.specs.declared.actor.ActorName.{ActorName}
use Rattle.net_base.specs.declared.actor.ActorName.TheVariants as name
use Rattle.net_base.specs.declared.address.Pair.{Pair}
use Rattle.net_base.specs.declared.address.Proto.{Proto}
use Rattle.net_base.specs.declared.event.Event.{Event}
use Rattle.net_base.specs.declared.event.Event.TheVariants as event
use Rattle.net_base.specs.declared.history.Entry.{Entry}
use Rattle.net_base.specs.declared.history.With.{With}
use Rattle.net_base.specs.declared.history.With.TheVariants as with_variants
use Rattle.net_base.specs.declared.history.Work.{Work}
use Rattle.net_base.specs.declared.il.IlKind.TheVariants.{Close}
use Rattle.net_base.specs.declared.packet.BodyHeader.{BodyHeader}
use Rattle.net_base.specs.declared.packet.BodyHeader.TheVariants as body
use Rattle.net_base.specs.declared.packet.Header.{Header}
use Rattle.net_base.specs.declared.reply.Reply.{Reply}
use Rattle.net_base.specs.declared.reply.Reply.TheVariants as reply
use Rattle.net_base.specs.declared.world.World.{World}
use Rattle.net_base.specs.Actors.{Actor, IsConv}
use Rattle.net_base.specs.Conversation.{Core, Il, Udp}
use Rattle.net_base.specs.Directory as directory
use Rattle.net_base.specs.IlEnd.{End, fresh_end}
use Rattle.net_base.specs.Mirror.{mirror}
use Rattle.net_base.specs.Net.{Net, opening_net, next_net, work_of}
use Rattle.net_base.specs.Same.{same_pair}
use Rattle.net_base.specs.Stamped.{same_actor, same_proto}

-- a slot's conversation in one of its generations
pub record Conversation : Type 0 where
  pub host : ℕ
  pub proto : Proto
  pub slot : ℕ
  pub generation : ℕ

-- the actor that it is in its generation
abbrev pub actor_of : Conversation → ActorName
actor_of e = name.Conv e.host e.proto e.slot

-- Pairs.

-- a conversation with its pair
pub record Given : Type 0 where
  pub to : Conversation
  pub pair : Pair

-- what a directory gives by a grant or a birth
abbrev pub gave : ActorName → Event → With → Reply → Option Given
gave (name.Dir h p) (event.Grant n g remote lport) with (reply.Granted pair start limit) =
    Some (record { to = record { host = h; proto = p; slot = n; generation = g }; pair = pair })
gave (name.Dir h p) event.Arrive (with_variants.Packet packet) (reply.Born n g start limit) =
    Some (record { to = record { host = h; proto = p; slot = n; generation = g }; pair = directory.packet_pair packet })
gave _ _ with _ = None

-- what an entry gives, by its work and its reply
abbrev pub gives : ActorName → Work → Reply → Option Given
gives a work r = gave a work.event work.with r

abbrev pub given_from : World → Net → List Entry → List Given
given_from w net [] = []
given_from w net (x ∷ xs) = option_to_list (gives x.actor (work_of net x) x.reply) ++ given_from w (next_net w net x) xs

-- all that was granted or born, in order
abbrev pub given_in : World → List Entry → List Given
given_in w h = given_from w (opening_net w) h

abbrev pub same_conversation : Conversation → Conversation → Bool
same_conversation e f = same_actor (actor_of e) (actor_of f) && (e.generation == f.generation)

-- the pair of a conversation, once it has one
abbrev pub pair_of : World → List Entry → Conversation → Option Pair
pair_of w h e = option_map (λ (g : Given). g.pair) (find (λ (g : Given). same_conversation g.to e) (given_in w h))

-- the conversation of a protocol that has the pair
abbrev pub holder : World → List Entry → Proto → Pair → Option Conversation
holder w h p pair = option_map (λ (g : Given). g.to) (find (λ (g : Given). same_proto g.to.proto p && same_pair g.pair pair) (given_in w h))

-- the conversation whose pair is the mirror of this one's
abbrev pub peer : World → List Entry → Conversation → Option Conversation
peer w h e = option_and_then (λ (pair : Pair). holder w h e.proto (mirror pair)) (pair_of w h e)

-- Texts.

abbrev pub written_in : ℕ → Event → Reply → List (List ℕ)
written_in g (event.Write g' text) (reply.Count n) = if g' == g then text ∷ [] else []
written_in g _ _ = []

abbrev pub read_in : ℕ → Event → Reply → List (List ℕ)
read_in g (event.Read g' count) (reply.Bytes bytes) = if g' == g then bytes ∷ [] else []
read_in g _ _ = []

-- an entry of the conversation's actor
abbrev pub is_at : Conversation → Entry → Bool
is_at e x = same_actor x.actor (actor_of e)

abbrev pub written_by : Conversation → Entry → List (List ℕ)
written_by e x = if is_at e x then written_in e.generation x.event x.reply else []

abbrev pub read_by : Conversation → Entry → List (List ℕ)
read_by e x = if is_at e x then read_in e.generation x.event x.reply else []

-- the texts of the writes that count at a conversation, in order
abbrev pub written_texts : List Entry → Conversation → List (List ℕ)
written_texts h e = flat_map (written_by e) h

-- the texts of the reads that reply bytes at a conversation, in order
abbrev pub read_texts : List Entry → Conversation → List (List ℕ)
read_texts h e = flat_map (read_by e) h

-- texts one after another
abbrev pub joined_texts : List (List ℕ) → List ℕ
joined_texts [] = []
joined_texts (text ∷ texts) = text ++ joined_texts texts

-- Ends.

abbrev pub end_in : Core → End → End
end_in (Il e) before = e
end_in (Udp e) before = before

-- the end that the actor shows in the generation, or the one before
abbrev pub shown_in : ℕ → Actor → End → End
shown_in g (IsConv c) before = if c.generation == g then end_in c.core before else before
shown_in g _ before = before

abbrev pub stood_from : World → Conversation → Net → End → List Entry → End
stood_from w e net last [] = last
stood_from w e net last (x ∷ xs) = stood_from w e (next_net w net x) (shown_in e.generation ((next_net w net x).actors (actor_of e)) last) xs

-- the IL end of a conversation as it last stood
abbrev pub stood : World → List Entry → Conversation → End
stood w h e = stood_from w e (opening_net w) (fresh_end w.timers) h

-- Entries.

-- the entry k reads this text at the conversation
pub record IsRead (h : List Entry) (e : Conversation) (k count : ℕ) (text : List ℕ) : Type 0 where
  pub entry : Entry
  pub stands : slice_get h k ≡ Some entry
  pub actor_is : entry.actor ≡ actor_of e
  pub event_is : entry.event ≡ event.Read e.generation count
  pub reply_is : entry.reply ≡ reply.Bytes text

-- the entry k writes this text at the conversation
pub record IsWrite (h : List Entry) (e : Conversation) (k : ℕ) (text : List ℕ) : Type 0 where
  pub entry : Entry
  pub count : ℕ
  pub stands : slice_get h k ≡ Some entry
  pub actor_is : entry.actor ≡ actor_of e
  pub event_is : entry.event ≡ event.Write e.generation text
  pub reply_is : entry.reply ≡ reply.Count count

-- a close with spec 0
abbrev pub is_close : BodyHeader → Bool
is_close (body.Il Close spec id ack n) = spec == 0
is_close _ = false

-- the conversation has emitted a close with spec 0, from its local address to its remote one
pub record HasClosed (w : World) (h : List Entry) (e : Conversation) : Type 0 where
  pub k : ℕ
  pub entry : Entry
  pub shown : Header
  pub stands : slice_get h k ≡ Some entry
  pub actor_is : entry.actor ≡ actor_of e
  pub emits_is : entry.emits ≡ Some shown
  pub closes : is_close shown.body ≡ true
  pub between : pair_of w h e ≡ Some (record { local = shown.src; remote = shown.dst })
