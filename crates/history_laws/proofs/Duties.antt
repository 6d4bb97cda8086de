-- What is kept of duties: each is of kind, cites rise in a queue, and the birth of each generation that a conversation still lacks is owed.
use Rattle.std.specs.Prelude.{◌≡◌, ℕ, ◌<◌, ◌≤◌, Bool, true, false, List, [], length, Option, Some, None, slice_get}
use Rattle.net_base.specs.declared.timer.Timers.TheVariants.{Fixed}
use Rattle.net_base.specs.declared.actor.ActorName.{ActorName}
use Rattle.net_base.specs.declared.actor.ActorName.TheVariants as name
use Rattle.net_base.specs.declared.actor.Call.{Call}
use Rattle.net_base.specs.declared.address.Proto.{Proto}
use Rattle.net_base.specs.declared.address.Proto.TheVariants as proto
use Rattle.net_base.specs.declared.event.Event.{Event}
use Rattle.net_base.specs.declared.event.Event.TheVariants as event
use Rattle.net_base.specs.declared.history.Taken.{Taken}
use Rattle.net_base.specs.declared.history.With.{With}
use Rattle.net_base.specs.declared.history.With.TheVariants as given
use Rattle.net_base.specs.declared.world.World.{World}
use Rattle.net_base.specs.Actors.{Actor, IsDir, IsConv, IsMedium, slot_count, opening_core}
use Rattle.net_base.specs.Callers.{caller_count}
use Rattle.net_base.specs.Conversation.{Core, Il, Udp, may_bear, may_connect, has_protocol}
use Rattle.net_base.specs.Directory.{Slot, is_of}
use Rattle.net_base.specs.Duties.{Duty}
use Rattle.net_base.specs.Net.{Net}
use Rattle.net_base.specs.Stamped.{In}
use Rattle.history_laws.proofs.Ordered.{Each, Later}

-- Kinds.

-- the generation that a duty at a conversation names
abbrev pub named : Event → ℕ
named (event.Begin g) = g
named (event.Born g) = g
named (event.Claim g) = g
named (event.Connect g) = g
named (event.Announced g) = g
named (event.Bound g) = g
named (event.Close g) = g
named (event.ArriveAt g) = g
named (event.Tick g) = g
named _ = 0

-- it raises the generation of a conversation
abbrev pub bears : Event → Bool
bears (event.Begin g) = true
bears (event.Born g) = true
bears _ = false

-- at a conversation of a protocol: what its row asks beside the generation
abbrev pub IsConvKind : Proto → Event → With → Type 0
IsConvKind p (event.Begin g) with = Unit {0}
IsConvKind p (event.Born g) (given.Birth packet start limit) = (may_bear (opening_core Fixed p) packet.body ≡ true) × (may_connect (opening_core Fixed p) start limit ≡ true)
IsConvKind p (event.Claim g) with = Unit {0}
IsConvKind p (event.Connect g) (given.Grant pair start limit) = may_connect (opening_core Fixed p) start limit ≡ true
IsConvKind p (event.Announced g) (given.Key ip port) = Unit {0}
IsConvKind p (event.Bound g) (given.Key ip port) = Unit {0}
IsConvKind p (event.Close g) with = Unit {0}
IsConvKind p (event.ArriveAt g) (given.Packet packet) = has_protocol (opening_core Fixed p) packet.body ≡ true
IsConvKind p (event.Tick g) with = Unit {0}
IsConvKind p _ _ = ⊥

-- at a directory
abbrev pub IsDirKind : Proto → Event → With → Type 0
IsDirKind p (event.Withdraw n g) with = n < slot_count
IsDirKind p (event.Release n g) with = n < slot_count
IsDirKind p event.Arrive (given.Packet packet) = is_of p packet.body ≡ true
IsDirKind p _ _ = ⊥

-- at a medium
abbrev pub IsMediumKind : World → Event → With → Type 0
IsMediumKind w (event.Put None) (given.Packet packet) = Unit {0}
IsMediumKind w (event.Put (Some to)) (given.Packet packet) = to < length w.hosts
IsMediumKind w _ _ = ⊥

abbrev pub IsKind : World → ActorName → Event → With → Type 0
IsKind w (name.Conv h p n) e with = (h < length w.hosts) × (n < slot_count) × IsConvKind p e with
IsKind w (name.Dir h p) e with = (h < length w.hosts) × IsDirKind p e with
IsKind w (name.Medium m) e with = (m < length w.media) × IsMediumKind w e with
IsKind w _ e with = ⊥

abbrev pub OfKind : World → Duty → Type 0
OfKind w d = IsKind w d.actor d.event d.with

-- Actors.

abbrev pub same_core : Proto → Core → Type 0
same_core proto.Il (Il e) = Unit {0}
same_core proto.Udp (Udp e) = Unit {0}
same_core _ _ = ⊥

-- the generation of a slot
abbrev pub slot_generation : Option Slot → ℕ
slot_generation None = 0
slot_generation (Some s) = s.generation

abbrev pub generation_in : List Slot → ℕ → ℕ
generation_in slots n = slot_generation (slice_get slots n)

-- a call names a slot, and no generation that the slot didn't have
abbrev pub IsCallIn : List Slot → Call → Type 0
IsCallIn slots c = (c.slot < slot_count) × (c.generation ≤ generation_in slots c.slot)

-- the slots of a directory
pub record AreSlots (slots : List Slot) : Type 0 where
  pub count : length slots ≡ slot_count
  pub calls : (k : ℕ) (s : Slot) → slice_get slots k ≡ Some s → Each (IsCallIn slots) s.calls

-- copies for hosts of the world
abbrev pub AreCopies : World → List Taken → Type 0
AreCopies w ts = Each (λ (t : Taken). t.to < length w.hosts) ts

-- each actor keeps what its name says, and a conversation an end of its protocol
abbrev pub IsActorOf : World → ActorName → Actor → Type 0
IsActorOf w (name.Dir h p) (IsDir d) = AreSlots d.slots
IsActorOf w (name.Conv h p n) (IsConv c) = same_core p c.core
IsActorOf w (name.Medium m) (IsMedium s) = AreCopies w s.queue × AreCopies w s.held
IsActorOf w (name.Dir h p) _ = ⊥
IsActorOf w (name.Conv h p n) _ = ⊥
IsActorOf w (name.Medium m) _ = ⊥
IsActorOf w _ _ = Unit {0}

abbrev pub generation_at : Actor → ℕ → ℕ
generation_at (IsDir d) n = generation_in d.slots n
generation_at _ n = 0

abbrev pub conv_generation : Actor → ℕ
conv_generation (IsConv c) = c.generation
conv_generation _ = 0

-- the generation that the directory gave last to the slot of a conversation, and the one that the conversation has
abbrev pub given_last : Net → ℕ → Proto → ℕ → ℕ
given_last net h p n = generation_at (net.actors (name.Dir h p)) n

abbrev pub reached : Net → ℕ → Proto → ℕ → ℕ
reached net h p n = conv_generation (net.actors (name.Conv h p n))

-- Births.

-- it bears this generation
abbrev pub IsBirth : ℕ → Event → Type 0
IsBirth g e = (bears e ≡ true) × (named e ≡ g)

-- the birth of a generation is owed, before all else that names it or a later one
pub record IsOwedBirth (net : Net) (h : ℕ) (p : Proto) (n g : ℕ) : Type 0 where
  pub caller : ℕ
  pub duty : Duty
  pub there : In duty (net.owed caller)
  pub actor : duty.actor ≡ name.Conv h p n
  pub birth : IsBirth g duty.event
  pub first : (c : ℕ) (d : Duty) → In d (net.owed c) → d.actor ≡ name.Conv h p n → g ≤ named d.event
      → (duty.cites ≤ d.cites) × (duty.cites ≡ d.cites → IsBirth g d.event)

-- two duties bear different generations, or conversations
abbrev pub Apart : Duty → Duty → Type 0
Apart d e = bears d.event ≡ true → bears e.event ≡ true → d.actor ≡ e.actor → named d.event ≡ named e.event → ⊥

-- what holds of the net after a legal history
pub record Steady (w : World) (net : Net) : Type 0 where
  pub actors : (a : ActorName) → IsActorOf w a (net.actors a)
  pub known : (c : ℕ) → caller_count w ≤ c → net.owed c ≡ []
  pub kinds : (c : ℕ) → Each (OfKind w) (net.owed c)
  -- the stamps that are cited in a queue don't fall, and are those of entries
  pub sorted : (c : ℕ) → Later (λ d e. d.cites ≤ e.cites) (net.owed c)
  pub cited : (c : ℕ) → Each (λ d. d.cites < length net.past) (net.owed c)
  -- no duty names a generation that the directory didn't give yet
  pub below : (c : ℕ) (d : Duty) (h : ℕ) (p : Proto) (n : ℕ) → In d (net.owed c) → d.actor ≡ name.Conv h p n → named d.event ≤ given_last net h p n
  -- what the conversation lacks is owed to be borne
  pub behind : (h : ℕ) (p : Proto) (n : ℕ) → reached net h p n ≤ given_last net h p n
  pub births : (h : ℕ) (p : Proto) (n g : ℕ) → reached net h p n < g → g ≤ given_last net h p n → IsOwedBirth net h p n g
  -- and once
  pub unborn : (c : ℕ) (d : Duty) (h : ℕ) (p : Proto) (n : ℕ) → In d (net.owed c) → d.actor ≡ name.Conv h p n → bears d.event ≡ true → reached net h p n < named d.event
  pub once : (c : ℕ) → Later Apart (net.owed c)
  pub elsewhere : (b c : ℕ) (d e : Duty) → (b ≡ c → ⊥) → In d (net.owed b) → In e (net.owed c) → Apart d e
