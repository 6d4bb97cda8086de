-- What an actor keeps, as the actor of the definitions, and of which world it is.
use Rattle.std.specs.Prelude.{◌≡◌, ℕ, true, Some, slice_get}
use Rattle.net_base.specs.declared.actor.ActorName.{ActorName}
use Rattle.net_base.specs.declared.actor.ActorName.TheVariants as name
use Rattle.net_base.specs.declared.world.World.{World}
use Rattle.net_base.specs.Actors.{Actor, IsDesk, IsDir, IsConv, IsMedium, IsPlain, has_actor}
use Rattle.conversation.specs.Stands.{slot_of}
use Rattle.host_dir.specs.Kept.{IsDirOf}
use Rattle.medium.specs.OnMedium.{OnMedium, medium_laid}
use Rattle.net_actors.specs.AtDesk.{IsDeskOf, desk_at}
use Rattle.net_actors.specs.declared.actor.Actor.{Actor as Kept}
use Rattle.net_actors.specs.declared.kind.Kind.{Kind}
use Rattle.net_actors.specs.declared.kind.Kind.TheVariants as kind

-- the actor of the definitions
abbrev pub seen_kept : Kind → Actor
seen_kept (kind.Desk d) = IsDesk (desk_at d)
seen_kept (kind.Dir d) = IsDir d.dir
seen_kept (kind.Conv c) = IsConv c.conv
seen_kept (kind.Medium m) = IsMedium (medium_laid m)
seen_kept kind.Clock = IsPlain

-- the state of an actor
abbrev pub kept_state : Kept → Actor
kept_state a = seen_kept a.kind

-- it is this medium of the world
pub record IsMediumOf (w : World) (n : ℕ) (m : OnMedium) : Type 0 where
  pub spec_is : slice_get w.media n ≡ Some m.spec
  pub seed_is : m.seed ≡ w.seed

-- it keeps what the world says of the actor of this name
abbrev pub KeepsKind : World → ActorName → Kind → Type 0
KeepsKind w (name.Desk h) (kind.Desk d) = IsDeskOf w h d
KeepsKind w (name.Dir h p) (kind.Dir d) = IsDirOf w h p d
KeepsKind w (name.Conv h p n) (kind.Conv c) = slot_of c ≡ n
KeepsKind w (name.Medium n) (kind.Medium m) = IsMediumOf w n m
KeepsKind w name.Clock kind.Clock = Unit {0}
KeepsKind w _ _ = ⊥

-- it is an actor of the world
unfoldable pub IsActorOf : World → Kept → Type 0
IsActorOf w a = (has_actor w a.name ≡ true) × KeepsKind w a.name a.kind
