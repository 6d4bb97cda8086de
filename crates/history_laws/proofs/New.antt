-- The duties that an entry adds.
use Rattle.std.proofs.Common.{◌≡◌, ℕ, zero, suc, ◌+◌, ◌-◌, ◌<◌, ◌≤◌, nat_lt, Bool, true, false, List, [], ◌∷◌, ◌++◌, length, Option, Some, None, refl, sym, subst, ◌∙◌, arith}
use Rattle.std.specs.Prelude.{flat_map, if◌then◌else◌, option_to_list}
use Rattle.std.specs.List.{range_with_len}
use Rattle.std.proofs.lemmas.Bool.{true≢false}
use Rattle.net_base.specs.declared.actor.ActorName.{ActorName}
use Rattle.net_base.specs.declared.actor.ActorName.TheVariants as name
use Rattle.net_base.specs.declared.actor.Call.{Call}
use Rattle.net_base.specs.declared.address.Proto.{Proto}
use Rattle.net_base.specs.declared.address.Proto.TheVariants as proto
use Rattle.net_base.specs.declared.event.Event.{Event}
use Rattle.net_base.specs.declared.event.Event.TheVariants as event
use Rattle.net_base.specs.declared.history.Taken.{Taken}
use Rattle.net_base.specs.declared.history.With.{With}
use Rattle.net_base.specs.declared.history.With.TheVariants as given
use Rattle.net_base.specs.declared.packet.Body.{Body}
use Rattle.net_base.specs.declared.packet.Body.TheVariants as body
use Rattle.net_base.specs.declared.packet.Packet.{Packet}
use Rattle.net_base.specs.declared.reply.Reply.{Reply}
use Rattle.net_base.specs.declared.reply.Reply.TheVariants as reply
use Rattle.net_base.specs.declared.world.World.{World}
use Rattle.net_base.specs.Actors.{Actor, IsConv, slot_count}
use Rattle.net_base.specs.Directory.{is_of}
use Rattle.net_base.specs.Duties.{Duty, put_by, emitted_put, close_calls, follow_up, proto_of, forwarded, courier_duty, slots_of, conversations, tick_at, owed_ticks, has_come, due_of, generation_of, release}
use Rattle.net_base.specs.Net.{Net}
use Rattle.net_base.specs.Routes.{Way, way, has_address}
use Rattle.net_base.specs.World.{IsWorld}
use Rattle.history_laws.proofs.Ordered.{Each, Later, each_append, each_map, each_weaker}
use Rattle.history_laws.proofs.Duties.{OfKind, Apart, bears, given_last, reached, conv_generation}
use Rattle.history_laws.proofs.Worlds.{IsWithin, way_within}
use Rattle.history_laws.proofs.Keeping.{IsNew, NotConv}

-- A duty at a medium or a directory.

pub record IsPlainDuty (w : World) (s : ℕ) (d : Duty) : Type 0 where
  pub kind : OfKind w d
  pub at : d.cites ≡ s
  pub not : NotConv d.actor

pub plain_new : (w : World) (net after : Net) (d : Duty) → IsPlainDuty w (length net.past) d → IsNew w net after d
plain_new w net after d is = record {
  kind = is.kind;
  cites = is.at;
  below = λ h p n at. absurd (subst NotConv at is.not);
  unborn = λ h p n at. absurd (subst NotConv at is.not);
}

station_kind : (w : World) (out : Way) (p : Packet) (s : ℕ) (o : Option ℕ) → out.station ≡ o → IsWithin w out → IsPlainDuty w s (record { actor = name.Medium out.medium; event = event.Put o; with = given.Packet p; cites = s })
station_kind w out p s None is within = record { kind = (within.medium, tt); at = refl; not = tt }
station_kind w out p s (Some to) is within = record { kind = (within.medium, within.station to is); at = refl; not = tt }

put_each : (w : World) (h ip s : ℕ) (p : Packet) (o : Option Way) → IsWorld w → way w h ip ≡ o → Each (IsPlainDuty w s) (put_by o s p)
put_each w h ip s p None world is = tt
put_each w h ip s p (Some out) world is = (station_kind w out p s out.station refl (way_within w h ip out world is), tt)

pub emitted_each : (w : World) (a : ActorName) (s : ℕ) (o : Option Packet) → IsWorld w → Each (IsPlainDuty w s) (emitted_put w a s o)
emitted_each w (name.Dir h p) s (Some packet) world = put_each w h packet.dst.ip s packet (way w h packet.dst.ip) world refl
emitted_each w (name.Conv h p n) s (Some packet) world = put_each w h packet.dst.ip s packet (way w h packet.dst.ip) world refl
emitted_each w _ s _ world = tt

either_each : (P : Duty → Type 0) (b : Bool) (ds es : List Duty) → Each P ds → Each P es → Each P (if b then ds else es)
either_each P true ds es one two = one
either_each P false ds es one two = two

own_protocol : (b : Body) → is_of (proto_of b) b ≡ true
own_protocol (body.Il m) = refl
own_protocol (body.Udp t) = refl

pub courier_each : (w : World) (m s : ℕ) (o : Option Taken) → IsWorld w → Each (λ (t : Taken). t.to < length w.hosts) (option_to_list o) → Each (IsPlainDuty w s) (courier_duty w (name.Medium m) s o)
courier_each w m s None world within = tt
courier_each w m s (Some t) world within =
    either_each (IsPlainDuty w s) (has_address w t.to t.packet.dst.ip) _ (forwarded w t.to s t.packet)
    (record { kind = (within.0, own_protocol t.packet.body); at = refl; not = tt }, tt)
    (either_each (IsPlainDuty w s) (nat_lt 1 t.packet.ttl) _ [] (put_each w t.to t.packet.dst.ip s (record t.packet { ttl = t.packet.ttl - 1 }) (way w t.to t.packet.dst.ip) world refl) tt)

pub release_each : (w : World) (h : ℕ) (p : Proto) (n s : ℕ) (a : Actor) (ended : Bool) → h < length w.hosts → n < slot_count → Each (IsPlainDuty w s) (release (name.Conv h p n) s a ended)
release_each w h p n s (IsConv c) true host slot = (record { kind = (host, slot); at = refl; not = tt }, tt)
release_each w h p n s _ _ host slot = tt

pub left_each : (w : World) (h : ℕ) (p : Proto) (n s : ℕ) (e : Event) (with : With) (r : Reply) → h < length w.hosts → n < slot_count → Each (IsPlainDuty w s) (follow_up (name.Conv h p n) s e with r)
left_each w h p n s (event.Hangup g) with reply.Left host slot = (record { kind = (host, slot); at = refl; not = tt }, tt)
left_each w h p n s _ with _ host slot = tt

-- Ticks.

each_range : (P : ℕ → Type 0) (n a : ℕ) → ((k : ℕ) → k < a + n → P k) → Each P (range_with_len a n)
each_range P zero a all = tt
each_range P (suc n) a all = (all a (omega arith), each_range P n (a + 1) (λ k lt. all k (omega (arith, lt))))

each_flat : {X Y : Type 0} (P : Y → Type 0) (f : X → List Y) (xs : List X) → Each (λ (x : X). Each P (f x)) xs → Each P (flat_map f xs)
each_flat P f [] all = tt
each_flat P f (x ∷ xs) all = each_append P (f x) (flat_map f xs) all.0 (each_flat P f xs all.1)

-- a conversation of the world
abbrev IsConvOf : World → ActorName → Type 0
IsConvOf w (name.Conv h p n) = (h < length w.hosts) × (n < slot_count)
IsConvOf w _ = ⊥

all_conversations : (w : World) → Each (IsConvOf w) (conversations w)
all_conversations w =
    each_flat (IsConvOf w) (λ (h : ℕ). slots_of h proto.Il ++ slots_of h proto.Udp) (range_with_len 0 (length w.hosts))
    (each_range (λ (h : ℕ). Each (IsConvOf w) (slots_of h proto.Il ++ slots_of h proto.Udp)) (length w.hosts) 0 (λ h lt.
    each_append (IsConvOf w) (slots_of h proto.Il) (slots_of h proto.Udp)
    (each_map (IsConvOf w) (λ (n : ℕ). name.Conv h proto.Il n) (range_with_len 0 slot_count) (each_range (λ (n : ℕ). IsConvOf w (name.Conv h proto.Il n)) slot_count 0 (λ n within. (omega (arith, lt), omega (arith, within)))))
    (each_map (IsConvOf w) (λ (n : ℕ). name.Conv h proto.Udp n) (range_with_len 0 slot_count) (each_range (λ (n : ℕ). IsConvOf w (name.Conv h proto.Udp n)) slot_count 0 (λ n within. (omega (arith, lt), omega (arith, within)))))))

generation_is : (a : Actor) → generation_of a ≡ conv_generation a
generation_is (IsConv c) = refl
generation_is _ = refl

-- the directory of a conversation gave this generation, or a later one
abbrev IsGivenAt : Net → ℕ → ActorName → Type 0
IsGivenAt after g (name.Conv i q m) = g ≤ given_last after i q m
IsGivenAt after g _ = Unit {0}

-- a tick names no generation that the directory didn't give
tick_new : (w : World) (net after : Net) (now : ℕ) (a : ActorName) → ((h : ℕ) (p : Proto) (n : ℕ) → reached net h p n ≤ given_last after h p n) → IsConvOf w a → Each (λ (d : Duty). IsNew w net after d × (bears d.event ≡ false)) (tick_at net.actors (length net.past) now a)
tick_new w net after now (name.Conv h p n) behind of =
    either_each (λ (d : Duty). IsNew w net after d × (bears d.event ≡ false)) (has_come now (due_of (net.actors (name.Conv h p n)))) _ [] (
      (
        record {
          kind = (of.0, of.1, tt);
          cites = refl;
          below = λ i q m at. subst (IsGivenAt after (generation_of (net.actors (name.Conv h p n)))) at (omega (arith, generation_is (net.actors (name.Conv h p n)), behind h p n));
          unborn = λ i q m at is. absurd (true≢false (sym is));
        },
        refl,
      ),
      tt,
    ) tt
tick_new w net after now (name.Dir h p) behind of = absurd of
tick_new w net after now (name.Desk h) behind of = absurd of
tick_new w net after now (name.Medium m) behind of = absurd of
tick_new w net after now name.Clock behind of = absurd of

pub ticks_new : (w : World) (net after : Net) (e : Event) → ((h : ℕ) (p : Proto) (n : ℕ) → reached net h p n ≤ given_last after h p n) → Each (λ (d : Duty). IsNew w net after d × (bears d.event ≡ false)) (owed_ticks w net.actors name.Clock (length net.past) e)
ticks_new w net after (event.Move now) behind =
    each_flat (λ (d : Duty). IsNew w net after d × (bears d.event ≡ false)) (tick_at net.actors (length net.past) now) (conversations w)
    (each_weaker (IsConvOf w) _ (λ a of. tick_new w net after now a behind of) (conversations w) (all_conversations w))
ticks_new w net after _ behind = tt

-- Births.

apart_of : (d : Duty) (es : List Duty) → bears d.event ≡ false → Each (Apart d) es
apart_of d [] is = tt
apart_of d (e ∷ es) is = ((λ one two same names. true≢false (sym one ∙ is)), apart_of d es is)

pub none_bears : (ds : List Duty) → Each (λ (d : Duty). bears d.event ≡ false) ds → Later Apart ds
none_bears [] all = tt
none_bears (d ∷ ds) all = (apart_of d ds all.0, none_bears ds all.1)

close_silent : (h : ℕ) (p : Proto) (s : ℕ) (calls : List Call) → Each (λ (d : Duty). bears d.event ≡ false) (close_calls h p s calls)
close_silent h p s [] = tt
close_silent h p s (c ∷ cs) = (refl, close_silent h p s cs)

-- one duty, or several closes
pub follow_apart : (h : ℕ) (p : Proto) (s : ℕ) (e : Event) (with : With) (r : Reply) → Later Apart (follow_up (name.Dir h p) s e with r)
follow_apart h p s event.Reserve with (reply.Slot n g) = (tt, tt)
follow_apart h p s (event.Grant n g remote port) with (reply.Granted pair start limit) = (tt, tt)
follow_apart h p s (event.Announce n g ip port) with reply.Ok = (tt, tt)
follow_apart h p s (event.Bind n g port) with reply.Ok = (tt, tt)
follow_apart h p s (event.Listen n) with (reply.Call m g) = (tt, tt)
follow_apart h p s (event.Withdraw n g) with (reply.Calls calls) = none_bears (close_calls h p s calls) (close_silent h p s calls)
follow_apart h p s (event.Release n g) with (reply.Calls calls) = none_bears (close_calls h p s calls) (close_silent h p s calls)
follow_apart h p s event.Arrive (given.Packet packet) (reply.To n g) = (tt, tt)
follow_apart h p s event.Arrive (given.Packet packet) (reply.Born n g start limit) = (tt, tt)
follow_apart h p s _ _ _ = tt
