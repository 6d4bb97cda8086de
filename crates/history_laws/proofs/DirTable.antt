-- Each step of a directory is that of a row.
use Rattle.std.proofs.Common.{◌≡◌, ℕ, ◌==◌, Bool, true, false, cond, List, [], ◌∷◌, Option, Some, None, slice_get, refl, subst}
use Rattle.std.specs.Prelude.{IfSome}
use Rattle.std.proofs.lemmas.Bool.{cond_both, eqb-true}
use Rattle.net_base.specs.declared.actor.Call.{Call}
use Rattle.net_base.specs.declared.address.Addr.{Addr}
use Rattle.net_base.specs.declared.address.Proto.{Proto}
use Rattle.net_base.specs.declared.event.Event.{Event}
use Rattle.net_base.specs.declared.event.Event.TheVariants as event
use Rattle.net_base.specs.declared.history.With.{With}
use Rattle.net_base.specs.declared.history.With.TheVariants as given
use Rattle.net_base.specs.declared.il.StateName.{StateName}
use Rattle.net_base.specs.declared.il.StateName.TheVariants as state_name
use Rattle.net_base.specs.declared.packet.Body.{Body}
use Rattle.net_base.specs.declared.packet.Body.TheVariants as body
use Rattle.net_base.specs.declared.packet.Packet.{Packet}
use Rattle.net_base.specs.declared.reply.Reply.TheVariants as reply
use Rattle.net_base.specs.declared.world.World.{World}
use Rattle.net_base.specs.ActorStep.{Step}
use Rattle.net_base.specs.Conversation.{is_sync}
use Rattle.net_base.specs.Directory as dir
use Rattle.net_base.specs.Directory.{Dir, Slot, Taker, dir_step, home_at, packet_pair}
use Rattle.net_base.specs.Routes.{Way, way}
use Rattle.net_base.specs.Same.{same_addr}
use Rattle.history_laws.specs.DirRows.{DirRow, pair_by, slot_in}
use Rattle.history_laws.specs.DirRows as row

module _ (w : World) (h : ℕ) (p : Proto) (d : Dir) where
  abbrev Is : Event → With → Step Dir → Type 0
  Is e gift s = DirRow w h p d e gift s

  abbrev Are : Event → With → Option (Step Dir) → Type 0
  Are e gift step = IfSome step (λ (s : Step Dir). Is e gift s)

  either : (e : Event) (gift : With) (b : Bool) (x y : Step Dir) → (b ≡ true → Is e gift x) → (b ≡ false → Is e gift y) → Is e gift (cond b x y)
  either e gift b x y f g = cond_both b x y (λ (s : Step Dir). Is e gift s) f g

  reserved : (gift : With) (o : Option (ℕ × Slot)) → dir.first_slot dir.is_free 0 d.slots ≡ o → Is event.Reserve gift (dir.reserves o d)
  reserved gift None is = row.Full
  reserved gift (Some found) is = row.Reserves is

  at_slot : (e : ℕ → Event) (gift : With) (n g : ℕ) (o : Option Slot) (step : Slot → Step Dir) → slot_in (e g) ≡ Some (n, g) → slice_get d.slots n ≡ o
      → ((s : Slot) → slice_get d.slots n ≡ Some s → Is (e s.generation) gift (step s)) → Are (e g) gift (dir.in_found_slot o g d step)
  at_slot e gift n g None step names at each = tt
  at_slot e gift n g (Some s) step names at each =
      either (e g) gift (s.generation == g) (step s) _
      (λ same. subst (λ (k : ℕ). Is (e k) gift (step s)) (eqb-true s.generation g same) (each s at)) (λ other. row.Stale names at other)

  module _ (gift : With) (n : ℕ) (remote : Addr) (asked : Option ℕ) (s : Slot) (at : slice_get d.slots n ≡ Some s) where
    abbrev grant : Event
    grant = event.Grant n s.generation remote asked

    granted_pair : (out : Way) (own : ℕ) → dir.is_reserved s.kind ≡ true → way w h remote.ip ≡ Some out → dir.port_for asked s.bound d ≡ Some own
        → same_addr (pair_by out own remote).local remote ≡ false → (o : Option ℕ) → dir.pair_place (pair_by out own remote) 1 d.pairs ≡ o
        → Is grant gift (dir.grants_pair o (home_at w h p) n s (pair_by out own remote) out.mtu d)
    granted_pair out own reserved by drawn other None new = row.Grants at reserved by drawn other new
    granted_pair out own reserved by drawn other (Some k) new = row.PairUsed at

    granted_by : dir.is_reserved s.kind ≡ true → (out : Option Way) → way w h remote.ip ≡ out → (port : Option ℕ) → dir.port_for asked s.bound d ≡ port
        → Is grant gift (dir.grants_by out port (home_at w h p) n s remote d)
    granted_by reserved None by port drawn = row.NoRoute at
    granted_by reserved (Some out) by None drawn = row.NoPort at
    granted_by reserved (Some out) by (Some own) drawn =
        either grant gift (same_addr (pair_by out own remote).local remote) _ _ (λ self. row.SelfPair at)
        (λ other. granted_pair out own reserved by drawn other (dir.pair_place (pair_by out own remote) 1 d.pairs) refl)

    granted : Is grant gift (dir.grants (home_at w h p) n remote asked d s)
    granted =
        either grant gift (dir.is_reserved s.kind) _ _ (λ reserved. granted_by reserved (way w h remote.ip) refl (dir.port_for asked s.bound d) refl)
        (λ other. row.GrantsWrong at)

  announced : (gift : With) (n : ℕ) (ip port : Option ℕ) (s : Slot) → slice_get d.slots n ≡ Some s
      → Is (event.Announce n s.generation ip port) gift (dir.announces n ip port d s)
  announced gift n ip port s at =
      either (event.Announce n s.generation ip port) gift (dir.is_reserved s.kind) _ _
      (λ reserved. by (dir.first_slot (dir.is_keyed (record { ip = ip; port = port })) 0 d.slots)) (λ other. row.AnnouncesWrong at)
    where
      by : (o : Option (ℕ × Slot))
          → Is (event.Announce n s.generation ip port) gift
          (dir.gets o n (record s { kind = state_name.Announced; key = Some (record { ip = ip; port = port }) }) (dir.ports_with port d.ports) d)
      by None = row.Announces at
      by (Some holder) = row.AnnouncesTaken at

  bound : (gift : With) (n port : ℕ) (s : Slot) → slice_get d.slots n ≡ Some s → Is (event.Bind n s.generation port) gift (dir.slot_binds n port d s)
  bound gift n port s at =
      either (event.Bind n s.generation port) gift (dir.is_reserved s.kind) _ _ (λ reserved. by (dir.first_slot (dir.is_slot_bound port) 0 d.slots))
      (λ other. row.BindsWrong at)
    where
      by : (o : Option (ℕ × Slot))
          → Is (event.Bind n s.generation port) gift (dir.gets o n (record s { bound = Some port }) (dir.with_port port d.ports) d)
      by None = row.Binds at
      by (Some holder) = row.BindsTaken at

  called : (gift : With) (n : ℕ) (s : Slot) → slice_get d.slots n ≡ Some s → (calls : List Call) → s.calls ≡ calls
      → Are (event.Listen n) gift (dir.next_call calls n d s)
  called gift n s at [] wait = tt
  called gift n s at (c ∷ calls) wait = row.Listens at wait

  listened_at : (gift : With) (n : ℕ) (s : Slot) → slice_get d.slots n ≡ Some s → (kind : StateName) → s.kind ≡ kind
      → Are (event.Listen n) gift (dir.listens_at kind n d s)
  listened_at gift n s at state_name.Announced is = called gift n s at s.calls refl
  listened_at gift n s at state_name.Free is = row.ListensNone at
  listened_at gift n s at kind is = subst (λ (k : StateName). Is (event.Listen n) gift (dir.dir_answers (reply.WrongState k) d)) is (row.ListensWrong at)

  listened : (gift : With) (n : ℕ) (o : Option Slot) → slice_get d.slots n ≡ o → Are (event.Listen n) gift (dir.slot_listens o n d)
  listened gift n None at = tt
  listened gift n (Some s) at = listened_at gift n s at s.kind refl

  refused : (packet : Packet) (b : Body) → packet.body ≡ b → Is event.Arrive (given.Packet packet) (dir.refused_or_dropped b packet d)
  refused packet (body.Udp text) said = row.Drops
  refused packet (body.Il m) said =
      either event.Arrive (given.Packet packet) (is_sync m.kind) _ _ (λ sync. row.Refuses said sync) (λ other. row.Drops)

  born : (packet : Packet) → dir.is_of p packet.body ≡ true → (o : Option Taker) → dir.taker_of (packet_pair packet) packet d ≡ o
      → Is event.Arrive (given.Packet packet) (dir.born_or_not o (home_at w h p) (packet_pair packet) packet d)
  born packet of None takes = refused packet packet.body refl
  born packet of (Some t) takes = row.Bears of takes

  arrived : (packet : Packet) → dir.is_of p packet.body ≡ true → (o : Option (ℕ × Slot)) → dir.first_slot (dir.is_live_with (packet_pair packet)) 0 d.slots ≡ o
      → Is event.Arrive (given.Packet packet) (dir.arrives_at o (home_at w h p) (packet_pair packet) packet d)
  arrived packet of None found = born packet of (dir.taker_of (packet_pair packet) packet d) refl
  arrived packet of (Some x) found = row.To of found

  of_kind : (e : Event) (gift : With) (b : Bool) (s : Step Dir) → (b ≡ true → Is e gift s) → Are e gift (cond b (Some s) None)
  of_kind e gift true s is = is refl
  of_kind e gift false s is = tt

  pub dir_rows : (e : Event) (gift : With) → Are e gift (dir_step w h p e gift d)
  dir_rows event.Reserve gift = reserved gift (dir.first_slot dir.is_free 0 d.slots) refl
  dir_rows (event.Grant n g remote port) gift =
      at_slot (λ k. event.Grant n k remote port) gift n g (slice_get d.slots n) _ refl refl (λ s at. granted gift n remote port s at)
  dir_rows (event.Announce n g ip port) gift =
      at_slot (λ k. event.Announce n k ip port) gift n g (slice_get d.slots n) _ refl refl (λ s at. announced gift n ip port s at)
  dir_rows (event.Bind n g port) gift =
      at_slot (λ k. event.Bind n k port) gift n g (slice_get d.slots n) _ refl refl (λ s at. bound gift n port s at)
  dir_rows (event.Listen n) gift = listened gift n (slice_get d.slots n) refl
  dir_rows (event.Withdraw n g) gift = at_slot (λ k. event.Withdraw n k) gift n g (slice_get d.slots n) _ refl refl (λ s at. row.Withdraws at)
  dir_rows (event.Release n g) gift = at_slot (λ k. event.Release n k) gift n g (slice_get d.slots n) _ refl refl (λ s at. row.Frees at)
  dir_rows event.Arrive (given.Packet packet) =
      of_kind event.Arrive (given.Packet packet) (dir.is_of p packet.body) _
      (λ of. arrived packet of (dir.first_slot (dir.is_live_with (packet_pair packet)) 0 d.slots) refl)
  dir_rows event.Ls gift = row.Lists
  dir_rows _ _ = tt
