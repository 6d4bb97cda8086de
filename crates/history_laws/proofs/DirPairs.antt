-- A directory's list of pairs only grows, and a pair that it grants or that is born there wasn't in it.
use Rattle.std.proofs.Common.{◌≡◌, ℕ, ◌+◌, ◌==◌, Bool, true, false, List, [], ◌∷◌, ◌++◌, Option, Some, None, slice_get, inl, inr, refl, sym, ap, subst, ◌∙◌}
use Rattle.std.specs.Prelude.{if◌then◌else◌}
use Rattle.std.proofs.lemmas.Bool.{true≢false}
use Rattle.std.proofs.lemmas.Option.{none-some}
use Rattle.net_base.specs.declared.actor.Call.{Call}
use Rattle.net_base.specs.declared.address.Addr.{Addr}
use Rattle.net_base.specs.declared.address.Pair.{Pair}
use Rattle.net_base.specs.declared.address.Proto.{Proto}
use Rattle.net_base.specs.declared.event.Event.{Event}
use Rattle.net_base.specs.declared.event.Event.TheVariants as event
use Rattle.net_base.specs.declared.history.With.{With}
use Rattle.net_base.specs.declared.history.With.TheVariants as given
use Rattle.net_base.specs.declared.il.StateName.{StateName}
use Rattle.net_base.specs.declared.il.StateName.TheVariants as name
use Rattle.net_base.specs.declared.packet.Body.{Body}
use Rattle.net_base.specs.declared.packet.Body.TheVariants as body
use Rattle.net_base.specs.declared.packet.Packet.{Packet}
use Rattle.net_base.specs.declared.reply.Reply.{Reply}
use Rattle.net_base.specs.declared.reply.Reply.TheVariants as reply
use Rattle.net_base.specs.declared.world.World.{World}
use Rattle.net_base.specs.ActorStep.{Step, when}
use Rattle.net_base.specs.Conversation.{is_sync}
use Rattle.net_base.specs.Directory as directory
use Rattle.net_base.specs.Directory.{Dir, Slot, dir_step, pair_place, packet_pair, in_found_slot, first_slot, is_free, reserves, grants, grants_by, grants_pair, announces, slot_binds, gets, slot_listens, listens_at, next_call, bears, born_or_not, Taker, taker_of, home_at, refused_or_dropped, arrives_at, is_live_with, is_of, is_reserved, port_for}
use Rattle.net_base.specs.Routes.{Way, way}
use Rattle.net_base.specs.Same.{same_addr, same_pair}
use Rattle.net_base.specs.Stamped.{In}
use Rattle.history_laws.proofs.Takers.{taker_found}
use Rattle.net_base.proofs.Shared.{in_front, same_pair_itself}

-- Membership.

pub in_last : {A : Type 0} (x : A) (xs : List A) → In x (xs ++ x ∷ [])
in_last x [] = inl refl
in_last x (y ∷ xs) = inr (in_last x xs)

unplaced : (p : Pair) (k : ℕ) (q : Pair) (qs : List Pair) → (if same_pair p q then Some k else pair_place p (k + 1) qs) ≡ None → (pair_place p (k + 1) qs ≡ None → ⊥) → ⊥
unplaced p k q qs is rest = by (same_pair p q) is
  where
    by : (b : Bool) → (if b then Some k else pair_place p (k + 1) qs) ≡ None → ⊥
    by true some = absurd (none-some k (sym some))
    by false none = rest none

pub not_placed : (p : Pair) (k : ℕ) (qs : List Pair) → pair_place p k qs ≡ None → In p qs → ⊥
not_placed p k [] is there = there
not_placed p k (q ∷ qs) is (inl same) =
    let placed : (if same_pair p q then Some k else pair_place p (k + 1) qs) ≡ Some k = subst (λ (r : Pair). (if same_pair p r then Some k else pair_place p (k + 1) qs) ≡ Some k) same (rw (same_pair_itself p) refl) in
    absurd (none-some k (sym is ∙ placed))
not_placed p k (q ∷ qs) is (inr there) = unplaced p k q qs is (λ none. not_placed p (k + 1) qs none there)

-- Moves.

-- a reply that gives a pair to a conversation
abbrev pub is_gift : Reply → Bool
is_gift (reply.Granted pair start limit) = true
is_gift (reply.Born n g start limit) = true
is_gift _ = false

-- the pair is new
abbrev pub IsNew : Pair → Dir → Dir → Type 0
IsNew pair before after = (In pair before.pairs → ⊥) × In pair after.pairs

-- the pairs grow, and what is given is new
pub record Moves (d : Dir) (with : With) (s : Step Dir) : Type 0 where
  pub grows : (q : Pair) → In q d.pairs → In q s.state.pairs
  pub granted : (pair : Pair) (start limit : ℕ) → s.outcome.reply ≡ reply.Granted pair start limit → IsNew pair d s.state
  pub born : (packet : Packet) (n g start limit : ℕ) → with ≡ given.Packet packet → s.outcome.reply ≡ reply.Born n g start limit → IsNew (packet_pair packet) d s.state

abbrev pub MovesIf : Dir → With → Option (Step Dir) → Type 0
MovesIf d with None = Unit {0}
MovesIf d with (Some s) = Moves d with s

-- nothing is given, and the pairs are the same
plain : (d : Dir) (with : With) (s : Step Dir) → s.state.pairs ≡ d.pairs → is_gift s.outcome.reply ≡ false → Moves d with s
plain d with s same no_gift =
    record {
      grows = λ q there. subst (λ (qs : List Pair). In q qs) (sym same) there;
      granted = λ pair start limit is. absurd (true≢false (ap is_gift (sym is) ∙ no_gift));
      born = λ packet n g start limit given is. absurd (true≢false (ap is_gift (sym is) ∙ no_gift));
    }

either : (d : Dir) (with : With) (b : Bool) (s t : Step Dir) → Moves d with s → Moves d with t → Moves d with (if b then s else t)
either d with true s t one two = one
either d with false s t one two = two

reserves_move : (d : Dir) (with : With) (o : Option (ℕ × Slot)) → Moves d with (reserves o d)
reserves_move d with None = plain d with _ refl refl
reserves_move d with (Some found) = plain d with _ refl refl

in_slot_moves : (d : Dir) (with : With) (o : Option Slot) (g : ℕ) (step : Slot → Step Dir) → ((s : Slot) → Moves d with (step s)) → MovesIf d with (in_found_slot o g d step)
in_slot_moves d with None g step each = tt
in_slot_moves d with (Some s) g step each = by (s.generation == g)
  where
    by : (b : Bool) → Moves d with (if b then step s else directory.dir_answers reply.Stale d)
    by true = each s
    by false = plain d with _ refl refl

grants_pair_move : (w : World) (h : ℕ) (p : Proto) (n : ℕ) (s : Slot) (pair : Pair) (mtu : ℕ) (d : Dir) (with : With) (o : Option ℕ) → pair_place pair 1 d.pairs ≡ o → Moves d with (grants_pair o (home_at w h p) n s pair mtu d)
grants_pair_move w h p n s pair mtu d with (Some k) is = plain d with _ refl refl
grants_pair_move w h p n s pair mtu d with None is =
    record {
      grows = λ q there. in_front q d.pairs (pair ∷ []) there;
      granted = λ other start limit same. subst (λ (q : Pair). IsNew q d (grants_pair None (home_at w h p) n s pair mtu d).state) (pair_given same) (not_placed pair 1 d.pairs is, in_last pair d.pairs);
      born = λ packet m g start limit given same. absurd (true≢false (ap is_grant same));
    }
  where
    is_grant : Reply → Bool
    is_grant (reply.Granted pair start limit) = true
    is_grant _ = false

    granted_pair : Reply → Pair
    granted_pair (reply.Granted q start limit) = q
    granted_pair _ = pair

    pair_given : {r : Reply} {other : Pair} {start limit : ℕ} → r ≡ reply.Granted other start limit → granted_pair r ≡ other
    pair_given same = ap granted_pair same

grants_by_move : (w : World) (h : ℕ) (p : Proto) (n : ℕ) (s : Slot) (remote : Addr) (d : Dir) (with : With) (out : Option Way) (port : Option ℕ) → Moves d with (grants_by out port (home_at w h p) n s remote d)
grants_by_move w h p n s remote d with None port = plain d with _ refl refl
grants_by_move w h p n s remote d with (Some out) None = plain d with _ refl refl
grants_by_move w h p n s remote d with (Some out) (Some port) =
    let pair : Pair = record { local = record { ip = out.source; port = port }; remote = remote } in
    either d with (same_addr pair.local remote) _ _ (plain d with _ refl refl) (grants_pair_move w h p n s pair out.mtu d with (pair_place pair 1 d.pairs) refl)

grants_move : (w : World) (h : ℕ) (p : Proto) (n : ℕ) (remote : Addr) (port : Option ℕ) (d : Dir) (with : With) (s : Slot) → Moves d with (grants (home_at w h p) n remote port d s)
grants_move w h p n remote port d with s =
    either d with (is_reserved s.kind) _ _ (grants_by_move w h p n s remote d with (way w h remote.ip) (port_for port s.bound d)) (plain d with _ refl refl)

gets_move : (n : ℕ) (new : Slot) (ports : List ℕ) (d : Dir) (with : With) (o : Option (ℕ × Slot)) → Moves d with (gets o n new ports d)
gets_move n new ports d with None = plain d with _ refl refl
gets_move n new ports d with (Some holder) = plain d with _ refl refl

announces_move : (n : ℕ) (ip port : Option ℕ) (d : Dir) (with : With) (s : Slot) → Moves d with (announces n ip port d s)
announces_move n ip port d with s = either d with (is_reserved s.kind) _ _ (gets_move n _ _ d with _) (plain d with _ refl refl)

binds_move : (n port : ℕ) (d : Dir) (with : With) (s : Slot) → Moves d with (slot_binds n port d s)
binds_move n port d with s = either d with (is_reserved s.kind) _ _ (gets_move n _ _ d with _) (plain d with _ refl refl)

calls_move : (calls : List Call) (n : ℕ) (d : Dir) (with : With) (s : Slot) → MovesIf d with (next_call calls n d s)
calls_move [] n d with s = tt
calls_move (c ∷ calls) n d with s = plain d with _ refl refl

listens_at_move : (kind : StateName) (n : ℕ) (d : Dir) (with : With) (s : Slot) → MovesIf d with (listens_at kind n d s)
listens_at_move name.Announced n d with s = calls_move s.calls n d with s
listens_at_move name.Free n d with s = plain d with _ refl refl
listens_at_move _ n d with s = plain d with _ refl refl

listens_move : (o : Option Slot) (n : ℕ) (d : Dir) (with : With) → MovesIf d with (slot_listens o n d)
listens_move None n d with = tt
listens_move (Some s) n d with = listens_at_move s.kind n d with s

-- Arrive.

refused_moves : (b : Body) (packet : Packet) (d : Dir) (with : With) → Moves d with (refused_or_dropped b packet d)
refused_moves (body.Udp text) packet d with = plain d with _ refl refl
refused_moves (body.Il m) packet d with = either d with (is_sync m.kind) _ _ (plain d with _ refl refl) (plain d with _ refl refl)

bears_moves : (w : World) (h : ℕ) (p : Proto) (packet : Packet) (t : Taker) (d : Dir) → pair_place (packet_pair packet) 1 d.pairs ≡ None → Moves d (given.Packet packet) (bears (home_at w h p) (packet_pair packet) t d)
bears_moves w h p packet t d is =
    record {
      grows = λ q there. in_front q d.pairs (packet_pair packet ∷ []) there;
      granted = λ other start limit same. absurd (true≢false (ap is_birth same));
      born = λ other m g start limit same_given same.
          subst (λ (q : Packet). IsNew (packet_pair q) d (bears (home_at w h p) (packet_pair packet) t d).state) (ap packet_in same_given) (not_placed (packet_pair packet) 1 d.pairs is, in_last (packet_pair packet) d.pairs);
    }
  where
    is_birth : Reply → Bool
    is_birth (reply.Born n g start limit) = true
    is_birth _ = false

    packet_in : With → Packet
    packet_in (given.Packet q) = q
    packet_in _ = packet

born_or_not_moves : (w : World) (h : ℕ) (p : Proto) (packet : Packet) (d : Dir) (taker : Option Taker) → taker_of (packet_pair packet) packet d ≡ taker
    → Moves d (given.Packet packet) (born_or_not taker (home_at w h p) (packet_pair packet) packet d)
born_or_not_moves w h p packet d None is = refused_moves packet.body packet d (given.Packet packet)
born_or_not_moves w h p packet d (Some t) is = bears_moves w h p packet t d (taker_found (packet_pair packet) packet d t is).unlisted

arrives_moves : (w : World) (h : ℕ) (p : Proto) (packet : Packet) (d : Dir) (o : Option (ℕ × Slot)) → Moves d (given.Packet packet) (arrives_at o (home_at w h p) (packet_pair packet) packet d)
arrives_moves w h p packet d (Some found) = plain d (given.Packet packet) _ refl refl
arrives_moves w h p packet d None = born_or_not_moves w h p packet d _ refl

when_moves : (d : Dir) (with : With) (b : Bool) (s : Step Dir) → Moves d with s → MovesIf d with (when b (Some s))
when_moves d with true s moves = moves
when_moves d with false s moves = tt

-- every step of a directory
pub dir_moves : (w : World) (h : ℕ) (p : Proto) (e : Event) (with : With) (d : Dir) → MovesIf d with (dir_step w h p e with d)
dir_moves w h p event.Reserve with d = reserves_move d with (first_slot is_free 0 d.slots)
dir_moves w h p (event.Grant n g remote port) with d = in_slot_moves d with (slice_get d.slots n) g _ (grants_move w h p n remote port d with)
dir_moves w h p (event.Announce n g ip port) with d = in_slot_moves d with (slice_get d.slots n) g _ (announces_move n ip port d with)
dir_moves w h p (event.Bind n g port) with d = in_slot_moves d with (slice_get d.slots n) g _ (binds_move n port d with)
dir_moves w h p (event.Listen n) with d = listens_move (slice_get d.slots n) n d with
dir_moves w h p (event.Withdraw n g) with d = in_slot_moves d with (slice_get d.slots n) g _ (λ s. plain d with _ refl refl)
dir_moves w h p (event.Release n g) with d = in_slot_moves d with (slice_get d.slots n) g _ (λ s. plain d with _ refl refl)
dir_moves w h p event.Arrive (given.Packet packet) d =
    when_moves d (given.Packet packet) (is_of p packet.body) _ (arrives_moves w h p packet d (first_slot (is_live_with (packet_pair packet)) 0 d.slots))
dir_moves w h p event.Ls with d = plain d with _ refl refl
dir_moves w h p _ _ d = tt
