-- Over the whole world a pair of a protocol has one holder, a conversation has one pair, and peers are one another's.
use Rattle.std.proofs.Common.{◌≡◌, ℕ, zero, suc, ◌==◌, ◌&&◌, Bool, true, false, cond, List, [], ◌∷◌, Option, Some, None, slice_get, inl, inr, refl, sym, ap, subst, ◌∙◌}
use Rattle.std.specs.Prelude.{find}
use Rattle.std.specs.Option.{option_map, option_and_then}
use Rattle.std.proofs.lemmas.Bool.{and_parts, and_from, eq-eqb}
use Rattle.std.proofs.lemmas.Option.{none-some, same_Some}
use Rattle.net_base.specs.declared.address.Pair.{Pair}
use Rattle.net_base.specs.declared.address.Proto.{Proto}
use Rattle.net_base.specs.declared.address.Proto.TheVariants as proto
use Rattle.net_base.specs.declared.history.Entry.{Entry}
use Rattle.net_base.specs.declared.world.World.{World}
use Rattle.net_base.specs.Legal.{IsLegalBy}
use Rattle.net_base.specs.Mirror.{mirror}
use Rattle.net_base.specs.Routes.{has_address}
use Rattle.net_base.specs.Same.{same_pair}
use Rattle.net_base.specs.Stamped.{In, same_actor, same_proto}
use Rattle.net_base.specs.Tasks.{Tasks}
use Rattle.net_base.specs.World.{IsWorld}
use Rattle.net_base.specs.Written.{Conversation, Given, actor_of, given_in, holder, pair_of, peer, same_conversation}
use Rattle.prefix_law.proofs.Deeds.{both_ways}
use Rattle.history_laws.proofs.Shared.{once}
use Rattle.prefix_law.proofs.Peers.{same_conversation_is}
use Rattle.prefix_law.proofs.Places.{places}
use Rattle.prefix_law.proofs.Trace.{HasPlaces}
use Rattle.prefix_law.proofs.UdpTrace.{Known, Kept, all_kept}
use Rattle.net_base.proofs.Shared.{in_of_get, same_proto_is, same_proto_itself, same_itself, same_pair_is, same_pair_itself}

-- Lists of what was given.

-- where all that pass agree, what is found agrees with them
found : {B : Type 0} (test : Given → Bool) (f : Given → B) (gs : List Given) (g : Given) → In g gs → test g ≡ true → ((x : Given) → In x gs → test x ≡ true → f x ≡ f g) → option_map f (find test gs) ≡ Some (f g)
found test f [] g there passes agree = absurd there
found test f (x ∷ gs) g there passes agree = go (test x) refl there (λ later. found test f gs g later passes (λ y at. agree y (inr at)))
  where
    go : (b : Bool) → test x ≡ b → In g (x ∷ gs) → (In g gs → option_map f (find test gs) ≡ Some (f g)) → option_map f (cond b (Some x) (find test gs)) ≡ Some (f g)
    go true is there' rest = ap (λ (y : _). Some y) (agree x (inl refl) is)
    go false is (inl same) rest = absurd (both_ways (subst (λ (y : Given). test y ≡ true) same passes) is)
    go false is (inr later) rest = rest later

-- what is found stands in the list and passes
found_in : {B : Type 0} (test : Given → Bool) (f : Given → B) (gs : List Given) (y : B) → option_map f (find test gs) ≡ Some y → (g : Given) × In g gs × (test g ≡ true) × (f g ≡ y)
found_in test f [] y is = absurd (none-some y is)
found_in test f (x ∷ gs) y is = go (test x) refl is (λ later. found_in test f gs y later)
  where
    go : (b : Bool) → test x ≡ b → option_map f (cond b (Some x) (find test gs)) ≡ Some y → (option_map f (find test gs) ≡ Some y → (g : Given) × In g gs × (test g ≡ true) × (f g ≡ y)) → (g : Given) × In g (x ∷ gs) × (test g ≡ true) × (f g ≡ y)
    go true passes same rest = (x, inl refl, passes, same_Some (f x) y same)
    go false passes same rest = let r = rest same in (r.0, inr r.1, r.2, r.3)

place_of : (gs : List Given) (g : Given) → In g gs → (i : ℕ) × (slice_get gs i ≡ Some g)
place_of [] g there = absurd there
place_of (x ∷ gs) g (inl same) = (zero, ap (λ (y : Given). Some y) (sym same))
place_of (x ∷ gs) g (inr there) = let r = place_of gs g there in (suc r.0, r.1)

-- Over a legal history.

module _ {ts : Tasks} (w : World) (world : HasPlaces w) (h : List Entry) (legal : IsLegalBy ts w h) where
  pub kept : Kept w h
  kept = all_kept w world h legal

  one_host : (f g : Given) → Known w h f → Known w h g → f.pair ≡ g.pair → f.to.host ≡ g.to.host
  one_host f g one two same = world.one_host f.to.host g.to.host g.pair.local.ip (subst (λ (r : Pair). has_address w f.to.host r.local.ip ≡ true) same (kept.placed f one)) (kept.placed g two)

  one_place : (i j : ℕ) (f g : Given) → slice_get (given_in w h) i ≡ Some f → slice_get (given_in w h) j ≡ Some g → f.to.proto ≡ g.to.proto → f.pair ≡ g.pair → i ≡ j
  one_place i j f g is_f is_g protos same = once w h legal i j f g is_f is_g (one_host f g (in_of_get (given_in w h) i f is_f) (in_of_get (given_in w h) j g is_g) same) protos same

  one_pair : (i j : ℕ) (f g : Given) → slice_get (given_in w h) i ≡ Some f → slice_get (given_in w h) j ≡ Some g → f.to ≡ g.to → i ≡ j
  one_pair i j f g is_f is_g same =
      one_place i j f g is_f is_g (ap (λ (c : Conversation). c.proto) same) (kept.single f g (in_of_get (given_in w h) i f is_f) (in_of_get (given_in w h) j g is_g) same)

  -- a conversation's pair is the one that was given to it
  pub pair_is : (e : Conversation) (p : Pair) → Known w h (record { to = e; pair = p }) → pair_of w h e ≡ Some p
  pair_is e p known =
      found (λ (g : Given). same_conversation g.to e) (λ (g : Given). g.pair) (given_in w h) (record { to = e; pair = p }) known
      (and_from (same_actor (actor_of e) (actor_of e)) (e.generation == e.generation) (same_itself (actor_of e)) (eq-eqb e.generation e.generation refl))
      (λ x there passes. kept.single x (record { to = e; pair = p }) there known (same_conversation_is x.to e passes))

  -- a pair's holder is the one to whom it was given
  pub holder_is : (f : Conversation) (q : Pair) → Known w h (record { to = f; pair = q }) → holder w h f.proto q ≡ Some f
  holder_is f q known =
      found (λ (g : Given). same_proto g.to.proto f.proto && same_pair g.pair q) (λ (g : Given). g.to) (given_in w h) (record { to = f; pair = q }) known
      (and_from (same_proto f.proto f.proto) (same_pair q q) (same_proto_itself f.proto) (same_pair_itself q))
      (λ x there passes.
      let tests = and_parts (same_proto x.to.proto f.proto) (same_pair x.pair q) passes in
      let i = place_of (given_in w h) x there in
      let j = place_of (given_in w h) (record { to = f; pair = q }) known in
      let one : i.0 ≡ j.0 = one_place i.0 j.0 x (record { to = f; pair = q }) i.1 j.1 (same_proto_is x.to.proto f.proto tests.0) (same_pair_is x.pair q tests.1) in
      ap (λ (g : Given). g.to) (same_Some x (record { to = f; pair = q }) (sym i.1 ∙ (ap (λ (n : ℕ). slice_get (given_in w h) n) one ∙ j.1))))

  -- and the other way round
  pair_known : (e : Conversation) (p : Pair) → pair_of w h e ≡ Some p → Known w h (record { to = e; pair = p })
  pair_known e p is =
      let x = found_in (λ (g : Given). same_conversation g.to e) (λ (g : Given). g.pair) (given_in w h) p is in
      subst (λ (c : Conversation). Known w h (record { to = c; pair = p })) (same_conversation_is x.0.to e x.2) (subst (λ (q : Pair). Known w h (record { to = x.0.to; pair = q })) x.3 x.1)

  holder_known : (p : Proto) (q : Pair) (f : Conversation) → holder w h p q ≡ Some f → (f.proto ≡ p) × Known w h (record { to = f; pair = q })
  holder_known p q f is =
      let x = found_in (λ (g : Given). same_proto g.to.proto p && same_pair g.pair q) (λ (g : Given). g.to) (given_in w h) f is in
      let tests = and_parts (same_proto x.0.to.proto p) (same_pair x.0.pair q) x.2 in (
        ap (λ (c : Conversation). c.proto) (sym x.3) ∙ same_proto_is x.0.to.proto p tests.0,
        subst (λ (c : Conversation). Known w h (record { to = c; pair = q })) x.3 (subst (λ (r : Pair). Known w h (record { to = x.0.to; pair = r })) (same_pair_is x.0.pair q tests.1) x.1),
      )

  -- the holder of the mirror of its pair is its peer
  pub peer_is : (e f : Conversation) (p : Pair) → Known w h (record { to = e; pair = p }) → f.proto ≡ e.proto → Known w h (record { to = f; pair = mirror p }) → peer w h e ≡ Some f
  peer_is e f p own protos known =
      ap (option_and_then (λ (pair : Pair). holder w h e.proto (mirror pair))) (pair_is e p own)
      ∙ (ap (λ (x : Proto). holder w h x (mirror p)) (sym protos) ∙ holder_is f (mirror p) known)

  peer_back : (e f : Conversation) → peer w h e ≡ Some f → peer w h f ≡ Some e
  peer_back e f is = go (pair_of w h e) refl is
    where
      go : (found : Option Pair) → pair_of w h e ≡ found → option_and_then (λ (pair : Pair). holder w h e.proto (mirror pair)) found ≡ Some f → peer w h f ≡ Some e
      go None at same = absurd (none-some f same)
      go (Some p) at same =
          let other = holder_known e.proto (mirror p) f same in
          peer_is f e (mirror p) other.1 (sym other.0) (pair_known e p at)

pub one_holder : {ts : Tasks} (w : World) (h : List Entry) → IsWorld w → IsLegalBy ts w h → (i j : ℕ) (f g : Given) → slice_get (given_in w h) i ≡ Some f → slice_get (given_in w h) j ≡ Some g → f.to.proto ≡ g.to.proto → f.pair ≡ g.pair → i ≡ j
one_holder w h world legal = one_place w (places w world) h legal

pub one_gift : {ts : Tasks} (w : World) (h : List Entry) → IsWorld w → IsLegalBy ts w h → (i j : ℕ) (f g : Given) → slice_get (given_in w h) i ≡ Some f → slice_get (given_in w h) j ≡ Some g → f.to ≡ g.to → i ≡ j
one_gift w h world legal = one_pair w (places w world) h legal

pub mutual_peers : {ts : Tasks} (w : World) (h : List Entry) (e f : Conversation) → IsWorld w → IsLegalBy ts w h → peer w h e ≡ Some f → peer w h f ≡ Some e
mutual_peers w h e f world legal is = peer_back w (places w world) h legal e f is

pub holds_it : {ts : Tasks} (w : World) (h : List Entry) (k : ℕ) (g : Given) → IsWorld w → IsLegalBy ts w h → slice_get (given_in w h) k ≡ Some g → holder w h g.to.proto g.pair ≡ Some g.to
holds_it w h k g world legal is = holder_is w (places w world) h legal g.to g.pair (in_of_get (given_in w h) k g is)

pub is_peer : {ts : Tasks} (w : World) (h : List Entry) (e : Conversation) (pair : Pair) (k : ℕ) (g : Given) → IsWorld w → IsLegalBy ts w h → pair_of w h e ≡ Some pair → slice_get (given_in w h) k ≡ Some g → g.to.proto ≡ e.proto → g.pair ≡ mirror pair → peer w h e ≡ Some g.to
is_peer w h e pair k g world legal has is protos mirrored =
    let there = places w world in
    peer_is w there h legal e g.to pair (pair_known w there h legal e pair has) protos
    (subst (λ (q : Pair). Known w h (record { to = g.to; pair = q })) mirrored (in_of_get (given_in w h) k g is))
