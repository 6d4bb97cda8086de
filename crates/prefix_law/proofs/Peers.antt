-- Peers have mirrored pairs.
use Rattle.std.proofs.Common.{◌≡◌, ℕ, ◌==◌, ◌&&◌, Bool, true, false, cond, List, [], ◌∷◌, Option, Some, None, inl, inr, refl, sym, ap, subst, ◌∙◌}
use Rattle.std.specs.Prelude.{find}
use Rattle.std.specs.Option.{option_map, option_and_then}
use Rattle.std.proofs.lemmas.Option.{none-some, same_Some}
use Rattle.std.proofs.lemmas.Bool.{and_parts, eqb-true, eq-eqb}
use Rattle.net_base.specs.declared.actor.ActorName.TheVariants as name
use Rattle.net_base.specs.declared.address.Pair.{Pair}
use Rattle.net_base.specs.declared.address.Proto.{Proto}
use Rattle.net_base.specs.declared.address.Proto.TheVariants as proto
use Rattle.net_base.specs.declared.history.Entry.{Entry}
use Rattle.net_base.specs.declared.world.World.{World}
use Rattle.net_base.specs.Mirror.{mirror}
use Rattle.net_base.specs.Same.{same_pair}
use Rattle.net_base.specs.Stamped.{same_actor, same_proto}
use Rattle.net_base.specs.Written.{Conversation, Given, actor_of, given_in, same_conversation, pair_of, holder, peer}
use Rattle.prefix_law.proofs.Books.{conv_of}
use Rattle.prefix_law.proofs.Deeds.{both_ways}
use Rattle.prefix_law.proofs.Linked.{Has, Linked, owner_in}
use Rattle.prefix_law.proofs.Trace.{Owner, Trace}
use Rattle.net_base.proofs.Shared.{same_proto_is, same_actor_is, same_pair_is, same_pair_itself}

-- what is found stands in the list and passes
found_in : (test : Given → Bool) (gs : List Given) (g : Given) → find test gs ≡ Some g → Has gs g × (test g ≡ true)
found_in test [] g is = absurd (none-some g is)
found_in test (x ∷ gs) g is = go (test x) refl is (found_in test gs g)
  where
    go : (b : Bool) → test x ≡ b → cond b (Some x) (find test gs) ≡ Some g → (find test gs ≡ Some g → Has gs g × (test g ≡ true)) → Has (x ∷ gs) g × (test g ≡ true)
    go true passes same later =
        let e : x ≡ g = same_Some x g same in
        (inl e, subst (λ (y : Given). test y ≡ true) e passes)
    go false passes same later = let r = later same in (inr r.0, r.1)

-- where something stands in the list and passes, something is found
finds : (test : Given → Bool) (gs : List Given) (g : Given) → Has gs g → test g ≡ true → find test gs ≡ None → ⊥
finds test [] g there passes none = there
finds test (x ∷ gs) g (inl same) passes none = go (test x) (subst (λ (y : Given). test y ≡ true) (sym same) passes) none
  where
    go : (b : Bool) → b ≡ true → cond b (Some x) (find test gs) ≡ None → ⊥
    go true is at = none-some x (sym at)
    go false is at = both_ways is refl
finds test (x ∷ gs) g (inr there) passes none = go (test x) none (finds test gs g there passes)
  where
    go : (b : Bool) → cond b (Some x) (find test gs) ≡ None → (find test gs ≡ None → ⊥) → ⊥
    go true at later = none-some x (sym at)
    go false at later = later at

conv_actor_is : (h i m n : ℕ) (p q : Proto) → name.Conv h p m ≡ name.Conv i q n → (h ≡ i) × (p ≡ q) × (m ≡ n)
conv_actor_is h i m n p q is = (cc is, cc is, cc is)

pub same_conversation_is : (e f : Conversation) → same_conversation e f ≡ true → e ≡ f
same_conversation_is e f is =
    let tests = and_parts (same_actor (actor_of e) (actor_of f)) (e.generation == f.generation) is in
    let parts = conv_actor_is e.host f.host e.slot f.slot e.proto f.proto (same_actor_is (actor_of e) (actor_of f) tests.0) in
    let generation : e.generation ≡ f.generation = eqb-true e.generation f.generation tests.1 in
    ap (λ (i : ℕ). record e { host = i }) parts.0
    ∙ (ap (λ (p : Proto). record { host = f.host; proto = p; slot = e.slot; generation = e.generation }) parts.1
    ∙ (ap (λ (i : ℕ). record { host = f.host; proto = f.proto; slot = i; generation = e.generation }) parts.2
    ∙ ap (λ (i : ℕ). record { host = f.host; proto = f.proto; slot = f.slot; generation = i }) generation))

conversation_itself : (o : Owner) → same_conversation (conv_of o) (conv_of o) ≡ true
conversation_itself o =
    let host_is : (o.host == o.host) ≡ true = eq-eqb o.host o.host refl in
    let slot_is : (o.slot == o.slot) ≡ true = eq-eqb o.slot o.slot refl in
    let generation_is : (o.generation == o.generation) ≡ true = eq-eqb o.generation o.generation refl in
    rw (host_is, slot_is, generation_is) refl

module _ (w : World) (h : List Entry) (t : Trace) (l : Linked t (given_in w h)) where
  pub pair_owned : (e : Conversation) (p : Pair) → e.proto ≡ proto.Il → pair_of w h e ≡ Some p → t.owner p ≡ Some (owner_in e)
  pair_owned e p il is = go (find (λ (g : Given). same_conversation g.to e) (given_in w h)) refl is
    where
      go : (found : Option Given) → find (λ (g : Given). same_conversation g.to e) (given_in w h) ≡ found → option_map (λ (g : Given). g.pair) found ≡ Some p → t.owner p ≡ Some (owner_in e)
      go None at same = absurd (none-some p same)
      go (Some g) at same =
          let f = found_in (λ (x : Given). same_conversation x.to e) (given_in w h) g at in
          let to_is : g.to ≡ e = same_conversation_is g.to e f.1 in
          let pair_is : g.pair ≡ p = same_Some g.pair p same in
          subst (λ (q : Pair). t.owner q ≡ Some (owner_in e)) pair_is (l.on g f.0 (ap (λ (x : Conversation). x.proto) to_is ∙ il) ∙ ap (λ (x : Conversation). Some (owner_in x)) to_is)

  pub holder_owns : (q : Pair) (f : Conversation) → holder w h proto.Il q ≡ Some f → (f.proto ≡ proto.Il) × (t.owner q ≡ Some (owner_in f))
  holder_owns q f is = go (find (λ (g : Given). same_proto g.to.proto proto.Il && same_pair g.pair q) (given_in w h)) refl is
    where
      go : (found : Option Given) → find (λ (g : Given). same_proto g.to.proto proto.Il && same_pair g.pair q) (given_in w h) ≡ found → option_map (λ (g : Given). g.to) found ≡ Some f → (f.proto ≡ proto.Il) × (t.owner q ≡ Some (owner_in f))
      go None at same = absurd (none-some f same)
      go (Some g) at same =
          let x = found_in (λ (y : Given). same_proto y.to.proto proto.Il && same_pair y.pair q) (given_in w h) g at in
          let tests = and_parts (same_proto g.to.proto proto.Il) (same_pair g.pair q) x.1 in
          let il : g.to.proto ≡ proto.Il = same_proto_is g.to.proto proto.Il tests.0 in
          let to_is : g.to ≡ f = same_Some g.to f same in (
            sym (ap (λ (y : Conversation). y.proto) to_is) ∙ il,
            subst (λ (r : Pair). t.owner r ≡ Some (owner_in f)) (same_pair_is g.pair q tests.1) (l.on g x.0 il ∙ ap (λ (y : Conversation). Some (owner_in y)) to_is),
          )

  -- a conversation of IL and its peer have a pair and its mirror
  pub peers_own : (e f : Conversation) → e.proto ≡ proto.Il → peer w h e ≡ Some f → (p : Pair) × (t.owner p ≡ Some (owner_in e)) × (f.proto ≡ proto.Il) × (t.owner (mirror p) ≡ Some (owner_in f))
  peers_own e f il is = go (pair_of w h e) refl is
    where
      go : (found : Option Pair) → pair_of w h e ≡ found → option_and_then (λ (pair : Pair). holder w h e.proto (mirror pair)) found ≡ Some f
          → (p : Pair) × (t.owner p ≡ Some (owner_in e)) × (f.proto ≡ proto.Il) × (t.owner (mirror p) ≡ Some (owner_in f))
      go None at same = absurd (none-some f same)
      go (Some p) at same =
          let x = holder_owns (mirror p) f (ap (λ (q : Proto). holder w h q (mirror p)) (sym il) ∙ same) in
          (p, pair_owned e p il at, x.0, x.1)

  -- a conversation that has a pair was given it
  pub owned_pair : (p : Pair) (o : Owner) → ((p q : Pair) (o : Owner) → t.owner p ≡ Some o → t.owner q ≡ Some o → p ≡ q) → t.owner p ≡ Some o → pair_of w h (conv_of o) ≡ Some p
  owned_pair p o unique owns = go (find (λ (g : Given). same_conversation g.to (conv_of o)) (given_in w h)) refl
    where
      go : (found : Option Given) → find (λ (g : Given). same_conversation g.to (conv_of o)) (given_in w h) ≡ found → option_map (λ (g : Given). g.pair) found ≡ Some p
      go None at = absurd (finds (λ (g : Given). same_conversation g.to (conv_of o)) (given_in w h) _ (l.back p o owns) (conversation_itself o) at)
      go (Some g) at =
          let x = found_in (λ (y : Given). same_conversation y.to (conv_of o)) (given_in w h) g at in
          let to_is : g.to ≡ conv_of o = same_conversation_is g.to (conv_of o) x.1 in
          let owner_is : t.owner g.pair ≡ Some o = l.on g x.0 (ap (λ (y : Conversation). y.proto) to_is) ∙ ap (λ (y : Conversation). Some (owner_in y)) to_is in
          ap (λ (q : Pair). Some q) (unique g.pair p o owner_is owns)

  -- so nobody has the mirror of a pair, where no conversation holds it
  pub nobody_holds : (q : Pair) (o : Owner) → holder w h proto.Il q ≡ None → t.owner q ≡ Some o → ⊥
  nobody_holds q o none owns = go (find (λ (g : Given). same_proto g.to.proto proto.Il && same_pair g.pair q) (given_in w h)) refl none
    where
      go : (found : Option Given) → find (λ (g : Given). same_proto g.to.proto proto.Il && same_pair g.pair q) (given_in w h) ≡ found → option_map (λ (g : Given). g.to) found ≡ None → ⊥
      go None at same = finds (λ (g : Given). same_proto g.to.proto proto.Il && same_pair g.pair q) (given_in w h) _ (l.back q o owns) (same_pair_itself q) at
      go (Some g) at same = none-some g.to (sym same)
