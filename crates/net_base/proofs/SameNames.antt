-- The tests of names that are the same: of protocols, actors, addresses and pairs.
use Rattle.std.proofs.Common.{◌≡◌, ℕ, ◌==◌, ◌&&◌, true, refl, sym, ap, ◌∙◌}
use Rattle.std.proofs.lemmas.Bool.{and_from, and_parts, eqb-true, eq-eqb, true≢false}
use Rattle.net_base.specs.declared.actor.ActorName.{ActorName}
use Rattle.net_base.specs.declared.actor.ActorName.TheVariants as actor
use Rattle.net_base.specs.declared.address.Addr.{Addr}
use Rattle.net_base.specs.declared.address.Pair.{Pair}
use Rattle.net_base.specs.declared.address.Proto.{Proto}
use Rattle.net_base.specs.declared.address.Proto.TheVariants as proto
use Rattle.net_base.specs.Same.{same_addr, same_pair}
use Rattle.net_base.specs.Stamped.{same_actor, same_proto}
use Rattle.net_base.proofs.Tests.{number_itself}

pub same_proto_is : (p q : Proto) → same_proto p q ≡ true → p ≡ q
same_proto_is proto.Il proto.Il is = refl
same_proto_is proto.Udp proto.Udp is = refl
same_proto_is _ _ is = absurd (true≢false (sym is))

pub same_actor_is : (a b : ActorName) → same_actor a b ≡ true → a ≡ b
same_actor_is (actor.Desk h) (actor.Desk h') is = ap (λ (n : ℕ). actor.Desk n) (eqb-true h h' is)
same_actor_is (actor.Dir h p) (actor.Dir h' p') is =
    let t = and_parts (h == h') (same_proto p p') is in
    let one = eqb-true h h' t.0 in
    let two = same_proto_is p p' t.1 in
    cc
same_actor_is (actor.Conv h p n) (actor.Conv h' p' n') is =
    let t = and_parts ((h == h') && same_proto p p') (n == n') is in
    let u = and_parts (h == h') (same_proto p p') t.0 in
    let one = eqb-true h h' u.0 in
    let two = same_proto_is p p' u.1 in
    let three = eqb-true n n' t.1 in
    cc
same_actor_is (actor.Medium m) (actor.Medium m') is = ap (λ (n : ℕ). actor.Medium n) (eqb-true m m' is)
same_actor_is actor.Clock actor.Clock is = refl
same_actor_is _ _ is = absurd (true≢false (sym is))

pub same_proto_itself : (p : Proto) → same_proto p p ≡ true
same_proto_itself proto.Il = refl
same_proto_itself proto.Udp = refl

pub same_itself : (a : ActorName) → same_actor a a ≡ true
same_itself (actor.Desk h) = number_itself h
same_itself (actor.Dir h p) = and_from (h == h) (same_proto p p) (number_itself h) (same_proto_itself p)
same_itself (actor.Conv h p n) =
    and_from ((h == h) && same_proto p p) (n == n) (and_from (h == h) (same_proto p p) (number_itself h) (same_proto_itself p)) (number_itself n)
same_itself (actor.Medium m) = number_itself m
same_itself actor.Clock = refl

-- Addresses and pairs.

pub same_addr_is : (a b : Addr) → same_addr a b ≡ true → a ≡ b
same_addr_is a b is =
    let t = and_parts (a.ip == b.ip) (a.port == b.port) is in
    let one = eqb-true a.ip b.ip t.0 in
    let two = eqb-true a.port b.port t.1 in
    ap (λ (n : ℕ). record a { ip = n }) one ∙ ap (λ (n : ℕ). record b { port = n }) two

pub same_pair_is : (p q : Pair) → same_pair p q ≡ true → p ≡ q
same_pair_is p q is =
    let t = and_parts (same_addr p.local q.local) (same_addr p.remote q.remote) is in
    ap (λ (a : Addr). record p { local = a }) (same_addr_is p.local q.local t.0) ∙ ap (λ (a : Addr). record q { remote = a }) (same_addr_is p.remote q.remote t.1)

pub same_addr_itself : (a : Addr) → same_addr a a ≡ true
same_addr_itself a = and_from (a.ip == a.ip) (a.port == a.port) (eq-eqb a.ip a.ip refl) (eq-eqb a.port a.port refl)

pub same_pair_itself : (p : Pair) → same_pair p p ≡ true
same_pair_itself p = and_from (same_addr p.local p.local) (same_addr p.remote p.remote) (same_addr_itself p.local) (same_addr_itself p.remote)
