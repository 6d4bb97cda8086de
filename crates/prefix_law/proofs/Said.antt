-- What an end has said was emitted by an entry of its conversation, and an end is closed_by_peer by a close that the other said.
use Rattle.std.proofs.Common.{◌≡◌, ℕ, true, false, List, [], ◌∷◌, ◌++◌, length, Option, Some, None, slice_get, ◌⊎◌, inl, inr, refl, sym, ap, subst, ◌∙◌}
use Rattle.std.specs.Option.{option_map}
use Rattle.std.proofs.lemmas.Option.{none-some, same_Some}
use Rattle.net_base.specs.declared.actor.ActorName.TheVariants as actor
use Rattle.net_base.specs.declared.address.Pair.{Pair}
use Rattle.net_base.specs.declared.address.Proto.TheVariants as proto
use Rattle.net_base.specs.declared.history.Entry.{Entry}
use Rattle.net_base.specs.declared.il.IlMsg.{IlMsg}
use Rattle.net_base.specs.declared.packet.Body.TheVariants as body
use Rattle.net_base.specs.declared.world.World.{World}
use Rattle.net_base.specs.Conversation.{Conv, packet_of}
use Rattle.net_base.specs.Headers.{header}
use Rattle.net_base.specs.Legal.{IsLegalBy, MayFollowBy}
use Rattle.net_base.specs.Mirror.{mirror}
use Rattle.net_base.specs.Net.{after, work_of}
use Rattle.net_base.specs.Tasks.{Tasks}
use Rattle.net_base.specs.World.{IsWorld}
use Rattle.net_base.specs.Written.{HasClosed}
use Rattle.prefix_law.proofs.Books.{conv_of}
use Rattle.prefix_law.proofs.Happened.{Happened, happened, kept_at, linked}
use Rattle.history_laws.proofs.Shared.{at_push, before_push, by_entries}
use Rattle.prefix_law.proofs.Pairs.{Side}
use Rattle.prefix_law.proofs.Peers.{owned_pair}
use Rattle.prefix_law.proofs.Touch.{IsIn, HeardClose}
use Rattle.prefix_law.proofs.Trace.{Owner, Trace, actor_trace, trace}
use Rattle.prefix_law.proofs.Whole.{SaidHere}

-- an entry of the conversation emitted the message between the addresses of the pair
pub record Emitted (h : List Entry) (o : Owner) (q : Pair) (m : IlMsg) : Type 0 where
  pub k : ℕ
  pub entry : Entry
  pub by : Conv
  pub stands : slice_get h k ≡ Some entry
  pub actor_is : entry.actor ≡ actor.Conv o.host proto.Il o.slot
  pub pair_is : by.pair ≡ q
  pub emits_is : entry.emits ≡ Some (header (packet_of by (body.Il m)))

pub record Said (t : Trace) (h : List Entry) : Type 0 where
  pub emitted : (q : Pair) (o : Owner) (m : IlMsg) → t.owner q ≡ Some o → IsIn m (t.side q).out → Emitted h o q m
  -- the other end of a closed_by_peer one has said a close
  pub closed_by_peer : (q : Pair) → (t.side q).end.closed_by_peer ≡ true → HeardClose t q

emitted_pushed : (h : List Entry) (x : Entry) (o : Owner) (q : Pair) (m : IlMsg) → Emitted h o q m → Emitted (h ++ x ∷ []) o q m
emitted_pushed h x o q m e = record { k = e.k; entry = e.entry; by = e.by; stands = before_push h x e.entry e.k e.stands; actor_is = e.actor_is; pair_is = e.pair_is; emits_is = e.emits_is }

module _ (w : World) (world : IsWorld w) where
  -- who has said something has the pair
  speaker : {ts : Tasks} (h : List Entry) → IsLegalBy ts w h → (q : Pair) (m : IlMsg) → IsIn m ((trace w h).side q).out → (o : Owner) × ((trace w h).owner q ≡ Some o)
  speaker h legal q m there = go ((trace w h).owner q) refl
    where
      go : (found : Option Owner) → (trace w h).owner q ≡ found → (o : Owner) × ((trace w h).owner q ≡ Some o)
      go (Some o) is = (o, is)
      go None is = absurd (subst (λ (s : Side). IsIn m s.out) ((kept_at w world h legal).fine.owned.untouched q is) there)

  more : {ts : Tasks} (h : List Entry) (x : Entry) → IsLegalBy ts w h → MayFollowBy ts w h x → Said (trace w h) h → Said (trace w (h ++ x ∷ [])) (h ++ x ∷ [])
  more h x legal may before = subst (λ (u : Trace). Said u (h ++ x ∷ [])) (sym d.trace_is) (record { emitted = emitted; closed_by_peer = closed_by_peer })
    where
      t : Trace
      t = trace w h

      d : Happened w h x
      d = happened w world h x legal may

      u : Trace
      u = actor_trace x.actor d.step.state (work_of (after w h) x) d.step.outcome t

      stays : (q : Pair) (o o' : Owner) → t.owner q ≡ Some o → u.owner q ≡ Some o' → o ≡ o'
      stays q o o' was is = same_Some o o' (sym (d.leaves.later.owner_stays q o was) ∙ is)

      emitted : (q : Pair) (o : Owner) (m : IlMsg) → u.owner q ≡ Some o → IsIn m (u.side q).out → Emitted (h ++ x ∷ []) o q m
      emitted q o m owns there = go (d.leaves.says q m there)
        where
          go : IsIn m (t.side q).out ⊎ SaidHere t q x.actor m d.step.outcome.emit → Emitted (h ++ x ∷ []) o q m
          go (inl old) =
              let who = speaker h legal q m old in
              subst (λ (y : Owner). Emitted (h ++ x ∷ []) y q m) (stays q who.0 o who.1 owns) (emitted_pushed h x who.0 q m (before.emitted q who.0 m who.1 old))
          go (inr new) =
              subst (λ (y : Owner). Emitted (h ++ x ∷ []) y q m) (stays q new.o o new.owns owns)
              (record { k = length h; entry = x; by = new.by; stands = at_push h x; actor_is = new.actor_is; pair_is = new.pair_is; emits_is = d.emits_is ∙ ap (option_map header) new.emit_is })

      later : (q : Pair) → HeardClose t q → HeardClose u q
      later q heard = record { m = heard.m; there = d.leaves.later.out_stays (mirror q) heard.m heard.there; kind_is = heard.kind_is; spec_is = heard.spec_is }

      closed_by_peer : (q : Pair) → (u.side q).end.closed_by_peer ≡ true → HeardClose u q
      closed_by_peer q is = elim (d.leaves.closed_by_peer q is) [ inl old ↦ later q (before.closed_by_peer q old) | inr heard ↦ later q heard ]

  pub all_said : {ts : Tasks} (h : List Entry) → IsLegalBy ts w h → Said (trace w h) h
  all_said h legal =
      by_entries w (λ (k : List Entry). Said (trace w k) k) (record { emitted = λ q o m is. absurd (none-some o is); closed_by_peer = λ q is. absurd (unmarked is) }) more h legal
    where
      unmarked : false ≡ true → ⊥
      unmarked is = cc is

  -- the other end of a closed_by_peer one is a conversation's, which has closed
  pub closed_by : {ts : Tasks} (h : List Entry) → IsLegalBy ts w h → (q : Pair) → ((trace w h).side q).end.closed_by_peer ≡ true → (o : Owner) × ((trace w h).owner (mirror q) ≡ Some o) × HasClosed w h (conv_of o)
  closed_by h legal q is =
      let said = all_said h legal in
      let heard = said.closed_by_peer q is in
      let who = speaker h legal (mirror q) heard.m heard.there in
      let e = said.emitted (mirror q) who.0 heard.m who.1 heard.there in
      let unique = (kept_at w world h legal).fine.owned.unique in (
        who.0,
        who.1,
        record {
          k = e.k;
          entry = e.entry;
          shown = header (packet_of e.by (body.Il heard.m));
          stands = e.stands;
          actor_is = e.actor_is;
          emits_is = e.emits_is;
          closes = rw (heard.kind_is, heard.spec_is) refl;
          between = owned_pair w h (trace w h) (linked w world h legal) (mirror q) who.0 unique who.1 ∙ ap (λ (r : Pair). Some r) (sym e.pair_is);
        },
      )
