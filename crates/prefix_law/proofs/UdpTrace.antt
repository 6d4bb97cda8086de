-- Each entry of a legal history keeps what is known of UDP: who has which pair, and where each datagram was written.
use Rattle.std.proofs.Common.{◌≡◌, ℕ, ◌==◌, true, false, List, [], ◌∷◌, ◌++◌, length, Option, Some, None, inl, inr, refl, sym, ap, subst, ◌∙◌, arith}
use Rattle.std.specs.Prelude.{IfSome, IsSome, option_to_list}
use Rattle.std.specs.Option.{option_map}
use Rattle.std.proofs.lemmas.Bool.{cond_both}
use Rattle.std.proofs.lemmas.Option.{none-some}
use Rattle.net_base.specs.declared.actor.ActorName.{ActorName}
use Rattle.net_base.specs.declared.actor.ActorName.TheVariants as actor
use Rattle.net_base.specs.declared.address.Pair.{Pair}
use Rattle.net_base.specs.declared.address.Proto.{Proto}
use Rattle.net_base.specs.declared.address.Proto.TheVariants as proto
use Rattle.net_base.specs.declared.history.Entry.{Entry}
use Rattle.net_base.specs.declared.history.Taken.{Taken}
use Rattle.net_base.specs.declared.packet.Body.{Body}
use Rattle.net_base.specs.declared.packet.Body.TheVariants as body
use Rattle.net_base.specs.declared.packet.Packet.{Packet}
use Rattle.net_base.specs.declared.reply.Reply.{Reply}
use Rattle.net_base.specs.declared.world.World.{World}
use Rattle.net_base.specs.ActorStep.{Step}
use Rattle.net_base.specs.Actors.{Actor, slot_count, opening_actor}
use Rattle.net_base.specs.Callers.{caller_of}
use Rattle.net_base.specs.Directory.{Slot, free_slot}
use Rattle.net_base.specs.Duties.{Duty, duties}
use Rattle.net_base.specs.Legal.{IsLegalBy, MayFollowBy, Shows, Shown}
use Rattle.net_base.specs.Net.{Net, after, state, owed, step_of, work_of, net_after, actors_after, owed_after}
use Rattle.net_base.specs.Routes.{has_address}
use Rattle.net_base.specs.Stamped.{In, same_actor}
use Rattle.net_base.specs.Tasks.{Tasks}
use Rattle.net_base.specs.Written.{Conversation, Given, gave, given_in, IsWrite}
use Rattle.prefix_law.proofs.Deeds.{both_ways}
use Rattle.history_laws.proofs.Shared.{in_last, after_push, at_push, before_push, by_entries}
use Rattle.prefix_law.proofs.DirSteps.{all_free}
use Rattle.prefix_law.proofs.Linked.{given_push}
use Rattle.prefix_law.proofs.Trace.{HasPlaces}
use Rattle.prefix_law.proofs.UdpConvs.{SentAs, SentIf}
use Rattle.prefix_law.proofs.UdpSteps.{StateFine, state_more, Next, next}
use Rattle.prefix_law.proofs.UdpDirs.{with_new, SlotIsFine, IsNew}
use Rattle.prefix_law.proofs.UdpDuties.{EmittedAs, EmittedIf, emitted_more, TakenAt, EachDuty, each_duty_more, each_duty_append, each_duty_rest, duties_fine, work_fine}
use Rattle.net_base.proofs.Shared.{in_front, in_parts, same_actor_is, same_itself}

-- What is known of a history.

abbrev pub Known : World → List Entry → Given → Type 0
Known w h g = In g (given_in w h)

-- the text was written at the conversation of UDP that has the pair
pub record Wrote (w : World) (h : List Entry) (p : Pair) (text : List ℕ) : Type 0 where
  pub by : Conversation
  pub k : ℕ
  pub proto_is : by.proto ≡ proto.Udp
  pub has : Known w h (record { to = by; pair = p })
  pub written : IsWrite h by k text

pub record Kept (w : World) (h : List Entry) : Type 0 where
  pub states : (a : ActorName) → StateFine (Known w h) (Wrote w h) a (state w h a)
  pub duties_are : (c : ℕ) → EachDuty w (Known w h) (Wrote w h) (owed w h c)
  -- a conversation's local address is its host's
  pub placed : (g : Given) → Known w h g → has_address w g.to.host g.pair.local.ip ≡ true
  -- a conversation has one pair
  pub single : (f g : Given) → Known w h f → Known w h g → f.to ≡ g.to → f.pair ≡ g.pair

-- Lists of what was given.

known_now : (gs : List Given) (o : Option Given) (g : Given) → with_new o (λ x. In x gs) g → In g (gs ++ option_to_list o)
known_now gs None g there = in_front g gs [] there
known_now gs (Some x) g (inl there) = in_front g gs (x ∷ []) there
known_now gs (Some x) g (inr same) = subst (λ (y : Given). In y (gs ++ x ∷ [])) same (in_last x gs)

known_then : (gs : List Given) (o : Option Given) (g : Given) → In g (gs ++ option_to_list o) → with_new o (λ x. In x gs) g
known_then gs None g there = elim (in_parts g gs [] there) [ inl old ↦ old | inr none ↦ absurd none ]
known_then gs (Some x) g there = elim (in_parts g gs (x ∷ []) there) [
  | inl old ↦ inl old
  | inr (inl same) ↦ inr (sym same)
  | inr (inr none) ↦ absurd none
]

-- what is given goes to no conversation of another directory
not_new : (w : World) (K : Given → Type 0) (a b : ActorName) (o : Option Given) → IfSome o (λ g. IsNew w K a g) → same_actor a b ≡ false → (g : Given) → b ≡ actor.Dir g.to.host g.to.proto → with_new o K g → K g
not_new w K a b None new apart g is known = known
not_new w K a b (Some x) new apart g is (inl old) = old
not_new w K a b (Some x) new apart g is (inr same) =
    let one : a ≡ b = new.actor_is ∙ (ap (λ (y : Given). actor.Dir y.to.host y.to.proto) same ∙ sym is) in
    absurd (both_ways (subst (λ (c : ActorName). same_actor a c ≡ true) one (same_itself a)) apart)

placed_now : (w : World) (K : Given → Type 0) (a : ActorName) (o : Option Given) → IfSome o (λ g. IsNew w K a g) → ((g : Given) → K g → has_address w g.to.host g.pair.local.ip ≡ true) → (g : Given) → with_new o K g → has_address w g.to.host g.pair.local.ip ≡ true
placed_now w K a None new placed g known = placed g known
placed_now w K a (Some x) new placed g (inl old) = placed g old
placed_now w K a (Some x) new placed g (inr same) = subst (λ (y : Given). has_address w y.to.host y.pair.local.ip ≡ true) same new.addressed

single_now : (w : World) (K : Given → Type 0) (a : ActorName) (o : Option Given) → IfSome o (λ g. IsNew w K a g) → ((f g : Given) → K f → K g → f.to ≡ g.to → f.pair ≡ g.pair)
    → (f g : Given) → with_new o K f → with_new o K g → f.to ≡ g.to → f.pair ≡ g.pair
single_now w K a None new single f g one two same = single f g one two same
single_now w K a (Some x) new single f g (inl one) (inl two) same = single f g one two same
single_now w K a (Some x) new single f g (inr one) (inr two) same = ap (λ (y : Given). y.pair) (sym one ∙ two)
single_now w K a (Some x) new single f g (inl one) (inr two) same =
    absurd (new.never f.pair (subst (λ (c : Conversation). K (record { to = c; pair = f.pair })) (same ∙ ap (λ (y : Given). y.to) (sym two)) one))
single_now w K a (Some x) new single f g (inr one) (inl two) same =
    absurd (new.never g.pair (subst (λ (c : Conversation). K (record { to = c; pair = g.pair })) (sym same ∙ ap (λ (y : Given). y.to) (sym one)) two))

-- One entry.

-- what the entry x did after these
pub record Took (w : World) (h : List Entry) (x : Entry) : Type 0 where
  pub step : Step Actor
  pub net_is : after w (h ++ x ∷ []) ≡ net_after w (after w h) x (Some step)
  pub reply_is : x.reply ≡ step.outcome.reply
  pub leaves : Next w (Known w h) (Wrote w h) (length (after w h).past) x.actor x.event (work_of (after w h) x).with step

module _ {ts : Tasks} (w : World) (world : HasPlaces w) (h : List Entry) (x : Entry) (may : MayFollowBy ts w h x) (kept : Kept w h) where
  pub took : Took w h x
  took = go (step_of w (after w h) x) refl leaves may.is_ready may.answers
    where
      LeavesIf : Option (Step Actor) → Type 0
      LeavesIf o = IfSome o (λ s. Next w (Known w h) (Wrote w h) (length (after w h).past) x.actor x.event (work_of (after w h) x).with s)

      leaves : LeavesIf (step_of w (after w h) x)
      leaves =
          next w world (Known w h) (Wrote w h) (length (after w h).past) (after w h).moment x.event (work_of (after w h) x).with x.actor ((after w h).actors x.actor) (kept.states x.actor)
          (work_fine w (Known w h) (Wrote w h) x ((after w h).owed x.caller) (caller_of w x.caller) _ (kept.duties_are x.caller) may.is_asked)

      go : (o : Option (Step Actor)) → step_of w (after w h) x ≡ o → LeavesIf o → IsSome (option_map (λ (s : Step Actor). s.outcome) o) → Shows (option_map (λ (s : Step Actor). s.outcome) o) x → Took w h x
      go None is n ready shows = absurd (both_ways ready refl)
      go (Some s) is n ready shows = record {
        step = s;
        net_is = after_push w h x ∙ ap (λ (o : Option (Step Actor)). net_after w (after w h) x o) is;
        reply_is = ap (λ (z : Shown). z.reply) shows;
        leaves = n;
      }

module _ (w : World) (h : List Entry) (x : Entry) (kept : Kept w h) (t : Took w h x) where
  abbrev s : Step Actor
  s = t.step

  abbrev h' : List Entry
  h' = h ++ x ∷ []

  abbrev o : Option Given
  o = gave x.actor x.event (work_of (after w h) x).with t.step.outcome.reply

  given_is : given_in w h' ≡ given_in w h ++ option_to_list o
  given_is = given_push w h x ∙ ap (λ (r : Reply). given_in w h ++ option_to_list (gave x.actor x.event (work_of (after w h) x).with r)) t.reply_is

  now : (g : Given) → with_new o (Known w h) g → Known w h' g
  now g there = subst (λ (gs : List Given). In g gs) (sym given_is) (known_now (given_in w h) o g there)

  then : (g : Given) → Known w h' g → with_new o (Known w h) g
  then g there = known_then (given_in w h) o g (subst (λ (gs : List Given). In g gs) given_is there)

  stays : (g : Given) → Known w h g → Known w h' g
  stays g there = subst (λ (gs : List Given). In g gs) (sym given_is) (in_front g (given_in w h) (option_to_list o) there)

  wrote_stays : (p : Pair) (text : List ℕ) → Wrote w h p text → Wrote w h' p text
  wrote_stays p text was = record {
    by = was.by;
    k = was.k;
    proto_is = was.proto_is;
    has = stays _ was.has;
    written = record {
      entry = was.written.entry;
      count = was.written.count;
      stands = before_push h x was.written.entry was.k was.written.stands;
      actor_is = was.written.actor_is;
      event_is = was.written.event_is;
      reply_is = was.written.reply_is;
    };
  }

  -- what the entry emits it wrote
  emitted_as : (p : Pair) (b : Body) → SentAs (Known w h) x.actor x.event s.outcome.reply p b → EmittedAs (Wrote w h') p b
  emitted_as p (body.Il m) sent = tt
  emitted_as p (body.Udp text) sent = record {
    by = record { host = sent.host; proto = proto.Udp; slot = sent.slot; generation = sent.generation };
    k = length h;
    proto_is = refl;
    has = stays _ sent.has;
    written = record {
      entry = x;
      count = sent.count;
      stands = at_push h x;
      actor_is = sent.actor_is;
      event_is = sent.event_is;
      reply_is = t.reply_is ∙ sent.reply_is;
    };
  }

  emitted_if : (emit : Option Packet) → SentIf (Known w h) x.actor x.event s.outcome.reply emit → EmittedIf (Wrote w h') emit
  emitted_if None sent = tt
  emitted_if (Some p) sent = emitted_as (record { local = p.src; remote = p.dst }) p.body sent

  taken_at : TakenAt (Wrote w h) x.actor s.outcome.taken → TakenAt (Wrote w h') x.actor s.outcome.taken
  taken_at = by x.actor s.outcome.taken
    where
      by : (a : ActorName) (taken : Option Taken) → TakenAt (Wrote w h) a taken → TakenAt (Wrote w h') a taken
      by (actor.Medium m) None f = tt
      by (actor.Medium m) (Some c) f = emitted_more (Wrote w h) (Wrote w h') wrote_stays c.packet f
      by _ taken f = tt

  states : (a : ActorName) → StateFine (Known w h') (Wrote w h') a (actors_after (after w h).actors x.actor s.state a)
  states a =
      cond_both (same_actor x.actor a) s.state ((after w h).actors a) (λ (c : Actor). StateFine (Known w h') (Wrote w h') a c)
      (λ is. subst (λ (b : ActorName). StateFine (Known w h') (Wrote w h') b s.state) (same_actor_is x.actor a is)
      (state_more (with_new o (Known w h)) (Known w h') (Wrote w h) (Wrote w h') (record { given_stays = now; written_stays = wrote_stays }) x.actor (λ g _ known. then g known) s.state t.leaves.fine))
      (λ apart. state_more (Known w h) (Known w h') (Wrote w h) (Wrote w h') (record { given_stays = stays; written_stays = wrote_stays }) a
      (λ g is known. not_new w (Known w h) x.actor a o t.leaves.new apart g is (then g known)) ((after w h).actors a) (kept.states a))

  owed_now : (c : ℕ) → EachDuty w (Known w h') (Wrote w h') (owed_after (after w h).owed x.caller (duties w (after w h).actors x.actor (length (after w h).past) (work_of (after w h) x) s) c)
  owed_now c =
      let old : EachDuty w (Known w h') (Wrote w h') ((after w h).owed c) =
      each_duty_more w (Known w h) (Known w h') (Wrote w h) (Wrote w h') (record { given_stays = stays; written_stays = wrote_stays }) ((after w h).owed c) (kept.duties_are c) in
      let new : EachDuty w (Known w h') (Wrote w h') (duties w (after w h).actors x.actor (length (after w h).past) (work_of (after w h) x) s) =
      duties_fine w (Known w h') (Wrote w h') (after w h).actors x.actor (length (after w h).past) (work_of (after w h) x) s (emitted_if s.outcome.emit t.leaves.sent) (taken_at t.leaves.taken)
      (each_duty_more w (with_new o (Known w h)) (Known w h') (Wrote w h) (Wrote w h') (record { given_stays = now; written_stays = wrote_stays }) _ t.leaves.follow) in
      cond_both (x.caller == c) _ _ (λ (ds : List Duty). EachDuty w (Known w h') (Wrote w h') ds)
      (λ _. each_duty_append w (Known w h') (Wrote w h') _ _ (each_duty_rest w (Known w h') (Wrote w h') ((after w h).owed c) old) new) (λ _. old)

  pub entry_kept : Kept w (h ++ x ∷ [])
  entry_kept = record {
    states = λ a. subst (λ (net : Net). StateFine (Known w h') (Wrote w h') a (net.actors a)) (sym t.net_is) (states a);
    duties_are = λ c. subst (λ (net : Net). EachDuty w (Known w h') (Wrote w h') (net.owed c)) (sym t.net_is) (owed_now c);
    placed = λ g known. placed_now w (Known w h) x.actor o t.leaves.new kept.placed g (then g known);
    single = λ f g one two same. single_now w (Known w h) x.actor o t.leaves.new kept.single f g (then f one) (then g two) same;
  }

-- Legal histories.

free_fine : (w : World) (h : ℕ) (p : Proto) (n : ℕ) → SlotIsFine (Known w []) h p n free_slot
free_fine w h p n = record { has = λ q is. absurd (none-some q is); past = λ q g there. absurd there; unused = λ r q g there. absurd there }

opening_kept : (w : World) → Kept w []
opening_kept w = record { states = states; duties_are = λ c. tt; placed = λ g there. absurd there; single = λ f g there. absurd there }
  where
    states : (a : ActorName) → StateFine (Known w []) (Wrote w []) a (opening_actor w.timers a)
    states (actor.Desk h) = tt
    states (actor.Dir h p) = λ n s is. subst (λ (x : Slot). SlotIsFine (Known w []) h p n x) (all_free slot_count n s is) (free_fine w h p n)
    states (actor.Conv h proto.Il n) = omega arith
    states (actor.Conv h proto.Udp n) = (tt, tt)
    states (actor.Medium m) = (tt, tt)
    states actor.Clock = tt

pub all_kept : {ts : Tasks} (w : World) → HasPlaces w → (h : List Entry) → IsLegalBy ts w h → Kept w h
all_kept w world h legal = by_entries w (λ (k : List Entry). Kept w k) (opening_kept w) (λ k x before may kept. entry_kept w k x kept (took w world k x may kept)) h legal
