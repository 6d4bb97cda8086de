-- A conversation's step, over all pairs.
use Rattle.std.proofs.Common.{◌≡◌, ℕ, ◌+◌, ◌≤◌, Bool, true, false, cond, List, [], ◌∷◌, length, Option, Some, None, ◌⊎◌, inl, inr, refl, sym, ap, subst, ◌∙◌, arith}
use Rattle.std.specs.Option.{option_map}
use Rattle.std.proofs.lemmas.Option.{none-some, same_Some}
use Rattle.net_base.specs.declared.address.Pair.{Pair}
use Rattle.net_base.specs.declared.il.IlKind.TheVariants.{Close}
use Rattle.net_base.specs.declared.il.IlMsg.{IlMsg}
use Rattle.net_base.specs.declared.packet.Body.{Body}
use Rattle.net_base.specs.declared.packet.Body.TheVariants as body
use Rattle.net_base.specs.declared.packet.Packet.{Packet}
use Rattle.net_base.specs.IlEnd.{Turn, fresh_end}
use Rattle.prefix_law.proofs.Pairs.{Side, out_with, leaves}
use Rattle.net_base.specs.Same.{same_pair}
use Rattle.net_base.specs.Mirror.{mirror}
use Rattle.net_base.specs.ActorStep.{Step}
use Rattle.net_base.specs.Conversation.{Core, Il, Udp, Stage, Unused, Listening, Connected, Conv, packet_of}
use Rattle.net_base.specs.Actors.{Actor, IsConv}
use Rattle.prefix_law.proofs.Trace.{Owner, Trace, empty_side, put_at, said}
use Rattle.prefix_law.proofs.Talking.{Good}
use Rattle.prefix_law.proofs.Deeds.{both_ways, Holds, Stepped, stepped}
use Rattle.prefix_law.proofs.Acts.{Refusal, Idle}
use Rattle.prefix_law.proofs.ConvMoves.{is_connected}
use Rattle.prefix_law.proofs.ConvMoves.{Emits}
use Rattle.prefix_law.proofs.Sides.{put_here, put_there, put_same, talk_put}
use Rattle.net_base.proofs.Shared.{same_pair_is}

abbrev pub owner_of : ℕ → ℕ → ℕ → Option Owner
owner_of h n g = Some (record { host = h; slot = n; generation = g })

-- what holds of all pairs, where each end has written at most so many messages
pub record Owned (n : ℕ) (t : Trace) : Type 0 where
  pub talk : (p : Pair) → Holds (t.side p) (t.side (mirror p))
  pub untouched : (p : Pair) → t.owner p ≡ None → t.side p ≡ empty_side
  pub unique : (p q : Pair) (o : Owner) → t.owner p ≡ Some o → t.owner q ≡ Some o → p ≡ q
  pub apart : (p : Pair) (o : Owner) → t.owner p ≡ Some o → same_pair p (mirror p) ≡ false
  pub few : (p : Pair) → length (t.side p).end.sent ≤ n

abbrev pub IsIn : IlMsg → List IlMsg → Type 0
IsIn m [] = ⊥
IsIn m (x ∷ xs) = (x ≡ m) ⊎ IsIn m xs

-- what only grows
pub record Later (t u : Trace) : Type 0 where
  pub owner_stays : (p : Pair) (o : Owner) → t.owner p ≡ Some o → u.owner p ≡ Some o
  pub out_stays : (p : Pair) (m : IlMsg) → IsIn m (t.side p).out → IsIn m (u.side p).out

-- the conversation with these addresses said this, or it refuses a sync
abbrev pub EmittedAs : Trace → Pair → Body → Type 0
EmittedAs t p (body.Il m) = IsIn m (t.side p).out ⊎ Refusal m
EmittedAs t p (body.Udp text) = Unit {0}

abbrev pub Emitted : Trace → Packet → Type 0
Emitted t p = EmittedAs t (record { local = p.src; remote = p.dst }) p.body

abbrev pub EmittedIf : Trace → Option Packet → Type 0
EmittedIf t None = Unit {0}
EmittedIf t (Some p) = Emitted t p

emitted_as_later : (b : Body) (t u : Trace) (p : Pair) → Later t u → EmittedAs t p b → EmittedAs u p b
emitted_as_later (body.Il m) t u p later (inl there) = inl (later.out_stays p m there)
emitted_as_later (body.Il m) t u p later (inr refusal) = inr refusal
emitted_as_later (body.Udp text) t u p later e = tt

pub emitted_later : (t u : Trace) (p : Packet) → Later t u → Emitted t p → Emitted u p
emitted_later t u p later e = emitted_as_later p.body t u (record { local = p.src; remote = p.dst }) later e

-- what a conversation with an IL end has
abbrev pub HasEnd : Trace → ℕ → ℕ → Conv → Stage → Core → Type 0
HasEnd t h n c Connected (Il e) = (t.owner c.pair ≡ owner_of h n c.generation) × ((t.side c.pair).end ≡ e)
HasEnd t h n c Unused (Il e) = e ≡ fresh_end e.timer.timers
HasEnd t h n c Listening (Il e) = Idle e
HasEnd t h n c _ _ = ⊥

-- a pair of a generation that is still to come, or to be joined, was never used
abbrev pub NotYet : Trace → ℕ → ℕ → Conv → Type 0
NotYet t h n c = (p : Pair) (g : ℕ) → t.owner p ≡ owner_of h n g → c.generation ≤ g → (g ≡ c.generation → is_connected c.stage ≡ false) → t.side p ≡ empty_side

abbrev pub ConvFine : Trace → ℕ → ℕ → Conv → Type 0
ConvFine t h n c = HasEnd t h n c c.stage c.core × NotYet t h n c

abbrev pub ActorFine : Trace → ℕ → ℕ → Actor → Type 0
ActorFine t h n (IsConv c) = ConvFine t h n c
ActorFine t h n _ = ⊥

-- the other end has said a close with spec 0
pub record HeardClose (t : Trace) (q : Pair) : Type 0 where
  pub m : IlMsg
  pub there : IsIn m (t.side (mirror q)).out
  pub kind_is : m.kind ≡ Close
  pub spec_is : m.spec ≡ 0

-- the conversation, which has the pair, says the message by this step
pub record Utters (t : Trace) (h n g : ℕ) (q : Pair) (m : IlMsg) (emit : Option Packet) : Type 0 where
  pub owns : t.owner q ≡ owner_of h n g
  pub by : Conv
  pub pair_is : by.pair ≡ q
  pub emit_is : emit ≡ Some (packet_of by (body.Il m))

-- what a step of the conversation n of host h leaves
pub record ConvStep (k h n : ℕ) (t u : Trace) (s : Step Conv) : Type 0 where
  pub owned : Owned (k + 1) u
  pub own : ConvFine u h n s.state
  pub others : (h' n' : ℕ) (a : Actor) → (h ≡ h' → n ≡ n' → ⊥) → ActorFine t h' n' a → ActorFine u h' n' a
  pub later : Later t u
  pub emitted : EmittedIf u s.outcome.emit
  -- what other conversations and generations have stays as it is
  pub still : (q : Pair) (o : Owner) → t.owner q ≡ Some o → (◌≡◌ {A = Owner} (record { host = h; slot = n; generation = s.state.generation }) o → ⊥) → u.side q ≡ t.side q
  pub closed_by_peer : (q : Pair) → (u.side q).end.closed_by_peer ≡ true → ((t.side q).end.closed_by_peer ≡ true) ⊎ HeardClose t q
  pub says : (q : Pair) (m : IlMsg) → IsIn m (u.side q).out → IsIn m (t.side q).out ⊎ Utters t h n s.state.generation q m s.outcome.emit

-- Where a side takes a turn.

abbrev pub touched : Trace → Pair → Turn → Trace
touched t p turn = record t { side = put_at t.side p (leaves (t.side p) turn) }

said_by : (c : Conv) (m : Option IlMsg) → said (option_map (λ (x : IlMsg). packet_of c (body.Il x)) m) ≡ m
said_by c None = refl
said_by c (Some m) = refl

pub said_is : (p : Pair) (emit : Option Packet) (m : Option IlMsg) → Emits p emit m → said emit ≡ m
said_is p emit m e = ap said e.emit_is ∙ said_by e.by m

in_out : (m : IlMsg) (x : Option IlMsg) (out : List IlMsg) → IsIn m out → IsIn m (out_with x out)
in_out m None out there = there
in_out m (Some x) out there = inr there

module _ (t : Trace) (p : Pair) (turn : Turn) where
  pub side_at : (q : Pair) (b : Bool) → same_pair p q ≡ b → (touched t p turn).side q ≡ cond b (leaves (t.side p) turn) (t.side q)
  side_at q true is = put_same t.side p (leaves (t.side p) turn) q is
  side_at q false is = put_there t.side p (leaves (t.side p) turn) q is

  pub later_touched : Later t (touched t p turn)
  later_touched = record { owner_stays = λ q o is. is; out_stays = λ q m there. go q m there (same_pair p q) refl }
    where
      go : (q : Pair) (m : IlMsg) → IsIn m (t.side q).out → (b : Bool) → same_pair p q ≡ b → IsIn m ((touched t p turn).side q).out
      go q m there true is =
          subst (λ (s : Side). IsIn m s.out) (sym (side_at q true is))
          (in_out m turn.emits (t.side p).out (subst (λ (r : Pair). IsIn m (t.side r).out) (sym (same_pair_is p q is)) there))
      go q m there false is = subst (λ (s : Side). IsIn m s.out) (sym (side_at q false is)) there

  pub owned_touched : (k : ℕ) (o : Owner) → t.owner p ≡ Some o → Owned k t → Stepped (t.side p) (t.side (mirror p)) (leaves (t.side p) turn) → Owned (k + 1) (touched t p turn)
  owned_touched k o is w step = record {
    talk = talk_put t.side p (leaves (t.side p) turn) (w.apart p o is) w.talk step;
    untouched = λ q none. untouched q none (same_pair p q) refl;
    unique = w.unique;
    apart = w.apart;
    few = λ q. few q (same_pair p q) refl;
  }
    where
      untouched : (q : Pair) → t.owner q ≡ None → (b : Bool) → same_pair p q ≡ b → (touched t p turn).side q ≡ empty_side
      untouched q none true same = absurd (none-some o (sym none ∙ (ap t.owner (sym (same_pair_is p q same)) ∙ is)))
      untouched q none false same = side_at q false same ∙ w.untouched q none

      few : (q : Pair) (b : Bool) → same_pair p q ≡ b → length ((touched t p turn).side q).end.sent ≤ k + 1
      few q true same = subst (λ (s : Side). length s.end.sent ≤ k + 1) (sym (side_at q true same)) (omega (arith, step.grows.sent_one, w.few p))
      few q false same = subst (λ (s : Side). length s.end.sent ≤ k + 1) (sym (side_at q false same)) (omega (arith, w.few q))

  -- the conversations that don't have the pair keep what they have
  pub others_touched : (h n g : ℕ) → t.owner p ≡ owner_of h n g → (h' n' : ℕ) (a : Actor) → (h ≡ h' → n ≡ n' → ⊥) → ActorFine t h' n' a → ActorFine (touched t p turn) h' n' a
  others_touched h n g is h' n' (IsConv c) apart fine = (has c.stage c.core fine.0, λ q g' owner le not. stays q g' owner (fine.1 q g' owner le not))
    where
      other : (q : Pair) (g' : ℕ) → t.owner q ≡ owner_of h' n' g' → (touched t p turn).side q ≡ t.side q
      other q g' owner = go (same_pair p q) refl
        where
          go : (b : Bool) → same_pair p q ≡ b → (touched t p turn).side q ≡ t.side q
          go true same =
              let e = same_Some _ _ (sym is ∙ (ap t.owner (same_pair_is p q same) ∙ owner)) in
              absurd (apart (ap (λ (o : Owner). o.host) e) (ap (λ (o : Owner). o.slot) e))
          go false same = side_at q false same

      stays : (q : Pair) (g' : ℕ) → t.owner q ≡ owner_of h' n' g' → t.side q ≡ empty_side → (touched t p turn).side q ≡ empty_side
      stays q g' owner empty = other q g' owner ∙ empty

      has : (s : Stage) (core : Core) → HasEnd t h' n' c s core → HasEnd (touched t p turn) h' n' c s core
      has Connected (Il e) x = (x.0, ap (λ (s : Side). s.end) (other c.pair c.generation x.0) ∙ x.1)
      has Unused (Il e) x = x
      has Listening (Il e) x = x
      has Connected (Udp e) x = absurd x
      has Unused (Udp e) x = absurd x
      has Listening (Udp e) x = absurd x
  others_touched h n g is h' n' _ apart fine = absurd fine

  emitted_touched : (emit : Option Packet) → Emits p emit turn.emits → EmittedIf (touched t p turn) emit
  emitted_touched emit e = subst (λ (x : Option Packet). EmittedIf (touched t p turn) x) (sym e.emit_is) (go turn.emits refl)
    where
      go : (m : Option IlMsg) → turn.emits ≡ m → EmittedIf (touched t p turn) (option_map (λ (x : IlMsg). packet_of e.by (body.Il x)) m)
      go None is = tt
      go (Some m) is =
          inl (subst (λ (r : Pair). IsIn m ((touched t p turn).side r).out) (sym e.pair_is)
          (subst (λ (s : Side). IsIn m s.out) (sym (put_here t.side p (leaves (t.side p) turn))) (subst (λ (x : Option IlMsg). IsIn m (out_with x (t.side p).out)) (sym is) (inl refl))))

  -- the conversation h, n comes to have the pair in generation g, or has it
  pub touches : (k h n g : ℕ) (c : Conv) (s : Step Conv) → t.owner p ≡ owner_of h n g → c.generation ≤ g → NotYet t h n c → Owned k t → Good (t.side p).end (t.side (mirror p)).end turn
      → s.state.generation ≡ g → s.state.pair ≡ p → s.state.stage ≡ Connected → s.state.core ≡ Il turn.end → Emits p s.outcome.emit turn.emits → (turn.end.closed_by_peer ≡ true → ((t.side p).end.closed_by_peer ≡ true) ⊎ HeardClose t p)
      → ConvStep k h n t (touched t p turn) s
  touches k h n g c s is le not_yet w good gen_is pair_is stage_is core_is emits marks = record {
    owned = owned_touched k (record { host = h; slot = n; generation = g }) is w (stepped (t.side p) (t.side (mirror p)) turn (w.talk p) good);
    own = (
      rw (stage_is, core_is) (rw (pair_is, gen_is) (is, ap (λ (x : Side). x.end) (put_here t.side p (leaves (t.side p) turn)))),
      λ q g' owner le' not. not_yet' q g' owner (subst (λ (i : ℕ). i ≤ g') gen_is le') (λ i. subst (λ (x : Stage). is_connected x ≡ false) stage_is (not (i ∙ sym gen_is))),
    );
    others = others_touched h n g is;
    later = later_touched;
    emitted = emitted_touched s.outcome.emit emits;
    still = λ q o owns other. still q o owns other (same_pair p q) refl;
    closed_by_peer = λ q m. closed_by_peer q m (same_pair p q) refl;
    says = λ q m there. says q m there (same_pair p q) refl;
  }
    where
      closed_by_peer : (q : Pair) → ((touched t p turn).side q).end.closed_by_peer ≡ true → (b : Bool) → same_pair p q ≡ b → ((t.side q).end.closed_by_peer ≡ true) ⊎ HeardClose t q
      closed_by_peer q m true same =
          subst (λ (r : Pair). ((t.side r).end.closed_by_peer ≡ true) ⊎ HeardClose t r) (same_pair_is p q same)
          (marks (subst (λ (x : Side). x.end.closed_by_peer ≡ true) (side_at q true same) m))
      closed_by_peer q m false same = inl (subst (λ (x : Side). x.end.closed_by_peer ≡ true) (side_at q false same) m)

      utters : (m : IlMsg) → turn.emits ≡ Some m → Utters t h n s.state.generation p m s.outcome.emit
      utters m says_it = record {
        owns = is ∙ ap (λ (i : ℕ). owner_of h n i) (sym gen_is);
        by = emits.by;
        pair_is = emits.pair_is;
        emit_is = emits.emit_is ∙ ap (option_map (λ (x : IlMsg). packet_of emits.by (body.Il x))) says_it;
      }

      said_now : (m : IlMsg) (x : Option IlMsg) → turn.emits ≡ x → IsIn m (out_with x (t.side p).out) → IsIn m (t.side p).out ⊎ Utters t h n s.state.generation p m s.outcome.emit
      said_now m None is' there = inl there
      said_now m (Some y) is' (inl same) = inr (utters m (is' ∙ ap (λ (z : IlMsg). Some z) same))
      said_now m (Some y) is' (inr old) = inl old

      says : (q : Pair) (m : IlMsg) → IsIn m ((touched t p turn).side q).out → (b : Bool) → same_pair p q ≡ b → IsIn m (t.side q).out ⊎ Utters t h n s.state.generation q m s.outcome.emit
      says q m there true same =
          subst (λ (r : Pair). IsIn m (t.side r).out ⊎ Utters t h n s.state.generation r m s.outcome.emit) (same_pair_is p q same)
          (said_now m turn.emits refl (subst (λ (x : Side). IsIn m x.out) (side_at q true same) there))
      says q m there false same = inl (subst (λ (x : Side). IsIn m x.out) (side_at q false same) there)

      still : (q : Pair) (o : Owner) → t.owner q ≡ Some o → (◌≡◌ {A = Owner} (record { host = h; slot = n; generation = s.state.generation }) o → ⊥) → (b : Bool) → same_pair p q ≡ b → (touched t p turn).side q ≡ t.side q
      still q o owns other true same =
          let e : ◌≡◌ {A = Owner} (record { host = h; slot = n; generation = g }) o = same_Some _ _ (sym is ∙ (ap t.owner (same_pair_is p q same) ∙ owns)) in
          absurd (other (ap (λ (i : ℕ). record { host = h; slot = n; generation = i }) gen_is ∙ e))
      still q o owns other false same = side_at q false same

      not_yet' : (q : Pair) (g' : ℕ) → t.owner q ≡ owner_of h n g' → g ≤ g' → (g' ≡ g → is_connected Connected ≡ false) → (touched t p turn).side q ≡ empty_side
      not_yet' q g' owner le' not = go (same_pair p q) refl
        where
          never : g' ≡ g → ⊥
          never i = both_ways refl (not i)

          go : (b : Bool) → same_pair p q ≡ b → (touched t p turn).side q ≡ empty_side
          go true same =
              let e = same_Some _ _ (sym is ∙ (ap t.owner (same_pair_is p q same) ∙ owner)) in
              absurd (never (sym (ap (λ (o : Owner). o.generation) e)))
          go false same = side_at q false same ∙ not_yet q g' owner (omega arith) (λ i. absurd (never (omega arith)))
