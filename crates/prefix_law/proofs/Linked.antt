-- Who was given a pair, and who has it, are the same.
use Rattle.std.proofs.Common.{◌≡◌, ℕ, Bool, true, false, List, [], ◌∷◌, ◌++◌, Option, Some, None, ◌⊎◌, inl, inr, refl, sym, ap, subst, ◌∙◌, append_assoc}
use Rattle.std.specs.Prelude.{option_to_list}
use Rattle.std.proofs.lemmas.Option.{same_Some}
use Rattle.net_base.specs.declared.actor.ActorName.{ActorName}
use Rattle.net_base.specs.declared.actor.ActorName.TheVariants as name
use Rattle.net_base.specs.declared.address.Pair.{Pair}
use Rattle.net_base.specs.declared.address.Proto.TheVariants as proto
use Rattle.net_base.specs.declared.event.Event.{Event}
use Rattle.net_base.specs.declared.event.Event.TheVariants as event
use Rattle.net_base.specs.declared.history.Entry.{Entry}
use Rattle.net_base.specs.declared.history.Outcome.{Outcome}
use Rattle.net_base.specs.declared.history.With.{With}
use Rattle.net_base.specs.declared.history.With.TheVariants as with_variants
use Rattle.net_base.specs.declared.reply.Reply.{Reply}
use Rattle.net_base.specs.declared.reply.Reply.TheVariants as reply
use Rattle.net_base.specs.declared.world.World.{World}
use Rattle.net_base.specs.Actors.{Actor, IsDesk, IsConv, IsDir, IsMedium, IsPlain}
use Rattle.net_base.specs.Net.{Net, opening_net, next_net, net_of, after, work_of}
use Rattle.net_base.specs.Same.{same_pair}
use Rattle.net_base.specs.Written.{Conversation, Given, gave, given_from, given_in}
use Rattle.prefix_law.proofs.Books.{conv_of}
use Rattle.prefix_law.proofs.Sides.{put_same, put_there}
use Rattle.prefix_law.proofs.Touch.{Later}
use Rattle.prefix_law.proofs.Trace.{Owner, Trace, put_at, dir_trace, actor_trace}
use Rattle.prefix_law.proofs.Whole.{conv_trace_owner}
use Rattle.net_base.proofs.Shared.{same_pair_is, same_pair_itself}

-- what stands in a list
abbrev pub Has : List Given → Given → Type 0
Has [] g = ⊥
Has (x ∷ xs) g = (x ≡ g) ⊎ Has xs g

has_left : (xs ys : List Given) (g : Given) → Has xs g → Has (xs ++ ys) g
has_left [] ys g there = absurd there
has_left (x ∷ xs) ys g (inl is) = inl is
has_left (x ∷ xs) ys g (inr there) = inr (has_left xs ys g there)

has_right : (xs ys : List Given) (g : Given) → Has ys g → Has (xs ++ ys) g
has_right [] ys g there = there
has_right (x ∷ xs) ys g there = inr (has_right xs ys g there)

has_cases : (xs ys : List Given) (g : Given) → Has (xs ++ ys) g → Has xs g ⊎ Has ys g
has_cases [] ys g there = inr there
has_cases (x ∷ xs) ys g (inl is) = inl (inl is)
has_cases (x ∷ xs) ys g (inr there) = elim (has_cases xs ys g there) [ inl a ↦ inl (inr a) | inr b ↦ inr b ]

-- the owner that a conversation of IL is
abbrev pub owner_in : Conversation → Owner
owner_in e = record { host = e.host; slot = e.slot; generation = e.generation }

pub record Linked (t : Trace) (gs : List Given) : Type 0 where
  pub on : (g : Given) → Has gs g → g.to.proto ≡ proto.Il → t.owner g.pair ≡ Some (owner_in g.to)
  pub back : (p : Pair) (o : Owner) → t.owner p ≡ Some o → Has gs (record { to = conv_of o; pair = p })

-- where nothing is given
kept_linked : (t u : Trace) (gs : List Given) → Later t u → ((p : Pair) → u.owner p ≡ t.owner p) → Linked t gs → Linked u (gs ++ [])
kept_linked t u gs later same l = record {
  on = λ g there il. elim (has_cases gs [] g there) [ inl old ↦ later.owner_stays g.pair _ (l.on g old il) | inr none ↦ absurd none ];
  back = λ p o is. has_left gs [] (record { to = conv_of o; pair = p }) (l.back p o (sym (same p) ∙ is));
}

-- where a pair of UDP is given
udp_linked : (t : Trace) (gs : List Given) (new : Given) → new.to.proto ≡ proto.Udp → Linked t gs → Linked t (gs ++ new ∷ [])
udp_linked t gs new udp l = record {
  on = λ g there il. elim (has_cases gs (new ∷ []) g there) [
    | inl old ↦ l.on g old il
    | inr (inl same) ↦ absurd (apart (sym udp ∙ (ap (λ (x : Given). x.to.proto) same ∙ il)))
    | inr (inr none) ↦ absurd none
  ];
  back = λ p o is. has_left gs (new ∷ []) (record { to = conv_of o; pair = p }) (l.back p o is);
}
  where
    apart : proto.Udp ≡ proto.Il → ⊥
    apart is = cc

-- where a pair of IL is given
il_linked : (t u : Trace) (gs : List Given) (p : Pair) (o : Owner) → Later t u → ((q : Pair) → u.owner q ≡ put_at t.owner p (Some o) q) → Linked t gs → Linked u (gs ++ record { to = conv_of o; pair = p } ∷ [])
il_linked t u gs p o later is l = record {
  on = λ g there il. elim (has_cases gs (record { to = conv_of o; pair = p } ∷ []) g there) [
    | inl old ↦ later.owner_stays g.pair _ (l.on g old il)
    | inr (inl same) ↦ subst (λ (x : Given). u.owner x.pair ≡ Some (owner_in x.to)) same (is p ∙ put_same t.owner p (Some o) p (same_pair_itself p))
    | inr (inr none) ↦ absurd none
  ];
  back = λ q x owns. go q x owns (same_pair p q) refl;
}
  where
    go : (q : Pair) (x : Owner) → u.owner q ≡ Some x → (b : Bool) → same_pair p q ≡ b → Has (gs ++ record { to = conv_of o; pair = p } ∷ []) (record { to = conv_of x; pair = q })
    go q x owns true same =
        let owner_is : o ≡ x = same_Some o x (sym (put_same t.owner p (Some o) q same) ∙ (sym (is q) ∙ owns)) in
        has_right gs (record { to = conv_of o; pair = p } ∷ []) (record { to = conv_of x; pair = q })
        (inl (ap (λ (y : Owner). record { to = conv_of y; pair = p }) owner_is ∙ ap (λ (r : Pair). record { to = conv_of x; pair = r }) (same_pair_is p q same)))
    go q x owns false same =
        has_left gs (record { to = conv_of o; pair = p } ∷ []) (record { to = conv_of x; pair = q })
        (l.back q x (sym (put_there t.owner p (Some o) q same) ∙ (sym (is q) ∙ owns)))

-- a directory of IL gives a pair, or changes nothing
data DirGives (h : ℕ) (ev : Event) (gift : With) (r : Reply) : Type 0 where
  Gave : (p : Pair) (o : Owner) → gave (name.Dir h proto.Il) ev gift r ≡ Some (record { to = conv_of o; pair = p })
      → ((t : Trace) → dir_trace h ev gift r t ≡ record t { owner = put_at t.owner p (Some o) }) → DirGives h ev gift r
  Kept : gave (name.Dir h proto.Il) ev gift r ≡ None → ((t : Trace) → dir_trace h ev gift r t ≡ t) → DirGives h ev gift r

dir_gives : (h : ℕ) (ev : Event) (gift : With) (r : Reply) → DirGives h ev gift r
dir_gives h (event.Grant n g remote port) gift r = by_reply r
  where
    by_reply : (r : Reply) → DirGives h (event.Grant n g remote port) gift r
    by_reply (reply.Granted pair start limit) = Gave pair (record { host = h; slot = n; generation = g }) refl (λ t. refl)
    by_reply _ = Kept refl (λ t. refl)
dir_gives h event.Arrive gift r = by_gift gift r
  where
    by_gift : (gift : With) (r : Reply) → DirGives h event.Arrive gift r
    by_gift (with_variants.Packet p) (reply.Born n g start limit) = Gave (record { local = p.dst; remote = p.src }) (record { host = h; slot = n; generation = g }) refl (λ t. refl)
    by_gift (with_variants.Packet p) _ = Kept refl (λ t. refl)
    by_gift _ r = Kept refl (λ t. refl)
dir_gives h _ gift r = Kept refl (λ t. refl)

dir_linked : (h : ℕ) (ev : Event) (gift : With) (r : Reply) (t : Trace) (gs : List Given) → DirGives h ev gift r → Later t (dir_trace h ev gift r t) → Linked t gs → Linked (dir_trace h ev gift r t) (gs ++ option_to_list (gave (name.Dir h proto.Il) ev gift r))
dir_linked h ev gift r t gs (Gave p o is trace_is) later l =
    subst (λ (x : Option Given). Linked (dir_trace h ev gift r t) (gs ++ option_to_list x)) (sym is)
    (il_linked t (dir_trace h ev gift r t) gs p o later (λ q. ap (λ (u : Trace). u.owner q) (trace_is t)) l)
dir_linked h ev gift r t gs (Kept is trace_is) later l =
    subst (λ (x : Option Given). Linked (dir_trace h ev gift r t) (gs ++ option_to_list x)) (sym is)
    (kept_linked t (dir_trace h ev gift r t) gs later (λ q. ap (λ (u : Trace). u.owner q) (trace_is t)) l)

-- what a directory of UDP gives is of UDP
abbrev IsOfUdp : Option Given → Type 0
IsOfUdp None = Unit {0}
IsOfUdp (Some g) = g.to.proto ≡ proto.Udp

udp_gives : (h : ℕ) (ev : Event) (gift : With) (r : Reply) → IsOfUdp (gave (name.Dir h proto.Udp) ev gift r)
udp_gives h (event.Grant n g remote port) gift r = by_reply r
  where
    by_reply : (r : Reply) → IsOfUdp (gave (name.Dir h proto.Udp) (event.Grant n g remote port) gift r)
    by_reply (reply.Granted pair start limit) = refl
    by_reply _ = tt
udp_gives h event.Arrive gift r = by_gift gift r
  where
    by_gift : (gift : With) (r : Reply) → IsOfUdp (gave (name.Dir h proto.Udp) event.Arrive gift r)
    by_gift (with_variants.Packet p) (reply.Born n g start limit) = refl
    by_gift (with_variants.Packet p) _ = tt
    by_gift _ r = tt
udp_gives h _ gift r = tt

udp_dir_linked : (t : Trace) (gs : List Given) (new : Option Given) → IsOfUdp new → Linked t gs → Linked t (gs ++ option_to_list new)
udp_dir_linked t gs None is l = kept_linked t t gs (record { owner_stays = λ p o is. is; out_stays = λ p m there. there }) (λ q. refl) l
udp_dir_linked t gs (Some g) is l = udp_linked t gs g is l

-- a step of any actor
pub step_linked : (a : ActorName) (s : Actor) (ev : Event) (gift : With) (o : Outcome) (t : Trace) (gs : List Given) → Later t (actor_trace a s (record { event = ev; with = gift }) o t) → Linked t gs
    → Linked (actor_trace a s (record { event = ev; with = gift }) o t) (gs ++ option_to_list (gave a ev gift o.reply))
step_linked (name.Dir h proto.Il) s ev gift o t gs later l = dir_linked h ev gift o.reply t gs (dir_gives h ev gift o.reply) later l
step_linked (name.Dir h proto.Udp) s ev gift o t gs later l = udp_dir_linked t gs (gave (name.Dir h proto.Udp) ev gift o.reply) (udp_gives h ev gift o.reply) l
step_linked (name.Conv h proto.Il n) (IsConv c) ev gift o t gs later l = kept_linked t _ gs later (λ p. conv_trace_owner c.stage c.core c o.emit t p) l
step_linked (name.Conv h proto.Il n) (IsDir d) ev gift o t gs later l = kept_linked t t gs later (λ q. refl) l
step_linked (name.Conv h proto.Il n) (IsMedium m) ev gift o t gs later l = kept_linked t t gs later (λ q. refl) l
step_linked (name.Conv h proto.Il n) (IsDesk d) ev gift o t gs later l = kept_linked t t gs later (λ q. refl) l
step_linked (name.Conv h proto.Il n) IsPlain ev gift o t gs later l = kept_linked t t gs later (λ q. refl) l
step_linked (name.Conv h proto.Udp n) s ev gift o t gs later l = kept_linked t t gs later (λ q. refl) l
step_linked (name.Medium m) s ev gift o t gs later l = kept_linked t t gs later (λ q. refl) l
step_linked (name.Desk h) s ev gift o t gs later l = kept_linked t t gs later (λ q. refl) l
step_linked name.Clock s ev gift o t gs later l = kept_linked t t gs later (λ q. refl) l

-- The list, one entry more.

pub given_push : (w : World) (h : List Entry) (x : Entry) → given_in w (h ++ x ∷ []) ≡ given_in w h ++ option_to_list (gave x.actor x.event (work_of (after w h) x).with x.reply)
given_push w h x = go (opening_net w) h
  where
    go : (net : Net) (xs : List Entry) → given_from w net (xs ++ x ∷ []) ≡ given_from w net xs ++ option_to_list (gave x.actor x.event (work_of (net_of w net xs) x).with x.reply)
    go net [] = last (option_to_list (gave x.actor x.event (work_of net x).with x.reply))
      where
        last : (ys : List Given) → ys ++ [] ≡ ys
        last [] = refl
        last (y ∷ ys) = ap (λ (zs : List Given). y ∷ zs) (last ys)
    go net (y ∷ xs) =
        let first = option_to_list (gave y.actor y.event (work_of net y).with y.reply) in
        ap (λ (zs : List Given). first ++ zs) (go (next_net w net y) xs)
        ∙ sym (append_assoc first (given_from w (next_net w net y) xs) (option_to_list (gave x.actor x.event (work_of (net_of w (next_net w net y) xs) x).with x.reply)))
