-- What an entry leaves of what is owed, by what it changes.
use Rattle.std.proofs.Common.{◌≡◌, ℕ, ◌+◌, ◌<◌, ◌≤◌, ◌==◌, ◌⊎◌, true, List, [], ◌∷◌, ◌++◌, length, drop, inl, inr, refl, sym, ap, subst, ◌∙◌, arith}
use Rattle.std.specs.Prelude.{if◌then◌else◌}
use Rattle.std.proofs.lemmas.Bool.{cases_lt, true≢false}
use Rattle.std.proofs.lemmas.Bool.Decides.{eqb_tells}
use Rattle.net_base.specs.declared.actor.ActorName.{ActorName}
use Rattle.net_base.specs.declared.actor.ActorName.TheVariants as name
use Rattle.net_base.specs.declared.address.Proto.{Proto}
use Rattle.net_base.specs.declared.world.World.{World}
use Rattle.net_base.specs.Callers.{caller_count}
use Rattle.net_base.specs.declared.event.Event.{Event}
use Rattle.net_base.specs.declared.event.Event.TheVariants as event
use Rattle.net_base.specs.declared.history.With.{With}
use Rattle.net_base.specs.Duties.{Duty}
use Rattle.net_base.specs.Net.{Net}
use Rattle.net_base.specs.Stamped.{In}
use Rattle.history_laws.proofs.Ordered.{Each, Later, each_append}
use Rattle.history_laws.proofs.Duties.{Steady, OfKind, IsKind, IsActorOf, IsBirth, IsOwedBirth, Apart, bears, named, reached, given_last}
use Rattle.history_laws.proofs.Least.{each_in}
use Rattle.net_base.proofs.Shared.{in_front, in_back, in_parts}

-- a duty that an entry adds
pub record IsNew (w : World) (net after : Net) (d : Duty) : Type 0 where
  pub kind : OfKind w d
  pub cites : d.cites ≡ length net.past
  pub below : (h : ℕ) (p : Proto) (n : ℕ) → d.actor ≡ name.Conv h p n → named d.event ≤ given_last after h p n
  pub unborn : (h : ℕ) (p : Proto) (n : ℕ) → d.actor ≡ name.Conv h p n → bears d.event ≡ true → given_last net h p n < named d.event

-- the birth that an entry did was its caller's first duty
pub record IsBorne (net after : Net) (c : ℕ) (h : ℕ) (p : Proto) (n : ℕ) : Type 0 where
  pub next : reached after h p n ≡ reached net h p n + 1
  pub duty : Duty
  pub rest : List Duty
  pub owed : net.owed c ≡ duty ∷ rest
  pub actor : duty.actor ≡ name.Conv h p n
  pub birth : IsBirth (reached after h p n) duty.event

-- the birth of a generation that the directory gave
pub record IsGained (net after : Net) (new : List Duty) (h : ℕ) (p : Proto) (n : ℕ) : Type 0 where
  pub next : given_last after h p n ≡ given_last net h p n + 1
  pub duty : Duty
  pub there : In duty new
  pub actor : duty.actor ≡ name.Conv h p n
  pub birth : IsBirth (given_last after h p n) duty.event
  pub alone : (d : Duty) → In d new → d.actor ≡ name.Conv h p n → IsBirth (given_last after h p n) d.event

-- what an entry of a caller changes, which adds these duties
pub record Changes (w : World) (net after : Net) (c : ℕ) (new : List Duty) : Type 0 where
  pub known : c < caller_count w
  pub past : length after.past ≡ length net.past + 1
  pub owed : (k : ℕ) → after.owed k ≡ (if c == k then drop 1 (net.owed k) ++ new else net.owed k)
  pub actors : (a : ActorName) → IsActorOf w a (after.actors a)
  pub fine : Each (IsNew w net after) new
  pub apart : Later Apart new
  pub rise : (h : ℕ) (p : Proto) (n : ℕ) → given_last net h p n ≤ given_last after h p n
  pub borne : (h : ℕ) (p : Proto) (n : ℕ) → (reached after h p n ≡ reached net h p n) ⊎ IsBorne net after c h p n
  -- a birth that was the first duty came about
  pub done : (d : Duty) (ds : List Duty) (h : ℕ) (p : Proto) (n : ℕ) → net.owed c ≡ d ∷ ds → bears d.event ≡ true → d.actor ≡ name.Conv h p n → reached after h p n ≡ named d.event
  pub gained : (h : ℕ) (p : Proto) (n : ℕ) → (given_last after h p n ≡ given_last net h p n) ⊎ IsGained net after new h p n

-- Lists.

in_rest : {A : Type 0} (x : A) (xs : List A) → In x (drop 1 xs) → In x xs
in_rest x [] there = there
in_rest x (y ∷ xs) there = inr there

later_rest : (R : Duty → Duty → Type 0) (ds : List Duty) → Later R ds → Later R (drop 1 ds)
later_rest R [] all = tt
later_rest R (d ∷ ds) all = all.1

pub each_of : (P : Duty → Type 0) (ds : List Duty) → ((d : Duty) → In d ds → P d) → Each P ds
each_of P [] all = tt
each_of P (d ∷ ds) all = (all d (inl refl), each_of P ds (λ e there. all e (inr there)))

pub later_append : (R : Duty → Duty → Type 0) (xs ys : List Duty) → Later R xs → Later R ys → ((d e : Duty) → In d xs → In e ys → R d e) → Later R (xs ++ ys)
later_append R [] ys one two both = two
later_append R (x ∷ xs) ys one two both =
    (each_append (R x) xs ys one.0 (each_of (R x) ys (λ e there. both x e (inl refl) there)), later_append R xs ys one.1 two (λ d e there other. both d e (inr there) other))

-- what is owed after the entry: what was owed, or is new
owed_or : (w : World) (net after : Net) (c : ℕ) (new : List Duty) → Changes w net after c new → (k : ℕ) (d : Duty) → In d (after.owed k) → In d (net.owed k) ⊎ ((c ≡ k) × In d new)
owed_or w net after c new ch k d there = elim (eqb_tells c k) [
  | inl same ↦
      let at : In d (drop 1 (net.owed k) ++ new) = subst (In d) (ch.owed k ∙ rw same.0 refl) there in
      elim (in_parts d (drop 1 (net.owed k)) new at) [ inl old ↦ inl (in_rest d (net.owed k) old) | inr young ↦ inr (same.1, young) ]
  | inr apart ↦ inl (subst (In d) (ch.owed k ∙ rw apart.0 refl) there)
]

-- a duty is new or was owed before, where the first duty of the entry's caller is gone
kept_or : (w : World) (net after : Net) (c : ℕ) (new : List Duty) → Changes w net after c new → (k : ℕ) (d : Duty) → In d (after.owed k)
    → (In d (net.owed k) × (c ≡ k → In d (drop 1 (net.owed k)))) ⊎ ((c ≡ k) × In d new)
kept_or w net after c new ch k d there = elim (eqb_tells c k) [
  | inl same ↦
      let at : In d (drop 1 (net.owed k) ++ new) = subst (In d) (ch.owed k ∙ rw same.0 refl) there in
      elim (in_parts d (drop 1 (net.owed k)) new at) [ inl old ↦ inl (in_rest d (net.owed k) old, λ _. old) | inr young ↦ inr (same.1, young) ]
  | inr apart ↦ inl (subst (In d) (ch.owed k ∙ rw apart.0 refl) there, λ same. absurd (apart.1 same))
]

-- what was owed is owed still, or was the first duty of the entry's caller
still_owed : (w : World) (net after : Net) (c : ℕ) (new : List Duty) → Changes w net after c new → (k : ℕ) (d : Duty) → In d (net.owed k) → In d (after.owed k) ⊎ ((c ≡ k) × ((ds : List Duty) × (net.owed k ≡ d ∷ ds)))
still_owed w net after c new ch k d there = elim (eqb_tells c k) [
  | inl same ↦ by (net.owed k) there (λ at. subst (In d) (sym (ch.owed k ∙ rw same.0 refl)) (in_front d (drop 1 (net.owed k)) new at)) same.1 refl
  | inr apart ↦ inl (subst (In d) (sym (ch.owed k ∙ rw apart.0 refl)) there)
]
  where
    by : (ds : List Duty) → In d ds → (In d (drop 1 (net.owed k)) → In d (after.owed k)) → c ≡ k → net.owed k ≡ ds → In d (after.owed k) ⊎ ((c ≡ k) × ((rest : List Duty) × (net.owed k ≡ d ∷ rest)))
    by [] there keep same is = absurd there
    by (e ∷ es) (inl first) keep same is = inr (same, (es, is ∙ ap (λ (x : Duty). x ∷ es) (sym first)))
    by (e ∷ es) (inr later) keep same is = inl (keep (subst (λ (xs : List Duty). In d (drop 1 xs)) (sym is) later))

-- new duties are owed by the entry's caller
new_owed : (w : World) (net after : Net) (c : ℕ) (new : List Duty) → Changes w net after c new → (d : Duty) → In d new → In d (after.owed c)
new_owed w net after c new ch d there = elim (eqb_tells c c) [
  | inl same ↦ subst (In d) (sym (ch.owed c ∙ rw same.0 refl)) (in_back d (drop 1 (net.owed c)) new there)
  | inr apart ↦ absurd (apart.1 refl)
]

-- The net stays as it should be.

-- births stand at conversations alone
abbrev pub NotConv : ActorName → Type 0
NotConv (name.Conv h p n) = ⊥
NotConv _ = Unit {0}

pub no_birth : (w : World) (a : ActorName) (e : Event) (with : With) → NotConv a → IsKind w a e with → bears e ≡ true → ⊥
no_birth w (name.Conv h p n) e with not kind is = not
no_birth w (name.Desk h) e with not kind is = kind
no_birth w name.Clock e with not kind is = kind
no_birth w a (event.Begin g) with not kind is = begin_nowhere a not kind
  where
    begin_nowhere : (a : ActorName) → NotConv a → IsKind w a (event.Begin g) with → ⊥
    begin_nowhere (name.Dir h p) not kind = kind.1
    begin_nowhere (name.Medium m) not kind = kind.1
    begin_nowhere (name.Conv h p n) not kind = not
    begin_nowhere (name.Desk h) not kind = kind
    begin_nowhere name.Clock not kind = kind
no_birth w a (event.Born g) with not kind is = born_nowhere a not kind
  where
    born_nowhere : (a : ActorName) → NotConv a → IsKind w a (event.Born g) with → ⊥
    born_nowhere (name.Dir h p) not kind = kind.1
    born_nowhere (name.Medium m) not kind = kind.1
    born_nowhere (name.Conv h p n) not kind = not
    born_nowhere (name.Desk h) not kind = kind
    born_nowhere name.Clock not kind = kind
no_birth w a _ with not kind is = true≢false (sym is)

module _ (w : World) (net after : Net) (c : ℕ) (new : List Duty) (s : Steady w net) (ch : Changes w net after c new) where
  new_of : (d : Duty) → In d new → IsNew w net after d
  new_of d there = each_in (IsNew w net after) new d ch.fine there

  old_below : (k : ℕ) (d : Duty) (h : ℕ) (p : Proto) (n : ℕ) → In d (net.owed k) → d.actor ≡ name.Conv h p n → named d.event ≤ given_last after h p n
  old_below k d h p n there at = omega (arith, s.below k d h p n there at, ch.rise h p n)

  -- the part of each queue
  queue : (P : Duty → Type 0) (Q : Duty → Type 0) → ((d : Duty) → P d → Q d) → ((d : Duty) → IsNew w net after d → Q d) → (k : ℕ) → Each P (net.owed k) → Each Q (after.owed k)
  queue P Q old young k all = each_of Q (after.owed k) (λ d there. elim (owed_or w net after c new ch k d there) [
    | inl was ↦ old d (each_in P (net.owed k) d all was)
    | inr is ↦ young d (new_of d is.1)
  ])

  later_queue : (R : Duty → Duty → Type 0) → Later R new → ((k : ℕ) (d e : Duty) → In d (net.owed k) → In e new → R d e) → (k : ℕ) → Later R (net.owed k) → Later R (after.owed k)
  later_queue R young both k old = elim (eqb_tells c k) [
    | inl same ↦ subst (Later R) (sym (ch.owed k ∙ rw same.0 refl)) (later_append R (drop 1 (net.owed k)) new (later_rest R (net.owed k) old) young (λ d e there other. both k d e (in_rest d (net.owed k) there) other))
    | inr apart ↦ subst (Later R) (sym (ch.owed k ∙ rw apart.0 refl)) old
  ]

  each_cites : (d : Duty) (es : List Duty) → d.cites ≡ length net.past → Each (IsNew w net after) es → Each (λ (e : Duty). d.cites ≤ e.cites) es
  each_cites d [] is all = tt
  each_cites d (e ∷ es) is all = (omega (arith, is, all.0.cites), each_cites d es is all.1)

  new_sorted : (ds : List Duty) → Each (IsNew w net after) ds → Later (λ (d : Duty) (e : Duty). d.cites ≤ e.cites) ds
  new_sorted [] all = tt
  new_sorted (d ∷ ds) all = (each_cites d ds all.0.cites all.1, new_sorted ds all.1)

  -- an old duty and a new one bear different generations
  old_new_apart : (k : ℕ) (d e : Duty) → In d (net.owed k) → In e new → Apart d e
  old_new_apart k d e there young bears_d bears_e same names = at d.actor refl
    where
      kind : (a : ActorName) → d.actor ≡ a → IsKind w a d.event d.with
      kind a is = subst (λ (b : ActorName). IsKind w b d.event d.with) is (each_in (OfKind w) (net.owed k) d (s.kinds k) there)

      at : (a : ActorName) → d.actor ≡ a → ⊥
      at (name.Conv h p n) is = absurd (omega (arith, names, s.below k d h p n there is, (new_of e young).unborn h p n (sym same ∙ is) bears_e))
      at (name.Dir h p) is = no_birth w (name.Dir h p) d.event d.with tt (kind (name.Dir h p) is) bears_d
      at (name.Medium m) is = no_birth w (name.Medium m) d.event d.with tt (kind (name.Medium m) is) bears_d
      at (name.Desk h) is = kind (name.Desk h) is
      at name.Clock is = kind name.Clock is

  apart_back : (d e : Duty) → Apart d e → Apart e d
  apart_back d e apart one two same names = apart two one (sym same) (sym names)

  -- the caller's first duty and any other
  first_apart : (d : Duty) (ds : List Duty) (k : ℕ) (e : Duty) → net.owed c ≡ d ∷ ds → In e (net.owed k) → (c ≡ k → In e ds) → Apart d e
  first_apart d ds k e is there rest = elim (eqb_tells c k) [
    | inl same ↦ each_in (Apart d) ds e (subst (Later Apart) is (s.once c)).0 (rest same.1)
    | inr apart ↦ s.elsewhere c k d e apart.1 (subst (In d) (sym is) (inl refl)) there
  ]

  -- a birth that is owed still, of a generation that isn't reached
  still_birth : (h : ℕ) (p : Proto) (n g : ℕ) → reached after h p n < g → IsOwedBirth net h p n g → g ≤ given_last net h p n → IsOwedBirth after h p n g
  still_birth h p n g lt b within = elim (still_owed w net after c new ch b.caller b.duty b.there) [
    | inl still ↦ record {
      caller = b.caller;
      duty = b.duty;
      there = still;
      actor = b.actor;
      birth = b.birth;
      first = λ k d there at le. elim (owed_or w net after c new ch k d there) [
        | inl was ↦ b.first k d was at le
        | inr young ↦
            let cites : d.cites ≡ length net.past = (new_of d young.1).cites in
            let before : b.duty.cites < length net.past = each_in (λ (x : Duty). x.cites < length net.past) (net.owed b.caller) b.duty (s.cited b.caller) b.there in
            (omega (arith, cites, before), λ same. absurd (omega (arith, cites, before, same)))
      ];
    }
    | inr gone ↦
        let came : reached after h p n ≡ named b.duty.event = ch.done b.duty gone.1.0 h p n (subst (λ (k : ℕ). net.owed k ≡ b.duty ∷ gone.1.0) (sym gone.0) gone.1.1) b.birth.0 b.actor in
        absurd (omega (arith, came, b.birth.1, lt))
  ]

  gained_birth : (h : ℕ) (p : Proto) (n : ℕ) → IsGained net after new h p n → IsOwedBirth after h p n (given_last after h p n)
  gained_birth h p n b = record {
    caller = c;
    duty = b.duty;
    there = new_owed w net after c new ch b.duty b.there;
    actor = b.actor;
    birth = b.birth;
    first = λ k d there at le. elim (owed_or w net after c new ch k d there) [
      | inl was ↦ absurd (omega (arith, s.below k d h p n was at, le, b.next))
      | inr young ↦ (omega (arith, (new_of d young.1).cites, (new_of b.duty b.there).cites), λ same. b.alone d young.1 at)
    ];
  }

  births_on : (h : ℕ) (p : Proto) (n g : ℕ) → reached after h p n < g → g ≤ given_last after h p n → IsOwedBirth after h p n g
  births_on h p n g lt le = elim (ch.gained h p n) [
    | inl same ↦ still_birth h p n g lt (s.births h p n g before (omega (arith, same, le))) (omega (arith, same, le))
    | inr more ↦ elim (cases_lt (given_last net h p n) g) [
      | inl beyond ↦ subst (λ (k : ℕ). IsOwedBirth after h p n k) (omega (arith, beyond, le, more.next)) (gained_birth h p n more)
      | inr within ↦ still_birth h p n g lt (s.births h p n g before within) within
    ]
  ]
    where
      before : reached net h p n < g
      before = elim (ch.borne h p n) [ inl same ↦ omega (arith, same, lt) | inr b ↦ omega (arith, b.next, lt) ]

  unborn_on : (k : ℕ) (d : Duty) (h : ℕ) (p : Proto) (n : ℕ) → In d (after.owed k) → d.actor ≡ name.Conv h p n → bears d.event ≡ true → reached after h p n < named d.event
  unborn_on k d h p n there at is = elim (kept_or w net after c new ch k d there) [
    | inl old ↦ elim (ch.borne h p n) [
      | inl same ↦ omega (arith, same, s.unborn k d h p n old.0 at is)
      | inr b ↦ by_apart b old.0 (λ same. rest_of b same (old.1 same)) (cases_lt (reached after h p n) (named d.event))
    ]
    | inr young ↦ elim (ch.borne h p n) [
      | inl same ↦ omega (arith, same, s.behind h p n, (new_of d young.1).unborn h p n at is)
      | inr b ↦ omega (arith, b.birth.1, s.below c b.duty h p n (subst (In b.duty) (sym b.owed) (inl refl)) b.actor, (new_of d young.1).unborn h p n at is)
    ]
  ]
    where
      rest_of : (b : IsBorne net after c h p n) → c ≡ k → In d (drop 1 (net.owed k)) → In d b.rest
      rest_of b same rest =
          let mine : In d (drop 1 (net.owed c)) = subst (λ (j : ℕ). In d (drop 1 (net.owed j))) (sym same) rest in
          subst (λ (xs : List Duty). In d (drop 1 xs)) b.owed mine

      by_apart : (b : IsBorne net after c h p n) → In d (net.owed k) → (c ≡ k → In d b.rest) → (reached after h p n < named d.event) ⊎ (named d.event ≤ reached after h p n) → reached after h p n < named d.event
      by_apart b old rest (inl less) = less
      by_apart b old rest (inr most) =
          let same : named b.duty.event ≡ named d.event = omega (arith, most, b.birth.1, b.next, s.unborn k d h p n old at is) in
          absurd (first_apart b.duty b.rest k d b.owed old rest b.birth.0 is (b.actor ∙ sym at) same)

  elsewhere_on : (j k : ℕ) (d e : Duty) → (j ≡ k → ⊥) → In d (after.owed j) → In e (after.owed k) → Apart d e
  elsewhere_on j k d e apart one two = by (owed_or w net after c new ch j d one) (owed_or w net after c new ch k e two)
    where
      by : In d (net.owed j) ⊎ ((c ≡ j) × In d new) → In e (net.owed k) ⊎ ((c ≡ k) × In e new) → Apart d e
      by (inl a) (inl b) = s.elsewhere j k d e apart a b
      by (inl a) (inr b) = old_new_apart j d e a b.1
      by (inr a) (inl b) = apart_back e d (old_new_apart k e d b a.1)
      by (inr a) (inr b) = absurd (apart (sym a.0 ∙ b.0))

  pub steady_on : Steady w after
  steady_on = record {
    actors = ch.actors;
    known = λ k far. elim (eqb_tells c k) [
      | inl same ↦ absurd (omega (arith, same.1, far, ch.known))
      | inr apart ↦ ch.owed k ∙ rw apart.0 (s.known k far)
    ];
    kinds = λ k. queue (OfKind w) (OfKind w) (λ d is. is) (λ d is. is.kind) k (s.kinds k);
    sorted = λ k. later_queue (λ (d : Duty) (e : Duty). d.cites ≤ e.cites) (new_sorted new ch.fine)
        (λ j d e there young. omega (arith, (new_of e young).cites, each_in (λ (x : Duty). x.cites < length net.past) (net.owed j) d (s.cited j) there)) k (s.sorted k);
    cited = λ k. queue (λ (d : Duty). d.cites < length net.past) (λ (d : Duty). d.cites < length after.past) (λ d is. omega (arith, is, ch.past)) (λ d is. omega (arith, is.cites, ch.past)) k (s.cited k);
    below = λ k d h p n there at. elim (owed_or w net after c new ch k d there) [
      | inl old ↦ old_below k d h p n old at
      | inr young ↦ (new_of d young.1).below h p n at
    ];
    behind = λ h p n. elim (ch.borne h p n) [
      | inl same ↦ omega (arith, same, s.behind h p n, ch.rise h p n)
      | inr b ↦ omega (arith, b.birth.1, s.below c b.duty h p n (subst (In b.duty) (sym b.owed) (inl refl)) b.actor, ch.rise h p n)
    ];
    births = births_on;
    unborn = unborn_on;
    once = λ k. later_queue Apart ch.apart old_new_apart k (s.once k);
    elsewhere = elsewhere_on;
  }
