-- The first duty that cites the least stamp is ready.
use Rattle.std.proofs.Common.{◌≡◌, ℕ, zero, suc, ◌+◌, ◌<◌, ◌≤◌, ◌==◌, ◌⊎◌, Bool, true, false, List, [], ◌∷◌, length, Option, Some, None, slice_get, inl, inr, refl, sym, ap, subst, ◌∙◌, arith, nat_lt}
use Rattle.std.specs.Prelude.{IsSome}
use Rattle.std.proofs.lemmas.Bool.{true≢false, lt-ltb, eqb-true, eqb-false, ltb-false, cases_lt}
use Rattle.net_base.specs.declared.timer.Timers.TheVariants.{Fixed}
use Rattle.net_base.specs.declared.actor.ActorName.{ActorName}
use Rattle.net_base.specs.declared.actor.ActorName.TheVariants as name
use Rattle.net_base.specs.declared.address.Proto.{Proto}
use Rattle.net_base.specs.declared.address.Proto.TheVariants as proto
use Rattle.net_base.specs.declared.event.Event.{Event}
use Rattle.net_base.specs.declared.event.Event.TheVariants as event
use Rattle.net_base.specs.declared.history.With.{With}
use Rattle.net_base.specs.declared.history.With.TheVariants as given
use Rattle.net_base.specs.declared.world.MediumSpec.{MediumSpec}
use Rattle.net_base.specs.declared.world.World.{World}
use Rattle.net_base.specs.ActorStep.{Step, when}
use Rattle.net_base.specs.Actors.{Actor, IsDesk, IsDir, IsConv, IsMedium, IsPlain, actor_step, opening_core, slot_count}
use Rattle.net_base.specs.Callers.{caller_count}
use Rattle.net_base.specs.Conversation.{Conv, Core, Il, Udp, in_generation, raises, conv_step, may_bear, may_connect, has_protocol, brought_forth, arrived}
use Rattle.net_base.specs.Directory.{Dir, Slot, dir_step}
use Rattle.net_base.specs.Medium.{Medium, medium_step}
use Rattle.std.specs.Option.{option_map}
use Rattle.net_base.specs.Duties.{Duty}
use Rattle.net_base.specs.Net.{Net}
use Rattle.net_base.specs.Stamped.{In}
use Rattle.history_laws.proofs.Ordered.{Each, Later}
use Rattle.net_base.specs.declared.packet.Body.{Body}
use Rattle.net_base.specs.declared.packet.Body.TheVariants as body
use Rattle.net_base.specs.declared.packet.Packet.{Packet}
use Rattle.history_laws.proofs.Duties.{Steady, OfKind, IsKind, IsConvKind, IsDirKind, IsMediumKind, IsActorOf, IsBirth, IsOwedBirth, bears, named, reached, given_last, same_core, conv_generation}

-- The caller whose first duty cites least.

-- the first duty of a caller, which cites no more than the first duties of these callers
pub record IsLeast (net : Net) (n : ℕ) : Type 0 where
  pub caller : ℕ
  pub below : caller < n
  pub first : Duty
  pub rest : List Duty
  pub owed : net.owed caller ≡ first ∷ rest
  pub least : (c : ℕ) (e : Duty) (es : List Duty) → c < n → net.owed c ≡ e ∷ es → first.cites ≤ e.cites

-- nobody of the first n callers owes anything
abbrev pub NobodyOwes : Net → ℕ → Type 0
NobodyOwes net n = (c : ℕ) → c < n → net.owed c ≡ []

last_or : (c n : ℕ) → c < suc n → (c < n) ⊎ (c ≡ n)
last_or c n lt = by (c == n) refl
  where
    by : (b : Bool) → (c == n) ≡ b → (c < n) ⊎ (c ≡ n)
    by true is = inr (eqb-true c n is)
    by false is = inl (omega (arith, lt, eqb-false c n is))

not_both : (ds : List Duty) (e : Duty) (es : List Duty) → ds ≡ [] → ds ≡ e ∷ es → ⊥
not_both ds e es empty is = absurd (omega (arith, ap length (sym empty ∙ is)))

first_of : Duty → List Duty → Duty
first_of d [] = d
first_of d (e ∷ es) = e

same_first : (d e : Duty) (ds es : List Duty) → d ∷ ds ≡ e ∷ es → d ≡ e
unfolding first_of
same_first d e ds es is = ap (first_of d) is

pub least_of : (net : Net) (n : ℕ) → NobodyOwes net n ⊎ IsLeast net n
least_of net zero = inl (λ c lt. absurd (omega (arith, lt)))
least_of net (suc n) = by (net.owed n) refl (least_of net n)
  where
    here : (d : Duty) (ds : List Duty) → net.owed n ≡ d ∷ ds → ((c : ℕ) (e : Duty) (es : List Duty) → c < n → net.owed c ≡ e ∷ es → d.cites ≤ e.cites) → IsLeast net (suc n)
    here d ds is before = record {
      caller = n;
      below = omega arith;
      first = d;
      rest = ds;
      owed = is;
      least = λ c e es lt at. elim (last_or c n lt) [
        | inl less ↦ before c e es less at
        | inr same ↦
            let eq : d ≡ e = same_first d e ds es (sym is ∙ subst (λ (k : ℕ). net.owed k ≡ e ∷ es) same at) in
            omega (arith, ap (λ (x : Duty). x.cites) eq)
      ];
    }

    by : (ds : List Duty) → net.owed n ≡ ds → NobodyOwes net n ⊎ IsLeast net n → NobodyOwes net (suc n) ⊎ IsLeast net (suc n)
    by [] is (inl all) = inl (λ c lt. elim (last_or c n lt) [
      | inl less ↦ all c less
      | inr same ↦ subst (λ (k : ℕ). net.owed k ≡ []) (sym same) is
    ])
    by [] is (inr l) = inr record {
      caller = l.caller;
      below = omega (arith, l.below);
      first = l.first;
      rest = l.rest;
      owed = l.owed;
      least = λ c e es lt at. elim (last_or c n lt) [
        | inl less ↦ l.least c e es less at
        | inr same ↦ absurd (not_both (net.owed n) e es is (subst (λ (k : ℕ). net.owed k ≡ e ∷ es) same at))
      ];
    }
    by (d ∷ ds) is (inl all) = inr (here d ds is (λ c e es less at. absurd (not_both (net.owed c) e es (all c less) at)))
    by (d ∷ ds) is (inr l) = elim (cases_lt d.cites l.first.cites) [
      | inl less ↦ inr (here d ds is (λ c e es below at. omega (arith, less, l.least c e es below at)))
      | inr more ↦ inr record {
        caller = l.caller;
        below = omega (arith, l.below);
        first = l.first;
        rest = l.rest;
        owed = l.owed;
        least = λ c e es lt at. elim (last_or c n lt) [
          | inl below ↦ l.least c e es below at
          | inr same ↦
              let eq : d ≡ e = same_first d e ds es (sym is ∙ subst (λ (k : ℕ). net.owed k ≡ e ∷ es) same at) in
              omega (arith, more, ap (λ (x : Duty). x.cites) eq)
        ];
      }
    ]

-- What stands in a queue cites no less than its first.

pub each_in : (P : Duty → Type 0) (ds : List Duty) (d : Duty) → Each P ds → In d ds → P d
each_in P [] d all there = absurd there
each_in P (e ∷ es) d all (inl same) = subst P (sym same) all.0
each_in P (e ∷ es) d all (inr later) = each_in P es d all.1 later

first_cites : (ds : List Duty) (f : Duty) (fs : List Duty) (e : Duty) → ds ≡ f ∷ fs → Later (λ (x : Duty) (y : Duty). x.cites ≤ y.cites) ds → In e ds → f.cites ≤ e.cites
first_cites ds f fs e is sorted there = at (subst (Later (λ (x : Duty) (y : Duty). x.cites ≤ y.cites)) is sorted) (subst (In e) is there)
  where
    at : Later (λ (x : Duty) (y : Duty). x.cites ≤ y.cites) (f ∷ fs) → In e (f ∷ fs) → f.cites ≤ e.cites
    at s (inl same) = omega (arith, ap (λ (x : Duty). x.cites) same)
    at s (inr later) = each_in (λ (y : Duty). f.cites ≤ y.cites) fs e s.0 later

-- What is of kind is ready, or names a generation that its conversation hasn't reached.

-- the event raises the generation and isn't of the next one, or names one that isn't reached
abbrev pub Lacks : ℕ → Bool → ℕ → Type 0
Lacks reached true g = (g ≡ reached) ⊎ (reached + 1 < g)
Lacks reached false g = reached < g

generation_or : (g : ℕ) (c : Conv) (step : Option (Step Conv)) → IsSome step → IsSome (in_generation g c step) ⊎ (c.generation < g)
generation_or g c step some = by (g == c.generation) (nat_lt g c.generation) refl refl
  where
    by : (b d : Bool) → (g == c.generation) ≡ b → nat_lt g c.generation ≡ d → IsSome (in_generation g c step) ⊎ (c.generation < g)
    by true d same less = inl (rw same some)
    by false true same less = inl (rw (same, less) refl)
    by false false same less = inr (omega (arith, eqb-false g c.generation same, ltb-false g c.generation less))

raise_or : (g : ℕ) (c : Conv) (step : Option (Step Conv)) → IsSome step → IsSome (raises g c step) ⊎ Lacks c.generation true g
raise_or g c step some = by (g == c.generation + 1) (nat_lt g c.generation) (g == c.generation) refl refl refl
  where
    by : (b d e : Bool) → (g == c.generation + 1) ≡ b → nat_lt g c.generation ≡ d → (g == c.generation) ≡ e → IsSome (raises g c step) ⊎ Lacks c.generation true g
    by true d e next less same = inl (rw next some)
    by false true e next less same = inl (rw (next, less) refl)
    by false false true next less same = inr (inl (eqb-true g c.generation same))
    by false false false next less same = inr (inr (omega (arith, eqb-false g (c.generation + 1) next, ltb-false g c.generation less, eqb-false g c.generation same)))

-- what may bear a conversation of the protocol may bear one with this end
same_bear : (p : Proto) (c : Core) (b : Body) → same_core p c → may_bear (opening_core Fixed p) b ≡ true → may_bear c b ≡ true
same_bear proto.Il (Il e) (body.Il m) same is = is
same_bear proto.Udp (Udp e) (body.Udp t) same is = is
same_bear proto.Il (Il e) (body.Udp t) same is = is
same_bear proto.Udp (Udp e) (body.Il m) same is = is
same_bear proto.Il (Udp e) b same is = absurd same
same_bear proto.Udp (Il e) b same is = absurd same

same_connect : (p : Proto) (c : Core) (start limit : ℕ) → same_core p c → may_connect (opening_core Fixed p) start limit ≡ true → may_connect c start limit ≡ true
same_connect proto.Il (Il e) start limit same is = is
same_connect proto.Udp (Udp e) start limit same is = is
same_connect proto.Il (Udp e) start limit same is = absurd same
same_connect proto.Udp (Il e) start limit same is = absurd same

same_protocol : (p : Proto) (c : Core) (b : Body) → same_core p c → has_protocol (opening_core Fixed p) b ≡ true → has_protocol c b ≡ true
same_protocol proto.Il (Il e) (body.Il m) same is = is
same_protocol proto.Udp (Udp e) (body.Udp t) same is = is
same_protocol proto.Il (Il e) (body.Udp t) same is = is
same_protocol proto.Udp (Udp e) (body.Il m) same is = is
same_protocol proto.Il (Udp e) b same is = absurd same
same_protocol proto.Udp (Il e) b same is = absurd same

bears_some : (c : Core) (now g start limit : ℕ) (p : Packet) (b : Body) (v : Conv) → may_bear c b ≡ true → IsSome (brought_forth c now g start limit p b v)
bears_some (Il e) now g start limit p (body.Il m) v is = refl
bears_some (Udp e) now g start limit p (body.Udp t) v is = refl
bears_some (Il e) now g start limit p (body.Udp t) v is = absurd (true≢false (sym is))
bears_some (Udp e) now g start limit p (body.Il m) v is = absurd (true≢false (sym is))

takes_some : (c : Core) (b : Body) (now : ℕ) (v : Conv) → has_protocol c b ≡ true → IsSome (arrived c b now v)
takes_some (Il e) (body.Il m) now v is = refl
takes_some (Udp e) (body.Udp t) now v is = refl
takes_some (Il e) (body.Udp t) now v is = absurd (true≢false (sym is))
takes_some (Udp e) (body.Il m) now v is = absurd (true≢false (sym is))

pub conv_ready : (slot : ℕ) (e : Event) (with : With) (now : ℕ) (p : Proto) (c : Conv) → same_core p c.core → IsConvKind p e with
    → IsSome (conv_step slot e with now c) ⊎ Lacks c.generation (bears e) (named e)
conv_ready slot (event.Begin g) with now p c same kind = raise_or g c _ refl
conv_ready slot (event.Born g) (given.Birth q start limit) now p c same kind =
    rw (same_bear p c.core q.body same kind.0, same_connect p c.core start limit same kind.1)
    (raise_or g c _ (bears_some c.core now g start limit q q.body c (same_bear p c.core q.body same kind.0)))
conv_ready slot (event.Claim g) with now p c same kind = generation_or g c _ refl
conv_ready slot (event.Connect g) (given.Grant pair start limit) now p c same kind =
    rw (same_connect p c.core start limit same kind) (generation_or g c _ refl)
conv_ready slot (event.Announced g) (given.Key ip port) now p c same kind = generation_or g c _ refl
conv_ready slot (event.Bound g) (given.Key ip port) now p c same kind = generation_or g c _ refl
conv_ready slot (event.Close g) with now p c same kind = generation_or g c _ refl
conv_ready slot (event.ArriveAt g) (given.Packet q) now p c same kind =
    rw (same_protocol p c.core q.body same kind) (generation_or g c _ (takes_some c.core q.body now c (same_protocol p c.core q.body same kind)))
conv_ready slot (event.Tick g) with now p c same kind = generation_or g c _ refl
conv_ready slot _ _ now p c same kind = absurd kind

-- Actors.

-- a duty at a conversation waits for its generation
abbrev pub IsLate : ActorName → Actor → Event → Type 0
IsLate (name.Conv h p n) s e = Lacks (conv_generation s) (bears e) (named e)
IsLate _ s e = ⊥

some_or : {A B : Type 0} {L : Type 0} (f : A → B) (b : Bool) (o : Option A) → b ≡ true → IsSome o ⊎ L → IsSome (when b (option_map f o)) ⊎ L
some_or f b o is (inr late) = inr late
some_or f b None is (inl some) = absurd (true≢false (sym some))
some_or f b (Some x) is (inl some) = inl (rw is refl)

slot_there : (slots : List Slot) (n : ℕ) → n < length slots → (s : Slot) × (slice_get slots n ≡ Some s)
slot_there [] n lt = absurd (omega (arith, lt))
slot_there (s ∷ ss) zero lt = (s, refl)
slot_there (s ∷ ss) (suc n) lt = slot_there ss n (omega (arith, lt))

dir_ready : (w : World) (h : ℕ) (p : Proto) (e : Event) (with : With) (d : Dir) → length d.slots ≡ slot_count → IsDirKind p e with → IsSome (dir_step w h p e with d)
dir_ready w h p (event.Withdraw n g) with d count kind =
    let s = slot_there d.slots n (omega (arith, count, kind)) in
    rw s.1 refl
dir_ready w h p (event.Release n g) with d count kind =
    let s = slot_there d.slots n (omega (arith, count, kind)) in
    rw s.1 refl
dir_ready w h p event.Arrive (given.Packet q) d count kind = rw kind refl
dir_ready w h p _ _ d count kind = absurd kind

medium_ready : (w : World) (s : MediumSpec) (seed : ℕ) (e : Event) (with : With) (m : Medium) → IsMediumKind w e with → IsSome (medium_step s seed e with m)
medium_ready w s seed (event.Put None) (given.Packet q) m kind = refl
medium_ready w s seed (event.Put (Some to)) (given.Packet q) m kind = refl
medium_ready w s seed _ _ m kind = absurd kind

medium_there : (media : List MediumSpec) (n : ℕ) → n < length media → (s : MediumSpec) × (slice_get media n ≡ Some s)
medium_there [] n lt = absurd (omega (arith, lt))
medium_there (s ∷ ss) zero lt = (s, refl)
medium_there (s ∷ ss) (suc n) lt = medium_there ss n (omega (arith, lt))

pub actor_ready : (w : World) (a : ActorName) (s : Actor) (now : ℕ) (e : Event) (with : With) → IsActorOf w a s → IsKind w a e with
    → IsSome (actor_step w a s now (record { event = e; with = with })) ⊎ IsLate a s e
actor_ready w (name.Conv h p n) (IsConv c) now e with of kind =
    some_or _ _ (conv_step n e with now c) (rw (lt-ltb h (length w.hosts) kind.0, lt-ltb n slot_count kind.1) refl) (conv_ready n e with now p c of kind.2)
actor_ready w (name.Dir h p) (IsDir d) now e with of kind =
    some_or _ _ (dir_step w h p e with d) (lt-ltb h (length w.hosts) kind.0) (inl (dir_ready w h p e with d of.count kind.1))
actor_ready w (name.Medium m) (IsMedium s) now e with of kind =
    let spec = medium_there w.media m kind.0 in
    rw (lt-ltb m (length w.media) kind.0, spec.1) (some_or _ true (medium_step spec.0 w.seed e with s) refl (inl (medium_ready w spec.0 w.seed e with s kind.1)))
actor_ready w (name.Conv h p n) (IsDir d) now e with of kind = absurd of
actor_ready w (name.Conv h p n) (IsMedium s) now e with of kind = absurd of
actor_ready w (name.Conv h p n) (IsDesk d) now e with of kind = absurd of
actor_ready w (name.Conv h p n) IsPlain now e with of kind = absurd of
actor_ready w (name.Dir h p) (IsConv c) now e with of kind = absurd of
actor_ready w (name.Dir h p) (IsMedium s) now e with of kind = absurd of
actor_ready w (name.Dir h p) (IsDesk d) now e with of kind = absurd of
actor_ready w (name.Dir h p) IsPlain now e with of kind = absurd of
actor_ready w (name.Medium m) (IsConv c) now e with of kind = absurd of
actor_ready w (name.Medium m) (IsDir d) now e with of kind = absurd of
actor_ready w (name.Medium m) (IsDesk d) now e with of kind = absurd of
actor_ready w (name.Medium m) IsPlain now e with of kind = absurd of
actor_ready w (name.Desk h) s now e with of kind = absurd kind
actor_ready w name.Clock s now e with of kind = absurd kind

-- The least is ready.

in_first : (ds : List Duty) (d : Duty) (rest : List Duty) → ds ≡ d ∷ rest → In d ds
in_first ds d rest is = subst (In d) (sym is) (inl refl)

-- where some caller owes a duty, and what is owed is as it should be, the first duty of some caller is ready
pub record IsReadyDuty (w : World) (net : Net) : Type 0 where
  pub caller : ℕ
  pub duty : Duty
  pub rest : List Duty
  pub below : caller < caller_count w
  pub owed : net.owed caller ≡ duty ∷ rest
  pub ready : IsSome (actor_step w duty.actor (net.actors duty.actor) net.moment (record { event = duty.event; with = duty.with }))

-- the birth of the next generation cites no more than a first duty that cites least
least_birth : (w : World) (net : Net) (l : IsLeast net (caller_count w)) (h : ℕ) (p : Proto) (n g : ℕ) → Steady w net → l.first.actor ≡ name.Conv h p n
    → IsOwedBirth net h p n g → g ≤ named l.first.event → IsBirth g l.first.event
least_birth w net l h p n g s at birth le = by_queue (net.owed birth.caller) refl
  where
    by_known : (birth.caller < caller_count w) ⊎ (caller_count w ≤ birth.caller) → (f : Duty) (fs : List Duty) → net.owed birth.caller ≡ f ∷ fs → IsBirth g l.first.event
    by_known (inr far) f fs is = absurd (not_both (net.owed birth.caller) f fs (s.known birth.caller far) is)
    by_known (inl near) f fs is =
        let later = birth.first l.caller l.first (in_first (net.owed l.caller) l.first l.rest l.owed) at le in
        let least : l.first.cites ≤ f.cites = l.least birth.caller f fs near is in
        let sorted : f.cites ≤ birth.duty.cites = first_cites (net.owed birth.caller) f fs birth.duty is (s.sorted birth.caller) birth.there in
        later.1 (omega (arith, later.0, least, sorted))

    by_queue : (ds : List Duty) → net.owed birth.caller ≡ ds → IsBirth g l.first.event
    by_queue [] is = absurd (subst (In birth.duty) is birth.there)
    by_queue (f ∷ fs) is = by_known (cases_lt birth.caller (caller_count w)) f fs is

never_late : (w : World) (net : Net) (l : IsLeast net (caller_count w)) → Steady w net → (a : ActorName) → l.first.actor ≡ a → IsLate a (net.actors a) l.first.event → ⊥
never_late w net l s (name.Conv h p n) at late = by_birth (bears l.first.event) refl late
  where
    there : In l.first (net.owed l.caller)
    there = in_first (net.owed l.caller) l.first l.rest l.owed

    given : named l.first.event ≤ given_last net h p n
    given = s.below l.caller l.first h p n there at

    next : reached net h p n < named l.first.event → IsBirth (suc (reached net h p n)) l.first.event
    next lt = least_birth w net l h p n (suc (reached net h p n)) s at (s.births h p n (suc (reached net h p n)) (omega arith) (omega (arith, lt, given))) lt

    by_birth : (b : Bool) → bears l.first.event ≡ b → Lacks (reached net h p n) b (named l.first.event) → ⊥
    by_birth true is (inl same) = absurd (omega (arith, same, s.unborn l.caller l.first h p n there at is))
    by_birth true is (inr more) = absurd (omega (arith, more, (next (omega (arith, more))).1))
    by_birth false is less = absurd (true≢false (sym (next less).0 ∙ is))
never_late w net l s (name.Dir h p) at late = late
never_late w net l s (name.Medium m) at late = late
never_late w net l s (name.Desk h) at late = late
never_late w net l s name.Clock at late = late

pub some_ready : (w : World) (net : Net) (c : ℕ) (d : Duty) (ds : List Duty) → Steady w net → net.owed c ≡ d ∷ ds → IsReadyDuty w net
some_ready w net c d ds s is = by (least_of net (caller_count w))
  where
    found : (l : IsLeast net (caller_count w)) → IsSome (actor_step w l.first.actor (net.actors l.first.actor) net.moment (record { event = l.first.event; with = l.first.with })) ⊎ IsLate l.first.actor (net.actors l.first.actor) l.first.event → IsReadyDuty w net
    found l (inl some) = record { caller = l.caller; duty = l.first; rest = l.rest; below = l.below; owed = l.owed; ready = some }
    found l (inr late) = absurd (never_late w net l s l.first.actor refl late)

    by : NobodyOwes net (caller_count w) ⊎ IsLeast net (caller_count w) → IsReadyDuty w net
    by (inl all) = elim (cases_lt c (caller_count w)) [
      | inl near ↦ absurd (not_both (net.owed c) d ds (all c near) is)
      | inr far ↦ absurd (not_both (net.owed c) d ds (s.known c far) is)
    ]
    by (inr l) =
        let kind : OfKind w l.first = each_in (OfKind w) (net.owed l.caller) l.first (s.kinds l.caller) (in_first (net.owed l.caller) l.first l.rest l.owed) in
        found l (actor_ready w l.first.actor (net.actors l.first.actor) net.moment l.first.event l.first.with (s.actors l.first.actor) kind)
