-- At one directory a pair is granted or born at most once.
use Rattle.std.proofs.Common.{◌≡◌, ℕ, zero, suc, ◌<◌, Bool, true, false, List, [], ◌∷◌, ◌++◌, Option, Some, None, slice_get, inl, inr, refl, sym, ap, subst, ◌∙◌, append_assoc, append-nil, arith}
use Rattle.std.specs.Prelude.{option_to_list, IsSome}
use Rattle.std.specs.Option.{option_map}
use Rattle.std.proofs.lemmas.Bool.{false≢true, cases_lt}
use Rattle.std.proofs.lemmas.Option.{none-some, same_Some}
use Rattle.net_base.specs.declared.actor.ActorName.{ActorName}
use Rattle.net_base.specs.declared.actor.ActorName.TheVariants as name
use Rattle.net_base.specs.declared.address.Addr.{Addr}
use Rattle.net_base.specs.declared.packet.Packet.{Packet}
use Rattle.net_base.specs.declared.address.Pair.{Pair}
use Rattle.net_base.specs.declared.address.Proto.{Proto}
use Rattle.net_base.specs.declared.address.Proto.TheVariants as proto
use Rattle.net_base.specs.declared.event.Event.{Event}
use Rattle.net_base.specs.declared.event.Event.TheVariants as event
use Rattle.net_base.specs.declared.history.Entry.{Entry}
use Rattle.net_base.specs.declared.history.Outcome.{Outcome}
use Rattle.net_base.specs.declared.history.With.{With}
use Rattle.net_base.specs.declared.history.With.TheVariants as given
use Rattle.net_base.specs.declared.history.Work.{Work}
use Rattle.net_base.specs.declared.reply.Reply.{Reply}
use Rattle.net_base.specs.declared.reply.Reply.TheVariants as reply
use Rattle.net_base.specs.declared.world.World.{World}
use Rattle.net_base.specs.ActorStep.{Step, when}
use Rattle.net_base.specs.Actors.{Actor, IsDesk, IsDir, IsConv, IsMedium, IsPlain, actor_step, step_as, has_actor}
use Rattle.net_base.specs.Directory.{Dir, dir_step}
use Rattle.net_base.specs.Legal.{IsLegalBy, MayFollowBy, Shows, Shown}
use Rattle.net_base.specs.Net.{Net, after, next_net, net_of, net_after, step_of, work_of, opening_net}
use Rattle.net_base.specs.Stamped.{In, same_actor}
use Rattle.net_base.specs.Tasks.{Tasks}
use Rattle.net_base.specs.Written.{Given, gives, given_in, given_from}
use Rattle.history_laws.proofs.DirPairs.{Moves, MovesIf, dir_moves}
use Rattle.history_laws.proofs.Histories.{after_push, by_entries, next_same, next_other}
use Rattle.net_base.proofs.Shared.{in_parts, in_of_get, same_actor_is, same_itself}

abbrev pub pairs_of : Actor → List Pair
pairs_of (IsDir d) = d.pairs
pairs_of _ = []

-- One step.

abbrev pub DirStep : World → ℕ → Proto → Dir → Work → Step Actor → Step Dir → Type 0
DirStep w h p d work s t = (dir_step w h p work.event work.with d ≡ Some t) × (s.state ≡ IsDir t.state) × (s.outcome ≡ t.outcome)

pub dir_step_of : (w : World) (h : ℕ) (p : Proto) (d : Dir) (now : ℕ) (work : Work) (s : Step Actor) → actor_step w (name.Dir h p) (IsDir d) now work ≡ Some s → (t : Step Dir) × DirStep w h p d work s t
dir_step_of w h p d now work s is = by (has_actor w (name.Dir h p)) (dir_step w h p work.event work.with d) refl is
  where
    by : (b : Bool) (o : Option (Step Dir)) → dir_step w h p work.event work.with d ≡ o → when b (step_as IsDir o) ≡ Some s → (t : Step Dir) × DirStep w h p d work s t
    by false o is_o none = absurd (none-some s none)
    by true None is_o none = absurd (none-some s none)
    by true (Some t) is_o some =
        let same = same_Some _ s some in
        (t, (is_o, ap (λ (r : Step Actor). r.state) (sym same), ap (λ (r : Step Actor). r.outcome) (sym same)))

moves_of : (w : World) (h : ℕ) (p : Proto) (d : Dir) (work : Work) (t : Step Dir) → dir_step w h p work.event work.with d ≡ Some t → Moves d work.with t
moves_of w h p d work t is = subst (MovesIf d work.with) is (dir_moves w h p work.event work.with d)

no_step : (w : World) (a : ActorName) (s : Step Actor) → when (has_actor w a) None ≡ Some s → ⊥
no_step w a s is = by (has_actor w a) is
  where
    by : (b : Bool) → when b None ≡ Some s → ⊥
    by true none = absurd (none-some s none)
    by false none = absurd (none-some s none)

-- no step loses a pair
pub pairs_grow : (w : World) (a : ActorName) (b : Actor) (now : ℕ) (work : Work) (s : Step Actor) (q : Pair) → actor_step w a b now work ≡ Some s → In q (pairs_of b) → In q (pairs_of s.state)
pairs_grow w (name.Dir h p) (IsDir d) now work s q is there =
    let t = dir_step_of w h p d now work s is in
    subst (λ (b : Actor). In q (pairs_of b)) (sym t.1.1) ((moves_of w h p d work t.0 t.1.0).grows q there)
pairs_grow w (name.Desk h) (IsDir d) now work s q is there = absurd (no_step w (name.Desk h) s is)
pairs_grow w (name.Conv h p n) (IsDir d) now work s q is there = absurd (no_step w (name.Conv h p n) s is)
pairs_grow w (name.Medium m) (IsDir d) now work s q is there = absurd (no_step w (name.Medium m) s is)
pairs_grow w name.Clock (IsDir d) now work s q is there = absurd (no_step w name.Clock s is)
pairs_grow w a (IsConv c) now work s q is there = absurd there
pairs_grow w a (IsMedium m) now work s q is there = absurd there
pairs_grow w a (IsDesk d) now work s q is there = absurd there
pairs_grow w a IsPlain now work s q is there = absurd there

-- what an entry gives is new at its directory
abbrev pub NewAt : ActorName → Actor → Actor → Given → Type 0
NewAt a before after g = (a ≡ name.Dir g.to.host g.to.proto) × (In g.pair (pairs_of before) → ⊥) × In g.pair (pairs_of after)

granted_new : (h : ℕ) (p : Proto) (d : Dir) (n m : ℕ) (remote : Addr) (lport : Option ℕ) (with : With) (r : Reply) (t : Step Dir) (f : Given) → Moves d with t → r ≡ t.outcome.reply
    → gives (name.Dir h p) (record { event = event.Grant n m remote lport; with = with }) r ≡ Some f → NewAt (name.Dir h p) (IsDir d) (IsDir t.state) f
granted_new h p d n m remote lport with (reply.Granted pair start limit) t f moves same is =
    let it = same_Some _ f is in
    let new = moves.granted pair start limit (sym same) in
    subst (λ (k : Given). NewAt (name.Dir h p) (IsDir d) (IsDir t.state) k) it (refl, new.0, new.1)
granted_new h p d n m remote lport with _ t f moves same is = absurd (none-some f is)

packet_new : (h : ℕ) (p : Proto) (d : Dir) (packet : Packet) (r : Reply) (t : Step Dir) (f : Given) → Moves d (given.Packet packet) t → r ≡ t.outcome.reply
    → gives (name.Dir h p) (record { event = event.Arrive; with = given.Packet packet }) r ≡ Some f → NewAt (name.Dir h p) (IsDir d) (IsDir t.state) f
packet_new h p d packet (reply.Born n g start limit) t f moves same is =
    let it = same_Some _ f is in
    let new = moves.born packet n g start limit refl (sym same) in
    subst (λ (k : Given). NewAt (name.Dir h p) (IsDir d) (IsDir t.state) k) it (refl, new.0, new.1)
packet_new h p d packet _ t f moves same is = absurd (none-some f is)

born_new : (h : ℕ) (p : Proto) (d : Dir) (with : With) (r : Reply) (t : Step Dir) (f : Given) → Moves d with t → r ≡ t.outcome.reply
    → gives (name.Dir h p) (record { event = event.Arrive; with = with }) r ≡ Some f → NewAt (name.Dir h p) (IsDir d) (IsDir t.state) f
born_new h p d (given.Packet packet) r t f moves same is = packet_new h p d packet r t f moves same is
born_new h p d _ r t f moves same is = absurd (none-some f is)

new_at_dir : (h : ℕ) (p : Proto) (d : Dir) (e : Event) (with : With) (r : Reply) (t : Step Dir) (f : Given) → Moves d with t → r ≡ t.outcome.reply
    → gives (name.Dir h p) (record { event = e; with = with }) r ≡ Some f → NewAt (name.Dir h p) (IsDir d) (IsDir t.state) f
new_at_dir h p d (event.Grant n g remote lport) with r t f moves same is = granted_new h p d n g remote lport with r t f moves same is
new_at_dir h p d event.Arrive with r t f moves same is = born_new h p d with r t f moves same is
new_at_dir h p d _ with r t f moves same is = absurd (none-some f is)

new_of : (w : World) (a : ActorName) (b : Actor) (now : ℕ) (work : Work) (s : Step Actor) (r : Reply) (g : Given) → actor_step w a b now work ≡ Some s → r ≡ s.outcome.reply → gives a work r ≡ Some g → NewAt a b s.state g
new_of w (name.Dir h p) (IsDir d) now work s r g is same gift =
    let t = dir_step_of w h p d now work s is in
    let replied : r ≡ t.0.outcome.reply = same ∙ ap (λ (o : Outcome). o.reply) t.1.2 in
    subst (λ (c : Actor). NewAt (name.Dir h p) (IsDir d) c g) (sym t.1.1) (new_at_dir h p d work.event work.with r t.0 g (moves_of w h p d work t.0 t.1.0) replied gift)
new_of w (name.Dir h p) (IsConv c) now work s r g is same gift = absurd (no_step w (name.Dir h p) s is)
new_of w (name.Dir h p) (IsMedium m) now work s r g is same gift = absurd (no_step w (name.Dir h p) s is)
new_of w (name.Dir h p) (IsDesk d) now work s r g is same gift = absurd (no_step w (name.Dir h p) s is)
new_of w (name.Dir h p) IsPlain now work s r g is same gift = absurd (no_step w (name.Dir h p) s is)
new_of w (name.Desk h) b now work s r g is same gift = absurd (none-some g gift)
new_of w (name.Conv h p n) b now work s r g is same gift = absurd (none-some g gift)
new_of w (name.Medium m) b now work s r g is same gift = absurd (none-some g gift)
new_of w name.Clock b now work s r g is same gift = absurd (none-some g gift)

-- Lists of what was given.

-- no pair was given twice at one directory
abbrev pub Distinct : List Given → Type 0
Distinct [] = Unit {0}
Distinct (f ∷ fs) = ((g : Given) → In g fs → g.to.host ≡ f.to.host → g.to.proto ≡ f.to.proto → g.pair ≡ f.pair → ⊥) × Distinct fs

is_last : {A : Type 0} (x y : A) → In x (y ∷ []) → x ≡ y
is_last x y (inl is) = is
is_last x y (inr there) = absurd there

distinct_push : (gs : List Given) (g : Given) → Distinct gs → ((f : Given) → In f gs → g.to.host ≡ f.to.host → g.to.proto ≡ f.to.proto → g.pair ≡ f.pair → ⊥) → Distinct (gs ++ g ∷ [])
distinct_push [] g distinct new = (λ k there host proto pair. there, tt)
distinct_push (f ∷ fs) g distinct new = (
  λ k there host proto pair. elim (in_parts k fs (g ∷ []) there) [
    | inl front ↦ distinct.0 k front host proto pair
    | inr back ↦
        let it : k ≡ g = is_last k g back in
        new f (inl refl) (ap (λ (q : Given). q.to.host) (sym it) ∙ host) (ap (λ (q : Given). q.to.proto) (sym it) ∙ proto) (ap (λ (q : Given). q.pair) (sym it) ∙ pair)
  ],
  distinct_push fs g distinct.1 (λ k there. new k (inr there)),
)

apart : (gs : List Given) → Distinct gs → (i j : ℕ) (f g : Given) → i < j → slice_get gs i ≡ Some f → slice_get gs j ≡ Some g → g.to.host ≡ f.to.host → g.to.proto ≡ f.to.proto → g.pair ≡ f.pair → ⊥
apart [] distinct i j f g lt is_f is_g host proto pair = absurd (none-some f is_f)
apart (k ∷ gs) distinct i zero f g lt is_f is_g host proto pair = absurd (omega (arith, lt))
apart (k ∷ gs) distinct zero (suc j) f g lt is_f is_g host proto pair =
    let it : k ≡ f = same_Some k f is_f in
    distinct.0 g (in_of_get gs j g is_g) (host ∙ ap (λ (q : Given). q.to.host) (sym it)) (proto ∙ ap (λ (q : Given). q.to.proto) (sym it)) (pair ∙ ap (λ (q : Given). q.pair) (sym it))
apart (k ∷ gs) distinct (suc i) (suc j) f g lt is_f is_g host proto pair = apart gs distinct.1 i j f g (omega (arith, lt)) is_f is_g host proto pair

-- Over a legal history.

-- the directory of a gift
abbrev dir_of : Given → ActorName
dir_of g = name.Dir g.to.host g.to.proto

-- what was given is in the list of its directory, and is distinct
pub record Kept (net : Net) (gs : List Given) : Type 0 where
  pub known : (f : Given) → In f gs → In f.pair (pairs_of (net.actors (dir_of f)))
  pub distinct : Distinct gs

pub given_push : (w : World) (net : Net) (h : List Entry) (x : Entry) → given_from w net (h ++ x ∷ []) ≡ given_from w net h ++ option_to_list (gives x.actor (work_of (net_of w net h) x) x.reply)
given_push w net [] x = append-nil _
given_push w net (y ∷ ys) x = ap (λ (gs : List Given). option_to_list (gives y.actor (work_of net y) y.reply) ++ gs) (given_push w (next_net w net y) ys x) ∙ sym (append_assoc (option_to_list (gives y.actor (work_of net y) y.reply)) _ _)

grown : (w : World) (net : Net) (x : Entry) (s : Step Actor) → step_of w net x ≡ Some s → (a : ActorName) (q : Pair) → In q (pairs_of (net.actors a)) → In q (pairs_of ((net_after w net x (Some s)).actors a))
grown w net x s is a q there = by (same_actor x.actor a) refl
  where
    by : (b : Bool) → same_actor x.actor a ≡ b → In q (pairs_of ((net_after w net x (Some s)).actors a))
    by false other = subst (λ (c : Actor). In q (pairs_of c)) (sym (next_other w net x a (Some s) other)) there
    by true same =
        subst (λ (c : Actor). In q (pairs_of c)) (sym (next_same w net x a (Some s) same))
        (pairs_grow w x.actor (net.actors x.actor) net.moment (work_of net x) s q is (subst (λ (n : ActorName). In q (pairs_of (net.actors n))) (sym (same_actor_is x.actor a same)) there))

with_gift : (w : World) (net : Net) (x : Entry) (gs : List Given) (s : Step Actor) (gift : Option Given) → step_of w net x ≡ Some s → x.reply ≡ s.outcome.reply → gives x.actor (work_of net x) x.reply ≡ gift → Kept net gs
    → Kept (net_after w net x (Some s)) (gs ++ option_to_list gift)
with_gift w net x gs s None is same gift kept =
    subst (Kept (net_after w net x (Some s))) (sym (append-nil gs)) (record { known = λ f there. grown w net x s is (dir_of f) f.pair (kept.known f there); distinct = kept.distinct })
with_gift w net x gs s (Some g) is same gift kept =
    let new = new_of w x.actor (net.actors x.actor) net.moment (work_of net x) s x.reply g is same gift in
    let here : (net_after w net x (Some s)).actors (dir_of g) ≡ s.state =
    next_same w net x (dir_of g) (Some s) (subst (λ (a : ActorName). same_actor a (dir_of g) ≡ true) (sym new.0) (same_itself (dir_of g))) in
    record {
      known = λ f there. elim (in_parts f gs (g ∷ []) there) [
        | inl front ↦ grown w net x s is (dir_of f) f.pair (kept.known f front)
        | inr back ↦ subst (λ (k : Given). In k.pair (pairs_of ((net_after w net x (Some s)).actors (dir_of k)))) (sym (is_last f g back)) (subst (λ (c : Actor). In g.pair (pairs_of c)) (sym here) new.2)
      ];
      distinct = distinct_push gs g kept.distinct (λ f there host proto pair.
          new.1 (subst (λ (q : Pair). In q (pairs_of (net.actors x.actor))) (sym pair)
          (subst (λ (a : ActorName). In f.pair (pairs_of (net.actors a))) (same_dir f g host proto ∙ sym new.0) (kept.known f there))));
    }
  where
    same_dir : (f k : Given) → k.to.host ≡ f.to.host → k.to.proto ≡ f.to.proto → dir_of f ≡ dir_of k
    same_dir f k host proto = ap (λ (n : ℕ). name.Dir n f.to.proto) (sym host) ∙ ap (λ (p : Proto). name.Dir k.to.host p) (sym proto)

kept_step : (w : World) (net : Net) (x : Entry) (gs : List Given) (o : Option (Step Actor)) → step_of w net x ≡ o → Shows (option_map (λ (s : Step Actor). s.outcome) o) x → IsSome (option_map (λ (s : Step Actor). s.outcome) o) → Kept net gs
    → Kept (net_after w net x o) (gs ++ option_to_list (gives x.actor (work_of net x) x.reply))
kept_step w net x gs None is shows ready kept = absurd (false≢true ready)
kept_step w net x gs (Some s) is shows ready kept = with_gift w net x gs s (gives x.actor (work_of net x) x.reply) is (ap (λ (t : Shown). t.reply) shows) refl kept

pub all_kept : {ts : Tasks} (w : World) (h : List Entry) → IsLegalBy ts w h → Kept (after w h) (given_in w h)
all_kept w h legal = by_entries w (λ (p : List Entry). Kept (after w p) (given_in w p)) (record { known = λ f there. absurd there; distinct = tt }) push h legal
  where
    push : {ts : Tasks} (p : List Entry) (x : Entry) → IsLegalBy ts w p → MayFollowBy ts w p x → Kept (after w p) (given_in w p) → Kept (after w (p ++ x ∷ [])) (given_in w (p ++ x ∷ []))
    push p x before may kept =
        subst (Kept (after w (p ++ x ∷ []))) (sym (given_push w (opening_net w) p x))
        (subst (λ (net : Net). Kept net (given_in w p ++ option_to_list (gives x.actor (work_of (after w p) x) x.reply))) (sym (after_push w p x))
        (kept_step w (after w p) x (given_in w p) (step_of w (after w p) x) refl may.answers may.is_ready kept))

-- two gifts of one pair at one directory are one
pub once : {ts : Tasks} (w : World) (h : List Entry) → IsLegalBy ts w h → (i j : ℕ) (f g : Given) → slice_get (given_in w h) i ≡ Some f → slice_get (given_in w h) j ≡ Some g → f.to.host ≡ g.to.host → f.to.proto ≡ g.to.proto → f.pair ≡ g.pair → i ≡ j
once w h legal i j f g is_f is_g host proto pair =
    elim (cases_lt i j) [
      | inl before ↦ absurd (apart (given_in w h) (all_kept w h legal).distinct i j f g before is_f is_g (sym host) (sym proto) (sym pair))
      | inr after_or_same ↦ elim (cases_lt j i) [
        | inl later ↦ absurd (apart (given_in w h) (all_kept w h legal).distinct j i g f later is_g is_f host proto pair)
        | inr not_later ↦ omega (arith, after_or_same, not_later)
      ]
    ]
