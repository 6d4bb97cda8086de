-- What holds of histories: pushing an entry, beginnings, induction, and the fold of one actor.
use Rattle.std.proofs.Common.{◌≡◌, ℕ, zero, suc, ◌<◌, ◌≤◌, Bool, true, false, List, [], ◌∷◌, ◌++◌, length, take, Option, Some, None, slice_get, ◌⊎◌, inl, inr, refl, sym, ap, subst, ◌∙◌, arith}
use Rattle.std.proofs.lemmas.Option.{none-some, same_Some}
use Rattle.std.proofs.lemmas.List.{take_all, take-append-le, take-take, take_at}
use Rattle.net_base.specs.declared.actor.ActorName.{ActorName}
use Rattle.net_base.specs.declared.actor.ActorName.TheVariants as actor
use Rattle.net_base.specs.declared.history.Entry.{Entry}
use Rattle.net_base.specs.declared.world.World.{World}
use Rattle.net_base.specs.ActorStep.{Step}
use Rattle.net_base.specs.Actors.{Actor, opening_actor, actor_step}
use Rattle.net_base.specs.Legal.{MayFollow, MayFollowBy, IsLegal, IsLegalBy, IsInTime, IsTimed, Rule, Answers, AtMoment, Cites, Asked, Ready, InTime, Known, HasRoom, Keeps, IsFault}
use Rattle.net_base.specs.Net.{Net, net_after, next_net, net_of, after, opening_net, state, step_of, work_of, works, works_from, stepped_to, play, played}
use Rattle.net_base.specs.Stamped.{same_actor}
use Rattle.net_base.specs.Tasks.{Tasks}
use Rattle.net_base.proofs.Shared.{same_actor_is}

-- Tests of actors.

-- One entry more.

pub net_of-append : (w : World) (net : Net) (xs ys : List Entry) → net_of w net (xs ++ ys) ≡ net_of w (net_of w net xs) ys
net_of-append w net [] ys = refl
net_of-append w net (x ∷ xs) ys = net_of-append w (next_net w net x) xs ys

pub after_push : (w : World) (h : List Entry) (x : Entry) → after w (h ++ x ∷ []) ≡ next_net w (after w h) x
after_push w h x = net_of-append w (opening_net w) h (x ∷ [])

pub take_before : (h : List Entry) (x : Entry) (k : ℕ) → k ≤ length h → take k (h ++ x ∷ []) ≡ take k h
take_before h x k le = take-append-le k h (x ∷ []) le

pub in_pushed : (h : List Entry) (y : Entry) (k : ℕ) (x : Entry) → slice_get (h ++ y ∷ []) k ≡ Some x → ((k < length h) × (slice_get h k ≡ Some x)) ⊎ ((k ≡ length h) × (y ≡ x))
in_pushed [] y zero x is = inr (refl, same_Some y x is)
in_pushed [] y (suc k) x is = absurd (none-some x is)
in_pushed (z ∷ h) y zero x is = inl (omega arith, is)
in_pushed (z ∷ h) y (suc k) x is = elim (in_pushed h y k x is) [ inl there ↦ inl (omega (arith, there.0), there.1) | inr last ↦ inr (ap suc last.0, last.1) ]

pub at_push : (h : List Entry) (x : Entry) → slice_get (h ++ x ∷ []) (length h) ≡ Some x
at_push [] x = refl
at_push (y ∷ h) x = at_push h x

pub before_push : (h : List Entry) (x y : Entry) (k : ℕ) → slice_get h k ≡ Some y → slice_get (h ++ x ∷ []) k ≡ Some y
before_push [] x y k is = absurd (none-some y is)
before_push (z ∷ h) x y zero is = is
before_push (z ∷ h) x y (suc k) is = before_push h x y k is

-- a legal history with one entry more
pub legal_push : {ts : Tasks} (w : World) (h : List Entry) (x : Entry) → IsLegalBy ts w h → MayFollowBy ts w h x → IsLegalBy ts w (h ++ x ∷ [])
legal_push {ts = ts} w h x legal may k y is =
    elim (in_pushed h x k y is) [
      | inl there ↦ subst (λ (p : List Entry). MayFollowBy ts w p y) (sym (take-append-le k h (x ∷ []) (omega (arith, there.0)))) (legal k y there.1)
      | inr last ↦
          let here : take k (h ++ x ∷ []) ≡ h = rw last.0 (take_at h (x ∷ []) (length h) refl) in
          subst (λ (p : List Entry). MayFollowBy ts w p y) (sym here) (subst (λ (z : Entry). MayFollowBy ts w h z) last.1 may)
    ]

-- a timed one
pub timed_push : (w : World) (h : List Entry) (x : Entry) → IsTimed w h → IsInTime (after w h) w x.event → IsTimed w (h ++ x ∷ [])
timed_push w h x timed in_time k y is =
    elim (in_pushed h x k y is) [
      | inl there ↦ subst (λ (p : List Entry). IsInTime (after w p) w y.event) (sym (take-append-le k h (x ∷ []) (omega (arith, there.0)))) (timed k y there.1)
      | inr last ↦
          let here : take k (h ++ x ∷ []) ≡ h = rw last.0 (take_at h (x ∷ []) (length h) refl) in
          subst (λ (p : List Entry). IsInTime (after w p) w y.event) (sym here) (subst (λ (z : Entry). IsInTime (after w h) w z.event) last.1 in_time)
    ]

-- The states of actors.

-- where the entry is this actor's own
pub next_same : (w : World) (net : Net) (x : Entry) (a : ActorName) (s : Option (Step Actor)) → same_actor x.actor a ≡ true → (net_after w net x s).actors a ≡ stepped_to (net.actors a) s
next_same w net x a None is = refl
next_same w net x a (Some t) is = rw is refl

-- where it is another's
pub next_other : (w : World) (net : Net) (x : Entry) (a : ActorName) (s : Option (Step Actor)) → same_actor x.actor a ≡ false → (net_after w net x s).actors a ≡ net.actors a
next_other w net x a None is = refl
next_other w net x a (Some t) is = rw is refl

agrees : (w : World) (a : ActorName) (net : Net) (h : List Entry) → (net_of w net h).actors a ≡ played w a (net.actors a) (works_from w a net h)
agrees w a net [] = refl
agrees w a net (x ∷ xs) = by_actor (same_actor x.actor a) refl (agrees w a (next_net w net x) xs)
  where
    by_actor : (b : Bool) → same_actor x.actor a ≡ b
        → (net_of w (next_net w net x) xs).actors a ≡ played w a ((next_net w net x).actors a) (works_from w a (next_net w net x) xs)
        → (net_of w net (x ∷ xs)).actors a ≡ played w a (net.actors a) (works_from w a net (x ∷ xs))
    by_actor false is rest = rw is (rest ∙ ap (λ (s : Actor). played w a s (works_from w a (next_net w net x) xs)) (next_other w net x a (step_of w net x) is))
    by_actor true is rest =
        let own : stepped_to (net.actors a) (step_of w net x) ≡ play w a (net.actors a) (record { moment = net.moment; work = work_of net x }) =
        ap (λ (b : ActorName). stepped_to (net.actors a) (actor_step w b (net.actors b) net.moment (work_of net x))) (same_actor_is x.actor a is) in
        rw is (rest ∙ ap (λ (s : Actor). played w a s (works_from w a (next_net w net x) xs)) (next_same w net x a (step_of w net x) is ∙ own))

pub state_is_fold : (w : World) (h : List Entry) (a : ActorName) → state w h a ≡ played w a (opening_actor w.timers a) (works w h a)
state_is_fold w h a = agrees w a (opening_net w) h

pub slice_get_take : (k : ℕ) (h : List Entry) (j : ℕ) (x : Entry) → slice_get (take k h) j ≡ Some x → (j < k) × (slice_get h j ≡ Some x)
slice_get_take zero h j x is = absurd (none-some x is)
slice_get_take (suc k) [] j x is = absurd (none-some x is)
slice_get_take (suc k) (y ∷ h) zero x is = (omega arith, is)
slice_get_take (suc k) (y ∷ h) (suc j) x is = let rest = slice_get_take k h j x is in (omega (arith, rest.0), rest.1)

-- a beginning of a legal history is legal
pub legal_take : {ts : Tasks} (w : World) (h : List Entry) (k : ℕ) → IsLegalBy ts w h → IsLegalBy ts w (take k h)
legal_take {ts = ts} w h k legal j x is =
    let here = slice_get_take k h j x is in
    subst (λ (p : List Entry). MayFollowBy ts w p x) (sym (take-take j k h (omega (arith, here.0)))) (legal j x here.1)

pub one_more : (h : List Entry) (k : ℕ) → k < length h → (x : Entry) × (slice_get h k ≡ Some x) × (take (suc k) h ≡ take k h ++ x ∷ [])
one_more [] k lt = absurd (omega arith)
one_more (y ∷ h) zero lt = (y, refl, refl)
one_more (y ∷ h) (suc k) lt = let rest = one_more h k (omega arith) in (rest.0, rest.1, ap (λ (xs : List Entry). y ∷ xs) rest.2)

-- what holds at the beginning, and is kept by each entry that may follow, holds of each legal history
pub by_entries : {ts : Tasks} (w : World) (P : List Entry → Type 0) → P [] → ((h : List Entry) (x : Entry) → IsLegalBy ts w h → MayFollowBy ts w h x → P h → P (h ++ x ∷ [])) → (h : List Entry) → IsLegalBy ts w h → P h
by_entries w P none more h legal = subst P (take_all (length h) h (omega arith)) (up_to (length h) (omega arith))
  where
    up_to : (k : ℕ) → k ≤ length h → P (take k h)
    up_to zero le = none
    up_to (suc k) le =
        let x = one_more h k (omega arith) in
        subst P (sym x.2) (more (take k h) x.0 (legal_take w h k legal) (legal k x.0 x.1) (up_to k (omega arith)))

-- a beginning of a timed history is timed
pub timed_take : (w : World) (h : List Entry) (k : ℕ) → IsTimed w h → IsTimed w (take k h)
timed_take w h k timed j x is =
    let here = slice_get_take k h j x is in
    subst (λ (p : List Entry). IsInTime (after w p) w x.event) (sym (take-take j k h (omega (arith, here.0)))) (timed j x here.1)

-- a history with a fault isn't both legal and timed
pub fault_is_not_legal : (w : World) (h : List Entry) (stamp : ℕ) (rule : Rule) → IsFault w h stamp rule → IsLegal w h → IsTimed w h → ⊥
fault_is_not_legal w h stamp rule fault legal timed = fault.broken (kept rule (legal stamp fault.entry fault.stands) (timed stamp fault.entry fault.stands))
  where
    kept : (r : Rule) → MayFollow w (take stamp h) fault.entry → IsInTime (after w (take stamp h)) w fault.entry.event → Keeps r w (take stamp h) (after w (take stamp h)) fault.entry
    kept Answers may in_time = may.answers
    kept AtMoment may in_time = may.at_moment
    kept Cites may in_time = may.cites
    kept Asked may in_time = may.is_asked
    kept Ready may in_time = may.is_ready
    kept InTime may in_time = in_time
    kept Known may in_time = may.is_known
    kept HasRoom may in_time = may.has_room
