-- A caller's number goes from one pass to another, and what is known of guests goes with it.
use Rattle.std.proofs.Common.{◌≡◌, ℕ, ◌==◌, inl, inr, Bool, true, false, not, List, [], ◌∷◌, if◌then◌else◌, refl}
use Rattle.std.proofs.Common.{ap, sym, subst, ◌∙◌, arith}
use Rattle.std.proofs.lemmas.Bool.Decides.{nat_tests}
use Rattle.std.proofs.lemmas.List.{append-nil}
use mathlib.Core.List.{IsPrefix}
use Rattle.net_base.specs.declared.noted.Noted.{Noted}
use Rattle.net_base.specs.declared.noted.Number.TheVariants as number
use Rattle.net_base.specs.declared.world.World.{World}
use Rattle.net_base.specs.Duties.{Duty}
use Rattle.net_base.specs.Stamped.{In, at, moment_noted}
use Rattle.journal.specs.declared.law.Roster.{Roster}
use Rattle.journal.specs.declared.tokens.Sight.{Sight}
use Rattle.journal.specs.Rule.{Held, has_caller, is_caller, same_number}
use Rattle.net_locks.specs.Guests.{HandsOver, IsGuest, StaysGuest}
use Rattle.net_guests.proofs.Passes.{with_more}
use Rattle.net_guests.specs.Visits.{IsWith, Visit}
use Rattle.net_base.proofs.Shared.{number_itself, in_front, in_back, in_filter}

-- Lists of what a pass holds.

-- numbers that are not one are told apart
pub apart_test : (a b : ℕ) → (a ≡ b → ⊥) → (a == b) ≡ false
apart_test a b other = by_test (a == b) refl
  where
    by_test : (t : Bool) → (a == b) ≡ t → (a == b) ≡ false
    by_test true is = absurd (other (grind (arith, nat_tests, is)))
    by_test false is = is

-- a pass with a caller's number
pub holds_caller : (c : ℕ) (es : List (ℕ × Noted)) (hs : List Held) → In (number.Caller c, es) hs → has_caller hs ≡ true
holds_caller c es [] none = absurd none
holds_caller c es (x ∷ hs) (inl here) = ap (λ (b : Bool). if b then true else has_caller hs) (ap is_caller (sym here))
holds_caller c es (x ∷ hs) (inr there) = by_head (is_caller x) (holds_caller c es hs there)
  where
    by_head : (b : Bool) → has_caller hs ≡ true → (if b then true else has_caller hs) ≡ true
    by_head true rest = refl
    by_head false rest = rest

pub none_more : (xs : List Noted) → IsPrefix xs xs
none_more xs = ([], append-nil xs)

-- A look.

-- A number goes over.

module _ (w : World) (r : Roster) (c : ℕ) (p q p' q' : Sight) (h : HandsOver r c p q p' q') where
  -- the pass that goes over has the caller's number
  given : (es : List (ℕ × Noted)) → In (number.Caller c, es) p.held → In (number.Caller c, es) h.moved.held
  given es there =
      subst (λ (hs : List Held). In (number.Caller c, es) hs) (sym h.given_held)
      (in_filter (λ (k : Held). same_number k.0 (number.Caller c)) (number.Caller c, es) p.held there (number_itself c))

  -- the guest of the number
  pub goes_over : (v : Visit) → v.caller ≡ c → IsWith w r v p → StaysGuest w r v.caller p v.owed q' → IsWith w r v q'
  goes_over v at_c is stays =
      let mine : In (number.Caller v.caller, is.guest.list) h.moved.held =
      subst (λ (k : ℕ). In (number.Caller k, is.guest.list) h.moved.held) (sym at_c)
      (given is.guest.list (subst (λ (k : ℕ). In (number.Caller k, is.guest.list) p.held) at_c is.guest.held)) in
      let held : In (number.Caller v.caller, is.guest.list) q'.held =
      subst (λ (hs : List Held). In (number.Caller v.caller, is.guest.list) hs) (sym h.met.held)
      (in_back (number.Caller v.caller, is.guest.list) q.held h.moved.held mine) in
      with_more w r v p is q' stays (subst (λ (l : List Noted). IsPrefix l q'.seen) h.given_seen h.met.that) held
      (h.met.lists (number.Caller v.caller) is.guest.list held)

  -- those of the other pass
  pub stays_there : (v : Visit) → IsWith w r v q → StaysGuest w r v.caller q v.owed q' → IsWith w r v q'
  stays_there v is stays =
      let held : In (number.Caller v.caller, is.guest.list) q'.held =
      subst (λ (hs : List Held). In (number.Caller v.caller, is.guest.list) hs) (sym h.met.held)
      (in_front (number.Caller v.caller, is.guest.list) q.held h.moved.held is.guest.held) in
      with_more w r v q is q' stays h.met.this held (h.met.lists (number.Caller v.caller) is.guest.list held)

  -- those that stay
  pub stays_here : (v : Visit) → (v.caller == c) ≡ false → IsWith w r v p → StaysGuest w r v.caller p v.owed p' → IsWith w r v p'
  stays_here v other is stays =
      let held : In (number.Caller v.caller, is.guest.list) p'.held =
      subst (λ (hs : List Held). In (number.Caller v.caller, is.guest.list) hs) (sym h.left_held)
      (in_filter (λ (k : Held). not (same_number k.0 (number.Caller c))) (number.Caller v.caller, is.guest.list) p.held is.guest.held
      (ap not other)) in
      with_more w r v p is p' stays (subst (λ (l : List Noted). IsPrefix p.seen l) (sym h.left_seen) (none_more p.seen)) held
      (ap (at (number.Caller v.caller)) h.left_seen ∙ is.guest.all)

  -- the moment
  pub moment_there : (d : ℕ) (ds : List Duty) → IsGuest w r d q ds → moment_noted q'.seen ≡ moment_noted q.seen
  moment_there d ds guest = h.met.moment_is (holds_caller d guest.list q.held guest.held)

  pub moment_over : (ds : List Duty) → IsGuest w r c p ds → moment_noted q'.seen ≡ moment_noted p.seen
  moment_over ds guest =
      h.met.moment_that (holds_caller c guest.list h.moved.held (given guest.list guest.held)) ∙ ap moment_noted h.given_seen

  pub moment_here : moment_noted p'.seen ≡ moment_noted p.seen
  moment_here = ap moment_noted h.left_seen
