-- What a pass still holds after an act, for the tests.
use Rattle.std.proofs.Common.{◌≡◌, ℕ, zero, suc, ◌+◌, ◌<◌, ◌≤◌, Bool, true, false, List, [], ◌∷◌, ◌++◌, length, if◌then◌else◌, ap, sym, subst, arith, length-append}
use Rattle.std.specs.Prelude.{Option}
use Rattle.net_base.specs.declared.actor.ActorName.{ActorName}
use Rattle.net_base.specs.declared.actor.ActorName.TheVariants as name
use Rattle.net_base.specs.declared.history.Work.{Work}
use Rattle.net_base.specs.declared.noted.Noted.{Noted}
use Rattle.net_base.specs.declared.noted.Number.TheVariants as number
use Rattle.net_base.specs.ActorStep.{Step}
use Rattle.net_base.specs.Stamped.{same_actor, matches, moment_noted, In}
use Rattle.journal.specs.declared.law.Roster.{Roster}
use Rattle.journal.specs.declared.tokens.Sight.{Sight}
use Rattle.journal.specs.Rule.{Held, gain}
use Rattle.journal.specs.declared.tokens.Volume.{Volume}
use Rattle.journal.specs.Tokens.{HoldsPass, AreBlank}
use Rattle.journal.proofs.Shared.{in-gain, in_has_caller}
use Rattle.locked.specs.declared.guarded.Answer.{Answer}
use Rattle.locked.specs.declared.guarded.Answer.TheVariants as answered
use Rattle.locked.specs.Acts.{made, Acted}

gained_one : (n : ℕ) (x : Noted) (b : Bool) (es : List (ℕ × Noted)) → length (if b then es ++ (n, x) ∷ [] else es) ≤ length es + 1
gained_one n x true es = omega (arith, length-append es ((n, x) ∷ []))
gained_one n x false es = omega arith

module _ {S : Type 0} (begin : ActorName → S) (answer : S → ℕ → Work → Option (Step S)) where
  -- a caller's list gains at most one entry
  pub still_holds : (r : Roster) (a : ActorName) (c now : ℕ) (work : Work) (cites : Option ℕ) (p : Sight) (es : List (ℕ × Noted)) (m : ℕ) (o : Answer) (p' : Sight)
      → HoldsPass p c es → length es ≤ m → Acted begin answer r a c now work cites p o p' → (fs : List (ℕ × Noted)) × HoldsPass p' c fs × (length fs ≤ m + 1)
  still_holds r a c now work cites p es m (answered.Done stamp o) p' h le d =
      let x = made a c now work cites o in
      let one = gained_one stamp x (matches (number.Caller c) x) es in (
        (gain stamp x (number.Caller c, es)).1,
        subst (λ (hs : List Held). In (gain stamp x (number.Caller c, es)) hs) (sym d.held) (in-gain stamp x p.held (number.Caller c) es h),
        omega arith,
      )
  still_holds r a c now work cites p es m (answered.NotReady front) p' h le d = (es, subst (λ (hs : List Held). In (number.Caller c, es) hs) (sym d.look.held) h, omega arith)
  still_holds r a c now work cites p es m answered.Memory p' h le d = (es, subst (λ (z : Sight). HoldsPass z c es) (sym d) h, omega arith)

  -- only the clock changes the moment
  pub same_moment : (r : Roster) (a : ActorName) (c now : ℕ) (work : Work) (cites : Option ℕ) (p : Sight) (es : List (ℕ × Noted)) (o : Answer) (p' : Sight)
      → same_actor a name.Clock ≡ false → HoldsPass p c es → Acted begin answer r a c now work cites p o p' → moment_noted p'.seen ≡ moment_noted p.seen
  same_moment r a c now work cites p es (answered.Done stamp o) p' other h d = d.moment_kept other
  same_moment r a c now work cites p es (answered.NotReady front) p' other h d = d.look.moment_is (in_has_caller p.held c es h)
  same_moment r a c now work cites p es answered.Memory p' other h d = ap (λ (z : Sight). moment_noted z.seen) d

pub below_one : (P : ℕ → Type 0) → P 0 → (k : ℕ) → k < 1 → P k
below_one P a zero lt = a
below_one P a (suc k) lt = absurd (omega arith)

pub below_two : (P : ℕ → Type 0) → P 0 → P 1 → (k : ℕ) → k < 2 → P k
below_two P a b zero lt = a
below_two P a b (suc zero) lt = b
below_two P a b (suc (suc k)) lt = absurd (omega arith)

-- the only book is the only actor's
pub only_blank : (n : ℕ) (a : ActorName) (rest : List Volume) (b : Volume) → AreBlank n (a ∷ []) (rest ++ b ∷ []) → b.actor ≡ a
only_blank n a [] b h = h.0.actor
only_blank n a (x ∷ []) b h = absurd h.1
only_blank n a (x ∷ y ∷ rest) b h = absurd h.1

-- the first of two books is the first actor's
pub first_blank : (n : ℕ) (a c : ActorName) (rest : List Volume) (b d : Volume) → AreBlank n (a ∷ c ∷ []) ((rest ++ b ∷ []) ++ d ∷ []) → b.actor ≡ a
first_blank n a c [] b d h = h.0.actor
first_blank n a c (x ∷ []) b d h = absurd h.1.1
first_blank n a c (x ∷ y ∷ []) b d h = absurd h.1.1
first_blank n a c (x ∷ y ∷ z ∷ rest) b d h = absurd h.1.1
