-- The sides of all pairs, as they change.
use Rattle.std.proofs.Common.{◌≡◌, Bool, true, false, refl, sym, ap, subst}
use Rattle.net_base.specs.declared.address.Pair.{Pair}
use Rattle.prefix_law.proofs.Pairs.{Side}
use Rattle.net_base.specs.Same.{same_pair}
use Rattle.net_base.specs.Mirror.{mirror}
use Rattle.prefix_law.proofs.Trace.{put_at}
use Rattle.prefix_law.proofs.Deeds.{both_ways, Holds, Stepped, other_holds}
use Rattle.net_base.proofs.Shared.{same_pair_is, same_pair_itself}

-- Tests of pairs.

pub same_pair_from : (p q : Pair) → p ≡ q → same_pair p q ≡ true
same_pair_from p q is = subst (λ (r : Pair). same_pair p r ≡ true) is (same_pair_itself p)

pub put_here : {A : Type 0} (f : Pair → A) (p : Pair) (new : A) → put_at f p new p ≡ new
put_here f p new = rw (same_pair_itself p) refl

pub put_there : {A : Type 0} (f : Pair → A) (p : Pair) (new : A) (q : Pair) → same_pair p q ≡ false → put_at f p new q ≡ f q
put_there f p new q not = rw not refl

pub put_same : {A : Type 0} (f : Pair → A) (p : Pair) (new : A) (q : Pair) → same_pair p q ≡ true → put_at f p new q ≡ new
put_same f p new q is = rw is refl

-- All sides talk.

-- one of them takes a step
pub talk_put : (side : Pair → Side) (p : Pair) (new : Side) → same_pair p (mirror p) ≡ false → ((q : Pair) → Holds (side q) (side (mirror q))) → Stepped (side p) (side (mirror p)) new
    → (q : Pair) → Holds (put_at side p new q) (put_at side p new (mirror q))
talk_put side p new apart talk step q = go (same_pair p q) (same_pair p (mirror q)) refl refl
  where
    go : (b c : Bool) → same_pair p q ≡ b → same_pair p (mirror q) ≡ c → Holds (put_at side p new q) (put_at side p new (mirror q))
    go true true is is' = absurd (both_ways (subst (λ (r : Pair). same_pair p (mirror r) ≡ true) (sym (same_pair_is p q is)) is') apart)
    go true false is is' =
        rw (is, is') (subst (λ (r : Pair). Holds new (side (mirror r))) (same_pair_is p q is) step.holds)
    go false true is is' =
        let mirrored : mirror p ≡ q = ap mirror (same_pair_is p (mirror q) is') in
        rw (is, is') (subst (λ (r : Pair). Holds (side r) new) mirrored (other_holds (side p) (side (mirror p)) new (talk (mirror p)) step.grows))
    go false false is is' = rw (is, is') (talk q)
