-- The longest match, route by route.
use Rattle.std.proofs.Common.{◌≡◌, ℕ, ◌+◌, ◌<◌, Bool, true, false, List, ◌∷◌, Option, Some, None, nat_lt, get_or, drop, refl, ap, sym, ◌∙◌, arith, if◌then◌else◌, length}
use Rattle.std.proofs.lemmas.List.{drop_more}
use Rattle.std.proofs.lemmas.Bool.Decides.{nat_tests}
use Rattle.net_base.specs.Routes.{Route, longer, longest_match, route_contains}
use Rattle.ip_route.specs.Adding.{better}

longer_yes : (r s : Route) → nat_lt r.mask s.mask ≡ true → longer r (Some s) ≡ s
longer_yes r s e = rw e refl

longer_no : (r s : Route) → nat_lt r.mask s.mask ≡ false → longer r (Some s) ≡ r
longer_no r s e = rw e refl

-- of three routes, from the left or from the right
three : (r s t : Route) (a b c : Bool) → nat_lt r.mask s.mask ≡ a → nat_lt s.mask t.mask ≡ b → nat_lt r.mask t.mask ≡ c
    → longer r (Some (longer s (Some t))) ≡ longer (longer r (Some s)) (Some t)
three r s t true true true e f g =
    ap (λ x. longer r (Some x)) (longer_yes s t f) ∙ longer_yes r t g ∙ sym (ap (λ x. longer x (Some t)) (longer_yes r s e) ∙ longer_yes s t f)
three r s t true true false e f g = absurd (grind (arith, nat_tests, e, f, g))
three r s t true false c e f g =
    ap (λ x. longer r (Some x)) (longer_no s t f) ∙ longer_yes r s e ∙ sym (ap (λ x. longer x (Some t)) (longer_yes r s e) ∙ longer_no s t f)
three r s t false true c e f g =
    ap (λ x. longer r (Some x)) (longer_yes s t f) ∙ sym (ap (λ x. longer x (Some t)) (longer_no r s e))
three r s t false false true e f g = absurd (grind (arith, nat_tests, e, f, g))
three r s t false false false e f g =
    ap (λ x. longer r (Some x)) (longer_no s t f) ∙ longer_no r s e ∙ sym (ap (λ x. longer x (Some t)) (longer_no r s e) ∙ longer_no r t g)

pub assoc : (x y z : Option Route) → better (better x y) z ≡ better x (better y z)
assoc None y z = refl
assoc (Some r) None z = refl
assoc (Some r) (Some s) None = refl
assoc (Some r) (Some s) (Some t) = sym (ap Some (three r s t _ _ _ refl refl refl))

-- the match among the rest, with one more route in front
front : (ip : ℕ) (r : Route) (rs : List Route) (m : Bool) → route_contains ip r ≡ m → longest_match ip (r ∷ rs) ≡ better (if m then Some r else None) (longest_match ip rs)
front ip r rs true e = rw e refl
front ip r rs false e = rw e refl

pub next_matches : (ip i : ℕ) (best : Option Route) (r : Route) (rs : List Route) → i < length rs → r ≡ get_or rs i r → route_contains ip r ≡ true
    → better (better best (Some r)) (longest_match ip (drop (i + 1) rs)) ≡ better best (longest_match ip (drop i rs))
next_matches ip i best r rs within is e =
    assoc best (Some r) (longest_match ip (drop (i + 1) rs))
    ∙ ap (better best) (sym (front ip r (drop (i + 1) rs) true e) ∙ ap (longest_match ip) (at_front within is))
  where
    at_front : i < length rs → r ≡ get_or rs i r → r ∷ drop (i + 1) rs ≡ drop i rs
    at_front within is = ap (λ (x : Route). x ∷ drop (i + 1) rs) is ∙ sym (drop_more rs i r within)

pub next_not : (ip i : ℕ) (best : Option Route) (r : Route) (rs : List Route) → i < length rs → r ≡ get_or rs i r → route_contains ip r ≡ false
    → better best (longest_match ip (drop (i + 1) rs)) ≡ better best (longest_match ip (drop i rs))
next_not ip i best r rs within is e =
    ap (better best) (sym (front ip r (drop (i + 1) rs) false e) ∙ ap (longest_match ip) (at_front within is))
  where
    at_front : i < length rs → r ≡ get_or rs i r → r ∷ drop (i + 1) rs ≡ drop i rs
    at_front within is = ap (λ (x : Route). x ∷ drop (i + 1) rs) is ∙ sym (drop_more rs i r within)
