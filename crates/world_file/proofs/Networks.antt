-- The networks of a host with one more interface or route.
use Rattle.std.proofs.Common.{◌≡◌, ℕ, ◌==◌, Bool, true, false, ◌&&◌, ◌||◌, List, [], ◌∷◌, ◌++◌, refl, sym, ap, subst, ◌∙◌, arith}
use Rattle.std.specs.Prelude.{bit_and, if◌then◌else◌}
use Rattle.std.specs.List.{list_any}
use Rattle.std.proofs.lemmas.Bool.{eqb-true, false≢true}
use Rattle.std.proofs.lemmas.Bool.Decides.{nat_tests}
use Rattle.std.proofs.lemmas.List.Folds.{list_any-append}
use Rattle.indexmap.specs.IndexSet.{insert_key}
use Rattle.net_base.specs.declared.world.HostSpec.{HostSpec}
use Rattle.net_base.specs.declared.world.Iface.{Iface}
use Rattle.net_base.specs.declared.world.RouteLine.{RouteLine}
use Rattle.world_text.specs.WorldLines.{is_network, knows_network, leads_to, with_iface, with_route}
use Rattle.world_file.specs.Indexed.{AreNetworks, is_key}

or_swap : (a b c : Bool) → ((a || b) || c) ≡ ((a || c) || b)
or_swap true b c = refl
or_swap false true true = refl
or_swap false true false = refl
or_swap false false true = refl
or_swap false false false = refl

or_end : (a b : Bool) → (a || (b || false)) ≡ (a || b)
or_end true b = refl
or_end false true = refl
or_end false false = refl

or_assoc : (a b c : Bool) → (a || (b || c)) ≡ ((a || b) || c)
or_assoc true b c = refl
or_assoc false b c = refl

pushed : (net mask : ℕ) (keys : List (ℕ × ℕ)) (key : ℕ × ℕ) → list_any (is_key net mask) (keys ++ key ∷ []) ≡ (list_any (is_key net mask) keys || is_key net mask key)
pushed net mask keys key = list_any-append (is_key net mask) keys (key ∷ []) ∙ or_end (list_any (is_key net mask) keys) (is_key net mask key)

pub with_iface_too : (keys : List (ℕ × ℕ)) (h : HostSpec) (i : Iface) → AreNetworks keys h → AreNetworks (keys ++ (bit_and i.ip i.mask, i.mask) ∷ []) (with_iface i h)
with_iface_too keys h i are net mask =
    pushed net mask keys (bit_and i.ip i.mask, i.mask)
    ∙ (ap (λ b. b || is_network net mask i) (are net mask)
    ∙ (or_swap (list_any (is_network net mask) h.ifaces) (list_any (leads_to net mask) h.routes) (is_network net mask i)
    ∙ ap (λ b. b || list_any (leads_to net mask) h.routes)
    (sym (list_any-append (is_network net mask) h.ifaces (i ∷ []) ∙ or_end (list_any (is_network net mask) h.ifaces) (is_network net mask i)))))

pub with_route_too : (keys : List (ℕ × ℕ)) (h : HostSpec) (l : RouteLine) → AreNetworks keys h → AreNetworks (keys ++ (l.net, l.mask) ∷ []) (with_route l h)
with_route_too keys h l are net mask =
    pushed net mask keys (l.net, l.mask)
    ∙ (ap (λ b. b || leads_to net mask l) (are net mask)
    ∙ (sym (or_assoc (list_any (is_network net mask) h.ifaces) (list_any (leads_to net mask) h.routes) (leads_to net mask l))
    ∙ ap (λ b. list_any (is_network net mask) h.ifaces || b)
    (sym (list_any-append (leads_to net mask) h.routes (l ∷ []) ∙ or_end (list_any (leads_to net mask) h.routes) (leads_to net mask l)))))

-- The set of networks.

swap : (m n : ℕ) → (m == n) ≡ (n == m)
swap m n = by (m == n) refl (n == m) refl
  where
    alike : (a b : ℕ) → a ≡ b → (a == b) ≡ true
    alike a b h = grind (arith, nat_tests)

    by : (v : Bool) → (m == n) ≡ v → (w : Bool) → (n == m) ≡ w → v ≡ w
    by true e true f = refl
    by false e false f = refl
    by true e false f = absurd (false≢true (sym f ∙ alike n m (sym (eqb-true m n e))))
    by false e true f = absurd (false≢true (sym e ∙ alike m n (sym (eqb-true n m f))))

-- the set's own test of two networks
abbrev pub same_pair : ℕ × ℕ → ℕ × ℕ → Bool
same_pair a b = (a.0 == b.0) && (a.1 == b.1)

pub same_key : (a other : ℕ × ℕ) → same_pair a other ≡ is_key a.0 a.1 other
same_key a other = ap (λ b. b && (a.1 == other.1)) (swap a.0 other.0) ∙ ap (λ b. (other.0 == a.0) && b) (swap a.1 other.1)

-- a network that isn't there goes last
pub put_last : (eq : ℕ × ℕ → ℕ × ℕ → Bool) (keys now : List (ℕ × ℕ)) (key : ℕ × ℕ) → ((other : ℕ × ℕ) → eq key other ≡ is_key key.0 key.1 other) → now ≡ insert_key eq keys key
    → list_any (is_key key.0 key.1) keys ≡ false → now ≡ keys ++ key ∷ []
put_last eq keys now key same is none = is ∙ ap (λ b. if b then keys else keys ++ key ∷ []) (alike keys ∙ none)
  where
    alike : (xs : List (ℕ × ℕ)) → list_any (eq key) xs ≡ list_any (is_key key.0 key.1) xs
    alike [] = refl
    alike (x ∷ xs) = ap (λ b. b || list_any (eq key) xs) (same x) ∙ ap (λ b. is_key key.0 key.1 x || b) (alike xs)

pub iface_put : (eq : ℕ × ℕ → ℕ × ℕ → Bool) (keys now : List (ℕ × ℕ)) (h : HostSpec) (i : Iface) (ifaces : List Iface)
    → ((a other : ℕ × ℕ) → eq a other ≡ is_key a.0 a.1 other) → AreNetworks keys h → knows_network (bit_and i.ip i.mask) i.mask h ≡ false
    → now ≡ insert_key eq keys (bit_and i.ip i.mask, i.mask) → ifaces ≡ h.ifaces ++ i ∷ [] → AreNetworks now (record h { ifaces = ifaces })
iface_put eq keys now h i ifaces same are none is list =
    let put = put_last eq keys now (bit_and i.ip i.mask, i.mask) (same (bit_and i.ip i.mask, i.mask)) is (are (bit_and i.ip i.mask) i.mask ∙ none) in
    subst (λ (xs : List (ℕ × ℕ)). AreNetworks xs (record h { ifaces = ifaces })) (sym put)
    (subst (λ (xs : List Iface). AreNetworks (keys ++ (bit_and i.ip i.mask, i.mask) ∷ []) (record h { ifaces = xs })) (sym list) (with_iface_too keys h i are))

pub route_put : (eq : ℕ × ℕ → ℕ × ℕ → Bool) (keys now : List (ℕ × ℕ)) (h : HostSpec) (l : RouteLine) (routes : List RouteLine)
    → ((a other : ℕ × ℕ) → eq a other ≡ is_key a.0 a.1 other) → AreNetworks keys h → knows_network l.net l.mask h ≡ false
    → now ≡ insert_key eq keys (l.net, l.mask) → routes ≡ h.routes ++ l ∷ [] → AreNetworks now (record h { routes = routes })
route_put eq keys now h l routes same are none is list =
    let put = put_last eq keys now (l.net, l.mask) (same (l.net, l.mask)) is (are l.net l.mask ∙ none) in
    subst (λ (xs : List (ℕ × ℕ)). AreNetworks xs (record h { routes = routes })) (sym put)
    (subst (λ (xs : List RouteLine). AreNetworks (keys ++ (l.net, l.mask) ∷ []) (record h { routes = xs })) (sym list) (with_route_too keys h l are))
