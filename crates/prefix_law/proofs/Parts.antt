-- Parts of a list of entries with their stamps, in order: what is told of the whole where all that tells something is in the part.
use Rattle.std.proofs.Common.{◌≡◌, ℕ, suc, ◌+◌, Bool, true, false, List, [], ◌∷◌, ◌++◌, Some, ◌⊎◌, inl, inr, refl, sym, ap, subst, ◌∙◌, arith}
use Rattle.std.specs.Prelude.{filter, slice_get, if◌then◌else◌}
use Rattle.std.specs.List.{flat_map}
use Rattle.net_base.specs.declared.history.Entry.{Entry}
use Rattle.net_base.specs.Stamped.{In}
use Rattle.prefix_law.specs.Spans.{entries_numbered}
use Rattle.net_base.proofs.Shared.{no_cons}

-- the elements stand in the list, in its order
abbrev pub Part : {A : Type 0} → List A → List A → Type 0
Part {A} os [] = os ≡ []
Part {A} os (x ∷ xs) = Part os xs ⊎ ((rest : List A) × (os ≡ x ∷ rest) × Part rest xs)

pub no_part : {A : Type 0} (xs : List A) → Part [] xs
no_part [] = refl
no_part (x ∷ xs) = inl (no_part xs)

pub part_itself : {A : Type 0} (xs : List A) → Part xs xs
part_itself [] = refl
part_itself (x ∷ xs) = inr (xs, refl, part_itself xs)

pub part_of_part : {A : Type 0} (os bs cs : List A) → Part os bs → Part bs cs → Part os cs
part_of_part {A} os bs [] p q = subst (λ (ys : List A). Part os ys) q p
part_of_part {A} os bs (c ∷ cs) p (inl q) = inl (part_of_part os bs cs p q)
part_of_part {A} os bs (c ∷ cs) p (inr q) = go (subst (λ (ys : List A). Part os ys) q.1 p) (λ xs later. part_of_part xs q.0 cs later q.2)
  where
    go : Part os (c ∷ q.0) → ((xs : List A) → Part xs q.0 → Part xs cs) → Part os (c ∷ cs)
    go (inl r) within = inl (within os r)
    go (inr r) within = inr (r.0, r.1, within r.0 r.2)

pub parts_joined : {A : Type 0} (os bs cs ds : List A) → Part os bs → Part cs ds → Part (os ++ cs) (bs ++ ds)
parts_joined {A} os [] cs ds p q = subst (λ (ys : List A). Part (ys ++ cs) ds) (sym p) q
parts_joined {A} os (b ∷ bs) cs ds (inl p) q = inl (parts_joined os bs cs ds p q)
parts_joined {A} os (b ∷ bs) cs ds (inr p) q = inr (p.0 ++ cs, ap (λ (ys : List A). ys ++ cs) p.1, parts_joined p.0 bs cs ds p.2 q)

pub part_filtered : {A : Type 0} (test : A → Bool) (xs : List A) → Part (filter test xs) xs
part_filtered test [] = refl
part_filtered {A} test (x ∷ xs) = go (test x) (part_filtered test xs)
  where
    go : (b : Bool) → Part (filter test xs) xs → Part (if b then x ∷ filter test xs else filter test xs) (x ∷ xs)
    go true rest = inr (filter test xs, refl, rest)
    go false rest = inl rest

pub in_part : {A : Type 0} (x : A) (os xs : List A) → Part os xs → In x os → In x xs
in_part {A} x os [] p there = subst (λ (ys : List A). In x ys) p there
in_part {A} x os (y ∷ xs) (inl p) there = inr (in_part x os xs p there)
in_part {A} x os (y ∷ xs) (inr p) there = go (subst (λ (ys : List A). In x ys) p.1 there) (in_part x p.0 xs p.2)
  where
    go : In x (y ∷ p.0) → (In x p.0 → In x xs) → In x (y ∷ xs)
    go (inl here) within = inl here
    go (inr later) within = inr (within later)

-- Stamps.

-- what stands there has its own place as its stamp
pub in_numbered : (n : ℕ) (h : List Entry) (k : ℕ) (x : Entry) → In (k, x) (entries_numbered n h) → (j : ℕ) × (k ≡ n + j) × (slice_get h j ≡ Some x)
in_numbered n [] k x there = absurd there
in_numbered n (y ∷ h) k x (inl same) = (0, ap (λ (z : ℕ × Entry). z.0) same ∙ (omega arith), ap (λ (z : ℕ × Entry). Some z.1) (sym same))
in_numbered n (y ∷ h) k x (inr later) =
    let rest = in_numbered (n + 1) h k x later in
    (suc rest.0, omega (arith, rest.1), rest.2)

abbrev pub Silent : {A : Type 0} → (Entry → List A) → Entry → Type 0
Silent f x = f x ≡ []

-- what the whole tells is what a part tells, where all that isn't silent is in the part
pub told_by_part : {A : Type 0} (f : Entry → List A) (n : ℕ) (h : List Entry) (os : List (ℕ × Entry))
    → Part os (entries_numbered n h)
    → ((k : ℕ) (x : Entry) → In (k, x) (entries_numbered n h) → (Silent f x → ⊥) → In (k, x) os)
    → flat_map (λ (x : ℕ × Entry). f x.1) os ≡ flat_map f h
told_by_part f n [] os p all = ap (flat_map (λ (x : ℕ × Entry). f x.1)) p
told_by_part {A} f n (x ∷ h) os (inl p) all = go (f x) refl (told_by_part f (n + 1) h os p (λ k y there loud. all k y (inr there) loud))
  where
    go : (ts : List A) → f x ≡ ts → flat_map (λ (y : ℕ × Entry). f y.1) os ≡ flat_map f h → flat_map (λ (y : ℕ × Entry). f y.1) os ≡ ts ++ flat_map f h
    go [] is rest = rest
    go (t ∷ ts) is rest =
        let there = in_part (n, x) os (entries_numbered (n + 1) h) p (all n x (inl refl) (λ silent. no_cons t ts (sym is ∙ silent))) in
        let at = in_numbered (n + 1) h n x there in
        absurd (omega (arith, at.1))
told_by_part {A} f n (x ∷ h) os (inr p) all =
    ap (flat_map (λ (y : ℕ × Entry). f y.1)) p.1
    ∙ ap (λ (ts : List A). f x ++ ts) (told_by_part f (n + 1) h p.0 p.2 (λ k y there loud. later k y there (subst (λ (ys : List (ℕ × Entry)). In (k, y) ys) p.1 (all k y (inr there) loud))))
  where
    later : (k : ℕ) (y : Entry) → In (k, y) (entries_numbered (n + 1) h) → In (k, y) ((n, x) ∷ p.0) → In (k, y) p.0
    later k y there (inr rest) = rest
    later k y there (inl same) =
        let at = in_numbered (n + 1) h k y there in
        let first : k ≡ n = ap (λ (z : ℕ × Entry). z.0) same in
        absurd (omega (arith, at.1, first))
