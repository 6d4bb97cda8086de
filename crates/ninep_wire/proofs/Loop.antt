-- Reading and writing values one after the other, as a loop does.
use Rattle.std.proofs.Common.{◌≡◌, ℕ, suc, ◌-◌, ◌+◌, ◌≤◌, ◌<◌, List, [], ◌∷◌, ◌++◌, length, get_or, take, Option, Some, None, All}
use Rattle.std.proofs.Common.{refl, sym, ap, subst, ◌∙◌, append_assoc, arith}
use Rattle.std.specs.List.{flat_map}
use Rattle.std.proofs.lemmas.List.{append-nil, flat_map_more, take_more}
use Rattle.std.proofs.lemmas.List.Elements.{All-more}
use Rattle.ninep_wire.specs.declared.fault.NinepError.{NinepError}
use Rattle.ninep_wire.specs.declared.fault.NinepError.TheVariants as error
use Rattle.ninep_wire.specs.Reading.{Fails}
use Rattle.net_base.specs.NinepReading.{◌>>=◌, Reader, list_at}

-- what was read before, and what is still read
abbrev pub with_front : {A : Type 0} → List A → Option (List A × List ℕ) → Option (List A × List ℕ)
with_front front read = read >>= (λ x. Some (front ++ x.0, x.1))

regroup : {A : Type 0} (front : List A) (n : A) (read : Option (List A × List ℕ))
    → with_front front (read >>= (λ x. Some (n ∷ x.0, x.1))) ≡ with_front (front ++ n ∷ []) read
regroup {A} front n (Some x) = ap (λ (ns : List A). Some (ns, x.1)) (simp append_assoc)
regroup front n None = refl

pub goes_on : {A : Type 0} (one : Reader A) (front : List A) (count i : ℕ) (bytes : List ℕ) (n : A) (after : List ℕ) (total : Option (List A × List ℕ))
    → i < count → one bytes ≡ Some (n, after)
    → with_front front (list_at one (count - i) bytes) ≡ total → with_front (front ++ n ∷ []) (list_at one (count - (i + 1)) after) ≡ total
unfolding list_at
goes_on one front count i bytes n after total lt h so_far =
    let k : count - i ≡ suc (count - (i + 1)) = omega arith in
    let next : with_front front (list_at one (count - i) bytes) ≡ with_front (front ++ n ∷ []) (list_at one (count - (i + 1)) after) =
    rw (k, h) (regroup front n (list_at one (count - (i + 1)) after)) in
    sym next ∙ so_far

pub ends : {A : Type 0} (one : Reader A) (e : NinepError) (front : List A) (count i : ℕ) (bytes : List ℕ) (total : Option (List A × List ℕ)) → i < count
    → Fails e (one bytes)
    → with_front front (list_at one (count - i) bytes) ≡ total → Fails e total
unfolding list_at
ends one error.Memory front count i bytes total lt h so_far = tt
ends one error.Field front count i bytes total lt h so_far =
    let k : count - i ≡ suc (count - (i + 1)) = omega arith in
    let next : with_front front (list_at one (count - i) bytes) ≡ None = rw (k, h) refl in
    sym so_far ∙ next
ends one error.Short front count i bytes total lt h so_far = h
ends one error.Size front count i bytes total lt h so_far = h
ends one error.BadType front count i bytes total lt h so_far = h

pub is_done : {A : Type 0} (one : Reader A) (front : List A) (count i : ℕ) (bytes : List ℕ) (total : Option (List A × List ℕ)) → count ≤ i
    → with_front front (list_at one (count - i) bytes) ≡ total → total ≡ Some (front, bytes)
unfolding list_at
is_done {A} one front count i bytes total le so_far =
    let k : count - i ≡ 0 = omega arith in
    let last : with_front front (list_at one (count - i) bytes) ≡ Some (front, bytes) = rw k (ap (λ (ns : List A). Some (ns, bytes)) (append-nil front)) in
    sym so_far ∙ last

-- ---- writing

-- one value more is written, and has a spelling
pub writes_on : {A : Type 0} (spell : A → List ℕ) (Is : A → Type 0) (old count out new : List ℕ) (xs : List A) (i : ℕ) (d x : A) → i < length xs
    → x ≡ get_or xs i d → new ≡ out ++ spell x → Is x → (out ≡ old ++ (count ++ flat_map spell (take i xs))) × All Is (take i xs)
    → (new ≡ old ++ (count ++ flat_map spell (take (i + 1) xs))) × All Is (take (i + 1) xs)
writes_on {A} spell Is old count out new xs i d x lt here written is so_far =
    let before : out ≡ (old ++ count) ++ flat_map spell (take i xs) = so_far.0 ∙ sym (append_assoc old count (flat_map spell (take i xs))) in
    let more : take i xs ++ x ∷ [] ≡ take (i + 1) xs = ap (λ (y : A). take i xs ++ y ∷ []) here ∙ sym (take_more xs i d lt) in
    let after : new ≡ (old ++ count) ++ flat_map spell (take (i + 1) xs) =
    written
    ∙ ap (λ (o : List ℕ). o ++ spell x) before
    ∙ flat_map_more spell (old ++ count) (take i xs) x
    ∙ ap (λ (ys : List A). (old ++ count) ++ flat_map spell ys) more in
    (after ∙ append_assoc old count (flat_map spell (take (i + 1) xs)), All-more Is xs i d lt so_far.1 (subst Is here is))
