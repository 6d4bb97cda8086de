-- A list that is taken from the front.
use Rattle.std.proofs.Common.{◌≡◌, ℕ, suc, ◌+◌, List, [], ◌∷◌, ◌++◌, length, refl, sym, ap, ◌∙◌, arith, append_assoc, append-nil}

-- these elements are taken, those are left, so many
abbrev pub Moves : {X : Type 0} → List X → List X → List X → ℕ → Type 0
Moves all done left count = (done ++ left ≡ all) × (count ≡ length left)

module _ {X : Type 0} where
  counts : (x : X) (rest left : List X) → left ≡ x ∷ rest → length left ≡ length rest + 1
  counts x rest left is = ap length is ∙ more (length rest)
    where
      more : (n : ℕ) → suc n ≡ n + 1
      more n = omega arith

  nothing_left : (left : List X) → length left ≡ 0 → left ≡ []
  nothing_left [] none = refl
  nothing_left (x ∷ left) none = absurd (omega (arith, none))

  pub moves_more : (all done left rest : List X) (count fewer : ℕ) (x : X) → left ≡ x ∷ rest → fewer + 1 ≡ count → Moves all done left count → Moves all (done ++ x ∷ []) rest fewer
  moves_more all done left rest count fewer x is gone moves =
      let short : length left ≡ length rest + 1 = counts x rest left is in (
        append_assoc done (x ∷ []) rest ∙ ap (λ (xs : List X). done ++ xs) (sym is) ∙ moves.0,
        omega (arith, short, moves.1, gone),
      )

  pub moves_all : (all done left : List X) (count : ℕ) → count ≡ 0 → Moves all done left count → done ≡ all
  moves_all all done left count none moves =
      sym (append-nil done)
      ∙ ap (λ (xs : List X). done ++ xs) (sym (nothing_left left (sym moves.1 ∙ none)))
      ∙ moves.0
