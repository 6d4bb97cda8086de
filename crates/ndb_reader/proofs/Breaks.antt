-- Where a word and its attribute end, by the first byte that ends either.
use Rattle.std.proofs.Common.{◌≡◌, ℕ, ◌+◌, ◌≤◌, Bool, true, false, not, cond, ◌||◌, List, [], ◌∷◌, length, take, drop, refl, sym, ap, ◌∙◌, arith}
use Rattle.std.specs.Prelude.{suc}
use Rattle.std.specs.List.{position_or_len}
use Rattle.std.proofs.lemmas.List.Sums.{prefix_len-le-length}
use Rattle.net_base.specs.NdbText.{is_white, is_equals}
use Rattle.ndb_reader.specs.Told.{is_break}

word-break : (bytes : List ℕ) → position_or_len is_white bytes ≡ position_or_len is_break bytes + position_or_len is_white (drop (position_or_len is_break bytes) bytes)
word-break [] = refl
word-break (b ∷ bytes) = by (is_equals b) refl (is_white b) refl (word-break bytes)
  where
    by : (e : Bool) → is_equals b ≡ e → (w : Bool) → is_white b ≡ w
        → position_or_len is_white bytes ≡ position_or_len is_break bytes + position_or_len is_white (drop (position_or_len is_break bytes) bytes)
        → cond (not w) (1 + position_or_len is_white bytes) 0
        ≡ cond (not (e || w)) (1 + position_or_len is_break bytes) 0 + position_or_len is_white (drop (cond (not (e || w)) (1 + position_or_len is_break bytes) 0) (b ∷ bytes))
    by true ee true ew rest = sym (ap (λ (n : ℕ). 0 + n) (ap (λ (t : Bool). cond (not t) (1 + position_or_len is_white bytes) 0) ew))
    by true ee false ew rest =
        let plain : 1 + position_or_len is_white bytes ≡ 0 + (1 + position_or_len is_white bytes) = omega arith in
        plain ∙ ap (λ (t : Bool). 0 + cond (not t) (1 + position_or_len is_white bytes) 0) (sym ew)
    by false ee true ew rest = sym (ap (λ (n : ℕ). 0 + n) (ap (λ (t : Bool). cond (not t) (1 + position_or_len is_white bytes) 0) ew))
    by false ee false ew rest =
        let up : 1 + position_or_len is_break bytes ≡ suc (position_or_len is_break bytes) = omega arith in
        let over : 1 + (position_or_len is_break bytes + position_or_len is_white (drop (position_or_len is_break bytes) bytes)) ≡ 1 + position_or_len is_break bytes + position_or_len is_white (drop (position_or_len is_break bytes) bytes) = omega arith in
        ap (λ (n : ℕ). 1 + n) rest ∙ over
        ∙ ap (λ (k : ℕ). 1 + position_or_len is_break bytes + position_or_len is_white (drop k (b ∷ bytes))) (sym up)

attr-break : (bytes : List ℕ) → position_or_len is_break bytes ≡ position_or_len is_equals (take (position_or_len is_white bytes) bytes)
attr-break [] = refl
attr-break (b ∷ bytes) = by (is_equals b) refl (is_white b) refl (attr-break bytes)
  where
    up : 1 + position_or_len is_white bytes ≡ suc (position_or_len is_white bytes)
    up = omega arith

    by : (e : Bool) → is_equals b ≡ e → (w : Bool) → is_white b ≡ w → position_or_len is_break bytes ≡ position_or_len is_equals (take (position_or_len is_white bytes) bytes)
        → cond (not (e || w)) (1 + position_or_len is_break bytes) 0 ≡ position_or_len is_equals (take (cond (not w) (1 + position_or_len is_white bytes) 0) (b ∷ bytes))
    by true ee true ew rest = refl
    by false ee true ew rest = refl
    by true ee false ew rest =
        sym (ap (λ (k : ℕ). position_or_len is_equals (take k (b ∷ bytes))) up ∙ ap (λ (t : Bool). cond (not t) (1 + position_or_len is_equals (take (position_or_len is_white bytes) bytes)) 0) ee)
    by false ee false ew rest =
        ap (λ (n : ℕ). 1 + n) rest
        ∙ sym (ap (λ (k : ℕ). position_or_len is_equals (take k (b ∷ bytes))) up ∙ ap (λ (t : Bool). cond (not t) (1 + position_or_len is_equals (take (position_or_len is_white bytes) bytes)) 0) ee)

-- where white space stands behind the first such byte, the word ends; and its attribute at that byte
pub word-end : (bytes rest : List ℕ) (attr value : ℕ) → attr ≡ position_or_len is_break bytes → rest ≡ drop attr bytes → value ≡ position_or_len is_white rest → attr + value ≡ position_or_len is_white bytes
word-end bytes rest attr value ea er ev =
    ap (λ (n : ℕ). attr + n) (ev ∙ ap (position_or_len is_white) er)
    ∙ ap (λ (k : ℕ). k + position_or_len is_white (drop k bytes)) ea
    ∙ sym (word-break bytes)

pub attr-end : (bytes : List ℕ) (attr word : ℕ) → attr ≡ position_or_len is_break bytes → word ≡ position_or_len is_white bytes → attr ≡ position_or_len is_equals (take word bytes)
attr-end bytes attr word ea ew = ea ∙ attr-break bytes ∙ ap (λ (k : ℕ). position_or_len is_equals (take k bytes)) (sym ew)

pub word-within : (bytes : List ℕ) (word : ℕ) → word ≡ position_or_len is_white bytes → word ≤ length bytes
word-within bytes word ew = omega (arith, ew, prefix_len-le-length (λ b. not (is_white b)) bytes)
