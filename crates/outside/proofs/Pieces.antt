-- Pieces that are taken from a source or given to a sink one after another.
use Rattle.std.proofs.Common.{◌≡◌, ℕ, ◌+◌, ◌-◌, ◌≤◌, Option, Some, None, List, ◌++◌, length, take, drop, ◌<◌, [], min, Err, sym, ◌∙◌, ap, refl, subst, arith}
use Rattle.std.proofs.lemmas.List.{append_assoc, length-append, length-drop, length-take-le, drop_all, take_all}
use Rattle.std.proofs.Math.Seq.{take-add}
use Rattle.std.specs.Io.KnownBytes.{Appends, Consumes}
use Rattle.outside.specs.Streams.{ConsumedToEnd}
use Rattle.outside.specs.declared.fault.TakeError.TheVariants as error

-- the whole rest of a list, spelled as a slice from a place on
pub rest_of : (xs : List ℕ) (at : ℕ) → take (length xs - at) (drop at xs) ≡ drop at xs
rest_of xs at = take_all (length xs - at) (drop at xs) (omega (arith, length-drop at xs))

-- a piece taken after others
pub consumes_more : (old between new : Option (List ℕ)) (first second : List ℕ) → Consumes old between first → Consumes between new second → Consumes old new (first ++ second)
consumes_more None between new first second a b = tt
consumes_more (Some xs) None new first second a b = absurd a
consumes_more (Some xs) (Some left) None first second a b = absurd b
consumes_more (Some xs) (Some left) (Some rest) first second a b = a ∙ ap (λ more. first ++ more) b ∙ sym (append_assoc first second rest)

-- a piece given after others
pub appends_more : (old between new : Option (List ℕ)) (first second : List ℕ) → Appends old between first → Appends between new second → Appends old new (first ++ second)
appends_more None between new first second a b = tt
appends_more (Some xs) None new first second a b = absurd a
appends_more (Some xs) (Some held) None first second a b = absurd b
appends_more (Some xs) (Some held) (Some holds) first second a b = b ∙ ap (λ (front : List ℕ). front ++ second) a ∙ append_assoc xs first second

-- a piece given from the place where the pieces before it ended
pub appends_next : (old between new : Option (List ℕ)) (xs : List ℕ) (done n : ℕ) → Appends old between (take done xs) → Appends between new (take n (take (length xs - done) (drop done xs))) → Appends old new (take (done + n) xs)
appends_next old between new xs done n a b =
    let P : List ℕ → Type 0 = λ piece. Appends old new piece
    in subst P (sym (take-add done n xs ∙ ap (λ rest. take done xs ++ take n rest) (sym (rest_of xs done))))
    (appends_more old between new _ _ a b)

-- a read into some room that gave nothing leaves nothing
pub nothing_left : (xs all : List ℕ) (at n room : ℕ) → all ≡ xs → n ≡ min room (length (take (length all - at) (drop at all))) → 0 < room → n ≡ 0 → drop (at + n) xs ≡ []
nothing_left xs all at n room same most more none =
    drop_all (at + n) xs (grind (arith, same, most, more, none, ap length (rest_of all at), length-drop at all))

-- a piece that passes the limit by one byte
pub one_too_many : (old between new : Option (List ℕ)) (first second : List ℕ) (limit : ℕ) → Consumes old between first → Consumes between new second → length first + length second ≡ limit + 1 → ConsumedToEnd old new limit (Err error.TooLarge)
one_too_many old between new first second limit a b e =
    let all : length (first ++ second) ≡ limit + 1 = length-append first second ∙ e
    in record {
      bytes = first ++ second;
      consumed = consumes_more old between new first second a b;
      within = omega (arith, all);
      too_large = (λ _. all, λ _. refl);
      all = tt;
      end = tt;
    }

-- a piece within the limit for which there is no memory
pub no_memory : (old between new : Option (List ℕ)) (first second : List ℕ) (limit : ℕ) → Consumes old between first → Consumes between new second → length first + length second ≤ limit → ConsumedToEnd old new limit (Err error.Memory)
no_memory old between new first second limit a b fits =
    let all : length (first ++ second) ≤ limit = omega (arith, length-append first second, fits)
    in record {
      bytes = first ++ second;
      consumed = consumes_more old between new first second a b;
      within = omega (arith, all);
      too_large = (λ h. cc, λ h. absurd (omega (arith, all, h)));
      all = tt;
      end = tt;
    }

-- the length of the front of a piece that a read filled
pub length_of_front : (n : ℕ) (piece old : List ℕ) → n ≤ length old → length piece ≡ length old → length (take n piece) ≡ n
length_of_front n piece old within same = length-take-le n piece (omega (arith, within, same))
