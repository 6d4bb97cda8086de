-- No tuple chooses where no pair has the attribute.
use Rattle.std.proofs.Common.{◌≡◌, ℕ, zero, suc, Bool, false, cond, List, [], ◌∷◌, take, Some, None, refl, sym, ap, ◌∙◌}
use Rattle.std.specs.Prelude.{codes, flat_map}
use Rattle.std.specs.List.{list_any, find}
use Rattle.std.proofs.lemmas.List.Folds.{list_any-append}
use Rattle.std.proofs.lemmas.Bool.{or_parts}
use Rattle.net_base.specs.Ndb.{NdbPair}
use Rattle.net_base.specs.Search.{has_attr}
use Rattle.net_base.specs.Store.{all_pairs}
use Rattle.net_base.specs.NdbBundle.{choosing}
use Rattle.net_base.proofs.Shared.{neither}

flat-none : (p : NdbPair → Bool) (tuple : List (List NdbPair)) → list_any p (flat_map (λ line. line) tuple) ≡ false → list_any (list_any p) tuple ≡ false
flat-none p [] none = refl
flat-none p (line ∷ tuple) none =
    let parts = or_parts (list_any p line) (list_any p (flat_map (λ l. l) tuple)) (sym (list_any-append p line (flat_map (λ l. l) tuple)) ∙ none) in
    neither (list_any p line) (list_any (list_any p) tuple) parts.0 (flat-none p tuple parts.1)

found-none : (p : NdbPair → Bool) (db : List (List (List NdbPair))) (end : ℕ) → list_any p (all_pairs db) ≡ false → find (list_any (list_any p)) (take end db) ≡ None
found-none p [] zero none = refl
found-none p [] (suc end) none = refl
found-none p (tuple ∷ db) zero none = refl
found-none p (tuple ∷ db) (suc end) none =
    let parts = or_parts (list_any p (flat_map (λ l. l) tuple)) (list_any p (all_pairs db)) (sym (list_any-append p (flat_map (λ l. l) tuple) (all_pairs db)) ∙ none) in
    ap (λ (b : Bool). cond b (Some tuple) (find (list_any (list_any p)) (take end db))) (flat-none p tuple parts.0) ∙ found-none p db end parts.1

pub none-chooses : (db : List (List (List NdbPair))) (end : ℕ) → list_any (has_attr (codes "database")) (all_pairs db) ≡ false → choosing (take end db) ≡ None
none-chooses db end none = found-none (has_attr (codes "database")) db end none
