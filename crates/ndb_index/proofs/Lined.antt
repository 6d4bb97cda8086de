-- The lines of a tuple on one line, a line at a time.
use Rattle.std.proofs.Common.{◌≡◌, ℕ, ◌+◌, ◌<◌, List, [], ◌∷◌, ◌++◌, length, take, get_or, sym, ap, ◌∙◌, append-nil}
use Rattle.std.specs.Prelude.{flat_map}
use Rattle.std.proofs.lemmas.List.{take_more}
use Rattle.std.proofs.lemmas.List.Concat.{flat_map-append}
use Rattle.net_base.specs.Ndb.{NdbPair}
use Rattle.ndb_reader.specs.Written.{pairs_text}

-- the lines of a tuple so far
abbrev pub flat : List (List NdbPair) → List NdbPair
flat tuple = flat_map (λ line. line) tuple

pub flat-next : (tuple : List (List NdbPair)) (n : ℕ) (line : List NdbPair) (out new : List ℕ) → n < length tuple → line ≡ get_or tuple n []
    → ((pairs : List NdbPair) → out ≡ pairs_text pairs → new ≡ pairs_text (pairs ++ line)) → out ≡ pairs_text (flat (take n tuple)) → new ≡ pairs_text (flat (take (n + 1) tuple))
flat-next tuple n line out new h here step is =
    step (flat (take n tuple)) is
    ∙ ap pairs_text (ap (λ (l : List NdbPair). flat (take n tuple) ++ l) (here ∙ sym (append-nil (get_or tuple n [])))
    ∙ sym (flat_map-append (λ (l : List NdbPair). l) (take n tuple) (get_or tuple n [] ∷ []))
    ∙ ap flat (sym (take_more tuple n [] h)))
