-- The entries of a caller, and the replies to its own events, with an entry more.
use Rattle.std.proofs.Common.{◌≡◌, ℕ, ◌+◌, ◌-◌, ◌==◌, List, [], ◌∷◌, ◌++◌, length, take, map, filter, None, is_none, refl, ap, ◌∙◌, arith, length-append}
use Rattle.std.proofs.lemmas.Bool.{eq-eqb}
use Rattle.std.proofs.lemmas.List.{map-append, take_at}
use Rattle.std.proofs.lemmas.List.Elements.{filter-append}
use Rattle.net_base.specs.declared.history.Entry.{Entry}
use Rattle.net_base.specs.declared.reply.Reply.{Reply}
use Rattle.net_base.specs.Next.{by, own_replies}

abbrev own_of : List Entry → List Reply
own_of xs = map (λ (y : Entry). y.reply) (filter (λ (y : Entry). is_none y.cites) xs)

pub own_entry : (h : List Entry) (x : Entry) (c : ℕ) → x.caller ≡ c → by (h ++ x ∷ []) c ≡ by h c ++ x ∷ []
own_entry h x c is = filter-append (λ (y : Entry). y.caller == c) h (x ∷ []) ∙ rw (eq-eqb x.caller c is) refl

pub one_entry_more : (h : List Entry) (x : Entry) (c : ℕ) → x.caller ≡ c → length (by (h ++ x ∷ []) c) ≡ length (by h c) + 1
one_entry_more h x c is = ap length (own_entry h x c is) ∙ length-append (by h c) (x ∷ [])

-- an own one
pub next_replies : (h : List Entry) (x : Entry) (c : ℕ) → x.caller ≡ c → x.cites ≡ None → own_replies (h ++ x ∷ []) c ≡ own_replies h c ++ x.reply ∷ []
next_replies h x c is cites =
    ap own_of (own_entry h x c is)
    ∙ ap (λ (xs : List Entry). map (λ (y : Entry). y.reply) xs) (filter-append (λ (y : Entry). is_none y.cites) (by h c) (x ∷ []) ∙ rw cites refl)
    ∙ map-append (λ (y : Entry). y.reply) (filter (λ (y : Entry). is_none y.cites) (by h c)) (x ∷ [])

-- all replies but the last
pub before_last : (rs : List Reply) (r : Reply) → take (length (rs ++ r ∷ []) - 1) (rs ++ r ∷ []) ≡ rs
before_last rs r = take_at rs (r ∷ []) (length (rs ++ r ∷ []) - 1) (omega (arith, length-append rs (r ∷ [])))
