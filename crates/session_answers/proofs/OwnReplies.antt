-- A caller's own replies, entry by entry.
use Rattle.std.proofs.Common.{◌≡◌, ℕ, ◌+◌, ◌==◌, ◌≤◌, ◌&&◌, Bool, true, false, cond, List, [], ◌∷◌, map, drop, length, Some, slice_get, is_none, refl, ap, ◌∙◌}
use Rattle.std.specs.Prelude.{filter}
use Rattle.std.proofs.lemmas.Bool.{and_parts}
use Rattle.std.proofs.lemmas.List.{drop_all}
use Rattle.net_base.specs.declared.history.Entry.{Entry}
use Rattle.net_base.specs.declared.reply.Reply.{Reply}
use Rattle.net_base.specs.Next.{by, own_replies}
use Rattle.net_base.proofs.Shared.{next_one}

-- the replies to those entries that nothing owed
abbrev replies_in : List Entry → List Reply
replies_in xs = map (λ (x : Entry). x.reply) (filter (λ (x : Entry). is_none x.cites) xs)

first_by : (c : ℕ) (x : Entry) (xs : List Entry) (b : Bool) → (x.caller == c) ≡ b → by (x ∷ xs) c ≡ cond b (x ∷ by xs c) (by xs c)
first_by c x xs b is = ap (λ (d : Bool). cond d (x ∷ by xs c) (by xs c)) is

first_free : (x : Entry) (xs : List Entry) (b : Bool) → is_none x.cites ≡ b → replies_in (x ∷ xs) ≡ cond b (x.reply ∷ replies_in xs) (replies_in xs)
first_free x xs true is = ap (λ (d : Bool). map (λ (y : Entry). y.reply) (cond d (x ∷ filter (λ (y : Entry). is_none y.cites) xs) (filter (λ (y : Entry). is_none y.cites) xs))) is
first_free x xs false is = ap (λ (d : Bool). map (λ (y : Entry). y.reply) (cond d (x ∷ filter (λ (y : Entry). is_none y.cites) xs) (filter (λ (y : Entry). is_none y.cites) xs))) is

first_own : (c : ℕ) (x : Entry) (xs : List Entry) → ((x.caller == c) && is_none x.cites) ≡ true → own_replies (x ∷ xs) c ≡ x.reply ∷ own_replies xs c
first_own c x xs own =
    let both = and_parts (x.caller == c) (is_none x.cites) own in
    ap replies_in (first_by c x xs true both.0) ∙ first_free x (by xs c) true both.1

first_other : (c : ℕ) (x : Entry) (xs : List Entry) → ((x.caller == c) && is_none x.cites) ≡ false → own_replies (x ∷ xs) c ≡ own_replies xs c
first_other c x xs other = of_caller (x.caller == c) refl other
  where
    of_caller : (b : Bool) → (x.caller == c) ≡ b → (b && is_none x.cites) ≡ false → own_replies (x ∷ xs) c ≡ own_replies xs c
    of_caller true is owed = ap replies_in (first_by c x xs true is) ∙ first_free x (by xs c) false owed
    of_caller false is owed = ap replies_in (first_by c x xs false is)

-- the entry at a stamp is the caller's own
pub own_at : (c : ℕ) (xs : List Entry) (n : ℕ) (x : Entry) → slice_get xs n ≡ Some x → ((x.caller == c) && is_none x.cites) ≡ true
    → own_replies (drop n xs) c ≡ x.reply ∷ own_replies (drop (n + 1) xs) c
own_at c xs n x is own = ap (λ (l : List Entry). own_replies l c) (next_one xs n x is) ∙ first_own c x (drop (n + 1) xs) own

-- .. or it isn't
pub other_at : (c : ℕ) (xs : List Entry) (n : ℕ) (x : Entry) → slice_get xs n ≡ Some x → ((x.caller == c) && is_none x.cites) ≡ false
    → own_replies (drop n xs) c ≡ own_replies (drop (n + 1) xs) c
other_at c xs n x is other = ap (λ (l : List Entry). own_replies l c) (next_one xs n x is) ∙ first_other c x (drop (n + 1) xs) other

-- behind the last one
pub none_behind : (c : ℕ) (xs : List Entry) (n : ℕ) → length xs ≤ n → own_replies (drop n xs) c ≡ []
none_behind c xs n past = ap (λ (l : List Entry). own_replies l c) (drop_all n xs past)
