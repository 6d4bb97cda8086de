-- What the whole history says of the pass and the books that it was made from.
use Rattle.std.specs.Prelude.{◌≡◌, ℕ, ◌⊎◌, List, [], ◌∷◌, map}
use mathlib.Core.Option.{some}
use mathlib.Core.List.{IsPrefix}
use lib.ListN.{get_elem?}
use Rattle.net_base.specs.declared.history.Entry.{Entry}
use Rattle.net_base.specs.declared.noted.Noted.{Noted}
use Rattle.net_base.specs.declared.noted.Number.{Number}
use Rattle.net_base.specs.declared.noted.Number.TheVariants as number
use Rattle.net_base.specs.Stamped.{of_actor, of_caller, at, In}
use Rattle.journal.specs.declared.law.Roster.{Roster}
use Rattle.journal.specs.declared.law.View.{View}
use Rattle.journal.specs.declared.tokens.Sight.{Sight}
use Rattle.journal.specs.declared.tokens.Volume.{Volume}
use Rattle.journal.specs.declared.tokens.Stamped.{Stamped}
use Rattle.journal.specs.Rule.{Lawful}
use Rattle.journal.specs.Tokens.{stamped, HoldsPass}

-- an entry with its stamp, without its work
abbrev pub plain : ℕ × Noted → ℕ × Entry
plain x = (x.0, x.1.entry)

-- the history h is all that the pass has seen. The entries of each book's actor are the book's, and those of each of the
-- pass's callers are that caller's
pub record IsWhole (r : Roster) (p : Sight) (books : List Volume) (h : List Entry) : Type 0 where
  pub entries : h ≡ map (λ (x : Noted). x.entry) p.seen
  pub actors : (b : Volume) → In b books → of_actor b.actor h ≡ map plain b.list
  pub callers : (c : ℕ) (es : List (ℕ × Noted)) → HoldsPass p c es → of_caller c h ≡ map plain es
  pub books_at : (b : Volume) → In b books → b.list ≡ at (number.Actor b.actor) p.seen
  pub lists_at : (k : Number) (es : List (ℕ × Noted)) → In (k, es) p.held → es ≡ at k p.seen
  pub lawful : Lawful r p.seen

-- the seat has taken in a book's, and has seen no less
pub record TakenIn (v : View) (b : Volume) (w : View) : Type 0 where
  pub kept : (k : Number) (es : List (ℕ × Noted)) → In (k, es) v.held → In (k, es) w.held
  pub before : IsPrefix v.seen w.seen
  pub taken : In (number.Actor b.actor, b.list) w.held

-- the seat has taken in the lists of all these books, whose entries are these
pub record Gathered (v : View) (books : List Volume) (w : View) (entries : List Stamped) : Type 0 where
  pub kept : (k : Number) (es : List (ℕ × Noted)) → In (k, es) v.held → In (k, es) w.held
  pub before : IsPrefix v.seen w.seen
  pub taken : (b : Volume) → In b books → In (number.Actor b.actor, b.list) w.held
  pub all : (b : Volume) (y : ℕ × Noted) → In b books → In y b.list → In (stamped y) entries
  pub sound : (e : Stamped) → In e entries →
      (b : Volume) × In b books × (y : ℕ × Noted) × In y b.list × (e ≡ stamped y)

-- the entries are those of log, at their stamps
pub record IsCover (log : List Entry) (entries : List Stamped) : Type 0 where
  pub sound : (e : Stamped) → In e entries → get_elem? log e.stamp ≡ some e.entry
  pub all : (n : ℕ) (x : Entry) → get_elem? log n ≡ some x → In record { stamp = n; entry = x } entries

-- the entry is in one of these lists
abbrev pub IsLeft : Stamped → List (List Stamped) → Type 0
IsLeft e [] = ⊥
IsLeft e (l ∷ ls) = In e l ⊎ IsLeft e ls

-- these lists have none but those entries
abbrev pub AreOf : List Stamped → List (List Stamped) → Type 0
AreOf es ls = (e : Stamped) → IsLeft e ls → In e es

-- and all of them
pub record AreAllOf (es : List Stamped) (ls : List (List Stamped)) : Type 0 where
  pub only : AreOf es ls
  pub all : (e : Stamped) → In e es → IsLeft e ls

-- what is in these lists stands at its stamp
abbrev pub AreAt : List Entry → List (List Stamped) → Type 0
AreAt log ls = (e : Stamped) → IsLeft e ls → get_elem? log e.stamp ≡ some e.entry
