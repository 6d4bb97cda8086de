-- What one caller owes, and what is known of its entries, depends on its own entries alone: those of others change nothing.
use Rattle.std.proofs.Common.{◌≡◌, ℕ, ◌+◌, ◌==◌, Bool, true, false, List, [], ◌∷◌, ◌++◌, length, map, drop, Option, Some, None, if◌then◌else◌, refl, ap, sym, subst, ◌∙◌, arith, length-append}
use mathlib.Core.List.{IsPrefix}
use Rattle.std.proofs.lemmas.Bool.{true≢false}
use Rattle.std.proofs.lemmas.List.{nil_from_length}
use Rattle.net_base.specs.declared.history.Entry.{Entry}
use Rattle.net_base.specs.declared.noted.Noted.{Noted}
use Rattle.net_base.specs.declared.noted.Number.{Number}
use Rattle.net_base.specs.declared.noted.Number.TheVariants as number
use Rattle.net_base.specs.declared.world.World.{World}
use Rattle.net_base.specs.ActorStep.{Step}
use Rattle.net_base.specs.Actors.{Actor}
use Rattle.net_base.specs.Duties.{Duty, duties}
use Rattle.net_base.specs.Net.{Net, opening_net}
use Rattle.net_base.specs.Next.{by}
use Rattle.net_base.specs.Stamped.{at, at_from}
use Rattle.journal.proofs.Shared.{at-append}
use Rattle.history_laws.specs.Apart as apart
use Rattle.net_locks.specs.Works.{step_by, noted_after, next_noted, noted_from, noted_net, owed_in, entries}
use Rattle.net_locks.specs.Own.{IsTurnOf, IsNextOf, IsTimelyIn, OwnFrom, EachOwn, OwnStandsStill, OwnGains}
use Rattle.net_locks.proofs.Nets.{noted_from-append, noted_push}
use Rattle.net_base.proofs.Shared.{no_cons}

same_and : {A : Type 0} (xs ys : List A) → xs ++ ys ≡ xs → ys ≡ []
same_and xs ys e = nil_from_length ys (omega (arith, sym (ap length e) ∙ length-append xs ys))

-- after a beginning that has all of a number's entries nothing of the number comes
none_between : (k : Number) (log rest : List Noted) → at k log ≡ at k (log ++ rest) → at_from k (length log) rest ≡ []
none_between k log rest same = same_and (at k log) (at_from k (length log) rest) (sym (at-append k log rest) ∙ sym same)

abbrev pub own : ℕ × Noted → Entry
own y = y.1.entry

-- a caller's entries are those that stand with its number
pub by_from : (n c : ℕ) (xs : List Noted) → by (entries xs) c ≡ map own (at_from (number.Caller c) n xs)
by_from n c [] = refl
by_from n c (x ∷ xs) = by_test (by_from (n + 1) c xs) (x.entry.caller == c)
  where
    by_test : by (entries xs) c ≡ map own (at_from (number.Caller c) (n + 1) xs) → (b : Bool)
        → (if b then x.entry ∷ by (entries xs) c else by (entries xs) c) ≡ map own
        (if b then (n, x) ∷ at_from (number.Caller c) (n + 1) xs else at_from (number.Caller c) (n + 1) xs)
    by_test rec true = ap (λ (l : List Entry). x.entry ∷ l) rec
    by_test rec false = rec

entries-append : (xs ys : List Noted) → entries (xs ++ ys) ≡ entries xs ++ entries ys
entries-append [] ys = refl
entries-append (x ∷ xs) ys = ap (λ (l : List Entry). x.entry ∷ l) (entries-append xs ys)

module _ (w : World) where
  owed_by_other : (net : Net) (x : Noted) (c : ℕ) (t : Option (Step Actor)) → (x.entry.caller == c) ≡ false → (noted_after w net x t).owed c ≡ net.owed c
  owed_by_other net x c None other = refl
  owed_by_other net x c (Some s) other =
      ap (λ (b : Bool). if b then drop 1 (net.owed c) ++ duties w net.actors x.entry.actor (length net.past) x.work s else net.owed c) other

  owed_more : (net : Net) (n : ℕ) (x : Noted) (rest : List (ℕ × Noted)) (c : ℕ) (end : List Duty) (b : Bool) → (x.entry.caller == c) ≡ b
      → (if b then (n, x) ∷ rest else rest) ≡ [] → (rest ≡ [] → end ≡ (next_noted w net x).owed c) → end ≡ net.owed c
  owed_more net n x rest c end true same none rec = absurd (no_cons (n, x) rest none)
  owed_more net n x rest c end false other none rec = rec none ∙ owed_by_other net x c (step_by w net x) other

  owed_from : (net : Net) (n : ℕ) (xs : List Noted) (c : ℕ) → at_from (number.Caller c) n xs ≡ [] → (noted_from w net xs).owed c ≡ net.owed c
  owed_from net n [] c none = refl
  owed_from net n (x ∷ xs) c none =
      owed_more net n x (at_from (number.Caller c) (n + 1) xs) c ((noted_from w (next_noted w net x) xs).owed c) (x.entry.caller == c) refl none
      (λ rest. owed_from (next_noted w net x) (n + 1) xs c rest)

  -- the first duty is done, and the new ones are owed after the others
  pub owed_push : (c : ℕ) (log : List Noted) (x : Noted) (s : Step Actor) → (x.entry.caller == c) ≡ true → step_by w (noted_net w log) x ≡ Some s
      → owed_in w (log ++ x ∷ []) c ≡ drop 1 (owed_in w log c) ++ duties w (noted_net w log).actors x.entry.actor (length (noted_net w log).past) x.work s
  owed_push c log x s same step =
      let net = noted_net w log in
      ap (λ (n : Net). n.owed c) (noted_push w log x) ∙ ap (λ (t : Option (Step Actor)). (noted_after w net x t).owed c) step
      ∙ ap (λ (b : Bool). if b then drop 1 (net.owed c) ++ duties w net.actors x.entry.actor (length net.past) x.work s else net.owed c) same

-- what holds of each of the caller's own entries
module _ (w : World) (c : ℕ) (K : Net → Noted → Type 0) where
  own-append : (net : Net) (xs ys : List Noted) → OwnFrom w c K net xs → OwnFrom w c K (noted_from w net xs) ys → OwnFrom w c K net (xs ++ ys)
  own-append net [] ys m n = n
  own-append net (x ∷ xs) ys m n = (m.0, own-append (next_noted w net x) xs ys m.1 n)

  own_more : (net : Net) (n : ℕ) (x : Noted) (rest : List (ℕ × Noted)) (R : Type 0) (b : Bool) → (x.entry.caller == c) ≡ b
      → (if b then (n, x) ∷ rest else rest) ≡ [] → (rest ≡ [] → R) → ((x.entry.caller == c) ≡ true → K net x) × R
  own_more net n x rest R true same none rec = absurd (no_cons (n, x) rest none)
  own_more net n x rest R false other none rec = (λ same. absurd (true≢false (sym same ∙ other)), rec none)

  own_none : (net : Net) (n : ℕ) (xs : List Noted) → at_from (number.Caller c) n xs ≡ [] → OwnFrom w c K net xs
  own_none net n [] none = tt
  own_none net n (x ∷ xs) none =
      own_more net n x (at_from (number.Caller c) (n + 1) xs) (OwnFrom w c K (next_noted w net x) xs) (x.entry.caller == c) refl none
      (λ rest. own_none (next_noted w net x) (n + 1) xs rest)

  own_stays : (log more : List Noted) → at_from (number.Caller c) (length log) more ≡ [] → EachOwn w c K log → EachOwn w c K (log ++ more)
  own_stays log more none m = own-append (opening_net w) log more m (own_none (noted_net w log) (length log) more none)

  own_push : (log : List Noted) (x : Noted) → EachOwn w c K log → K (noted_net w log) x → EachOwn w c K (log ++ x ∷ [])
  own_push log x m is = own-append (opening_net w) log (x ∷ []) m (λ same. is, tt)

-- with one entry more
pub gains : (w : World) (c : ℕ) (log : List Noted) (x : Noted) → OwnGains w c log x (log ++ x ∷ [])
gains w c log x = record { turns = own_push w c (IsTurnOf w) log x; nexts = λ ts. own_push w c (IsNextOf ts w) log x; timely = λ ts. own_push w c (IsTimelyIn ts w) log x }

-- a later history of entries with the same of a caller's
abbrev pub LaterStands : Type 0
LaterStands = (w : World) (h l : List Entry) (c : ℕ) → IsPrefix h l → by l c ≡ by h c → apart.StandsStill w c h l

pub stands_by : LaterStands → (w : World) (c : ℕ) (log more : List Noted) → at (number.Caller c) log ≡ at (number.Caller c) (log ++ more)
    → OwnStandsStill w c log (log ++ more)
stands_by still w c log more same =
    let none = none_between (number.Caller c) log more same in
    let recorded : by (entries (log ++ more)) c ≡ by (entries log) c = by_from 0 c (log ++ more) ∙ (ap (map own) (sym same) ∙ sym (by_from 0 c log)) in
    let front : IsPrefix (entries log) (entries (log ++ more)) = (entries more, sym (entries-append log more)) in
    record {
      owes = ap (λ (net : Net). net.owed c) (noted_from-append w (opening_net w) log more) ∙ owed_from w (noted_net w log) (length log) more c none;
      comes_next = (still w (entries log) (entries (log ++ more)) c front recorded).comes_next;
      turns = own_stays w c (IsTurnOf w) log more none;
      nexts = λ ts. own_stays w c (IsNextOf ts w) log more none;
      timely = λ ts. own_stays w c (IsTimelyIn ts w) log more none;
    }

-- what a caller owes, what comes next for it and what its entries are stay while it records nothing
pub stands_still : LaterStands → (w : World) (c : ℕ) (earlier later : List Noted) → IsPrefix earlier later
    → at (number.Caller c) earlier ≡ at (number.Caller c) later → OwnStandsStill w c earlier later
stands_still still w c earlier later front same =
    subst (λ (l : List Noted). OwnStandsStill w c earlier l) front.1 (stands_by still w c earlier front.0 (same ∙ ap (at (number.Caller c)) (sym front.1)))
