-- What is unread of the messages that were got.
use Rattle.std.proofs.Common.{◌≡◌, ℕ, ◌+◌, ◌-◌, ◌<◌, ◌≤◌, Bool, true, false, List, [], ◌∷◌, length, drop, refl, arith, ap, sym, ◌∙◌, nat_lt, if◌then◌else◌}
use Rattle.std.proofs.lemmas.Bool.Decides.{nat_tests}
use Rattle.std.proofs.lemmas.List.{drop-drop, drop_more}
use Rattle.std.specs.List.{slice_index_or}
use Rattle.il_queues.specs.Reading.{Waiting, IsCut, cut_first, left_of_read}
use Rattle.il_queues.specs.Reading as reading
use Rattle.net_base.specs.IlEnd.{End}
use Rattle.net_base.specs.IlTable.{first_unread, has_unread, reads}
use Rattle.il_machine.specs.Windows.{Windows, window_unread, windows_of}
use Rattle.il_machine.specs.Stands.{end_after_read}

-- what waits is what is unread of an end
pub record Holds (w : Waiting) (accepted : ℕ) (e : End) : Type 0 where
  pub unread : reading.unread_of w ≡ window_unread e
  pub offset : w.offset ≡ e.read_offset
  pub got : accepted ≡ length e.got
  pub count : accepted - length w.texts ≡ e.read_count
  pub within : length w.texts ≤ accepted
  pub cut : IsCut w.offset w.texts

-- so it is where the windows say so
pub holds : (w : Waiting) (accepted : ℕ) (kept : Windows) (e : End) → kept ≡ windows_of e → kept.unread ≡ reading.unread_of w → kept.read_offset ≡ w.offset → kept.got ≡ accepted
    → kept.read_count ≡ accepted - length w.texts → length w.texts ≤ accepted → IsCut w.offset w.texts → Holds w accepted e
holds w accepted kept e is unread offset got count within cut =
    record {
      unread = sym unread ∙ ap (λ (x : Windows). x.unread) is;
      offset = sym offset ∙ ap (λ (x : Windows). x.read_offset) is;
      got = sym got ∙ ap (λ (x : Windows). x.got) is;
      count = sym count ∙ ap (λ (x : Windows). x.read_count) is;
      within = within;
      cut = cut;
    }

pub length_cut : (cut : ℕ) (xs : List (List ℕ)) → length (cut_first cut xs) ≡ length xs
length_cut cut [] = refl
length_cut cut (x ∷ xs) = refl

-- as many texts wait as messages are unread
pub same_length : (w : Waiting) (got : ℕ) (e : End) → Holds w got e → length w.texts ≡ length e.got - e.read_count
same_length w got e h = omega (arith, h.got, h.count, h.within)

-- Reading.

-- the first unread message
first_is : (e : End) → e.read_count < length e.got → drop e.read_count e.got ≡ slice_index_or e.got e.read_count [] ∷ drop (e.read_count + 1) e.got
first_is e some = drop_more e.got e.read_count [] some

-- what a read leaves of what waits, by whether it leaves the first text
left_some : (count offset : ℕ) (text rest : List ℕ) (texts : List (List ℕ)) (b : Bool) → drop offset text ≡ rest → nat_lt count (length rest) ≡ b
    → left_of_read count offset (text ∷ texts) ≡ (if b then record { texts = text ∷ texts; offset = offset + count } else record { texts = texts; offset = 0 })
left_some count offset text rest texts true same is = rw (same, is) refl
left_some count offset text rest texts false same is = rw (same, is) refl

-- and what a read leaves of an end
reads_some : (count : ℕ) (e : End) (b : Bool) → nat_lt count (length (first_unread e)) ≡ b
    → reads count e ≡ (if b then record e { read_offset = e.read_offset + count } else record e { read_count = e.read_count + 1; read_offset = 0 })
reads_some count e true is = rw is refl
reads_some count e false is = rw is refl

-- the end with this read of it
abbrev pub kept_with : Waiting → ℕ → End → Windows
kept_with w got e = record (windows_of e) { read_count = got - length w.texts; read_offset = w.offset; unread = reading.unread_of w }

same_kept : (e : End) (count offset count' offset' : ℕ) (unread unread' : List (List ℕ)) → count ≡ count' → offset ≡ offset' → unread ≡ unread'
    → record (windows_of e) { read_count = count; read_offset = offset; unread = unread } ≡ record (windows_of e) { read_count = count'; read_offset = offset'; unread = unread' }
same_kept e count offset count' offset' unread unread' p q r = rw (p, q, r) refl

-- the text that waits first, and the others
both_first : (w : Waiting) (got : ℕ) (e : End) (text : List ℕ) (texts : List (List ℕ)) → w.texts ≡ text ∷ texts → Holds w got e → e.read_count < length e.got
    → (drop w.offset text ≡ first_unread e) × (texts ≡ drop (e.read_count + 1) e.got)
both_first w got e text texts is h some = (cc both, cc both)
  where
    both : drop w.offset text ∷ texts ≡ first_unread e ∷ drop (e.read_count + 1) e.got
    both = sym (ap (λ (xs : List (List ℕ)). cut_first w.offset xs) is) ∙ h.unread ∙ ap (λ (xs : List (List ℕ)). cut_first e.read_offset xs) (first_is e some)

read_part : (count : ℕ) (w : Waiting) (got : ℕ) (e : End) (text : List ℕ) (texts : List (List ℕ)) → w.texts ≡ text ∷ texts → Holds w got e → e.read_count < length e.got
    → kept_with (record { texts = text ∷ texts; offset = w.offset + count }) got e ≡ windows_of (record e { read_offset = e.read_offset + count })
read_part count w got e text texts is h some =
    same_kept e (got - length (text ∷ texts)) (w.offset + count) e.read_count (e.read_offset + count) (drop (w.offset + count) text ∷ texts) (cut_first (e.read_offset + count) (drop e.read_count e.got))
    (ap (λ (xs : List (List ℕ)). got - length xs) (sym is) ∙ h.count) (ap (λ n. n + count) h.offset) unread
  where
    first : List ℕ
    first = slice_index_or e.got e.read_count []

    b : (drop w.offset text ≡ first_unread e) × (texts ≡ drop (e.read_count + 1) e.got)
    b = both_first w got e text texts is h some

    head : drop (w.offset + count) text ≡ drop (e.read_offset + count) (slice_index_or e.got e.read_count [])
    head = sym (drop-drop count w.offset text) ∙ ap (λ (t : List ℕ). drop count t) b.0 ∙ drop-drop count e.read_offset (slice_index_or e.got e.read_count [])

    unread : drop (w.offset + count) text ∷ texts ≡ cut_first (e.read_offset + count) (drop e.read_count e.got)
    unread =
        ap (λ (t : List ℕ). t ∷ texts) head ∙ ap (λ (ts : List (List ℕ)). drop (e.read_offset + count) (slice_index_or e.got e.read_count []) ∷ ts) b.1
        ∙ sym (ap (λ (xs : List (List ℕ)). cut_first (e.read_offset + count) xs) (first_is e some))

read_whole : (w : Waiting) (got : ℕ) (e : End) (text : List ℕ) (texts : List (List ℕ)) → w.texts ≡ text ∷ texts → Holds w got e → e.read_count < length e.got
    → kept_with (record { texts = texts; offset = 0 }) got e ≡ windows_of (record e { read_count = e.read_count + 1; read_offset = 0 })
read_whole w got e text texts is h some =
    same_kept e (got - length texts) 0 (e.read_count + 1) 0 (cut_first 0 texts) (cut_first 0 (drop (e.read_count + 1) e.got))
    (omega (arith, h.count, h.within, ap (λ (xs : List (List ℕ)). length xs) is)) refl (ap (λ (xs : List (List ℕ)). cut_first 0 xs) (both_first w got e text texts is h some).1)

read_some : (count : ℕ) (w : Waiting) (got : ℕ) (e : End) (text : List ℕ) (texts : List (List ℕ)) (b : Bool) → w.texts ≡ text ∷ texts → Holds w got e → e.read_count < length e.got
    → kept_with (if b then record { texts = text ∷ texts; offset = w.offset + count } else record { texts = texts; offset = 0 }) got e
    ≡ windows_of (if b then record e { read_offset = e.read_offset + count } else record e { read_count = e.read_count + 1; read_offset = 0 })
read_some count w got e text texts true is h some = read_part count w got e text texts is h some
read_some count w got e text texts false is h some = read_whole w got e text texts is h some

read_by : (count : ℕ) (w : Waiting) (got : ℕ) (e : End) (texts : List (List ℕ)) → w.texts ≡ texts → Holds w got e
    → kept_with (left_of_read count w.offset texts) got e ≡ windows_of (end_after_read count e)
read_by count w got e [] is h =
    let none : has_unread e ≡ false = grind (arith, nat_tests, same_length w got e h, ap (λ (xs : List (List ℕ)). length xs) is) in
    let unread : [] ≡ window_unread e = sym (ap (λ (xs : List (List ℕ)). cut_first w.offset xs) is) ∙ h.unread in
    let read : got - 0 ≡ e.read_count = omega (arith, h.count, ap (λ (xs : List (List ℕ)). length xs) is) in
    rw none (same_kept e (got - 0) w.offset e.read_count e.read_offset [] (window_unread e) read h.offset unread)
read_by count w got e (text ∷ texts) is h =
    let past : e.read_count < length e.got = omega (arith, same_length w got e h, ap (λ (xs : List (List ℕ)). length xs) is) in
    let some : has_unread e ≡ true = grind (arith, nat_tests, past) in
    let test = nat_lt count (length (first_unread e)) in
    ap (λ (x : Waiting). kept_with x got e) (left_some count w.offset text (first_unread e) texts test (both_first w got e text texts is h past).0 refl)
    ∙ read_some count w got e text texts test is h past
    ∙ ap windows_of (sym (reads_some count e test refl))
    ∙ rw some refl

-- a read leaves of what waits what it leaves of the end
pub read_kept : (count : ℕ) (w : Waiting) (got : ℕ) (e : End) → Holds w got e → kept_with (reading.after_read count w) got e ≡ windows_of (end_after_read count e)
read_kept count w got e h = read_by count w got e w.texts refl h
