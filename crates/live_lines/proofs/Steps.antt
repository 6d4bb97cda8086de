-- The words of world files that are not steps, and the results of step lines.
use Rattle.std.proofs.Common.{◌≡◌, ℕ, Bool, true, false, ◌||◌, List, refl, sym, subst, None}
use Rattle.std.specs.Prelude.{bytes_eq, codes}
use Rattle.std.proofs.lemmas.Bool.{or_parts}
use Rattle.net_base.proofs.Shared.{equal_texts}
use Rattle.world_text.specs.LineReading.{other_line, step_in_line, step_read, word_line}
use Rattle.live_lines.specs.LiveLines.{is_host_word, is_part_word, is_world_word}

-- A step line does not begin with such a word.

like : (args : List (List ℕ)) (word other : List ℕ) → step_in_line other args ≡ None → bytes_eq word other ≡ true → step_in_line word args ≡ None
like args word other none same = subst (λ (w : List ℕ). step_in_line w args ≡ None) (sym (equal_texts word other same)) none

either : (x y : Bool) (A : Type 0) → (x ≡ true → A) → (y ≡ true → A) → (x || y) ≡ true → A
either true y A f g e = f refl
either false y A f g e = g e

part_no_step : (args : List (List ℕ)) (word : List ℕ) → is_part_word word ≡ true → step_in_line word args ≡ None
part_no_step args word =
    let N : Type 0 = step_in_line word args ≡ None in
    either (bytes_eq word (codes "ndb")) _ N (like args word (codes "ndb") refl)
    (either (bytes_eq word (codes "networld")) _ N (like args word (codes "networld") refl)
    (either (bytes_eq word (codes "end")) _ N (like args word (codes "end") refl)
    (either (bytes_eq word (codes "seed")) _ N (like args word (codes "seed") refl)
    (either (bytes_eq word (codes "medium")) _ N (like args word (codes "medium") refl)
    (either (bytes_eq word (codes "rates")) (bytes_eq word (codes "fate")) N (like args word (codes "rates") refl)
    (like args word (codes "fate") refl))))))

host_no_step : (args : List (List ℕ)) (word : List ℕ) → is_host_word word ≡ true → step_in_line word args ≡ None
host_no_step args word =
    let N : Type 0 = step_in_line word args ≡ None in
    either (bytes_eq word (codes "host")) _ N (like args word (codes "host") refl)
    (either (bytes_eq word (codes "if")) _ N (like args word (codes "if") refl)
    (either (bytes_eq word (codes "route")) _ N (like args word (codes "route") refl)
    (either (bytes_eq word (codes "start")) (bytes_eq word (codes "script")) N (like args word (codes "start") refl)
    (like args word (codes "script") refl))))

pub no_step : (args : List (List ℕ)) (word : List ℕ) → is_world_word word ≡ true → step_in_line word args ≡ None
no_step args word = either (is_part_word word) (is_host_word word) (step_in_line word args ≡ None) (part_no_step args word) (host_no_step args word)

-- A line with another first word is a step line.

other_is_step : (args : List (List ℕ)) (word : List ℕ) → is_host_word word ≡ false → other_line word args ≡ step_read (step_in_line word args)
other_is_step args word not =
    let a = or_parts (bytes_eq word (codes "host")) _ not in
    let b = or_parts (bytes_eq word (codes "if")) _ a.1 in
    let c = or_parts (bytes_eq word (codes "route")) _ b.1 in
    let d = or_parts (bytes_eq word (codes "start")) _ c.1 in
    rw (a.0, b.0, c.0, d.0, d.1) refl

pub line_is_step : (args : List (List ℕ)) (word : List ℕ) → is_world_word word ≡ false → word_line word args ≡ step_read (step_in_line word args)
line_is_step args word not =
    let both = or_parts (is_part_word word) (is_host_word word) not in
    let a = or_parts (bytes_eq word (codes "ndb")) _ both.0 in
    let b = or_parts (bytes_eq word (codes "networld")) _ a.1 in
    let c = or_parts (bytes_eq word (codes "end")) _ b.1 in
    let d = or_parts (bytes_eq word (codes "seed")) _ c.1 in
    let e = or_parts (bytes_eq word (codes "medium")) _ d.1 in
    let f = or_parts (bytes_eq word (codes "rates")) _ e.1 in
    rw (a.0, b.0, c.0, d.0, e.0, f.0, f.1) (other_is_step args word both.1)
