-- The reading of control words is their grammar's.
use Rattle.std.proofs.Common.{◌≡◌, ℕ, ◌/◌, ◌%◌, ◌^◌, ◌<◌, ◌==◌, ◌||◌, ◌⊎◌, inl, inr, zero, suc, Bool, true, false, List, [], ◌∷◌, ◌++◌, Option, Some, None, Ok, Err, refl, ap, sym, ◌∙◌, subst, append_assoc, arith}
use Rattle.std.specs.Prelude.{decimal, codes, bytes_eq, ok_or, ◌↔◌, nat_lt, if◌then◌else◌}
use Rattle.std.specs.Option.{option_map_or}
use Rattle.std.specs.List.{slice_split, list_any}
use Rattle.std.proofs.lemmas.Bool.{ltb-true, and_parts, ne_eqb, false≢true, eqb-true, or_parts}
use Rattle.std.proofs.lemmas.List.Elements.{All-append}
use Rattle.std.proofs.lemmas.Option.{none-some, same_Some}
use Rattle.net_base.specs.declared.address.Addr.{Addr}
use Rattle.net_base.specs.declared.names.Ctl.{Ctl}
use Rattle.net_base.specs.declared.names.Ctl.TheVariants as ctl
use Rattle.net_base.specs.ControlWords.{dotted, place, spelling, short_spelling, is_port, is_place, control_in_range, IsSpelled, Reads, newline, blank, first_word, is_control_word, without_newline, address_of, place_of, parts_of_place, connect_of, control_of, is_spelled, checked_control, said, read, bad_word, bad_argument}
use Rattle.net_base.proofs.Shared.{IsWithout, decimal_without, one_part, cut_at, without_one, four_parts, dotted_without, value_of, or_true, same_text, equal_texts}

-- Places.

address_back : (ip : ℕ) → ip < 2 ^ 32 → address_of (slice_split (λ b. b == 46) (dotted ip)) ≡ Some ip
address_back ip small =
    rw (four_parts (ip / 2 ^ 24) (ip / 2 ^ 16 % 256) (ip / 2 ^ 8 % 256) (ip % 256) (omega (arith, small)) (omega arith) (omega arith) (omega arith))
    (rw (value_of (ip / 2 ^ 24) (omega (arith, small))) (rw (value_of (ip / 2 ^ 16 % 256) (omega arith)) (rw (value_of (ip / 2 ^ 8 % 256) (omega arith)) (rw (value_of (ip % 256) (omega arith)) (ap (λ (n : ℕ). Some n) (omega arith))))))

place_nested : (a : Addr) → place a ≡ dotted a.ip ++ (33 ∷ decimal a.port)
place_nested a = simp append_assoc refl

pub dotted_is_without : (s ip : ℕ) → s < 46 → ip < 2 ^ 32 → IsWithout s (dotted ip)
dotted_is_without s ip low small = dotted_without s (ip / 2 ^ 24) (ip / 2 ^ 16 % 256) (ip / 2 ^ 8 % 256) (ip % 256) low (omega (arith, small)) (omega arith) (omega arith) (omega arith)

pub place_parts : (a : Addr) → a.ip < 2 ^ 32 → a.port < 65536 → parts_of_place (place a) ≡ dotted a.ip ∷ decimal a.port ∷ []
place_parts a fit port = rw (place_nested a) (cut_at 33 (dotted a.ip) (decimal a.port) _ (dotted_is_without 33 a.ip (omega arith) fit) (one_part 33 (decimal a.port) (decimal_without a.port 33 (omega (arith, port)) (omega arith))))

place_back : (a : Addr) → a.ip < 2 ^ 32 → a.port < 65536 → place_of (dotted a.ip ∷ decimal a.port ∷ []) ≡ Some a
place_back a fit port = rw (address_back a.ip fit) (rw (value_of a.port (omega (arith, port))) refl)

pub place_without : (s : ℕ) (a : Addr) → s < 33 → a.ip < 2 ^ 32 → a.port < 65536 → IsWithout s (place a)
place_without s a low fit port =
    rw (place_nested a) (All-append (λ (x : ℕ). (x == s) ≡ false) (dotted a.ip) (33 ∷ decimal a.port) (dotted_is_without s a.ip (omega (arith, low)) fit) (without_one s 33 _ (ne_eqb 33 s (λ is. omega (arith, is, low))) (decimal_without a.port s (omega (arith, port)) (omega (arith, low)))))

-- Controls.

abbrev words : List ℕ → List (List ℕ)
words line = slice_split (λ b. b == blank) line

pub place_facts : (a : Addr) → is_place a ≡ true → (a.ip < 2 ^ 32) × (a.port < 65536)
place_facts a is =
    let both = and_parts _ _ is in
    (ltb-true _ _ both.0, ltb-true _ _ ((and_parts _ _ both.1).1))

port_facts : (port : ℕ) → is_port port ≡ true → port < 65536
port_facts port is = ltb-true _ _ ((and_parts _ _ is).1)

not_star : (text : List ℕ) → IsWithout 42 text → bytes_eq text (codes "*") ≡ false
not_star [] all = refl
not_star (b ∷ bs) all = rw (all zero 0 (omega arith)) refl

connect_back : (a : Addr) → is_place a ≡ true → connect_of (place a ∷ []) ≡ Some (ctl.Connect a None)
connect_back a is = let fits = place_facts a is in rw (place_parts a fits.0 fits.1) (rw (place_back a fits.0 fits.1) refl)

connect_port_back : (a : Addr) (port : ℕ) → is_place a ≡ true → is_port port ≡ true → connect_of (place a ∷ decimal port ∷ []) ≡ Some (ctl.Connect a (Some port))
connect_port_back a port is fits_port =
    let fits = place_facts a is in
    rw (place_parts a fits.0 fits.1) (rw (place_back a fits.0 fits.1) (rw (value_of port (omega (arith, port_facts port fits_port))) refl))

number_words : (n : ℕ) → n < 2 ^ 64 → slice_split (λ x. x == blank) (decimal n) ≡ decimal n ∷ []
number_words n small = one_part blank (decimal n) (decimal_without n blank small (omega arith))

pub place_words : (a : Addr) → is_place a ≡ true → slice_split (λ x. x == blank) (place a) ≡ place a ∷ []
place_words a is = let fits = place_facts a is in one_part blank (place a) (place_without blank a (omega arith) fits.0 fits.1)

control_back : (c : Ctl) → control_in_range c ≡ true → control_of (slice_split (λ b. b == blank) (spelling c)) ≡ Some c
control_back (ctl.Connect a None) is = rw (place_words a is) (connect_back a is)
control_back (ctl.Connect a (Some port)) is =
    let both = and_parts _ _ is in
    let fits = place_facts a both.0 in
    let nested : spelling (ctl.Connect a (Some port)) ≡ codes "connect " ++ (place a ++ (32 ∷ decimal port)) = simp append_assoc refl in
    let small : port < 65536 = port_facts port both.1 in
    subst (λ (line : List ℕ). control_of (words line) ≡ Some (ctl.Connect a (Some port))) (sym nested) (rw (cut_at blank (place a) (decimal port) _ (place_without blank a (omega arith) fits.0 fits.1) (number_words port (omega (arith, small)))) (connect_port_back a port both.0 both.1))
control_back (ctl.Announce None None) is = refl
control_back (ctl.Announce None (Some port)) is =
    let small = port_facts port is in
    rw (number_words port (omega (arith, small))) (rw (one_part 33 (decimal port) (decimal_without port 33 (omega (arith, small)) (omega arith))) (rw (value_of port (omega (arith, small))) refl))
control_back (ctl.Announce (Some ip) (Some port)) is =
    let a : Addr = record { ip = ip; port = port } in
    let fits = place_facts a is in
    rw (place_words a is) (rw (place_parts a fits.0 fits.1) (rw (not_star (dotted ip) (dotted_is_without 42 ip (omega arith) fits.0)) (rw (place_back a fits.0 fits.1) refl)))
control_back (ctl.Announce (Some ip) None) is = absurd (false≢true is)
control_back (ctl.Bind port) is = let small = port_facts port is in rw (number_words port (omega (arith, small))) (rw (value_of port (omega (arith, small))) refl)
control_back ctl.Hangup is = refl
control_back (ctl.Ttl n) is = let small : n < 256 = ltb-true n 256 ((and_parts (nat_lt 0 n) (nat_lt n 256) is).1) in rw (number_words n (omega (arith, small))) (rw (value_of n (omega (arith, small))) refl)
control_back (ctl.Tos n) is = let small : n < 256 = ltb-true n 256 is in rw (number_words n (omega (arith, small))) (rw (value_of n (omega (arith, small))) refl)

-- what is read back where a port stands alone
short_back : (port : ℕ) → is_port port ≡ true → control_of (words (codes "announce " ++ decimal port)) ≡ Some (ctl.Announce None (Some port))
short_back port is =
    let small = port_facts port is in
    rw (number_words port (omega (arith, small)))
    (rw (one_part 33 (decimal port) (decimal_without port 33 (omega (arith, small)) (omega arith)))
    (rw (not_star (decimal port) (decimal_without port 42 (omega (arith, small)) (omega arith))) (rw (value_of port (omega (arith, small))) refl)))

-- Lines.

is_spelled_so : (c : Ctl) (line : List ℕ) → IsSpelled c line → is_spelled c line ≡ true
is_spelled_so c line (fits, inl is) = rw fits (rw is (rw (same_text (spelling c)) refl))
is_spelled_so c line (fits, inr is) = rw fits (rw is (rw (same_text line) (or_true _)))

said_back : (c : Ctl) (line : List ℕ) → IsSpelled c line → said line ≡ Some c
said_back c line (fits, inl is) = rw is (rw (control_back c fits) (rw (is_spelled_so c (spelling c) (fits, inl refl)) refl))
said_back (ctl.Announce None (Some port)) line (fits, inr is) =
    let it = same_Some _ line is in
    subst (λ (x : List ℕ). said x ≡ Some (ctl.Announce None (Some port))) it (rw (short_back port fits) (rw (is_spelled_so (ctl.Announce None (Some port)) (codes "announce " ++ decimal port) (fits, inr refl)) refl))
said_back (ctl.Connect a port) line (fits, inr is) = absurd (none-some line is)
said_back (ctl.Announce None None) line (fits, inr is) = absurd (none-some line is)
said_back (ctl.Announce (Some ip) port) line (fits, inr is) = absurd (none-some line is)
said_back (ctl.Bind port) line (fits, inr is) = absurd (none-some line is)
said_back ctl.Hangup line (fits, inr is) = absurd (none-some line is)
said_back (ctl.Ttl n) line (fits, inr is) = absurd (none-some line is)
said_back (ctl.Tos n) line (fits, inr is) = absurd (none-some line is)

spelled_by : (c : Ctl) (line : List ℕ) (short : Option (List ℕ)) → control_in_range c ≡ true → short_spelling c ≡ short
    → (bytes_eq line (spelling c) || option_map_or (λ (text : List ℕ). bytes_eq line text) short false) ≡ true → IsSpelled c line
spelled_by c line short fits is_short is = by (bytes_eq line (spelling c)) refl is
  where
    by_short : (s : Option (List ℕ)) → short_spelling c ≡ s → option_map_or (λ (text : List ℕ). bytes_eq line text) s false ≡ true → IsSpelled c line
    by_short None is_none no_text = absurd (false≢true no_text)
    by_short (Some text) is_some same = (fits, inr (is_some ∙ ap (λ (t : List ℕ). Some t) (sym (equal_texts line text same))))

    by : (b : Bool) → bytes_eq line (spelling c) ≡ b → (b || option_map_or (λ (text : List ℕ). bytes_eq line text) short false) ≡ true → IsSpelled c line
    by true same any = (fits, inl (equal_texts line (spelling c) same))
    by false same rest = by_short short is_short rest

checked_is : (line : List ℕ) (o : Option Ctl) (c : Ctl) → checked_control line o ≡ Some c → IsSpelled c line
checked_is line None c is = absurd (none-some c is)
checked_is line (Some d) c is = by (is_spelled d line) refl is
  where
    by : (b : Bool) → is_spelled d line ≡ b → (if b then Some d else None) ≡ Some c → IsSpelled c line
    by false no_spelling none = absurd (none-some c none)
    by true spelled some =
        let both = and_parts _ _ spelled in
        subst (λ (e : Ctl). IsSpelled e line) (same_Some d c some) (spelled_by d line (short_spelling d) both.0 refl both.1)

said_is : (line : List ℕ) (c : Ctl) → said line ≡ Some c → IsSpelled c line
said_is line c is = checked_is line (control_of (words line)) c is

-- The newline at the end.

without_newline_back : (line : List ℕ) → without_newline (line ++ newline ∷ []) ≡ line
without_newline_back [] = refl
without_newline_back (b ∷ []) = refl
without_newline_back (b ∷ c ∷ rest) = ap (λ (xs : List ℕ). b ∷ xs) (without_newline_back (c ∷ rest))

without_newline_same : (line : List ℕ) → IsWithout newline line → without_newline line ≡ line
without_newline_same [] all = refl
without_newline_same (b ∷ []) all = rw (all zero 0 (omega arith)) refl
without_newline_same (b ∷ c ∷ rest) all = ap (λ (xs : List ℕ). b ∷ xs) (without_newline_same (c ∷ rest) (λ k d lt. all (suc k) d (omega (arith, lt))))

newline_or_none : (text : List ℕ) → (text ≡ without_newline text) ⊎ (text ≡ without_newline text ++ newline ∷ [])
newline_or_none [] = inl refl
newline_or_none (b ∷ []) = by (b == newline) refl
  where
    by : (t : Bool) → (b == newline) ≡ t → (b ∷ [] ≡ (if t then [] else b ∷ [])) ⊎ (b ∷ [] ≡ (if t then [] else b ∷ []) ++ newline ∷ [])
    by true is = inr (ap (λ (x : ℕ). x ∷ []) (eqb-true b newline is))
    by false is = inl refl
newline_or_none (b ∷ c ∷ rest) =
    elim (newline_or_none (c ∷ rest)) [
      | inl is ↦ inl (ap (λ (xs : List ℕ). b ∷ xs) is)
      | inr is ↦ inr (ap (λ (xs : List ℕ). b ∷ xs) is)
    ]

joined : (xs ys : List ℕ) → IsWithout newline xs → IsWithout newline ys → IsWithout newline (xs ++ ys)
joined xs ys = All-append (λ (x : ℕ). (x == newline) ≡ false) xs ys

plain : (text : List ℕ) → list_any (λ (b : ℕ). b == newline) text ≡ false → IsWithout newline text
plain [] is k d lt = absurd (omega (arith, lt))
plain (b ∷ rest) is zero d lt = (or_parts _ _ is).0
plain (b ∷ rest) is (suc k) d lt = plain rest ((or_parts _ _ is).1) k d (omega (arith, lt))

after_word : (word text : List ℕ) → list_any (λ (b : ℕ). b == newline) word ≡ false → IsWithout newline text → IsWithout newline (word ++ text)
after_word word text is rest = joined word text (plain word is) rest

number_plain : (n : ℕ) → n < 65536 → IsWithout newline (decimal n)
number_plain n small = decimal_without n newline (omega (arith, small)) (omega arith)

place_plain : (a : Addr) → is_place a ≡ true → IsWithout newline (place a)
place_plain a is = let fits = place_facts a is in place_without newline a (omega arith) fits.0 fits.1

spelling_plain : (c : Ctl) → control_in_range c ≡ true → IsWithout newline (spelling c)
spelling_plain (ctl.Connect a None) is = after_word (codes "connect ") (place a) refl (place_plain a is)
spelling_plain (ctl.Connect a (Some port)) is =
    let both = and_parts _ _ is in
    joined ((codes "connect " ++ place a) ++ codes " ") (decimal port) (joined (codes "connect " ++ place a) (codes " ") (after_word (codes "connect ") (place a) refl (place_plain a both.0)) (plain (codes " ") refl)) (number_plain port (port_facts port both.1))
spelling_plain (ctl.Announce None None) is = plain (codes "announce *") refl
spelling_plain (ctl.Announce None (Some port)) is = after_word (codes "announce *!") (decimal port) refl (number_plain port (port_facts port is))
spelling_plain (ctl.Announce (Some ip) (Some port)) is = after_word (codes "announce ") (place (record { ip = ip; port = port })) refl (place_plain (record { ip = ip; port = port }) is)
spelling_plain (ctl.Announce (Some ip) None) is = absurd (false≢true is)
spelling_plain (ctl.Bind port) is = after_word (codes "bind ") (decimal port) refl (number_plain port (port_facts port is))
spelling_plain ctl.Hangup is = plain (codes "hangup") refl
spelling_plain (ctl.Ttl n) is = let small : n < 256 = ltb-true n 256 ((and_parts (nat_lt 0 n) (nat_lt n 256) is).1) in after_word (codes "ttl ") (decimal n) refl (number_plain n (omega (arith, small)))
spelling_plain (ctl.Tos n) is = let small : n < 256 = ltb-true n 256 is in after_word (codes "tos ") (decimal n) refl (number_plain n (omega (arith, small)))

short_plain : (c : Ctl) (text : List ℕ) → control_in_range c ≡ true → short_spelling c ≡ Some text → IsWithout newline text
short_plain (ctl.Announce None (Some port)) text fits is =
    subst (λ (t : List ℕ). IsWithout newline t) (same_Some _ text is) (after_word (codes "announce ") (decimal port) refl (number_plain port (port_facts port fits)))
short_plain (ctl.Connect a port) text fits is = absurd (none-some text is)
short_plain (ctl.Announce None None) text fits is = absurd (none-some text is)
short_plain (ctl.Announce (Some ip) port) text fits is = absurd (none-some text is)
short_plain (ctl.Bind port) text fits is = absurd (none-some text is)
short_plain ctl.Hangup text fits is = absurd (none-some text is)
short_plain (ctl.Ttl n) text fits is = absurd (none-some text is)
short_plain (ctl.Tos n) text fits is = absurd (none-some text is)

spelled_plain : (c : Ctl) (text : List ℕ) → IsSpelled c text → IsWithout newline text
spelled_plain c text (fits, inl is) = rw is (spelling_plain c fits)
spelled_plain c text (fits, inr is) = short_plain c text fits is

-- The word at the front.

-- in a line, whether a newline ends it or not
word_there : (c : Ctl) → control_in_range c ≡ true → (is_control_word (first_word (spelling c)) ≡ true) × (is_control_word (first_word (spelling c ++ newline ∷ [])) ≡ true)
word_there (ctl.Connect a None) is = (refl, refl)
word_there (ctl.Connect a (Some port)) is = (refl, refl)
word_there (ctl.Announce None None) is = (refl, refl)
word_there (ctl.Announce None (Some port)) is = (refl, refl)
word_there (ctl.Announce (Some ip) (Some port)) is = (refl, refl)
word_there (ctl.Announce (Some ip) None) is = absurd (false≢true is)
word_there (ctl.Bind port) is = (refl, refl)
word_there ctl.Hangup is = (refl, refl)
word_there (ctl.Ttl n) is = (refl, refl)
word_there (ctl.Tos n) is = (refl, refl)

abbrev HasWord : List ℕ → Type 0
HasWord text = (is_control_word (first_word text) ≡ true) × (is_control_word (first_word (text ++ newline ∷ [])) ≡ true)

word_of : (c : Ctl) (text : List ℕ) → IsSpelled c text → HasWord text
word_of c text (fits, inl is) = subst HasWord (sym is) (word_there c fits)
word_of (ctl.Announce None (Some port)) text (fits, inr is) = subst HasWord (same_Some _ text is) (refl, refl)
word_of (ctl.Connect a port) text (fits, inr is) = absurd (none-some text is)
word_of (ctl.Announce None None) text (fits, inr is) = absurd (none-some text is)
word_of (ctl.Announce (Some ip) port) text (fits, inr is) = absurd (none-some text is)
word_of (ctl.Bind port) text (fits, inr is) = absurd (none-some text is)
word_of ctl.Hangup text (fits, inr is) = absurd (none-some text is)
word_of (ctl.Ttl n) text (fits, inr is) = absurd (none-some text is)
word_of (ctl.Tos n) text (fits, inr is) = absurd (none-some text is)

-- The laws.

reads_so : (text : List ℕ) (c : Ctl) → Reads text c → read text ≡ Ok c
reads_so text c (inl spelled) =
    rw ((word_of c text spelled).0) (rw (without_newline_same text (spelled_plain c text spelled)) (rw (said_back c text spelled) refl))
reads_so text c (inr (line, is, spelled)) =
    rw is (rw ((word_of c line spelled).1) (rw (without_newline_back line) (rw (said_back c line spelled) refl)))

said_reads : (text : List ℕ) (c : Ctl) → said (without_newline text) ≡ Some c → Reads text c
said_reads text c is =
    let spelled = said_is (without_newline text) c is in
    elim (newline_or_none text) [
      | inl same ↦ inl (subst (λ (t : List ℕ). IsSpelled c t) (sym same) spelled)
      | inr ended ↦ inr (without_newline text, ended, spelled)
    ]

read_is : (text : List ℕ) (c : Ctl) → read text ≡ Ok c → Reads text c
read_is text c is = by (is_control_word (first_word text)) (said (without_newline text)) refl is
  where
    by : (w : Bool) (o : Option Ctl) → said (without_newline text) ≡ o → (if w then ok_or o bad_argument else Err bad_word) ≡ Ok c → Reads text c
    by false o none answer = absurd (cc answer)
    by true None none answer = absurd (cc answer)
    by true (Some d) some answer = let same : d ≡ c = cc answer in said_reads text c (some ∙ ap (λ (e : Ctl). Some e) same)

pub reads_exactly : (text : List ℕ) (c : Ctl) → Reads text c ↔ (read text ≡ Ok c)
reads_exactly text c = (reads_so text c, read_is text c)

-- where there is no word, and where a text with a word says nothing

pub faults : (text : List ℕ) → ((read text ≡ Err bad_word) ↔ (is_control_word (first_word text) ≡ false)) × ((read text ≡ Err bad_argument) ↔ ((is_control_word (first_word text) ≡ true) × ((c : Ctl) → Reads text c → ⊥)))
faults text = by (is_control_word (first_word text)) (said (without_newline text)) refl refl
  where
    no_control : (c : Ctl) → read text ≡ Ok c → is_control_word (first_word text) ≡ true → said (without_newline text) ≡ None → ⊥
    no_control c is word none = let plain_word = rw word at is in let nothing = rw none at plain_word in absurd (cc nothing)

    by : (w : Bool) (o : Option Ctl) → is_control_word (first_word text) ≡ w → said (without_newline text) ≡ o
        → (((if w then ok_or o bad_argument else Err bad_word) ≡ Err bad_word) ↔ (w ≡ false)) × (((if w then ok_or o bad_argument else Err bad_word) ≡ Err bad_argument) ↔ ((w ≡ true) × ((c : Ctl) → Reads text c → ⊥)))
    by false o none said = ((λ is. refl, λ is. refl), (λ is. absurd (cc is), λ both. absurd (false≢true both.0)))
    by true None word none = ((λ is. absurd (cc is), λ is. absurd (false≢true (sym is))), (λ is. (refl, λ c reads. no_control c (reads_so text c reads) word none), λ both. refl))
    by true (Some d) word some = ((λ is. absurd (cc is), λ is. absurd (false≢true (sym is))), (λ is. absurd (cc is), λ both. absurd (both.1 d (said_reads text d some))))
