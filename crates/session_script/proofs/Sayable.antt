-- The steps of a session are steps that a world file can say.
use Rattle.std.proofs.Common.{◌≡◌, ◌≤◌, ◌<◌, ℕ, zero, suc, ◌+◌, ◌%◌, ◌^◌, ◌==◌, ◌&&◌, ◌||◌, min, not, Bool, true, false, List, [], ◌∷◌, ◌++◌, length, map, Option, Some, None, option_map, cond, refl, sym, ◌∙◌, ap, subst, arith, decimal}
use Rattle.std.specs.Prelude.{codes, option_to_list, nat_lt, nat_le}
use Rattle.std.specs.List.{list_all, list_any, slice_split}
use Rattle.std.specs.Option.{option_and_then}
use Rattle.std.specs.Int.Digits.{digits_of}
use Rattle.std.proofs.lemmas.Bool.{and_parts, and_from, lt-ltb}
use Rattle.std.proofs.lemmas.Bool.Decides.{nat_tests}
use Rattle.std.proofs.lemmas.Fmt.{decimal_by_steps}
use Rattle.std.proofs.lemmas.Int.Digits.{length-digits_of-le}
use Rattle.std.proofs.lemmas.List.Folds.{list_all-append}
use Rattle.net_base.specs.declared.address.Proto.TheVariants as proto
use Rattle.net_base.specs.declared.names.FileName.{FileName}
use Rattle.net_base.specs.declared.names.FileName.TheVariants as file
use Rattle.net_base.specs.declared.names.Mode.{Mode}
use Rattle.net_base.specs.declared.names.Node.{Node}
use Rattle.net_base.specs.declared.names.Node.TheVariants as node
use Rattle.net_base.specs.declared.world.Step.{Step}
use Rattle.net_base.specs.declared.world.Step.TheVariants as step
use Rattle.net_base.specs.Numeral.{numeral}
use Rattle.net_base.specs.Paths.{checked_node, file_name, node_in_range, is_named, node_of, path_of, walk}
use Rattle.net_base.specs.World.{is_byte, is_name, is_name_byte, is_step, is_text, is_within, is_word}
use Rattle.words.proofs.Shared.{numeral_by_steps}
use Rattle.net_base.specs.declared.ninep.Tmsg.{Tmsg}
use Rattle.net_base.specs.declared.ninep.Tmsg.TheVariants as t
use Rattle.net_base.specs.NinepFields.{Holds, number_bytes}
use Rattle.net_base.specs.NinepMessages.{IsTmsg, t_bytes}
use Rattle.net_base.specs.SessionFiles.{access, can_open, child, is_cs, is_plain, parent, reached, step_to}
use Rattle.net_base.specs.SessionScript.{Begins, IsScript, IsStream, table_next, attaches, begins_session, bound_by, changed, close_step, cs_step, fid_name, gives_nothing, is_query, open_step, opened_target, opening_step, read_count, read_step, reading_step, room, source, message_step, steps_of, text_end, walks_from, write_step}
use Rattle.net_base.specs.declared.ninep.Target.{Target}
use Rattle.net_base.specs.SessionTable.{IsSound, Table, fresh, is_taken, opening, with_target, set, used}

within : (n : ℕ) → 1 ≤ n → n ≤ 65536 → is_within 1 65536 n ≡ true
within n some few = and_from (nat_le 1 n) (nat_le n 65536) (grind (arith, nat_tests)) (grind (arith, nat_tests))

all_both : (p : ℕ → Bool) (xs ys : List ℕ) → list_all p xs ≡ true → list_all p ys ≡ true → list_all p (xs ++ ys) ≡ true
all_both p xs ys a b = list_all-append p xs ys ∙ and_from (list_all p xs) (list_all p ys) a b

behind : (p : ℕ → Bool) (xs ys : List ℕ) → list_all p (xs ++ ys) ≡ true → list_all p ys ≡ true
behind p xs ys all = (and_parts (list_all p xs) (list_all p ys) (sym (list_all-append p xs ys) ∙ all)).1

front : (p : ℕ → Bool) (xs ys : List ℕ) → list_all p (xs ++ ys) ≡ true → list_all p xs ≡ true
front p xs ys all = (and_parts (list_all p xs) (list_all p ys) (sym (list_all-append p xs ys) ∙ all)).0

-- ---- names of fids

name_digit : (d : ℕ) → d < 10 → is_name_byte (48 + d) ≡ true
name_digit d lt = grind (arith, nat_tests)

name_digits : (n : ℕ) → list_all is_name_byte (numeral n) ≡ true
name_digits n =
    numeral_by_steps (λ m ds. list_all is_name_byte ds ≡ true)
    (λ m lt. and_from (is_name_byte (48 + m)) true (name_digit m lt) refl)
    (λ m ds ten told. all_both is_name_byte ds ((48 + m % 10) ∷ []) told (and_from (is_name_byte (48 + m % 10)) true (name_digit (m % 10) (omega arith)) refl))
    n

pub length_shown : (ds : List ℕ) → length (map (λ digit. 48 + digit) ds) ≡ length ds
length_shown [] = refl
length_shown (d ∷ ds) = omega (arith, length_shown ds)

few_digits : (n : ℕ) → n < 10 ^ 10 → length (numeral n) ≤ 10
unfolding numeral
few_digits zero lt = omega arith
few_digits (suc n) lt =
    let few : length (digits_of 10 (suc n)) ≤ 10 = length-digits_of-le 10 10 (suc n) (omega arith) lt in
    omega (arith, few, length_shown (digits_of 10 (suc n)))

named : (fid : ℕ) → Holds 4 fid → is_name (fid_name fid) ≡ true
named fid holds =
    and_from (list_all is_name_byte (numeral fid)) (nat_lt (length (numeral fid)) 27)
    (name_digits fid)
    (lt-ltb (length (numeral fid)) 27 (omega (arith, few_digits fid (omega (arith, holds)))))

-- ---- paths

abbrev is_word_byte : ℕ → Bool
is_word_byte c = is_byte c && not ((c == 32) || (c == 10))

word_digit : (d : ℕ) → d < 10 → is_word_byte (48 + d) ≡ true
word_digit d lt = grind (arith, nat_tests)

word_digits : (n : ℕ) → n < 2 ^ 64 → list_all is_word_byte (decimal n) ≡ true
word_digits =
    decimal_by_steps (λ m ds. list_all is_word_byte ds ≡ true)
    (λ m lt. and_from (is_word_byte (48 + m)) true (word_digit m lt) refl)
    (λ m ds ten told. all_both is_word_byte ds ((48 + m % 10) ∷ []) told (and_from (is_word_byte (48 + m % 10)) true (word_digit (m % 10) (omega arith)) refl))

file_word : (f : FileName) → list_all is_word_byte (file_name f) ≡ true
file_word file.Ctl = refl
file_word file.Data = refl
file_word file.Err = refl
file_word file.Listen = refl
file_word file.Local = refl
file_word file.Remote = refl
file_word file.Status = refl

slot_small : (n : ℕ) → nat_lt n 32 ≡ true → n < 2 ^ 64
slot_small n is = omega (arith, small)
  where
    small : n < 32
    small = grind (arith, nat_tests)

last_word : (n : ℕ) (f : FileName) → n < 2 ^ 64 → list_all is_word_byte ((decimal n ++ codes "/") ++ file_name f) ≡ true
last_word n f small =
    all_both is_word_byte (decimal n ++ codes "/") (file_name f) (all_both is_word_byte (decimal n) (codes "/") (word_digits n small) refl) (file_word f)

path_word : (at : Node) → node_in_range at ≡ true → is_word (path_of at) ≡ true
path_word node.Root is = refl
path_word node.Cs is = refl
path_word (node.Proto proto.Il) is = refl
path_word (node.Proto proto.Udp) is = refl
path_word (node.Clone proto.Il) is = refl
path_word (node.Clone proto.Udp) is = refl
path_word (node.Dir proto.Il n) is = word_digits n (slot_small n is)
path_word (node.Dir proto.Udp n) is = word_digits n (slot_small n is)
path_word (node.File proto.Il n f) is = last_word n f (slot_small n is)
path_word (node.File proto.Udp n f) is = last_word n f (slot_small n is)

-- ---- tables

-- it stands for a node whose slot is one
abbrev Stands : Option Target → Type 0
Stands o = (f : Target) → o ≡ Some f → node_in_range f.node ≡ true

-- .. and this is such a node, if there is one
abbrev IsIn : Option Node → Type 0
IsIn None = Unit {0}
IsIn (Some at) = node_in_range at ≡ true

stands_for : (f : Target) → node_in_range f.node ≡ true → Stands (Some f)
stands_for f is g same = subst (λ (x : Target). node_in_range x.node ≡ true) (some_is f g same) is
  where
    some_is : (x y : Target) → Some x ≡ Some y → x ≡ y
    some_is x y e = cc

for_none : Stands None
for_none f same = absurd (cc)

either_stands : (b : Bool) (x y : Option Target) → Stands x → Stands y → Stands (cond b x y)
either_stands true x y a c = a
either_stands false x y a c = c

set_sound : (n : ℕ) (o : Option Target) (table : Table) → Stands o → IsSound table → IsSound (set n o table)
set_sound n o table is s = record {
  least = s.least;
  most = s.most;
  nodes = λ fid. either_stands (n == fid) o (table.fids fid) is (s.nodes fid);
}

put_sound : (n : ℕ) (o : Option Target) (table : Table) → Stands o → IsSound table → IsSound (with_target n o table)
put_sound n None table is s = s
put_sound n (Some f) table is s = set_sound n (Some f) table is s

parent_in : (at : Node) → node_in_range at ≡ true → node_in_range (parent at) ≡ true
parent_in node.Root is = refl
parent_in node.Cs is = refl
parent_in (node.Proto p) is = refl
parent_in (node.Clone p) is = refl
parent_in (node.Dir p n) is = refl
parent_in (node.File p n f) is = is

either_in : (b : Bool) (x y : Option Node) → IsIn x → IsIn y → IsIn (cond b x y)
either_in true x y a c = a
either_in false x y a c = c

checked_in : (path : List ℕ) (o : Option Node) → IsIn (checked_node path o)
checked_in path None = tt
checked_in path (Some at) = by (is_named path at) refl
  where
    by : (b : Bool) → is_named path at ≡ b → IsIn (cond b (Some at) None)
    by true is = (and_parts (node_in_range at) _ is).0
    by false is = tt

child_in : (at : Node) (name : List ℕ) → IsIn (child at name)
child_in at name =
    let path : List ℕ = path_of at ++ codes "/" ++ name in
    either_in (list_any (λ (b : ℕ). b == 47) name) None (walk path) tt (checked_in path (node_of (slice_split (λ b. b == 47) path)))

step_in : (at : Node) (name : List ℕ) → node_in_range at ≡ true → IsIn (step_to at name)
step_in at name is = either_in _ (Some (parent at)) (child at name) (parent_in at is) (child_in at name)

on_in : (o : Option Node) (go_on : Node → Option Node) → ((at : Node) → node_in_range at ≡ true → IsIn (go_on at)) → IsIn o → IsIn (option_and_then go_on o)
on_in None go_on each is = tt
on_in (Some at) go_on each is = each at is

reached_in : (at : Node) (names : List (List ℕ)) → node_in_range at ≡ true → IsIn (reached at names)
reached_in at [] is = is
reached_in at (name ∷ names) is = on_in (step_to at name) (λ (next : Node). reached next names) (λ next. reached_in next names) (step_in at name is)

fresh_stands : (o : Option Node) → IsIn o → Stands (option_map fresh o)
fresh_stands None is = for_none
fresh_stands (Some at) is = stands_for (fresh at) is

opened_stands : (mode : ℕ) (o : Option Target) → Stands o → Stands (option_and_then (opened_target mode) o)
opened_stands mode None is = for_none
opened_stands mode (Some f) is =
    either_stands (can_open f.node mode) (Some (record f { is_used = true })) None (stands_for (record f { is_used = true }) (is f refl)) for_none

walked_stands : (table : Table) (fid newfid : ℕ) (names : List (List ℕ)) → IsSound table → Stands (bound_by table fid newfid names)
walked_stands table fid newfid names s =
    fresh_stands (option_and_then (λ (at : Node). reached at names) (source table fid newfid))
    (on_in (source table fid newfid) (λ (at : Node). reached at names) (λ at. reached_in at names) (begun (table.fids fid) (s.nodes fid)))
  where
    begun : (o : Option Target) → Stands o → IsIn (option_and_then (walks_from table fid newfid) o)
    begun None is = tt
    begun (Some f) is = either_in (is_taken table fid newfid || f.is_used) None (Some f.node) tt (is f refl)

either_sound : (b : Bool) (x y : Table) → (b ≡ true → IsSound x) → IsSound y → IsSound (cond b x y)
either_sound true x y a c = a refl
either_sound false x y a c = c

heard_sound : (table : Table) (msize : ℕ) → IsSound table → begins_session table msize ≡ true → IsSound (record table { msize = min msize table.msize })
heard_sound table msize s is = record {
  least = omega (arith, enough, s.least);
  most = omega (arith, s.most);
  nodes = s.nodes;
}
  where
    test : nat_le 256 msize ≡ true
    test = (and_parts table.is_first (nat_le 256 msize) is).1

    enough : 256 ≤ msize
    enough = grind (arith, nat_tests)

changed_sound : (table : Table) (m : Tmsg) → IsSound table → IsSound (changed table m)
changed_sound table (t.Version tag msize version) s =
    either_sound (begins_session table msize) (record table { msize = min msize table.msize }) table (heard_sound table msize s) s
changed_sound table (t.Auth tag afid uname aname) s = s
changed_sound table (t.Attach tag fid afid uname aname) s =
    either_sound (attaches table fid afid) (set fid (Some (fresh node.Root)) table) table
    (λ is. set_sound fid (Some (fresh node.Root)) table (stands_for (fresh node.Root) refl) s)
    s
changed_sound table (t.Flush tag oldtag) s = s
changed_sound table (t.Walk tag fid newfid names) s = put_sound newfid (bound_by table fid newfid names) table (walked_stands table fid newfid names s) s
changed_sound table (t.Open tag fid mode) s =
    put_sound fid (option_and_then (opened_target mode) (table.fids fid)) table (opened_stands mode (table.fids fid) (s.nodes fid)) s
changed_sound table (t.Create tag fid name perm mode) s = s
changed_sound table (t.Read tag fid offset count) s = s
changed_sound table (t.Write tag fid offset bytes) s = s
changed_sound table (t.Clunk tag fid) s = set_sound fid None table for_none s
changed_sound table (t.Remove tag fid) s = set_sound fid None table for_none s
changed_sound table (t.Stat tag fid) s = s
changed_sound table (t.Wstat tag fid stat) s = s

pub after_sound : (table : Table) (m : Tmsg) → IsSound table → IsSound (table_next table m)
after_sound table m s = let c = changed_sound table m s in record { least = c.least; most = c.most; nodes = c.nodes }

pub opening_sound : IsSound opening
opening_sound = record { least = omega arith; most = omega arith; nodes = λ fid. for_none }

-- ---- steps

-- a world file can say the step, if there is one
abbrev Says : Option Step → Type 0
Says None = Unit {0}
Says (Some s) = is_step s ≡ true

either_says : (b : Bool) (x y : Option Step) → Says x → Says y → Says (cond b x y)
either_says true x y a c = a
either_says false x y a c = c

known_says : (o : Option Target) (g : Target → Option Step) → ((f : Target) → o ≡ Some f → Says (g f)) → Says (option_and_then g o)
known_says None g each = tt
known_says (Some f) g each = each f refl

open_says : (fid mode : ℕ) (f : Target) → Holds 4 fid → node_in_range f.node ≡ true → Says (open_step fid mode f)
open_says fid mode f holds is = either_says (is_plain f.node) (option_map (opening_step fid f.node) (access mode)) None (by (access mode)) tt
  where
    by : (o : Option Mode) → Says (option_map (opening_step fid f.node) o)
    by None = tt
    by (Some m) =
        and_from (is_name (fid_name fid)) (is_word (path_of f.node) && true) (named fid holds) (and_from (is_word (path_of f.node)) true (path_word f.node is) refl)

reads_says : (fid n : ℕ) → Holds 4 fid → 1 ≤ n → n ≤ 65536 → Says (Some (reading_step fid n))
reads_says fid n holds some few = and_from (is_name (fid_name fid)) (is_within 1 65536 n) (named fid holds) (within n some few)

count_says : (fid offset most : ℕ) (at : Node) → Holds 4 fid → 1 ≤ most → most ≤ 65536 → Says (option_map (reading_step fid) (read_count offset most at))
count_says fid offset most node.Root holds some few = tt
count_says fid offset most node.Cs holds some few = tt
count_says fid offset most (node.Proto p) holds some few = tt
count_says fid offset most (node.Clone p) holds some few = reads_says fid (min text_end (offset + most)) holds (omega (arith, some)) (omega arith)
count_says fid offset most (node.Dir p n) holds some few = tt
count_says fid offset most (node.File p n file.Ctl) holds some few = reads_says fid (min text_end (offset + most)) holds (omega (arith, some)) (omega arith)
count_says fid offset most (node.File p n file.Data) holds some few = reads_says fid most holds some few
count_says fid offset most (node.File p n file.Err) holds some few = reads_says fid (min text_end (offset + most)) holds (omega (arith, some)) (omega arith)
count_says fid offset most (node.File p n file.Listen) holds some few = reads_says fid (min text_end (offset + most)) holds (omega (arith, some)) (omega arith)
count_says fid offset most (node.File p n file.Local) holds some few = reads_says fid (min text_end (offset + most)) holds (omega (arith, some)) (omega arith)
count_says fid offset most (node.File p n file.Remote) holds some few = reads_says fid (min text_end (offset + most)) holds (omega (arith, some)) (omega arith)
count_says fid offset most (node.File p n file.Status) holds some few = reads_says fid (min text_end (offset + most)) holds (omega (arith, some)) (omega arith)

read_says : (table : Table) (fid offset count : ℕ) (f : Target) → Holds 4 fid → IsSound table → Says (read_step table fid offset count f)
read_says table fid offset zero f holds s = tt
read_says table fid offset (suc n) f holds s =
    either_says (gives_nothing f.node offset (suc n)) None (option_map (reading_step fid) (read_count offset (room table (suc n)) f.node)) tt
    (count_says fid offset (room table (suc n)) f.node holds (omega (arith, s.least)) (omega (arith, s.most)))

text_said : (bytes : List ℕ) → list_all is_byte bytes ≡ true → list_any (λ (b : ℕ). b == 10) bytes ≡ false → is_text bytes ≡ true
text_said [] all none = refl
text_said (b ∷ bytes) all none =
    let byte = and_parts (is_byte b) (list_all is_byte bytes) all in
    let line = neither (b == 10) (list_any (λ (x : ℕ). x == 10) bytes) none in
    and_from (is_byte b && not (b == 10)) (is_text bytes) (and_from (is_byte b) (not (b == 10)) byte.0 (ap not line.0)) (text_said bytes byte.1 line.1)
  where
    neither : (x y : Bool) → (x || y) ≡ false → (x ≡ false) × (y ≡ false)
    neither true y e = absurd (cc)
    neither false y e = (refl, e)

cs_says : (bytes : List ℕ) → list_all is_byte bytes ≡ true → Says (cs_step bytes)
cs_says bytes all = by (is_query bytes) refl
  where
    no_newline : (x : Bool) → not x ≡ true → x ≡ false
    no_newline true e = absurd (cc)
    no_newline false e = refl

    by : (b : Bool) → is_query bytes ≡ b → Says (cond b (Some (step.Cs bytes)) None)
    by true is = text_said bytes all (no_newline (list_any (λ (b : ℕ). b == 10) bytes) (and_parts (nat_lt 0 (length bytes)) _ is).1)
    by false is = tt

write_says : (fid : ℕ) (bytes : List ℕ) (f : Target) → Holds 4 fid → list_all is_byte bytes ≡ true → Says (write_step fid bytes f)
write_says fid bytes f holds all =
    either_says (is_cs f.node) (cs_step bytes) (Some (step.Writex (fid_name fid) bytes)) (cs_says bytes all) (and_from (is_name (fid_name fid)) (list_all is_byte bytes) (named fid holds) all)

close_says : (fid : ℕ) (f : Target) → Holds 4 fid → Says (close_step fid f)
close_says fid f holds = either_says (is_plain f.node) (Some (step.Close (fid_name fid))) None (named fid holds) tt

-- the bytes of a message
abbrev data_of : Tmsg → List ℕ
data_of (t.Write tag fid offset bytes) = bytes
data_of _ = []

step_says : (table : Table) (m : Tmsg) → IsSound table → IsTmsg m → list_all is_byte (data_of m) ≡ true → Says (message_step table m)
step_says table (t.Version tag msize version) s is all = tt
step_says table (t.Auth tag afid uname aname) s is all = tt
step_says table (t.Attach tag fid afid uname aname) s is all = tt
step_says table (t.Flush tag oldtag) s is all = tt
step_says table (t.Walk tag fid newfid names) s is all = tt
step_says table (t.Open tag fid mode) s is all = known_says (table.fids fid) (open_step fid mode) (λ f stands. open_says fid mode f is.0 (s.nodes fid f stands))
step_says table (t.Create tag fid name perm mode) s is all = tt
step_says table (t.Read tag fid offset count) s is all = known_says (used table fid) (read_step table fid offset count) (λ f stands. read_says table fid offset count f is.0 s)
step_says table (t.Write tag fid offset bytes) s is all = known_says (used table fid) (write_step fid bytes) (λ f stands. write_says fid bytes f is.0 all)
step_says table (t.Clunk tag fid) s is all = known_says (used table fid) (close_step fid) (λ f stands. close_says fid f is)
step_says table (t.Remove tag fid) s is all = known_says (used table fid) (close_step fid) (λ f stands. close_says fid f is)
step_says table (t.Stat tag fid) s is all = tt
step_says table (t.Wstat tag fid stat) s is all = tt

data_bytes : (m : Tmsg) → list_all is_byte (t_bytes m) ≡ true → list_all is_byte (data_of m) ≡ true
unfolding t_bytes
data_bytes (t.Version tag msize version) all = refl
data_bytes (t.Auth tag afid uname aname) all = refl
data_bytes (t.Attach tag fid afid uname aname) all = refl
data_bytes (t.Flush tag oldtag) all = refl
data_bytes (t.Walk tag fid newfid names) all = refl
data_bytes (t.Open tag fid mode) all = refl
data_bytes (t.Create tag fid name perm mode) all = refl
data_bytes (t.Read tag fid offset count) all = refl
data_bytes (t.Write tag fid offset bytes) all =
    behind is_byte (number_bytes 4 (length bytes)) bytes
    (behind is_byte (number_bytes 8 offset) (number_bytes 4 (length bytes) ++ bytes)
    (behind is_byte (number_bytes 4 fid) (number_bytes 8 offset ++ (number_bytes 4 (length bytes) ++ bytes))
    (behind is_byte (number_bytes 2 tag) (number_bytes 4 fid ++ (number_bytes 8 offset ++ (number_bytes 4 (length bytes) ++ bytes)))
    (behind is_byte (number_bytes 1 118) (number_bytes 2 tag ++ (number_bytes 4 fid ++ (number_bytes 8 offset ++ (number_bytes 4 (length bytes) ++ bytes))))
    (behind is_byte (number_bytes 4 (7 + length (number_bytes 4 fid ++ (number_bytes 8 offset ++ (number_bytes 4 (length bytes) ++ bytes)))))
    (number_bytes 1 118 ++ (number_bytes 2 tag ++ (number_bytes 4 fid ++ (number_bytes 8 offset ++ (number_bytes 4 (length bytes) ++ bytes))))) all)))))
data_bytes (t.Clunk tag fid) all = refl
data_bytes (t.Remove tag fid) all = refl
data_bytes (t.Stat tag fid) all = refl
data_bytes (t.Wstat tag fid stat) all = refl

-- ---- scripts

held : (o : Option Step) (steps : List Step) → Says o → list_all is_step steps ≡ true → list_all is_step (option_to_list o ++ steps) ≡ true
held None steps is all = all
held (Some s) steps is all = and_from (is_step s) (list_all is_step steps) is all

all_said : (table : Table) (ms : List Tmsg) (bytes : List ℕ) → IsSound table → list_all is_byte bytes ≡ true → IsStream table ms bytes → list_all is_step (steps_of table ms) ≡ true
all_said table [] bytes s all is = refl
all_said table (m ∷ ms) bytes s all is =
    let begun : Begins table.msize m bytes is.0 = is.1 in
    let whole : list_all is_byte (t_bytes m ++ is.0) ≡ true = subst (λ (xs : List ℕ). list_all is_byte xs ≡ true) begun.whole all in
    held (message_step table m) (steps_of (table_next table m) ms)
    (step_says table m s begun.spells.fields (data_bytes m (front is_byte (t_bytes m) is.0 whole)))
    (all_said (table_next table m) ms is.0 (after_sound table m s) (behind is_byte (t_bytes m) is.0 whole) is.2)

-- each step of a session's script is one that a world file can say
pub script_said : (bytes : List ℕ) (steps : List Step) → list_all is_byte bytes ≡ true → IsScript bytes steps → list_all is_step steps ≡ true
script_said bytes steps all is =
    subst (λ (xs : List Step). list_all is_step xs ≡ true) (sym is.2) (all_said opening is.0 bytes opening_sound all is.1)
