-- The events that scripts record are plain: the words of their steps are those of a world's file, and a dial opens lines of cs.
use Rattle.std.proofs.Common.{◌≡◌, ◌≢◌, ℕ, zero, suc, ◌==◌, ◌&&◌, ◌||◌, ◌+◌, Bool, true, not, List, [], ◌∷◌, ◌++◌, map, take, inl, inr, refl, sym, subst, append_assoc, arith}
use Rattle.std.specs.Prelude.{codes, decimal, nat_lt, length}
use Rattle.std.specs.Int.Digits.{digits_of}
use Rattle.std.specs.List.{list_all, position_or_len}
use Rattle.std.proofs.lemmas.Bool.{and_from, and_parts, or_cases, false≢true}
use Rattle.std.proofs.lemmas.Bool.Decides.{nat_tests}
use Rattle.net_base.specs.declared.actor.ActorName.{ActorName}
use Rattle.net_base.specs.declared.address.Proto.{Proto}
use Rattle.net_base.specs.declared.address.Proto.TheVariants as proto
use Rattle.net_base.specs.declared.event.Event.{Event}
use Rattle.net_base.specs.declared.event.Event.TheVariants as event
use Rattle.net_base.specs.declared.names.FileName.{FileName}
use Rattle.net_base.specs.declared.names.FileName.TheVariants as file
use Rattle.net_base.specs.declared.names.Node.{Node}
use Rattle.net_base.specs.declared.names.Node.TheVariants as node
use Rattle.net_base.specs.declared.reply.Reply.{Reply}
use Rattle.net_base.specs.declared.reply.Reply.TheVariants as reply
use Rattle.net_base.specs.declared.world.Step.{Step}
use Rattle.net_base.specs.declared.world.Step.TheVariants as step
use Rattle.net_base.specs.DatagramHeaders.{has_headers}
use Rattle.net_base.specs.Plain.{IsClean, IsWord, IsLine, AreLines, AreBytes, IsPlainEvent, IsPlainReply}
use Rattle.net_base.specs.Steps.{call_names, is_blank, clone_path, reply_lines, dotted_name}
use Rattle.net_base.specs.Exports.{dotted_fid}
use Rattle.net_base.specs.Numeral.{numeral}
use Rattle.net_base.specs.Paths.{file_name, path_of, proto_name}
use Rattle.net_base.specs.Remotes.{is_remote_path}
use Rattle.net_base.specs.World.{is_within, is_letter, is_name_byte, is_name, is_byte, is_text, is_word, is_step}
use Rattle.history_laws.proofs.Shared.{Each, IsOther, own_other, IsOpened, IsNamed, Fits, IsExporting, Says}
use Rattle.net_model.proofs.PlainTexts.{IsText, ListsTexts, decimal_text, text_append}
use Rattle.net_base.proofs.Shared.{byte-small}

-- The words of a file.

letter_clean : (b : ℕ) → is_letter b ≡ true → (b ≢ 32) × (b ≢ 10)
letter_clean b is = (λ same. grind (arith, nat_tests), λ same. grind (arith, nat_tests))

digit_clean : (b : ℕ) → is_within 48 57 b ≡ true → (b ≢ 32) × (b ≢ 10)
digit_clean b is = (λ same. grind (arith, nat_tests), λ same. grind (arith, nat_tests))

dash_clean : (b : ℕ) → (b == 45) ≡ true → (b ≢ 32) × (b ≢ 10)
dash_clean b is = (λ same. grind (arith, nat_tests), λ same. grind (arith, nat_tests))

byte_clean : (b : ℕ) → is_name_byte b ≡ true → (b ≢ 32) × (b ≢ 10)
byte_clean b is =
    elim (or_cases (is_letter b) (is_within 48 57 b || (b == 45)) is) [
      | inl letter ↦ letter_clean b letter
      | inr other ↦ elim (or_cases (is_within 48 57 b) (b == 45) other) [
        | inl digit ↦ digit_clean b digit
        | inr dash ↦ dash_clean b dash
      ]
    ]

bytes_clean : (bytes : List ℕ) → list_all is_name_byte bytes ≡ true → IsClean bytes
bytes_clean [] all = tt
bytes_clean (b ∷ bytes) all =
    let parts = and_parts (is_name_byte b) (list_all is_name_byte bytes) all in
    let clean = byte_clean b parts.0 in
    (clean.0, clean.1, bytes_clean bytes parts.1)

-- a name is clean, and a word
name_clean : (called : List ℕ) → is_name called ≡ true → IsClean called
name_clean [] is = absurd (false≢true is)
name_clean (b ∷ bytes) is =
    let parts = and_parts (is_letter b) (list_all is_name_byte bytes && nat_lt (length bytes) 27) is in
    let clean = letter_clean b parts.0 in
    (clean.0, clean.1, bytes_clean bytes (and_parts (list_all is_name_byte bytes) (nat_lt (length bytes) 27) parts.1).0)

name_word : (called : List ℕ) → is_name called ≡ true → IsWord called
name_word [] is = absurd (false≢true is)
name_word (b ∷ bytes) is = name_clean (b ∷ bytes) is

-- so is a name behind a dot
dotted_word : (called : List ℕ) → is_name called ≡ true → IsWord (dotted_name called)
dotted_word called is = (λ same. omega (arith, same), λ same. omega (arith, same), name_clean called is)

-- bytes that pass a test that bytes pass alone
bytes_are : (test : ℕ → Bool) → ((b : ℕ) → test b ≡ true → is_byte b ≡ true) → (bytes : List ℕ) → list_all test bytes ≡ true → AreBytes bytes
bytes_are test holds [] all = tt
bytes_are test holds (b ∷ bytes) all =
    let parts = and_parts (test b) (list_all test bytes) all in
    (byte-small b (holds b parts.0), bytes_are test holds bytes parts.1)

word_bytes : (word : List ℕ) → is_word word ≡ true → AreBytes word
word_bytes [] is = tt
word_bytes (b ∷ bytes) is = bytes_are _ (λ c passes. (and_parts (is_byte c) (not ((c == 32) || (c == 10))) passes).0) (b ∷ bytes) is

text_bytes : (text : List ℕ) → IsText text → AreBytes text
text_bytes text is = bytes_are _ (λ c passes. (and_parts (is_byte c) (not (c == 10)) passes).0) text is

text_line : (text : List ℕ) → IsText text → IsLine text
text_line [] is = tt
text_line (b ∷ bytes) is =
    let parts = and_parts (is_byte b && not (b == 10)) (is_text bytes) is in
    let clean = (and_parts (is_byte b) (not (b == 10)) parts.0).1 in
    (λ same. grind (arith, nat_tests), text_line bytes parts.1)

texts_lines : (texts : List (List ℕ)) → Each IsText texts → AreLines texts
texts_lines [] all = tt
texts_lines (text ∷ texts) all = (text_line text all.0, texts_lines texts all.1)

-- a reply that lists texts is plain
pub plain_reply : (r : Reply) → ListsTexts r → IsPlainReply r
plain_reply (reply.Lines lines) all = texts_lines lines all
plain_reply (reply.Names names) all = texts_lines names all
plain_reply _ all = tt

-- What scripts record.

-- an event that is plain, at any actor
abbrev pub PlainAt : ActorName → Event → Type 0
PlainAt a e = IsPlainEvent e

pub plain_other : (e : Event) → IsOther e → IsPlainEvent e
plain_other (event.OpenPath path mode) other = absurd other
plain_other (event.Use called) other = absurd other
plain_other (event.Misuse called) other = absurd other
plain_other _ other = tt

take_text : (n : ℕ) (text : List ℕ) → IsText text → IsText (take n text)
take_text zero text is = refl
take_text (suc n) [] is = refl
take_text (suc n) (b ∷ bytes) is =
    let parts = and_parts (is_byte b && not (b == 10)) (is_text bytes) is in
    and_from _ _ parts.0 (take_text n bytes parts.1)

-- the clone file of a line
clone_bytes : (line : List ℕ) → IsText line → AreBytes (clone_path line)
clone_bytes line is = text_bytes (clone_path line) (take_text (position_or_len is_blank line) line is)

lines_opened : (lines : List (List ℕ)) → Each IsText lines → Each (λ (line : List ℕ). IsOpened PlainAt (clone_path line)) lines
lines_opened [] all = tt
lines_opened (line ∷ lines) all = (λ a m. clone_bytes line all.0, lines_opened lines all.1)

reply_opened : (r : Reply) → ListsTexts r → Each (λ (line : List ℕ). IsOpened PlainAt (clone_path line)) (reply_lines r)
reply_opened (reply.Lines lines) all = lines_opened lines all
reply_opened _ all = tt

pub fits_plain : Fits PlainAt ListsTexts
fits_plain = record { other = λ a e own. plain_other e (own_other e own); dialled = reply_opened }

named : (h : ℕ) (called : List ℕ) → is_name called ≡ true → IsNamed h PlainAt called
named h called is = (name_word called is, name_word called is)

-- so are the names of a call
dotted_named : (h : ℕ) (called : List ℕ) → is_name called ≡ true → IsNamed h PlainAt (dotted_name called)
dotted_named h called is = (dotted_word called is, dotted_word called is)

calls_named : (h : ℕ) → Each (λ (called : List ℕ). IsNamed h PlainAt called) call_names
calls_named h = (dotted_named h (codes "d") refl, (dotted_named h (codes "c") refl, (dotted_named h (codes "r") refl, (dotted_named h (codes "l") refl, tt))))

-- a name with a dot and a number is a word
digits_clean : (digits : List ℕ) → IsClean (map (λ (digit : ℕ). 48 + digit) digits)
digits_clean [] = tt
digits_clean (d ∷ digits) = (λ same. omega (arith, same), λ same. omega (arith, same), digits_clean digits)

numeral_clean : (n : ℕ) → IsClean (numeral n)
unfolding numeral
numeral_clean zero = (λ same. omega (arith, same), λ same. omega (arith, same), tt)
numeral_clean (suc n) = digits_clean (digits_of 10 (suc n))

numbered_word : (n : ℕ) → IsWord (dotted_fid n)
numbered_word n = (λ same. omega (arith, same), λ same. omega (arith, same), numeral_clean n)

-- the path of a node is made of bytes
proto_text : (p : Proto) → IsText (codes "/net/" ++ proto_name p)
proto_text proto.Il = refl
proto_text proto.Udp = refl

directory_text : (p : Proto) (n : ℕ) → IsText (codes "/net/" ++ proto_name p ++ codes "/" ++ decimal n)
directory_text p n = text_append (codes "/net/" ++ proto_name p ++ codes "/") (decimal n) (text_append (codes "/net/" ++ proto_name p) (codes "/") (proto_text p) refl) (decimal_text n)

file_text : (f : FileName) → IsText (codes "/" ++ file_name f)
file_text file.Ctl = refl
file_text file.Data = refl
file_text file.Err = refl
file_text file.Listen = refl
file_text file.Local = refl
file_text file.Remote = refl
file_text file.Status = refl

path_text : (at : Node) → IsText (path_of at)
path_text node.Root = refl
path_text node.Cs = refl
path_text (node.Proto p) = proto_text p
path_text (node.Clone p) = text_append (codes "/net/" ++ proto_name p) (codes "/clone") (proto_text p) refl
path_text (node.Dir p n) = directory_text p n
path_text (node.File p n f) =
    subst IsText (sym (append_assoc (codes "/net/" ++ proto_name p ++ codes "/" ++ decimal n) (codes "/") (file_name f)))
    (text_append (codes "/net/" ++ proto_name p ++ codes "/" ++ decimal n) (codes "/" ++ file_name f) (directory_text p n) (file_text f))

exporting_plain : (h : ℕ) → IsExporting h PlainAt
exporting_plain h = record {
  named = λ n. (numbered_word n, numbered_word n);
  opened = λ at a m. text_bytes (path_of at) (path_text at);
}

-- a step that a file can say
says_plain : (h : ℕ) (s : Step) → is_step s ≡ true → Says h PlainAt s
says_plain h (step.Open called path m) is =
    let parts = and_parts (is_name called) (is_word path && true) is in
    (named h called parts.0, λ a m. word_bytes path (and_parts (is_word path) true parts.1).0)
says_plain h (step.Read called count) is = named h called (and_parts (is_name called) (is_within 1 65536 count) is).0
says_plain h (step.Write called text) is = named h called (and_parts (is_name called) (is_text text) is).0
says_plain h (step.Writex called text) is = named h called (and_parts (is_name called) (list_all is_byte text) is).0
says_plain h (step.Close called) is = named h called is
says_plain h (step.Ls path) is = tt
says_plain h (step.Cs query) is = tt
says_plain h (step.Until moment) is = tt
says_plain h step.Refresh is = tt
says_plain h (step.Dial called address) is =
    let parts = and_parts (is_name called) (is_word address) is in
    (named h called parts.0, (dotted_word called parts.0, dotted_word called parts.0))
says_plain h (step.Announce called address) is = named h called (and_parts (is_name called) (is_word address) is).0
says_plain h (step.Listen called from) is =
    let parts = and_parts (is_name called) (is_name from) is in
    (named h called parts.0, named h from parts.1)
says_plain h (step.Accept called from) is =
    let parts = and_parts (is_name called) (is_name from) is in
    (named h called parts.0, named h from parts.1)
says_plain h (step.Reject called) is = named h called is
says_plain h (step.Hangup called) is = named h called is
says_plain h (step.Hread called count) is = (named h called (and_parts (is_name called) (is_within 1 65536 count) is).0, calls_named h)
says_plain h (step.Hwrite called bytes) is = (named h called (and_parts (is_name called) (list_all is_byte bytes && has_headers bytes) is).0, calls_named h)
says_plain h (step.Dns called times) is = (named h called (and_parts (is_name called) (is_within 1 1000 times) is).0, calls_named h)
-- imports
says_plain h (step.Export called) is = (named h called is, exporting_plain h)
says_plain h (step.Import call) is = named h call is
says_plain h (step.Ropen called call path m) is =
    let parts = and_parts (is_name called) (is_name call && ((is_word path && is_remote_path path) && true)) is in
    (named h called parts.0, named h call (and_parts (is_name call) ((is_word path && is_remote_path path) && true) parts.1).0)
says_plain h (step.Rread called count) is = named h called (and_parts (is_name called) (is_within 1 488 count) is).0
says_plain h (step.Rwrite called text) is = named h called (and_parts (is_name called) (is_text text && is_within 1 488 (length text)) is).0
says_plain h (step.Rclose called) is = named h called is

pub steps_plain : (h : ℕ) (steps : List Step) → list_all is_step steps ≡ true → Each (λ (s : Step). Says h PlainAt s) steps
steps_plain h [] all = tt
steps_plain h (s ∷ steps) all =
    let parts = and_parts (is_step s) (list_all is_step steps) all in
    (says_plain h s parts.0, steps_plain h steps parts.1)
