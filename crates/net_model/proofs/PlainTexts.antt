-- The lines and the names that a reply lists are texts: bytes without newlines.
use Rattle.std.proofs.Common.{◌≡◌, ℕ, zero, suc, ◌+◌, ◌/◌, ◌%◌, ◌^◌, ◌==◌, Bool, true, false, cond, List, [], ◌∷◌, ◌++◌, map, Option, Some, None, refl, sym, subst, ◌∙◌, arith}
use Rattle.std.specs.Prelude.{nat_lt, flat_map, codes, decimal}
use Rattle.std.specs.Fmt.{digits, digits_onto, digit_glyph}
use Rattle.std.proofs.lemmas.Bool.{and_from, cond_both, ltb-false}
use Rattle.std.proofs.lemmas.Bool.Decides.{nat_tests}
use Rattle.std.proofs.lemmas.List.Folds.{list_all-append}
use Rattle.net_base.specs.declared.address.Proto.{Proto}
use Rattle.net_base.specs.declared.address.Proto.TheVariants as proto
use Rattle.net_base.specs.declared.names.Node.{Node}
use Rattle.net_base.specs.declared.names.Node.TheVariants as node
use Rattle.net_base.specs.Ndb.{NdbPair}
use Rattle.net_base.specs.declared.reply.Reply.{Reply}
use Rattle.net_base.specs.declared.reply.Reply.TheVariants as reply
use Rattle.net_base.specs.Addresses.{address_text}
use Rattle.net_base.specs.Cs.{CsAnswer, Query, proto_name, nets_of, host_words, is_any, address_texts, host_addresses, ports_of, cs_line, address_lines, refused_where_empty, answer_query, answer_read}
use Rattle.net_base.specs.Desk.{cs_reply}
use Rattle.net_base.specs.Paths.{names}
use Rattle.net_base.specs.World.{is_text}
use Rattle.net_model.proofs.CsLaws.{any_text}
use Rattle.history_laws.proofs.Shared.{Each, each_any, each_append, each_map, each_flat_map}

-- Texts.

abbrev pub IsText : List ℕ → Type 0
IsText text = is_text text ≡ true

pub text_append : (xs ys : List ℕ) → IsText xs → IsText ys → IsText (xs ++ ys)
text_append xs ys one two = list_all-append _ xs ys ∙ and_from _ _ one two

digit_text : (n : ℕ) (digits : List ℕ) → IsText digits → IsText (digit_glyph false (n % 10) ∷ digits)
digit_text n digits rest =
    cond_both (nat_lt (n % 10) 10) (48 + n % 10) (87 + n % 10) (λ (d : ℕ). IsText (d ∷ digits))
    (λ _. and_from _ _ (grind (arith, nat_tests)) rest)
    (λ high. absurd (omega (arith, ltb-false (n % 10) 10 high)))

digits_text : (k n : ℕ) (digits : List ℕ) → IsText digits → IsText (digits_onto k 10 false n digits)
digits_text zero n digits rest = rest
digits_text (suc k) n digits rest =
    cond_both (n / 10 == 0) _ _ (λ (ds : List ℕ). IsText ds)
    (λ _. digit_text n digits rest)
    (λ _. digits_text k (n / 10) (digit_glyph false (n % 10) ∷ digits) (digit_text n digits rest))

pub decimal_text : (n : ℕ) → IsText (decimal n)
unfolding digits
decimal_text n = digits_text 64 n [] refl

numbers_text : (ns : List ℕ) → Each IsText (map decimal ns)
numbers_text ns = each_map IsText decimal ns (each_any (λ (n : ℕ). IsText (decimal n)) decimal_text ns)

-- The lines of cs.

dotted : (front : List ℕ) (n : ℕ) → IsText front → IsText (front ++ codes "." ++ decimal n)
dotted front n text = text_append (front ++ codes ".") (decimal n) (text_append front (codes ".") text refl) (decimal_text n)

address_is_text : (ip : ℕ) → IsText (address_text ip)
address_is_text ip =
    let a = decimal (ip / 2 ^ 24) in
    let b = decimal (ip / 2 ^ 16 % 256) in
    let c = decimal (ip / 2 ^ 8 % 256) in
    dotted (a ++ codes "." ++ b ++ codes "." ++ c) (ip % 256)
    (dotted (a ++ codes "." ++ b) (ip / 2 ^ 8 % 256) (dotted a (ip / 2 ^ 16 % 256) (decimal_text (ip / 2 ^ 24))))

clone_text : (net : Proto) → IsText (codes "/net/" ++ proto_name net ++ codes "/clone ")
clone_text proto.Il = refl
clone_text proto.Udp = refl

line_text : (net : Proto) (address : List ℕ) (port : ℕ) → IsText address → IsText (cs_line net address port)
line_text net address port text =
    let front = codes "/net/" ++ proto_name net ++ codes "/clone " in
    text_append (front ++ address ++ codes "!") (decimal port)
    (text_append (front ++ address) (codes "!") (text_append front address (clone_text net) text) refl)
    (decimal_text port)

lines_text : (db : List (List (List NdbPair))) (service : List ℕ) (net : Proto) (addresses : List (List ℕ)) → Each IsText addresses → Each IsText (address_lines db service addresses net)
lines_text db service net [] all = tt
lines_text db service net (address ∷ addresses) all =
    each_append IsText (map (cs_line net address) (ports_of db service net)) (address_lines db service addresses net)
    (each_map IsText (cs_line net address) (ports_of db service net) (each_any (λ (port : ℕ). IsText (cs_line net address port)) (λ port. line_text net address port all.0) (ports_of db service net)))
    (lines_text db service net addresses all.1)

texts_are : (db : List (List (List NdbPair))) (me host : List ℕ) (any : Bool) → is_any host ≡ any → Each IsText (cond any (host ∷ []) (map address_text (host_addresses db me host)))
texts_are db me host true is = (subst IsText (sym (any_text host is)) refl, tt)
texts_are db me host false is =
    each_map IsText address_text (host_addresses db me host) (each_any (λ (ip : ℕ). IsText (address_text ip)) address_is_text (host_addresses db me host))

-- Replies.

-- what the reply lists are texts
abbrev pub ListsTexts : Reply → Type 0
ListsTexts (reply.Lines lines) = Each IsText lines
ListsTexts (reply.Names names) = Each IsText names
ListsTexts _ = Unit {0}

refused_or : {X : Type 0} (number : ℕ) (xs : List X) (answer : CsAnswer) → ListsTexts (cs_reply answer) → ListsTexts (cs_reply (refused_where_empty number xs answer))
refused_or number [] answer texts = tt
refused_or number (x ∷ xs) answer texts = texts

query_texts : (db : List (List (List NdbPair))) (me : List ℕ) (nets : List Proto) (query : Query) → ListsTexts (cs_reply (answer_query db me nets query))
query_texts db me nets query =
    let found = address_texts db me query.host in
    refused_or 2 (nets_of nets query.net) _
    (refused_or 5 (host_words db me query.host) _
    (refused_or 3 found _
    (refused_or 4 (flat_map (ports_of db query.service) (nets_of nets query.net)) _
    (each_flat_map IsText (address_lines db query.service found) (λ net. lines_text db query.service net found (texts_are db me query.host (is_any query.host) refl)) (nets_of nets query.net)))))

-- what cs answers lists texts
pub cs_texts : (db : List (List (List NdbPair))) (me : List ℕ) (nets : List Proto) (query : Option Query) → ListsTexts (cs_reply (answer_read db me nets query))
cs_texts db me nets None = tt
cs_texts db me nets (Some query) = query_texts db me nets query

pub names_text : (n : Node) (taken : List ℕ) → Each IsText (names n taken)
names_text node.Root taken = (refl, (refl, (refl, tt)))
names_text (node.Proto p) taken = (refl, numbers_text taken)
names_text (node.Dir p n) taken = (refl, (refl, (refl, (refl, (refl, (refl, (refl, tt)))))))
names_text _ taken = tt
