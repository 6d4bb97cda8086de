-- The answer of cs from what the reader and the resolver say.
use Rattle.std.proofs.Common.{◌≡◌, ◌≢◌, ℕ, Bool, true, false, List, [], ◌∷◌, Option, Some, None, Result, IfOk, OnOk, Ok, Err, unwrap_or, is_none, if◌then◌else◌, refl, sym, ◌∙◌, ap}
use Rattle.net_base.specs.Ndb.{NdbPair}
use Rattle.net_base.specs.declared.address.Proto.TheVariants.{Il, Udp}
use Rattle.net_base.specs.NdbText.{lines_of}
use Rattle.net_base.specs.NdbBundle.{bad_line, database, reading}
use Rattle.net_model.specs.Answers.{Answer, cs_answer, lines_answer}
use Rattle.net_base.specs.Cs.{CsAnswer, Refused, cs_list}
use Rattle.cs_resolver.specs.Errors.{error_number, Tells}
use Rattle.cs_resolver.specs.declared.error.CsError.{CsError}
use Rattle.cs_resolver.specs.declared.error.CsError.TheVariants.{Memory, BadQuery, NoNet, NoHost, NoService, NoValue}
use Rattle.netsh.specs.Built.{unless_bad, cs_over, dns_lines, dns_over, query_lines, query_over}

some_where : {X : Type 0} (holds : Bool) (x y : X) → (if holds then Some x else None) ≡ Some y → x ≡ y
some_where true x y is = ap (λ o. unwrap_or o x) is
some_where false x y is = cc

-- the tuples of a text are its reading
tuples_read : (text : List ℕ) (db : List (List (List NdbPair))) → reading text ≡ Some db → database (lines_of text) ≡ db
tuples_read text db is = some_where (is_none (bad_line text)) (database (lines_of text)) db is

-- what the resolver found over what the reader read
pub found_over : (sys query input : List ℕ) (db : List (List (List NdbPair))) (found : CsAnswer) → bad_line input ≡ None → reading input ≡ Some db → cs_list db sys (Il ∷ Udp ∷ []) query ≡ found → cs_answer found ≡ cs_over sys query input
found_over sys query input db found good is answers =
    let by_bad : Option (ℕ × ℕ) → Answer = λ bad. unless_bad bad (cs_answer (cs_list (database (lines_of input)) sys (Il ∷ Udp ∷ []) query))
    in let by_db : List (List (List NdbPair)) → Answer = λ d. cs_answer (cs_list d sys (Il ∷ Udp ∷ []) query)
    in sym (ap by_bad good ∙ ap by_db (tuples_read input db is) ∙ ap cs_answer answers)

-- the lines of a query over what the reader read
pub lines_over : (attr value : List ℕ) (other : Option (List ℕ)) (input : List ℕ) (db : List (List (List NdbPair))) (lines : List (List ℕ)) → bad_line input ≡ None → reading input ≡ Some db → lines ≡ query_lines attr value other db → lines_answer lines ≡ query_over attr value other input
lines_over attr value other input db lines good is found =
    let by_bad : Option (ℕ × ℕ) → Answer = λ bad. unless_bad bad (lines_answer (query_lines attr value other (database (lines_of input))))
    in let by_db : List (List (List NdbPair)) → Answer = λ d. lines_answer (query_lines attr value other d)
    in sym (ap by_bad good ∙ ap by_db (tuples_read input db is) ∙ ap lines_answer (sym found))

-- the line of dns over what the reader read
pub reply_over : (word input : List ℕ) (db : List (List (List NdbPair))) (lines : List (List ℕ)) → bad_line input ≡ None → reading input ≡ Some db → lines ≡ dns_lines word db → lines_answer lines ≡ dns_over word input
reply_over word input db lines good is found =
    let by_bad : Option (ℕ × ℕ) → Answer = λ bad. unless_bad bad (lines_answer (dns_lines word (database (lines_of input))))
    in let by_db : List (List (List NdbPair)) → Answer = λ d. lines_answer (dns_lines word d)
    in sym (ap by_bad good ∙ ap by_db (tuples_read input db is) ∙ ap lines_answer (sym found))

-- an error other than want of memory is the refusal
refusal_of : (error : CsError) (answer : CsAnswer) → error ≢ Memory → Tells error answer → answer ≡ Refused (error_number error)
refusal_of Memory answer other tells = absurd (other refl)
refusal_of BadQuery answer other tells = tells
refusal_of NoNet answer other tells = tells
refusal_of NoHost answer other tells = tells
refusal_of NoService answer other tells = tells
refusal_of NoValue answer other tells = tells

-- an answer that is what was found
pub answers_found : {E : Type 0} (result : Result Answer E) (found whole : Answer) → found ≡ whole → IfOk result (λ answer. answer ≡ found) → IfOk result (λ answer. answer ≡ whole)
answers_found (Ok answer) found whole same is = is ∙ same
answers_found (Err error) found whole same is = tt

-- an answer that is the refusal of the resolver
pub answers_refused : {E : Type 0} (result : Result Answer E) (sys query input : List ℕ) (db : List (List (List NdbPair))) (error : CsError) → bad_line input ≡ None → reading input ≡ Some db → Tells error (cs_list db sys (Il ∷ Udp ∷ []) query) → OnOk result (error ≢ Memory) → IfOk result (λ answer. answer ≡ cs_answer (Refused (error_number error))) → IfOk result (λ answer. answer ≡ cs_over sys query input)
answers_refused (Ok answer) sys query input db error good is tells other refused =
    refused ∙ found_over sys query input db (Refused (error_number error)) good is (refusal_of error _ other tells)
answers_refused (Err _) sys query input db error good is tells other refused = tt
