-- Records one after another, as far as they fit.
use Rattle.std.proofs.Common.{◌≡◌, ℕ, suc, ◌+◌, ◌-◌, ◌<◌, ◌≤◌, Bool, true, false, cond, List, [], ◌∷◌, ◌++◌, length, refl, sym, ap, ◌∙◌, arith, subst, inl, inr, ◌⊎◌, append-nil, append_assoc, length-append}
use Rattle.std.specs.Prelude.{nat_lt, nat_le, flat_map}
use Rattle.std.proofs.lemmas.Bool.{true≢false, false≢true, lt-ltb, le-ltb, ltb-false, le-leb, lt-leb}
use Rattle.std.proofs.lemmas.Bool.Decides.{nat_tests}
use Rattle.std.proofs.lemmas.List.Concat.{flat_map-append}
use Rattle.net_base.specs.DomainAnswers.{fitting}
use Rattle.ndb_dns.specs.declared.reply.Records.{Records}
use Rattle.ndb_dns.specs.Taken.{AddsTaken, AreFewTaken, TookRecord}

abbrev flat : List (List ℕ) → List ℕ
flat records = flat_map (λ x. x) records

fitting_within : (start : ℕ) (offered : List (List ℕ)) → length (fitting start offered) ≤ length offered
fitting_within start [] = omega arith
fitting_within start (r ∷ offered) = by (nat_le (length r) start) (fitting_within (start - length r) offered)
  where
    by : (fits : Bool) → length (fitting (start - length r) offered) ≤ length offered → length (cond fits (r ∷ fitting (start - length r) offered) []) ≤ length (r ∷ offered)
    by true rest = omega (arith, rest)
    by false rest = omega arith

-- what is taken of records and one more, by what is taken of them
pushed : ℕ → List (List ℕ) → List (List ℕ) → List ℕ → List (List ℕ)
pushed start offered taken r =
    cond (nat_lt (length taken) (length offered)) taken (cond (nat_le (length r) (start - length (flat taken))) (taken ++ r ∷ []) taken)

onto : (x : List ℕ) (taken : List (List ℕ)) (r : List ℕ) (cut fits : Bool) → (x ∷ cond cut taken (cond fits (taken ++ r ∷ []) taken)) ≡ cond cut (x ∷ taken) (cond fits ((x ∷ taken) ++ r ∷ []) (x ∷ taken))
onto x taken r true fits = refl
onto x taken r false true = refl
onto x taken r false false = refl

same_lt : (a b : ℕ) → nat_lt a b ≡ nat_lt (suc a) (suc b)
same_lt a b = grind (arith, nat_tests)

push_on : (start : ℕ) (x : List ℕ) (taken offered : List (List ℕ)) (r : List ℕ) → (x ∷ pushed (start - length x) offered taken r) ≡ pushed start (x ∷ offered) (x ∷ taken) r
unfolding pushed
push_on start x taken offered r =
    let room : start - length x - length (flat taken) ≡ start - length (flat (x ∷ taken)) = omega (arith, length-append x (flat taken)) in
    onto x taken r (nat_lt (length taken) (length offered)) (nat_le (length r) (start - length x - length (flat taken)))
    ∙ ap (λ (cut : Bool). cond cut (x ∷ taken) (cond (nat_le (length r) (start - length x - length (flat taken))) ((x ∷ taken) ++ r ∷ []) (x ∷ taken))) (same_lt (length taken) (length offered))
    ∙ ap (λ (n : ℕ). cond (nat_lt (suc (length taken)) (suc (length offered))) (x ∷ taken) (cond (nat_le (length r) n) ((x ∷ taken) ++ r ∷ []) (x ∷ taken))) room

fit_push : (start : ℕ) (offered : List (List ℕ)) (r : List ℕ) → fitting start (offered ++ r ∷ []) ≡ pushed start offered (fitting start offered) r
unfolding pushed
fit_push start [] r =
    let all : start ≡ start - 0 = omega arith in
    ap (λ (n : ℕ). cond (nat_le (length r) n) (r ∷ []) []) all
fit_push start (x ∷ offered) r = by (nat_le (length x) start) (fit_push (start - length x) offered r)
  where
    by : (fits : Bool) → fitting (start - length x) (offered ++ r ∷ []) ≡ pushed (start - length x) offered (fitting (start - length x) offered) r → cond fits (x ∷ fitting (start - length x) (offered ++ r ∷ [])) [] ≡ pushed start (x ∷ offered) (cond fits (x ∷ fitting (start - length x) offered) []) r
    by true rest = ap (λ (those : List (List ℕ)). x ∷ those) rest ∙ push_on start x (fitting (start - length x) offered) offered r
    by false rest =
        let some : 0 < suc (length offered) = omega arith in
        sym (ap (λ (cut : Bool). cond cut [] (cond (nat_le (length r) (start - 0)) (r ∷ []) [])) (lt-ltb 0 (suc (length offered)) some))

stays : (taken : List (List ℕ)) (r : List ℕ) (cut fits : Bool) → (cut ≡ true) ⊎ (fits ≡ false) → cond cut taken (cond fits (taken ++ r ∷ []) taken) ≡ taken
stays taken r true fits why = refl
stays taken r false false why = refl
stays taken r false true (inl e) = absurd (false≢true e)
stays taken r false true (inr e) = absurd (true≢false e)

room_left : (start : ℕ) (offered : List (List ℕ)) (r : Records) → TookRecord start offered r → start - length (flat (fitting start offered)) ≡ r.room
room_left start offered r took =
    let size = ap (λ (xs : List ℕ). length xs) took.bytes in
    omega (arith, size, took.room)

why_out : (start : ℕ) (offered : List (List ℕ)) (r : Records) (entry : List ℕ) → TookRecord start offered r → (r.cut ≡ true) ⊎ (r.room < length entry) → (nat_lt (length (fitting start offered)) (length offered) ≡ true) ⊎ (nat_le (length entry) (start - length (flat (fitting start offered))) ≡ false)
why_out start offered r entry took (inl cut) = inl (sym took.cut ∙ cut)
why_out start offered r entry took (inr long) =
    inr (lt-leb (length entry) (start - length (flat (fitting start offered))) (omega (arith, long, room_left start offered r took)))

-- a record is left out
pub left_out : (start : ℕ) (offered : List (List ℕ)) (r : Records) (entry : List ℕ) → TookRecord start offered r → (r.cut ≡ true) ⊎ (r.room < length entry) → TookRecord start (offered ++ entry ∷ []) (record r { cut = true })
unfolding pushed
left_out start offered r entry took why =
    let same : fitting start (offered ++ entry ∷ []) ≡ fitting start offered =
    fit_push start offered entry
    ∙ stays (fitting start offered) entry (nat_lt (length (fitting start offered)) (length offered)) (nat_le (length entry) (start - length (flat (fitting start offered)))) (why_out start offered r entry took why)
    in
    let size = ap (λ (taken : List (List ℕ)). length taken) same in
    let less : length (fitting start (offered ++ entry ∷ [])) < length (offered ++ entry ∷ []) =
    omega (arith, size, fitting_within start offered, length-append offered (entry ∷ []))
    in record {
      bytes = took.bytes ∙ ap flat (sym same);
      count = took.count ∙ sym size;
      cut = sym (lt-ltb (length (fitting start (offered ++ entry ∷ []))) (length (offered ++ entry ∷ [])) less);
      room = took.room;
    }

-- a record is taken
pub taken_in : (start : ℕ) (offered : List (List ℕ)) (r new : Records) (entry : List ℕ) → TookRecord start offered r → r.cut ≡ false → length entry ≤ r.room → new.bytes ≡ r.bytes ++ entry → new.count ≡ r.count + 1 → new.cut ≡ r.cut → new.room ≡ r.room - length entry → TookRecord start (offered ++ entry ∷ []) new
unfolding pushed
taken_in start offered r new entry took whole fits bytes count cut room =
    let taken = fitting start offered in
    let all : nat_lt (length (fitting start offered)) (length offered) ≡ false = sym took.cut ∙ whole in
    let enough : nat_le (length entry) (start - length (flat (fitting start offered))) ≡ true =
    le-leb (length entry) (start - length (flat (fitting start offered))) (omega (arith, fits, room_left start offered r took))
    in
    let same : fitting start (offered ++ entry ∷ []) ≡ fitting start offered ++ entry ∷ [] =
    fit_push start offered entry
    ∙ ap (λ (b : Bool). cond b (fitting start offered) (cond (nat_le (length entry) (start - length (flat (fitting start offered)))) (fitting start offered ++ entry ∷ []) (fitting start offered))) all
    ∙ ap (λ (b : Bool). cond b (fitting start offered ++ entry ∷ []) (fitting start offered)) enough
    in
    let size = ap (λ (records : List (List ℕ)). length records) same in
    let more = length-append (fitting start offered) (entry ∷ []) in
    let least : length (offered ++ entry ∷ []) ≤ length (fitting start (offered ++ entry ∷ [])) =
    omega (arith, size, more, length-append offered (entry ∷ []), ltb-false (length (fitting start offered)) (length offered) all)
    in
    let long = ap (λ (xs : List ℕ). length xs) bytes in record {
      bytes =
          bytes ∙ ap (λ (xs : List ℕ). xs ++ entry) took.bytes
          ∙ ap (λ (xs : List ℕ). flat (fitting start offered) ++ xs) (sym (append-nil entry))
          ∙ sym (flat_map-append (λ (x : List ℕ). x) (fitting start offered) (entry ∷ []))
          ∙ ap flat (sym same);
      count = omega (arith, count, took.count, size, more);
      cut = cut ∙ whole ∙ sym (le-ltb (length (fitting start (offered ++ entry ∷ []))) (length (offered ++ entry ∷ [])) least);
      room = omega (arith, long, length-append r.bytes entry, room, fits, took.room);
    }

-- ---- one after another

pub adds_left : (r : Records) (entry : List ℕ) → AreFewTaken r → (r.cut ≡ true) ⊎ (r.room < length entry) → AddsTaken r (entry ∷ []) (record r { cut = true })
adds_left r entry few why = record { few = few; took = λ start offered took. left_out start offered r entry took why }

pub adds_taken : (r : Records) (entry bytes : List ℕ) → AreFewTaken r → 0 < length entry → r.cut ≡ false → length entry ≤ r.room → bytes ≡ r.bytes ++ entry → AddsTaken r (entry ∷ []) (record { bytes = bytes; count = r.count + 1; room = r.room - length entry; cut = r.cut })
adds_taken r entry bytes few some whole fits put = record {
  few = omega (arith, few, some, fits);
  took = λ start offered took.
      taken_in start offered r (record { bytes = bytes; count = r.count + 1; room = r.room - length entry; cut = r.cut }) entry took whole fits put refl refl refl;
}

pub adds_none : (r : Records) → AreFewTaken r → AddsTaken r [] r
adds_none r few = record { few = few; took = λ start offered took. subst (λ (os : List (List ℕ)). TookRecord start os r) (sym (append-nil offered)) took }

pub adds_both : (old r new : Records) (first second all : List (List ℕ)) → AddsTaken old first r → AddsTaken r second new → first ++ second ≡ all → AddsTaken old all new
adds_both old r new first second all one two are = record {
  few = two.few;
  took = λ start offered took.
      subst (λ (os : List (List ℕ)). TookRecord start os new)
      (append_assoc offered first second ∙ ap (λ (more : List (List ℕ)). offered ++ more) are)
      (two.took start (offered ++ first) (one.took start offered took));
}
