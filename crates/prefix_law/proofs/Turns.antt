-- The turns of an exporting step: a read, a request's own events, a write, and so on.
use Rattle.std.proofs.Common.{◌≡◌, ℕ, zero, suc, Bool, true, false, List, [], ◌∷◌, ◌++◌, Option, Some, refl, sym, ap, subst, ◌∙◌, append_assoc, append-nil, inl, inr}
use Rattle.std.specs.Prelude.{filter, map, if◌then◌else◌}
use Rattle.std.specs.List.{flat_map}
use Rattle.net_base.specs.declared.history.Entry.{Entry}
use Rattle.net_base.specs.declared.reply.Reply.{Reply}
use Rattle.net_base.specs.Legal.{asked_by}
use Rattle.net_base.specs.Networks.{is_filled}
use Rattle.net_base.specs.Stamped.{In}
use Rattle.net_base.specs.Steps.{Ask, Play, is_accepted, bytes_in}
use Rattle.net_base.specs.Written.{Conversation, read_by, written_by}
use Rattle.prefix_law.specs.PrefixLaw.{IsPrefix}
use Rattle.prefix_law.specs.LongReads.{ReadsLong}
use Rattle.prefix_law.specs.Phases.{Phase, Reads, Serves, Shuts, PhaseAnswer, Request, answer_of, phase_answers, answers_in_turn, on_own, requests, served_at}
use Rattle.net_base.specs.Exports.{Own, asks_on, by_text, exports, then_play}
use Rattle.net_base.specs.Server.{Does, Gives, Server}
use Rattle.prefix_law.specs.Spans.{RunsSpan, span_entries}

-- what an entry on the own file tells
abbrev pub heard_in : Conversation → ℕ × Entry → List (List ℕ)
heard_in f x = filter is_filled (read_by f x.1)

abbrev pub said_in : Conversation → ℕ × Entry → List (List ℕ)
said_in f x = written_by f x.1

-- the entries at the own file tell what was read, and what was written and accepted
pub record OnOwn (f : Conversation) (own : Own) (Fine : ℕ × Entry → Type 0) : Type 0 where
  pub read : (x : ℕ × Entry) → Fine x → asked_by x.1 ≡ own.reads → (heard_in f x ≡ by_text (bytes_in x.1.reply) [] (λ (text : List ℕ). text ∷ [])) × (said_in f x ≡ [])
  pub written : (x : ℕ × Entry) (answer : List ℕ) → Fine x → asked_by x.1 ≡ own.writes answer
      → (heard_in f x ≡ []) × (said_in f x ≡ (if is_accepted x.1.reply then answer ∷ [] else []))

empty_prefix : {A : Type 0} (ys : List A) → IsPrefix [] ys
empty_prefix ys = (ys, refl)

prefix_cons : {A : Type 0} (x : A) (xs ys : List A) → IsPrefix xs ys → IsPrefix (x ∷ xs) (x ∷ ys)
prefix_cons {A} x xs ys p = (p.0, ap (λ (zs : List A). x ∷ zs) p.1)

module _ {S : Type 0} (v : Server S (List ℕ)) (own : Own) (f : Conversation) (Fine : ℕ × Entry → Type 0) (facts : OnOwn f own Fine) where
  -- the play from a phase on
  abbrev writes_then : ℕ → List ℕ → S → Play
  writes_then n answer later = asks_on (own.writes answer) (λ (written : Reply). if is_accepted written then exports v own n later else v.closes later)

  abbrev play_at : ℕ → Phase S → Play → Play
  play_at n (Reads s) shut = exports v own n s
  play_at n (Serves s text rs d) shut = then_play d (writes_then n)
  play_at n Shuts shut = shut

  -- the request that is served goes on by what is still done
  abbrev Fits : Phase S → Type 0
  Fits (Reads s) = Unit {0}
  Fits (Serves s text rs d) = (more : List Reply) → answer_of (v.serves s text) (rs ++ more) ≡ answer_of d more
  Fits Shuts = Unit {0}

  abbrev texts : List Request → List (List ℕ)
  texts qs = map (λ (q : Request). q.text) qs

  abbrev heard : List (ℕ × Entry) → List (List ℕ)
  heard xs = flat_map (heard_in f) xs

  abbrev said : List (ℕ × Entry) → List (List ℕ)
  said xs = flat_map (said_in f) xs

  abbrev AreAnswers : Phase S → List (List ℕ) → List Request → Type 0
  AreAnswers (Reads s) ts qs = IsPrefix ts (answers_in_turn v s qs)
  AreAnswers (Serves s text rs d) ts qs = IsPrefix ts (answers_in_turn v s qs)
  AreAnswers Shuts ts qs = ts ≡ []

  abbrev Good : Phase S → List (ℕ × Entry) → Type 0
  Good p xs = (texts (served_at p) ++ heard (on_own v p xs) ≡ texts (requests v p xs)) × AreAnswers p (said (on_own v p xs)) (requests v p xs)

  abbrev AllFine : List (ℕ × Entry) → Type 0
  AllFine xs = (x : ℕ × Entry) → In x xs → Fine x

  abbrev Later : List (ℕ × Entry) → Type 0
  Later xs = (m : ℕ) (q : Phase S) (shut : Play) → Fits q → RunsSpan (play_at m q shut) (span_entries xs) → Good q xs

  shut_good : (xs : List (ℕ × Entry)) → Good Shuts xs
  shut_good [] = (refl, refl)
  shut_good (x ∷ xs) = shut_good xs

  -- a read: a request begins, or the step closes
  reads_turn : (n : ℕ) (s : S) (x : ℕ × Entry) (xs : List (ℕ × Entry)) → Fine x → asked_by x.1 ≡ own.reads
      → RunsSpan (by_text (bytes_in x.1.reply) (v.closes s) (λ (text : List ℕ). then_play (v.serves s text) (writes_then n))) (span_entries xs)
      → Later xs → Good (Reads s) (x ∷ xs)
  reads_turn n s x xs fine asked runs later = go (bytes_in x.1.reply) refl (facts.read x fine asked).0 runs
    where
      silent : said_in f x ≡ []
      silent = (facts.read x fine asked).1

      go : (text : List ℕ) → bytes_in x.1.reply ≡ text → heard_in f x ≡ by_text text [] (λ (t : List ℕ). t ∷ [])
          → RunsSpan (by_text text (v.closes s) (λ (t : List ℕ). then_play (v.serves s t) (writes_then n))) (span_entries xs)
          → Good (Reads s) (x ∷ xs)
      go [] is hears run =
          let rest = shut_good xs in (
            rw (is, hears) rest.0,
            rw (is, silent) (subst (λ (ts : List (List ℕ)). IsPrefix ts (answers_in_turn v s (requests v Shuts xs))) (sym rest.1) (empty_prefix (answers_in_turn v s (requests v Shuts xs)))),
          )
      go (b ∷ bs) is hears run =
          let rest = later n (Serves s (b ∷ bs) [] (v.serves s (b ∷ bs))) (v.closes s) (λ more. refl) run in (rw (is, hears) rest.0, rw (is, silent) rest.1)

  -- a write: the request is answered
  writes_turn : (n : ℕ) (s : S) (text : List ℕ) (rs : List Reply) (answer : List ℕ) (after : S) (x : ℕ × Entry) (xs : List (ℕ × Entry))
      → Fits (Serves s text rs (Gives answer after)) → Fine x → asked_by x.1 ≡ own.writes answer
      → RunsSpan (if is_accepted x.1.reply then exports v own n after else v.closes after) (span_entries xs)
      → Later xs → Good (Serves s text rs (Gives answer after)) (x ∷ xs)
  writes_turn n s text rs answer after x xs fits fine asked runs later = go (is_accepted x.1.reply) refl (facts.written x answer fine asked).1 runs
    where
      silent : heard_in f x ≡ []
      silent = (facts.written x answer fine asked).0

      given : answer_of (v.serves s text) rs ≡ Some (record { text = answer; later = after })
      given = ap (answer_of (v.serves s text)) (sym (append-nil rs)) ∙ fits []

      answers : (qs : List Request) → answers_in_turn v s (record { text = text; replies = rs } ∷ qs) ≡ answer ∷ answers_in_turn v after qs
      answers qs = ap (λ (o : Option (PhaseAnswer S)). phase_answers o (λ (next : S). answers_in_turn v next qs)) given

      go : (b : Bool) → is_accepted x.1.reply ≡ b → said_in f x ≡ (if b then answer ∷ [] else [])
          → RunsSpan (if b then exports v own n after else v.closes after) (span_entries xs)
          → Good (Serves s text rs (Gives answer after)) (x ∷ xs)
      go true is says run =
          let rest = later n (Reads after) (v.closes after) tt run in (
            rw (is, silent) (ap (λ (ts : List (List ℕ)). text ∷ ts) rest.0),
            rw (is, says) (subst (λ (ts : List (List ℕ)). IsPrefix (answer ∷ said (on_own v (Reads after) xs)) ts) (sym (answers (requests v (Reads after) xs)))
                (prefix_cons answer (said (on_own v (Reads after) xs)) (answers_in_turn v after (requests v (Reads after) xs)) rest.1)),
          )
      go false is says run =
          let rest = shut_good xs in (
            rw (is, silent) (ap (λ (ts : List (List ℕ)). text ∷ ts) rest.0),
            rw (is, says) (subst (λ (ts : List (List ℕ)). IsPrefix ts (answers_in_turn v s (record { text = text; replies = rs } ∷ requests v Shuts xs))) (sym rest.1)
                (empty_prefix (answers_in_turn v s (record { text = text; replies = rs } ∷ requests v Shuts xs)))),
          )

  pub turns : (n : ℕ) (p : Phase S) (shut : Play) (xs : List (ℕ × Entry)) → Fits p → AllFine xs → RunsSpan (play_at n p shut) (span_entries xs) → Good p xs
  turns n (Reads s) shut [] fits fine runs = (refl, empty_prefix (answers_in_turn v s []))
  turns zero (Reads s) shut (x ∷ xs) fits fine runs = absurd runs
  turns (suc n) (Reads s) shut (x ∷ xs) fits fine runs =
      reads_turn n s x xs (fine x (inl refl)) runs.0 runs.1 (λ m q end fit run. turns m q end xs fit (λ y there. fine y (inr there)) run)
  turns n (Serves s text rs d) shut [] fits fine runs = (refl, empty_prefix (answers_in_turn v s (record { text = text; replies = rs } ∷ [])))
  turns n (Serves s text rs (Does ask next)) shut (x ∷ xs) fits fine runs =
      turns n (Serves s text (rs ++ x.1.reply ∷ []) (next x.1.reply)) shut xs
      (λ more. ap (answer_of (v.serves s text)) (append_assoc rs (x.1.reply ∷ []) more) ∙ fits (x.1.reply ∷ more))
      (λ y there. fine y (inr there)) runs.1
  turns n (Serves s text rs (Gives answer after)) shut (x ∷ xs) fits fine runs =
      writes_turn n s text rs answer after x xs fits (fine x (inl refl)) runs.0 runs.1 (λ m q end fit run. turns m q end xs fit (λ y there. fine y (inr there)) run)
  turns n Shuts shut xs fits fine runs = shut_good xs

  -- Reads on the own file.

  -- what is asked there reads long
  abbrev OwnLong : Type 0
  OwnLong = ReadsLong own.reads.event × ((answer : List ℕ) → ReadsLong (own.writes answer).event)

  asked_long : (x : Entry) (ask : Ask) → asked_by x ≡ ask → ReadsLong ask.event → ReadsLong x.event
  asked_long x ask is long = subst ReadsLong (sym (ap (λ (a : Ask). a.event) is)) long

  shut_has_none : (xs : List (ℕ × Entry)) (x : ℕ × Entry) → In x (on_own v Shuts xs) → ⊥
  shut_has_none [] x there = there
  shut_has_none (y ∷ xs) x there = shut_has_none xs x there

  abbrev LaterLong : ℕ × Entry → List (ℕ × Entry) → Type 0
  LaterLong x xs = (m : ℕ) (q : Phase S) (shut : Play) → RunsSpan (play_at m q shut) (span_entries xs) → In x (on_own v q xs) → ReadsLong x.1.event

  after_read : (n : ℕ) (s : S) (text : List ℕ) (xs : List (ℕ × Entry)) (x : ℕ × Entry)
      → RunsSpan (by_text text (v.closes s) (λ (t : List ℕ). then_play (v.serves s t) (writes_then n))) (span_entries xs)
      → LaterLong x xs → In x (on_own v (by_text text Shuts (λ (t : List ℕ). Serves s t [] (v.serves s t))) xs) → ReadsLong x.1.event
  after_read n s [] xs x runs later there = absurd (shut_has_none xs x there)
  after_read n s (b ∷ bs) xs x runs later there = later n (Serves s (b ∷ bs) [] (v.serves s (b ∷ bs))) (v.closes s) runs there

  after_write : (n : ℕ) (after : S) (b : Bool) (xs : List (ℕ × Entry)) (x : ℕ × Entry)
      → RunsSpan (if b then exports v own n after else v.closes after) (span_entries xs)
      → LaterLong x xs → In x (on_own v (if b then Reads after else Shuts) xs) → ReadsLong x.1.event
  after_write n after true xs x runs later there = later n (Reads after) (v.closes after) runs there
  after_write n after false xs x runs later there = absurd (shut_has_none xs x there)

  pub own_long : OwnLong → (n : ℕ) (p : Phase S) (shut : Play) (xs : List (ℕ × Entry)) → RunsSpan (play_at n p shut) (span_entries xs)
      → (x : ℕ × Entry) → In x (on_own v p xs) → ReadsLong x.1.event
  own_long long n p shut [] runs x there = absurd there
  own_long long zero (Reads s) shut (y ∷ xs) runs x there = absurd runs
  own_long long (suc n) (Reads s) shut (y ∷ xs) runs x (inl here) = asked_long x.1 own.reads (ap (λ (z : ℕ × Entry). asked_by z.1) here ∙ runs.0) long.0
  own_long long (suc n) (Reads s) shut (y ∷ xs) runs x (inr there) =
      after_read n s (bytes_in y.1.reply) xs x runs.1 (λ m q end run at. own_long long m q end xs run x at) there
  own_long long n (Serves s text rs (Does ask next)) shut (y ∷ xs) runs x there =
      own_long long n (Serves s text (rs ++ y.1.reply ∷ []) (next y.1.reply)) shut xs runs.1 x there
  own_long long n (Serves s text rs (Gives answer after)) shut (y ∷ xs) runs x (inl here) =
      asked_long x.1 (own.writes answer) (ap (λ (z : ℕ × Entry). asked_by z.1) here ∙ runs.0) (long.1 answer)
  own_long long n (Serves s text rs (Gives answer after)) shut (y ∷ xs) runs x (inr there) =
      after_write n after (is_accepted y.1.reply) xs x runs.1 (λ m q end run at. own_long long m q end xs run x at) there
  own_long long n Shuts shut (y ∷ xs) runs x there = absurd (shut_has_none (y ∷ xs) x there)
