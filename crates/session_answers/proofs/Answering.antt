-- The answers to a session's messages, one after the other.
use Rattle.std.proofs.Common.{◌≡◌, ◌<◌, ℕ, List, Option, None, [], ◌∷◌, ◌++◌, length, sym, subst, ◌∙◌, ap, append_assoc, append-nil, arith}
use Rattle.std.proofs.lemmas.List.{nil_from_length}
use Rattle.net_base.specs.declared.reply.Reply.{Reply}
use Rattle.net_base.specs.declared.ninep.Tmsg.{Tmsg}
use Rattle.net_base.specs.SessionScript.{AreMessages, Begins, IsStream, table_next}
use Rattle.net_base.specs.Server.{Answered, Outcome, answers_by, answers_to, outcome_by}
use Rattle.net_base.specs.Session.{State, first}
use Rattle.net_base.specs.SessionTable.{IsSound, Table}
use Rattle.session_script.proofs.Shared.{after_sound}
use Rattle.session_script.proofs.Shared.{none_begins, one_beginning}
use Rattle.session_answers.specs.Served.{GoesServed, IsLastMessage, IsServedFirst, served}
use Rattle.session_answers.specs.Told.{session_of}

pub still_sound : (old now : Table) (m : Tmsg) → IsSound old → now ≡ table_next old m → IsSound now
still_sound old now m sound heard = subst IsSound (sym heard) (after_sound old m sound)

-- the message that the bytes begin with waits, and no other one begins them
pub first_waits : (h : ℕ) (s now : State) (m : Tmsg) (bytes behind : List ℕ) (rs left : List Reply) (answer : Option (List ℕ)) → Begins s.table.msize m bytes behind
    → outcome_by ((session_of h).serves s m) rs ≡ served answer now left → answer ≡ None → IsLastMessage h s bytes rs
first_waits h s now m bytes behind rs left answer begins told none =
    λ n table_next starts. ap (λ (x : Tmsg). outcome_by ((session_of h).serves s x) rs) (one_beginning s.table.msize n m bytes table_next behind starts begins).0
    ∙ told
    ∙ ap (λ (o : Option (List ℕ)). served o now left) none

-- whatever the messages of the bytes are, those that are left are answered behind these answers
abbrev pub Answering : ℕ → List ℕ → List Reply → List (List ℕ) → State → List ℕ → List Reply → Type 0
Answering h bytes all answers s rest rs =
    (ms : List Tmsg) → AreMessages bytes ms → (more : List Tmsg) × GoesServed h (answers_to (session_of h) first ms all) answers s more rest rs

pub begun : (h : ℕ) (bytes : List ℕ) (all rs : List Reply) (s : State) (answers : List (List ℕ)) → s ≡ first → answers ≡ [] → rs ≡ all → Answering h bytes all answers s bytes rs
begun h bytes all rs s answers is none same =
    λ ms are. (
      ms,
      record {
        stream = subst (λ (x : State). IsStream x.table ms bytes) (sym is) are;
        same = sym (ap (λ (xs : List (List ℕ)). xs ++ answers_to (session_of h) s ms rs) none ∙ ap (λ (x : State). answers_to (session_of h) x ms rs) is ∙ ap (answers_to (session_of h) first ms) same);
      },
    )

-- the first message of what is left is answered
pub answered_one : (h : ℕ) (bytes : List ℕ) (all : List Reply) (answers now : List (List ℕ)) (s t : State) (rest behind answer : List ℕ) (rs left : List Reply)
    → 0 < length rest → IsServedFirst h s t rest behind answer rs left → now ≡ answers ++ answer ∷ [] → Answering h bytes all answers s rest rs → Answering h bytes all now t behind left
answered_one h bytes all answers now s t rest behind answer rs left some k more a =
    λ ms are. let g = a ms are in by g.0 g.1
  where
    by : (ms : List Tmsg) → {whole : List (List ℕ)} → GoesServed h whole answers s ms rest rs → (later : List Tmsg) × GoesServed h whole now t later behind left
    by [] g = absurd (omega (arith, some, ap (λ (xs : List ℕ). length xs) g.stream))
    by (m ∷ ms) g =
        let one = one_beginning s.table.msize m k.message rest g.stream.0 behind g.stream.1 k.begins in
        let table : table_next s.table m ≡ t.table = ap (table_next s.table) one.0 ∙ sym k.heard in
        let served : outcome_by ((session_of h).serves s m) rs ≡ Answered answer t left = ap (λ (x : Tmsg). outcome_by ((session_of h).serves s x) rs) one.0 ∙ k.answered in (
          ms,
          record {
            stream = subst (λ (xs : List ℕ). IsStream t.table ms xs) one.1 (subst (λ (x : Table). IsStream x ms g.stream.0) table g.stream.2);
            same =
                g.same
                ∙ ap (λ (o : Outcome State). answers ++ answers_by o (λ (later : State) (rest : List Reply). answers_to (session_of h) later ms rest)) served
                ∙ sym (append_assoc answers (answer ∷ []) (answers_to (session_of h) t ms left))
                ∙ ap (λ (xs : List (List ℕ)). xs ++ answers_to (session_of h) t ms left) (sym more);
          },
        )

-- no message of what is left is answered
pub answered_last : (h : ℕ) (bytes : List ℕ) (all : List Reply) (answers : List (List ℕ)) (s : State) (rest : List ℕ) (rs : List Reply)
    → 0 < length rest → IsLastMessage h s rest rs → Answering h bytes all answers s rest rs → (ms : List Tmsg) → AreMessages bytes ms → answers ≡ answers_to (session_of h) first ms all
answered_last h bytes all answers s rest rs some last a = λ ms are. let g = a ms are in by g.0 g.1
  where
    by : (ms : List Tmsg) → {whole : List (List ℕ)} → GoesServed h whole answers s ms rest rs → answers ≡ whole
    by [] g = absurd (omega (arith, some, ap (λ (xs : List ℕ). length xs) g.stream))
    by (m ∷ ms) g =
        sym (
        g.same
        ∙ ap (λ (o : Outcome State). answers ++ answers_by o (λ (later : State) (rest : List Reply). answers_to (session_of h) later ms rest)) (last m g.stream.0 g.stream.1)
        ∙ append-nil answers
        )

-- all are answered
pub answered_all : (h : ℕ) (bytes : List ℕ) (all : List Reply) (answers : List (List ℕ)) (s : State) (rest : List ℕ) (rs : List Reply)
    → length rest ≡ 0 → Answering h bytes all answers s rest rs → (ms : List Tmsg) → AreMessages bytes ms → answers ≡ answers_to (session_of h) first ms all
answered_all h bytes all answers s rest rs none a = λ ms are. let g = a ms are in by g.0 g.1
  where
    by : (ms : List Tmsg) → {whole : List (List ℕ)} → GoesServed h whole answers s ms rest rs → answers ≡ whole
    by [] g = sym (g.same ∙ append-nil answers)
    by (m ∷ ms) g = absurd (none_begins s.table.msize m rest g.stream.0 (nil_from_length rest none) g.stream.1)
