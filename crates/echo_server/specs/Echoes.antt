-- The messages of a client that came back: it read them, in order.
use Rattle.std.proofs.Common.{◌≡◌, ◌⊎◌, inl, inr, ℕ, ◌+◌, zero, suc, Bool, true, false, List, [], ◌∷◌, ◌++◌, append_assoc, take, Option, Some, None, slice_get, codes, refl, sym, ap, subst, ◌∙◌, arith, cond}
use Rattle.std.proofs.lemmas.Bool.{true≢false}
use Rattle.std.proofs.lemmas.List.{append-nil}
use Rattle.std.proofs.lemmas.Option.{same_Some, none-some}
use Rattle.std.proofs.lemmas.Slice.Eq.{bytes_eq-Decides}
use Rattle.net_base.specs.declared.reply.Reply.{Reply}
use Rattle.net_base.specs.declared.reply.Reply.TheVariants as reply
use Rattle.echo_server.specs.declared.client.EchoClient.{EchoClient}
use Rattle.echo_server.specs.declared.client.Stage.{Stage}
use Rattle.echo_server.specs.declared.client.Stage.TheVariants as stage
use Rattle.echo_server.specs.declared.server.EchoServer.{EchoServer}
use Rattle.played_task.specs.declared.either.EitherTask.{EitherTask}
use Rattle.played_task.specs.Eithers as either
use Rattle.echo_server.specs.Calling.{after, after_at, at_stage, echoed, is_echo, came_back, sent_next}

-- the text that a reply is, if it is one
abbrev pub reply_text : Reply → List (List ℕ)
reply_text (reply.Bytes bytes) = bytes ∷ []
reply_text _ = []

abbrev pub echo_texts : List Reply → List (List ℕ)
echo_texts [] = []
echo_texts (r ∷ rs) = reply_text r ++ echo_texts rs

-- these are among those, in order
abbrev pub AreEchoesAmong : List (List ℕ) → List (List ℕ) → Type 0
AreEchoesAmong [] ys = Unit {0}
AreEchoesAmong (x ∷ xs) [] = ⊥
AreEchoesAmong (x ∷ xs) (y ∷ ys) = ((x ≡ y) × AreEchoesAmong xs ys) ⊎ AreEchoesAmong (x ∷ xs) ys

-- what each client sends
abbrev pub sent : List (List ℕ)
sent = codes "hello" ∷ codes "a second message" ∷ codes "and good bye" ∷ []

-- it sends these, and those that came back were read, in order
abbrev pub KeepsEchoes : EchoClient → List Reply → Type 0
KeepsEchoes c rs = (c.messages ≡ sent) × AreEchoesAmong (take c.echoed c.messages) (echo_texts rs)

-- of a server nothing is claimed
abbrev pub claimed : EitherTask EchoServer EchoClient → List Reply → Type 0
claimed = either.Keeps (λ (t : EchoServer) (rs : List Reply). Unit {0}) KeepsEchoes

-- One reply more.

texts_push : (rs : List Reply) (r : Reply) → echo_texts (rs ++ r ∷ []) ≡ echo_texts rs ++ reply_text r
texts_push [] r = append-nil (reply_text r)
texts_push (x ∷ rs) r = ap (λ (l : List (List ℕ)). reply_text x ++ l) (texts_push rs r) ∙ sym (append_assoc (reply_text x) (echo_texts rs) (reply_text r))

among_more : (xs ys zs : List (List ℕ)) → AreEchoesAmong xs ys → AreEchoesAmong xs (ys ++ zs)
among_more [] ys zs is = tt
among_more (x ∷ xs) [] zs is = absurd is
among_more (x ∷ xs) (y ∷ ys) zs (inl first) = inl (first.0, among_more xs ys zs first.1)
among_more (x ∷ xs) (y ∷ ys) zs (inr later) = inr (among_more (x ∷ xs) ys zs later)

among_push : (xs ys : List (List ℕ)) (y : List ℕ) → AreEchoesAmong xs ys → AreEchoesAmong (xs ++ y ∷ []) (ys ++ y ∷ [])
among_push [] [] y is = inl (refl, tt)
among_push [] (z ∷ ys) y is = inr (among_push [] ys y tt)
among_push (x ∷ xs) [] y is = absurd is
among_push (x ∷ xs) (z ∷ ys) y (inl first) = inl (first.0, among_push xs ys y first.1)
among_push (x ∷ xs) (z ∷ ys) y (inr later) = inr (among_push (x ∷ xs) ys y later)

take_next : (xs : List (List ℕ)) (n : ℕ) (x : List ℕ) → slice_get xs n ≡ Some x → take (suc n) xs ≡ take n xs ++ x ∷ []
take_next [] n x is = absurd (none-some x is)
take_next (y ∷ ys) zero x is = ap (λ (z : List ℕ). z ∷ []) (same_Some y x is)
take_next (y ∷ ys) (suc n) x is = ap (λ (l : List (List ℕ)). y ∷ l) (take_next ys n x is)

take_more : (xs : List (List ℕ)) (n : ℕ) (x : List ℕ) → slice_get xs n ≡ Some x → take (n + 1) xs ≡ take n xs ++ x ∷ []
take_more xs n x is =
    let one : suc n ≡ n + 1 = omega arith in
    subst (λ (k : ℕ). take k xs ≡ take n xs ++ x ∷ []) one (take_next xs n x is)

module _ (c : EchoClient) (rs : List Reply) (r : Reply) (is : KeepsEchoes c rs) where
  kept : (c.messages ≡ sent) × AreEchoesAmong (take c.echoed c.messages) (echo_texts (rs ++ r ∷ []))
  kept = (
    is.0,
    subst (λ (l : List (List ℕ)). AreEchoesAmong (take c.echoed c.messages) l) (sym (texts_push rs r))
        (among_more (take c.echoed c.messages) (echo_texts rs) (reply_text r) is.1),
  )

  same_text : (o : Option (List ℕ)) (bytes : List ℕ) → came_back o bytes ≡ true → o ≡ Some bytes
  same_text None bytes e = absurd (true≢false (sym e))
  same_text (Some text) bytes e = ap Some (grind (arith, bytes_eq-Decides text bytes, e))

  came : (q : Reply) → r ≡ q → is_echo c q ≡ true → AreEchoesAmong (take (c.echoed + 1) c.messages) (echo_texts (rs ++ r ∷ []))
  came (reply.Bytes bytes) same e =
      let sent : slice_get c.messages c.echoed ≡ Some bytes = same_text (sent_next c) bytes e in
      subst (λ (l : List (List ℕ)). AreEchoesAmong l (echo_texts (rs ++ r ∷ []))) (sym (take_more c.messages c.echoed bytes sent))
      (subst (λ (l : List (List ℕ)). AreEchoesAmong (take c.echoed c.messages ++ bytes ∷ []) l)
      (sym (texts_push rs r ∙ ap (λ (q : Reply). echo_texts rs ++ reply_text q) same))
      (among_push (take c.echoed c.messages) (echo_texts rs) bytes is.1))
  came _ same e = absurd (true≢false (sym e))

  by_echo : (b : Bool) → is_echo c r ≡ b → KeepsEchoes (cond b (echoed (record c { echoed = c.echoed + 1 })) (at_stage c stage.Close)) (rs ++ r ∷ [])
  by_echo true e = (is.0, came r refl e)
  by_echo false e = kept

  by_stage : (s : Stage) → KeepsEchoes (after_at s c r) (rs ++ r ∷ [])
  by_stage stage.Wait = kept
  by_stage stage.Dial = kept
  by_stage stage.Write = kept
  by_stage stage.Read = by_echo (is_echo c r) refl
  by_stage stage.Close = kept

pub keeps_on : (c : EchoClient) (rs : List Reply) (r : Reply) → KeepsEchoes c rs → KeepsEchoes (after c r) (rs ++ r ∷ [])
keeps_on c rs r is = by_stage c rs r is c.stage
