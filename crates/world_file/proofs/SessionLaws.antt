-- A text of sessions says one thing.
use Rattle.std.proofs.Common.{◌≡◌, inl, inr, ℕ, ◌+◌, List, [], ◌∷◌, sym, ◌∙◌, Option, Some, None, Result}
use Rattle.session_script.specs.declared.world.Session.{Session}
use Rattle.session_script.specs.declared.world.SessionWorld.{SessionWorld}
use Rattle.world_text.specs.WorldLines.{Bad, Begins, Draft, Goes, Verdict}
use Rattle.world_text.specs.WorldText.{Cut, cuts_of}
use Rattle.world_file.specs.SessionText.{ClosesLines, Extends, Feeds, FollowsLine, Judges, OpensSession, Other, Passes, Row, SaysSessions, SaysFrom, ToldLines, opening_told, session_row}

abbrev Outcome : Type 0
Outcome = Result SessionWorld (ℕ × ℕ)

closes-one : (sessions : List Session) (o : Option ℕ) (P Q : Type 0) (r s : Outcome) → (P → Q → r ≡ s) → ClosesLines sessions o P r → ClosesLines sessions o Q s → r ≡ s
closes-one sessions None P Q r s one p q = one p q
closes-one sessions (Some n) P Q r s one (inl p) (inl q) = one p.1 q.1
closes-one sessions (Some n) P Q r s one (inl p) (inr q) = absurd (q.0 p.0.1.0 p.0.1.1)
closes-one sessions (Some n) P Q r s one (inr p) (inl q) = absurd (p.0 q.0.1.0 q.0.1.1)
closes-one sessions (Some n) P Q r s one (inr p) (inr q) = p.1 ∙ sym q.1

judges-one : (sessions : List Session) (n : ℕ) (behind : List ℕ) (v : Verdict) (P Q : Draft → Type 0) (r s : Outcome) → ((d : Draft) → P d → Q d → r ≡ s)
    → Judges sessions n behind v P r → Judges sessions n behind v Q s → r ≡ s
judges-one sessions n behind (Goes d) P Q r s one p q = one d p q
judges-one sessions n behind (Begins w) P Q r s one p q = p ∙ sym q
judges-one sessions n behind (Bad c) P Q r s one p q = p ∙ sym q

extends-one : (told : ToldLines) (n : ℕ) (under : Option ℕ) (bytes : Option (List ℕ)) (P Q : ToldLines → Type 0) (r s : Outcome) → ((later : ToldLines) → P later → Q later → r ≡ s)
    → Extends told n under bytes P r → Extends told n under bytes Q s → r ≡ s
extends-one told n under None P Q r s one p q = p ∙ sym q
extends-one told n None (Some bytes) P Q r s one p q = p ∙ sym q
extends-one told n (Some line) (Some bytes) P Q r s one p q = one _ p q

follows-one : (told : ToldLines) (n : ℕ) (c : Cut) (row : Row) (P Q : ToldLines → Type 0) (r s : Outcome) → ((later : ToldLines) → P later → Q later → r ≡ s)
    → FollowsLine told n c row P r → FollowsLine told n c row Q s → r ≡ s
follows-one told n c Passes P Q r s one p q = one told p q
follows-one told n c (Feeds bytes) P Q r s one p q = extends-one told n told.under bytes P Q r s one p q
follows-one told n c OpensSession P Q r s one p q =
    closes-one told.sessions told.under _ _ r s (λ a b. judges-one told.sessions n c.behind _ _ _ r s (λ d. one _) a b) p q
follows-one told n c Other P Q r s one p q =
    closes-one told.sessions told.under _ _ r s (λ a b. judges-one told.sessions n c.behind _ _ _ r s (λ d. one _) a b) p q

says-from-one : (told : ToldLines) (n : ℕ) (cs : List Cut) (r s : Outcome) → SaysFrom told n cs r → SaysFrom told n cs s → r ≡ s
says-from-one told n [] r s p q = closes-one told.sessions told.under _ _ r s (λ a b. a ∙ sym b) p q
says-from-one told n (c ∷ cs) r s p q =
    follows-one told n c (session_row told.draft c.line) (λ (later : ToldLines). SaysFrom later (n + 1) cs r) (λ (later : ToldLines). SaysFrom later (n + 1) cs s) r s
    (λ (later : ToldLines). says-from-one later (n + 1) cs r s) p q

pub says-one : (text : List ℕ) (r s : Outcome) → SaysSessions text r → SaysSessions text s → r ≡ s
says-one text r s p q = says-from-one opening_told 1 (cuts_of text) r s p q
