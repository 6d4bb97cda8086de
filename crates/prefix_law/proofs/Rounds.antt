-- The number of requests that an exporting step may serve doesn't matter, where there are fewer replies.
use Rattle.std.proofs.Common.{◌≡◌, ℕ, zero, suc, ◌<◌, Bool, true, false, List, [], ◌∷◌, ◌++◌, length, refl, arith}
use Rattle.std.specs.Prelude.{if◌then◌else◌}
use Rattle.net_base.specs.declared.reply.Reply.{Reply}
use Rattle.net_base.specs.Steps.{Play, Ends, is_accepted, no_names, stands, bytes_in}
use Rattle.prefix_law.specs.Phases.{Phase, Reads, Serves, Shuts}
use Rattle.net_base.specs.Exports.{Own, asks_on, by_text, exports, then_play}
use Rattle.net_base.specs.Server.{Does, Gives, Server}

module _ {S : Type 0} (v : Server S (List ℕ)) (own : Own) where
  abbrev writes_then : ℕ → List ℕ → S → Play
  writes_then n answer later = asks_on (own.writes answer) (λ (written : Reply). if is_accepted written then exports v own n later else v.closes later)

  abbrev play_at : ℕ → Phase S → Play
  play_at n (Reads s) = exports v own n s
  play_at n (Serves s text rs d) = then_play d (writes_then n)
  play_at n Shuts = Ends (no_names [])

  abbrev Same : List Reply → Type 0
  Same rs = (n m : ℕ) (p : Phase S) → length rs < n → length rs < m → stands (play_at n p) rs ≡ stands (play_at m p) rs

  by_texts : (n m : ℕ) (s : S) (text : List ℕ) (rs : List Reply) → length rs < n → length rs < m → Same rs
      → stands (by_text text (v.closes s) (λ (t : List ℕ). then_play (v.serves s t) (writes_then n))) rs ≡ stands (by_text text (v.closes s) (λ (t : List ℕ). then_play (v.serves s t) (writes_then m))) rs
  by_texts n m s [] rs few less same = refl
  by_texts n m s (b ∷ bs) rs few less same = same n m (Serves s (b ∷ bs) [] (v.serves s (b ∷ bs))) few less

  by_writes : (n m : ℕ) (later : S) (b : Bool) (rs : List Reply) → length rs < n → length rs < m → Same rs
      → stands (if b then exports v own n later else v.closes later) rs ≡ stands (if b then exports v own m later else v.closes later) rs
  by_writes n m later true rs few less same = same n m (Reads later) few less
  by_writes n m later false rs few less same = refl

  pub same : (rs : List Reply) → Same rs
  same rs zero m p few less = absurd (omega (arith, few))
  same rs (suc n) zero p few less = absurd (omega (arith, less))
  same [] (suc n) (suc m) (Reads s) few less = refl
  same (r ∷ rs) (suc n) (suc m) (Reads s) few less = by_texts n m s (bytes_in r) rs (omega (arith, few)) (omega (arith, less)) (same rs)
  same [] (suc n) (suc m) (Serves s text qs (Does ask next)) few less = refl
  same (r ∷ rs) (suc n) (suc m) (Serves s text qs (Does ask next)) few less = same rs (suc n) (suc m) (Serves s text (qs ++ r ∷ []) (next r)) (omega (arith, few)) (omega (arith, less))
  same [] (suc n) (suc m) (Serves s text qs (Gives answer later)) few less = refl
  same (r ∷ rs) (suc n) (suc m) (Serves s text qs (Gives answer later)) few less = by_writes (suc n) (suc m) later (is_accepted r) rs (omega (arith, few)) (omega (arith, less)) (same rs)
  same rs (suc n) (suc m) Shuts few less = refl

-- with more requests than replies the next event is the same, however many they are
pub enough : {S : Type 0} (v : Server S (List ℕ)) (own : Own) (n m : ℕ) (s : S) (rs : List Reply) → length rs < n → length rs < m → stands (exports v own n s) rs ≡ stands (exports v own m s) rs
enough v own n m s rs few less = same v own rs n m (Reads s) few less
