-- The version in force, found by halves.
use Rattle.std.proofs.Common.{◌≡◌, ℕ, zero, suc, ◌+◌, ◌-◌, ◌<◌, ◌≤◌, Bool, true, false, List, [], ◌∷◌, ◌++◌, drop, get_or, length, nat_eq, nat_le, nat_lt, if◌then◌else◌, refl, sym, ap, ◌∙◌, subst, arith, length-append}
use Rattle.std.proofs.lemmas.Bool.{eqb-true, leb-true, leb-false, ltb-true, ltb-false}
use Rattle.std.proofs.lemmas.List.{drop_more, get_or_append_left, get_or_push, length-drop}
use Rattle.net_base.specs.declared.world.Version.{Version}
use Rattle.net_base.specs.Versions.{in_force, last_come}
use Rattle.ndb_index.specs.Moments.{earliest, earliest_moments, sooner}

-- The earliest moments.

sooner_among : (a b now : ℕ) → now < a → sooner a b ≤ now → b ≤ now
sooner_among a b now above le = by (nat_lt a b) refl le
  where
    by : (c : Bool) → nat_lt a b ≡ c → (if c then a else b) ≤ now → b ≤ now
    by true at le = absurd (omega (arith, above, le))
    by false at le = le

sooner_least : (a b now : ℕ) → now < sooner a b → (now < a) × (now < b)
sooner_least a b now lt = by (nat_lt a b) refl lt
  where
    by : (c : Bool) → nat_lt a b ≡ c → now < (if c then a else b) → (now < a) × (now < b)
    by true at lt = let less = ltb-true a b at in (lt, omega (arith, less, lt))
    by false at lt = let less = ltb-false a b at in (omega (arith, less, lt), lt)

-- with one version in front
pub earliest_front : (v : Version) (vs : List Version) → earliest (v ∷ vs) ≡ (if nat_eq (length vs) 0 then v.moment else sooner v.moment (earliest vs))
earliest_front v [] = refl
earliest_front v (w ∷ vs) = by (nat_eq (length (w ∷ vs)) 0) refl
  where
    by : (c : Bool) → nat_eq (length (w ∷ vs)) 0 ≡ c → sooner v.moment (earliest (w ∷ vs)) ≡ (if c then v.moment else sooner v.moment (earliest (w ∷ vs)))
    by true at = let none = eqb-true (length (w ∷ vs)) 0 at in absurd (omega (arith, none))
    by false at = refl

pub moments_length : (vs : List Version) → length (earliest_moments vs) ≡ length vs
moments_length [] = refl
moments_length (v ∷ vs) =
    let rest = moments_length vs in
    let both = length-append (earliest_moments vs) (earliest (v ∷ vs) ∷ []) in
    omega (arith, rest, both)

-- a version's moment stands as far from the end as the version does from the front
pub moment_at : (vs : List Version) (i k d : ℕ) → i + 1 + k ≡ length vs → get_or (earliest_moments vs) i d ≡ earliest (drop k vs)
moment_at [] i k d count = absurd (omega (arith, count))
moment_at (v ∷ vs) i zero d count = let rest = moments_length vs in get_or_push (earliest_moments vs) (earliest (v ∷ vs)) d i (omega (arith, count, rest))
moment_at (v ∷ vs) i (suc k) d count =
    let rest = moments_length vs in
    get_or_append_left (earliest_moments vs) (earliest (v ∷ vs) ∷ []) d i (omega (arith, count, rest))
    ∙ moment_at vs i k d (omega (arith, count))

-- with the version in front of those that were looked at
pub one_earlier : (vs : List Version) (back before now : ℕ) (v d : Version) → back < length vs → v ≡ get_or vs (length vs - 1 - back) d
    → before ≡ earliest (drop (length vs - back) vs) → now ≡ (if nat_eq back 0 then v.moment else sooner v.moment before) → now ≡ earliest (drop (length vs - (back + 1)) vs)
one_earlier vs back before now v d within here is told =
    let k : ℕ = length vs - (back + 1) in
    let rest = drop (length vs - back) vs in
    let at : k + 1 ≡ length vs - back = omega (arith, within) in
    let at_v : length vs - 1 - back ≡ k = omega (arith, within) in
    let left = length-drop (length vs - back) vs in
    let count : back ≡ length rest = omega (arith, left, within) in
    let front : drop k vs ≡ v ∷ rest =
    drop_more vs k d (omega (arith, within))
    ∙ ap (λ (i : ℕ). get_or vs k d ∷ drop i vs) at
    ∙ ap (λ (u : Version). u ∷ rest) (ap (λ (i : ℕ). get_or vs i d) (sym at_v) ∙ sym here) in
    told
    ∙ ap (λ (e : ℕ). if nat_eq back 0 then v.moment else sooner v.moment e) is
    ∙ ap (λ (n : ℕ). if nat_eq n 0 then v.moment else sooner v.moment (earliest rest)) count
    ∙ sym (earliest_front v rest)
    ∙ ap earliest (sym front)

pub one_moment : (vs : List Version) (back now : ℕ) (moments : List ℕ) → back < length vs → moments ≡ earliest_moments (drop (length vs - back) vs)
    → now ≡ earliest (drop (length vs - (back + 1)) vs) → moments ++ now ∷ [] ≡ earliest_moments (drop (length vs - (back + 1)) vs)
one_moment [] back now moments within is told = absurd (omega (arith, within))
one_moment (d ∷ ds) back now moments within is told =
    let vs : List Version = d ∷ ds in
    let k : ℕ = length vs - (back + 1) in
    let at : length vs - back ≡ k + 1 = omega (arith, within) in
    let front : drop k vs ≡ get_or vs k d ∷ drop (k + 1) vs = drop_more vs k d (omega (arith, within)) in
    ap (λ (ms : List ℕ). ms ++ now ∷ []) (is ∙ ap (λ (i : ℕ). earliest_moments (drop i vs)) at)
    ∙ ap (λ (e : ℕ). earliest_moments (drop (k + 1) vs) ++ e ∷ []) (told ∙ ap earliest front)
    ∙ ap earliest_moments (sym front)

-- The version in force.

-- where one of these comes, it doesn't matter which one came before
same_come : (w : Version) (ws : List Version) (b c n now : ℕ) → earliest (w ∷ ws) ≤ now → last_come b n now (w ∷ ws) ≡ last_come c n now (w ∷ ws)
same_come w [] b c n now le = by (nat_le w.moment now) refl
  where
    by : (come : Bool) → nat_le w.moment now ≡ come → (if come then n else b) ≡ (if come then n else c)
    by true at = refl
    by false at = let above = leb-false w.moment now at in absurd (omega (arith, above, le))
same_come w (x ∷ ws) b c n now le = by (nat_le w.moment now) refl (same_come x ws b c (n + 1) now)
  where
    by : (come : Bool) → nat_le w.moment now ≡ come → (earliest (x ∷ ws) ≤ now → last_come b (n + 1) now (x ∷ ws) ≡ last_come c (n + 1) now (x ∷ ws))
        → last_come (if come then n else b) (n + 1) now (x ∷ ws) ≡ last_come (if come then n else c) (n + 1) now (x ∷ ws)
    by true at rest = refl
    by false at rest = rest (sooner_among w.moment (earliest (x ∷ ws)) now (leb-false w.moment now at) le)

-- where one from a place on comes, those in front of it don't matter
come_from : (vs : List Version) (k b n m now : ℕ) → k < length vs → m ≡ n + k → earliest (drop k vs) ≤ now → last_come b n now vs ≡ last_come m m now (drop k vs)
come_from [] k b n m now within is le = absurd (omega (arith, within))
come_from (v ∷ vs) zero b n m now within is le =
    let same : n ≡ m = omega (arith, is) in
    subst (λ (x : ℕ). last_come b n now (v ∷ vs) ≡ last_come m x now (v ∷ vs)) same (same_come v vs b m n now le)
come_from (v ∷ vs) (suc k) b n m now within is le =
    come_from vs k (if nat_le v.moment now then n else b) (n + 1) m now (omega (arith, within)) (omega (arith, is)) le

-- where none comes, the one before stays
none_come : (vs : List Version) (b n now : ℕ) → (0 < length vs → now < earliest vs) → last_come b n now vs ≡ b
none_come [] b n now above = refl
none_come (v ∷ []) b n now above = by (nat_le v.moment now) refl
  where
    by : (come : Bool) → nat_le v.moment now ≡ come → (if come then n else b) ≡ b
    by true at =
        let come = leb-true v.moment now at in
        let lt = above (omega arith) in
        absurd (omega (arith, come, lt))
    by false at = refl
none_come (v ∷ (w ∷ vs)) b n now above =
    let parts = sooner_least v.moment (earliest (w ∷ vs)) now (above (omega arith)) in
    by (nat_le v.moment now) refl parts.0 (none_come (w ∷ vs) b (n + 1) now (λ some. parts.1))
  where
    by : (come : Bool) → nat_le v.moment now ≡ come → now < v.moment → last_come b (n + 1) now (w ∷ vs) ≡ b → last_come (if come then n else b) (n + 1) now (w ∷ vs) ≡ b
    by true at lt rest = let come = leb-true v.moment now at in absurd (omega (arith, come, lt))
    by false at lt rest = rest

-- The halves.

-- the version in force is one of those from the first place up to the end, if there is one
pub record Halved (vs : List Version) (now first end : ℕ) : Type 0 where
  pub order : first ≤ end
  pub within : end ≤ length vs
  pub some : 0 < length vs → first < end
  pub same : in_force now vs ≡ last_come first first now (drop first vs)
  pub past : end < length vs → now < earliest (drop end vs)

pub all_left : (vs : List Version) (now end : ℕ) → end ≡ length vs → Halved vs now 0 end
all_left vs now end is = record {
  order = omega (arith, is);
  within = omega (arith, is);
  some = λ lt. omega (arith, lt, is);
  same = refl;
  past = λ lt. absurd (omega (arith, lt, is));
}

pub second_half : (vs : List Version) (now first end middle : ℕ) → Halved vs now first end → middle < end → earliest (drop middle vs) ≤ now → Halved vs now middle end
second_half vs now first end middle h lt le =
    let within = h.within in
    record {
      order = omega (arith, lt);
      within = h.within;
      some = λ some. lt;
      same = come_from vs middle 0 0 middle now (omega (arith, lt, within)) (omega arith) le;
      past = h.past;
    }

pub first_half : (vs : List Version) (now first end middle : ℕ) → Halved vs now first end → first < middle → middle < end → now < earliest (drop middle vs) → Halved vs now first middle
first_half vs now first end middle h above lt past =
    let within = h.within in
    record {
      order = omega (arith, above);
      within = omega (arith, lt, within);
      some = λ some. above;
      same = h.same;
      past = λ less. past;
    }

pub one_left : (vs : List Version) (now first end : ℕ) → Halved vs now first end → end - first ≤ 1 → first ≡ in_force now vs
one_left [] now first end h few =
    let order = h.order in
    let within = h.within in
    omega (arith, order, within)
one_left (d ∷ ds) now first end h few =
    let vs : List Version = d ∷ ds in
    let some = h.some (omega arith) in
    let within = h.within in
    let next : end ≡ first + 1 = omega (arith, some, few) in
    sym
    (h.same
    ∙ ap (last_come first first now) (drop_more vs first d (omega (arith, some, within)))
    ∙ stays (nat_le (get_or vs first d).moment now) (drop (first + 1) vs) (λ more. subst (λ (e : ℕ). now < earliest (drop e vs)) next (h.past (shorter more next))))
  where
    stays : (come : Bool) (rest : List Version) → (0 < length rest → now < earliest rest) → last_come (if come then first else first) (first + 1) now rest ≡ first
    stays true rest above = none_come rest first (first + 1) now above
    stays false rest above = none_come rest first (first + 1) now above

    shorter : 0 < length (drop (first + 1) (d ∷ ds)) → end ≡ first + 1 → end < length (d ∷ ds)
    shorter more next = let left = length-drop (first + 1) (d ∷ ds) in omega (arith, more, left, next)
