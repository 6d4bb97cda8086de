-- What is told of an input, from what the calls that read it say.
use Rattle.std.proofs.Common.{◌≡◌, ℕ, ◌+◌, ◌<◌, ◌≤◌, ◌^◌, List, [], ◌∷◌, length, Option, Some, None, Result, Ok, Err, refl, sym, ap, subst, ◌∙◌, arith, ◌++◌, length-append}
use Rattle.std.specs.List.{concat}
use Rattle.net_base.specs.declared.history.Entry.{Entry}
use Rattle.net_base.specs.declared.world.World.{World}
use Rattle.net_base.specs.Legal.{IsLegal, IsTimed}
use Rattle.net_base.specs.Numeral.{numeral}
use Rattle.net_base.specs.Transcript.{entry_words, history_text, line_of, lines_from, spaced}
use Rattle.net_base.specs.World.{IsWorld}
use Rattle.history_reader.specs.Spelling as printed
use Rattle.history_reader.specs.SummaryText.{AreLinesFrom}
use Rattle.history_reader.specs.Told.{Refuses as ReadRefuses, Tells as TellsRead, TellsBad}
use Rattle.history_reader.specs.declared.fault.LineError.{LineError}
use Rattle.history_reader.specs.declared.fault.LineError.TheVariants as refused
use Rattle.world_text.specs.declared.line.LineCause.TheVariants as cause
use Rattle.world_text.specs.LineCauses.{cause_number_of}
use Rattle.world_text.specs.WorldText.{cuts_of, world_reading}
use Rattle.netcheck.specs.Input.{bad_world, no_history, parts_of, Handed, IsBadFrom, IsBadHanded, IsBadHistory, InputParts}
use Rattle.world_file.specs.Told.{Tells as WorldTells}
use Rattle.world_file.specs.declared.fault.WorldError.{WorldError}
use Rattle.world_file.specs.declared.fault.WorldError.TheVariants as world
use Rattle.netcheck.specs.Told.{HandsIn, IsFirstTold, JudgedInput, RefusesInput, Tells, of_line, of_world}
use Rattle.netcheck.specs.declared.fault.InputError.{InputError}
use Rattle.netcheck.specs.declared.fault.InputError.TheVariants as error
use Rattle.netcheck.specs.declared.input.CheckedInput.{CheckedInput}

-- Bad lines of the world.

-- the first bad line, by the parts of an input
by_parts : (input : List ℕ) (parts : Option InputParts) (found : Option (ℕ × ℕ)) → parts_of input ≡ parts → IsBadHanded parts input found
    → ((other : Option (ℕ × ℕ)) → IsBadHanded parts input other → other ≡ found) → IsFirstTold input found
by_parts input parts found are told one = record {
  is = subst (λ (p : Option InputParts). IsBadHanded p input found) (sym are) told;
  only = λ other is. one other (subst (λ (p : Option InputParts). IsBadHanded p input other) are is);
}

-- the world's text is bad
world_bad : (IsBehind : Option (ℕ × ℕ) → Type 0) (read : Result World (ℕ × ℕ)) (bad : ℕ × ℕ) → read ≡ Err bad → (found : Option (ℕ × ℕ))
    → (IsBadFrom (bad_world read) IsBehind found → found ≡ Some bad) × (found ≡ Some bad → IsBadFrom (bad_world read) IsBehind found)
world_bad IsBehind read bad is found = (
  λ told. subst (λ (r : Result World (ℕ × ℕ)). IsBadFrom (bad_world r) IsBehind found) is told,
  λ told. subst (λ (r : Result World (ℕ × ℕ)). IsBadFrom (bad_world r) IsBehind found) (sym is) told,
)

-- or good
world_good : (IsBehind : Option (ℕ × ℕ) → Type 0) (read : Result World (ℕ × ℕ)) (w : World) → read ≡ Ok w → (found : Option (ℕ × ℕ))
    → (IsBadFrom (bad_world read) IsBehind found → IsBehind found) × (IsBehind found → IsBadFrom (bad_world read) IsBehind found)
world_good IsBehind read w is found = (
  λ told. subst (λ (r : Result World (ℕ × ℕ)). IsBadFrom (bad_world r) IsBehind found) is told,
  λ told. subst (λ (r : Result World (ℕ × ℕ)). IsBadFrom (bad_world r) IsBehind found) (sym is) told,
)

-- no line stands between
abbrev lacks : List ℕ → Option (ℕ × ℕ) → Type 0
lacks input found = found ≡ Some (no_history input)

pub lacks_history : (input : List ℕ) (w : World) (lines number : ℕ) → parts_of input ≡ None → world_reading input ≡ Ok w
    → lines ≡ length (cuts_of input)
    → number ≡ cause_number_of cause.MissingPart → RefusesInput input (error.Bad (lines + 1) number)
lacks_history input w lines number none is count missing =
    subst (λ (found : Option (ℕ × ℕ)). IsFirstTold input found) told
    (by_parts input None (Some (no_history input)) none
    ((world_good (lacks input) (world_reading input) w is (Some (no_history input))).1 refl)
    (λ other t. (world_good (lacks input) (world_reading input) w is other).0 t))
  where
    told : Some (no_history input) ≡ Some (lines + 1, number)
    told = ap (λ (k : ℕ). Some (k + 1, cause_number_of cause.MissingPart)) (sym count) ∙ ap (λ (n : ℕ). Some (lines + 1, n)) (sym missing)

pub lacks_world : (input : List ℕ) (line cause : ℕ) → parts_of input ≡ None → world_reading input ≡ Err (line, cause)
    → RefusesInput input (error.Bad line cause)
lacks_world input line cause none is =
    by_parts input None (Some (line, cause)) none
    ((world_bad (lacks input) (world_reading input) (line, cause) is (Some (line, cause))).1 refl)
    (λ other told. (world_bad (lacks input) (world_reading input) (line, cause) is other).0 told)

-- so what is told of a text that isn't a world's
pub lacks_told : (input : List ℕ) (e : WorldError) → parts_of input ≡ None → WorldTells e (world_reading input) → RefusesInput input (of_world e)
lacks_told input (world.Bad line cause) none is = lacks_world input line cause none is
lacks_told input world.Memory none is = tt

-- the line between stands behind a bad world
pub parts_world : (input : List ℕ) (parts : InputParts) (line cause : ℕ) → parts_of input ≡ Some parts → world_reading parts.world ≡ Err (line, cause)
    → RefusesInput input (error.Bad line cause)
parts_world input parts line cause are is =
    by_parts input (Some parts) (Some (line, cause)) are
    ((world_bad (IsBadHistory (parts.lines + 1) parts.history) (world_reading parts.world) (line, cause) is (Some (line, cause))).1 refl)
    (λ other told. (world_bad (IsBadHistory (parts.lines + 1) parts.history) (world_reading parts.world) (line, cause) is other).0 told)

pub parts_told : (input : List ℕ) (parts : InputParts) (e : WorldError) → parts_of input ≡ Some parts → WorldTells e (world_reading parts.world)
    → RefusesInput input (of_world e)
parts_told input parts (world.Bad line cause) are is = parts_world input parts line cause are is
parts_told input parts world.Memory are is = tt

-- What stands behind it.

abbrev pub Reading : Type 0
Reading = Result (List Entry × Option (List ℕ)) LineError

module _ (input : List ℕ) (parts : InputParts) (w : World) (read : Reading) (are : parts_of input ≡ Some parts) (is_world : world_reading parts.world ≡ Ok w)
    (only : (h : List Entry) (told : Option (List ℕ)) → printed.SpellsHistory parts.history h told → TellsRead h told read)
    (bad : (line cause : ℕ) → printed.IsBadText parts.history line cause → TellsBad line cause read) where
  by_history : (found : Option (ℕ × ℕ)) → IsBadHistory (parts.lines + 1) parts.history found
      → ((other : Option (ℕ × ℕ)) → IsBadHistory (parts.lines + 1) parts.history other → other ≡ found) → IsFirstTold input found
  by_history found told one =
      by_parts input (Some parts) found are
      ((world_good (IsBadHistory (parts.lines + 1) parts.history) (world_reading parts.world) w is_world found).1 told)
      (λ other is. one other ((world_good (IsBadHistory (parts.lines + 1) parts.history) (world_reading parts.world) w is_world other).0 is))

  -- it has a bad line
  pub history_bad : (line cause : ℕ) → read ≡ Err (refused.Bad line cause) → printed.IsBadText parts.history line cause
      → IsFirstTold input (Some (parts.lines + 1 + line, cause))
  history_bad line cause is told = by_history (Some (parts.lines + 1 + line, cause)) (line, refl, told) one
    where
      one : (other : Option (ℕ × ℕ)) → IsBadHistory (parts.lines + 1) parts.history other → other ≡ Some (parts.lines + 1 + line, cause)
      one None (h, s, spells) = absurd (subst (TellsRead h s) is (only h s spells))
      one (Some other) (l, place, o) =
          let same = subst (TellsBad l other.1) is (bad l other.1 o) in
          ap (λ (p : ℕ × ℕ). Some p) (both other (parts.lines + 1 + line, cause) (place ∙ sym (ap (λ (k : ℕ). parts.lines + 1 + k) same.0)) (sym same.1))
        where
          both : (p q : ℕ × ℕ) → p.0 ≡ q.0 → p.1 ≡ q.1 → p ≡ q
          both (a, b) (c, d) first second = rw (first, second) refl

  pub history_told : (e : LineError) → read ≡ Err e → ReadRefuses (printed.IsBadText parts.history) e → RefusesInput input (of_line (parts.lines + 1) e)
  history_told (refused.Bad line cause) is told = history_bad line cause is told
  history_told refused.Memory is told = tt

  -- it is a history
  pub hands_in : (r : List Entry × Option (List ℕ)) → IsWorld w → read ≡ Ok r → printed.SpellsHistory parts.history r.0 r.1 → HandsIn input w r.0 r.1
  hands_in r world is spells = record {
    good = by_history None (r.0, r.1, spells) one;
    world = world;
    handed = record { parts = parts; world = w; history = r.0; told = r.1; are_parts = are; is_world = is_world; spelled = spells };
    only = same;
  }
    where
      one : (other : Option (ℕ × ℕ)) → IsBadHistory (parts.lines + 1) parts.history other → other ≡ None
      one None _ = refl
      one (Some other) (l, place, o) = absurd (subst (TellsBad l other.1) is (bad l other.1 o))

      same_some : {p q : InputParts} → Some p ≡ Some q → p ≡ q
      same_some e = cc

      same_ok : {v u : World} → (◌≡◌ {A = Result World (ℕ × ℕ)} (Ok v) (Ok u)) → v ≡ u
      same_ok e = cc

      same : (other : Handed input) → (other.world ≡ w) × (other.history ≡ r.0) × (other.told ≡ r.1)
      same other =
          let parts_are : parts ≡ other.parts = same_some (sym are ∙ other.are_parts) in
          let world_is : w ≡ other.world = same_ok (sym is_world ∙ (ap (λ (p : InputParts). world_reading p.world) parts_are ∙ other.is_world)) in
          let told_is = subst (TellsRead other.history other.told) is
          (only other.history other.told (subst (λ (p : InputParts). printed.SpellsHistory p.history other.history other.told) (sym parts_are) other.spelled)) in
          (sym world_is, sym told_is.0, sym told_is.1)

-- what was handed in, and judged
pub judged_so : (input : List ℕ) (read : CheckedInput) (result : Result CheckedInput InputError) → HandsIn input read.world read.history read.told
    → JudgedInput read result
    → Tells input result
judged_so input read (Ok kept) hands (same, legal, timed) =
    subst (λ (k : CheckedInput). HandsIn input k.world k.history k.told × IsLegal k.world k.history × IsTimed k.world k.history) (sym same)
    (hands, legal, timed)
judged_so input read (Err (error.Bad line cause)) hands judged = absurd judged
judged_so input read (Err (error.Fault stamp rule)) hands judged = (read.world, read.history, read.told, hands, judged)
judged_so input read (Err error.Memory) hands judged = tt

-- Lines.

line_is : (stamp : ℕ) (x : Entry) → line_of stamp x ≡ (numeral stamp ++ spaced (entry_words x)) ++ 10 ∷ []
unfolding line_of
line_is stamp x = refl

long_line : (stamp : ℕ) (x : Entry) → 1 ≤ length (line_of stamp x)
long_line stamp x =
    let is : length (line_of stamp x) ≡ length ((numeral stamp ++ spaced (entry_words x)) ++ 10 ∷ []) = ap (λ (xs : List ℕ). length xs) (line_is stamp x) in
    omega (arith, is, length-append (numeral stamp ++ spaced (entry_words x)) (10 ∷ []))

-- a history has a line an entry
long_text : (stamp : ℕ) (h : List Entry) → length h ≤ length (lines_from stamp h)
long_text stamp [] = omega arith
long_text stamp (x ∷ h) =
    let more = long_text (stamp + 1) h in
    let line = long_line stamp x in
    omega (arith, more, line, length-append (line_of stamp x) (lines_from (stamp + 1) h))

-- a summary has four lines at most
few_lines : (lines : List (List ℕ)) → AreLinesFrom 0 lines → length lines ≤ 4
few_lines [] are = omega arith
few_lines (a ∷ []) are = omega arith
few_lines (a ∷ b ∷ []) are = omega arith
few_lines (a ∷ b ∷ c ∷ []) are = omega arith
few_lines (a ∷ b ∷ c ∷ d ∷ []) are = omega arith
few_lines (a ∷ b ∷ c ∷ d ∷ e ∷ lines) are = absurd are.1.1.1.1.0

-- so the number of a bad line is about as small as the text
pub bad_within : (bytes : List ℕ) (line cause : ℕ) → printed.IsBadText bytes line cause → line ≤ length bytes + 5
bad_within bytes line cause bad =
    let long = long_text 0 bad.before in
    let few = few_lines bad.lines bad.summary in
    let whole = ap (λ (xs : List ℕ). length xs) bad.spelled ∙ length-append (history_text bad.before ++ concat bad.lines) bad.behind in
    omega (arith, long, few, whole, length-append (history_text bad.before) (concat bad.lines), bad.place)

-- so that its number fits, over the whole input
pub line_fits : (bytes : List ℕ) (before : ℕ) (e : LineError) → ReadRefuses (printed.IsBadText bytes) e → before + length bytes < 2 ^ 32
    → (line cause : ℕ) → e ≡ refused.Bad line cause → before + 1 + line < 2 ^ 64
line_fits bytes before e told room line cause is =
    let bad : printed.IsBadText bytes line cause = subst (ReadRefuses (printed.IsBadText bytes)) is told in
    omega (arith, bad_within bytes line cause bad, room)
