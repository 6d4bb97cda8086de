-- Bundles that were read make the versions of a text, and the first bad line of one is that of the text.
use Rattle.std.proofs.Common.{◌≡◌, ℕ, ◌+◌, ◌-◌, ◌<◌, ◌≤◌, ◌⊎◌, inl, inr, true, List, [], ◌∷◌, ◌++◌, length, take, drop, get_or, refl, sym, ap, subst, ◌∙◌, arith, Option, Some, None, append-nil, append_assoc, length-append}
use Rattle.std.specs.List.{join_with_byte, list_all}
use Rattle.std.proofs.Math.Seq.{drop-append_seam, take-append_seam}
use Rattle.std.proofs.lemmas.Bool.{and_parts}
use Rattle.net_base.specs.Ndb.{NdbPair}
use Rattle.net_base.specs.declared.world.Version.{Version}
use Rattle.net_base.specs.NdbBundle.{bad_line, causes_of, database, first_bad}
use Rattle.net_base.specs.NdbText.{lines_of}
use Rattle.net_base.proofs.Shared.{cut_at, one_part}
use Rattle.world_text.specs.VersionLines.{at_causes, bad_version_line, first_bad_version, is_at_line, last_moment, later_versions, moment_of, own_lines, version_from, versions_in, with_version}
use Rattle.world_text.specs.WorldSpelling.{is_line, laid}
use Rattle.world_text.specs.WorldText.{Cut, cuts_of}
use Rattle.world_text.proofs.Shared.{Free, any-free, before-all, before-at, begins-some, bundle-told, free-later, last-at, last-free, moved, or_else, own-at, version-bad, version-goes, versions-append}
use Rattle.world_file.specs.declared.fault.WorldError.{WorldError}
use Rattle.world_file.specs.declared.fault.WorldError.TheVariants as error
use Rattle.world_file.specs.Bundles.{IsFront, IsWithoutVersion, TellsMoment}
use Rattle.world_file.specs.Told.{TellsBehind}
use Rattle.world_file.proofs.Scanning.{Ahead, ahead, laid_lines, line_without}

abbrev Tuples : Type 0
Tuples = List (List (List NdbPair))

-- a version of this moment
abbrev version_at : ℕ → Tuples → Version
version_at moment db = record { moment = moment; db = db }

-- Errors.

-- what is told of a bundle, told of the text
told-on : (first number d : ℕ) (e : WorldError) (bad whole : Option (ℕ × ℕ)) → number ≡ first + d → whole ≡ moved d bad → TellsBehind number e bad → TellsBehind first e whole
told-on first number d error.Memory bad whole at is tells = tt
told-on first number d (error.Bad line cause) None whole at is tells = absurd tells
told-on first number d (error.Bad line cause) (Some bad) whole at is tells =
    let place = tells.0 in
    subst (λ (o : Option (ℕ × ℕ)). TellsBehind first (error.Bad line cause) o) (sym is) (omega (arith, at, place), tells.1)

told-front : (first number d : ℕ) (e : WorldError) (bad behind whole : Option (ℕ × ℕ)) → number ≡ first + d → whole ≡ or_else (moved d bad) behind → TellsBehind number e bad
    → TellsBehind first e whole
told-front first number d error.Memory bad behind whole at is tells = tt
told-front first number d (error.Bad line cause) None behind whole at is tells = absurd tells
told-front first number d (error.Bad line cause) (Some bad) behind whole at is tells =
    let place = tells.0 in
    subst (λ (o : Option (ℕ × ℕ)). TellsBehind first (error.Bad line cause) o) (sym is) (omega (arith, at, place), tells.1)

-- The texts of bundles.

laid-joined : (line : List ℕ) (lines : List (List ℕ)) → laid (line ∷ lines) ≡ join_with_byte 10 (line ∷ lines) ++ (10 ∷ [])
laid-joined line [] = refl
laid-joined line (next ∷ lines) =
    ap (λ (xs : List ℕ). line ++ (10 ∷ xs)) (laid-joined next lines) ∙ sym (append_assoc line (10 ∷ join_with_byte 10 (next ∷ lines)) (10 ∷ []))

joined-lines : (line : List ℕ) (lines : List (List ℕ)) → list_all is_line (line ∷ lines) ≡ true → lines_of (join_with_byte 10 (line ∷ lines)) ≡ line ∷ lines
joined-lines line [] whole = one_part 10 line (line_without line ((and_parts (is_line line) true whole).0))
joined-lines line (next ∷ lines) whole =
    let parts = and_parts (is_line line) (list_all is_line (next ∷ lines)) whole in
    cut_at 10 line (join_with_byte 10 (next ∷ lines)) (next ∷ lines) (line_without line parts.0) (joined-lines next lines parts.1)

-- the text of a bundle says what its lines do
record Same (text : List ℕ) (lines : List (List ℕ)) : Type 0 where
  bad : bad_line text ≡ first_bad causes_of [] lines
  read : database (lines_of text) ≡ database lines

-- lines in front of others, without their last newline
front-text : (front : List (List ℕ)) (rest : List ℕ) → list_all is_line front ≡ true → Same (take (length (laid front) - 1) (laid front ++ rest)) front
front-text [] rest whole = record { bad = refl; read = refl }
front-text (line ∷ lines) rest whole =
    let joined : List ℕ = join_with_byte 10 (line ∷ lines) in
    let laid_is = laid-joined line lines in
    let len = ap length laid_is in
    let more = length-append joined (10 ∷ []) in
    let place : length (laid (line ∷ lines)) - 1 ≡ length joined = omega (arith, len, more) in
    let text : take (length (laid (line ∷ lines)) - 1) (laid (line ∷ lines) ++ rest) ≡ joined =
    ap (λ k. take k (laid (line ∷ lines) ++ rest)) place
    ∙ (ap (λ (xs : List ℕ). take (length joined) (xs ++ rest)) laid_is
    ∙ (ap (take (length joined)) (append_assoc joined (10 ∷ []) rest) ∙ take-append_seam joined ((10 ∷ []) ++ rest))) in
    let lines_are = ap lines_of text ∙ joined-lines line lines whole in
    record { bad = ap (first_bad causes_of []) lines_are; read = ap database lines_are }

front_same : (text : List ℕ) (place lines : ℕ) (f : IsFront text place lines) → Same (take (place - 1) text) f.front
front_same text place lines f =
    subst (λ (xs : List ℕ). Same (take (place - 1) xs) f.front) (sym f.text_is)
    (subst (λ (k : ℕ). Same (take (k - 1) (laid f.front ++ f.rest)) f.front) (sym f.place_is) (front-text f.front f.rest f.whole))

pub front_within : (text : List ℕ) (place lines : ℕ) → IsFront text place lines → place ≤ length text
front_within text place lines f =
    let at = f.place_is in
    let len = ap length f.text_is in
    let more = length-append (laid f.front) f.rest in omega (arith, at, len, more)

front-rest : (text : List ℕ) (place lines : ℕ) (f : IsFront text place lines) → drop place text ≡ f.rest
front-rest text place lines f =
    ap (λ k. drop k text) f.place_is ∙ (ap (drop (length (laid f.front))) f.text_is ∙ drop-append_seam (laid f.front) f.rest)

some-cut : (text : List ℕ) (c : Cut) (cs : List Cut) → cuts_of text ≡ c ∷ cs → 0 < length text
some-cut [] c cs cut = absurd (let n = ap (λ (xs : List Cut). length xs) cut in omega (arith, n))
some-cut (b ∷ text) c cs cut = omega arith

pub front_some : (text : List ℕ) (place lines : ℕ) → IsFront text place lines → 0 < length (drop place text)
front_some text place lines f =
    subst (λ (xs : List ℕ). 0 < length xs) (sym (front-rest text place lines f)) (some-cut f.rest (record { line = f.line; behind = f.behind }) (cuts_of f.behind) f.cut)

-- Between bundles.

-- so many versions are read, and a bundle begins what is left, behind the line with this number
pub record At (text : List ℕ) (first number moment : ℕ) (versions : List Version) (rest : List ℕ) : Type 0 where
  pub before : List (List ℕ)
  pub reading : bad_version_line text ≡ first_bad_version before (lines_of rest)
  pub own : own_lines before ≡ []
  pub last : last_moment before ≡ moment
  pub count : number ≡ first + length before
  pub said : versions_in (lines_of text) ≡ versions ++ (version_from moment (lines_of rest) ∷ later_versions (lines_of rest))
  pub room : number + length rest ≤ first + length text

pub at_first : (text : List ℕ) (first : ℕ) → At text first first 0 [] text
at_first text first = record { before = []; reading = refl; own = refl; last = refl; count = omega arith; said = refl; room = omega arith }

-- The last bundle.

module _ (text : List ℕ) (first number moment : ℕ) (versions : List Version) (rest : List ℕ) (a : At text first number moment versions rest) (none : IsWithoutVersion rest) where
  last-told : bad_version_line text ≡ moved (length a.before) (bad_line rest)
  last-told = a.reading ∙ bundle-told (length a.before) a.before [] (lines_of rest) a.own (omega arith) (any-free (lines_of rest) none)

  pub end_bad : (e : WorldError) → TellsBehind number e (bad_line rest) → TellsBehind first e (bad_version_line text)
  end_bad e tells = told-on first number (length a.before) e (bad_line rest) (bad_version_line text) a.count last-told tells

  pub end_ok : (db : Tuples) → bad_line rest ≡ None → db ≡ database (lines_of rest) → (bad_version_line text ≡ None) × (versions ++ version_at moment db ∷ [] ≡ versions_in (lines_of text))
  end_ok db good is =
      let free : Free (lines_of rest) = any-free (lines_of rest) none in
      let later : later_versions (lines_of rest) ≡ [] = ap later_versions (sym (append-nil (lines_of rest))) ∙ free-later (lines_of rest) [] free in (
        last-told ∙ ap (moved (length a.before)) good,
        sym (a.said
            ∙ ap (λ (vs : List Version). versions ++ vs)
            (ap (λ (ls : List (List ℕ)). version_at moment (database ls) ∷ later_versions (lines_of rest)) (before-all (lines_of rest) free)
            ∙ (ap (λ (vs : List Version). version_at moment (database (lines_of rest)) ∷ vs) later ∙ ap (λ (d : Tuples). version_at moment d ∷ []) (sym is)))),
      )

-- A bundle before a line that begins a version.

laid-long : (lines : List (List ℕ)) → length lines ≤ length (laid lines)
laid-long [] = omega arith
laid-long (line ∷ lines) =
    let rest = laid-long lines in
    let more = length-append line (10 ∷ laid lines) in omega (arith, rest, more)

-- a line that begins a version stands behind that many others
pub front_lines : (text : List ℕ) (place lines : ℕ) → IsFront text place lines → lines < length text
front_lines text place lines f =
    let count = f.count in
    let long = laid-long f.front in
    let len = ap length f.text_is in
    let more = length-append (laid f.front) f.rest in
    let some = some-cut f.rest (record { line = f.line; behind = f.behind }) (cuts_of f.behind) f.cut in omega (arith, count, long, len, more, some)

-- an empty line says nothing
empty-told : (before : List (List ℕ)) → first_bad_version before ([] ∷ []) ≡ None
empty-told before = refl

empty-read : (moment : ℕ) → version_from moment ([] ∷ []) ≡ version_from moment []
empty-read moment = refl

-- what stands behind a line's newline, or nothing where it has none
tail-told : (before tail : List (List ℕ)) (behind : List ℕ) → (tail ≡ lines_of behind) ⊎ ((tail ≡ []) × (behind ≡ [])) → first_bad_version before tail ≡ first_bad_version before (lines_of behind)
tail-told before tail behind (inl is) = ap (first_bad_version before) is
tail-told before tail behind (inr (none, nil)) =
    ap (first_bad_version before) none ∙ (sym (empty-told before) ∙ ap (λ (xs : List ℕ). first_bad_version before (lines_of xs)) (sym nil))

tail-said : (moment : ℕ) (tail : List (List ℕ)) (behind : List ℕ) → (tail ≡ lines_of behind) ⊎ ((tail ≡ []) × (behind ≡ []))
    → version_from moment tail ∷ later_versions tail ≡ version_from moment (lines_of behind) ∷ later_versions (lines_of behind)
tail-said moment tail behind (inl is) = ap (λ (ls : List (List ℕ)). version_from moment ls ∷ later_versions ls) is
tail-said moment tail behind (inr (none, nil)) =
    ap (λ (ls : List (List ℕ)). version_from moment ls ∷ later_versions ls) none
    ∙ (ap (λ (v : Version). v ∷ []) (sym (empty-read moment)) ∙ ap (λ (xs : List ℕ). version_from moment (lines_of xs) ∷ later_versions (lines_of xs)) (sym nil))

module _
    (text : List ℕ) (first number moment : ℕ) (versions : List Version) (rest : List ℕ) (a : At text first number moment versions rest)
    (place lines : ℕ) (f : IsFront rest place lines)
  where
    free : Free f.front
    free = any-free f.front f.own

    lines-are : lines_of rest ≡ f.front ++ lines_of f.rest
    lines-are = ap lines_of f.text_is ∙ laid_lines f.front f.rest f.whole

    told : bad_version_line text ≡ or_else (moved (length a.before) (first_bad causes_of [] f.front)) (first_bad_version (a.before ++ f.front) (lines_of f.rest))
    told =
        a.reading
        ∙ (ap (first_bad_version a.before) lines-are
        ∙ (versions-append a.before f.front (lines_of f.rest)
        ∙ ap (λ (o : Option (ℕ × ℕ)). or_else o (first_bad_version (a.before ++ f.front) (lines_of f.rest)))
        (bundle-told (length a.before) a.before [] f.front a.own (omega arith) free)))

    pub front_bad : (e : WorldError) → TellsBehind number e (bad_line (take (place - 1) rest)) → TellsBehind first e (bad_version_line text)
    front_bad e tells =
        told-front first number (length a.before) e (bad_line (take (place - 1) rest)) _ (bad_version_line text) a.count
        (told ∙ ap (λ (o : Option (ℕ × ℕ)). or_else (moved (length a.before) o) (first_bad_version (a.before ++ f.front) (lines_of f.rest))) (sym (front_same rest place lines f).bad)) tells

    module _ (good : bad_line (take (place - 1) rest) ≡ None) (line behind : List ℕ) (cut : cuts_of (drop place rest) ≡ record { line = line; behind = behind } ∷ cuts_of behind) where
      cut-is : cuts_of f.rest ≡ record { line = line; behind = behind } ∷ cuts_of behind
      cut-is = ap cuts_of (sym (front-rest rest place lines f)) ∙ cut

      begins : is_at_line line ≡ true
      begins =
          ap (λ (cs : List Cut). is_at_line (get_or cs 0 (record { line = line; behind = behind })).line) (sym cut-is ∙ f.cut) ∙ f.begins

      there : Ahead f.rest line behind
      there = ahead f.rest line behind (some-cut f.rest (record { line = line; behind = behind }) (cuts_of behind) cut-is) cut-is

      -- the bundle is good, so the next line counts
      told-here : bad_version_line text ≡ first_bad_version (a.before ++ f.front) (line ∷ there.tail)
      told-here =
          told
          ∙ (ap (λ (o : Option (ℕ × ℕ)). or_else (moved (length a.before) o) (first_bad_version (a.before ++ f.front) (lines_of f.rest))) (sym (front_same rest place lines f).bad ∙ good)
          ∙ ap (first_bad_version (a.before ++ f.front)) there.lines_are)

      moment-here : last_moment (a.before ++ f.front) ≡ moment
      moment-here = last-free a.before f.front free ∙ a.last

      count-here : number + lines ≡ first + length (a.before ++ f.front)
      count-here =
          let count = a.count in
          let more = f.count in
          let len = length-append a.before f.front in omega (arith, count, more, len)

      pub moment_bad : (number' : ℕ) (e : WorldError) → number' ≡ number + (lines + 1) → TellsMoment number' moment line e → TellsBehind first e (bad_version_line text)
      moment_bad number' error.Memory at tells = absurd tells
      moment_bad number' (error.Bad place' cause) at tells =
          let is : bad_version_line text ≡ Some (length (a.before ++ f.front) + 1, cause) =
          told-here ∙ version-bad (a.before ++ f.front) line there.tail cause begins (ap (λ (m : ℕ). at_causes m (moment_of line)) moment-here ∙ tells.1) in
          let count = count-here in
          let same = tells.0 in
          subst (λ (o : Option (ℕ × ℕ)). TellsBehind first (error.Bad place' cause) o) (sym is) (omega (arith, at, same, count), refl)

      pub at_next : (db : Tuples) (m : ℕ) → db ≡ database (lines_of (take (place - 1) rest)) → moment_of line ≡ Some m → moment < m
          → At text first (number + (lines + 1)) m (versions ++ version_at moment db ∷ []) behind
      at_next db m read is late = record {
        before = (a.before ++ f.front) ++ line ∷ [];
        reading = told-here
            ∙ (version-goes (a.before ++ f.front) line there.tail m begins is (let same = moment-here in omega (arith, late, same))
            ∙ tail-told ((a.before ++ f.front) ++ line ∷ []) there.tail behind there.tail_is);
        own = own-at (a.before ++ f.front) line begins;
        last = last-at (a.before ++ f.front) line m begins is;
        count = let count = count-here in let len = length-append (a.before ++ f.front) (line ∷ []) in omega (arith, count, len);
        said = a.said ∙ (ap (λ (vs : List Version). versions ++ vs) said-here ∙ sym (append_assoc versions (version_at moment db ∷ []) (version_from m (lines_of behind) ∷ later_versions (lines_of behind))));
        room = let room = a.room in
            let count = f.count in
            let long = laid-long f.front in
            let len = ap length f.text_is in
            let more = length-append (laid f.front) f.rest in
            let less = there.less in omega (arith, room, count, long, len, more, less);
      }
        where
          whole-lines : lines_of rest ≡ f.front ++ line ∷ there.tail
          whole-lines = lines-are ∙ ap (λ (ls : List (List ℕ)). f.front ++ ls) there.lines_are

          said-here : version_from moment (lines_of rest) ∷ later_versions (lines_of rest) ≡ version_at moment db ∷ (version_from m (lines_of behind) ∷ later_versions (lines_of behind))
          said-here =
              ap (λ (ls : List (List ℕ)). version_from moment ls ∷ later_versions ls) whole-lines
              ∙ (ap (λ (ls : List (List ℕ)). version_at moment (database ls) ∷ later_versions (f.front ++ line ∷ there.tail)) (before-at f.front line there.tail free begins)
              ∙ (ap (λ (d : Tuples). version_at moment d ∷ later_versions (f.front ++ line ∷ there.tail)) (sym (read ∙ (front_same rest place lines f).read))
              ∙ ap (λ (vs : List Version). version_at moment db ∷ vs)
              (free-later f.front (line ∷ there.tail) free
              ∙ (ap (λ (o : Option ℕ). with_version o there.tail (later_versions there.tail)) (begins-some line m begins is) ∙ tail-said m there.tail behind there.tail_is))))
