-- What a line that was taken makes of the text.
use Rattle.std.proofs.Common.{◌≡◌, ◌≤◌, ◌<◌, inl, inr, ℕ, ◌+◌, Bool, true, false, List, [], ◌∷◌, ◌++◌, length, refl, sym, ap, subst, ◌∙◌, arith, Option, Some, None, Result, Ok, Err}
use Rattle.std.specs.Prelude.{IfErr, IfOk, is_none, if◌then◌else◌}
use Rattle.std.proofs.lemmas.Bool.{false≢true}
use Rattle.std.proofs.lemmas.List.{nil_from_length}
use Rattle.session_script.specs.declared.world.Session.{Session}
use Rattle.session_script.specs.declared.world.SessionWorld.{SessionWorld}
use Rattle.net_base.specs.SessionScript.{IsBadStream}
use Rattle.world_text.specs.declared.line.LineCause.TheVariants as cause
use Rattle.world_text.specs.LineCauses.{cause_number_of}
use Rattle.world_text.specs.LineReading.{read_line}
use Rattle.world_text.specs.VersionLines.{bad_version_line}
use Rattle.world_text.specs.WorldLines.{Bad, Begins, Draft, Goes, Verdict, line_verdict, opening_draft, world_of}
use Rattle.world_text.specs.WorldRefusal.{LeadsToWorld}
use Rattle.world_text.specs.WorldText.{Cut, cuts_of, missing, with_versions}
use Rattle.world_text.proofs.Shared.{led-next, small-led, goes-bad}
use Rattle.world_words.specs.declared.fault.LineFault.{LineFault}
use Rattle.world_words.specs.declared.fault.LineFault.TheVariants as fault
use Rattle.world_file.specs.declared.fault.WorldError.{WorldError}
use Rattle.world_file.specs.declared.fault.WorldError.TheVariants as error
use Rattle.world_file.specs.SessionText.{ClosesLines, Extends, Feeds, Judges, OpensSession, Other, Passes, Row, SaysSessions, SaysFrom, ToldLines, as_script, bad_stream, extended, host_of_last, is_step_read, last_stream, opened_at, opening_told, other_verdict, with_sessions}
use Rattle.world_file.specs.SessionTold.{BundleBad, ClosesBad, IsWholeSession, LeadsOn, SaysBad, TakenLine, TakenAs, session_at}
use Rattle.world_file.specs.Told.{IsSmallDraft, Tells, TellsAt, TellsCause, going}

abbrev Outcome : Type 0
Outcome = Result SessionWorld (ℕ × ℕ)

-- ---- rows

pub taken_by : (row other : Row) (old new : ToldLines) (n : ℕ) (line : List ℕ) (taken : Result Bool WorldError) → row ≡ other → TakenAs row old new n line taken → TakenAs other old new n line taken
taken_by row other old new n line taken same says = subst (λ (x : Row). TakenAs x old new n line taken) same says

leads_same : (d e : Draft) → e ≡ d → LeadsOn d e
leads_same d e is = subst (LeadsOn d) (sym is) ([], refl)

pub taken_passed : (told : ToldLines) (n : ℕ) (line : List ℕ) → TakenAs Passes told told n line (Ok false)
taken_passed told n line = (leads_same told.draft told.draft refl, λ behind cs r says. says)

-- ---- lines of bytes

pub taken_wrong : (old new : ToldLines) (n : ℕ) (e : WorldError) → e ≡ error.Bad n (cause_number_of cause.WrongArgument) → (line : List ℕ) → TakenAs (Feeds None) old new n line (Err e)
taken_wrong old new n e is line = subst (λ (x : WorldError). TakenAs (Feeds None) old new n line (Err x)) (sym is) (λ behind cs. refl)

pub taken_stray : (old new : ToldLines) (n : ℕ) (bytes : List ℕ) (e : WorldError) → is_none old.under ≡ true → e ≡ error.Bad n (cause_number_of cause.OutOfOrder) → (line : List ℕ)
    → TakenAs (Feeds (Some bytes)) old new n line (Err e)
taken_stray old new n bytes e none is line = subst (λ (x : WorldError). TakenAs (Feeds (Some bytes)) old new n line (Err x)) (sym is) (λ behind cs. by old.under none _)
  where
    by : (o : Option ℕ) → is_none o ≡ true → (P : ToldLines → Type 0) → Extends old n o (Some bytes) P (Err (n, cause_number_of cause.OutOfOrder))
    by None none P = refl
    by (Some m) none P = absurd (false≢true none)

pub taken_fed : (old new : ToldLines) (n : ℕ) (bytes : List ℕ) → is_none old.under ≡ false → new ≡ extended bytes old → (line : List ℕ) → TakenAs (Feeds (Some bytes)) old new n line (Ok false)
taken_fed old new n bytes some is line = (
  leads_same old.draft new.draft (ap (λ (t : ToldLines). t.draft) is),
  λ behind cs r says. by r old.under some _ (subst (λ (t : ToldLines). SaysFrom t (n + 1) cs r) is says),
)
  where
    by : (r : Outcome) (o : Option ℕ) → is_none o ≡ false → (P : ToldLines → Type 0) → P (extended bytes old) → Extends old n o (Some bytes) P r
    by r None some P p = absurd (false≢true (sym some))
    by r (Some m) some P p = p

-- ---- where a session ends

closes_in : (sessions : List Session) (o : Option ℕ) (N : Type 0) (r : Outcome) → IsWholeSession sessions o → N → ClosesLines sessions o N r
closes_in sessions None N r closed next = next
closes_in sessions (Some n) N r closed next = inl (closed, next)

closes_bad : (told : ToldLines) (N : Type 0) (l c : ℕ) → told.under ≡ Some l → c ≡ bad_stream → IsBadStream (last_stream told.sessions) → ClosesLines told.sessions told.under N (Err (l, c))
closes_bad told N l c under is bad = subst (λ (o : Option ℕ). ClosesLines told.sessions o N (Err (l, c))) (sym under) (inr (bad, ap (λ (k : ℕ). Err (l, k)) is))

pub session_unclosed : (old new : ToldLines) (n : ℕ) (line : List ℕ) (e : WorldError) → ClosesBad old e → TakenAs OpensSession old new n line (Err e)
session_unclosed old new n line error.Memory bad = tt
session_unclosed old new n line (error.Bad l c) bad = λ behind cs. closes_bad old _ l c bad.0 bad.1 bad.2

pub other_unclosed : (old new : ToldLines) (n : ℕ) (line : List ℕ) (e : WorldError) → ClosesBad old e → TakenAs Other old new n line (Err e)
other_unclosed old new n line error.Memory bad = tt
other_unclosed old new n line (error.Bad l c) bad = λ behind cs. closes_bad old _ l c bad.0 bad.1 bad.2

-- ---- other lines

other_leads : (d e : Draft) (text : List ℕ) (o : Option ℕ) → other_verdict o d text ≡ Goes e → LeadsOn d e
other_leads d e text None goes = (text, goes)
other_leads d e text (Some n) goes = (text, by (is_step_read (read_line text)) goes)
  where
    by : (b : Bool) → (if b then Bad cause.OutOfOrder else line_verdict d text) ≡ Goes e → line_verdict d text ≡ Goes e
    by true f = absurd (goes-bad e cause.OutOfOrder (sym f))
    by false f = f

-- what an other line leaves
abbrev ended : ToldLines → Draft → ToldLines
ended told d = record { draft = d; sessions = told.sessions; under = None }

-- what comes of one
abbrev Other-judged : ToldLines → ℕ → List ℕ → List Cut → Outcome → Verdict → Type 0
Other-judged old n behind cs r v = Judges old.sessions n behind v (λ (d : Draft). SaysFrom (ended old d) (n + 1) cs r) r

pub other_taken : (old new : ToldLines) (n : ℕ) (line : List ℕ) (begins : Bool) → IsWholeSession old.sessions old.under → other_verdict old.under old.draft line ≡ going begins new.draft
    → new ≡ record { draft = new.draft; sessions = old.sessions; under = None } → TakenAs Other old new n line (Ok begins)
other_taken old new n line false closed verdict same = (
  other_leads old.draft new.draft line old.under verdict,
  λ behind cs r says. closes_in old.sessions old.under (Other-judged old n behind cs r (other_verdict old.under old.draft line)) r closed
      (subst (Other-judged old n behind cs r) (sym verdict) (subst (λ (t : ToldLines). SaysFrom t (n + 1) cs r) same says)),
)
other_taken old new n line true closed verdict same =
    λ behind cs r is. closes_in old.sessions old.under (Other-judged old n behind cs r (other_verdict old.under old.draft line)) r closed
    (subst (Other-judged old n behind cs r) (sym verdict)
    (is ∙ ap (λ (t : ToldLines). with_sessions t.sessions (with_versions n (world_of new.draft) behind (bad_version_line behind))) same))

pub other_bad : (old new : ToldLines) (n : ℕ) (line : List ℕ) (f : LineFault) (e : WorldError) → IsWholeSession old.sessions old.under → TellsCause f (other_verdict old.under old.draft line) → TellsAt f n e
    → TakenAs Other old new n line (Err e)
other_bad old new n line fault.Memory e closed tells is = subst (λ (x : WorldError). TakenAs Other old new n line (Err x)) (sym is) tt
other_bad old new n line (fault.Cause c) e closed tells is =
    subst (λ (x : WorldError). TakenAs Other old new n line (Err x)) (sym is)
    (λ behind cs. closes_in old.sessions old.under (Other-judged old n behind cs (Err (n, cause_number_of c)) (other_verdict old.under old.draft line)) (Err (n, cause_number_of c)) closed
    (subst (Other-judged old n behind cs (Err (n, cause_number_of c))) (sym tells) refl))

-- ---- lines of sessions

-- what a line of a session leaves
abbrev begun : ToldLines → ℕ → Draft → ToldLines
begun told n d = record { draft = d; sessions = told.sessions ++ opened_at told.draft (host_of_last d) ∷ []; under = Some n }

-- what comes of one
abbrev Session-judged : ToldLines → ℕ → List ℕ → List Cut → Outcome → Verdict → Type 0
Session-judged old n behind cs r v = Judges old.sessions n behind v (λ (d : Draft). SaysFrom (begun old n d) (n + 1) cs r) r

pub session_taken : (old mid new : ToldLines) (n : ℕ) (line : List ℕ) (place : ℕ) → IsWholeSession old.sessions old.under → line_verdict old.draft (as_script line) ≡ Goes mid.draft
    → mid ≡ record old { draft = mid.draft } → place ≡ length old.draft.scripts → new ≡ record { draft = mid.draft; sessions = mid.sessions ++ session_at place mid.draft ∷ []; under = Some n }
    → TakenAs OpensSession old new n line (Ok false)
session_taken old mid new n line place closed verdict same at is = (
  subst (LeadsOn old.draft) (sym (ap (λ (t : ToldLines). t.draft) is)) (as_script line, verdict),
  λ behind cs r says. closes_in old.sessions old.under (Session-judged old n behind cs r (line_verdict old.draft (as_script line))) r closed
      (subst (Session-judged old n behind cs r) (sym verdict) (subst (λ (t : ToldLines). SaysFrom t (n + 1) cs r) opened says)),
)
  where
    opened : new ≡ begun old n mid.draft
    opened =
        is
        ∙ (ap (λ (ss : List Session). record { draft = mid.draft; sessions = ss ++ session_at place mid.draft ∷ []; under = Some n }) (ap (λ (t : ToldLines). t.sessions) same)
        ∙ ap (λ (p : ℕ). record { draft = mid.draft; sessions = old.sessions ++ session_at p mid.draft ∷ []; under = Some n }) at)

pub session_begins : (old new : ToldLines) (n : ℕ) (line : List ℕ) → IsWholeSession old.sessions old.under → line_verdict old.draft (as_script line) ≡ Begins (world_of new.draft)
    → new ≡ record old { draft = new.draft } → TakenAs OpensSession old new n line (Ok true)
session_begins old new n line closed verdict same behind cs r is =
    closes_in old.sessions old.under (Session-judged old n behind cs r (line_verdict old.draft (as_script line))) r closed
    (subst (Session-judged old n behind cs r) (sym verdict)
    (is ∙ ap (λ (t : ToldLines). with_sessions t.sessions (with_versions n (world_of new.draft) behind (bad_version_line behind))) same))

pub session_bad : (old new : ToldLines) (n : ℕ) (line : List ℕ) (f : LineFault) (e : WorldError) → IsWholeSession old.sessions old.under → TellsCause f (line_verdict old.draft (as_script line)) → TellsAt f n e
    → TakenAs OpensSession old new n line (Err e)
session_bad old new n line fault.Memory e closed tells is = subst (λ (x : WorldError). TakenAs OpensSession old new n line (Err x)) (sym is) tt
session_bad old new n line (fault.Cause c) e closed tells is =
    subst (λ (x : WorldError). TakenAs OpensSession old new n line (Err x)) (sym is)
    (λ behind cs. closes_in old.sessions old.under (Session-judged old n behind cs (Err (n, cause_number_of c)) (line_verdict old.draft (as_script line))) (Err (n, cause_number_of c)) closed
    (subst (Session-judged old n behind cs (Err (n, cause_number_of c))) (sym tells) refl))

-- ---- the bundle

pub bundle_bad : (told : ToldLines) (n : ℕ) (text : List ℕ) (e : WorldError) → Tells e (with_versions n (world_of told.draft) text (bad_version_line text)) → BundleBad told n text e
bundle_bad told n text error.Memory tells = tt
bundle_bad told n text (error.Bad l c) tells = ap (with_sessions told.sessions) tells

-- ---- texts

-- what comes of the rest of a text is what comes of the text
pub record SoFar (bytes : List ℕ) (told : ToldLines) (n : ℕ) (rest : List ℕ) : Type 0 where
  pub lines : List (List ℕ)
  pub led : LeadsToWorld opening_draft lines told.draft
  pub small : IsSmallDraft told.draft
  pub few : length told.draft.scripts ≤ 32
  pub room : n + length rest ≤ length bytes + 1
  pub says : (r : Outcome) → SaysFrom told n (cuts_of rest) r → SaysSessions bytes r

made : (bytes : List ℕ) (told : ToldLines) (n : ℕ) (rest : List ℕ) (lines : List (List ℕ)) → LeadsToWorld opening_draft lines told.draft → n + length rest ≤ length bytes + 1
    → ((r : Outcome) → SaysFrom told n (cuts_of rest) r → SaysSessions bytes r) → SoFar bytes told n rest
made bytes told n rest lines led room says =
    let s = small-led lines told.draft led in
    record { lines = lines; led = led; small = record { media = s.media; hosts = s.hosts; named = s.named }; few = s.scripts; room = room; says = says }

pub so_first : (bytes : List ℕ) (told : ToldLines) → told ≡ opening_told → SoFar bytes told 1 bytes
so_first bytes told is =
    subst (λ (t : ToldLines). SoFar bytes t 1 bytes) (sym is) (made bytes opening_told 1 bytes [] refl (omega arith) (λ r says. says))

-- one line more
pub so_next : (bytes : List ℕ) (old new : ToldLines) (n : ℕ) (rest line behind : List ℕ) → SoFar bytes old n rest → cuts_of rest ≡ record { line = line; behind = behind } ∷ cuts_of behind
    → length behind < length rest → TakenLine old new n line (Ok false) → SoFar bytes new (n + 1) behind
so_next bytes old new n rest line behind so at less taken =
    made bytes new (n + 1) behind (so.lines ++ taken.0.0 ∷ []) (led-next so.lines taken.0.0 old.draft new.draft so.led taken.0.1)
    (let room = so.room in omega (arith, room, less))
    (λ r says. so.says r (subst (λ (cs : List Cut). SaysFrom old n cs r) (sym at) (taken.1 behind (cuts_of behind) r says)))

-- what a bad line tells
pub so_bad : (bytes : List ℕ) (old new : ToldLines) (n : ℕ) (rest line behind : List ℕ) (e : WorldError) → SoFar bytes old n rest → cuts_of rest ≡ record { line = line; behind = behind } ∷ cuts_of behind
    → TakenLine old new n line (Err e) → SaysBad bytes e
so_bad bytes old new n rest line behind error.Memory so at taken = tt
so_bad bytes old new n rest line behind (error.Bad l c) so at taken =
    so.says (Err (l, c)) (subst (λ (cs : List Cut). SaysFrom old n cs (Err (l, c))) (sym at) (taken behind (cuts_of behind)))

-- what the bundle tells
begins-says : (bytes : List ℕ) (old new : ToldLines) (n : ℕ) (rest line behind : List ℕ) (r : Outcome) → SoFar bytes old n rest → cuts_of rest ≡ record { line = line; behind = behind } ∷ cuts_of behind
    → TakenLine old new n line (Ok true) → with_sessions new.sessions (with_versions n (world_of new.draft) behind (bad_version_line behind)) ≡ r → SaysSessions bytes r
begins-says bytes old new n rest line behind r so at taken is =
    so.says r (subst (λ (cs : List Cut). SaysFrom old n cs r) (sym at) (taken behind (cuts_of behind) r (sym is)))

pub so_ok : (bytes : List ℕ) (old new : ToldLines) (n : ℕ) (rest line behind : List ℕ) (answer : Result SessionWorld WorldError) → SoFar bytes old n rest
    → cuts_of rest ≡ record { line = line; behind = behind } ∷ cuts_of behind → TakenLine old new n line (Ok true)
    → IfOk answer (λ (w : SessionWorld). with_sessions new.sessions (with_versions n (world_of new.draft) behind (bad_version_line behind)) ≡ Ok w) → IfOk answer (λ (w : SessionWorld). SaysSessions bytes (Ok w))
so_ok bytes old new n rest line behind (Ok w) so at taken is = begins-says bytes old new n rest line behind (Ok w) so at taken is
so_ok bytes old new n rest line behind (Err e) so at taken is = is

pub so_unread : (bytes : List ℕ) (old new : ToldLines) (n : ℕ) (rest line behind : List ℕ) (answer : Result SessionWorld WorldError) → SoFar bytes old n rest
    → cuts_of rest ≡ record { line = line; behind = behind } ∷ cuts_of behind → TakenLine old new n line (Ok true) → IfErr answer (λ (e : WorldError). BundleBad new n behind e)
    → IfErr answer (λ (e : WorldError). SaysBad bytes e)
so_unread bytes old new n rest line behind (Ok w) so at taken bad = bad
so_unread bytes old new n rest line behind (Err error.Memory) so at taken bad = tt
so_unread bytes old new n rest line behind (Err (error.Bad l c)) so at taken bad = begins-says bytes old new n rest line behind (Err (l, c)) so at taken bad

at-end : (bytes : List ℕ) (told : ToldLines) (n : ℕ) (rest : List ℕ) (r : Outcome) → SoFar bytes told n rest → length rest ≡ 0
    → ClosesLines told.sessions told.under (r ≡ Err (n, cause_number_of (missing told.draft))) r → SaysSessions bytes r
at-end bytes told n rest r so none closes =
    so.says r (subst (λ (left : List ℕ). SaysFrom told n (cuts_of left) r) (sym (nil_from_length rest none)) closes)

pub end_unclosed : (bytes : List ℕ) (told : ToldLines) (n : ℕ) (rest : List ℕ) (e : WorldError) → SoFar bytes told n rest → length rest ≡ 0 → ClosesBad told e → SaysBad bytes e
end_unclosed bytes told n rest error.Memory so none bad = tt
end_unclosed bytes told n rest (error.Bad l c) so none bad = at-end bytes told n rest (Err (l, c)) so none (closes_bad told _ l c bad.0 bad.1 bad.2)

pub end_missing : (bytes : List ℕ) (told : ToldLines) (n : ℕ) (rest : List ℕ) (e : WorldError) → SoFar bytes told n rest → length rest ≡ 0 → IsWholeSession told.sessions told.under
    → e ≡ error.Bad n (cause_number_of (missing told.draft)) → SaysBad bytes e
end_missing bytes told n rest e so none closed is =
    subst (SaysBad bytes) (sym is)
    (at-end bytes told n rest (Err (n, cause_number_of (missing told.draft))) so none
    (closes_in told.sessions told.under (Err (n, cause_number_of (missing told.draft)) ≡ Err (n, cause_number_of (missing told.draft))) (Err (n, cause_number_of (missing told.draft))) closed refl))

-- what holds of each world that a text says
pub holds : (P : SessionWorld → Type 0) (answer : Result SessionWorld WorldError) (text : List ℕ) → ((w : SessionWorld) → SaysSessions text (Ok w) → P w) → IfOk answer (λ (w : SessionWorld). SaysSessions text (Ok w)) → IfOk answer P
holds P (Ok w) text says is = says w is
holds P (Err e) text says is = is
