-- What each command gives is an answer to its input.
use Rattle.std.proofs.Common.{◌≡◌, ℕ, ◌≤◌, List, length, Option, Some, None, Ok, Err, Result, refl, sym, ◌∙◌, ap}
use Rattle.net_base.specs.declared.world.World.{World}
use Rattle.net_base.specs.NdbBundle as bundle
use Rattle.net_model.specs.Answers.{Answer, bad_input, input_limit}
use Rattle.net_model.specs.Words.{Command, Cs, Query, Dns, Run, Make, Big, Export, Translate}
use Rattle.session_script.specs.declared.world.SessionWorld.{SessionWorld}
use Rattle.session_script.specs.Worlds.{IsTranslated}
use Rattle.world_text.specs.WorldText.{world_reading}
use Rattle.world_file.specs.SessionText.{SaysSessions}
use Rattle.netsh.specs.Built.{asking, cs_found, cs_over, dns_found, dns_over, made, found_by_query, query_over, translation, unless_bad, IsAnswer, IsBadTold, IsExported, IsFound, IsRunAnswer, IsSummed, IsWorldOf}
use Rattle.netcheck.specs.Input.{bad_world}
use Rattle.net_model.specs.Asking.{IsGiven}
use Rattle.net_model.proofs.Shared.{answer_within, within_limit}
use Rattle.world_file.proofs.Shared.{ok-err}

-- what was found, unless a line is bad
given_unless : (asked : Command) (input : List ℕ) (answer found : Answer) (bad : Option (ℕ × ℕ)) → (answer ≡ found → IsFound asked input answer)
    → answer ≡ unless_bad bad found → IsGiven asking bad asked input answer
given_unless asked input answer found None so is = so is
given_unless asked input answer found (Some bad) so is = is

pub gives_cs : (sys query input : List ℕ) (answer : Answer) → length input ≤ input_limit (Cs sys query) → answer ≡ cs_over sys query input
    → IsAnswer (Cs sys query) input answer
gives_cs sys query input answer fits is =
    answer_within _ asking (Cs sys query) input answer (bundle.bad_line input) (within_limit _ asking (Cs sys query) input fits) refl (λ other told. told)
    (given_unless (Cs sys query) input answer (cs_found sys query input) (bundle.bad_line input) (λ found. found) is)

pub gives_query : (attr value : List ℕ) (other : Option (List ℕ)) (input : List ℕ) (answer : Answer) → length input ≤ input_limit (Query attr value other)
    → answer ≡ query_over attr value other input → IsAnswer (Query attr value other) input answer
gives_query attr value other input answer fits is =
    answer_within _ asking (Query attr value other) input answer (bundle.bad_line input) (within_limit _ asking (Query attr value other) input fits) refl (λ found told. told)
    (given_unless (Query attr value other) input answer (found_by_query attr value other input) (bundle.bad_line input) (λ found. found) is)

pub gives_dns : (word input : List ℕ) (answer : Answer) → length input ≤ input_limit (Dns word) → answer ≡ dns_over word input → IsAnswer (Dns word) input answer
gives_dns word input answer fits is =
    answer_within _ asking (Dns word) input answer (bundle.bad_line input) (within_limit _ asking (Dns word) input fits) refl (λ found told. told)
    (given_unless (Dns word) input answer (dns_found word input) (bundle.bad_line input) (λ found. found) is)

pub gives_made : (messages : ℕ) (input : List ℕ) (answer : Answer) → answer ≡ made messages → IsAnswer (Make messages) input answer
gives_made messages input answer is = answer_within _ asking (Make messages) input answer None refl refl (λ other told. told) is

pub gives_summed : (messages : ℕ) (input : List ℕ) (w : World) (answer : Answer) → IsWorldOf (Big messages) input w → IsSummed w answer
    → IsAnswer (Big messages) input answer
gives_summed messages input w answer is summed =
    answer_within _ asking (Big messages) input answer None refl refl (λ other told. told) (w, is, summed)

-- a run's world is that of its input
pub gives_run : (workers : ℕ) (input : List ℕ) (w : World) (answer : Answer) → length input ≤ input_limit (Run workers) → world_reading input ≡ Ok w
    → IsRunAnswer w answer → IsAnswer (Run workers) input answer
gives_run workers input w answer fits is ran =
    let good : bad_world (world_reading input) ≡ None = ap bad_world is in
    answer_within _ asking (Run workers) input answer None (within_limit _ asking (Run workers) input fits) (sym good) (λ other told. told ∙ good) (w, is, ran)

-- or the input has a bad line
pub gives_bad_run : (workers : ℕ) (input : List ℕ) (line cause : ℕ) (answer : Answer) → length input ≤ input_limit (Run workers)
    → world_reading input ≡ Err (line, cause) → answer ≡ bad_input line cause → IsAnswer (Run workers) input answer
gives_bad_run workers input line cause answer fits is bad =
    let found : bad_world (world_reading input) ≡ Some (line, cause) = ap bad_world is in
    answer_within _ asking (Run workers) input answer (Some (line, cause)) (within_limit _ asking (Run workers) input fits) (sym found) (λ other told. told ∙ found) bad

-- ---- worlds with sessions

-- a text of sessions says one thing
abbrev pub SayOne : Type 0
SayOne = (text : List ℕ) (r s : Result SessionWorld (ℕ × ℕ)) → SaysSessions text r → SaysSessions text s → r ≡ s

same_bad : (bad other : ℕ × ℕ) (r : Result SessionWorld (ℕ × ℕ)) → r ≡ Err bad → r ≡ Err other → other ≡ bad
same_bad bad other r is also = cc

told_one : SayOne → (input : List ℕ) (found other : Option (ℕ × ℕ)) → IsBadTold input found → IsBadTold input other → other ≡ found
told_one one input None None told again = refl
told_one one input None (Some bad) told again = absurd (ok-err told.0 bad (Ok told.0) refl (one input (Ok told.0) (Err bad) told.1 again))
told_one one input (Some bad) None told again = absurd (ok-err again.0 bad (Ok again.0) refl (one input (Ok again.0) (Err bad) again.1 told))
told_one one input (Some bad) (Some other) told again = ap (λ (b : ℕ × ℕ). Some b) (same_bad bad other (Err bad) refl (one input (Err bad) (Err other) told again))

-- the text of the world that an input is translated to
pub gives_translation : SayOne → (input : List ℕ) (s : SessionWorld) (answer : Answer) → length input ≤ input_limit Translate → SaysSessions input (Ok s)
    → (w : World) × IsTranslated s w × (answer ≡ translation w) → IsAnswer Translate input answer
gives_translation one input s answer fits says is =
    answer_within _ asking Translate input answer None (within_limit _ asking Translate input fits) (s, says) (λ other told. told_one one input None other (s, says) told) (s, says, is.0, is.1, is.2)

pub gives_bad_translation : SayOne → (input : List ℕ) (line cause : ℕ) (answer : Answer) → length input ≤ input_limit Translate → SaysSessions input (Err (line, cause))
    → answer ≡ bad_input line cause → IsAnswer Translate input answer
gives_bad_translation one input line cause answer fits says bad =
    answer_within _ asking Translate input answer (Some (line, cause)) (within_limit _ asking Translate input fits) says (λ other told. told_one one input (Some (line, cause)) other says told) bad

-- a run over it, with the answers of its sessions
pub gives_export : SayOne → (workers : ℕ) (input : List ℕ) (s : SessionWorld) (answer : Answer) → length input ≤ input_limit (Export workers) → SaysSessions input (Ok s)
    → (w : World) × IsTranslated s w × IsExported w s.sessions answer → IsAnswer (Export workers) input answer
gives_export one workers input s answer fits says is =
    answer_within _ asking (Export workers) input answer None (within_limit _ asking (Export workers) input fits) (s, says) (λ other told. told_one one input None other (s, says) told) (s, says, is.0, is.1, is.2)

pub gives_bad_export : SayOne → (workers : ℕ) (input : List ℕ) (line cause : ℕ) (answer : Answer) → length input ≤ input_limit (Export workers) → SaysSessions input (Err (line, cause))
    → answer ≡ bad_input line cause → IsAnswer (Export workers) input answer
gives_bad_export one workers input line cause answer fits says bad =
    answer_within _ asking (Export workers) input answer (Some (line, cause)) (within_limit _ asking (Export workers) input fits) says (λ other told. told_one one input (Some (line, cause)) other says told) bad
