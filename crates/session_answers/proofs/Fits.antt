-- Answers have room in a message.
use Rattle.std.proofs.Common.{◌≡◌, ◌≤◌, ◌<◌, ℕ, ◌*◌, ◌==◌, min, Bool, true, false, List, [], ◌∷◌, length, map, take, drop, Option, Some, None, is_some, cond, bytes_eq, refl, sym, subst, ◌∙◌, arith, length-append}
use Rattle.std.proofs.lemmas.List.{length-take}
use Rattle.std.specs.Prelude.{codes, flat_map}
use Rattle.std.specs.Option.{option_map_or}
use Rattle.net_base.specs.declared.names.Node.{Node}
use Rattle.net_base.specs.declared.names.Node.TheVariants as node
use Rattle.net_base.specs.declared.reply.Reply.{Reply}
use Rattle.net_base.specs.declared.ninep.Rmsg.{Rmsg}
use Rattle.net_base.specs.declared.ninep.Rmsg.TheVariants as r
use Rattle.net_base.specs.declared.ninep.Qid.{Qid}
use Rattle.net_base.specs.declared.ninep.Tmsg.{Tmsg}
use Rattle.net_base.specs.declared.ninep.Tmsg.TheVariants as t
use Rattle.net_base.specs.NinepFields.{qid}
use Rattle.net_base.specs.NinepMessages.{IsTmsg, longest, r_bytes, r_fields, r_qids, t_tag}
use Rattle.net_base.specs.SessionAnswers.{Found, attach_answer, bad_fid, bad_mode, bad_use, found_answer, granted, is_granting, node_at, not_served, of_known, of_used, open_answer, piece, longest_error, read_answer, said_at_once, skipped, spoken, version_answer, walk_answer}
use Rattle.net_base.specs.Steps.{bytes_in}
use Rattle.net_base.specs.declared.ninep.Target.{Target}
use Rattle.net_base.specs.SessionFiles.{can_open, is_cs, qid_of, step_to, walked}
use Rattle.net_base.specs.SessionScript.{begins_session, gives_nothing, nofid, room}
use Rattle.net_base.specs.SessionTable.{Table, is_taken}
use Rattle.session_answers.specs.Told.{told_by_reply, told_reply_text}

-- the fields of the answer have room behind a header, and its qids are few
abbrev Fits : Rmsg → Type 0
Fits m = (length (r_fields m) ≤ 8209) × (length (r_qids m) < 17)

either : (v : Bool) (x y : Rmsg) → Fits x → Fits y → Fits (cond v x y)
either true x y a b = a
either false x y a b = b

error_fits : (tag : ℕ) (text : List ℕ) → length text ≤ 8192 → Fits (r.Error tag text)
error_fits tag text short = (omega (arith, short), omega arith)

read_fits : (tag : ℕ) (bytes : List ℕ) → length bytes ≤ 8192 → Fits (r.Read tag bytes)
read_fits tag bytes short = (omega (arith, short), omega arith)

known : (tag : ℕ) (o : Option Target) (answer : Target → Rmsg) → ((f : Target) → Fits (answer f)) → Fits (of_known tag o answer)
known tag None answer each = error_fits tag bad_fid (omega arith)
known tag (Some f) answer each = each f

used : (tag : ℕ) (o : Option Target) (answer : Target → Rmsg) → ((f : Target) → Fits (answer f)) → Fits (of_used tag o answer)
used tag o answer each =
    known tag o (λ (f : Target). cond f.is_used (answer f) (r.Error tag bad_use))
    (λ f. either f.is_used (answer f) (r.Error tag bad_use) (each f) (error_fits tag bad_use (omega arith)))

-- ---- reads

took_few : (n : ℕ) (bytes : List ℕ) → length (take n bytes) ≤ n
took_few n bytes = omega (arith, length-take n bytes)

piece_few : (table : Table) (offset count : ℕ) (bytes : List ℕ) → table.msize ≤ longest → length (piece offset (room table count) bytes) ≤ 8192
piece_few table offset count bytes short = omega (arith, short, took_few (room table count) (drop offset bytes))

read_all_fits : (table : Table) (found : Found) (tag fid offset count : ℕ) (f : Target) → table.msize ≤ longest → Fits (read_answer table found tag fid offset count f)
read_all_fits table found tag fid offset count f short =
    let lines : List ℕ = piece offset (room table count) (found fid) in
    either (gives_nothing f.node offset count) (r.Read tag []) (cond (is_cs f.node) (r.Read tag lines) (r.Error tag not_served)) (read_fits tag [] (omega arith))
    (either (is_cs f.node) (r.Read tag lines) (r.Error tag not_served) (read_fits tag lines (piece_few table offset count (found fid) short)) (error_fits tag not_served (omega arith)))

-- ---- walks

walked_few : (at : Node) (names : List (List ℕ)) → length (walked at names) ≤ length names
walked_few at [] = omega arith
walked_few at (name ∷ names) = by (step_to at name) (λ next. walked_few next names)
  where
    by : (o : Option Node) → ((next : Node) → length (walked next names) ≤ length names)
        → length (option_map_or (λ (next : Node). next ∷ walked next names) o []) ≤ length (name ∷ names)
    by None few = omega arith
    by (Some next) few = omega (arith, few next)

qids_long : (qids : List Qid) → length (flat_map qid qids) ≡ 13 * length qids
qids_long [] = refl
qids_long (q ∷ qids) = length-append (qid q) (flat_map qid qids) ∙ omega (arith, qids_long qids)

mapped_few : (found : List Node) → length (map qid_of found) ≡ length found
mapped_few [] = refl
mapped_few (at ∷ found) = omega (arith, mapped_few found)

walk_fits : (tag : ℕ) (found : List Node) → length found < 17 → Fits (r.Walk tag (map qid_of found))
walk_fits tag found few = (omega (arith, few, qids_long (map qid_of found), mapped_few found), omega (arith, few, mapped_few found))

found_fits : (tag : ℕ) (names : List (List ℕ)) (found : List Node) → length found < 17 → Fits (found_answer tag names found)
found_fits tag [] [] few = walk_fits tag [] few
found_fits tag [] (at ∷ more) few = walk_fits tag (at ∷ more) few
found_fits tag (name ∷ names) [] few = error_fits tag (codes "nofile") (omega arith)
found_fits tag (name ∷ names) (at ∷ more) few = walk_fits tag (at ∷ more) few

walk_all_fits : (table : Table) (tag fid newfid : ℕ) (names : List (List ℕ)) (f : Target) → length names < 17 → Fits (walk_answer table tag fid newfid names f)
walk_all_fits table tag fid newfid names f few =
    let found : List Node = walked f.node names in
    either (is_taken table fid newfid) (r.Error tag bad_fid) (cond f.is_used (r.Error tag bad_use) (found_answer tag names found)) (error_fits tag bad_fid (omega arith))
    (either f.is_used (r.Error tag bad_use) (found_answer tag names found) (error_fits tag bad_use (omega arith)) (found_fits tag names found (omega (arith, few, walked_few f.node names))))

-- ---- the others

spoken_few : (version : List ℕ) → length (spoken version) ≤ 7
spoken_few version = by (bytes_eq version (codes "9P2000"))
  where
    by : (v : Bool) → length (cond v (codes "9P2000") (codes "unknown")) ≤ 7
    by true = omega arith
    by false = omega arith

version_fits : (table : Table) (tag msize : ℕ) (version : List ℕ) → Fits (version_answer table tag msize version)
version_fits table tag msize version =
    either (begins_session table msize) (r.Version tag (min msize table.msize) (spoken version)) (r.Error tag bad_use)
    (omega (arith, spoken_few version), omega arith)
    (error_fits tag bad_use (omega arith))

attach_fits : (table : Table) (tag fid afid : ℕ) → Fits (attach_answer table tag fid afid)
attach_fits table tag fid afid =
    either (afid == nofid) (cond (is_some (table.fids fid)) (r.Error tag bad_use) (r.Attach tag (qid_of node.Root))) (r.Error tag not_served)
    (either (is_some (table.fids fid)) (r.Error tag bad_use) (r.Attach tag (qid_of node.Root)) (error_fits tag bad_use (omega arith)) (omega arith, omega arith))
    (error_fits tag not_served (omega arith))

open_fits : (tag mode : ℕ) (f : Target) → Fits (open_answer tag mode f)
open_fits tag mode f = either (can_open f.node mode) (r.Open tag (qid_of f.node) 0) (r.Error tag bad_mode) (omega arith, omega arith) (error_fits tag bad_mode (omega arith))

said_short : (table : Table) (found : Found) (m : Tmsg) → table.msize ≤ longest → IsTmsg m → Fits (said_at_once table found m)
said_short table found (t.Version tag msize version) short is = version_fits table tag msize version
said_short table found (t.Auth tag afid uname aname) short is = error_fits tag not_served (omega arith)
said_short table found (t.Attach tag fid afid uname aname) short is = attach_fits table tag fid afid
said_short table found (t.Flush tag oldtag) short is = (omega arith, omega arith)
said_short table found (t.Walk tag fid newfid names) short is =
    known tag (table.fids fid) (walk_answer table tag fid newfid names) (λ f. walk_all_fits table tag fid newfid names f is.1.1.0)
said_short table found (t.Open tag fid mode) short is = known tag (table.fids fid) (open_answer tag mode) (open_fits tag mode)
said_short table found (t.Create tag fid name perm mode) short is = known tag (table.fids fid) (λ (f : Target). r.Error tag not_served) (λ f. error_fits tag not_served (omega arith))
said_short table found (t.Read tag fid offset count) short is =
    used tag (table.fids fid) (read_answer table found tag fid offset count) (λ f. read_all_fits table found tag fid offset count f short)
said_short table found (t.Write tag fid offset bytes) short is = known tag (table.fids fid) (λ (f : Target). r.Error tag bad_use) (λ f. error_fits tag bad_use (omega arith))
said_short table found (t.Clunk tag fid) short is = known tag (table.fids fid) (λ (f : Target). r.Clunk tag) (λ f. (omega arith, omega arith))
said_short table found (t.Remove tag fid) short is = known tag (table.fids fid) (λ (f : Target). r.Error tag not_served) (λ f. error_fits tag not_served (omega arith))
said_short table found (t.Stat tag fid) short is = known tag (table.fids fid) (λ (f : Target). r.Error tag not_served) (λ f. error_fits tag not_served (omega arith))
said_short table found (t.Wstat tag fid stat) short is = known tag (table.fids fid) (λ (f : Target). r.Error tag not_served) (λ f. error_fits tag not_served (omega arith))

granted_short : (table : Table) (m : Tmsg) (x : Reply) → table.msize ≤ longest → Fits (granted table m x)
granted_short table (t.Version tag msize version) x short = error_fits tag not_served (omega arith)
granted_short table (t.Auth tag afid uname aname) x short = error_fits tag not_served (omega arith)
granted_short table (t.Attach tag fid afid uname aname) x short = error_fits tag not_served (omega arith)
granted_short table (t.Flush tag oldtag) x short = error_fits tag not_served (omega arith)
granted_short table (t.Walk tag fid newfid names) x short = error_fits tag not_served (omega arith)
granted_short table (t.Open tag fid mode) x short = (omega arith, omega arith)
granted_short table (t.Create tag fid name perm mode) x short = error_fits tag not_served (omega arith)
granted_short table (t.Read tag fid offset count) x short =
    read_fits tag (piece (skipped (node_at table fid) offset) (room table count) (bytes_in x)) (piece_few table (skipped (node_at table fid) offset) count (bytes_in x) short)
granted_short table (t.Write tag fid offset bytes) x short = (omega arith, omega arith)
granted_short table (t.Clunk tag fid) x short = (omega arith, omega arith)
granted_short table (t.Remove tag fid) x short = error_fits tag not_served (omega arith)
granted_short table (t.Stat tag fid) x short = error_fits tag not_served (omega arith)
granted_short table (t.Wstat tag fid stat) x short = error_fits tag not_served (omega arith)

told_short : (table : Table) (m : Tmsg) (x : Reply) → table.msize ≤ longest → (is_granting x ≡ false → length (told_reply_text x) ≤ longest_error) → Fits (told_by_reply table m x)
told_short table m x short few = by (is_granting x) few
  where
    by : (v : Bool) → (v ≡ false → length (told_reply_text x) ≤ longest_error) → Fits (cond v (granted table m x) (r.Error (t_tag m) (told_reply_text x)))
    by true few = granted_short table m x short
    by false few = error_fits (t_tag m) (told_reply_text x) (few refl)

whole_short : (m : Rmsg) → length (r_fields m) ≤ 8209 → length (r_bytes m) ≤ longest
unfolding r_bytes
whole_short m short = omega (arith, short)

pub said_fits : (table : Table) (found : Found) (m : Tmsg) (answer : Rmsg) → table.msize ≤ longest → IsTmsg m → answer ≡ said_at_once table found m
    → (length (r_bytes answer) ≤ longest) × (length (r_qids answer) < 17)
said_fits table found m answer short is same =
    let fits : Fits answer = subst Fits (sym same) (said_short table found m short is) in
    (whole_short answer fits.0, fits.1)

pub replied_fits : (table : Table) (m : Tmsg) (x : Reply) (answer : Rmsg) → table.msize ≤ longest → answer ≡ told_by_reply table m x
    → (is_granting x ≡ false → length (told_reply_text x) ≤ longest_error) → (length (r_bytes answer) ≤ longest) × (length (r_qids answer) < 17)
replied_fits table m x answer short same few =
    let fits : Fits answer = subst Fits (sym same) (told_short table m x short few) in
    (whole_short answer fits.0, fits.1)
