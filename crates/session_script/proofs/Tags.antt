-- The tags of answers.
use Rattle.std.proofs.Common.{◌≡◌, ℕ, ◌==◌, min, Bool, true, false, List, [], ◌∷◌, Option, Some, None, is_some, cond, refl}
use Rattle.net_base.specs.declared.names.Node.{Node}
use Rattle.net_base.specs.declared.names.Node.TheVariants as node
use Rattle.net_base.specs.declared.reply.Reply.{Reply}
use Rattle.net_base.specs.declared.ninep.Rmsg.{Rmsg}
use Rattle.net_base.specs.declared.ninep.Rmsg.TheVariants as r
use Rattle.net_base.specs.declared.ninep.Tmsg.{Tmsg}
use Rattle.net_base.specs.declared.ninep.Tmsg.TheVariants as t
use Rattle.net_base.specs.NinepMessages.{r_tag, t_tag}
use Rattle.net_base.specs.SessionAnswers.{Found, attach_answer, bad_fid, bad_mode, bad_use, found_answer, granted, is_granting, not_served, of_known, of_used, open_answer, piece, printed, read_answer, replied, said_at_once, spoken, version_answer, walk_answer}
use Rattle.net_base.specs.declared.ninep.Target.{Target}
use Rattle.net_base.specs.SessionFiles.{can_open, is_cs, qid_of, walked}
use Rattle.net_base.specs.SessionScript.{begins_session, gives_nothing, nofid, room}
use Rattle.net_base.specs.SessionTable.{Table, is_taken}

-- of two answers with a tag either has it
either : (b : Bool) (x y : Rmsg) (tag : ℕ) → r_tag x ≡ tag → r_tag y ≡ tag → r_tag (cond b x y) ≡ tag
either true x y tag a b = a
either false x y tag a b = b

known : (tag : ℕ) (o : Option Target) (answer : Target → Rmsg) → ((f : Target) → r_tag (answer f) ≡ tag) → r_tag (of_known tag o answer) ≡ tag
known tag None answer each = refl
known tag (Some f) answer each = each f

found_tag : (tag : ℕ) (names : List (List ℕ)) (found : List Node) → r_tag (found_answer tag names found) ≡ tag
found_tag tag [] [] = refl
found_tag tag [] (at ∷ more) = refl
found_tag tag (name ∷ names) [] = refl
found_tag tag (name ∷ names) (at ∷ more) = refl

version_tag : (table : Table) (tag msize : ℕ) (version : List ℕ) → r_tag (version_answer table tag msize version) ≡ tag
version_tag table tag msize version = either (begins_session table msize) (r.Version tag (min msize table.msize) (spoken version)) (r.Error tag bad_use) tag refl refl

attach_tag : (table : Table) (tag fid afid : ℕ) → r_tag (attach_answer table tag fid afid) ≡ tag
attach_tag table tag fid afid =
    either (afid == nofid) (cond (is_some (table.fids fid)) (r.Error tag bad_use) (r.Attach tag (qid_of node.Root))) (r.Error tag not_served) tag
    (either (is_some (table.fids fid)) (r.Error tag bad_use) (r.Attach tag (qid_of node.Root)) tag refl refl)
    refl

walk_tag : (table : Table) (tag fid newfid : ℕ) (names : List (List ℕ)) (f : Target) → r_tag (walk_answer table tag fid newfid names f) ≡ tag
walk_tag table tag fid newfid names f =
    let found : Rmsg = found_answer tag names (walked f.node names) in
    either (is_taken table fid newfid) (r.Error tag bad_fid) (cond f.is_used (r.Error tag bad_use) found) tag refl
    (either f.is_used (r.Error tag bad_use) found tag refl (found_tag tag names (walked f.node names)))

open_tag : (tag mode : ℕ) (f : Target) → r_tag (open_answer tag mode f) ≡ tag
open_tag tag mode f = either (can_open f.node mode) (r.Open tag (qid_of f.node) 0) (r.Error tag bad_mode) tag refl refl

read_tag : (table : Table) (found : Found) (tag fid offset count : ℕ) (f : Target) → r_tag (read_answer table found tag fid offset count f) ≡ tag
read_tag table found tag fid offset count f =
    let lines : Rmsg = r.Read tag (piece offset (room table count) (found fid)) in
    either (gives_nothing f.node offset count) (r.Read tag []) (cond (is_cs f.node) lines (r.Error tag not_served)) tag refl
    (either (is_cs f.node) lines (r.Error tag not_served) tag refl refl)

used_tag : (tag : ℕ) (o : Option Target) (answer : Target → Rmsg) → ((f : Target) → r_tag (answer f) ≡ tag) → r_tag (of_used tag o answer) ≡ tag
used_tag tag o answer each =
    known tag o (λ (f : Target). cond f.is_used (answer f) (r.Error tag bad_use)) (λ f. either f.is_used (answer f) (r.Error tag bad_use) tag (each f) refl)

pub said_tag : (table : Table) (found : Found) (m : Tmsg) → r_tag (said_at_once table found m) ≡ t_tag m
said_tag table found (t.Version tag msize version) = version_tag table tag msize version
said_tag table found (t.Auth tag afid uname aname) = refl
said_tag table found (t.Attach tag fid afid uname aname) = attach_tag table tag fid afid
said_tag table found (t.Flush tag oldtag) = refl
said_tag table found (t.Walk tag fid newfid names) =
    known tag (table.fids fid) (walk_answer table tag fid newfid names) (walk_tag table tag fid newfid names)
said_tag table found (t.Open tag fid mode) = known tag (table.fids fid) (open_answer tag mode) (open_tag tag mode)
said_tag table found (t.Create tag fid name perm mode) = known tag (table.fids fid) (λ (f : Target). r.Error tag not_served) (λ f. refl)
said_tag table found (t.Read tag fid offset count) =
    used_tag tag (table.fids fid) (read_answer table found tag fid offset count) (read_tag table found tag fid offset count)
said_tag table found (t.Write tag fid offset bytes) = known tag (table.fids fid) (λ (f : Target). r.Error tag bad_use) (λ f. refl)
said_tag table found (t.Clunk tag fid) = known tag (table.fids fid) (λ (f : Target). r.Clunk tag) (λ f. refl)
said_tag table found (t.Remove tag fid) = known tag (table.fids fid) (λ (f : Target). r.Error tag not_served) (λ f. refl)
said_tag table found (t.Stat tag fid) = known tag (table.fids fid) (λ (f : Target). r.Error tag not_served) (λ f. refl)
said_tag table found (t.Wstat tag fid stat) = known tag (table.fids fid) (λ (f : Target). r.Error tag not_served) (λ f. refl)

granted_tag : (table : Table) (m : Tmsg) (x : Reply) → r_tag (granted table m x) ≡ t_tag m
granted_tag table (t.Version tag msize version) x = refl
granted_tag table (t.Auth tag afid uname aname) x = refl
granted_tag table (t.Attach tag fid afid uname aname) x = refl
granted_tag table (t.Flush tag oldtag) x = refl
granted_tag table (t.Walk tag fid newfid names) x = refl
granted_tag table (t.Open tag fid mode) x = refl
granted_tag table (t.Create tag fid name perm mode) x = refl
granted_tag table (t.Read tag fid offset count) x = refl
granted_tag table (t.Write tag fid offset bytes) x = refl
granted_tag table (t.Clunk tag fid) x = refl
granted_tag table (t.Remove tag fid) x = refl
granted_tag table (t.Stat tag fid) x = refl
granted_tag table (t.Wstat tag fid stat) x = refl

pub replied_tag : (table : Table) (m : Tmsg) (x : Reply) → r_tag (replied table m x) ≡ t_tag m
replied_tag table m x = either (is_granting x) (granted table m x) (r.Error (t_tag m) (printed x)) (t_tag m) (granted_tag table m x) refl
