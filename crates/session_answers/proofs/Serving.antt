-- A message is served: it is told an answer, or its step is played.
use Rattle.std.proofs.Common.{◌≡◌, ℕ, Bool, true, false, List, Option, Some, None, option_map, cond, ◌∙◌, ap, subst}
use Rattle.std.specs.Option.{option_and_then}
use Rattle.net_base.specs.declared.names.Mode.{Mode}
use Rattle.net_base.specs.declared.world.Step.{Step}
use Rattle.net_base.specs.declared.world.Step.TheVariants as step
use Rattle.net_base.specs.Steps.{Names}
use Rattle.net_base.specs.declared.ninep.Tmsg.{Tmsg}
use Rattle.net_base.specs.declared.ninep.Tmsg.TheVariants as t
use Rattle.net_base.specs.SessionAnswers.{Found}
use Rattle.net_base.specs.SessionFiles.{access, is_cs, is_plain}
use Rattle.net_base.specs.SessionScript.{close_step, cs_step, fid_name, gives_nothing, is_query, open_step, opening_step, read_count, read_step, reading_step, room, message_step, write_step}
use Rattle.net_base.specs.Session.{State}
use Rattle.net_base.specs.declared.ninep.Target.{Target}
use Rattle.net_base.specs.SessionTable.{Table, used}
use Rattle.session_answers.specs.Served.{IsServed}

-- ---- the steps of sessions are of a few kinds

abbrev Serves : Option Step → Type 0
Serves None = Unit {0}
Serves (Some s) = IsServed s

either : (v : Bool) (x y : Option Step) → Serves x → Serves y → Serves (cond v x y)
either true x y a b = a
either false x y a b = b

known : (o : Option Target) (g : Target → Option Step) → ((f : Target) → Serves (g f)) → Serves (option_and_then g o)
known None g each = tt
known (Some f) g each = each f

open_serves : (fid mode : ℕ) (f : Target) → Serves (open_step fid mode f)
open_serves fid mode f = either (is_plain f.node) (option_map (opening_step fid f.node) (access mode)) None (by (access mode)) tt
  where
    by : (o : Option Mode) → Serves (option_map (opening_step fid f.node) o)
    by None = tt
    by (Some m) = tt

read_serves : (table : Table) (fid offset count : ℕ) (f : Target) → Serves (read_step table fid offset count f)
read_serves table fid offset count f =
    either (gives_nothing f.node offset count) None (option_map (reading_step fid) (read_count offset (room table count) f.node)) tt (by (read_count offset (room table count) f.node))
  where
    by : (o : Option ℕ) → Serves (option_map (reading_step fid) o)
    by None = tt
    by (Some n) = tt

write_serves : (fid : ℕ) (bytes : List ℕ) (f : Target) → Serves (write_step fid bytes f)
write_serves fid bytes f =
    either (is_cs f.node) (cs_step bytes) (Some (step.Writex (fid_name fid) bytes)) (either (is_query bytes) (Some (step.Cs bytes)) None tt tt) tt

close_serves : (fid : ℕ) (f : Target) → Serves (close_step fid f)
close_serves fid f = either (is_plain f.node) (Some (step.Close (fid_name fid))) None tt tt

all_serve : (table : Table) (m : Tmsg) → Serves (message_step table m)
all_serve table (t.Version tag msize version) = tt
all_serve table (t.Auth tag afid uname aname) = tt
all_serve table (t.Attach tag fid afid uname aname) = tt
all_serve table (t.Flush tag oldtag) = tt
all_serve table (t.Walk tag fid newfid names) = tt
all_serve table (t.Open tag fid mode) = known (table.fids fid) (open_step fid mode) (open_serves fid mode)
all_serve table (t.Create tag fid name perm mode) = tt
all_serve table (t.Read tag fid offset count) = known (used table fid) (read_step table fid offset count) (read_serves table fid offset count)
all_serve table (t.Write tag fid offset bytes) = known (used table fid) (write_step fid bytes) (write_serves fid bytes)
all_serve table (t.Clunk tag fid) = known (used table fid) (close_step fid) (close_serves fid)
all_serve table (t.Remove tag fid) = known (used table fid) (close_step fid) (close_serves fid)
all_serve table (t.Stat tag fid) = tt
all_serve table (t.Wstat tag fid stat) = tt

pub step_served : (table : Table) (m : Tmsg) (s : Step) → message_step table m ≡ Some s → IsServed s
step_served table m s is = subst Serves is (all_serve table m)

-- ---- states

-- a state of these parts
abbrev pub known_so : Table → Found → Names → State
known_so table found names = record { table = table; found = found; names = names }

pub same_state : (table old : Table) (found was : Found) (names before : Names) → table ≡ old → found ≡ was → names ≡ before → known_so table found names ≡ known_so old was before
same_state table old found was names before a b c =
    ap (λ (x : Table). known_so x found names) a ∙ ap (λ (x : Found). known_so old x names) b ∙ ap (λ (x : Names). known_so old was x) c

-- ---- answers
