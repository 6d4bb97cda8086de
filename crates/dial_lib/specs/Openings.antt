-- What an open gives by a reply that it can have.
use Rattle.std.proofs.Common.{◌≡◌, ℕ, ◌<◌, ◌==◌, Bool, true, false, not, ◌||◌, List, Option, Some, None, if◌then◌else◌, refl, rules, tests}
use Rattle.std.specs.List.{slice_split}
use Rattle.std.proofs.lemmas.Bool.{false≢true, not-true}
use Rattle.std.proofs.lemmas.Option.{none-some}
use Rattle.net_base.specs.declared.names.FileName.{FileName}
use Rattle.net_base.specs.declared.names.FileName.TheVariants as file
use Rattle.net_base.specs.declared.names.Mode.{Mode}
use Rattle.net_base.specs.declared.names.Node.{Node}
use Rattle.net_base.specs.declared.names.Node.TheVariants as node
use Rattle.net_base.specs.declared.address.Proto.{Proto}
use Rattle.net_base.specs.declared.reply.Reply.{Reply}
use Rattle.net_base.specs.declared.reply.Reply.TheVariants as reply
use Rattle.net_base.specs.Paths.{walk, node_of, checked_node, may_open, node_in_range}
use Rattle.net_base.specs.Steps.{Fid, is_accepted, opened_fid, openable, open_event}
use Rattle.script_task.specs.Fitting.{fits, fits_write, is_granted, is_opening, is_unopened, fits_reserve, fits_listen, fits_open}
use Rattle.dial_lib.specs.Names.{below}

-- a reply to what isn't open, or isn't so, is a refusal, and opens nothing
pub unopened_no : (r : Reply) → is_unopened r ≡ true → is_accepted r ≡ false
unopened_no reply.BadFid is = refl
unopened_no reply.BadMode is = refl
unopened_no r is = absurd (false≢true is)

pub unopened_shut : (r : Reply) → is_unopened r ≡ true → is_opening r ≡ false
unopened_shut reply.BadFid is = refl
unopened_shut reply.BadMode is = refl
unopened_shut r is = absurd (false≢true is)

-- a write is granted no pair, and its file is open
pub written_free : (r : Reply) → fits_write r ≡ true → (is_granted r ≡ false) × (is_unopened r ≡ false)
written_free r fit = by (is_granted r) (is_unopened r) fit
  where
    by : (a b : Bool) → not (a || b) ≡ true → (a ≡ false) × (b ≡ false)
    by true b is = absurd (false≢true is)
    by false true is = absurd (false≢true is)
    by false false is = (refl, refl)

-- a file of a slot that there is, opened so, or none
pub data Gave (m : Mode) (o : Option Fid) (r : Reply) : Type 0 where
  Opens : (made : Fid) → o ≡ Some made → made.mode ≡ m → made.slot < 32 → is_opening r ≡ true → Gave m o r
  Refuses : o ≡ None → is_opening r ≡ false → Gave m o r

gave_clone : (m : Mode) (p : Proto) (r : Reply) → fits_reserve r ≡ true → Gave m (opened_fid m (Some (node.Clone p)) r) r
gave_clone m p (reply.Slot n g) fit = Opens _ refl refl (below n fit) refl
gave_clone m p r fit = Refuses refl (not-true (is_opening r) fit)

gave_listen : (m : Mode) (p : Proto) (n : ℕ) (r : Reply) → fits_listen r ≡ true → Gave m (opened_fid m (Some (node.File p n file.Listen)) r) r
gave_listen m p n (reply.Call k g) fit = Opens _ refl refl (below k fit) refl
gave_listen m p n (reply.Opened g) fit = absurd (search (rules, fit))
gave_listen m p n r fit = Refuses refl (not-true (is_opening r) fit)

gave_file : (m : Mode) (p : Proto) (n : ℕ) (f : FileName) (r : Reply) → n < 32 → fits_open r ≡ true → Gave m (opened_fid m (Some (node.File p n f)) r) r
gave_file m p n f (reply.Opened g) lt fit = Opens _ refl refl lt refl
gave_file m p n f (reply.Call k g) lt fit = absurd (search (rules, fit))
gave_file m p n f r lt fit = Refuses refl (not-true (is_opening r) fit)

-- the node's slot is below 32, if it has one
abbrev pub Ranged : Option Node → Type 0
Ranged o = (n : Node) → o ≡ Some n → node_in_range n ≡ true

pub gave_open : (path : List ℕ) (m : Mode) (o : Option Node) (r : Reply) → Ranged o → fits (open_event path m o) r ≡ true → Gave m (opened_fid m o r) r
gave_open path m None r range fit = Refuses refl (not-true (is_opening r) fit)
gave_open path m (Some node.Root) r range fit = Refuses refl (not-true (is_opening r) fit)
gave_open path m (Some node.Cs) r range fit = Refuses refl (not-true (is_opening r) fit)
gave_open path m (Some (node.Proto p)) r range fit = Refuses refl (not-true (is_opening r) fit)
gave_open path m (Some (node.Dir p n)) r range fit = Refuses refl (not-true (is_opening r) fit)
gave_open path m (Some (node.Clone p)) r range fit = gave_clone m p r fit
gave_open path m (Some (node.File p n file.Listen)) r range fit = gave_listen m p n r fit
gave_open path m (Some (node.File p n file.Ctl)) r range fit = gave_file m p n file.Ctl r (below n (range _ refl)) fit
gave_open path m (Some (node.File p n file.Data)) r range fit = gave_file m p n file.Data r (below n (range _ refl)) fit
gave_open path m (Some (node.File p n file.Err)) r range fit = gave_file m p n file.Err r (below n (range _ refl)) fit
gave_open path m (Some (node.File p n file.Local)) r range fit = gave_file m p n file.Local r (below n (range _ refl)) fit
gave_open path m (Some (node.File p n file.Remote)) r range fit = gave_file m p n file.Remote r (below n (range _ refl)) fit
gave_open path m (Some (node.File p n file.Status)) r range fit = gave_file m p n file.Status r (below n (range _ refl)) fit

checked_range : (path : List ℕ) (o : Option Node) → Ranged (checked_node path o)
checked_range path None n is = absurd (none-some n is)
checked_range path (Some k) n is = each (node_in_range k) refl is
  where
    each : (b : Bool) → node_in_range k ≡ b → checked_node path (Some k) ≡ Some n → node_in_range n ≡ true
    each true so is = search (rules, tests, so, is)
    each false not_so is = absurd (search (rules, tests, not_so, is))

openable_range : (m : Mode) (o : Option Node) → Ranged o → Ranged (openable o m)
openable_range m None range n is = absurd (none-some n is)
openable_range m (Some k) range n is = each (may_open k m) is
  where
    each : (b : Bool) → (if b then Some k else None) ≡ Some n → node_in_range n ≡ true
    each true is = range n is
    each false is = absurd (none-some n is)

-- what a path is opened as has a slot below 32
pub path_range : (path : List ℕ) (m : Mode) → Ranged (openable (walk path) m)
path_range path m = openable_range m (walk path) (checked_range path (node_of (slice_split (λ b. b == 47) path)))
