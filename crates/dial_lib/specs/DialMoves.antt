-- A dial goes on by each reply as its play does.
use Rattle.std.proofs.Common.{◌≡◌, ℕ, Bool, true, false, List, [], ◌∷◌, ◌++◌, Option, Some, None, codes, if◌then◌else◌, refl, ap, rules}
use Rattle.net_base.specs.declared.names.FileName.TheVariants as file
use Rattle.net_base.specs.declared.names.Mode.TheVariants as mode
use Rattle.net_base.specs.declared.names.Node.TheVariants as node
use Rattle.net_base.specs.declared.reply.Reply.{Reply}
use Rattle.net_base.specs.Paths.{walk}
use Rattle.net_base.specs.Steps.{Names, Fid, Play, Ends, fid_of, is_bound, bind, unbind, uses, asks_cs, closes_last, connected, dials, dotted_name, clone_path, line_address, opened_fid, openable, on_fid, is_accepted, reply_lines}
use Rattle.dial_lib.specs.declared.dial.DialPhase.{DialPhase}
use Rattle.dial_lib.specs.declared.dial.DialPhase.TheVariants as phase
use Rattle.dial_lib.specs.AnnounceLaws.{front_left, open_settle}
use Rattle.dial_lib.specs.BesideLaws.{opens_settle}
use Rattle.dial_lib.specs.DialAsks.{made_found, still_free}
use Rattle.dial_lib.specs.Dials.{Stands, IsFresh, IsOpen, IsOver, IsWrite, IsWait, IsRetry, IsData, IsClose, IsThrough, Free, HoldsCtl, asks_by, begins, opens_data, connecting, retrying, phase_after, dial_lines_after}
use Rattle.dial_lib.specs.Moves.{by_test, no_lines}
use Rattle.dial_lib.specs.Names.{apart_too}
use Rattle.dial_lib.specs.Openings.{unopened_no, Gave, Opens, Refuses, gave_open, path_range}
use Rattle.dial_lib.specs.Puts.{Put, Waits, Goes, put}
use Rattle.net_base.specs.declared.request.Request.{Request}
use Rattle.script_task.specs.Fitting.{is_opening}
use Rattle.net_base.specs.Requests.{settled, settles, bound_after}
use Rattle.script_task.specs.Task.{follow, fits_play}

unbind_front : (called : List ℕ) (base names : Names) (made : Fid) → HoldsCtl called base names made → unbind (dotted_name called) names ≡ base
unbind_front called base names made holds = front_left (dotted_name called) base names made holds.free.dotted holds.names_are

settle_fresh : (names : Names) (called dotted address : List ℕ) (r : Reply) (b c : Bool) → is_bound names called ≡ b → is_bound names dotted ≡ c → settled names (begins names called dotted address) r ≡ names
settle_fresh names called dotted address r true c is so = rw (is) refl
settle_fresh names called dotted address r false true is so = rw (is, so) refl
settle_fresh names called dotted address r false false is so = rw (is, so) refl

settle_data : (names : Names) (called dotted : List ℕ) (made : Fid) (r : Reply) → fid_of dotted names ≡ Some made
    → settled names (opens_data called dotted (fid_of dotted names)) r ≡ settled names (opens_data called dotted (Some made)) r
settle_data names called dotted made r is = ap (λ o. settled names (opens_data called dotted o) r) is

-- what a dial called so, to this address, is after each reply
module _ (h : ℕ) (called address : List ℕ) where
  move_fresh : (names : Names) (r : Reply) (b c : Bool) → is_bound names called ≡ b → is_bound names (dotted_name called) ≡ c
      → fits_play (if b then uses h called names else (if c then uses h (dotted_name called) names else asks_cs h address (dials h called names))) r ≡ true
      → Stands h called address names phase.Open (reply_lines r) (follow (if b then uses h called names else (if c then uses h (dotted_name called) names else asks_cs h address (dials h called names))) r)
  move_fresh names r true c is so fit = rw (no_lines r (unopened_no r fit)) IsOver
  move_fresh names r false true is so fit = rw (no_lines r (unopened_no r fit)) IsOver
  move_fresh names r false false is so fit = IsOpen (reply_lines r) (record { name = is; dotted = so })

  move_line : (names : Names) (line : List ℕ) (lines : List (List ℕ)) (free : Free called names) (o : Option Fid) (r : Reply) → Gave mode.Both o r
      → Stands h called address (bound_after (dotted_name called) names o) (if is_opening r then phase.Write else phase.Open) (if is_opening r then line ∷ lines else lines)
      (on_fid o (dials h called names lines) (λ (made : Fid). connecting h called names made line lines))
  move_line names line lines free o r (Opens made is both slot opening) = rw (is, opening) (IsWrite names made line lines (record { free = free; names_are = refl; both = both; slot = slot }))
  move_line names line lines free o r (Refuses is opening) = rw (is, opening) (IsOpen lines free)

  -- a connect is accepted, or isn't
  move_connect : (base names : Names) (made : Fid) (line : List ℕ) (lines : List (List ℕ)) → HoldsCtl called base names made → (b : Bool)
      → Stands h called address names (if b then phase.Data else phase.Retry) (line ∷ lines) (if b then connected h called base made else retrying h called base made lines)
  move_connect base names made line lines holds true = IsData base made (line ∷ lines) holds
  move_connect base names made line lines holds false = IsRetry base made line lines holds

  move_put : (base names : Names) (made : Fid) (line : List ℕ) (lines : List (List ℕ)) → HoldsCtl called base names made → (r : Reply) (p : Play)
      → Put h made r (retrying h called base made lines) (connected h called base made) p
      → Stands h called address names (phase_after phase.Write r) (line ∷ lines) p
  move_put base names made line lines holds r p (Waits granted is) = rw (granted, is) (IsWait base made line lines holds)
  move_put base names made line lines holds r p (Goes granted is) = rw (granted, is) (move_connect base names made line lines holds (is_accepted r))

  move_data : (base names : Names) (made : Fid) (lines : List (List ℕ)) → HoldsCtl called base names made → (o : Option Fid)
      → Stands h called address (bound_after called names o) phase.Close lines (on_fid o (closes_last h made base) (λ (data_file : Fid). closes_last h made (bind called data_file base)))
  move_data base names made lines holds None = IsClose base made lines (made_found called base names made holds) (unbind_front called base names made holds)
  move_data base names made lines holds (Some d) =
      IsClose (bind called d base) made lines (rw (apart_too called) (made_found called base names made holds)) (rw (apart_too called) (ap (λ xs. bind called d xs) (unbind_front called base names made holds)))

  pub dial_moves : (names : Names) (ph : DialPhase) (lines : List (List ℕ)) (p : Play) (q : Request) (r : Reply)
      → Stands h called address names ph lines p → asks_by ph called address lines names ≡ Some q → fits_play p r ≡ true
      → Stands h called address (settles names (asks_by ph called address lines names) r) (phase_after ph r) (dial_lines_after ph r lines) (follow p r)
  dial_moves names _ _ _ q r (IsFresh lines) asked fit =
      rw (settle_fresh names called (dotted_name called) address r _ _ refl refl) (move_fresh names r _ _ refl refl fit)
  dial_moves names _ _ _ q r (IsOpen [] free) asked fit = absurd (search (rules, asked))
  dial_moves names _ _ _ q r (IsOpen (line ∷ lines) free) asked fit =
      rw (open_settle names (dotted_name called) (clone_path line) r free.dotted)
      (move_line names line lines free (opened_fid mode.Both (openable (walk (clone_path line)) mode.Both) r) r
      (gave_open (clone_path line) mode.Both (openable (walk (clone_path line)) mode.Both) r (path_range (clone_path line) mode.Both) fit))
  dial_moves names _ _ _ q r IsOver asked fit = absurd (search (rules, asked))
  dial_moves names _ _ _ q r (IsWrite base made line lines holds) asked fit =
      move_put base names made line lines holds r _ (put h made made.file (codes "connect " ++ line_address line) r (retrying h called base made lines) (connected h called base made) fit)
  dial_moves names _ _ _ q r (IsWait base made line lines holds) asked fit = move_connect base names made line lines holds (is_accepted r)
  dial_moves names _ _ _ q r (IsRetry base made line lines holds) asked fit =
      rw (unbind_front called base names made holds)
      (by_test (λ b p. Stands h called address base (if b then phase.Open else phase.Through) lines p) (is_accepted r) (dials h called base lines) (Ends base) (IsOpen lines holds.free) (IsThrough lines))
  dial_moves names _ _ _ q r (IsData base made lines holds) asked fit =
      rw (settle_data names called (dotted_name called) made r (made_found called base names made holds))
      (rw (opens_settle names called made file.Data r (still_free called base names made holds) holds.slot refl)
      (move_data base names made lines holds (opened_fid mode.Both (Some (node.File made.proto made.slot file.Data)) r)))
  dial_moves names _ _ _ q r (IsClose base made lines is left) asked fit = rw (left) (IsThrough lines)
  dial_moves names _ _ _ q r (IsThrough lines) asked fit = absurd (search (rules, asked))
