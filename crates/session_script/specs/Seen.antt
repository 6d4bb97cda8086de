-- The table of the definitions, as the code keeps it.
use Rattle.std.specs.Prelude.{ℕ, Bool, true, false, List, Option, nat_eq}
use Rattle.indexmap.specs.IndexMap.{get}
use Rattle.net_base.specs.declared.ninep.Target.{Target}
use Rattle.net_base.specs.declared.ninep.Tmsg.{Tmsg}
use Rattle.net_base.specs.declared.ninep.Tmsg.TheVariants as t
use Rattle.net_base.specs.SessionTable.{Table as Known}
use Rattle.session_script.specs.declared.fids.Fids.{Fids}
use Rattle.session_script.specs.declared.table.Table.{Table}

-- what each fid stands for
abbrev pub fid_stands : Fids → ℕ → Option Target
fid_stands f n = get nat_eq f.entries n

abbrev pub seen_table : Table → Known
seen_table t = record { is_first = t.is_first; msize = t.msize; fids = fid_stands t.fids }

-- after it was opened
abbrev pub target_opened : Target → Target
target_opened f = record f { is_used = true }

-- the messages by which a fid may be known that wasn't
abbrev pub brings_fid : Tmsg → Bool
brings_fid (t.Attach tag fid afid uname aname) = true
brings_fid (t.Walk tag fid newfid names) = true
brings_fid _ = false

-- what is the same where a table takes memory and there is none
pub record KeptTable : Type 0 where
  pub is_first : Bool
  pub msize : ℕ
  pub fids : List (ℕ × Target)

abbrev pub table_kept : Table → KeptTable
table_kept t = record { is_first = t.is_first; msize = t.msize; fids = t.fids.entries.entries }
