-- What a decoder's answer says of the bytes.
use Rattle.std.proofs.Common.{◌≡◌, ◌≢◌, ℕ, ◌<◌, ◌≤◌, ◌⊎◌, Bool, true, false, List, length, drop, Option, Some, None, Result, Ok, Err}
use Rattle.std.proofs.Common.{refl, sym, subst, ◌∙◌, arith, inl, inr}
use Rattle.std.specs.Prelude.{IfOk, IfErr, IsErrOf}
use Rattle.ninep_wire.specs.declared.fault.NinepError.{NinepError}
use Rattle.ninep_wire.specs.declared.fault.NinepError.TheVariants as error
use Rattle.net_base.specs.declared.ninep.Tmsg.{Tmsg}
use Rattle.net_base.specs.declared.ninep.Tmsg.TheVariants as t
use Rattle.net_base.specs.declared.ninep.Rmsg.{Rmsg}
use Rattle.net_base.specs.declared.ninep.Rmsg.TheVariants as r
use Rattle.net_base.specs.NinepFaults.{HasSize, size_field, tag_field, type_field}
use Rattle.net_base.specs.NinepMessages.{longest, t_bytes, t_names, IsTmsg, SpellsT, r_bytes, r_qids, IsRmsg, SpellsR}
use Rattle.ninep_wire.specs.Reading.{Gives}
use Rattle.net_base.specs.NinepReading.{all_of, t_at, t_of, r_at, r_of}
use Rattle.ninep_wire.proofs.Laws.{IsBytes, some_is}
use Rattle.ninep_wire.proofs.Whole.{t_found, t_only, r_found, r_only}

-- a fault is one of five
pub no_fault : (e : NinepError) → (e ≡ error.Short → ⊥) → (e ≡ error.Size → ⊥) → (e ≡ error.Memory → ⊥) → (e ≡ error.BadType → ⊥) → (e ≡ error.Field → ⊥) → ⊥
no_fault error.Memory short size memory bad_type field = memory refl
no_fault error.Short short size memory bad_type field = short refl
no_fault error.Size short size memory bad_type field = size refl
no_fault error.BadType short size memory bad_type field = bad_type refl
no_fault error.Field short size memory bad_type field = field refl

pub no_size : (bytes : List ℕ) → HasSize bytes → (size_field bytes ≢ length bytes) ⊎ (longest < length bytes) → ⊥
no_size bytes sized (inl other) = other sized.whole
no_size bytes sized (inr long) = absurd (omega (arith, long, sized.short))

pub none_some : {A : Type 0} (read : Option A) (m : A) → read ≡ None → read ≡ Some m → ⊥
none_some read m none some = cc

pub not_both : (b : Bool) → b ≡ true → b ≡ false → ⊥
not_both b holds fails = cc

-- ---- T-messages

-- what an answer tells of bytes with a good header and a type that is one
pub record TellsT (bytes : List ℕ) (r : Result Tmsg NinepError) : Type 0 where
  pub found : IfOk r (λ m. SpellsT m bytes)
  pub only : (m : Tmsg) → SpellsT m bytes → IfOk r (λ n. n ≡ m) × IfErr r (λ e. e ≡ error.Memory)
  pub again : IfOk r (λ m. (length (t_bytes m) ≤ longest) × (length (t_names m) < 17))
  pub field : IsErrOf r error.Field → (m : Tmsg) → SpellsT m bytes → ⊥

t_few : (m : Tmsg) → IsTmsg m → length (t_names m) < 17
t_few (t.Walk tag fid newfid names) fits = fits.1.1.0
t_few _ fits = omega arith

t_told : (bytes : List ℕ) (r : Result Tmsg NinepError) → IsBytes bytes → HasSize bytes → Gives (λ m. m) r (t_of bytes) → TellsT bytes r
t_told bytes (Ok m) fits sized given =
    let spells : SpellsT m bytes = t_found bytes m fits sized given in
    record {
      found = spells;
      only = λ n s. (some_is m n (sym given ∙ t_only n bytes s), tt);
      again = (subst (λ (x : List ℕ). length x ≤ longest) spells.spelled spells.short, t_few m spells.fields);
      field = λ e n s. absurd cc;
    }
t_told bytes (Err error.Memory) fits sized given = record { found = tt; only = λ n s. (tt, refl); again = tt; field = λ e n s. absurd cc }
t_told bytes (Err error.Field) fits sized given = record {
  found = tt;
  only = λ n s. absurd (none_some (t_of bytes) n given (t_only n bytes s));
  again = tt;
  field = λ e n s. none_some (t_of bytes) n given (t_only n bytes s);
}
t_told bytes (Err error.Short) fits sized given = absurd given
t_told bytes (Err error.Size) fits sized given = absurd given
t_told bytes (Err error.BadType) fits sized given = absurd given

-- .. where that header was read and its fields were
pub t_tells : (bytes fields : List ℕ) (kind tag : ℕ) (r : Result Tmsg NinepError) → IsBytes bytes → HasSize bytes
    → kind ≡ type_field bytes → tag ≡ tag_field bytes → fields ≡ drop 7 bytes → Gives (λ m. m) r (all_of (t_at kind tag) fields) → TellsT bytes r
t_tells bytes fields kind tag r fits sized kind_is tag_is fields_are given =
    let read : all_of (t_at kind tag) fields ≡ t_of bytes = rw (kind_is, tag_is, fields_are) refl in
    t_told bytes r fits sized (subst (Gives (λ m. m) r) read given)

-- ---- R-messages

-- what an answer tells of bytes with a good header and a type that is one
pub record TellsR (bytes : List ℕ) (r : Result Rmsg NinepError) : Type 0 where
  pub found : IfOk r (λ m. SpellsR m bytes)
  pub only : (m : Rmsg) → SpellsR m bytes → IfOk r (λ n. n ≡ m) × IfErr r (λ e. e ≡ error.Memory)
  pub again : IfOk r (λ m. (length (r_bytes m) ≤ longest) × (length (r_qids m) < 17))
  pub field : IsErrOf r error.Field → (m : Rmsg) → SpellsR m bytes → ⊥

r_few : (m : Rmsg) → IsRmsg m → length (r_qids m) < 17
r_few (r.Walk tag qids) fits = fits.0
r_few _ fits = omega arith

r_told : (bytes : List ℕ) (r : Result Rmsg NinepError) → IsBytes bytes → HasSize bytes → Gives (λ m. m) r (r_of bytes) → TellsR bytes r
r_told bytes (Ok m) fits sized given =
    let spells : SpellsR m bytes = r_found bytes m fits sized given in
    record {
      found = spells;
      only = λ n s. (some_is m n (sym given ∙ r_only n bytes s), tt);
      again = (subst (λ (x : List ℕ). length x ≤ longest) spells.spelled spells.short, r_few m spells.fields);
      field = λ e n s. absurd cc;
    }
r_told bytes (Err error.Memory) fits sized given = record { found = tt; only = λ n s. (tt, refl); again = tt; field = λ e n s. absurd cc }
r_told bytes (Err error.Field) fits sized given = record {
  found = tt;
  only = λ n s. absurd (none_some (r_of bytes) n given (r_only n bytes s));
  again = tt;
  field = λ e n s. none_some (r_of bytes) n given (r_only n bytes s);
}
r_told bytes (Err error.Short) fits sized given = absurd given
r_told bytes (Err error.Size) fits sized given = absurd given
r_told bytes (Err error.BadType) fits sized given = absurd given

-- .. where that header was read and its fields were
pub r_tells : (bytes fields : List ℕ) (kind tag : ℕ) (r : Result Rmsg NinepError) → IsBytes bytes → HasSize bytes
    → kind ≡ type_field bytes → tag ≡ tag_field bytes → fields ≡ drop 7 bytes → Gives (λ m. m) r (all_of (r_at kind tag) fields) → TellsR bytes r
r_tells bytes fields kind tag r fits sized kind_is tag_is fields_are given =
    let read : all_of (r_at kind tag) fields ≡ r_of bytes = rw (kind_is, tag_is, fields_are) refl in
    r_told bytes r fits sized (subst (Gives (λ m. m) r) read given)
