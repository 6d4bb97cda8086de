-- What isn't read at first isn't read at all.
use Rattle.std.proofs.Common.{◌≡◌, ℕ, List, [], ◌∷◌, refl, ap, sym, subst, Option, Some, None, Err}
use Rattle.std.specs.Prelude.{◌≢◌, option_map}
use Rattle.std.specs.Option.{option_and_then}
use Rattle.world_words.specs.declared.fault.LineFault.{LineFault}
use Rattle.world_words.specs.declared.fault.LineFault.TheVariants as fault
use Rattle.net_base.specs.declared.world.Step.{Step}
use Rattle.world_text.specs.declared.line.LineCause.TheVariants as cause
use Rattle.world_text.specs.LineReading.{step_read, whole_step}
use Rattle.world_words.specs.Told.{IsRefused, IsWrong, Tells}

pub wrong_first : {A B : Type 0} (e : LineFault) (f : A → Option B) (read : Option A) → IsWrong e read → IsWrong e (option_and_then f read)
wrong_first fault.Memory f read is = tt
wrong_first (fault.Cause c) f read is = (ap (option_and_then f) is.0, is.1)

pub wrong_later : {A B : Type 0} (e : LineFault) (f : A → Option B) (read : Option A) (x : A) → read ≡ Some x → IsWrong e (f x) → IsWrong e (option_and_then f read)
wrong_later e f read x e1 is = subst (λ (o : Option _). IsWrong e (option_and_then f o)) (sym e1) is

pub refused : {A : Type 0} (e : LineFault) (read : Option A) → IsWrong e read → IsRefused e (Some read)
refused fault.Memory read is = tt
refused (fault.Cause c) read is = is

pub refused_first : {A B : Type 0} (e : LineFault) (f : A → Option B) (read : Option A) → IsWrong e read → IsRefused e (Some (option_and_then f read))
refused_first e f read is = refused e (option_and_then f read) (wrong_first e f read is)

pub refused_later : {A B : Type 0} (e : LineFault) (f : A → Option B) (read : Option A) (x : A) → read ≡ Some x → IsRefused e (Some (f x)) → IsRefused e (Some (option_and_then f read))
refused_later e f read x e1 is = subst (λ (o : Option _). IsRefused e (Some (option_and_then f o))) (sym e1) is

-- .. nor is a line of which all is wanted
pub refused_whole : (e : LineFault) (read : Option (Option (Step × List (List ℕ)))) → IsRefused e read → IsRefused e (option_map whole_step read)
refused_whole fault.Memory read is = tt
refused_whole (fault.Cause c) None is = is
refused_whole (fault.Cause c) (Some read) is = (ap whole_step is.0, is.1)

abbrev read_with : Step → List (List ℕ) → Option (Option (Step × List (List ℕ)))
read_with s left = Some (Some (s, left))

-- a line of which words are left isn't read
pub refused_left : (e : LineFault) (read : Option (Option (Step × List (List ℕ)))) (s : Step) (left : List (List ℕ)) → read ≡ read_with s left → left ≢ []
    → e ≡ fault.Cause cause.WrongArgument → IsRefused e (option_map whole_step read)
refused_left e read s [] is some wrong = absurd (some refl)
refused_left e read s (word ∷ left) is some wrong =
    subst (λ (o : Option (Option (Step × List (List ℕ)))). IsRefused e (option_map whole_step o)) (sym is)
    (subst (λ (x : LineFault). IsRefused x (option_map whole_step (read_with s (word ∷ left)))) (sym wrong) (refl, refl))

pub tells_refused : (e : LineFault) (read : Option (Option Step)) → IsRefused e read → Tells (Err e) (step_read read)
tells_refused fault.Memory read is = tt
tells_refused (fault.Cause c) None is = ap Err (sym is)
tells_refused (fault.Cause c) (Some read) is =
    subst (λ (o : Option Step). step_read (Some o) ≡ Err c) (sym is.0) (ap Err (sym is.1))
