-- The effect of a request settles the names as the request does.
use Rattle.std.proofs.Common.{◌≡◌, ◌∙◌, ℕ, Bool, true, false, not, List, [], ◌∷◌, Option, Some, None, bytes_eq, refl, ap, if◌then◌else◌, rules, tests}
use Rattle.net_base.specs.declared.names.Mode.{Mode}
use Rattle.net_base.specs.declared.names.Node.{Node}
use Rattle.net_base.specs.declared.reply.Reply.{Reply}
use Rattle.net_base.specs.Paths.{walk}
use Rattle.net_base.specs.Steps.{Bound, Names, Fid, fid_among, fid_of, is_bound, bind, unbind, without, openable, opened_fid}
use Rattle.script_task.specs.Holdings.{Holdings, holdings}
use Rattle.net_base.specs.declared.request.Request.{Request}
use Rattle.net_base.specs.declared.request.Request.TheVariants as request
use Rattle.script_task.specs.declared.effect.Effect.TheVariants.{Keeps}
use Rattle.script_task.specs.Effects.{effect_of, opens_as, closes_bound, opened_file, settles_effect}
use Rattle.net_base.specs.Requests.{settled, bound_after}

pub without_free : (called : List ℕ) (bound : List Bound) → fid_among called bound ≡ None → without called bound ≡ bound
without_free called [] free = refl
without_free called (b ∷ bs) free = by (bytes_eq called b.called) refl free (without_free called bs)
  where
    by : (t : Bool) → bytes_eq called b.called ≡ t → (if t then Some b.fid else fid_among called bs) ≡ None → (fid_among called bs ≡ None → without called bs ≡ bs)
        → (if not t then b ∷ without called bs else without called bs) ≡ b ∷ bs
    by true is free rest = absurd (search (rules, tests, free))
    by false is free rest = ap (λ (xs : List Bound). b ∷ xs) (rest free)

pub unbind_free : (called : List ℕ) (names : Names) → fid_of called names ≡ None → unbind called names ≡ names
unbind_free called names free = ap (λ (xs : List Bound). record names { bound = xs }) (without_free called names.bound free)

closed : (called : List ℕ) (b : Holdings) (o : Option Fid) (r : Reply) → fid_of called b.names ≡ o → (settles_effect (closes_bound called o) (opened_file (closes_bound called o) r) b).names ≡ unbind called b.names
closed called b None r is = by (unbind_free called b.names is)
  where
    by : unbind called b.names ≡ b.names → b.names ≡ unbind called b.names
    by same = search (rules, same)
closed called b (Some f) r is = refl

module _ (called : List ℕ) (m : Mode) (b : Holdings) (r : Reply) where
  bound : (t : Bool) (f : Fid) → is_bound b.names called ≡ t → (if t then b else holdings (bind called f b.names) None).names ≡ (if t then b.names else bind called f b.names)
  bound true f is = refl
  bound false f is = refl

  opens : (n : Option Node) (t : Bool) → is_bound b.names called ≡ t → t ≡ false → (settles_effect (opens_as called m n) (opened_file (opens_as called m n) r) b).names ≡ bound_after called b.names (opened_fid m n r)
  opens None t is free = refl
  opens (Some n) t is free = by (opened_fid m (Some n) r)
    where
      by : (o : Option Fid) → (settles_effect (opens_as called m (Some n)) o b).names ≡ bound_after called b.names o
      by None = refl
      by (Some f) = rw (is ∙ free) refl

  opened_so : (n : Option Node) (t : Bool) → is_bound b.names called ≡ t
      → (settles_effect (if t then Keeps else opens_as called m n) (opened_file (if t then Keeps else opens_as called m n) r) b).names ≡ (if t then b.names else bound_after called b.names (opened_fid m n r))
  opened_so n true is = refl
  opened_so n false is = opens n false is refl

pub settles_so : (b : Holdings) (q : Request) (r : Reply) → (settles_effect (effect_of b.names q) (opened_file (effect_of b.names q) r) b).names ≡ settled b.names q r
settles_so b (request.Open called path m) r = opened_so called m b r (openable (walk path) m) (is_bound b.names called) refl
settles_so b (request.Close called) r = closed called b (fid_of called b.names) r refl
settles_so b _ r = refl
