use Rattle.history_laws.proofs.Callers.{owed_is_fold, stands_still, stands_later, stamped}
use Rattle.history_laws.proofs.law.callers_are_apart.Goals as goal

pub returns : goal.returns
returns c =
    record {
      fold = λ w h caller. owed_is_fold w caller h;
      others = λ w h more caller none. stands_still w caller h more none;
      later = λ w h later caller front same. stands_later w caller h later front same;
      stamped = λ h caller. stamped h caller;
    }
