use Rattle.std.proofs.Common.{[], ◌∷◌, refl}
use Rattle.register.proofs.batch.rounds.keep_sheet.Goals as goal

pub returns-in-Err : goal.returns-in-Err
returns-in-Err g c = record { events = _ ∷ []; run = (c.in-Err.ensures, tt); ends = refl }

pub returns-in-Ok-seal : goal.returns-in-Ok-seal
returns-in-Ok-seal g c = record { events = _ ∷ (_ ∷ (_ ∷ [])); run = (c.in-Ok.ensures, (c.enter.ensures, (c.in-Ok-seal.ensures.step, tt))); ends = refl }

pub returns-in-Err-seal : goal.returns-in-Err-seal
returns-in-Err-seal g c = record {
  events = _ ∷ (_ ∷ (_ ∷ (_ ∷ [])));
  run = (c.in-Ok.ensures, (c.enter.ensures, (c.in-Err-seal.ensures.step, (c.abandon.ensures, tt))));
  ends = refl;
}
