-- For functions that make several calls: their steps make a run.
use Rattle.std.proofs.Common.{◌≡◌, List, [], ◌∷◌, ◌++◌, sym, refl, ap, ◌∙◌, subst}
use Rattle.model.specs.Runs.{Run, last_world, Ran}
use Rattle.model.specs.Setups.{Setup}
use Rattle.model.specs.Steps.{Step}
use Rattle.model.specs.Worlds.{World, Event}

pub run_append : {K Row V : Type 0} (x : Setup K Row V) (w : World Row V) (es fs : List (Event Row V)) → Run x w es → Run x (last_world w es) fs → Run x w (es ++ fs)
run_append x w [] fs r q = q
run_append x w (e ∷ es) fs r q = (r.0, run_append x e.after es fs r.1 q)

pub last_append : {Row V : Type 0} (w : World Row V) (es fs : List (Event Row V)) → last_world w (es ++ fs) ≡ last_world (last_world w es) fs
last_append w [] fs = refl
last_append w (e ∷ es) fs = last_append e.after es fs

module _ {K Row V : Type 0} (x : Setup K Row V) where
  -- no call
  pub ran_none : (w : World Row V) → Ran x w w
  ran_none w = record { events = []; run = tt; ends = refl }

  -- one call
  pub ran_step : (w : World Row V) (e : Event Row V) → Step x w e → Ran x w e.after
  ran_step w e h = record { events = e ∷ []; run = (h, tt); ends = refl }

  -- one run after another
  pub ran_then : (w w₁ w₂ : World Row V) → Ran x w w₁ → Ran x w₁ w₂ → Ran x w w₂
  ran_then w w₁ w₂ a b = record {
    events = a.events ++ b.events;
    run = run_append x w a.events b.events a.run (subst (λ (u : World Row V). Run x u b.events) (sym a.ends) b.run);
    ends = last_append w a.events b.events ∙ ap (λ (u : World Row V). last_world u b.events) a.ends ∙ b.ends;
  }
