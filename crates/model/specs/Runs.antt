-- Lists of calls.
use Rattle.std.specs.Prelude.{◌≡◌, List, [], ◌∷◌}
use Rattle.model.specs.Setups.{Setup}
use Rattle.model.specs.Steps.{Step}
use Rattle.model.specs.Worlds.{World, Event}

-- each call finds the world that the one before it left; its other lent pieces are any
abbrev pub Run : {K Row V : Type 0} → Setup K Row V → World Row V → List (Event Row V) → Type 0
Run x w [] = Unit {0}
Run x w (e ∷ es) = Step x w e × Run x e.after es

-- the world after the calls
abbrev pub last_world : {Row V : Type 0} → World Row V → List (Event Row V) → World Row V
last_world w [] = w
last_world w (e ∷ es) = last_world e.after es

-- a list of calls leads from one world to another
pub record Ran {K Row V : Type 0} (x : Setup K Row V) (w w' : World Row V) : Type 0 where
  pub events : List (Event Row V)
  pub run : Run x w events
  pub ends : last_world w events ≡ w'
