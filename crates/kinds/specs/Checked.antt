-- A thing whose making wants a test passed.
use Rattle.std.specs.Prelude.{◌≡◌, Bool, true, false, Some, None, Option, refl}

-- what is made where the test is passed, and nothing where it is not
abbrev pub checked : {A : Type 0} (test : Bool) → (test ≡ true → A) → Option A
checked true make = Some (make refl)
checked false make = None
