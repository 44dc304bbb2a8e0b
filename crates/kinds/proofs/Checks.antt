-- What `checked` gives.
use Rattle.std.proofs.Common.{◌≡◌, ℕ, Bool, true, false, Some, None, refl, ap, arith}
use mathlib.Core.Bool.{Bool-set}
use Rattle.std.proofs.lemmas.Bool.{true≢false, false≢true}
use Rattle.kinds.specs.Checked.{checked}

module _ {A : Type 0} where
  pub checked_some : (test : Bool) (make : test ≡ true → A) (e : test ≡ true) → checked test make ≡ Some (make e)
  checked_some true make e = ap (λ p. Some (make p)) (Bool-set true true refl e)
  checked_some false make e = absurd (false≢true e)

  pub checked_none : (test : Bool) (make : test ≡ true → A) → test ≡ false → checked test make ≡ None
  checked_none true make e = absurd (true≢false e)
  checked_none false make e = refl

  pub checked_from : (test : Bool) (make : test ≡ true → A) (x : A) → checked test make ≡ Some x → (e : test ≡ true) × (make e ≡ x)
  checked_from true make x h = (refl, cc)
  checked_from false make x h = let z : ◌≡◌ {A = ℕ} 0 1 = cc in absurd (omega arith)
