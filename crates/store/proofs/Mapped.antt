-- A result whose fault was put in the place of another's.
use Rattle.std.proofs.Common.{◌≡◌, Ok, Err, Result, ap}
use Rattle.std.specs.Prelude.{MatchResult}
use Rattle.std.specs.Result.{IsErrAnd}

abbrev pub as_fault : {A E D : Type 0} → D → Result A E → Result A D
as_fault d (Ok a) = Ok a
as_fault d (Err e) = Err d

pub mapped : {A E D : Type 0} (d : D) (P : E → D → Type 0) (r : Result A E) (r' : Result A D) → ((e : E) (f : D) → P e f → f ≡ d)
    → MatchResult r (λ x. r' ≡ Ok x) (λ e. IsErrAnd r' (P e)) → r' ≡ as_fault d r
mapped d P (Ok x) r' h m = m
mapped d P (Err e) (Ok x) h m = absurd m
mapped d P (Err e) (Err f) h m = ap Err (h e f m)
