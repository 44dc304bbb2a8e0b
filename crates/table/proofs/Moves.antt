-- parts of empty cells
use Rattle.std.proofs.Common.{◌≡◌, ℕ, ◌-◌, ◌≤◌, List, length, take, drop, replicate, None, Option, sym, ap, ◌∙◌}
use Rattle.std.proofs.lemmas.List.{drop-replicate, take-replicate, length-take-le}

pub empty_rest : {R : Type 0} (c : List (Option R)) (n k : ℕ) → c ≡ replicate (length c) None → length c ≡ n → drop k c ≡ replicate (n - k) None
empty_rest c n k e l = ap (drop k) e ∙ drop-replicate k (length c) None ∙ ap (λ (j : ℕ). replicate (j - k) None) l

pub empty_front : {R : Type 0} (c : List (Option R)) (k : ℕ) → c ≡ replicate (length c) None → k ≤ length c → take k c ≡ replicate (length (take k c)) None
empty_front c k e l = ap (take k) e ∙ take-replicate k (length c) None l ∙ ap (λ (j : ℕ). replicate j None) (sym (length-take-le k c l))
