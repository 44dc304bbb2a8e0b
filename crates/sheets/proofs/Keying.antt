-- what the lengths are where all is well lent
use Rattle.std.proofs.Common.{◌≡◌, ℕ, ◌≤◌, true, ◌&&◌, eqb, leb}
use Rattle.std.proofs.lemmas.Bool.{and_parts, eqb-true, leb-true}
use Rattle.sheets.specs.Sheets.{well_lent}

pub lengths : (cells scratch sheet answers : ℕ) → well_lent cells scratch sheet answers ≡ true → (cells ≡ 1024) × (scratch ≡ 1024) × (sheet ≤ 64) × (sheet ≤ answers)
lengths cells scratch sheet answers e =
    let (a, f) = and_parts (eqb cells 1024) (eqb scratch 1024 && (leb sheet 64 && leb sheet answers)) e in
    let (b, h) = and_parts (eqb scratch 1024) (leb sheet 64 && leb sheet answers) f in
    let (c, d) = and_parts (leb sheet 64) (leb sheet answers) h in
    (eqb-true cells 1024 a, eqb-true scratch 1024 b, leb-true sheet 64 c, leb-true sheet answers d)
