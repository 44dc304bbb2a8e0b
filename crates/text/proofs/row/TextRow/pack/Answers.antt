use Rattle.std.proofs.Common.{◌≡◌, ℕ, List, ◌++◌, length, get_or, drop, replicate, ap, ◌∙◌, arith, length-append, length-drop}
use Rattle.text.proofs.Packing.{padded_at, packed_from}
use Rattle.text.proofs.row.TextRow.pack.Goals as goal

pub returns : goal.returns
returns c =
    let xs = c.args.text.now in
    let copied = c.copy_from_slice.ensures.after in
    let zeros : List ℕ = replicate 24 0 in
    let bytes = c.copy_from_slice.new.self ++ drop (length xs) zeros in
    let same : (i : ℕ) → get_or bytes i 0 ≡ get_or xs i 0 = λ i. padded_at c.copy_from_slice.new.self 24 (length xs) i ∙ ap (λ ys. get_or ys i 0) copied in
    let long : length bytes ≡ 24 = omega (arith, ap length copied, length-append c.copy_from_slice.new.self (drop (length xs) zeros), length-drop (length xs) zeros) in
    packed_from xs bytes same c.as_chunks.result.0.now long c.as_chunks.ensures.front _ _ _ c.from_be_bytes.ensures c.from_be_bytes-2.ensures c.from_be_bytes-3.ensures
