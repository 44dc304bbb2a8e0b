use Rattle.std.proofs.Common.{◌≡◌, ℕ, ◌+◌, ◌≤◌, List, map, length, take, drop, replicate, Some, None, Ok, Err, Result, sym, refl, ap, ◌∙◌, rules}
use Rattle.std.proofs.lemmas.Bool.{cond-false}
use Rattle.text.specs.Keys.{key_from}
use Rattle.text.specs.Letters.{turned}
use Rattle.text.specs.Making.{first_bad, text_fault, Makes}
use Rattle.text.specs.Rows.{right_length}
use Rattle.text.specs.declared.fault.TextFault.{TextFault}
use Rattle.text.specs.declared.key.TextKey.{TextKey}
use Rattle.text.specs.declared.fault.TextFault.TheVariants.{Length, NotAllowed}
use Rattle.text.specs.KeysLemmas.{same_row}
use Rattle.text.proofs.Making.{bad_at, upper_front, in_range, made_text, made_kept, told_by, blind_by}
use Rattle.text.proofs.key.TextKey.new.Goals as goal

pub returns-then-not-is_length : goal.returns-then-not-is_length
returns-then-not-is_length c =
    let bs = c.args.bytes.now in
    let m : text_fault bs ≡ Some Length = cond-false (right_length (length bs)) _ _ (search rules) in
    record { made = m; told = told_by bs (Err Length) m; blind = blind_by bs (Err Length) m }

pub returns-in-Some : goal.returns-in-Some
returns-in-Some c =
    let bs = c.args.bytes.now in
    let i = c.in-Some.i in
    let m : text_fault bs ≡ Some (NotAllowed (i + 1)) = in_range bs (search rules) (search rules) ∙ bad_at bs (Some i) (sym c.in-Some.is ∙ c.first_not_allowed.ensures) in
    let r : Result TextKey TextFault = Err (NotAllowed (i + 1)) in
    record { made = m; told = told_by bs r m; blind = blind_by bs r m }

pub invariant_of-result : goal.invariant_of-result
invariant_of-result c =
    let bs = c.args.bytes.now in
    let some : 1 ≤ length bs = search rules in
    let few : length bs ≤ 24 = search rules in
    let none : first_bad 1 bs ≡ None = bad_at bs None (sym c.in_default.is ∙ c.first_not_allowed.ensures) in
    let zeros : List ℕ = replicate 24 0 in
    let turns : take (length bs) c.make_ascii_uppercase.new.self ≡ map turned bs =
    upper_front bs c.copy_from_slice.new.self (drop (length bs) zeros) c.make_ascii_uppercase.new.self c.copy_from_slice.ensures.after c.make_ascii_uppercase.ensures.after in
    record { kept = made_kept bs (take (length bs) c.make_ascii_uppercase.new.self) c.pack.result c.pack.ensures turns some few none }

pub returns : goal.returns
returns c =
    let bs = c.args.bytes.now in
    let row = c.pack.result in
    let some : 1 ≤ length bs = search rules in
    let few : length bs ≤ 24 = search rules in
    let none : first_bad 1 bs ≡ None = bad_at bs None (sym c.in_default.is ∙ c.first_not_allowed.ensures) in
    let zeros : List ℕ = replicate 24 0 in
    let text = take (length bs) c.make_ascii_uppercase.new.self in
    let turns : text ≡ map turned bs =
    upper_front bs c.copy_from_slice.new.self (drop (length bs) zeros) c.make_ascii_uppercase.new.self c.copy_from_slice.ensures.after c.make_ascii_uppercase.ensures.after in
    let k = key_from row (made_kept bs text row c.pack.ensures turns some few none) in
    let m : Makes bs (Ok k) = (in_range bs some few ∙ none, made_text bs text row c.pack.ensures turns some few none) in
    record { made = m; told = told_by bs (Ok k) m; blind = λ cs s e n. blind_by bs (Ok k) m cs s e n ∙ ap Ok (same_row _ _ refl) }
