use Rattle.std.proofs.Common.{Some, sym, refl, ap, ◌∙◌}
use Rattle.kinds.proofs.Checks.{checked_some}
use Rattle.text.specs.Keys.{key_from}
use Rattle.text.specs.Letters.{keeps}
use Rattle.text.specs.Rows.{row_kept}
use Rattle.text.specs.KeysLemmas.{same_row}
use Rattle.text.proofs.key.kind.TextKeyKey.from_row.Goals as goal

pub returns-then-row_is_kept : goal.returns-then-row_is_kept
returns-then-row_is_kept c =
    let r = c.args.plain in
    ap Some (same_row _ _ refl) ∙ sym (checked_some (row_kept keeps r) (key_from r) (sym c.if-row_is_kept.ensures))
