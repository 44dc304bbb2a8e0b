use Rattle.std.proofs.Common.{sym, ◌∙◌}
use Rattle.std.proofs.lemmas.Bool.{both_ways}
use Rattle.sheets.proofs.sheet.check.Goals as goal

pub returns-then-not-is_layout : goal.returns-then-not-is_layout
returns-then-not-is_layout g c =
    (sym c.all_rows_keyed.ensures ∙ c.if-not-all_rows_keyed.false, sym c.is_well_lent.ensures ∙ c.if-not-is_well_lent.false, λ t. both_ways c.is_layout.result c.if-not-is_layout.true (c.is_layout.ensures.1 t))

pub returns : goal.returns
returns g c =
    (sym c.all_rows_keyed.ensures ∙ c.if-not-all_rows_keyed.false, sym c.is_well_lent.ensures ∙ c.if-not-is_well_lent.false, c.is_layout.ensures.0 c.if-not-is_layout.false)
