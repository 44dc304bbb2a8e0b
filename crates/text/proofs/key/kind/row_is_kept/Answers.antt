use Rattle.std.proofs.Common.{◌-◌, take, drop, sym, ap, ap₂, ◌∙◌, rules}
use Rattle.std.proofs.lemmas.Bool.{and_left}
use Rattle.std.specs.List.{list_all}
use Rattle.text.specs.Letters.{keeps}
use Rattle.text.specs.Rows.{is_zero, right_length, row_kept}
use Rattle.text.specs.Packing.{rest_of, bytes_fail, zeros_tell}
use Rattle.text.proofs.key.kind.row_is_kept.Goals as goal

pub returns-then-not-is_length : goal.returns-then-not-is_length
unfolding row_kept
returns-then-not-is_length c = sym (and_left (right_length c.args.row.len) _ (search rules))

pub returns-else-keep_all : goal.returns-else-keep_all
returns-else-keep_all c =
    let r = c.args.row in
    let kept = ap₂ (λ n u. list_all keeps (take n u)) (sym c.from-n.ensures) (sym c.bytes-bytes.ensures) ∙ sym c.keep_all.ensures in
    c.if-keep_all.false ∙ bytes_fail keeps r (kept ∙ c.if-keep_all.false)

pub returns-then-keep_all : goal.returns-then-keep_all
returns-then-keep_all c =
    let r = c.args.row in
    let kept = ap₂ (λ n u. list_all keeps (take n u)) (sym c.from-n.ensures) (sym c.bytes-bytes.ensures) ∙ sym c.keep_all.ensures in
    let rest = ap (λ n. take (24 - n) (drop n c.bytes-bytes.result)) c.from-n.ensures ∙ rest_of r c.bytes-bytes.result c.bytes-bytes.ensures in
    c.all_zero.ensures ∙ ap (list_all is_zero) rest ∙ zeros_tell keeps r (search rules) (search rules) (search rules) (search rules) (search rules) (kept ∙ c.if-keep_all.true)
