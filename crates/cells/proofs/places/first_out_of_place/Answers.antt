use Rattle.std.proofs.Common.{◌≡◌, true, false, length, sym, ap, ◌∙◌, rules}
use Rattle.std.proofs.lemmas.Iterator.{first_from_Range}
use Rattle.layout.specs.Places.{out_of_place}
use Rattle.maps.specs.Maps.{kinds_of}
use Rattle.cells.specs.Rows.{row_rule}
use Rattle.cells.proofs.Finding.{lowest_found}
use Rattle.cells.proofs.places.first_out_of_place.Goals as goal

pub returns : goal.returns
returns g c =
    let rows = c.args.cells.now in
    let t = out_of_place (row_rule (kinds_of g.K.Key.kind g.V.Value.kind) c.args.seed (length rows)) rows in
    lowest_found t (length rows) c.find.result (first_from_Range _ _ _ _ (λ i. t i ≡ true) (λ i. t i ≡ false) c.find.ensures.ran
    (λ i q k. let e : t k.shown.now ≡ true = search rules in ap t (sym k.shows) ∙ e)
    (λ i q k. (search rules, let e : t k.shown.now ≡ false = search rules in ap t (sym k.shows) ∙ e)))
