use Rattle.std.proofs.Common.{◌≡◌, Bool, false, List, Option, Some, None, length, ℕ, sym, ap, ◌∙◌, refl, arith, rules}
use Rattle.std.specs.Option.{MatchOption, IsSomeAnd}
use Rattle.layout.specs.Cells.{Rule, at}
use Rattle.layout.specs.Places.{barred, out_of_place}
use Rattle.layout.proofs.Places.{empty_cell, filled_cell}
use Rattle.maps.specs.Maps.{kinds_of}
use Rattle.cells.specs.Rows.{row_rule}
use Rattle.cells.proofs.Rules.{read_at}
use Rattle.cells.proofs.places.is_out_of_place.Goals as goal

-- a cell is out of place where its key, if it has one, is barred
judged : {R Key : Type 0} (K : Rule R Key) (cells : List (Option R)) (i : ℕ) (P : R → Key → Type 0) (Q : Key → Type 0)
    (o : Option R) (k : Option Key) (b : Bool) → at cells i ≡ o
    → ((r : R) (y : Key) → P r y → y ≡ K.order.key r) → ((y : Key) → Q y → b ≡ barred K cells y i)
    → MatchOption o (k ≡ None) (λ r. IsSomeAnd k (P r)) → MatchOption k (b ≡ false) Q → b ≡ out_of_place K cells i
judged K cells i P Q None None b e p q m s = s ∙ sym (empty_cell K cells i e)
judged K cells i P Q None (Some y) b e p q m s = absurd (let z : ◌≡◌ {A = ℕ} 0 1 = cc in omega arith)
judged K cells i P Q (Some r) None b e p q m s = absurd m
judged K cells i P Q (Some r) (Some y) b e p q m s = q y s ∙ ap (λ k. barred K cells k i) (p r y m) ∙ sym (filled_cell K cells i r e)

pub returns : goal.returns
returns g c =
    let R = row_rule (kinds_of g.K.Key.kind g.V.Value.kind) c.args.seed (length c.args.cells.now) in
    judged R c.args.cells.now c.args.i _ _ c.index-cells-i.result c.map-key.result c.is_some_and.result
    (read_at c.args.cells.now c.args.i c.index-cells-i.result c.index-cells-i.result c.requires.within c.index-cells-i.is refl)
    (λ r y p. search rules) (λ y q. search rules) c.map-key.ensures.cases c.is_some_and.ensures
